-- The loop of a pass.
use Rattle.std.proofs.Common.{◌≡◌, ◌≢◌, ◌⊎◌, ◌*◌, ℕ, ◌+◌, ◌-◌, ◌≤◌, ◌<◌, ◌∙◌, true, false, List, length, drop, slice_index_or, None, Some, is_some, refl, ap, sym, subst, arith, Option, Bool, ◌||◌, if◌then◌else◌, slice_get, eq-eqb, eqb-true}
use Rattle.dstm_core.specs.declared.event.Kind.TheVariants.{Check, LookSelf, Commit}
use Rattle.dstm_core.specs.Rules.{is_outside, May}
use Rattle.dstm_core.specs.Runs.{local}
use Rattle.dstm_core.specs.State.{LocalState, next_read, or_read, res}
use Rattle.dstm_machines.specs.Traces.Access.{Load}
use Rattle.dstm_core.proofs.Columns.{own_in}
use Rattle.dstm_core.proofs.Static.{static}
use Rattle.dstm_core.specs.declared.shape.Shape.{Shape}
use Rattle.dstm_core.specs.declared.state.Phase.TheVariants.{Outside, Running, Drawn}
use Rattle.dstm_core.proofs.Ranges.{in_range}
use Rattle.dstm_model.specs.declared.value.Val.{Val}
use Rattle.dstm_words.specs.Seats.{Home, view_of}
use Rattle.dstm_order.specs.declared.again.Again.{Again}
use Rattle.dstm_order.specs.declared.again.Again.TheVariants.{Stale}
use Rattle.dstm_order.specs.Calls.{quit_cause}
use Rattle.dstm_order.specs.Efforts.{Effort}
use Rattle.dstm_order.specs.declared.TheConstants.{MAX_MISSED}
use Rattle.dstm_order.specs.Order.{Due, in_pass, in_checking, is_same, just}
use Rattle.dstm_steps.specs.declared.slots.ReadSlot.{ReadSlot}
use Rattle.dstm_steps.specs.declared.steps.Steps.{Steps}
use Rattle.std.proofs.lemmas.List.{drop_all}
use Rattle.dstm_steps.proofs.Kept.{no_slot, slot_next, slot_skip, none_left}
use Rattle.dstm_steps.specs.Reads.{kept, words_of}
use Rattle.dstm_steps.specs.Under.{Began, InTask, Under, now, made_by}
use Rattle.dstm_order.specs.Tasks.{Task}
use Rattle.dstm_steps.proofs.Stepping.{here}

-- a pass that began in a state, and whose reads are being checked
pub record Checking {L : Type 0} (holds : L → List Val → Type 0) (home : Home L) (b : Began) (next : LocalState → Due)
    (start : LocalState) (steps : Steps L) (slots : List ReadSlot) : Type 0 where
  pub under : Under holds home b steps (next (now home steps)) None
  pub state : now home steps ≡ record start { checked = (now home steps).checked }
  pub same : kept slots ≡ words_of (drop (now home steps).checked start.reads)
  pub within : (now home steps).checked ≤ length start.reads
  pub tries : steps.missed < MAX_MISSED

module _ {L : Type 0} {holds : L → List Val → Type 0} {home : Home L} {b : Began} {task : Task} {steps : Steps L}
    {d : Due} {a : Option Again} (u : InTask holds home task b steps d a) where
  -- the read that is checked next is of an object of the shape
  pub next_in_shape :
      (((now home steps).phase ≡ Running) × (is_some (now home steps).pass ≡ true)) ⊎ ((now home steps).phase ≡ Drawn) →
      (now home steps).stale ≡ false → (now home steps).checked < length (now home steps).reads →
      (next_read (now home steps)).object < steps.shape.objects
  next_in_shape p r n = rw u.shape
      (subst (λ (l : LocalState). (next_read l).object < home.terms.shape.objects) (sym (here u))
      (in_range home.terms.shape (view_of steps.seat).log b.number (made_by b Load Check 0 0) Check u.run.run.core u.caller
      (λ q. absurd (cc)) (subst (λ l. May Check home.terms.shape l (made_by b Load Check 0 0)) (here u) (p, r, n))))

  -- the own attempt is one of the shape's
  pub own_in_shape : (now home steps).phase ≢ Outside → steps.own < steps.shape.callers * steps.shape.attempts
  own_in_shape live =
      let s : Shape = home.terms.shape in
      let l : LocalState = local s (view_of steps.seat).log b.number in
      rw (u.shape, u.mirror.own, here u) (own_in s b.number l (static s (view_of steps.seat).log u.run.run.core b.number)
      u.caller (subst (λ (l : LocalState). l.phase ≢ Outside) (here u) live))

  -- as a step needs it
  pub own_below : is_outside (now home steps).phase ≡ false → steps.own < steps.shape.callers * steps.shape.attempts
  own_below live = own_in_shape (λ q. let out : is_outside (now home steps).phase ≡ true = ap is_outside q in cc)

module _ {L : Type 0} {holds : L → List Val → Type 0} {home : Home L} {b : Began} {next : LocalState → Due}
    {start : LocalState} {steps : Steps L} (slots : List ReadSlot) (i : ℕ)
    (c : Checking holds home b next start steps (drop i slots)) where
  -- one read was checked, and it is good
  pub checked_one : {new : Steps L} → i < length slots → (slice_index_or slots i no_slot).kept ≡ true →
      Under holds home b new (next (now home new)) None →
      now home new ≡ record (now home steps) { checked = (now home steps).checked + 1 } →
      new.missed < MAX_MISSED → Checking holds home b next start new (drop (i + 1) slots)
  checked_one {new = new} h is u state tries =
      let n = slot_next slots start.reads i (now home steps).checked c.same h is in
      let checked : (now home new).checked ≡ (now home steps).checked + 1 =
      ap (λ (l : LocalState). l.checked) state in record {
        under = u;
        state = state ∙ ap (λ (l : LocalState). record l { checked = (now home steps).checked + 1 }) c.state
            ∙ ap (λ n. record start { checked = n }) (sym checked);
        same = rw checked (sym n.later);
        within = rw checked (let left = n.left in omega arith);
        tries = tries;
      }

  -- a slot that is not kept is not checked
  pub checked_none : i < length slots → (slice_index_or slots i no_slot).kept ≡ false →
      Checking holds home b next start steps (drop (i + 1) slots)
  checked_none h is = record {
    under = c.under;
    state = c.state;
    same = slot_skip slots start.reads i (now home steps).checked c.same h is;
    within = c.within;
    tries = c.tries;
  }

  -- where no slot is left every read is checked
  pub checked_all : length slots ≤ i → (now home steps).checked ≡ length (now home steps).reads
  checked_all h =
      let all : (now home steps).checked ≡ length start.reads =
      none_left start.reads (now home steps).checked (sym c.same ∙ ap kept (drop_all i slots h)) c.within in
      all ∙ ap length (sym (ap (λ (l : LocalState). l.reads) c.state))

  -- the slot that is next is the read that is
  pub next_is : i < length slots → (slice_index_or slots i no_slot).kept ≡ true →
      ((next_read (now home steps)).object ≡ (slice_index_or slots i no_slot).object)
      × ((next_read (now home steps)).word ≡ (slice_index_or slots i no_slot).word)
  next_is h is =
      let n = slot_next slots start.reads i (now home steps).checked c.same h is in
      let reads : (now home steps).reads ≡ start.reads = ap (λ (l : LocalState). l.reads) c.state in
      (rw reads n.object, rw reads n.word)

-- what is due once every read is checked
pub pass_done : (l : LocalState) → l.checked ≡ length l.reads → in_pass l ≡ just LookSelf
pass_done l h = rw (eq-eqb l.checked (length l.reads) h) refl

pub checking_done : (l : LocalState) → l.checked ≡ length l.reads → in_checking l ≡ just Commit
checking_done l h = rw (eq-eqb l.checked (length l.reads) h) refl

-- the read checked last after the Draw is the one that is stale
pub quit_drawn : (l : LocalState) (c : Effort) → l.stale ≡ true → is_some l.drawn ≡ true →
    quit_cause l c ≡ Stale (or_read (slice_get l.reads (l.checked - 1))).object
quit_drawn l c stale drawn = rw (stale, drawn) (go (is_some l.pass))
  where
    go : (p : Bool) →
        Stale (if p || true then (or_read (slice_get l.reads (l.checked - 1))).object else (res l).object)
        ≡ Stale (or_read (slice_get l.reads (l.checked - 1))).object
    go true = refl
    go false = refl

-- two numbers that are the same
pub same_is : (a b : Option ℕ) → is_same a b ≡ true → a ≡ b
same_is (Some n) (Some m) h = ap Some (eqb-true n m h)
same_is (Some n) None h = absurd (cc)
same_is None (Some m) h = absurd (cc)
same_is None None h = absurd (cc)
