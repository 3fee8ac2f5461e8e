-- One step more of a caller is counted as what it counts says.
use Rattle.std.proofs.Common.{◌≡◌, ◌≢◌, ◌⊎◌, ℕ, ◌+◌, ◌∙◌, List, [], ◌∷◌, ◌==◌, Bool, true, false, Some, None, refl, sym, ap, subst, arith, inl, inr, ne_eqb}
use Rattle.std.proofs.lemmas.Bool.{cases_Bool, eq-eqb, eqb-true}
use Rattle.std.specs.Prelude.{Option, IsSome, Result, Ok, Err, MatchResult, cond, is_ok, ◌&&◌, if◌then◌else◌}
use Rattle.std.proofs.lemmas.List.Sums.{sum_by-cons}
use Rattle.dstm_core.specs.Counts.{draw_count, is_begin}
use Rattle.atomic_table.specs.declared.shared.Seat.{Seat}
use Rattle.dstm_core.specs.Events.{Event}
use Rattle.dstm_core.specs.declared.event.Kind.{Kind}
use Rattle.dstm_core.specs.declared.event.Kind.TheVariants.{Begin, Draw, Kill, LookStatus}
use Rattle.dstm_core.specs.Histories.{is_draw}
use Rattle.dstm_core.specs.declared.shape.Shape.{Shape}
use Rattle.dstm_core.specs.Rules.{after}
use Rattle.dstm_core.specs.Runs.{core, local}
use Rattle.dstm_core.specs.State.{LocalState}
use Rattle.dstm_core.specs.Traces.{Access, events_of}
use Rattle.dstm_core.proofs.Begun.{begun_how}
use Rattle.dstm_core.proofs.Static.{begun_step}
use Rattle.dstm_machines.proofs.Runs.{local-events_of}
use Rattle.dstm_model.specs.declared.value.Val.{Val}
use Rattle.dstm_order.specs.Counts.{Counts as Counted, counted, counts_after, counts_of, is_kill, no_counts, one_if}
use Rattle.dstm_order.specs.Efforts.{is_turn}
use Rattle.dstm_words.specs.Seats.{View, ActsBy, Home, caller_state, found_in, view_of, IsOf, made, Makes, events_by, number_or, own_events, state_by}
use Rattle.dstm_machines.specs.Traces.Access.{Load, Add}
use Rattle.dstm_steps.specs.declared.counting.CallerSeat.TheInside.{Inside}
use Rattle.dstm_steps.specs.Under.{is_exchange}
use Rattle.dstm_steps.specs.Counting.{counts_by, counts_in, draws_by, tally_of, Counts, IsUnbegun}
use Rattle.dstm_steps.specs.Ticks.{kills, stands, ticked, ticked_on}

-- a caller's counts are made by its own events
counts_own : (s : Shape) (log : List Event) (c : ℕ) → counts_of s (events_of c log) c ≡ counts_of s log c
counts_own s [] c = refl
counts_own s (e ∷ es) c = go (cases_Bool (e.caller == c)) (counts_own s es c)
  where
    go : (e.caller == c ≡ true) ⊎ (e.caller == c ≡ false) → counts_of s (events_of c es) c ≡ counts_of s es c →
        counts_of s (events_of c (e ∷ es)) c ≡ counts_of s (e ∷ es) c
    go (inl q) ih =
        rw (q, q) (ap (λ l. counts_after e.kind l (counts_of s (events_of c es) c) e) (local-events_of core s es c)
        ∙ ap (λ n. counts_after e.kind (local s es c) n e) ih)
    go (inr q) ih = rw q ih

stays : (s : Shape) (l : LocalState) (e : Event) (k : Kind) → is_begin k ≡ false → (after k s l e).begun ≡ l.begun
stays s l e k other = by (begun_how s l e k)
  where
    by : ((k ≡ Begin) × ((after k s l e).begun ≡ l.begun + 1)) ⊎ ((k ≢ Begin) × ((after k s l e).begun ≡ l.begun)) →
        (after k s l e).begun ≡ l.begun
    by (inl x) = let is = ap is_begin x.0 in absurd (cc)
    by (inr x) = x.1

-- a caller counts steps exactly where it has begun an attempt
abbrev Counts_begun : Counted → ℕ → Type 0
Counts_begun counts begun = (counts.steps == 0) ≡ (begun == 0)

one_more : (k : Kind) (l : LocalState) (n : Counted) (e : Event) (b : ℕ) → b ≡ l.begun → Counts_begun n l.begun →
    Counts_begun (if l.begun == 0 then n else counted k l n e) b
one_more k l n e b same h = go (cases_Bool (l.begun == 0))
  where
    go : (l.begun == 0 ≡ true) ⊎ (l.begun == 0 ≡ false) →
        Counts_begun (if l.begun == 0 then n else counted k l n e) b
    go (inl q) = rw (same, q) (h ∙ q)
    go (inr q) = rw (same, q) (ne_eqb (n.steps + 1) 0 (λ z. omega arith))

counts_step : (k : Kind) (s : Shape) (l : LocalState) (n : Counted) (e : Event) → Counts_begun n l.begun →
    Counts_begun (counts_after k l n e) (after k s l e).begun
counts_step Begin s l n e h = sym (ne_eqb (l.begun + 1) 0 (λ z. omega arith))
counts_step k s l n e h = one_more k l n e (after k s l e).begun (stays s l e k refl) h

counts_begun : (s : Shape) (log : List Event) (c : ℕ) → Counts_begun (counts_of s log c) (local s log c).begun
counts_begun s [] c = refl
counts_begun s (e ∷ es) c = go (cases_Bool (e.caller == c)) (counts_begun s es c)
  where
    go : (e.caller == c ≡ true) ⊎ (e.caller == c ≡ false) → Counts_begun (counts_of s es c) (local s es c).begun →
        Counts_begun (counts_of s (e ∷ es) c) (local s (e ∷ es) c).begun
    go (inl q) ih = rw q (counts_step e.kind s (local s es c) (counts_of s es c) e ih)
    go (inr q) ih = rw q ih

-- before it has begun one it counts nothing
none_before : (k : Kind) (s : Shape) (l : LocalState) (n : Counted) (e : Event) → (after k s l e).begun ≡ 0 →
    n ≡ no_counts → counts_after k l n e ≡ no_counts
none_before Begin s l n e z q = absurd (omega arith)
none_before k s l n e z q = rw (eq-eqb l.begun 0 (sym (stays s l e k refl) ∙ z)) q

unbegun_none : (s : Shape) (log : List Event) (c : ℕ) → (local s log c).begun ≡ 0 → counts_of s log c ≡ no_counts
unbegun_none s [] c z = refl
unbegun_none s (e ∷ es) c z = go (cases_Bool (e.caller == c)) (unbegun_none s es c)
  where
    go : (e.caller == c ≡ true) ⊎ (e.caller == c ≡ false) →
        ((local s es c).begun ≡ 0 → counts_of s es c ≡ no_counts) → counts_of s (e ∷ es) c ≡ no_counts
    go (inl q) ih =
        let here : (after e.kind s (local s es c) e).begun ≡ 0 = rw q at z in
        let rises = begun_step s (local s es c) e e.kind in
        rw q (none_before e.kind s (local s es c) (counts_of s es c) e here (ih (omega arith)))
    go (inr q) ih = rw q (ih (rw q at z))

-- a count that stands at the greatest number is none where it is none, and one more of it stands there too
stands_none : (n : ℕ) → (stands n == 0) ≡ (n == 0)
stands_none n = go (cases_Bool (n == 0))
  where
    go : (n == 0 ≡ true) ⊎ (n == 0 ≡ false) → (stands n == 0) ≡ (n == 0)
    go (inl q) = rw (eqb-true n 0 q) refl
    go (inr q) =
        ne_eqb (stands n) 0 (λ z. let none : n ≡ 0 = omega arith in let is = eq-eqb n 0 none in absurd (cc)) ∙ sym q

stands_more : (n m : ℕ) → stands (stands n + m) ≡ stands (n + m)
stands_more n m = omega arith

-- the counts with one step more, where an attempt has begun
abbrev one_on : (turn kills : Bool) → Counted → (begun : ℕ) → Counted
one_on turn kills n begun =
    if begun == 0 then n else record {
      steps = n.steps + 1;
      turns = n.turns + one_if turn;
      kills = n.kills + one_if kills;
    }

ticked_on_is : (turn kills : Bool) (n : Counted) (begun : ℕ) → Counts_begun n begun →
    ticked_on turn kills (tally_of n) ≡ tally_of (one_on turn kills n begun)
ticked_on_is turn kills n begun h = go (cases_Bool (begun == 0))
  where
    go : (begun == 0 ≡ true) ⊎ (begun == 0 ≡ false) →
        ticked_on turn kills (tally_of n) ≡ tally_of (one_on turn kills n begun)
    go (inl q) = rw (stands_none n.steps ∙ h ∙ q, q) refl
    go (inr q) =
        rw (
          stands_none n.steps ∙ h ∙ q,
          q,
          stands_more n.steps 1,
          stands_more n.turns (one_if turn),
          stands_more n.kills (one_if kills),
        ) refl

ticked_is : (k : Kind) (l : LocalState) (n : Counted) (e : Event) → Counts_begun n l.begun →
    ticked k (is_turn k l) (is_kill k e) (tally_of n) ≡ tally_of (counts_after k l n e)
ticked_is Begin l n e h = refl
ticked_is k l n e h = ticked_on_is (is_turn k l) (is_kill k e) n l.begun h

-- a load, an add and an exchange: which of them is a turn or a Kill
pub load_kills : (k : Kind) (s : Shape) (l : LocalState) (e : Event) → ActsBy k Load → false ≡ is_kill k e
load_kills Kill s l e acts = let way = acts s l e in absurd (cc)
load_kills k s l e acts = refl

pub add_kills : (k : Kind) (s : Shape) (l : LocalState) (e : Event) → ActsBy k Add → false ≡ is_kill k e
add_kills Kill s l e acts = let way = acts s l e in absurd (cc)
add_kills k s l e acts = refl

pub add_turns : (k : Kind) (s : Shape) (l : LocalState) (e : Event) → ActsBy k Add → false ≡ is_turn k l
add_turns LookStatus s l e acts = let way = acts s l e in absurd (cc)
add_turns k s l e acts = refl

pub exchange_turns : (k : Kind) (l : LocalState) → is_exchange k ≡ true → false ≡ is_turn k l
exchange_turns LookStatus l x = absurd (cc)
exchange_turns k l x = refl

pub exchange_kills : (k : Kind) (a : Result ℕ ℕ) (e : Event) → e.found ≡ found_in a →
    MatchResult a (λ found. found ≡ e.expected) (λ found. found ≢ e.expected) → kills k && is_ok a ≡ is_kill k e
exchange_kills Kill (Ok f) e same h = rw same (sym (eq-eqb f e.expected h))
exchange_kills Kill (Err f) e same h = rw same (sym (ne_eqb f e.expected h))
exchange_kills k a e same h = refl

-- a load and an exchange draw no number
pub load_draws : (k : Kind) (s : Shape) (l : LocalState) (e : Event) → ActsBy k Load → is_draw k ≡ false
load_draws Draw s l e acts = let way = acts s l e in absurd (cc)
load_draws k s l e acts = refl

pub exchange_draws : (k : Kind) → is_exchange k ≡ true → is_draw k ≡ false
exchange_draws Draw x = absurd (cc)
exchange_draws k x = refl

-- so many are counted where none was drawn
pub none_more : (k : Kind) (count n : ℕ) → is_draw k ≡ false → count ≡ stands n → count ≡ stands (count + one_if (is_draw k))
none_more k count n none is = rw none (omega arith)

one_of : (b : Bool) (n : ℕ) → cond b 1 0 + n ≡ n + one_if b
one_of true n = omega arith
one_of false n = omega arith

pub draws_more : (e : Event) (own : List Event) → draw_count (e ∷ own) ≡ draw_count own + one_if (is_draw e.kind)
draws_more e own =
    sum_by-cons (λ (e : Event). cond (is_draw e.kind) 1 0) e own ∙ one_of (is_draw e.kind) (draw_count own)

-- the counts after an event, by the own events before it
counts_next : (s : Shape) (log before : List Event) (c : ℕ) (e : Event) → e.caller ≡ c →
    events_of c log ≡ e ∷ events_of c before →
    counts_of s log c ≡ counts_after e.kind (local s before c) (counts_of s before c) e
counts_next s log before c e own mine =
    sym (counts_own s log c) ∙ ap (λ es. counts_of s es c) mine
    ∙ rw (eq-eqb e.caller c own)
    (ap (λ l. counts_after e.kind l (counts_of s (events_of c before) c) e) (local-events_of core s before c)
    ∙ ap (λ n. counts_after e.kind (local s before c) n e) (counts_own s before c))

module _ {L : Type 0} (holds : L → List Val → Type 0) (home : Home L) where
  numbered : (v w : View L) (way : Access) (k : Kind) (p found c : ℕ) → v.terms ≡ Some home.terms →
      v.number ≡ Some c → Makes holds v way k p found w → tally_of (counts_by w)
      ≡ tally_of (counts_after k (caller_state home.terms v) (counts_by v) (made v way k p found))
  numbered v w way k p found c told q m =
      let s : Shape = home.terms.shape in
      let e : Event = made v way k p found in
      let own : e.caller ≡ c = ap (λ o. number_or o found) q in
      let terms : w.terms ≡ Some home.terms = ap (λ (x : View L). x.terms) m.view ∙ told in
      let number : w.number ≡ Some c = ap (λ (x : View L). x.number) m.view ∙ ap Some own in
      let mine : events_of c w.log ≡ e ∷ events_of c v.log = subst (λ i. events_of i w.log ≡ e ∷ events_of c v.log) own
      (m.mine ∙ ap (λ o. e ∷ events_by o v.log) q) in
      let after_it : counts_by w ≡ counts_of s w.log c =
      ap (λ o. counts_in o w.number w.log) terms ∙ ap (λ o. counts_in (Some home.terms) o w.log) number in
      let before_it : counts_by v ≡ counts_of s v.log c =
      ap (λ o. counts_in o v.number v.log) told ∙ ap (λ o. counts_in (Some home.terms) o v.log) q in
      let state : caller_state home.terms v ≡ local s v.log c = ap (λ o. state_by s o v.log) q in
      ap tally_of (after_it ∙ counts_next s w.log v.log c e own mine
      ∙ ap (λ l. counts_after k l (counts_of s v.log c) e) (sym state)
      ∙ ap (λ i. counts_after k (caller_state home.terms v) i e) (sym before_it))

  begun_where : (v : View L) (c : ℕ) → v.terms ≡ Some home.terms → v.number ≡ Some c →
      Counts_begun (counts_by v) (caller_state home.terms v).begun
  begun_where v c told q =
      let s : Shape = home.terms.shape in
      let before_it : counts_by v ≡ counts_of s v.log c =
      ap (λ o. counts_in o v.number v.log) told ∙ ap (λ o. counts_in (Some home.terms) o v.log) q in
      let state : caller_state home.terms v ≡ local s v.log c = ap (λ o. state_by s o v.log) q in
      ap (λ (i : Counted). i.steps == 0) before_it ∙ counts_begun s v.log c
      ∙ ap (λ (l : LocalState). l.begun == 0) (sym state)

  own_more : (v w : View L) (way : Access) (k : Kind) (p found : ℕ) → Makes holds v way k p found w →
      draws_by w ≡ draws_by v + one_if (is_draw k)
  own_more v w way k p found m =
      ap (λ o. draw_count (events_by o w.log)) (ap (λ (x : View L). x.number) m.view) ∙ ap draw_count m.mine
      ∙ draws_more (made v way k p found) (own_events v)

  steps_on : (old new : Inside L) (way : Access) (k : Kind) (p found : ℕ) (turn kills : Bool) →
      IsOf home old.seat → Counts old → turn ≡ is_turn k (caller_state home.terms (view_of old.seat)) →
      kills ≡ is_kill k (made (view_of old.seat) way k p found) →
      Makes holds (view_of old.seat) way k p found (view_of new.seat) →
      new.tally ≡ ticked k turn kills old.tally → new.draws ≡ stands (old.draws + one_if (is_draw k)) → Counts new
  steps_on old new way k p found turn kills seat counts t r m is drawn = go v.number refl counts.caller
    where
      v : View L
      v = view_of old.seat

      go : (o : Option ℕ) → v.number ≡ o → IsSome o → Counts new
      go (Some c) q s = record {
        caller = rw (ap (λ (x : View L). x.number) m.view) refl;
        counts =
            rw (
              is,
              t,
              r,
              counts.counts,
              ticked_is k (caller_state home.terms v) (counts_by v) (made v way k p found) (begun_where v c seat.2 q),
              ← numbered v (view_of new.seat) way k p found c seat.2 q m,
            ) refl;
        draws =
            drawn ∙ ap (λ n. stands (n + one_if (is_draw k))) counts.draws
            ∙ stands_more (draws_by v) (one_if (is_draw k))
            ∙ ap stands (sym (own_more v (view_of new.seat) way k p found m));
      }
      go None q s = absurd (cc)

  -- a step that the caller of a seat makes is counted
  pub step_counts : (old new : Inside L) (was : Seat ℕ (View L)) (way : Access) (k : Kind) (p found : ℕ)
      (turn kills : Bool) → old.seat ≡ was → IsOf home was → Counts old →
      turn ≡ is_turn k (caller_state home.terms (view_of was)) →
      kills ≡ is_kill k (made (view_of old.seat) way k p found) →
      Makes holds (view_of old.seat) way k p found (view_of new.seat) → new.tally ≡ ticked k turn kills old.tally →
      new.draws ≡ stands (old.draws + one_if (is_draw k)) → Counts new
  step_counts old new was way k p found turn kills same seat counts t r m is drawn =
      steps_on old new way k p found turn kills (subst (IsOf home) (sym same) seat) counts
      (t ∙ ap (λ s. is_turn k (caller_state home.terms (view_of s))) (sym same)) r m is drawn

-- the seat of a caller that has begun no attempt, and has drawn no number, counts nothing
pub unbegun_counts : {L : Type 0} (s : Inside L) → IsUnbegun (view_of s.seat) → draws_by (view_of s.seat) ≡ 0 →
    s.tally ≡ record { steps = 0; turns = 0; kills = 0 } → s.draws ≡ 0 → Counts s
unbegun_counts {L = L} s u undrawn is none = let v : View L = view_of s.seat in record {
  caller = rw u.caller refl;
  counts = is
      ∙ ap tally_of (sym
      (ap (λ o. counts_in o v.number v.log) u.told ∙ ap (λ o. counts_in (Some u.terms) o v.log) u.caller
      ∙ unbegun_none u.terms.shape v.log u.number u.unbegun));
  draws = rw undrawn none;
}
