-- Giving back what is locked, in the order of locking.
use Rattle.std.proofs.Common.{◌≡◌, ◌≢◌, ◌⊎◌, ◌∙◌, ℕ, ◌+◌, ◌<◌, ◌≤◌, ◌==◌, List, [], ◌∷◌, true, Some, None, is_some, inl, inr, refl, sym, ap, subst, length, map, take, drop, arith, Option, IfSome, IsSome, not, if◌then◌else◌}
use Rattle.std.proofs.lemmas.Bool.{cases_eq, eq-eqb, ne_eqb}
use Rattle.std.proofs.lemmas.List.{get_or-take, length-take-le}
use Rattle.dstm_model.specs.declared.value.Val.{Val}
use Rattle.dstm_machines.specs.Traces.{Access}
use Rattle.dstm_machines.specs.Traces.Access.{Store}
use Rattle.dstm_seats.specs.Seats.{event_by}
use Rattle.dstm_tl2.specs.declared.kind.Kind.TheVariants.{Sample, Unlock}
use Rattle.dstm_tl2.specs.Rules.{IsHeld, MayUnlock, after, new_hold}
use Rattle.dstm_tl2.specs.Sharing.{table_of}
use Rattle.dstm_tl2.specs.State.{Hold, LocalState, hold_of, no_write, or_hold, read_of, recorded, without}
use Rattle.dstm_tl2.specs.Words.{Table}
use Rattle.dstm_tl2_words.specs.Seats.{Home}
use Rattle.dstm_tl2_order.specs.declared.again.TlAgain.{TlAgain}
use Rattle.dstm_tl2_steps.specs.declared.steps.Steps.{Steps}
use Rattle.dstm_tl2_steps.specs.Opened.{OpenedAs, read_slot, write_at}
use Rattle.dstm_tl2_order.specs.Order.{due, in_giving_back, is_spent}
use Rattle.dstm_tl2_order.specs.Order.Due.{Done, FreeAs, Just}
use Rattle.dstm_tl2_order.specs.Tasks.{Task, Work}
use Rattle.dstm_tl2_order.specs.Tasks.Task.{Enrolling, Beginning, Returning, Doing}
use Rattle.dstm_tl2_steps.specs.Under.{Began, Lists, Under, Went, freed_first, in_freeing, made_by, now, when_free}
use Rattle.dstm_tl2_steps.proofs.Bounds.{static_now}
use Rattle.dstm_tl2_steps.proofs.Going.{frees_in}
use Rattle.dstm_tl2_steps.proofs.Held.{apart_take, holds_from, later_unnamed, unheld}
use Rattle.dstm_tl2_steps.proofs.Slots.{WritesApart}
use Rattle.dstm_tl2_steps.proofs.Stepping.{under_is}
use Rattle.dstm_tl2_steps.proofs.Slotted.{slot_there, slot_word}

-- ---- what is due

pub freed_done : (holds : List Hold) → in_giving_back holds ≡ freed_first Done holds
freed_done [] = refl
freed_done (hold ∷ holds) = refl

-- what is due after an Unlock that gives back
pub after_unlock : (task : Task) (table : Table) (way : Access) (caller at found : ℕ) (state : LocalState) →
    task ≢ Enrolling → ((work : Work) → task ≡ Doing work → state.failed ≡ true) →
    due task table (Some (event_by way caller Unlock at found)) state ≡ in_freeing task table state
after_unlock Enrolling table way caller at found state other failed = absurd (other refl)
after_unlock Beginning table way caller at found state other failed = go state.holds
  where
    go : (holds : List Hold) →
        (if not (length holds == 0) then in_giving_back holds else if is_spent table state then Done else Just Sample)
        ≡ freed_first (if is_spent table state then Done else Just Sample) holds
    go [] = refl
    go (hold ∷ holds) = rw (ne_eqb (length (hold ∷ holds)) 0 (λ q. omega arith)) refl
after_unlock Returning table way caller at found state other failed = freed_done state.holds
after_unlock (Doing work) table way caller at found state other failed = rw (failed work refl) (freed_done state.holds)

-- ---- what is still locked

-- it is locked no more, and stays so
pub without_none : (o : ℕ) (holds : List Hold) → hold_of o holds ≡ None → without o holds ≡ holds
without_none o [] h = refl
without_none o (x ∷ xs) h = go (cases_eq x.object o) (λ h. without_none o xs h)
  where
    go : (x.object ≡ o) ⊎ (x.object ≡ o → ⊥) → (hold_of o xs ≡ None → without o xs ≡ xs) →
        without o (x ∷ xs) ≡ x ∷ xs
    go (inl q) rest = absurd (let bad : Some x ≡ None = rw (eq-eqb x.object o q) at h in cc)
    go (inr q) rest = rw (ne_eqb x.object o q) (ap (λ xs. x ∷ xs) (rest (rw (ne_eqb x.object o q) at h)))

-- the first of the holds is given up
pub without_first : (hold : Hold) (holds : List Hold) → hold_of hold.object holds ≡ None →
    without hold.object (hold ∷ holds) ≡ holds
without_first hold holds once = rw (eq-eqb hold.object hold.object refl) (without_none hold.object holds once)

-- the holds of the first writes, so many, from one of them on
abbrev pub still_held : LocalState → List (ℕ × Val) → (count i : ℕ) → List Hold
still_held start writes count i = map (new_hold start) (drop i (take count writes))

module _ (start : LocalState) (writes : List (ℕ × Val)) (count i : ℕ) (few : count ≤ length writes) (left : i < count)
  where
    within : i < length (take count writes)
    within = rw (length-take-le count writes few) left

    same : write_at (take count writes) i ≡ write_at writes i
    same = get_or-take count writes i no_write left

    -- the next one is the first of these
    pub next_held : still_held start writes count i
        ≡ new_hold start (write_at writes i) ∷ still_held start writes count (i + 1)
    next_held = rw (holds_from start (take count writes) i within, same) refl

    -- it stands there once
    pub held_once : WritesApart writes → hold_of (write_at writes i).0 (still_held start writes count (i + 1)) ≡ None
    held_once apart =
        rw (← same) (unheld start (drop (i + 1) (take count writes)) (write_at (take count writes) i).0
        (later_unnamed (take count writes) i (apart_take writes count apart few) within))

-- ---- a call that gives back

module _ {L : Type 0} (holds : L → List Val → Type 0) (home : Home L) (began : Began) where
  -- Since a state of the call so many objects were given back.
  pub record GivesBack (start : Steps L) (writes : List (ℕ × Val)) (count i : ℕ) (steps : Steps L) : Type 0 where
    pub left : (now home steps).holds ≡ still_held (now home start) writes count i
    pub rest : now home steps ≡ record (now home start) {
      holds = (now home steps).holds;
      gave_back = (now home steps).gave_back;
    }
    pub under : (again : Option TlAgain) →
        Under holds home began start (in_freeing began.task (table_of home.terms) (now home start)) again →
        Under holds home began steps (in_freeing began.task (table_of home.terms) (now home steps)) again

module _ {L : Type 0} {holds : L → List Val → Type 0} {home : Home L} {began : Began} where
  module _ {start old : Steps L} {opened : OpenedAs} {count i : ℕ} (lists : Lists home start opened count)
      (few : count ≤ length opened.writes) (left : i < count) (gives : GivesBack holds home began start opened.writes count i old)
      (call : (again : Option TlAgain)
      × Under holds home began start (in_freeing began.task (table_of home.terms) (now home start)) again)
      (o : ℕ) (at : (write_at opened.writes i).0 ≡ o) where
    head : (now home old).holds ≡ new_hold (now home start) (write_at opened.writes i)
        ∷ still_held (now home start) opened.writes count (i + 1)
    head = gives.left ∙ next_held (now home start) opened.writes count i few left

    held_as : hold_of o (now home old).holds ≡ Some (new_hold (now home start) (write_at opened.writes i))
    held_as = ap (hold_of o) head ∙ rw (eq-eqb (write_at opened.writes i).0 o at) refl

    reads : (now home old).reads ≡ (now home start).reads
    reads = ap (λ (state : LocalState). state.reads) gives.rest

    -- it is locked
    pub next_is_held : IsHeld (now home old) o
    next_is_held = ap is_some held_as

    -- it was read
    pub next_was_read : IsSome (read_slot opened.reads o)
    next_was_read =
        let read : is_some (read_of o (now home old).reads) ≡ true =
        ((static_now (gives.under call.0 call.1)).locks _ _ held_as).read in
        slot_there opened.reads o (subst (λ rs. is_some (read_of o rs) ≡ true) (reads ∙ sym lists.reads) read)

    -- its recorded word is the one of its slot
    next_word : (word : ℕ) → IfSome (read_slot opened.reads o) (λ slot. word ≡ slot.word) →
        word ≡ recorded o (now home start).reads
    next_word word is = slot_word opened.reads o word next_was_read is ∙ ap (recorded o) lists.reads

    module _ (word : ℕ) (slot : IfSome (read_slot opened.reads o) (λ slot. word ≡ slot.word)) where
      -- to give it back is due
      pub next_due : {again : Option TlAgain} →
          Under holds home began start (in_freeing began.task (table_of home.terms) (now home start)) again →
          Under holds home began old (FreeAs o word) again
      next_due {again = again} under =
          under_is (gives.under again under)
          (ap (freed_first (when_free began.task (table_of home.terms) (now home old))) head
          ∙ ap (λ o. FreeAs o (recorded o (now home start).reads)) at ∙ ap (FreeAs o) (sym (next_word word slot))) refl

      -- it may be
      pub next_may : ((now home start).drawn ≡ None) ⊎ ((now home start).failed ≡ true) →
          MayUnlock (now home old) (or_hold (hold_of o (now home old).holds)) word
      next_may may =
          inr (
            subst (λ (state : LocalState). (state.drawn ≡ None) ⊎ (state.failed ≡ true)) (sym gives.rest) may,
            next_word word slot ∙ ap (λ o. recorded o (now home start).reads) (sym at)
                ∙ ap (λ hold. (or_hold hold).word) (sym held_as),
          )

      module _ (new : Steps L)
          (apart : WritesApart opened.writes)
          (failed : (work : Work) → began.task ≡ Doing work → (now home start).failed ≡ true)
          (went : (again : Option TlAgain) → Under holds home began old (FreeAs o word) again →
          (found : ℕ) × Went holds home began old new again (made_by began (Store word) Unlock o found)) where
        here : Went holds home began old new call.0
            (made_by began (Store word) Unlock o (went call.0 (next_due call.1)).0)
        here = (went call.0 (next_due call.1)).1

        freed : (now home new).holds ≡ still_held (now home start) opened.writes count (i + 1)
        freed =
            ap (λ (state : LocalState). state.holds) here.state ∙ ap (without o) head
            ∙ ap (λ o. without o (new_hold (now home start) (write_at opened.writes i)
            ∷ still_held (now home start) opened.writes count (i + 1))) (sym at)
            ∙ without_first (new_hold (now home start) (write_at opened.writes i))
            (still_held (now home start) opened.writes count (i + 1))
            (held_once (now home start) opened.writes count i few left apart)

        kept : now home new ≡ record (now home start) {
          holds = (now home new).holds;
          gave_back = (now home new).gave_back;
        }
        kept =
            let state : LocalState = after Unlock (table_of home.terms) (now home old)
            (made_by began (Store word) Unlock o (went call.0 (next_due call.1)).0) in
            here.state
            ∙ ap (λ (old : LocalState). record old { holds = state.holds; gave_back = state.gave_back }) gives.rest
            ∙ ap (λ (new : LocalState). record (now home start) { holds = new.holds; gave_back = new.gave_back })
            (sym here.state)

        goes_on : (again : Option TlAgain) →
            Under holds home began start (in_freeing began.task (table_of home.terms) (now home start)) again →
            Under holds home began new (in_freeing began.task (table_of home.terms) (now home new)) again
        goes_on again under =
            let due_here : Under holds home began old (FreeAs o word) again = next_due under in
            let step = went again due_here in
            under_is step.1.goes_on
            (after_unlock began.task (table_of home.terms) (Store word) began.number o step.0 (now home new)
            (frees_in began.task (table_of home.terms) _ (now home old) o word due_here.due)
            (λ work task. ap (λ (state : LocalState). state.failed) kept ∙ failed work task)) refl

        -- one more is given back
        pub gives_one : GivesBack holds home began start opened.writes count (i + 1) new
        gives_one = record { left = freed; rest = kept; under = goes_on }
