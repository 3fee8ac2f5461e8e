-- Calls that begin an attempt, and calls that end one.
use Rattle.std.proofs.Common.{◌&&◌, ◌+◌, ◌∙◌, ◌∷◌, ◌≡◌, ◌≢◌, ◌⊎◌, Bool, List, Option, [], ap, false, inl, inr, not, refl, subst, sym, true, if◌then◌else◌}
use Rattle.dstm_core.proofs.Base.{Event, LocalState, cases_Bool, cond_both, is_outside, local}
use Rattle.dstm_core.proofs.Statuses.{begun_up}
use Rattle.dstm_core.proofs.Underway.{is_outside_now}
use Rattle.dstm_order.proofs.Beginnings.{none_after}
use Rattle.dstm_order.proofs.Base.{Begin, Beginning, Done, Due, IsCall, IsDue, Kind, Lcg, Leaving, Obeys, Outside, Quit, Rank, Shape, Stamp, Step, has_begun, has_ranks, has_stamps, in_beginning, is_begin, is_spent, just, newest_of, rises, state_after}
use Rattle.dstm_progress.proofs.Calls.{fresh_begin, inside_phase}
use Rattle.dstm_progress.specs.Ends.{Begins, BeginsNone}
use Rattle.dstm_progress.specs.Calls.{EveryBeginning, EveryLeaving}
use Rattle.dstm_progress.proofs.Ends.{no_begin}
use Rattle.dstm_progress.proofs.OwnEvents.{after_own}

pub begin_kind : (k : Kind) → is_begin k ≡ true → k ≡ Begin
begin_kind Begin h = refl
begin_kind k h = absurd (cc)

begin_is : {k : Kind} → k ≡ Begin → is_begin k ≡ true
begin_is {k = Begin} h = refl
begin_is h = absurd (cc)

-- ---- to begin

none_begun : (fresh : Bool) (s : Shape) (l : LocalState) (g : Lcg) (es : List Event) →
    Obeys (Beginning fresh) s l g es → has_begun (newest_of es) ≡ false → (state_after s l es).begun ≡ l.begun
none_begun fresh s l g [] o h = refl
none_begun fresh s l g (e ∷ es) o h =
    no_begin s (state_after s l es) e e.kind (λ q. let x = begin_is q in cc)
    ∙ none_begun fresh s l g es o.0 (none_after (newest_of es) s fresh (state_after s l es) e o.1)

begins_one : (fresh : Bool) (s : Shape) (l : LocalState) (g : Lcg) (es : List Event) →
    Obeys (Beginning fresh) s l g es → has_begun (newest_of es) ≡ true → Begins l (state_after s l es)
begins_one fresh s l g [] o h = absurd (cc)
begins_one fresh s l g (e ∷ es) o h =
    let old = state_after s l es in
    let k = begin_kind e.kind h in
    let new = fresh_begin s old e k in
    let none = none_begun fresh s l g es o.0 (none_after (newest_of es) s fresh old e o.1) in
    record {
      begun = begun_up s old e k ∙ ap (λ n. n + 1) none;
      phase = new.phase;
      agreed = new.agreed;
    }

-- where no more is due and no attempt was begun, the caller is spent
pub spent_at : (fresh : Bool) (s : Shape) (n : Option Event) (l : LocalState) → has_begun n ≡ false →
    in_beginning s fresh n l ≡ Done → (l.phase ≡ Outside) × (is_spent s l ≡ true)
spent_at fresh s n l h q = go (is_outside_now l.phase) (cases_Bool (is_spent s l))
  where
    Goal : Due → Type 0
    Goal d = d ≡ Done → ⊥

    goes : Due
    goes =
        if has_stamps s.manager && fresh && not l.stamped then just Stamp else if has_ranks s.manager && not l.ranked
        then Step Rank (if rises s.manager && fresh then 0 else l.rank) else just Begin

    more : goes ≡ Done → ⊥
    more =
        cond_both (has_stamps s.manager && fresh && not l.stamped) _ _ Goal (λ _ z. cc)
        (λ _. cond_both (has_ranks s.manager && not l.ranked) _ _ Goal (λ _ z. cc) (λ _ z. cc))

    go : (l.phase ≡ Outside) ⊎ (l.phase ≢ Outside) → (is_spent s l ≡ true) ⊎ (is_spent s l ≡ false) →
        (l.phase ≡ Outside) × (is_spent s l ≡ true)
    go (inr i) x = absurd (let z : just Quit ≡ Done = rw (h, inside_phase l.phase i) at q in cc)
    go (inl o) (inl x) = (o, x)
    go (inl o) (inr x) = absurd (more (rw (h, ap is_outside o, x) at q))

begins_none : {fresh : Bool} {s : Shape} {l : LocalState} {g : Lcg} {es : List Event} →
    IsCall (Beginning fresh) s l g es → has_begun (newest_of es) ≡ false → BeginsNone s l (state_after s l es)
begins_none {fresh = fresh} {s = s} {l = l} {g = g} {es = es} h q =
    let two = spent_at fresh s (newest_of es) (state_after s l es) q h.done in
    record { begun = none_begun fresh s l g es h.obeys q; phase = two.0; spent = two.1 }

pub beginning : EveryBeginning
beginning = λ fresh s c g events before run h.
    let l = local s before c in
    let now = sym (after_own s c run before events h.own) in (
      λ q. subst (Begins l) now (begins_one fresh s l g events h.call.obeys q),
      λ q. subst (BeginsNone s l) now (begins_none h.call q),
    )

-- ---- to end

none_left : (s : Shape) (l : LocalState) (g : Lcg) (es : List Event) → Obeys Leaving s l g es →
    (state_after s l es).begun ≡ l.begun
none_left s l g [] o = refl
none_left s l g (e ∷ es) o =
    no_begin s (state_after s l es) e e.kind (λ q. quit_due (is_outside (state_after s l es).phase) o.1 q)
    ∙ none_left s l g es o.0
  where
    quit_due : (b : Bool) → IsDue (if b then Done else just Quit) e → e.kind ≡ Begin → ⊥
    quit_due true d q = d
    quit_due false d q = let x = d.0 in cc

-- a caller at rest stays as it is
at_rest : (s : Shape) (l : LocalState) (g : Lcg) (es : List Event) → Obeys Leaving s l g es → l.phase ≡ Outside →
    es ≡ []
at_rest s l g [] o q = refl
at_rest s l g (e ∷ es) o q =
    let none = at_rest s l g es o.0 q in
    let here = ap (λ xs. is_outside (state_after s l xs).phase) none ∙ ap is_outside q in
    absurd (let x : IsDue Done e = rw here at o.1 in x)

outside_at : (l : LocalState) → (if is_outside l.phase then Done else just Quit) ≡ Done → l.phase ≡ Outside
outside_at l q = elim (is_outside_now l.phase) [
  | inl o ↦ o
  | inr i ↦ absurd (let z : just Quit ≡ Done = rw (inside_phase l.phase i) at q in cc)
]

pub leaving : EveryLeaving
leaving = λ s c g events before run h.
    let l = local s before c in
    let now = after_own s c run before events h.own in (
      ap (λ (l : LocalState). l.phase) now ∙ outside_at (state_after s l events) h.call.done,
      ap (λ (l : LocalState). l.begun) now ∙ none_left s l g events h.call.obeys,
      at_rest s l g events h.call.obeys,
    )
