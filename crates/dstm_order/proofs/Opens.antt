-- Opens: how a call that opens an object ends.
use Rattle.std.proofs.Common.{◌≡◌, ◌⊎◌, ℕ, ◌+◌, ◌==◌, ◌||◌, ◌∙◌, Bool, true, false, not, List, [], ◌∷◌, Some, None, refl, ap, sym, subst, inl, inr, min, Option, if◌then◌else◌}
use Rattle.dstm_core.proofs.Base.{Event, LocalState, after, cond_both, given, is_one_of, is_outside}
use Rattle.dstm_order.proofs.Base.{Begin, Check, Commit, Doing, Done, Draw, Drawn, Due, Effort, EndsInPass, EndsInRank, Enrol, EveryOpenEndsInPass, Install, IsDue, Kind, Lcg, LookNumber, LookSelf, MAX_RANK, Manager, Obeys, Outside, Pause, Paused, Phase, PutHigh, PutNew, PutOld, PutOwner, Quit, Rank, Reading, Release, Resume, Running, Shape, Stamp, Step, ToValidating, Work, Writing, at_first, due, due_after, effort_of, in_checks, in_resolving, is_open, just, most_missed, next, next_or_first, rises, state_after, when_passed, when_resolved}
use Rattle.dstm_order.proofs.Rows.{doing_by, is_due_of, kind_of_due, resolves, resolves_by, resolving_by, giving_way_by, pass_by, passed_by}
use Rattle.dstm_order.proofs.Validations.{GoesOn, goes_on, due_kind, every_pass}

-- ---- the events of an open

-- the kinds of event that an open may make: those that resolve, install and pass, a Quit, and a Rank
abbrev in_open : Kind → Bool
in_open k = not (is_one_of (Enrol ∷ Stamp ∷ Begin ∷ Release ∷ PutHigh ∷ PutNew ∷ ToValidating ∷ Draw ∷ Commit ∷ []) k)

abbrev IsOpen : Due → Type 0
IsOpen d = is_due_of in_open d ≡ true

-- the phases of an attempt in an open
abbrev open_phase : Phase → Bool
open_phase Outside = true
open_phase Running = true
open_phase Paused = true
open_phase p = false

-- a step that neither raises the rank nor ends the open
abbrev is_early : Due → Bool
is_early (Step Rank n) = false
is_early (Step k n) = in_open k
is_early Done = false

abbrev IsEarly : Due → Type 0
IsEarly d = is_early d ≡ true

early_opens : (d : Due) → IsEarly d → IsOpen d
early_opens (Step Rank n) h = refl
early_opens (Step k n) h = h
early_opens Done h = refl

first_early : (w : Work) (l : LocalState) → is_open w ≡ true → IsEarly (at_first w l)
first_early (Reading o) l h = refl
first_early (Writing o) l h = refl
first_early w l h = absurd (cc)

resolved_early : (w : Work) → is_open w ≡ true → IsEarly (when_resolved w)
resolved_early (Reading o) h = refl
resolved_early (Writing o) h = refl
resolved_early w h = absurd (cc)

checks_early : (p : Phase) (l : LocalState) → open_phase p ≡ true → IsEarly (in_checks p l)
checks_early Drawn l h = absurd (cc)
checks_early p l h = pass_by IsEarly l refl refl

resolving_early : (w : Work) (m : Manager) (l : LocalState) (c : Effort) → is_open w ≡ true →
    IsEarly (in_resolving m l c (when_resolved w))
resolving_early w m l c h =
    resolving_by IsEarly m l c (when_resolved w) (resolves_by IsEarly resolves_early)
    (λ _. giving_way_by IsEarly l c refl refl refl) (resolved_early w h)
  where
    resolves_early : (k : Kind) → resolves k ≡ true → IsEarly (just k)
    resolves_early Rank q = absurd (cc)
    resolves_early k q = cc

-- in an open a step follows that is early, unless its newest event is a LookSelf, a Rank or a Quit
next_early : (k : Kind) (e : Event) (w : Work) (m : Manager) (l : LocalState) (c : Effort) → is_open w ≡ true →
    in_open k ≡ true → open_phase l.phase ≡ true → (k ≡ LookSelf) ⊎ (k ≡ Rank) ⊎ (k ≡ Quit) ⊎ IsEarly (next k e w m l c)
next_early LookSelf e w m l c h i p = inl refl
next_early Rank e w m l c h i p = inr (inl refl)
next_early Quit e w m l c h i p = inr (inr (inl refl))
next_early LookNumber e w m l c h i p = inr (inr (inr (pass_by IsEarly l refl refl)))
next_early Check e w m l c h i p = inr (inr (inr (checks_early l.phase l p)))
next_early PutOwner e w m l c h i p = inr (inr (inr refl))
next_early PutOld e w m l c h i p = inr (inr (inr refl))
next_early Install e w m l c h i p =
    inr (inr (inr (cond_both (e.found == e.expected) _ _ IsEarly (λ _. refl) (λ _. first_early w l h))))
next_early Enrol e w m l c h i p = absurd (cc)
next_early Stamp e w m l c h i p = absurd (cc)
next_early Begin e w m l c h i p = absurd (cc)
next_early Release e w m l c h i p = absurd (cc)
next_early PutHigh e w m l c h i p = absurd (cc)
next_early PutNew e w m l c h i p = absurd (cc)
next_early ToValidating e w m l c h i p = absurd (cc)
next_early Draw e w m l c h i p = absurd (cc)
next_early Commit e w m l c h i p = absurd (cc)
next_early k e w m l c h i p = inr (inr (inr (resolving_early w m l c h)))

next_opens : (k : Kind) (e : Event) (w : Work) (m : Manager) (l : LocalState) (c : Effort) → is_open w ≡ true →
    in_open k ≡ true → open_phase l.phase ≡ true → IsOpen (next k e w m l c)
next_opens k e w m l c h i p = elim (next_early k e w m l c h i p) [
  | inl q ↦ at_kind LookSelf q (passed_by IsOpen w m l refl (λ n. refl))
  | inr (inl q) ↦ at_kind Rank q refl
  | inr (inr (inl q)) ↦ at_kind Quit q refl
  | inr (inr (inr early)) ↦ early_opens (next k e w m l c) early
]
  where
    at_kind : (j : Kind) → k ≡ j → IsOpen (next j e w m l c) → IsOpen (next k e w m l c)
    at_kind j q opens = subst (λ j. IsOpen (next j e w m l c)) (sym q) opens

-- these events leave the attempt in those phases
phase_opens : (k : Kind) (s : Shape) (l : LocalState) (e : Event) → in_open k ≡ true → open_phase l.phase ≡ true →
    open_phase (after k s l e).phase ≡ true
phase_opens Install s l e i p =
    cond_both (e.found == e.expected) _ _ (λ (l : LocalState). open_phase l.phase ≡ true) (λ _. p) (λ _. p)
phase_opens LookSelf s l e i p =
    cond_both (e.found == given l.phase) _ _ (λ (l : LocalState). open_phase l.phase ≡ true) (λ _. p) (λ _. refl)
phase_opens Pause s l e i p =
    cond_both (e.found == 1) _ _ (λ (l : LocalState). open_phase l.phase ≡ true) (λ _. refl) (λ _. refl)
phase_opens Resume s l e i p =
    cond_both (e.found == 2) _ _ (λ (l : LocalState). open_phase l.phase ≡ true) (λ _. refl) (λ _. refl)
phase_opens Quit s l e i p = refl
phase_opens Enrol s l e i p = absurd (cc)
phase_opens Stamp s l e i p = absurd (cc)
phase_opens Begin s l e i p = absurd (cc)
phase_opens Release s l e i p = absurd (cc)
phase_opens PutHigh s l e i p = absurd (cc)
phase_opens PutNew s l e i p = absurd (cc)
phase_opens ToValidating s l e i p = absurd (cc)
phase_opens Draw s l e i p = absurd (cc)
phase_opens Commit s l e i p = absurd (cc)
phase_opens k s l e i p = p

-- what is due in an open, whatever has come
record Opened (w : Work) (s : Shape) (l : LocalState) (g : Lcg) (es : List Event) : Type 0 where
  pub phase : open_phase (state_after s l es).phase ≡ true
  pub due : IsOpen (due_after (Doing w) s l g es)

opened : (w : Work) (s : Shape) (l : LocalState) (g : Lcg) (es : List Event) → is_open w ≡ true → l.phase ≡ Running →
    Obeys (Doing w) s l g es → Opened w s l g es
opened w s l g [] h p obeys = record {
  phase = rw p refl;
  due = doing_by IsOpen w s None l (effort_of s l g []) refl refl (early_opens (at_first w l) (first_early w l h));
}
opened w s l g (e ∷ es) h p obeys =
    let before = opened w s l g es h p obeys.0 in
    let kind = kind_of_due in_open (due_after (Doing w) s l g es) e obeys.1 before.due in
    let phase = phase_opens e.kind s (state_after s l es) e kind before.phase in
    record {
      phase = phase;
      due = doing_by IsOpen w s (Some e) (state_after s l (e ∷ es)) (effort_of s l g (e ∷ es)) refl refl
          (next_opens e.kind e w s.manager (state_after s l (e ∷ es)) (effort_of s l g (e ∷ es)) h kind phase);
    }

-- ---- how it ends

-- after its pass an open raises the rank where ranks rise
passed_is : (w : Work) (m : Manager) (l : LocalState) → is_open w ≡ true →
    when_passed w m l ≡ (if rises m then Step Rank (min (l.rank + 1) MAX_RANK) else Done)
passed_is (Reading o) m l h = refl
passed_is (Writing o) m l h = refl
passed_is w m l h = absurd (cc)

-- a live attempt goes on as the table says until nothing more is due
ends_table : (w : Work) (s : Shape) (newest : Option Event) (l : LocalState) (c : Effort) →
    due (Doing w) s newest l c ≡ Done → is_outside l.phase ≡ false → next_or_first newest w s.manager l c ≡ Done
ends_table w s newest l c q live =
    cond_both (is_outside l.phase) Done (if l.stale || c.missed == most_missed then just Quit else table)
    (λ d. d ≡ Done → table ≡ Done) (λ x _. absurd (cc))
    (λ _. cond_both (l.stale || c.missed == most_missed) (just Quit) table (λ d. d ≡ Done → table ≡ Done)
    (λ _ p. absurd (cc)) (λ _ p. p)) q
  where
    table : Due
    table = next_or_first newest w s.manager l c

Ends : Shape → LocalState → List Event → Type 0
Ends s l es = (rises s.manager ≡ true → EndsInRank s l es) × (rises s.manager ≡ false → EndsInPass s l es)

-- the newest event is a LookSelf, and nothing is due after it
ends_by_pass : (w : Work) (s : Shape) (l : LocalState) (g : Lcg) (e : Event) (es : List Event) → is_open w ≡ true →
    Obeys (Doing w) s l g (e ∷ es) → e.kind ≡ LookSelf →
    next e.kind e w s.manager (state_after s l (e ∷ es)) (effort_of s l g (e ∷ es)) ≡ Done → Ends s l (e ∷ es)
unfolding Ends
ends_by_pass w s l g e es h obeys q done = (
  λ r. absurd (let row = passed in let x = subst (λ b. (if b then Step Rank n else Done) ≡ Done) r row in cc),
  (λ r. every_pass w s l g e es obeys q),
)
  where
    new : LocalState
    new = state_after s l (e ∷ es)

    n : ℕ
    n = min (new.rank + 1) MAX_RANK

    passed : (if rises s.manager then Step Rank n else Done) ≡ Done
    passed =
        sym (passed_is w s.manager new h)
        ∙ sym (ap (λ k. next k e w s.manager new (effort_of s l g (e ∷ es))) q) ∙ done

abbrev operand : Due → ℕ
operand (Step k n) = n
operand Done = 0

-- the newest event is a Rank: before it came a LookSelf
ends_by_rank : (w : Work) (s : Shape) (l : LocalState) (g : Lcg) (e : Event) (es : List Event) → is_open w ≡ true →
    l.phase ≡ Running → Obeys (Doing w) s l g (e ∷ es) → e.kind ≡ Rank → Ends s l (e ∷ es)
unfolding Ends
ends_by_rank w s l g e [] h p obeys q =
    let due_then = due_kind (due_after (Doing w) s l g []) e obeys.1 q in
    let on = goes_on w s None l (effort_of s l g []) due_then.1 refl in
    let early = first_early w l h in let x = ap is_early on.table in absurd (cc)
ends_by_rank w s l g e (f ∷ fs) h p obeys q =
    go (next_early f.kind f w s.manager old (effort_of s l g (f ∷ fs)) h
    (kind_of_due in_open (due_after (Doing w) s l g fs) f obeys.0.1 (opened w s l g fs h p obeys.0.0).due)
    (opened w s l g (f ∷ fs) h p obeys.0).phase)
  where
    old : LocalState
    old = state_after s l (f ∷ fs)

    due_then : (n : ℕ) × (due_after (Doing w) s l g (f ∷ fs) ≡ Step Rank n)
    due_then = due_kind (due_after (Doing w) s l g (f ∷ fs)) e obeys.1 q

    on : GoesOn w s (Some f) old (effort_of s l g (f ∷ fs)) (Step Rank due_then.0)
    on = goes_on w s (Some f) old (effort_of s l g (f ∷ fs)) due_then.1 refl

    put : e.put ≡ due_then.0
    put = (subst (λ d. IsDue d e) due_then.1 obeys.1).1

    n : ℕ
    n = min (old.rank + 1) MAX_RANK

    ends : (b : Bool) → rises s.manager ≡ b → f.kind ≡ LookSelf →
        (if b then Step Rank n else Done) ≡ Step Rank due_then.0 → Ends s l (e ∷ f ∷ fs)
    ends true r look row = (
      (λ _. record {
        rank = e;
        before = f ∷ fs;
        are = refl;
        is_rank = q;
        raised = put ∙ sym (ap operand row);
        pass = every_pass w s l g f fs obeys.0 look;
      }),
      (λ x. absurd (cc)),
    )
    ends false r look row = absurd (cc)

    -- nothing is due after a Rank or a Quit
    over : (k : Kind) → f.kind ≡ k → next k f w s.manager old (effort_of s l g (f ∷ fs)) ≡ Done → ⊥
    over k q done =
        let x : Done ≡ Step Rank due_then.0 =
        sym done ∙ sym (ap (λ k. next k f w s.manager old (effort_of s l g (f ∷ fs))) q) ∙ on.table in cc

    go : (f.kind ≡ LookSelf) ⊎ (f.kind ≡ Rank) ⊎ (f.kind ≡ Quit)
        ⊎ IsEarly (next f.kind f w s.manager old (effort_of s l g (f ∷ fs))) → Ends s l (e ∷ f ∷ fs)
    go (inl look) =
        ends (rises s.manager) refl look (sym (passed_is w s.manager old h)
        ∙ sym (ap (λ k. next k f w s.manager old (effort_of s l g (f ∷ fs))) look) ∙ on.table)
    go (inr (inl q)) = absurd (over Rank q refl)
    go (inr (inr (inl q))) = absurd (over Quit q refl)
    go (inr (inr (inr early))) = let x = ap is_early on.table in absurd (cc)

pub every_open : EveryOpenEndsInPass
unfolding Ends
every_open w s l g [] h p call live =
    let row = ends_table w s None l (effort_of s l g []) call.done live in
    let early = first_early w l h in let x = ap is_early row in absurd (cc)
every_open w s l g (e ∷ es) h p call live =
    go (next_early e.kind e w s.manager new (effort_of s l g (e ∷ es)) h
    (kind_of_due in_open (due_after (Doing w) s l g es) e call.obeys.1 (opened w s l g es h p call.obeys.0).due)
    (opened w s l g (e ∷ es) h p call.obeys).phase)
  where
    new : LocalState
    new = state_after s l (e ∷ es)

    row : next e.kind e w s.manager new (effort_of s l g (e ∷ es)) ≡ Done
    row = ends_table w s (Some e) new (effort_of s l g (e ∷ es)) call.done live

    go : (e.kind ≡ LookSelf) ⊎ (e.kind ≡ Rank) ⊎ (e.kind ≡ Quit)
        ⊎ IsEarly (next e.kind e w s.manager new (effort_of s l g (e ∷ es))) →
        (rises s.manager ≡ true → EndsInRank s l (e ∷ es)) × (rises s.manager ≡ false → EndsInPass s l (e ∷ es))
    go (inl q) = ends_by_pass w s l g e es h call.obeys q row
    go (inr (inl q)) = ends_by_rank w s l g e es h p call.obeys q
    go (inr (inr (inl q))) =
        let left : is_outside new.phase ≡ true =
        ap (λ k. is_outside (after k s (state_after s l es) e).phase) q in absurd (cc)
    go (inr (inr (inr early))) = let x = ap is_early row in absurd (cc)
