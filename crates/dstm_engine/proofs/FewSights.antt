-- An open has at most one sight for each look at an object.
use Rattle.std.proofs.Common.{◌≡◌, ◌∙◌, ◌⊎◌, ◌+◌, ◌<◌, ◌≤◌, ◌++◌, ◌∷◌, ◌==◌, ◌&&◌, ℕ, Bool, List, [], None, Some, true, false, refl, sym, ap, subst, inl, inr, arith, not}
use Rattle.std.specs.Prelude.{if◌then◌else◌}
use Rattle.std.proofs.lemmas.Bool.{and_parts, cases_Bool, cond_both, cond-true, cond-false, eq-eqb, eqb-true}
use Rattle.std.specs.Prelude.{Option}
use Rattle.dstm_engine.proofs.Base.{Begin, Beginning, Check, Commit, Committing, Doing, Done, Draw, Drawn, Due, Effort, Event, IsDue, Kind, Lcg, LocalState, LookObj, LookSelf, Manager, Obeys, Phase, PutHigh, PutNew, Quit, Rank, Reading, Rechecking, Shape, Stamp, Step, Val, Work, Writing, after, at_first, count_of, due, due_after, effort_of, events_of, given, has_begun, has_ranks, has_stamps, is_open, is_outside, is_spent, just, local, newest_of, next, next_or_first, rises, state_after}
use Rattle.dstm_core.specs.declared.event.Kind.TheVariants.{Validating as ToValidating}
use Rattle.dstm_order.specs.Order.{in_checks}
use Rattle.dstm_order.proofs.Rows.{checking_by, doing_by, put_by, putting_by}
use Rattle.dstm_core.proofs.Static.{begun_more}
use Rattle.dstm_engine.specs.Attempts.{completes_pass, is_look_object, is_look_self, looks_at_object}
use Rattle.dstm_engine.proofs.Rechecking.{NoSelf}

-- ---- events of some kinds

-- how many of some events are of these kinds
abbrev pub count_kinds : (Kind → Bool) → List Event → ℕ
count_kinds among [] = 0
count_kinds among (e ∷ es) = if among e.kind then count_kinds among es + 1 else count_kinds among es

counts_it : (among : Kind → Bool) (e : Event) (es : List Event) → among e.kind ≡ true →
    count_kinds among (e ∷ es) ≡ count_kinds among es + 1
counts_it among e es is = cond-true (among e.kind) (count_kinds among es + 1) (count_kinds among es) is

skips_it : (among : Kind → Bool) (e : Event) (es : List Event) → among e.kind ≡ false →
    count_kinds among (e ∷ es) ≡ count_kinds among es
skips_it among e es is = cond-false (among e.kind) (count_kinds among es + 1) (count_kinds among es) is

one_more : (among : Kind → Bool) (e : Event) (es : List Event) → count_kinds among es ≤ count_kinds among (e ∷ es)
one_more among e es =
    cond_both (among e.kind) (count_kinds among es + 1) (count_kinds among es) (λ (n : ℕ). count_kinds among es ≤ n)
    (λ _. omega arith) (λ _. omega arith)

pub none_looks : (es : List Event) → NoSelf es → count_kinds is_look_self es ≡ 0
none_looks [] none = refl
none_looks (e ∷ es) none = skips_it is_look_self e es none.0 ∙ none_looks es none.1

-- ---- the events of an open

-- the kinds that end an open, or come after
abbrev ends : Kind → Bool
ends LookSelf = true
ends Rank = true
ends Quit = true
ends kind = false

-- an open has looked at an object, and at its own status not yet; or it is at its end, with one look at its own status at
-- most for each look at an object
abbrev Stage : List Event → Type 0
Stage [] = Unit {0}
Stage (e ∷ es) =
    ((count_kinds is_look_self (e ∷ es) ≡ 0) × (1 ≤ count_kinds is_look_object (e ∷ es)))
    ⊎ ((ends e.kind ≡ true) × (count_kinds is_look_self (e ∷ es) ≤ count_kinds is_look_object (e ∷ es)))

-- an event that ends it
quits_it : (e : Event) (es : List Event) → (e.kind ≡ Quit) ⊎ (e.kind ≡ Rank) →
    count_kinds is_look_self es ≤ count_kinds is_look_object es → Stage (e ∷ es)
quits_it e es is few = inr (end is, omega (arith, few, skips_it is_look_self e es (no_look is), one_more is_look_object e es))
  where
    end : (e.kind ≡ Quit) ⊎ (e.kind ≡ Rank) → ends e.kind ≡ true
    end (inl quit) = ap ends quit
    end (inr rank) = ap ends rank

    no_look : (e.kind ≡ Quit) ⊎ (e.kind ≡ Rank) → is_look_self e.kind ≡ false
    no_look (inl quit) = ap is_look_self quit
    no_look (inr rank) = ap is_look_self rank

-- what is due on a live attempt
live_due : (P : Due → Type 0) (outside left : Bool) (d : Due) → P Done → P (just Quit) → P d →
    P (if outside then Done else if left then just Quit else d)
live_due P outside left d done quit is =
    cond_both outside Done (if left then just Quit else d) P (λ _. done) (λ _.
    cond_both left (just Quit) d P (λ _. quit) (λ _. is))

-- at first
first_stage : (w : Work) (s : Shape) (l : LocalState) (f : Effort) (e : Event) → is_open w ≡ true →
    IsDue (due (Doing w) s None l f) e → Stage (e ∷ [])
first_stage w s l f e opens =
    live_due (λ (d : Due). IsDue d e → Stage (e ∷ [])) (is_outside l.phase) _ (at_first w l) (λ is. absurd is)
    (λ is. quits_it e [] (inl is.0) (omega arith)) (λ is. looks (kind w opens is))
  where
    kind : (w : Work) → is_open w ≡ true → IsDue (at_first w l) e → e.kind ≡ LookObj
    kind (Reading o) opens is = is.0
    kind (Writing o) opens is = is.0
    kind w opens is = absurd (cc)

    looks : e.kind ≡ LookObj → Stage (e ∷ [])
    looks is = inl (
      skips_it is_look_self e [] (ap is_look_self is),
      (let one = counts_it is_look_object e [] (ap is_look_object is) in omega arith),
    )

-- after its end
last_stage : (w : Work) (s : Shape) (x : Event) (l : LocalState) (f : Effort) (e : Event) → is_open w ≡ true →
    ends x.kind ≡ true → IsDue (due (Doing w) s (Some x) l f) e → (e.kind ≡ Quit) ⊎ (e.kind ≡ Rank)
last_stage w s x l f e opens end =
    live_due (λ (d : Due). IsDue d e → (e.kind ≡ Quit) ⊎ (e.kind ≡ Rank)) (is_outside l.phase) _
    (next x.kind x w s.manager l f) (λ is. absurd is) (λ is. inl is.0) (by x.kind w end opens)
  where
    Ends : Due → Type 0
    Ends d = IsDue d e → (e.kind ≡ Quit) ⊎ (e.kind ≡ Rank)

    by : (k : Kind) (w : Work) → ends k ≡ true → is_open w ≡ true → Ends (next k x w s.manager l f)
    by LookSelf (Reading o) end opens = cond_both (rises s.manager) _ _ Ends (λ _ is. inr is.0) (λ _ is. absurd is)
    by LookSelf (Writing o) end opens = cond_both (rises s.manager) _ _ Ends (λ _ is. inr is.0) (λ _ is. absurd is)
    by LookSelf w end opens = absurd (cc)
    by Rank w end opens = λ is. absurd is
    by Quit w end opens = λ is. absurd is
    by k w end opens = absurd (cc)

stage : (w : Work) (s : Shape) (l : LocalState) (g : Lcg) (es : List Event) → is_open w ≡ true → Obeys (Doing w) s l g es →
    Stage es
stage w s l g [] opens obeys = tt
stage w s l g (e ∷ []) opens obeys = first_stage w s l (effort_of s l g []) e opens obeys.1
stage w s l g (e ∷ x ∷ es) opens obeys = elim (stage w s l g (x ∷ es) opens obeys.0) [
  | inl looked ↦ here (cases_Bool (is_look_self e.kind)) looked.0 looked.1
  | inr ended ↦
      quits_it e (x ∷ es)
      (last_stage w s x (state_after s l (x ∷ es)) (effort_of s l g (x ∷ es)) e opens ended.0 obeys.1) ended.1
]
  where
    here : (is_look_self e.kind ≡ true) ⊎ (is_look_self e.kind ≡ false) → count_kinds is_look_self (x ∷ es) ≡ 0 →
        1 ≤ count_kinds is_look_object (x ∷ es) → Stage (e ∷ x ∷ es)
    here (inl look) none some =
        inr (
          is_end e.kind look,
          omega (arith, some, none, counts_it is_look_self e (x ∷ es) look, one_more is_look_object e (x ∷ es)),
        )
      where
        is_end : (k : Kind) → is_look_self k ≡ true → ends k ≡ true
        is_end LookSelf look = refl
        is_end k look = absurd (cc)
    here (inr other) none some =
        inl (
          skips_it is_look_self e (x ∷ es) other ∙ none,
          omega (arith, some, one_more is_look_object e (x ∷ es)),
        )

-- it looks at its own status at most as often as at an object
pub open_looks : (w : Work) (s : Shape) (l : LocalState) (g : Lcg) (es : List Event) → is_open w ≡ true →
    Obeys (Doing w) s l g es → count_kinds is_look_self es ≤ count_kinds is_look_object es
open_looks w s l g [] opens obeys = omega arith
open_looks w s l g (e ∷ es) opens obeys = elim (stage w s l g (e ∷ es) opens obeys) [
  | inl looked ↦ let none = looked.0 in omega arith
  | inr ended ↦ ended.1
]

-- ---- the events by which an attempt begins

beginning_kind : (a b c d f : Bool) (rank : ℕ) (e : Event) →
    IsDue (if a then Done else if b then just Quit else if c then Done else if d then just Stamp
    else if f then Step Rank rank else just Begin) e → is_look_self e.kind ≡ false
beginning_kind true b c d f rank e is = absurd is
beginning_kind false true c d f rank e is = ap is_look_self is.0
beginning_kind false false true d f rank e is = absurd is
beginning_kind false false false true f rank e is = ap is_look_self is.0
beginning_kind false false false false true rank e is = ap is_look_self is.0
beginning_kind false false false false false rank e is = ap is_look_self is.0

pub beginning_looks : (s : Shape) (fresh : Bool) (l : LocalState) (g : Lcg) (es : List Event) →
    Obeys (Beginning fresh) s l g es → NoSelf es
beginning_looks s fresh l g [] obeys = tt
beginning_looks s fresh l g (e ∷ es) obeys =
    let m = state_after s l es in (
      beginning_kind (has_begun (newest_of es)) (not (is_outside m.phase)) (is_spent s m)
          (has_stamps s.manager && fresh && not m.stamped) (has_ranks s.manager && not m.ranked)
          (if rises s.manager && fresh then 0 else m.rank) e obeys.1,
      beginning_looks s fresh l g es obeys.0,
    )

-- ---- the events of a commit

module _ (v : ℕ → Val) where
  -- an event of a commit, and the state that it leaves
  abbrev Came : Kind → LocalState → Type 0
  Came PutHigh l = Unit {0}
  Came PutNew l = Unit {0}
  Came ToValidating l = Unit {0}
  Came Draw l = l.phase ≡ Drawn
  Came Check l = l.phase ≡ Drawn
  Came Commit l = Unit {0}
  Came Quit l = Unit {0}
  Came k l = ⊥

  -- what may be due in a commit: it checks only after its Draw
  abbrev MayCome : LocalState → Due → Type 0
  MayCome l (Step Draw n) = Unit {0}
  MayCome l (Step k n) = Came k l
  MayCome l Done = Unit {0}

  abbrev CameLast : Option Event → LocalState → Type 0
  CameLast None l = Unit {0}
  CameLast (Some e) l = Came e.kind l

  next_comes : (k : Kind) (e : Event) (m : Manager) (l : LocalState) (f : Effort) → Came k l →
      MayCome l (next k e (Committing v) m l f)
  next_comes PutHigh e m l f came = put_by (MayCome l) (Committing v) l tt tt (λ n. tt) (λ n. tt)
  next_comes PutNew e m l f came = put_by (MayCome l) (Committing v) l tt tt (λ n. tt) (λ n. tt)
  next_comes Draw e m l f came = checking_by (MayCome l) l tt came
  next_comes Check e m l f came =
      subst (λ (p : Phase). MayCome l (in_checks p l)) (sym came) (checking_by (MayCome l) l tt came)
  next_comes k e m l f came = first_of (assumption tt, grind arith)

  first_comes : (o : Option Event) (m : Manager) (l : LocalState) (f : Effort) → CameLast o l →
      MayCome l (next_or_first o (Committing v) m l f)
  first_comes None m l f came = putting_by (MayCome l) v l tt (λ n. tt) (λ n. tt)
  first_comes (Some e) m l f came = next_comes e.kind e m l f came

  comes : (s : Shape) (l : LocalState) (e : Event) (d : Due) → MayCome l d → IsDue d e → Came e.kind (after e.kind s l e)
  comes s l e (Step k n) may is = subst (λ (k : Kind). Came k (after k s l e)) (sym is.0) (by k may)
    where
      by : (k : Kind) → MayCome l (Step k n) → Came k (after k s l e)
      by Draw may = refl
      by k may = may
  comes s l e Done may is = absurd is

  no_look : (k : Kind) (l : LocalState) → Came k l → is_look_self k ≡ false
  no_look LookSelf l came = absurd came
  no_look k l came = refl

  commit_comes : (s : Shape) (l : LocalState) (g : Lcg) (es : List Event) → Obeys (Doing (Committing v)) s l g es →
      NoSelf es × CameLast (newest_of es) (state_after s l es)
  commit_comes s l g [] obeys = (tt, tt)
  commit_comes s l g (e ∷ es) obeys =
      let before = commit_comes s l g es obeys.0 in
      let m = state_after s l es in
      let now : Came e.kind (after e.kind s m e) =
      comes s m e (due_after (Doing (Committing v)) s l g es)
      (doing_by (MayCome m) (Committing v) s (newest_of es) m (effort_of s l g es) tt tt
      (first_comes (newest_of es) s.manager m (effort_of s l g es) before.1)) obeys.1 in
      ((no_look e.kind (after e.kind s m e) now, before.0), now)

  -- it never looks at its own status
  pub commit_looks : (s : Shape) (l : LocalState) (g : Lcg) (es : List Event) → Obeys (Doing (Committing v)) s l g es →
      NoSelf es
  commit_looks s l g es obeys = (commit_comes s l g es obeys).0

-- ---- the events of a recheck

-- it has not looked at its own status yet; or it has once, and is at its end
abbrev Rechecks : List Event → Type 0
Rechecks [] = Unit {0}
Rechecks (e ∷ es) =
    (count_kinds is_look_self (e ∷ es) ≡ 0) ⊎ ((ends e.kind ≡ true) × (count_kinds is_look_self (e ∷ es) ≤ 1))

-- after its end it may quit
after_end : (s : Shape) (x : Event) (l : LocalState) (f : Effort) (e : Event) → ends x.kind ≡ true →
    IsDue (due (Doing Rechecking) s (Some x) l f) e → e.kind ≡ Quit
after_end s x l f e end =
    live_due (λ (d : Due). IsDue d e → e.kind ≡ Quit) (is_outside l.phase) _ (next x.kind x Rechecking s.manager l f)
    (λ is. absurd is) (λ is. is.0) (by x.kind end)
  where
    by : (k : Kind) → ends k ≡ true → IsDue (next k x Rechecking s.manager l f) e → e.kind ≡ Quit
    by LookSelf end is = absurd is
    by Rank end is = absurd is
    by Quit end is = absurd is
    by k end is = absurd (cc)

recheck_stage : (s : Shape) (l : LocalState) (g : Lcg) (es : List Event) → Obeys (Doing Rechecking) s l g es → Rechecks es
recheck_stage s l g [] obeys = tt
recheck_stage s l g (e ∷ es) obeys = by es (recheck_stage s l g es obeys.0) obeys.1 (cases_Bool (is_look_self e.kind))
  where
    is_end : (k : Kind) → is_look_self k ≡ true → ends k ≡ true
    is_end LookSelf look = refl
    is_end k look = absurd (cc)

    first : (es : List Event) → count_kinds is_look_self es ≡ 0 →
        (is_look_self e.kind ≡ true) ⊎ (is_look_self e.kind ≡ false) → Rechecks (e ∷ es)
    first es none (inl look) = inr (is_end e.kind look, let one = counts_it is_look_self e es look in omega (arith, none, one))
    first es none (inr other) = inl (skips_it is_look_self e es other ∙ none)

    by : (es : List Event) → Rechecks es → IsDue (due_after (Doing Rechecking) s l g es) e →
        (is_look_self e.kind ≡ true) ⊎ (is_look_self e.kind ≡ false) → Rechecks (e ∷ es)
    by [] before is look = first [] refl look
    by (x ∷ es) (inl none) is look = first (x ∷ es) none look
    by (x ∷ es) (inr ended) is look =
        let quit = after_end s x (state_after s l (x ∷ es)) (effort_of s l g (x ∷ es)) e ended.0 is in
        let same = skips_it is_look_self e (x ∷ es) (ap is_look_self quit) in
        inr (ap ends quit, let few = ended.1 in omega (arith, few, same))

-- it looks at its own status once at most
pub recheck_looks : (s : Shape) (l : LocalState) (g : Lcg) (es : List Event) → Obeys (Doing Rechecking) s l g es →
    count_kinds is_look_self es ≤ 1
recheck_looks s l g [] obeys = omega arith
recheck_looks s l g (e ∷ es) obeys = elim (recheck_stage s l g (e ∷ es) obeys) [
  | inl none ↦ omega (arith, none)
  | inr ended ↦ ended.1
]

-- ---- what a log counts

-- the kinds of a caller's events, with one more event of the log
own_counts : (is : Kind → Bool) (c : ℕ) (e : Event) (log : List Event) → (e.caller == c) ≡ true →
    count_kinds is (events_of c (e ∷ log)) ≡ count_kinds is (e ∷ events_of c log)
own_counts is c e log own =
    ap (count_kinds is) (cond-true (e.caller == c) (e ∷ events_of c log) (events_of c log) own)

other_counts : (is : Kind → Bool) (c : ℕ) (e : Event) (log : List Event) → (e.caller == c) ≡ false →
    count_kinds is (events_of c (e ∷ log)) ≡ count_kinds is (events_of c log)
other_counts is c e log other =
    ap (count_kinds is) (cond-false (e.caller == c) (e ∷ events_of c log) (events_of c log) other)

-- a sight is a look at the own status
pub sights_more : (s : Shape) (c i : ℕ) (later before : List Event) →
    count_of completes_pass s (later ++ before) c i
    ≤ count_of completes_pass s before c i + count_kinds is_look_self (events_of c later)
sights_more s c i [] before = omega arith
sights_more s c i (e ∷ later) before =
    let ih = sights_more s c i later before in
    elim (cases_Bool (e.caller == c)) [
      | inl own ↦ elim (cases_Bool test) [
        | inl passes ↦
            let look = (and_parts (is_look_self e.kind) (e.found == given l.phase)
            (and_parts (l.begun == i) (completes_pass s l e) passes).1).0 in
            let here : count_of completes_pass s (e ∷ (later ++ before)) c i ≡ was + 1 = rw (own, passes) refl in
            let more : count_kinds is_look_self (events_of c (e ∷ later))
            ≡ count_kinds is_look_self (events_of c later) + 1 =
            own_counts is_look_self c e later own ∙ counts_it is_look_self e (events_of c later) look in
            omega arith
        | inr fails ↦
            let here : count_of completes_pass s (e ∷ (later ++ before)) c i ≡ was = rw (own, fails) refl in
            let more : count_kinds is_look_self (events_of c later)
            ≤ count_kinds is_look_self (events_of c (e ∷ later)) =
            rw (own_counts is_look_self c e later own) (one_more is_look_self e (events_of c later)) in
            omega arith
      ]
      | inr other ↦
          let here : count_of completes_pass s (e ∷ (later ++ before)) c i ≡ was = rw other refl in
          let same = other_counts is_look_self c e later other in omega arith
    ]
  where
    l : LocalState
    l = local s (later ++ before) c

    test : Bool
    test = (l.begun == i) && completes_pass s l e

    was : ℕ
    was = count_of completes_pass s (later ++ before) c i

begun_since : (s : Shape) (c : ℕ) (later before : List Event) →
    (local s before c).begun ≤ (local s (later ++ before) c).begun
begun_since s c [] before = omega arith
begun_since s c (e ∷ later) before =
    let last = begun_more s (later ++ before) e c in
    let first = begun_since s c later before in
    omega arith

-- of an attempt that has not begun nothing counts
pub none_yet : (test : Shape → LocalState → Event → Bool) (s : Shape) (log : List Event) (c i : ℕ) → (local s log c).begun < i →
    count_of test s log c i ≡ 0
none_yet test s [] c i few = refl
none_yet test s (e ∷ log) c i few =
    let more = begun_more s log e c in
    cond_both ((e.caller == c) && (((local s log c).begun == i) && test s (local s log c) e))
    (count_of test s log c i + 1) (count_of test s log c i) (λ (n : ℕ). n ≡ 0) (λ passes.
    let begun = (and_parts ((local s log c).begun == i) (test s (local s log c) e)
    (and_parts (e.caller == c) (((local s log c).begun == i) && test s (local s log c) e) passes).1).0 in
    absurd (let same = eqb-true (local s log c).begun i begun in omega arith))
    (λ _. none_yet test s log c i (omega arith))

-- the looks at an object in a call on an attempt count
pub looks_more : (s : Shape) (c i : ℕ) (later before : List Event) → (local s before c).begun ≡ i →
    (local s (later ++ before) c).begun ≡ i →
    count_of looks_at_object s before c i + count_kinds is_look_object (events_of c later)
    ≤ count_of looks_at_object s (later ++ before) c i
looks_more s c i [] before was now = omega arith
looks_more s c i (e ∷ later) before was now =
    let ih = looks_more s c i later before was still in
    elim (cases_Bool (e.caller == c)) [
      | inl own ↦ elim (cases_Bool (is_look_object e.kind)) [
        | inl look ↦
            let here : count_of looks_at_object s (e ∷ (later ++ before)) c i ≡ there + 1 =
            rw (own, eq-eqb (local s (later ++ before) c).begun i still, look) refl in
            let more : count_kinds is_look_object (events_of c (e ∷ later))
            ≡ count_kinds is_look_object (events_of c later) + 1 =
            own_counts is_look_object c e later own ∙ counts_it is_look_object e (events_of c later) look in
            omega arith
        | inr none ↦
            let here : count_of looks_at_object s (e ∷ (later ++ before)) c i ≡ there =
            rw (own, eq-eqb (local s (later ++ before) c).begun i still, none) refl in
            let same : count_kinds is_look_object (events_of c (e ∷ later))
            ≡ count_kinds is_look_object (events_of c later) =
            own_counts is_look_object c e later own ∙ skips_it is_look_object e (events_of c later) none in
            omega arith
      ]
      | inr other ↦
          let here : count_of looks_at_object s (e ∷ (later ++ before)) c i ≡ there = rw other refl in
          let same = other_counts is_look_object c e later other in omega arith
    ]
  where
    still : (local s (later ++ before) c).begun ≡ i
    still =
        let last = begun_more s (later ++ before) e c in
        let first = begun_since s c later before in
        omega arith

    there : ℕ
    there = count_of looks_at_object s (later ++ before) c i
