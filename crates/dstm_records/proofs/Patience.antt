-- Kills are chosen by the manager, in every record of calls.
use Rattle.std.proofs.Common.{◌≡◌, ◌≤◌, ◌+◌, ◌==◌, ◌&&◌, ◌⊎◌, ◌∙◌, ◌∷◌, ◌++◌, Bool, List, [], ℕ, true, false, refl, sym, subst, inl, inr, arith, not, is_some, Option}
use Rattle.std.specs.Prelude.{if◌then◌else◌}
use Rattle.dstm_records.proofs.Base.{AreMade, Call, Each, Greedy, Karma, Paused, Polite, Polka, Shape, TriesAgain, cases_Bool, cond_both, events_in, events_of, first, generator_by, le-leb, leb-true, lt-ltb, ltb-true, or_zero, res, state_by}
use Rattle.rand_pcg.specs.Lcg.{Lcg}
use Rattle.dstm_core.specs.Events.{Event}
use Rattle.dstm_core.specs.Rules.{is_outside}
use Rattle.dstm_core.specs.State.{LocalState}
use Rattle.dstm_core.specs.declared.event.Kind.{Kind}
use Rattle.dstm_core.specs.declared.event.Kind.TheVariants.{Begin, Install, Kill, LookObj, LookStatus, Rank, Stamp}
use Rattle.dstm_core.specs.declared.shape.Manager.{Manager}
use Rattle.dstm_core.specs.declared.state.Phase.{Phase}
use Rattle.dstm_core.specs.declared.status.Status.{Status}
use Rattle.dstm_managers.specs.Choices.{choice, kills, patience}
use Rattle.dstm_managers.specs.declared.decider.Choice.TheVariants as decision
use Rattle.dstm_order.specs.Calls.{Obeys, effort_of, newest_of, state_after}
use Rattle.dstm_order.specs.Efforts.{Effort, chosen, effort_after, exchanges, is_turn, status_of, turn, turn_in, turn_of_conflict, turns_of, when_asked}
use Rattle.dstm_order.specs.Made.{ByCalls}
use Rattle.dstm_order.specs.Order.{Due, IsDue, due, has_begun, has_ranks, has_stamps, is_spent, just, rises}
use Rattle.dstm_order.specs.Order.Due.{Done, Step}
use Rattle.dstm_order.specs.Tasks.{Task, Work}
use Rattle.dstm_order.specs.Tasks.Task.{Beginning, Doing, Enrolling, Leaving}
use Rattle.dstm_progress.proofs.Kills.{kills_are_chosen}
use Rattle.dstm_progress.proofs.Own.{state_both}
use Rattle.dstm_records.specs.Patience.{WasChosen, looks_after, looks_at_enemy}

-- ---- a round of waiting has a look

module _ (f : Effort) (n : ℕ) (few : f.round ≤ n) where
  -- with at most one round more
  abbrev OneMore : Effort → Type 0
  OneMore g = g.round ≤ n + 1

  turn_few : (left : ℕ) (g : Effort) → g.round ≤ n → OneMore (turn left g)
  turn_few left g h =
      cond_both (left == 1) (g.round + 1) g.round (λ r. r ≤ n + 1) (λ _. omega (arith, h)) (λ _. omega (arith, h))

  conflict_few : (m : Manager) (l : LocalState) → OneMore (turn_of_conflict m l f)
  conflict_few m l =
      cond_both (f.left == 0) (turn (turns_of (chosen m l f)) (when_asked m l f)) (turn f.left f) OneMore
      (λ _. turn_few (turns_of (chosen m l f)) (when_asked m l f) few) (λ _. turn_few f.left f few)

  look_few : (p : Phase) (m : Manager) (l : LocalState) → OneMore (turn_in p m l f)
  look_few Paused m l = omega (arith, few)
  look_few p m l = conflict_few m l

  exchange_few : (e : Event) → (exchanges f e).round ≤ n
  exchange_few e = cond_both (e.found == e.expected) _ _ (λ (g : Effort). g.round ≤ n) (λ _. few) (λ _. few)

  rounds_few : (k : Kind) (m : Manager) (l : LocalState) (e : Event) → (effort_after k m l f e).round ≤ looks_after k n
  rounds_few LookObj m l e = omega arith
  rounds_few LookStatus m l e =
      cond_both (is_turn LookStatus l) (turn_in l.phase m l f) f OneMore (λ _. look_few l.phase m l)
      (λ _. omega (arith, few))
  rounds_few Install m l e = exchange_few e
  rounds_few Kill m l e = exchange_few e
  rounds_few k m l e = few

rounds_are_looks : (s : Shape) (l : LocalState) (g : Lcg) (es : List Event) →
    (effort_of s l g es).round ≤ looks_at_enemy es
rounds_are_looks s l g [] = omega arith
rounds_are_looks s l g (e ∷ es) =
    rounds_few (effort_of s l g es) (looks_at_enemy es) (rounds_are_looks s l g es) e.kind s.manager (state_after s l es) e

looks_grow : (k : Kind) (m n : ℕ) → m ≤ n → looks_after k m ≤ looks_after k n
looks_grow LookObj m n few = omega arith
looks_grow LookStatus m n few = omega (arith, few)
looks_grow k m n few = few

looks_behind : (es older : List Event) → looks_at_enemy es ≤ looks_at_enemy (es ++ older)
looks_behind [] older = omega arith
looks_behind (e ∷ es) older = looks_grow e.kind (looks_at_enemy es) (looks_at_enemy (es ++ older)) (looks_behind es older)

-- ---- a manager that aborts an enemy

kill_chosen : (m : Manager) (own enemy : ℕ) (st : Status) (round word : ℕ) →
    choice m own enemy st round word ≡ decision.Kill → kills m own enemy st round ≡ true
kill_chosen m own enemy st round word is = elim (cases_Bool (kills m own enemy st round)) [
  | inl wanted ↦ wanted
  | inr other ↦ absurd (none m (let p : patience m round word ≡ decision.Kill = rw other at is in p))
]
  where
    none : (m : Manager) → patience m round word ≡ decision.Kill → ⊥
    none Polite is = cc
    none Karma is = cc
    none Polka is = cc
    none Greedy is = cc

kills_later : (m : Manager) (own enemy : ℕ) (st : Status) (r n : ℕ) → r ≤ n → kills m own enemy st r ≡ true →
    kills m own enemy st n ≡ true
kills_later Polite own enemy st r n few is = le-leb 8 n (let h = leb-true 8 r is in omega (arith, h, few))
kills_later Karma own enemy st r n few is = lt-ltb enemy (n + own) (let h = ltb-true enemy (r + own) is in omega (arith, h, few))
kills_later Polka own enemy st r n few is = lt-ltb enemy (n + own) (let h = ltb-true enemy (r + own) is in omega (arith, h, few))
kills_later Greedy own enemy st r n few is = is

-- ---- no Kill is due but in a call on an attempt

abbrev kill_due : Due → Bool
kill_due (Step Kill n) = true
kill_due (Step k n) = false
kill_due Done = false

abbrev NoKill : Due → Type 0
NoKill d = kill_due d ≡ false

enrolling_none : (s : Shape) (o : Option Event) (l : LocalState) (f : Effort) → NoKill (due Enrolling s o l f)
enrolling_none s o l f = cond_both (is_some l.number) _ _ NoKill (λ _. refl) (λ _. refl)

leaving_none : (s : Shape) (o : Option Event) (l : LocalState) (f : Effort) → NoKill (due Leaving s o l f)
leaving_none s o l f = cond_both (is_outside l.phase) _ _ NoKill (λ _. refl) (λ _. refl)

beginning_none : (fresh : Bool) (s : Shape) (o : Option Event) (l : LocalState) (f : Effort) →
    NoKill (due (Beginning fresh) s o l f)
beginning_none fresh s o l f =
    cond_both (has_begun o) _ _ NoKill (λ _. refl) (λ _.
    cond_both (not (is_outside l.phase)) _ _ NoKill (λ _. refl) (λ _.
    cond_both (is_spent s l) _ _ NoKill (λ _. refl) (λ _.
    cond_both (has_stamps s.manager && fresh && not l.stamped) (just Stamp)
    (if has_ranks s.manager && not l.ranked then Step Rank (if rises s.manager && fresh then 0 else l.rank) else just Begin)
    NoKill (λ _. refl) (λ _.
    cond_both (has_ranks s.manager && not l.ranked) (Step Rank (if rises s.manager && fresh then 0 else l.rank)) (just Begin)
    NoKill (λ _. refl) (λ _. refl)))))

no_kill : (d : Due) (e : Event) → NoKill d → IsDue d e → e.kind ≡ Kill → ⊥
no_kill (Step k n) e none is kind =
    let no_way : kill_due (Step Kill n) ≡ false = subst (λ k. kill_due (Step k n) ≡ false) (sym is.0 ∙ kind) none in cc
no_kill Done e none is kind = is

-- ---- the calls of a caller

module _ (s : Shape) (g : Lcg) where
  abbrev AreChosen : List Event → Type 0
  AreChosen es = Each (λ e own. e.kind ≡ Kill → WasChosen s g own) es

  module _ (cs : List Call) (made : AreMade s first g TriesAgain cs) (before : AreChosen (events_in cs)) where
    abbrev Here : LocalState
    Here = state_by s first g cs

    abbrev Now : Lcg
    Now = generator_by s first g cs

    others_chosen : (t : Task) → ((o : Option Event) (l : LocalState) (f : Effort) → NoKill (due t s o l f)) →
        (es : List Event) → Obeys t s Here Now es → AreChosen (es ++ events_in cs)
    others_chosen t none [] h = before
    others_chosen t none (e ∷ es) h = (
      others_chosen t none es h.0,
      λ kind. absurd (no_kill (due t s (newest_of es) (state_after s Here es) (effort_of s Here Now es)) e
          (none (newest_of es) (state_after s Here es) (effort_of s Here Now es)) h.1 kind),
    )

    was_chosen : (w : Work) (e : Event) (es : List Event) → Obeys (Doing w) s Here Now (e ∷ es) → e.kind ≡ Kill →
        WasChosen s g (es ++ events_in cs)
    was_chosen w e es h kind =
        let same : state_after s first (es ++ events_in cs) ≡ state_after s Here es = state_both s first es (events_in cs) in
        let is : chosen s.manager (state_after s first (es ++ events_in cs)) (effort_of s Here Now es) ≡ decision.Kill =
        subst (λ (l : LocalState). chosen s.manager l (effort_of s Here Now es) ≡ decision.Kill) (sym same)
        (kills_are_chosen w s Here Now e es h kind) in
        let l = state_after s first (es ++ events_in cs) in record {
          earlier = cs;
          work = w;
          events = es;
          are = refl;
          made = made;
          obeys = h.0;
          chosen = is;
          waited =
              kills_later s.manager l.rank (or_zero (res l).rank) (status_of (or_zero (res l).status))
              (effort_of s Here Now es).round (looks_at_enemy (es ++ events_in cs))
              (let a = rounds_are_looks s Here Now es in let b = looks_behind es (events_in cs) in omega (arith, a, b))
              (kill_chosen s.manager l.rank (or_zero (res l).rank) (status_of (or_zero (res l).status))
              (effort_of s Here Now es).round _ is);
        }

    doing_chosen : (w : Work) (es : List Event) → Obeys (Doing w) s Here Now es → AreChosen (es ++ events_in cs)
    doing_chosen w [] h = before
    doing_chosen w (e ∷ es) h = (doing_chosen w es h.0, was_chosen w e es h)

    call_chosen : (t : Task) (es : List Event) → Obeys t s Here Now es → AreChosen (es ++ events_in cs)
    call_chosen Enrolling es h = others_chosen Enrolling (enrolling_none s) es h
    call_chosen (Beginning fresh) es h = others_chosen (Beginning fresh) (beginning_none fresh s) es h
    call_chosen Leaving es h = others_chosen Leaving (leaving_none s) es h
    call_chosen (Doing w) es h = doing_chosen w es h

  calls_chosen : (cs : List Call) → AreMade s first g TriesAgain cs → AreChosen (events_in cs)
  calls_chosen [] made = tt
  calls_chosen (c ∷ cs) made = call_chosen cs made.0 (calls_chosen cs made.0) c.task c.events made.2.obeys

  pub all_chosen : {log : List Event} {c : ℕ} → ByCalls TriesAgain s g log c → AreChosen (events_of c log)
  all_chosen by = subst AreChosen (sym by.own) (calls_chosen by.calls by.made)
