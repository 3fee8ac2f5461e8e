-- Who disturbs an attempt: another caller, since its Begin or, where it gives way, before it.
use Rattle.std.proofs.Common.{◌&&◌, ◌++◌, ◌+◌, ◌<◌, ◌==◌, ◌∙◌, ◌∷◌, ◌≡◌, ◌≢◌, ◌≤◌, ◌⊎◌, Bool, List, [], ap, append-nil, arith, false, inl, inr, not, refl, subst, sym, true, ℕ}
use Rattle.dstm_core.proofs.Base.{AllowedAs, Core, Event, LocalState, StatusWord, after, cases_Bool, cases_lt, eq-eqb, given, local, ne_eqb, own_attempt, place}
use Rattle.dstm_core.proofs.Pasts.{core_past}
use Rattle.dstm_core.proofs.Static.{begun_more, local_own}
use Rattle.dstm_core.proofs.Statuses.{begun_up}
use Rattle.dstm_core.proofs.Underway.{is_outside_now}
use Rattle.dstm_order.proofs.Base.{Begin, Commit, Drawn, Enrol, Install, Kill, Kind, LookSelf, Outside, Pause, Paused, Phase, Putting, Quit, Rank, Resume, Running, Shape, Stamp, ToValidating, Validating, is_miss}
use Rattle.dstm_progress.specs.Alone.{AreOf}
use Rattle.dstm_progress.specs.Causes.{finds_aborted, finds_stale, gives_way, is_at_own}
use Rattle.dstm_progress.specs.Disturbed.{Disturbed, HasOther, count_of, fails}
use Rattle.dstm_progress.specs.Disturbed.Disturbed.{became_stale, gave_way, missed, was_aborted}
use Rattle.dstm_progress.specs.Calls.{DisturbedBesideAnother, DisturbedByAnother, NoneIsDisturbedAlone}
use Rattle.dstm_progress.proofs.Alone.{Undisturbed, awake_step, fresh_after, install_succeeds, kill_succeeds, undisturbed_step}
use Rattle.dstm_progress.proofs.Calls.{begins_undisturbed, no_pause_due, not_paused, own_status_found}
use Rattle.dstm_progress.proofs.Outside.{early, early_out, is_early}
use Rattle.dstm_progress.proofs.Others.{one_alone, own_or_other}

-- ---- the events before a Begin

not_both : (b : Bool) → (b && not b) ≡ false
not_both true = refl
not_both false = refl

early_fresh : (s : Shape) (l : LocalState) (e : Event) (k : Kind) → is_early k ≡ true →
    ((after k s l e).stale && not l.stale) ≡ false
early_fresh s l e Enrol h = not_both l.stale
early_fresh s l e Stamp h = not_both l.stale
early_fresh s l e Rank h = not_both l.stale
early_fresh s l e Begin h = refl
early_fresh s l e k h = absurd (cc)

early_hits : (k : Kind) (e : Event) → is_early k ≡ true → is_miss k e ≡ false
early_hits Install e h = absurd (cc)
early_hits Kill e h = absurd (cc)
early_hits k e h = refl

early_apart : (k : Kind) → is_early k ≡ true → is_at_own k ≡ false
early_apart k h = grind arith

-- ---- an own event, of an attempt that found all as it is

-- no attempt is under way, or what it found is so now
abbrev Fine : Shape → List Event → ℕ → Type 0
Fine s es c = ((local s es c).phase ≡ Outside) ⊎ Undisturbed s es c

at_own_place : (s : Shape) (l : LocalState) (e : Event) (k : Kind) → AllowedAs k s l e → is_at_own k ≡ true →
    e.place ≡ place s (StatusWord (own_attempt s l))
at_own_place s l e LookSelf a h = a.0
at_own_place s l e ToValidating a h = a.0
at_own_place s l e Commit a h = a.0
at_own_place s l e Quit a h = a.0
at_own_place s l e Pause a h = a.0
at_own_place s l e Resume a h = a.0
at_own_place s l e k a h = absurd (cc)

given_live : (p : Phase) → (given p == 5) ≡ false
given_live p = grind arith

hits : (k : Kind) (e : Event) → (k ≡ Install → e.found ≡ e.expected) → (k ≡ Kill → e.found ≡ e.expected) →
    is_miss k e ≡ false
hits Install e f g = rw (eq-eqb e.found e.expected (f refl)) refl
hits Kill e f g = rw (eq-eqb e.found e.expected (g refl)) refl
hits k e f g = refl

module _ (s : Shape) (es : List Event) (e : Event) (core : Core s (e ∷ es)) where
  abbrev l : LocalState
  l = local s es e.caller

  fine_stale : Fine s es e.caller → finds_stale s l e ≡ false
  fine_stale (inl o) = early_fresh s l e e.kind (early s l e e.kind core.1.allowed o)
  fine_stale (inr u) = rw (fresh_after s es e e.kind core.1.linked core.1.allowed u.agreed u.reads) refl

  fine_aborted : Fine s es e.caller → finds_aborted s l e ≡ false
  fine_aborted (inl o) = rw (early_apart e.kind (early s l e e.kind core.1.allowed o)) refl
  fine_aborted (inr u) = elim (cases_Bool (is_at_own e.kind)) [
    | inl q ↦ rw (q, own_status_found e core u (at_own_place s l e e.kind core.1.allowed q)) (given_live l.phase)
    | inr q ↦ rw q refl
  ]

  fine_hits : Fine s es e.caller → fails s l e ≡ false
  fine_hits (inl o) = early_hits e.kind e (early s l e e.kind core.1.allowed o)
  fine_hits (inr u) = hits e.kind e (install_succeeds e core u) (kill_succeeds e core u)

  fine_step : Fine s es e.caller → Fine s (e ∷ es) e.caller
  fine_step h = by h (is_outside_now (local s (e ∷ es) e.caller).phase)
    where
      by : Fine s es e.caller →
          ((local s (e ∷ es) e.caller).phase ≡ Outside) ⊎ ((local s (e ∷ es) e.caller).phase ≢ Outside) →
          Fine s (e ∷ es) e.caller
      by h (inl out) = inl out
      by (inr u) (inr i) = inr (undisturbed_step e core i u)
      by (inl o) (inr i) =
          inr (begins_undisturbed s es e core (early_out s l e e.kind (early s l e e.kind core.1.allowed o) o
          (λ q. i (ap (λ (m : LocalState). m.phase) (local_own s es e) ∙ q))))

  no_pause : Fine s es e.caller → AreOf e.caller es → e.kind ≢ Pause
  no_pause (inl o) own k =
      let x : is_early Pause ≡ true = subst (λ k. is_early k ≡ true) k (early s l e e.kind core.1.allowed o) in
      absurd (cc)
  no_pause (inr u) own k = no_pause_due e core (inr own) u k

-- ---- what is counted

abbrev Test : Type 0
Test = Shape → LocalState → Event → Bool

no_third : (a b c : Bool) → c ≡ false → (a && (b && c)) ≡ false
no_third true true c q = q
no_third true false c q = refl
no_third false b c q = refl

no_second : (a b c : Bool) → b ≡ false → (a && (b && c)) ≡ false
no_second true b c q = rw q refl
no_second false b c q = refl

no_first : (a b : Bool) → a ≡ false → (a && b) ≡ false
no_first a b q = rw q refl

-- an event that does not count
same_count : (test : Test) (s : Shape) (es : List Event) (e : Event) (c i : ℕ) →
    ((e.caller == c) && (((local s es c).begun == i) && test s (local s es c) e)) ≡ false →
    count_of test s (e ∷ es) c i ≡ count_of test s es c i
same_count test s es e c i q = rw q refl

-- one that passes no test
none_counts : (test : Test) (s : Shape) (es : List Event) (e : Event) (i : ℕ) →
    test s (local s es e.caller) e ≡ false → count_of test s (e ∷ es) e.caller i ≡ count_of test s es e.caller i
none_counts test s es e i q =
    same_count test s es e e.caller i
    (no_third (e.caller == e.caller) ((local s es e.caller).begun == i) (test s (local s es e.caller) e) q)

-- before an attempt has begun none of its events counts
none_before : (test : Test) (s : Shape) (es : List Event) (c i : ℕ) → (local s es c).begun < i →
    count_of test s es c i ≡ 0
none_before test s [] c i h = refl
none_before test s (e ∷ es) c i h =
    let more = begun_more s es e c in
    same_count test s es e c i (no_second (e.caller == c) ((local s es c).begun == i) (test s (local s es c) e)
    (ne_eqb (local s es c).begun i (λ q. omega arith)))
    ∙ none_before test s es c i (omega arith)

-- nor its Begin
none_at_begin : (test : Test) (s : Shape) (e : Event) (es : List Event) → e.kind ≡ Begin →
    count_of test s (e ∷ es) e.caller (local s (e ∷ es) e.caller).begun ≡ 0
none_at_begin test s e es k =
    let c = e.caller in
    let i = (local s (e ∷ es) c).begun in
    let up : i ≡ (local s es c).begun + 1 =
    ap (λ (m : LocalState). m.begun) (local_own s es e) ∙ begun_up s (local s es c) e k in
    same_count test s es e c i (no_second (e.caller == c) ((local s es c).begun == i) (test s (local s es c) e)
    (ne_eqb (local s es c).begun i (λ q. omega arith)))
    ∙ none_before test s es c i (omega arith)

-- nothing counts of a caller that is none of the table
none_of_strangers : (test : Test) (s : Shape) (es : List Event) (c i : ℕ) → Core s es → s.callers ≤ c →
    count_of test s es c i ≡ 0
none_of_strangers test s [] c i core h = refl
none_of_strangers test s (e ∷ es) c i core h =
    let b = core.1.caller in
    same_count test s es e c i (no_first (e.caller == c) (((local s es c).begun == i) && test s (local s es c) e)
    (ne_eqb e.caller c (λ q. omega arith)))
    ∙ none_of_strangers test s es c i core.0 h

-- ---- own events alone

-- since some log nothing that disturbs was found, but that an enemy lives
record Quiet (s : Shape) (c i : ℕ) (log before : List Event) : Type 0 where
  pub fine : Fine s log c
  pub stale : count_of finds_stale s log c i ≡ count_of finds_stale s before c i
  pub aborted : count_of finds_aborted s log c i ≡ count_of finds_aborted s before c i
  pub failed : count_of fails s log c i ≡ count_of fails s before c i

quiet_step : {s : Shape} {i : ℕ} (e : Event) {log before : List Event} → Core s (e ∷ log) →
    Quiet s e.caller i log before → Quiet s e.caller i (e ∷ log) before
quiet_step {s = s} {i = i} e {log = log} core h = record {
  fine = fine_step s log e core h.fine;
  stale = none_counts finds_stale s log e i (fine_stale s log e core h.fine) ∙ h.stale;
  aborted = none_counts finds_aborted s log e i (fine_aborted s log e core h.fine) ∙ h.aborted;
  failed = none_counts fails s log e i (fine_hits s log e core h.fine) ∙ h.failed;
}

quiet : (s : Shape) (c i : ℕ) (later before : List Event) → Core s (later ++ before) → AreOf c later →
    Fine s before c → Quiet s c i (later ++ before) before
quiet s c i [] before core own fine = record { fine = fine; stale = refl; aborted = refl; failed = refl }
quiet s c i (e ∷ later) before core own fine =
    subst (λ c. Quiet s c i (later ++ before) before → Quiet s c i (e ∷ (later ++ before)) before) own.0
    (quiet_step e core) (quiet s c i later before core.0 own.1 fine)

-- where all events are its own it does not give way either
record Alone (s : Shape) (c i : ℕ) (log : List Event) : Type 0 where
  pub fine : Fine s log c
  pub awake : (local s log c).phase ≢ Paused
  pub none : count_of gives_way s log c i ≡ 0

alone_step : {s : Shape} {i : ℕ} (e : Event) {log : List Event} → Core s (e ∷ log) → AreOf e.caller log →
    Alone s e.caller i log → Alone s e.caller i (e ∷ log)
alone_step {s = s} {i = i} e {log = log} core own h = record {
  fine = fine_step s log e core h.fine;
  awake = awake_step s log e core (no_pause s log e core h.fine own) h.awake;
  none = none_counts gives_way s log e i (rw (not_paused (local s log e.caller).phase h.awake) refl) ∙ h.none;
}

alone : (s : Shape) (c i : ℕ) (log : List Event) → Core s log → AreOf c log → Alone s c i log
alone s c i [] core own = record { fine = inl refl; awake = λ q. cc; none = refl }
alone s c i (e ∷ log) core own =
    subst (λ c. AreOf c log → Alone s c i log → Alone s c i (e ∷ log)) own.0 (alone_step e core) own.1
    (alone s c i log core.0 own.1)

-- ---- disturbances

pub by_another : DisturbedByAnother
by_another s later begin before core k few h = by (own_or_other begin.caller later)
  where
    by : AreOf begin.caller later ⊎ HasOther begin.caller later → HasOther begin.caller later
    by (inr x) = x
    by (inl own) =
        let i = (local s (begin ∷ before) begin.caller).begun in
        let began = core_past s later (begin ∷ before) core in
        let q = quiet s begin.caller i later (begin ∷ before) core own (inr (begins_undisturbed s before begin began k)) in
        absurd (found q h)
      where
        found : Quiet s begin.caller (local s (begin ∷ before) begin.caller).begun (later ++ begin ∷ before)
            (begin ∷ before) →
            Disturbed s (later ++ begin ∷ before) begin.caller (local s (begin ∷ before) begin.caller).begun → ⊥
        found q (became_stale x) = let n = none_at_begin finds_stale s begin before k in let a = q.stale in omega arith
        found q (was_aborted x) =
            let n = none_at_begin finds_aborted s begin before k in let a = q.aborted in omega arith
        found q (missed x) = let n = none_at_begin fails s begin before k in let a = q.failed in omega arith
        found q (gave_way g x) = let y = few g in omega arith

alone_is_not : {s : Shape} {log : List Event} {c i : ℕ} → Core s log → AreOf c log → Disturbed s log c i → ⊥
alone_is_not {s = s} {log = log} {c = c} {i = i} core own h =
    found (subst (λ xs. Quiet s c i xs []) (append-nil log) now) h
  where
    now : Quiet s c i (log ++ []) []
    now = quiet s c i log [] (subst (Core s) (sym (append-nil log)) core) own (inl refl)

    found : Quiet s c i log [] → Disturbed s log c i → ⊥
    found q (became_stale x) = let a = q.stale in omega arith
    found q (was_aborted x) = let a = q.aborted in omega arith
    found q (missed x) = let a = q.failed in omega arith
    found q (gave_way g x) = let a = (alone s c i log core own).none in omega arith

pub beside_another : DisturbedBesideAnother
beside_another s log c i core h = elim (own_or_other c log) [ inr x ↦ x | inl own ↦ absurd (alone_is_not core own h) ]

stranger_is_not : {s : Shape} {log : List Event} {c i : ℕ} → Core s log → s.callers ≤ c → Disturbed s log c i → ⊥
stranger_is_not {s = s} {log = log} {c = c} {i = i} core b (became_stale x) =
    let a = none_of_strangers finds_stale s log c i core b in omega arith
stranger_is_not {s = s} {log = log} {c = c} {i = i} core b (was_aborted x) =
    let a = none_of_strangers finds_aborted s log c i core b in omega arith
stranger_is_not {s = s} {log = log} {c = c} {i = i} core b (missed x) =
    let a = none_of_strangers fails s log c i core b in omega arith
stranger_is_not {s = s} {log = log} {c = c} {i = i} core b (gave_way g x) =
    let a = none_of_strangers gives_way s log c i core b in omega arith

pub none_alone : NoneIsDisturbedAlone
none_alone s log c i core h = by (cases_lt 1 s.callers) (cases_lt c s.callers)
  where
    by : (1 < s.callers) ⊎ (s.callers ≤ 1) → (c < s.callers) ⊎ (s.callers ≤ c) → 1 < s.callers
    by (inl x) y = x
    by (inr few) (inl b) = absurd (alone_is_not core (one_alone s log c core b few) h)
    by (inr few) (inr b) = absurd (stranger_is_not core b h)
