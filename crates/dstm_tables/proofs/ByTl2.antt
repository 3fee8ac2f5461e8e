-- What an attempt leaves by TL2, in the words of both engines.
use Rattle.std.proofs.Common.{◌≡◌, ◌∙◌, ◌<◌, ◌≤◌, ◌⊎◌, ◌∷◌, ◌++◌, ℕ, List, [], Bool, None, Some, true, false, inl, inr, refl, sym, ap, subst, arith, Option, nat_lt, not}
use Rattle.std.proofs.lemmas.Bool.{cases_eq, ltb-false}
use Rattle.std.proofs.lemmas.Bool.Decides.{nat_tests}
use Rattle.dstm_model.specs.declared.value.Val.{Val}
use Rattle.dstm_machines.proofs.Runs as runs
use Rattle.dstm_machines.specs.Traces.{IsPastOf}
use Rattle.dstm_tl2.specs.declared.kind.Kind.{Kind}
use Rattle.dstm_tl2.specs.declared.kind.Kind.TheVariants.{Sample}
use Rattle.dstm_tl2.specs.Rules.{AllowedAs, Event, after}
use Rattle.dstm_tl2.specs.Runs.{Run, local, tl2}
use Rattle.dstm_tl2.specs.Sharing.{IsRunOf}
use Rattle.dstm_tl2.specs.State.{LocalState}
use Rattle.dstm_tl2.specs.Words.{Table}
use Rattle.dstm_tl2.proofs.Enrolment.{named}
use Rattle.dstm_tl2_words.specs.Seats.{Home}
use Rattle.dstm_tl2_order.specs.declared.again.TlAgain.{TlAgain}
use Rattle.dstm_tl2_order.proofs.Draws.{valid_commits}
use Rattle.dstm_tl2_engine.specs.Attempts.{Commits, Settles, done}
use Rattle.dstm_tl2_engine.specs.Callers.{TlCalled, handed, held, is_opened, state, table_of_caller}
use Rattle.dstm_tl2_engine.specs.Endings.{Attempts}
use Rattle.dstm_tl2_engine.specs.Makes.{Makes}
use Rattle.dstm_tl2_engine.proofs.Living.{attempts_are_calls, makes_one}
use Rattle.dstm_tl2_order.specs.Made.{LocksItsWrites}
use Rattle.dstm_tl2_order.specs.Tasks.Task.{Beginning}
use Rattle.dstm_tl2_engine.specs.Outcomes.{IsLeft}
use Rattle.dstm_tl2_engine.specs.Transactions.{SpentFrom}
use Rattle.dstm_tables.proofs.Left.{left_by}
use Rattle.dstm_tables.specs.declared.tables.Caller.TheVariants.{Tl2}
use Rattle.dstm_tables.specs.declared.tables.Table.TheVariants as table
use Rattle.dstm_tables.specs.Callers.{AtRest}
use Rattle.dstm_tables.specs.Tries.{Did, GoesOn, IsSpentFrom, OneMore, WasKept}

-- ---- of every run

-- a number that was found stays
number_later : (t : Table) (c : ℕ) (later es : List Event) → Run t (later ++ es) → (local t es c).number ≡ Some c →
    (local t (later ++ es) c).number ≡ Some c
number_later t c [] es run was = was
number_later t c (e ∷ later) es run was = go (cases_eq e.caller c) (number_later t c later es run.0 was)
  where
    go : (e.caller ≡ c) ⊎ (e.caller ≡ c → ⊥) → (local t (later ++ es) c).number ≡ Some c →
        (local t (e ∷ (later ++ es)) c).number ≡ Some c
    go (inl q) ih = subst (λ n. (local t (e ∷ (later ++ es)) n).number ≡ Some n) q (named t (later ++ es) e run)
    go (inr q) ih = ap (λ (l : LocalState). l.number) (runs.local_other tl2 t (later ++ es) e c q) ∙ ih

-- no caller begins more attempts than there are
pub begun_le : (t : Table) (es : List Event) → Run t es → (c : ℕ) → (local t es c).begun ≤ t.attempts
begun_le t [] run c = omega arith
begun_le t (e ∷ es) run c =
    runs.callers tl2 t es e (λ c l. l.begun ≤ t.attempts)
    (step (local t es e.caller) e.kind run.1.allowed (begun_le t es run.0 e.caller)) (λ c _. begun_le t es run.0 c) c
  where
    step : (l : LocalState) (k : Kind) → AllowedAs k t l e → l.begun ≤ t.attempts →
        (after k t l e).begun ≤ t.attempts
    step l Sample a h = let x = a.2.1 in omega arith
    step l k a h = grind (arith, nat_tests)

not_less : (a b : ℕ) → not (nat_lt a b) ≡ true → b ≤ a
not_less a b h = ltb-false a b (denied (nat_lt a b) h)
  where
    denied : (x : Bool) → not x ≡ true → x ≡ false
    denied true q = absurd (cc)
    denied false q = refl

-- a caller that has its number is one of the table's
number_below : (t : Table) (es : List Event) (c : ℕ) → Run t es → (local t es c).number ≡ Some c → c < t.callers
number_below t [] c run has = absurd (cc)
number_below t (e ∷ es) c run has = go (cases_eq e.caller c) (number_below t es c run.0)
  where
    go : (e.caller ≡ c) ⊎ (e.caller ≡ c → ⊥) → ((local t es c).number ≡ Some c → c < t.callers) → c < t.callers
    go (inl q) ih = subst (λ n. n < t.callers) q run.1.caller
    go (inr q) ih = ih (ap (λ (l : LocalState). l.number) (sym (runs.local_other tl2 t es e c q)) ∙ has)

module _ {L : Type 0} {holds : L → List Val → Type 0} where
  -- ---- of a caller

  -- a caller that goes on, and has nothing locked then
  pub tl2_on : (k n : TlCalled L) → AtRest holds (Tl2 k) → n.home ≡ k.home → n.number ≡ k.number → IsPastOf k.log n.log →
      IsRunOf holds k.home.terms n.log → (state n).holds ≡ [] → Makes LocksItsWrites k n → GoesOn holds (Tl2 k) (Tl2 n)
  tl2_on k n rest home number past run free calls =
      let run_there : IsRunOf holds n.home.terms n.log = rw home run in
      let before : (local (table_of_caller n) k.log n.number).number ≡ Some n.number = rw (home, number) rest.enrolled in
      let whole : Run (table_of_caller n) (past.later ++ k.log) = rw past.whole run_there.run.run in
      record {
        home = ap table.Tl2 home;
        number = number;
        seen = (ap (λ (h : Home L). h.terms) home, past);
        calls = calls;
        rest = record {
          run = run_there;
          enrolled = rw (← past.whole) (number_later (table_of_caller n) n.number past.later k.log whole before);
          over = free;
          right = tt;
        };
      }

  pub tl2_more : (k n : TlCalled L) (again : Option TlAgain) → AtRest holds (Tl2 k) → Attempts holds k n again → OneMore holds (Tl2 k) (Tl2 n)
  tl2_more k n again rest a =
      record { on = tl2_on k n rest a.same.0 a.same.1 a.past a.run a.free (attempts_are_calls holds k n again a); begun = a.begun }

  -- it has committed
  pub tl2_did : (is_right : List Val → List Val → Type 0) (leaves : (ℕ → Option Val) → (ℕ → Bool) → Type 0)
      (k ran n : TlCalled L) (number drawn : ℕ) → AtRest holds (Tl2 k) → Attempts holds k n None →
      Settles holds is_right k n number → Commits ran n drawn → leaves (held ran) (is_opened ran) →
      Did holds is_right leaves (Tl2 k) (Tl2 n) number
  tl2_did is_right leaves k ran n number drawn rest a s commits left =
      let made = tl2_more k n None rest a in record {
        made = made;
        committed = valid_commits (table_of_caller n) n.log n.number made.on.rest.run.run.run (a.valid refl);
        entry = s.entry;
        newest = s.done;
        right = s.right;
        left = left_by (held ran) (handed ran) (is_opened ran) commits.done s.done left commits.reads commits.writes;
        sighted = tt;
      }

  pub tl2_kept : (rechecks : ℕ) (k n : TlCalled L) (again : TlAgain) → AtRest holds (Tl2 k) → Attempts holds k n (Some again) → IsLeft n →
      done n ≡ done k → WasKept holds rechecks (Tl2 k) (Tl2 n)
  tl2_kept rechecks k n again rest a left same = record {
    made = tl2_more k n (Some again) rest a;
    disturbed = left.disturbed;
    aborted = tt;
    others = left.others;
    same_done = same;
    sighted = tt;
  }

  pub tl2_spent : (k n : TlCalled L) → AtRest holds (Tl2 k) → SpentFrom holds k n → IsSpentFrom holds (Tl2 k) (Tl2 n)
  tl2_spent k n rest s =
      let on = tl2_on k n rest s.steps.same.0 s.steps.same.1 s.steps.seen s.steps.run s.free
      (makes_one LocksItsWrites holds Beginning k n None tt s.steps) in record {
        on = on;
        begun = s.begun;
        was = s.spent;
        spent =
            let least = not_less (state k).begun (table_of_caller k).attempts s.spent in
            let most = begun_le (table_of_caller n) n.log on.rest.run.run.run n.number in
            let same : (table_of_caller n).attempts ≡ (table_of_caller k).attempts =
            ap (λ (h : Home L). h.terms.attempts) s.steps.same.0 in
            let begun = s.begun in omega (arith, least, most, same, begun);
        same_done = s.same_done;
      }

  pub tl2_number_below : (k : TlCalled L) → AtRest holds (Tl2 k) → k.number < k.home.terms.callers
  tl2_number_below k rest = number_below (table_of_caller k) k.log k.number rest.run.run.run rest.enrolled
