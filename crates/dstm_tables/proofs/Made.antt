-- What an attempt leaves by DSTM, from the clauses of the engine's calls.
use Rattle.std.proofs.Common.{◌≡◌, ◌∙◌, ◌+◌, ◌-◌, ◌*◌, ◌<◌, ◌≤◌, ◌++◌, ℕ, Bool, List, [], Some, true, sym, ap, subst, arith, is_some, eq-eqb, eqb-true}
use Rattle.std.specs.Prelude.{IfSome, Option}
use Rattle.dstm_model.specs.declared.value.Val.{Val}
use Rattle.dstm_core.specs.Events.{Event}
use Rattle.dstm_core.specs.Runs.{local}
use Rattle.dstm_core.specs.State.{LocalState, or_zero}
use Rattle.dstm_core.specs.Traces.{events_of, word}
use Rattle.dstm_core.specs.Words.{code_of}
use Rattle.dstm_core.specs.Words.Word.{StatusWord}
use Rattle.dstm_core.specs.declared.status.Status.TheVariants as status
use Rattle.dstm_progress.specs.Ends.{StaysAt}
use Rattle.dstm_progress.proofs.Ends.{named, spent_used_up}
use Rattle.dstm_progress.proofs.OwnEvents.{after_own, allowed_own}
use Rattle.dstm_progress.proofs.Sound.{number_stays, sound}
use Rattle.dstm_order.specs.declared.again.Again.{Again}
use Rattle.dstm_words.specs.Seats.{Home, IsRunOf}
use Rattle.dstm_engine.specs.Attempts.{Commits, Settles, done, looks, sights}
use Rattle.dstm_engine.specs.Callers.{Called, handed, held, is_opened, shape_of, state}
use Rattle.dstm_engine.specs.Endings.{Attempts}
use Rattle.dstm_engine.specs.Outcomes.{IsLeft, Promises}
use Rattle.dstm_engine.specs.Transactions.{SpentFrom}
use Rattle.dstm_tables.specs.Attempts.{HasCommitted, WasAborted}
use Rattle.dstm_tables.specs.declared.tables.Caller.TheVariants.{Dstm}
use Rattle.dstm_tables.specs.declared.tables.Table.TheVariants as table
use Rattle.dstm_tables.specs.Callers.{AtRest}
use Rattle.dstm_tables.specs.Tries.{Did, IsSpentFrom, OneMore, WasKept}
use Rattle.dstm_tables.proofs.Left.{left_by}
use Rattle.dstm_engine.proofs.Attempting.{attempt_makes}
use Rattle.dstm_engine.proofs.Anew.{new_after}
use Rattle.dstm_engine.proofs.Spending.{spent_fresh, spent_makes}

module _ {L : Type 0} {holds : L → List Val → Type 0} where
  -- ---- the caller's number

  -- a caller that has begun an attempt has its number
  pub numbered : (n : Called L) → IsRunOf holds n.home.terms n.log → 0 < (state n).begun →
      (state n).number ≡ Some n.number
  numbered n run begun =
      named (shape_of n) n.log run.run.core n.number ((sound (shape_of n) n.log run.run.core n.number).number begun)

  -- and keeps it
  pub number_kept : (k n : Called L) (events : List Event) → n.home ≡ k.home → n.number ≡ k.number →
      IsRunOf holds n.home.terms n.log → events_of n.number n.log ≡ events ++ events_of n.number k.log →
      (state k).number ≡ Some k.number → (state n).number ≡ Some n.number
  number_kept k n events home number run own was =
      let s = shape_of n in
      let before : local s k.log n.number ≡ state k =
      ap (λ (h : Home L). local h.terms.shape k.log n.number) home ∙ ap (local (shape_of k) k.log) number in
      let some : is_some (local s k.log n.number).number ≡ true =
      ap (λ (l : LocalState). is_some l.number) before ∙ ap is_some was in
      let stays = number_stays s (local s k.log n.number) events (allowed_own s n.number n.log k.log events run.run.core own) some in
      ap (λ (l : LocalState). l.number) (after_own s n.number n.log k.log events own) ∙ stays
      ∙ ap (λ (l : LocalState). l.number) before ∙ was ∙ ap Some (sym number)

  -- ---- statuses

  -- an attempt whose status is committed and stays so has committed
  pub has_committed : (n : Called L) → IsRunOf holds n.home.terms n.log → (state n).number ≡ Some n.number →
      StaysAt (shape_of n) n.log n.number (code_of status.Committed) →
      HasCommitted (shape_of n) n.log n.number (state n).begun
  has_committed n run number stays =
      let s = shape_of n in
      let now : word s n.log (StatusWord (or_zero (state n).number * s.attempts + ((state n).begun - 1))) ≡ 4 =
      stays [] run.run.core in
      eq-eqb (word s n.log (StatusWord (n.number * s.attempts + ((state n).begun - 1)))) 4
      (ap (λ (o : Option ℕ). word s n.log (StatusWord (or_zero o * s.attempts + ((state n).begun - 1)))) (sym number) ∙ now)

  -- one whose status is aborted and stays so was aborted
  pub was_aborted : (n : Called L) → AtRest holds (Dstm n) → StaysAt (shape_of n) n.log n.number (code_of status.Aborted) →
      WasAborted (shape_of n) n.log n.number (state n).begun
  was_aborted n rest stays =
      let s = shape_of n in
      ap (λ (o : Option ℕ). word s n.log (StatusWord (or_zero o * s.attempts + ((state n).begun - 1)))) (sym rest.enrolled)
      ∙ stays [] rest.run.run.core

  -- and has not committed
  pub not_committed : (n : Called L) → AtRest holds (Dstm n) → StaysAt (shape_of n) n.log n.number (code_of status.Aborted) →
      HasCommitted (shape_of n) n.log n.number (state n).begun → ⊥
  not_committed n rest stays committed =
      let s = shape_of n in
      let here : word s n.log (StatusWord (n.number * s.attempts + ((state n).begun - 1))) ≡ 5 = was_aborted n rest stays in
      let four = eqb-true (word s n.log (StatusWord (n.number * s.attempts + ((state n).begun - 1)))) 4 committed in
      omega arith

  -- ---- what the engine's attempts leave

  pub run_there : (k n : Called L) → n.home ≡ k.home → IsRunOf holds k.home.terms n.log → IsRunOf holds n.home.terms n.log
  run_there k n home run = subst (λ (h : Home L). IsRunOf holds h.terms n.log) (sym home) run

  pub one_more : (k n : Called L) (again : Option Again) → AtRest holds (Dstm k) → Attempts holds k n again →
      OneMore holds (Dstm k) (Dstm n)
  one_more k n again rest a =
      let run = run_there k n a.same.0 a.run in record {
        on = record {
          home = ap table.Dstm a.same.0;
          number = a.same.1;
          seen = (ap (λ (h : Home L). h.terms) a.same.0, a.seen);
          calls = attempt_makes holds k n again rest.right a;
          rest = record {
            run = run;
            enrolled = numbered n run (let b = a.begun in omega arith);
            over = a.over;
            right = a.fresh ∙ sym (new_after holds k n again a);
          };
        };
        begun = a.begun;
      }

  -- an attempt whose status is committed and stays so
  pub did : (is_right : List Val → List Val → Type 0) (leaves : (ℕ → Option Val) → (ℕ → Bool) → Type 0)
      (k ran n : Called L) (number drawn : ℕ) → AtRest holds (Dstm k) →
      OneMore holds (Dstm k) (Dstm n) → StaysAt (shape_of n) n.log n.number (code_of status.Committed) →
      Settles holds is_right k n number → Commits ran n drawn → leaves (held ran) (is_opened ran) → sights n ≤ looks n →
      Did holds is_right leaves (Dstm k) (Dstm n) number
  did is_right leaves k ran n number drawn rest made stays s commits left few = record {
    made = made;
    committed = has_committed n made.on.rest.run made.on.rest.enrolled stays;
    entry = s.entry;
    newest = s.done;
    right = λ map size lawful agrees. s.right map (size ∙ rest.run.run.values) lawful agrees;
    left = left_by (held ran) (handed ran) (is_opened ran) commits.done s.done left commits.reads commits.writes;
    sighted = omega (arith, few);
  }

  pub was_kept : (k n : Called L) (again : Again) → AtRest holds (Dstm k) → Attempts holds k n (Some again) → done n ≡ done k →
      sights n ≤ looks n → WasKept holds 0 (Dstm k) (Dstm n)
  was_kept k n again rest a same few =
      let left : IsLeft n again × Promises n again =
      subst (λ o. IfSome o (λ (x : Again). IsLeft n x × Promises n x)) (sym a.answers) a.ended.left in
      let one = one_more k n (Some again) rest a in
      record {
        made = one;
        disturbed = left.0.disturbed;
        aborted = was_aborted n one.on.rest left.0.aborted;
        others = left.0.callers;
        same_done = same;
        sighted = omega (arith, few);
      }

  pub is_spent_from : (k n : Called L) → AtRest holds (Dstm k) → SpentFrom holds k n → IsSpentFrom holds (Dstm k) (Dstm n)
  is_spent_from k n rest s =
      let home : n.home ≡ k.home = ap (λ (c : Called L). c.home) s.caller in
      let number : n.number ≡ k.number = ap (λ (c : Called L). c.number) s.caller in
      let run = run_there k n home s.steps.run in
      let own : events_of n.number n.log ≡ s.steps.events ++ events_of n.number k.log = rw number s.steps.own in
      record {
        on = record {
          home = ap table.Dstm home;
          number = number;
          seen = (ap (λ (h : Home L). h.terms) home, s.steps.seen);
          calls = spent_makes holds k n rest.right s;
          rest = record {
            run = run;
            enrolled = number_kept k n s.steps.events home number run own rest.enrolled;
            over = s.live;
            right = spent_fresh holds k n rest.right s;
          };
        };
        begun = s.begun;
        was = s.spent;
        spent = spent_used_up (shape_of n) n.log n.number run.run.core s.used_up;
        same_done = s.same_done;
      }
