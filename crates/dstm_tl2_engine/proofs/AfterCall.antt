-- A caller after a call: its attempt, and what it has committed.
use Rattle.std.proofs.Common.{◌≡◌, ◌<◌, ◌⊎◌, ◌∷◌, ◌++◌, ◌∙◌, List, [], ap, sym, subst, true, false, Option, None, Some, refl}
use Rattle.dstm_tl2_engine.proofs.Base.{Home, LocalState, Run, Table, Task, TlAgain, Val, answer_of, is_sample, is_valid, local, state_after, tl2}
use Rattle.dstm_tl2_order.specs.Ended.{Disturbed}
use Rattle.dstm_tl2_order.proofs.Disturbing.{answers_disturb}
use Rattle.dstm_tl2_engine.specs.Attempts.{attempt_of, done}
use Rattle.dstm_tl2_engine.specs.Callers.{TlCalled, begun_log, since_sample, state, table_of_caller}
use Rattle.dstm_tl2_engine.specs.Calls.{Performs}
use Rattle.dstm_tl2_engine.specs.Outcomes.{IsLeft, begun_state, own_since}
use Rattle.dstm_tl2_engine.proofs.Begun.{begun_count}
use Rattle.dstm_tl2_engine.proofs.CallKinds.{commits_in, samples_in, uncommitting, unsampled}
use Rattle.dstm_tl2_order.proofs.Causing.{answers_since}
use Rattle.dstm_machines.proofs.Attempts.{begun_after, log_parts, since_after}
use Rattle.dstm_machines.proofs.Own.{own_state}
use Rattle.dstm_tl2.proofs.Done.{invalid_after, quiet_after, valid_after}
use Rattle.dstm_tl2_engine.proofs.Left.{is_left}

module _ {L : Type 0} {holds : L → List Val → Type 0} {k n : TlCalled L} {task : Task} {again : Option TlAgain}
    (p : Performs holds task k n again) where
  run_then : Run (table_of_caller k) n.log
  run_then = p.run.run.run

  pub table_then : table_of_caller n ≡ table_of_caller k
  table_then = ap (λ (h : Home L). table_of_caller (record k { home = h })) p.same.0

  -- the caller's state after it, in the words of before
  pub state_of : state n ≡ local (table_of_caller k) n.log k.number
  state_of = ap (λ t. local t n.log n.number) table_then ∙ ap (local (table_of_caller k) n.log) p.same.1

  done_of : done n ≡ done (record k { log = n.log })
  done_of =
      ap (λ (h : Home L). done (record n { home = h })) p.same.0
      ∙ ap (λ c. done (record k { log = n.log; number = c })) p.same.1

  -- the attempt stays where the call does not begin one
  pub attempt_kept : samples_in task ≡ false → begun_log n.number n.log ≡ begun_log k.number k.log
  attempt_kept none =
      ap (λ c. begun_log c n.log) p.same.1
      ∙ begun_after is_sample k.number k.log n.log p.events p.seen p.own
      (unsampled task (table_of_caller k) (state k) p.events none p.call.obeys)

  -- its events are those of the call, behind the earlier ones
  pub own_since_then : samples_in task ≡ false → own_since n ≡ p.events ++ own_since k
  own_since_then none =
      ap (λ c. own_since (record n { number = c })) p.same.1
      ∙ since_after is_sample k.number k.log n.log p.events p.seen p.own
      (unsampled task (table_of_caller k) (state k) p.events none p.call.obeys)

  -- and it began in the same state
  pub began_then : samples_in task ≡ false → begun_state n ≡ begun_state k
  began_then none = rw (table_then, attempt_kept none, p.same.1) refl

  -- a call that draws and checks nothing commits nothing
  pub done_quiet : commits_in task ≡ false → done n ≡ done k
  done_quiet none =
      done_of
      ∙ quiet_after (table_of_caller k) k.number k.log n.log p.events p.seen p.own run_then
      (uncommitting task (table_of_caller k) (state k) p.events none p.call.obeys)

  -- nor does one whose attempt is not valid in the end
  pub done_invalid : samples_in task ≡ false → is_valid (state n) ≡ false → done n ≡ done k
  done_invalid none invalid =
      done_of
      ∙ invalid_after (table_of_caller k) k.number k.log n.log p.events p.seen p.own run_then
      (unsampled task (table_of_caller k) (state k) p.events none p.call.obeys) (ap is_valid (sym state_of) ∙ invalid)

  -- A CALL THAT HAS COMMITTED: what it has committed is the attempt as the state is in the end.
  pub done_valid : samples_in task ≡ false → is_valid (state k) ≡ false → is_valid (state n) ≡ true →
      done n ≡ attempt_of k.number (state n) ∷ done k
  done_valid none before valid =
      done_of
      ∙ valid_after (table_of_caller k) k.number k.log n.log p.events p.seen p.own run_then
      (unsampled task (table_of_caller k) (state k) p.events none p.call.obeys) before
      (ap is_valid (sym state_of) ∙ valid)
      ∙ ap (λ l. attempt_of k.number l ∷ done k) (sym state_of)

  -- a call that answers why its attempt was left has disturbed it
  disturbed : (why : TlAgain) → again ≡ Some why → samples_in task ≡ false →
      Disturbed (table_of_caller n) n.log n.number (state n).begun
  disturbed why is none =
      subst (λ (t : Table). Disturbed t n.log n.number (local t n.log n.number).begun) (sym table_then)
      (subst (λ c. Disturbed (table_of_caller k) n.log c (local (table_of_caller k) n.log c).begun) (sym p.same.1)
      (answers_disturb (table_of_caller k) k.number n.log k.log p.events why p.own
      (begun_count (table_of_caller k) k.number n.log
      ∙ ap (λ xs. (local (table_of_caller k) xs k.number).begun)
      (begun_after is_sample k.number k.log n.log p.events p.seen p.own
      (unsampled task (table_of_caller k) (state k) p.events none p.call.obeys))
      ∙ sym (begun_count (table_of_caller k) k.number k.log)) (sym p.answers ∙ is)))

  -- and the events of its attempt answer the same
  caused : (why : TlAgain) → again ≡ Some why → samples_in task ≡ false →
      answer_of (table_of_caller n) (begun_state n) (own_since n) ≡ Some why
  caused why is none =
      let t = table_of_caller k in
      let since : state k ≡ state_after t (begun_state k) (own_since k) =
      ap (λ xs. local t xs k.number) (log_parts is_sample k.number k.log)
      ∙ own_state tl2 t k.number (since_sample k.number k.log) (begun_log k.number k.log) in
      ap (λ (x : Table). answer_of x (begun_state n) (own_since n)) table_then
      ∙ ap (λ (l : LocalState). answer_of t l (own_since n)) (began_then none)
      ∙ ap (answer_of t (begun_state k)) (own_since_then none)
      ∙ answers_since t (begun_state k) p.events (own_since k) why
      (subst (λ (l : LocalState). answer_of t l p.events ≡ Some why) since (sym p.answers ∙ is))

  -- what is left of an attempt that failed or has drawn nothing, once nothing is locked any more
  pub left_after : (why : TlAgain) → again ≡ Some why → n.left ≡ Some why → samples_in task ≡ false →
      (state n).holds ≡ [] → ((state n).failed ≡ true) ⊎ ((state n).drawn ≡ None) → 1 < (table_of_caller k).callers →
      IsLeft n
  left_after why is left none free over others =
      is_left n (subst (λ t. Run t n.log) (sym table_then) run_then) free over (left ∙ sym (caused why is none))
      (disturbed why is none) (subst (λ (t : Table). 1 < t.callers) (sym table_then) others)
