use Rattle.std.proofs.Common.{◌≡◌, ◌+◌, rules, arith, sym, subst, ◌∙◌}
use Rattle.dstm_crew.specs.Alone.{Sweeps, is_done}
use Rattle.dstm_crew.specs.declared.sweeping.Swept.{Swept}
use Rattle.dstm_crew.specs.declared.sweeping.Swept.TheVariants as swept
use Rattle.dstm_crew.proofs.Sweeps.{swept_leads}
use Rattle.dstm_crew.proofs.sweeping.sweep.Goals as goal
use Rattle.dstm_crew.proofs.sweeping.sweep.Goals.{in-Done, in-Blocked}

pub returns-in-Spent-clause-swept : goal.returns-in-Spent-clause-swept
returns-in-Spent-clause-swept g c first before begun can sweeps =
    c.in-Spent.ensures.stepped first before begun (is_done c.loop-worker.swept) can
    (c.loop-worker.invariant.3 first before begun can sweeps)

pub loop-worker-preserved : goal.loop-worker-preserved
loop-worker-preserved g c = (
  c.try_first.ensures.may,
  c.try_first.ensures.room,
  (let less = c.try_first.ensures.fewer in let before_ = c.loop-worker.invariant.2 in omega (arith, less, before_)),
  λ first before begun can sweeps.
      let workload = c.args.play.now.workload.now in
      let options = c.args.play.now.options.now in
      let was = c.loop-worker.invariant.3 first before begun can sweeps in
      elim c.match-try_first.branch [
        | in-Done w ↦
            subst (λ (ended : Swept). Sweeps workload options c.args.number first c.try_first.new.caller before
            c.try_first.new.rows.items c.try_first.new.turns (c.loop-worker.worker + 1) (is_done ended)) (sym w.swept-is)
            (w.in-Done.ensures.stepped first before begun (is_done c.loop-worker.swept) can was)
        | in-Blocked w ↦
            subst (λ (ended : Swept). Sweeps workload options c.args.number first c.try_first.new.caller before
            c.try_first.new.rows.items c.try_first.new.turns (c.loop-worker.worker + 1) (is_done ended)) (sym w.swept-is)
            (w.in-Blocked.ensures.stepped first before begun (is_done c.loop-worker.swept) can was)
      ],
  elim c.match-try_first.branch [
    | in-Done w ↦ λ spent. done_not (sym w.swept-is ∙ spent)
    | in-Blocked w ↦ λ spent. c.loop-worker.invariant.4 (sym w.swept-is ∙ spent)
  ],
  λ none. c.try_first.ensures.keeps none ∙ c.loop-worker.invariant.5 none,
)
  where
    done_not : swept.Done ≡ swept.Spent → ⊥
    done_not is = cc

pub returns-clause-swept : goal.returns-clause-swept
returns-clause-swept g c first before begun can sweeps =
    let workload = c.args.play.now.workload.now in
    let options = c.args.play.now.options.now in
    let all : c.loop-worker.worker ≡ workload.workers = search rules in
    swept_leads c.loop-worker.swept c.loop-worker.invariant.4
    (subst (λ n. Sweeps workload options c.args.number first c.loop-worker.caller before c.loop-worker.rows.items
    c.loop-worker.turns n (is_done c.loop-worker.swept)) all (c.loop-worker.invariant.3 first before begun can sweeps))
