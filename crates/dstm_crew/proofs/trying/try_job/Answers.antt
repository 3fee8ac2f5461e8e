use Rattle.std.proofs.Common.{◌∙◌, ◌<◌, ◌++◌, [], ◌∷◌, ap, length, rules, subst, sym}
use Rattle.dstm_crew.specs.Done.{DoneAs}
use Rattle.dstm_crew.proofs.Retrying.{fewer_left, waited_more, waited_done, waited_spent, waited_blocked}
use Rattle.dstm_crew.proofs.trying.try_job.Goals as goal

pub push-requires : goal.push-requires
push-requires c = record {
  room = subst (λ (d : DoneAs). length d.items < d.room) (sym c.loop-finished.invariant.3) c.requires.room;
}

pub returns-in-Done-clause-done : goal.returns-in-Done-clause-done
returns-in-Done-clause-done c = (
  c.in-Done.finished,
  (
    waited_done c.loop-finished.invariant.1 (rw c.in-Done.is at c.attempt_job-tried.ensures.tried),
    c.push.ensures
        ∙ ap (λ (d : DoneAs). record d {
          items = d.items ++ c.in-Done.finished ∷ [];
          lines = d.lines ++ c.args.job.now.line ∷ [];
        }) c.loop-finished.invariant.3,
  ),
)

pub returns-in-Spent-clause-left : goal.returns-in-Spent-clause-left
returns-in-Spent-clause-left c = waited_spent c.loop-finished.invariant.1 (rw c.in-Spent.is at c.attempt_job-tried.ensures.tried)

pub returns-in-Spent-clause-same : goal.returns-in-Spent-clause-same
returns-in-Spent-clause-same c = c.loop-finished.invariant.3

pub returns-in-Blocked-clause-left : goal.returns-in-Blocked-clause-left
returns-in-Blocked-clause-left c = waited_blocked c.loop-finished.invariant.1 (rw c.in-Blocked.is at c.attempt_job-tried.ensures.tried)

pub returns-in-Blocked-clause-same : goal.returns-in-Blocked-clause-same
returns-in-Blocked-clause-same c = c.loop-finished.invariant.3

pub loop-finished-smaller : goal.loop-finished-smaller
loop-finished-smaller c =
    let tried = rw c.in-Again.is at c.attempt_job-tried.ensures.tried in
    fewer_left c.loop-finished.invariant.1.on tried.made

pub loop-finished-preserved : goal.loop-finished-preserved
loop-finished-preserved c = (
  search rules,
  waited_more c.loop-finished.invariant.1
      (rw c.in-Again.is at c.attempt_job-tried.ensures.tried),
  λ other. c.attempt_job-tried.ensures.keeps other ∙ c.loop-finished.invariant.2 other,
  c.loop-finished.invariant.3,
)
