use Rattle.dstm_jobs.proofs.trying.attempt_branches.Goals as goal

pub returns-in-Tl2-table-2-clause-tried : goal.returns-in-Tl2-table-2-clause-tried
returns-in-Tl2-table-2-clause-tried c =
    rw c.in-Tl2.is (c.attempt_branches-in-Tl2-table-2.ensures c.args.rechecks)
