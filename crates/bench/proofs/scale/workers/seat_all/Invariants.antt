use Rattle.std.proofs.Common.{◌≡◌}
use Rattle.std.specs.Prelude.{All}
use Rattle.bench.specs.Ready.{IsSeated}
use Rattle.bench.specs.declared.scale.workers.Worker.{Worker}
use Rattle.dstm_tables.specs.Founders.{home_there}
use Rattle.bench.proofs.scale.workers.seat_all.Given as goal

-- the founder stays that of the table, and the workers are ready
abbrev pub invariant-loop-thread : goal.invariant-loop-thread
invariant-loop-thread l =
    (home_there l.founder ≡ l.fn.table) × All (λ (worker : Worker). IsSeated worker.table.now worker.caller) l.workers.items
