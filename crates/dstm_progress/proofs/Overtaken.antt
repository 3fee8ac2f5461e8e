-- The example is a core run.
use Rattle.std.proofs.Common.{[], arith, refl}
use Rattle.dstm_core.proofs.Base.{core}
use Rattle.dstm_order.specs.Drive.{two}
use Rattle.dstm_machines.proofs.Fitting.{run_then}
use Rattle.dstm_progress.specs.Overtaken.{SomeAgain, installed, installs, opens}

pub some_again : SomeAgain
some_again = record {
  call = record {
    core = run_then core two installed opens (run_then core two [] installs tt (grind arith)) (grind arith);
    own = refl;
    call = record { obeys = ((tt, (refl, refl)), (refl, tt)); done = refl };
  };
  current = record { live = λ q. cc; agreed = refl };
  answers = refl;
}
