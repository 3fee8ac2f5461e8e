-- The example is a core run.
use Rattle.std.proofs.Common.{◌∷◌, List, [], refl, arith}
use Rattle.dstm_core.proofs.Base.{Core, Event, Lawful, Val, continued, core}
use Rattle.dstm_opacity.proofs.Base.{Shape}
use Rattle.dstm_machines.proofs.Fitting.{run_then}
use Rattle.dstm_opacity.specs.Example.{SomeRun, before_commit, before_sight, reader_checks, reader_commit, reader_draws, run, shape, sight, start, writer_again, writer_commits}

run_fits : Core shape run
run_fits =
    let written = run_then core shape [] writer_commits tt (grind arith) in
    let checked = run_then core shape (continued [] writer_commits) reader_checks written (grind arith) in
    let drawn = run_then core shape (sight ∷ before_sight) reader_draws (checked, grind arith) (grind arith) in
    run_then core shape (reader_commit ∷ before_commit) writer_again (drawn, grind arith) (grind arith)

-- each run is one of the law that holds for every map
any_lawful : (s : Shape) (values : List Val) (es : List Event) → Lawful s values (λ map. Unit {0}) es
any_lawful s values [] = tt
any_lawful s values (e ∷ es) = (any_lawful s values es, λ _ _ map _ _ _. tt)

-- what the example shows
pub some_run : SomeRun
some_run = record {
  valid = grind arith;
  is_run = record { values = refl; core = run_fits; law = any_lawful shape start run };
  has_history = refl;
  has_sight = record { kind = refl; found = refl };
  one_read = refl;
  none_checked = refl;
}
