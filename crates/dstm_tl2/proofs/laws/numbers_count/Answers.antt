use Rattle.std.proofs.Common.{◌∷◌}
use Rattle.dstm_machines.proofs.Runs as runs
use Rattle.dstm_tl2.specs.Runs.{tl2}
use Rattle.dstm_tl2.proofs.Clock.{numbers_count}
use Rattle.dstm_tl2.proofs.laws.numbers_count.Goals as goal

pub returns : goal.returns
returns g c = λ law t later before draw is one. numbers_count t before draw (runs.run_past tl2 t later (draw ∷ before) is.run) one
