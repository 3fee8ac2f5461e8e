use Rattle.std.specs.Prelude.{◌<◌, All}
use Rattle.dstm_crew_tests.proofs.tests.trying.places_of.Given as goal

abbrev pub invariant-loop-place : goal.invariant-loop-place
invariant-loop-place l = All (λ place. place < l.place) l.places.items
