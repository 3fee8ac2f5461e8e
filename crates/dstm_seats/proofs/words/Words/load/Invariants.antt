use Rattle.std.specs.Prelude.{Some}
use Rattle.dstm_seats.proofs.words.Words.load.Given as goal

abbrev pub ghosts-load_as : goal.ghosts-load_as
ghosts-load_as g a = record { kind = Some a.kind }
