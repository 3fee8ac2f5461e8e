use Rattle.std.specs.Prelude.{Some}
use Rattle.dstm_seats.proofs.words.Words.add.Given as goal

abbrev pub ghosts-add_as : goal.ghosts-add_as
ghosts-add_as g a = record { kind = Some a.kind }
