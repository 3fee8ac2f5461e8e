use Rattle.std.specs.Prelude.{Some}
use Rattle.dstm_seats.proofs.words.Words.store.Given as goal

abbrev pub ghosts-store_as : goal.ghosts-store_as
ghosts-store_as g a = record { kind = Some a.kind }
