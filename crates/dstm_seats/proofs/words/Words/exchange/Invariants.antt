use Rattle.std.specs.Prelude.{Some}
use Rattle.dstm_seats.proofs.words.Words.exchange.Given as goal

abbrev pub ghosts-exchange_as : goal.ghosts-exchange_as
ghosts-exchange_as g a = record { kind = Some a.kind }
