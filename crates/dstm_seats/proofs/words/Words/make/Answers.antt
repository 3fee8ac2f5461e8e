use Rattle.dstm_seats.proofs.Ends.{opens}
use Rattle.dstm_seats.proofs.words.Words.make.Goals as goal

pub of_words-requires : goal.of_words-requires
of_words-requires g c =
    opens g.M.Machine.shared g.M.Machine.enrolling _ _ c.requires.run c.requires.count c.requires.first
