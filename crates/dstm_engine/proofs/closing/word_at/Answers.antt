use Rattle.std.proofs.Common.{sym}
use Rattle.dstm_seats.proofs.Lists.{get_or_at}
use Rattle.dstm_engine.proofs.closing.word_at.Goals as goal

pub returns : goal.returns
returns c = sym (get_or_at c.args.words.now c.args.place c.word.result c.word.ensures)
