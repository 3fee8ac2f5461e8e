use Rattle.dstm_text.proofs.NumberLaws.{number_of-decimal, decimal-number_of}
use Rattle.dstm_text.proofs.print.one_spelling.Goals as goal

pub returns-clause-printed : goal.returns-clause-printed
returns-clause-printed c = number_of-decimal

pub returns-clause-only : goal.returns-clause-only
returns-clause-only c = decimal-number_of
