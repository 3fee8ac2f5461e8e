use Rattle.dstm_report.specs.Reading.{report_of}
use Rattle.dstm_report.proofs.Drafts.{read_is_printed, printed_is_read}
use Rattle.dstm_report.proofs.reading.read_where_printed.Goals as goal

pub returns : goal.returns
unfolding report_of
returns c = λ version report lines. (
  read_is_printed c.one_spelling.ensures.printed c.one_spelling.ensures.only version lines report,
  printed_is_read c.one_spelling.ensures.printed,
)
