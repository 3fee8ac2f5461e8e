use Rattle.dstm_report.specs.Reading.{report_of}
use Rattle.dstm_report.proofs.RoundTrip.{reads_back}
use Rattle.dstm_report.proofs.reading.read_back.Goals as goal

pub returns : goal.returns
unfolding report_of
returns c = reads_back c.one_spelling.ensures.printed
