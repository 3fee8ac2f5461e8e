use Rattle.dstm_report.proofs.LineByLine.{lines_are_good, lawful_by_lines}
use Rattle.dstm_report.proofs.checking.line_by_line.Goals as goal

pub returns : goal.returns
returns c workload report = (lines_are_good, lawful_by_lines workload report)
