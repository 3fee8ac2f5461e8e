use Rattle.dstm_managers.proofs.MeetingLemmas.{waits_bounded}
use Rattle.dstm_managers.proofs.laws.every_meeting_is_bounded.Goals as goal

pub returns : goal.returns
returns c = waits_bounded
