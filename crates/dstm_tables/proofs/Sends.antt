-- A caller may cross threads.
use denote.RattleType.{RattleType}
use denote.Param.Send.{IsSend}
use denote.Param.SendFields.{variants_send}
use Rattle.dstm_engine.proofs.Sends as dstm
use Rattle.dstm_model.specs.declared.value.Law.{Ghosts}
use Rattle.dstm_tl2_engine.proofs.Sends as tl2
use Rattle.dstm_tables.specs.contracts.tables.Caller as Caller

pub caller_send : (Y : RattleType) (law : Ghosts Y.Denot) → IsSend (Caller.the_row Y law)
caller_send Y law = variants_send (Caller.enum Y law) ((dstm.caller_send Y law, tt), ((tl2.caller_send Y law, tt), tt))
