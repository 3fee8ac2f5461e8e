-- A caller may cross threads.
use denote.RattleType.{RattleType}
use denote.Param.Send.{IsSend, sendable, view_send}
use denote.Param.SendFields.{declared_send}
use Rattle.std.proofs.Crossing.{crosses}
use Rattle.dstm_tl2_steps.proofs.opened.Opened.TheSendSync as Opened
use Rattle.dstm_tl2_steps.proofs.steps.Steps.TheSendSync as Steps
use Rattle.dstm_model.specs.declared.value.Law.{Ghosts}
use Rattle.dstm_tl2.specs.contracts.terms.Terms as Terms
use Rattle.dstm_tl2_engine.specs.contracts.caller.TlCaller as TlCaller
use Rattle.dstm_tl2_engine.specs.contracts.caller.TlCaller.TheInside as Inside

terms_send : (Y : RattleType) → IsSend (Terms.the_row Y)
terms_send Y = search (crosses, sendable) depth 20

inside_send : (Y : RattleType) (law : Ghosts Y.Denot) → IsSend (Inside.the_row Y law)
inside_send Y law =
    declared_send (Inside.the_type Y law) (
      terms_send Y,
      (
        Steps.the_send Y law,
        (
          search sendable depth 20,
          (search sendable depth 20, (search sendable depth 20, (search sendable depth 20, (Opened.the_send, tt)))),
        ),
      ),
    )

pub caller_send : (Y : RattleType) (law : Ghosts Y.Denot) → IsSend (TlCaller.the_row Y law)
caller_send Y law = view_send (Inside.the_row Y law) _ _ _ _ (inside_send Y law)
