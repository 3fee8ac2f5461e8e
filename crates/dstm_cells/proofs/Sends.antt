-- A thread's part, and a seat, may cross threads.
use denote.Ref.{NamedLft}
use denote.RattleType.{RattleType}
use denote.Param.Send.{IsSend, IsSync, sendable}
use denote.Param.SendFields.{declared_send, variants_sync}
use Rattle.std.proofs.Crossing.{crosses}
use Rattle.dstm_model.specs.declared.value.Law.{Ghosts}
use Rattle.dstm_engine.proofs.stm.Stm.TheSendSync as TheStm
use Rattle.dstm_tl2_engine.proofs.stm.TlStm.TheSendSync as TheTlStm
use Rattle.dstm_tables.proofs.Sends.{caller_send}
use Rattle.dstm_tables.specs.contracts.tables.Table as Table
use Rattle.dstm_attempts.specs.contracts.attempts.Attempts as Attempts
use Rattle.dstm_cells.specs.contracts.back_off.BackOff as BackOff
use Rattle.dstm_cells.specs.contracts.memory.Seat as Seat
use Rattle.dstm_cells.specs.contracts.thread.Part as Part
use Rattle.dstm_cells.specs.contracts.turn.Turn as Turn
use Rattle.dstm_cells.specs.contracts.under_way.Attempt as Attempt
use Rattle.dstm_cells.specs.declared.holds.Holds.{Ghosts as Holding}

pub table_sync : (Y : RattleType) (law : Ghosts Y.Denot) → IsSync Y → IsSync (Table.the_row Y law)
table_sync Y law sync =
    variants_sync (Table.enum Y law) ((TheStm.the_sync Y law sync, tt), ((TheTlStm.the_sync Y law sync, tt), tt))

attempts_send : (Y : RattleType) (law : Ghosts Y.Denot) → IsSend (Attempts.the_row Y law)
attempts_send Y law =
    declared_send (Attempts.the_type Y law) (
      caller_send Y law,
      (search sendable depth 20, (search (crosses, sendable) depth 20, (search (crosses, sendable) depth 20, tt))),
    )

pub attempt_send : (Y S : RattleType) (law : Ghosts Y.Denot) (holding : Holding S.Denot Y.Denot) → IsSend S →
    IsSend (Attempt.the_row Y S law holding)
attempt_send Y S law holding send =
    declared_send (Attempt.the_type Y S law holding) (
      attempts_send Y law,
      (search (send, crosses, sendable) depth 20, (search (crosses, sendable) depth 20, (search sendable depth 20, (search sendable depth 20, tt)))),
    )

turn_sync : IsSync Turn.the_row
turn_sync = search (crosses, sendable) depth 20

back_off_send : (κ : NamedLft) → IsSend (BackOff.the_row κ)
back_off_send κ = search (turn_sync, crosses, sendable) depth 20

pub part_send : (κ : NamedLft) (X : RattleType) → IsSend X → IsSend (Part.the_row κ X)
part_send κ X send = declared_send (Part.the_type κ X) (search (send, crosses, sendable) depth 20, (back_off_send κ, tt))

pub seat_send : (κ : NamedLft) (X : RattleType) → IsSend X → IsSend (Seat.the_row κ X)
seat_send κ X send =
    declared_send (Seat.the_type κ X) (
      part_send κ X send,
      (search sendable depth 20, (search (crosses, sendable) depth 20, tt)),
    )
