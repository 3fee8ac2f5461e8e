-- What a handle stands for may go to another thread.
use denote.Param.Send.{IsSend, IsSync, sendable, view_send}
use denote.Param.SendFields.{declared_send, variants_send, variants_sync}
use Rattle.std.proofs.Crossing.{crosses}
use Rattle.std.specs.contracts.alloc.Global as Heap
use Rattle.std.specs.contracts.impls.GlobalAllocator.TheImpl.{ghosts}
use Rattle.std.specs.contracts.sync.Arc as Arc
use Rattle.atomic_table.proofs.shared.Seat.TheSendSync as TheSeat
use Rattle.dstm_model.specs.contracts.value.AnyLaw as AnyLaw
use Rattle.dstm_model.specs.contracts.value.AnyLawLaw.TheImpl as TheLaw
use Rattle.dstm_model.proofs.value.AnyLaw.TheSendSync as any_law
use Rattle.dstm_engine.proofs.stm.Stm.TheSendSync as TheStm
use Rattle.dstm_engine.specs.contracts.stm.Founder.TheInside as DstmInside
use Rattle.dstm_tl2_engine.proofs.stm.TlStm.TheSendSync as TheTlStm
use Rattle.dstm_tl2_engine.specs.contracts.stm.TlFounder.TheInside as Tl2Inside
use Rattle.dstm_tables.specs.contracts.founding.Founder as Founder
use Rattle.dstm_tables.specs.contracts.tables.Table as Table
use Rattle.dstm_cells.proofs.Sends.{attempt_send}
use Rattle.dstm_cells.specs.contracts.turn.Courtesy as Courtesy
use Rattle.dstm_cells.specs.contracts.turn.Ticket as Ticket
use Rattle.dstm_cells.specs.contracts.turn.Turn as Turn
use Rattle.dstm_handles.specs.contracts.held.Held as Held
use Rattle.dstm_handles.specs.contracts.memory.Home as Home
use Rattle.dstm_handles.specs.contracts.memory.Memory as Memory
use Rattle.dstm_handles.specs.contracts.thread.Thread as Thread

dstm_inside_send : IsSend (DstmInside.the_row AnyLaw.the_row TheLaw.ghosts)
dstm_inside_send =
    declared_send (DstmInside.the_type AnyLaw.the_row TheLaw.ghosts) (
      search (crosses, sendable) depth 20,
      (
        search (TheSeat.the_send, crosses, sendable) depth 20,
        (search sendable depth 20, (search sendable depth 20, (search sendable depth 20, tt))),
      ),
    )

tl2_inside_send : IsSend (Tl2Inside.the_row AnyLaw.the_row TheLaw.ghosts)
tl2_inside_send =
    declared_send (Tl2Inside.the_type AnyLaw.the_row TheLaw.ghosts) (
      search (crosses, sendable) depth 20,
      (
        search (TheSeat.the_send, crosses, sendable) depth 20,
        (search sendable depth 20, (search sendable depth 20, tt)),
      ),
    )

founder_send : IsSend (Founder.the_row AnyLaw.the_row TheLaw.ghosts)
founder_send =
    variants_send (Founder.enum AnyLaw.the_row TheLaw.ghosts) (
      (view_send (DstmInside.the_row AnyLaw.the_row TheLaw.ghosts) _ _ _ _ dstm_inside_send, tt),
      ((view_send (Tl2Inside.the_row AnyLaw.the_row TheLaw.ghosts) _ _ _ _ tl2_inside_send, tt), tt),
    )

table_send : IsSend (Table.the_row AnyLaw.the_row TheLaw.ghosts)
table_send =
    variants_send (Table.enum AnyLaw.the_row TheLaw.ghosts) (
      (search (TheStm.the_send, any_law.the_send, any_law.the_sync, crosses, sendable) depth 20, tt),
      ((search (TheTlStm.the_send, any_law.the_send, any_law.the_sync, crosses, sendable) depth 20, tt), tt),
    )

table_sync : IsSync (Table.the_row AnyLaw.the_row TheLaw.ghosts)
table_sync =
    variants_sync (Table.enum AnyLaw.the_row TheLaw.ghosts) (
      (search (TheStm.the_sync, any_law.the_send, any_law.the_sync, crosses, sendable) depth 20, tt),
      ((search (TheTlStm.the_sync, any_law.the_send, any_law.the_sync, crosses, sendable) depth 20, tt), tt),
    )

shared_send : IsSend (Arc.the_row (Table.the_row AnyLaw.the_row TheLaw.ghosts) Heap.the_row ghosts)
shared_send = search (table_send, table_sync, crosses, sendable) depth 20

turn_send : IsSend Turn.the_row
turn_send = search (crosses, sendable) depth 20

turn_sync : IsSync Turn.the_row
turn_sync = search (crosses, sendable) depth 20

ticket_send : IsSend Ticket.the_row
ticket_send = search (crosses, sendable) depth 20

courtesy_send : IsSend Courtesy.the_row
courtesy_send = search (ticket_send, crosses, sendable) depth 20

pub thread_send : IsSend Thread.the_row
thread_send =
    declared_send Thread.the_type (
      attempt_send AnyLaw.the_row _ TheLaw.ghosts _ shared_send,
      (
        search sendable depth 20,
        (
          search sendable depth 20,
          (
            search sendable depth 20,
            (
              search (turn_send, turn_sync, crosses, sendable) depth 20,
              (search (ticket_send, crosses, sendable) depth 20, (courtesy_send, tt)),
            ),
          ),
        ),
      ),
    )

home_send : IsSend Home.the_row
home_send =
    declared_send Home.the_type (
      search (table_send, table_sync, crosses, sendable) depth 20,
      (
        search (turn_send, turn_sync, crosses, sendable) depth 20,
        (founder_send, (thread_send, (search sendable depth 20, tt))),
      ),
    )

pub memory_send : IsSend Memory.the_row
memory_send =
    declared_send Memory.the_type (
      search (crosses, sendable) depth 20,
      (
        search (crosses, sendable) depth 20,
        (
          search sendable depth 20,
          (
            search (crosses, sendable) depth 20,
            (search (home_send, crosses, sendable) depth 20, (search sendable depth 20, tt)),
          ),
        ),
      ),
    )

pub held_send : IsSend Held.the_row
held_send = variants_send Held.enum ((memory_send, tt), ((thread_send, tt), tt))
