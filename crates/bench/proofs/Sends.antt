-- A worker may cross threads.
use denote.Ref.{NamedLft}
use denote.RattleType.{RattleType}
use denote.Param.Send.{IsSend, IsSync, sendable}
use denote.Param.SendFields.{declared_send, variants_sync}
use Rattle.std.proofs.Crossing.{crosses}
use Rattle.dstm_model.specs.declared.value.Law.{Ghosts}
use Rattle.dstm_engine.proofs.stm.Stm.TheSendSync as TheStm
use Rattle.dstm_tl2_engine.proofs.stm.TlStm.TheSendSync as TheTlStm
use Rattle.dstm_store.proofs.law.StoreLaw.TheSendSync as TheLaw
use Rattle.dstm_tables.proofs.Sends.{caller_send}
use Rattle.dstm_tables.specs.contracts.tables.Table as Table
use Rattle.bench.proofs.scale.load.Load.TheSendSync as TheLoad
use Rattle.bench.specs.contracts.scale.workers.Worker as Worker

table_sync : (Y : RattleType) (law : Ghosts Y.Denot) → IsSync Y → IsSync (Table.the_row Y law)
table_sync Y law sync =
    variants_sync (Table.enum Y law) ((TheStm.the_sync Y law sync, tt), ((TheTlStm.the_sync Y law sync, tt), tt))

pub worker_send : (κ : NamedLft) → IsSend (Worker.the_row κ)
worker_send κ =
    declared_send (Worker.the_type κ) (
      search (table_sync, TheLaw.the_sync, crosses, sendable) depth 20,
      (
        search (caller_send, crosses, sendable) depth 20,
        (
          search (TheLoad.the_send, crosses, sendable) depth 20,
          (
            search sendable depth 20,
            (search sendable depth 20, (search sendable depth 20, (search sendable depth 20, tt))),
          ),
        ),
      ),
    )
