-- A worker may cross threads.
use denote.Param.Send.{IsSend, sendable}
use denote.Param.SendFields.{declared_send}
use Rattle.std.proofs.Crossing.{crosses}
use Rattle.dstm_tables.proofs.Sends.{caller_send}
use Rattle.dstm_jobs.proofs.trying.Finished.TheSendSync as Finished
use Rattle.dstm_crew.specs.contracts.worker.Worker as Worker

pub worker_send : IsSend Worker.the_row
worker_send =
    declared_send Worker.the_type (
      search sendable depth 20,
      (
        search (caller_send, crosses, sendable) depth 20,
        (search (crosses, sendable) depth 20, (search (Finished.the_send, crosses, sendable) depth 20, (search sendable depth 20, tt))),
      ),
    )
