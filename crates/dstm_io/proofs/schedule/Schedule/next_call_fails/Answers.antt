use Rattle.dstm_io.proofs.Found.{found_exactly}
use Rattle.dstm_io.proofs.schedule.Schedule.next_call_fails.Goals as goal

pub returns-clause-named : goal.returns-clause-named
returns-clause-named c =
    let position = rw c.deref.ensures.value at c.binary_search.ensures.position in
    rw c.is_ok.ensures.value
    (found_exactly _ _ c.binary_search.result c.args.self.now.rising position)
