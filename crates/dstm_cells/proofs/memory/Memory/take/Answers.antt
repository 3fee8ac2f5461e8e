use Rattle.std.proofs.Common.{inl, inr}
use Rattle.std.proofs.lemmas.Result.{on_ok_weaker}
use Rattle.dstm_cells.specs.Cells.{ReadsAll}
use Rattle.dstm_cells.proofs.memory.Memory.take.Goals as goal

pub returns-clause-takes : goal.returns-clause-takes
returns-clause-takes g c =
    on_ok_weaker c.take_by.result
    (λ (reads : ReadsAll g.L.Law.holds c.in_ok-last.last.tx.attempts.caller c.take_by.new.self.values.items).
    record { caller = c.in_ok-last.last.tx.attempts.caller; enrols = c.in_ok-last.ensures.enrols; reads = reads })
    c.take_by.ensures.reads

pub returns-clause-unread : goal.returns-clause-unread
returns-clause-unread g c failed = record {
  caller = c.in_ok-last.last.tx.attempts.caller;
  enrols = c.in_ok-last.ensures.enrols;
  after = c.take_by.new.last.tx.attempts.caller;
  unread = c.take_by.ensures.unread failed;
}

pub returns-in_err-last-clause-gives : goal.returns-in_err-last-clause-gives
returns-in_err-last-clause-gives g c = inl c.in_err-last.ensures.same

pub returns-clause-gives : goal.returns-clause-gives
returns-clause-gives g c = inr (c.in_ok-last.last.tx.attempts.caller, c.in_ok-last.ensures.enrols)
