use Rattle.std.proofs.Common.{◌∙◌}
use Rattle.dstm_model.specs.contracts.value.AnyLawLaw.TheImpl as TheLaw
use Rattle.dstm_attempts.proofs.Settling.{settles_right}
use Rattle.dstm_attempts.proofs.UnderWay.{nothing_twice}
use Rattle.dstm_handles.specs.Memories.{AreValues}
use Rattle.dstm_handles.specs.Threads.{starting}
use Rattle.dstm_handles.proofs.Calling.{starting_adds}
use Rattle.dstm_handles.proofs.cells.reading.Goals as goal

pub returns-in-Done-commit-clause-reads : goal.returns-in-Done-commit-clause-reads
returns-in-Done-commit-clause-reads c k same =
    let last = c.args.last.now in
    let begins = (c.begin.ensures.begins c.in-Done.is).begins in
    let takes = c.commit.ensures.takes c.in-Done-commit.is in
    let nothing = nothing_twice k last.tx.attempts.caller (starting last) same (starting_adds last) in
    record {
      before = starting last;
      nothing = nothing;
      began = c.begin.new.self.tx.attempts.caller;
      begins = begins;
      last = c.all.new.last.tx.attempts.caller;
      keeps = c.in_ok-values.ensures.keeps;
      after = c.commit.new.self.tx.attempts.caller;
      takes = takes;
      settles = settles_right (TheLaw.holds-value).it c.args.last.ghost_name k (starting last) c.begin.new.self.tx.attempts.caller
          c.all.new.last.tx.attempts.caller c.commit.new.self.tx.attempts.caller
          nothing
          begins c.in_ok-values.ensures.keeps takes (AreValues c.in_ok-values.values.items)
          (λ map may.
          let is = c.in_ok-values.ensures.reads map may in (is, c.in_ok-values.ensures.untouched map ∙ is));
    }
