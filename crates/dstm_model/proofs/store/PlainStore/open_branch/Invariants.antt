use Rattle.std.proofs.Common.{◌≡◌, ◌≤◌, length, option_copied}
use Rattle.std.specs.Prelude.{IfSome}
use Rattle.std.specs.List.{All, find}
use Rattle.dstm_model.specs.Job.{branches_left, is_open, open_branch}
use Rattle.dstm_model.specs.Layout.{FitsLayout}
use Rattle.dstm_model.proofs.store.PlainStore.open_branch.Given as goal

-- the first open branch is among those left
abbrev pub invariant-loop-rest : goal.invariant-loop-rest
invariant-loop-rest l = record {
  found : find (is_open l.self) (branches_left (option_copied l.rest)) ≡ open_branch l.fn.ops l.self;
  fits : IfSome l.rest (λ ops. All (FitsLayout l.self.layout) ops.now);
  short : IfSome l.rest (λ ops. length ops.now ≤ length l.fn.ops);
}

abbrev pub decreases-loop-rest : goal.decreases-loop-rest
decreases-loop-rest l = length (branches_left (option_copied l.rest))
