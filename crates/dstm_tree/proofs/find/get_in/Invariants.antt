use Rattle.dstm_tree.proofs.Base.{ℕ, ◌-◌, ◌≤◌, Ok, Steps}
use Rattle.dstm_tree.proofs.Search.{Reaches}
use Rattle.dstm_tree.proofs.find.get_in.Given as goal

abbrev pub invariant-loop-step : goal.invariant-loop-step
invariant-loop-step g l = record {
  so_far : Steps {A = ℕ} g.M.Mem l.region (λ at. Unit {0}) (Reaches l.region (l.region.nodes - l._step) l.key) l.fn.mem
      l.mem (Ok l.at);
  within : l.at ≤ l.region.nodes;
}
