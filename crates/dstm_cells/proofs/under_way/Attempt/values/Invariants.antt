use Rattle.std.proofs.Common.{◌≡◌, ◌+◌}
use Rattle.dstm_attempts.specs.Attempts.{AddsNothing, begun}
use Rattle.dstm_cells.specs.Attempts.{WereDisturbed}
use Rattle.dstm_cells.proofs.under_way.Attempt.values.Given as goal

-- the caller has begun an attempt for each reading, and has committed nothing more: each was disturbed
abbrev pub invariant-loop-reading : goal.invariant-loop-reading
invariant-loop-reading g l =
    AddsNothing l.fn.self.attempts.caller l.self.attempts.caller
    × (begun l.self.attempts.caller ≡ begun l.fn.self.attempts.caller + l._reading)
    × WereDisturbed g.L.Law.holds l._reading l.fn.self.attempts.caller l.self.attempts.caller
