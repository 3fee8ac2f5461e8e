use Rattle.std.proofs.Common.{◌≡◌, ◌≤◌}
use Rattle.dstm_attempts.specs.Attempts.{IsQuit, begun}
use Rattle.dstm_cells.specs.Closures.{KeepsEach, KeepsPatience, TriedInVain}
use Rattle.dstm_cells.proofs.thread.Part.make.Given as goal

-- nothing was committed so far, and each call was on an attempt of its own
abbrev pub invariant-loop-number : goal.invariant-loop-number
invariant-loop-number g l =
    goal.F-IsAlwaysCallable g l.f
    × (KeepsEach g.X.Transaction.caller g.F.FnMut →
    TriedInVain g.X.Transaction.caller g.F.FnMut g.X.Rule.Law.holds g.X.Transaction.patience (g.X.Transaction.caller l.fn.self.tx) l.fn.f
    (g.X.Transaction.caller l.self.tx) l.f
    × (l._number ≤ begun (g.X.Transaction.caller l.self.tx)))
    × (IsQuit (g.X.Transaction.caller l.fn.self.tx) → IsQuit (g.X.Transaction.caller l.self.tx))
    × (KeepsPatience g.X.Transaction.patience g.F.FnMut →
    g.X.Transaction.patience l.self.tx ≡ g.X.Transaction.patience l.fn.self.tx)
