use Rattle.std.proofs.Common.{◌≡◌, ◌⊎◌, ◌+◌, true}
use Rattle.dstm_attempts.specs.Attempts.{clock, is_under_way}
use Rattle.dstm_cells.specs.Attempts.{LooksInTurn, StaysLooking, looked}
use Rattle.dstm_cells.proofs.under_way.Attempt.look_on.Given as goal

-- each look so far has found nothing changed, and an attempt under way
abbrev pub invariant-loop-look : goal.invariant-loop-look
invariant-loop-look g l =
    StaysLooking l.fn.self.attempts.caller l.self.attempts.caller
    × (looked l.self.attempts.caller ≡ looked l.fn.self.attempts.caller + l._look)
    × (clock l.self.attempts.caller ≡ clock l.fn.self.attempts.caller)
    × (l.self.looks ≡ l.fn.self.looks)
    × ((is_under_way l.self.attempts.caller ≡ true) ⊎ (l.self.attempts.caller ≡ l.fn.self.attempts.caller))
    × LooksInTurn g.L.Law.holds l._look l.fn.self.attempts.caller l.self.attempts.caller
