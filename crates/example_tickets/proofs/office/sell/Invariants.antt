use Rattle.std.proofs.Common.{◌≡◌}
use Rattle.example_tickets.proofs.office.sell.Given as goal

-- the caller stays one of the office's, and the sale keeps its law
abbrev pub invariant-loop : goal.invariant-loop
invariant-loop l = (l.caller.home ≡ l.fn.stm) × (l.sale.law ≡ l.fn.law)
