use Rattle.std.proofs.Common.{arith, refl}
use Rattle.example_office.proofs.Sales.{sold}
use Rattle.example_office.proofs.sale.sell.Goals as goal

pub returns-clause-lawful : goal.returns-clause-lawful
returns-clause-lawful c untouched map may =
    (sold c.args.tx.now.attempts.caller c.get.new.self.attempts.caller c.get-2.new.self.attempts.caller c.set.new.self.attempts.caller
    c.set-2.new.self.attempts.caller c.args.left.object c.args.desk.object c.in_ok-tickets.tickets c.in_ok-sold.sold
    c.in_ok-set.ensures.puts.0 c.in_ok-set-2.ensures.puts.0 _ c.requires.cells (omega (arith, c.if-tickets-eq0.false))
    c.in_ok-tickets.ensures.gets c.in_ok-sold.ensures.gets c.in_ok-set.ensures.puts.1 c.in_ok-set-2.ensures.puts.1 refl
    untouched map may).0

pub returns-clause-right : goal.returns-clause-right
returns-clause-right c untouched map may =
    (sold c.args.tx.now.attempts.caller c.get.new.self.attempts.caller c.get-2.new.self.attempts.caller c.set.new.self.attempts.caller
    c.set-2.new.self.attempts.caller c.args.left.object c.args.desk.object c.in_ok-tickets.tickets c.in_ok-sold.sold
    c.in_ok-set.ensures.puts.0 c.in_ok-set-2.ensures.puts.0 _ c.requires.cells (omega (arith, c.if-tickets-eq0.false))
    c.in_ok-tickets.ensures.gets c.in_ok-sold.ensures.gets c.in_ok-set.ensures.puts.1 c.in_ok-set-2.ensures.puts.1 refl
    untouched map may).1
