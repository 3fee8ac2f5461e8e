use Rattle.std.proofs.Common.{refl}
use Rattle.dstm_cells.specs.Attempts.{Follows}
use Rattle.dstm_cells.specs.declared.error.Why.TheVariants.{Again}
use Rattle.dstm_cells.proofs.Resting.{of_all}
use Rattle.dstm_cells.proofs.under_way.Attempt.follow.Goals as goal

pub returns-in-Again-clause-stays : goal.returns-in-Again-clause-stays
returns-in-Again-clause-stays g c = rw c.in-Again.is refl

pub returns-in-Again-clause-follows : goal.returns-in-Again-clause-follows
returns-in-Again-clause-follows g c =
    let caller = c.args.self.now.attempts.caller in
    rw c.in-Again.is (of_all g.R.Rest.tires c.args.self.now.looks (λ looks. Follows g.L.Law.holds looks caller Again caller c.over.result) c.over.ensures)

pub returns-in-Retry-clause-stays : goal.returns-in-Retry-clause-stays
returns-in-Retry-clause-stays g c = rw c.in-Retry.is c.wait.ensures.stays

pub returns-in-Retry-clause-follows : goal.returns-in-Retry-clause-follows
returns-in-Retry-clause-follows g c = rw c.in-Retry.is c.wait.ensures.follows

pub returns-in-Foreign-clause-stays : goal.returns-in-Foreign-clause-stays
returns-in-Foreign-clause-stays g c = rw c.in-Foreign.is refl

pub returns-in-Memory-clause-stays : goal.returns-in-Memory-clause-stays
returns-in-Memory-clause-stays g c = rw c.in-Memory.is refl
