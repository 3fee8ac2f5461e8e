use Rattle.dstm_crew.proofs.Least.{lead_least, lead_within}
use Rattle.dstm_crew.proofs.collecting.lead_of.Goals as goal

pub returns-then-still_leads-clause-some : goal.returns-then-still_leads-clause-some
returns-then-still_leads-clause-some c =
    let own = c.if-still_leads.ensures in
    lead_least c.args.numbers.now c.args.before own.0 c.requires.ahead own.1.0 own.1.1

pub returns-then-still_leads-clause-within : goal.returns-then-still_leads-clause-within
returns-then-still_leads-clause-within c =
    let own = c.if-still_leads.ensures in
    lead_within c.args.numbers.now c.args.before own.0 own.1.0
