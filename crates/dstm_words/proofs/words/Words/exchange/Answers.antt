use Rattle.std.proofs.Common.{sym, subst}
use Rattle.dstm_machines.specs.Traces.Access.{Exchange}
use Rattle.dstm_words.specs.Seats.{Home, MayMake}
use Rattle.dstm_words.proofs.Keeping.{exchange_keeps}
use Rattle.dstm_words.proofs.words.Words.exchange.Goals as goal

pub exchange-requires-clause-keeps : goal.exchange-requires-clause-keeps
exchange-requires-clause-keeps g c =
    let v = c.args.seat.now.me.0 in
    let May : Home g.row.L.Denot → Type 0 = λ home.
    MayMake home.terms v (Exchange c.args.expected c.args.put) c.args.kind c.args.place in
    exchange_keeps g.L.Law.holds c.self.inside.words.terms v _ _ _ _
    (subst May (sym c.self.view_is) c.requires.allowed)
