use Rattle.std.proofs.Common.{sym, subst}
use Rattle.dstm_machines.specs.Traces.Access.{Store}
use Rattle.dstm_tl2_words.specs.Seats.{Home, MayMake}
use Rattle.dstm_tl2_words.proofs.Keeping.{store_keeps}
use Rattle.dstm_tl2_words.proofs.words.Words.store.Goals as goal

pub store-requires-clause-keeps : goal.store-requires-clause-keeps
store-requires-clause-keeps g c =
    let v = c.args.seat.now.me.0 in
    let May : Home g.row.L.Denot → Type 0 = λ home. MayMake home.terms v (Store c.args.put) c.args.kind c.args.place in
    store_keeps g.L.Law.holds c.self.inside.words.terms v _ _ _ (subst May (sym c.self.view_is) c.requires.allowed)
