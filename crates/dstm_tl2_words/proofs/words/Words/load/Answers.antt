use Rattle.std.proofs.Common.{sym, subst}
use Rattle.dstm_machines.specs.Traces.Access.{Load}
use Rattle.dstm_tl2_words.specs.Seats.{Home, MayMake}
use Rattle.dstm_tl2_words.proofs.Keeping.{load_keeps}
use Rattle.dstm_tl2_words.proofs.words.Words.load.Goals as goal

pub load-requires-clause-keeps : goal.load-requires-clause-keeps
load-requires-clause-keeps g c =
    let v = c.args.seat.now.me.0 in
    let May : Home g.row.L.Denot → Type 0 = λ home. MayMake home.terms v Load c.args.kind c.args.place in
    load_keeps g.L.Law.holds c.self.inside.words.terms v _ _ (subst May (sym c.self.view_is) c.requires.allowed)
