use Rattle.std.proofs.Common.{sym, subst}
use Rattle.dstm_machines.specs.Traces.Access.{Add}
use Rattle.dstm_tl2_words.specs.Seats.{Home, DrawsLawfully, MayMake}
use Rattle.dstm_tl2_words.proofs.Keeping.{add_keeps}
use Rattle.dstm_tl2_words.proofs.words.Words.add.Goals as goal

pub add-requires-clause-keeps : goal.add-requires-clause-keeps
add-requires-clause-keeps g c =
    let v = c.args.seat.now.me.0 in
    let May : Home g.row.L.Denot → Type 0 = λ home.
    MayMake home.terms v Add c.args.kind c.args.place × DrawsLawfully g.L.Law.holds home.terms v c.args.kind in
    let may = subst May (sym c.self.view_is) (c.requires.allowed, c.requires.lawful) in
    add_keeps g.L.Law.holds c.self.inside.words.terms v _ _ may.0 may.1
