use Rattle.std.proofs.Common.{sym}
use Rattle.dstm_machines.specs.Traces.Access.{Add}
use Rattle.dstm_seats.proofs.Moves.{asks, adds}
use Rattle.dstm_seats.proofs.words.Words.add_as.Goals as goal

pub fetch_add-requires : goal.fetch_add-requires
fetch_add-requires g c =
    asks g.M.Machine.shared g.M.Machine.enrolling _ _ (sym c.self.view_is) c.args.seat.now Add c.args.kind
    c.args.place _ c.requires.seat c.requires.allowed c.requires.keeps c.self.invariant.1 _
    (λ r. adds g.M.Machine.shared g.M.Machine.enrolling _ _ _ c.args.seat.now.me g.J.Told.kind c.args.kind
    c.args.place c.requires.kind r.of.2 r.may r.keeps c.requires.adds c.requires.enrolment)
