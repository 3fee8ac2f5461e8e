use Rattle.std.proofs.Common.{sym}
use Rattle.dstm_machines.specs.Traces.Access.{Load}
use Rattle.dstm_seats.proofs.Moves.{asks, loads}
use Rattle.dstm_seats.proofs.words.Words.load_as.Goals as goal

pub load-requires : goal.load-requires
load-requires g c =
    asks g.M.Machine.shared g.M.Machine.enrolling _ _ (sym c.self.view_is) c.args.seat.now Load c.args.kind
    c.args.place _ c.requires.seat c.requires.allowed c.requires.keeps c.self.invariant.1 _
    (λ r. loads g.M.Machine.shared g.M.Machine.enrolling _ _ _ c.args.seat.now.me g.J.Told.kind c.args.kind
    c.args.place c.requires.kind r.of.2 r.may r.keeps)
