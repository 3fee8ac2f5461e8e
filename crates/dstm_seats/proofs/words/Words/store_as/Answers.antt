use Rattle.std.proofs.Common.{sym}
use Rattle.dstm_machines.specs.Traces.Access.{Store}
use Rattle.dstm_seats.proofs.Moves.{asks, stores}
use Rattle.dstm_seats.proofs.words.Words.store_as.Goals as goal

pub store-requires : goal.store-requires
store-requires g c =
    asks g.M.Machine.shared g.M.Machine.enrolling _ _ (sym c.self.view_is) c.args.seat.now (Store c.args.put) c.args.kind
    c.args.place _ c.requires.seat c.requires.allowed c.requires.keeps c.self.invariant.1 _
    (λ r. stores g.M.Machine.shared g.M.Machine.enrolling _ _ _ c.args.seat.now.me g.J.Told.kind c.args.kind
    c.args.place c.args.put c.requires.kind r.of.2 r.may r.keeps)
