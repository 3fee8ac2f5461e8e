use Rattle.std.proofs.Common.{ℕ, List, ap}
use Rattle.dstm_seats.specs.Seats.{LeftBy}
use Rattle.dstm_seats.proofs.Ends.{left_by}
use Rattle.dstm_seats.proofs.words.Words.close_in_place.Goals as goal

pub returns : goal.returns
returns g c =
    let key = c.self.inside.table.shared.key in
    let Left : g.row.M-Terms.Denot → List ℕ → Type 0 = λ terms ws.
    LeftBy g.M.Machine.shared terms c.args.seat.me.0 ws in
    let words = left_by g.M.Machine.shared g.M.Machine.enrolling key _ _ _ _ c.close_with-closed.ensures.values.2 in
    rw (← ap (λ h. h.terms) c.self.view_is) words
