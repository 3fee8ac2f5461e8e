use Rattle.std.proofs.Common.{ℕ, ap, sym, ◌∙◌, subst, arith}
use Rattle.atomic_table.specs.Table.{Me}
use Rattle.dstm_seats.specs.declared.view.View.{View}
use Rattle.dstm_seats.specs.Seats.{Home, IsOf, Meets}
use Rattle.dstm_seats.proofs.Parting.{joins, meets, joined_after}
use Rattle.dstm_seats.proofs.words.Words.join.Goals as goal

pub join_seat-requires : goal.join_seat-requires
join_seat-requires g c =
    let r = c.requires in
    let wide = c.self.invariant.1 in
    let some = g.M.Machine.enrolling.has_count (g.M.Machine.shared.table c.self.inside.table.shared.key) in
    let h = subst (λ (h : Home g.row.M-Terms.Denot). IsOf h c.args.seat.now × IsOf h c.args.other) (sym c.self.view_is)
    (r.seat, r.other) in (
      h.0.0,
      h.1.0,
      h.1.1,
      omega arith,
      joins g.M.Machine.shared g.M.Machine.enrolling c.self.inside.table.shared.key _ _ _ _
          h.0.2 h.1.2 r.first r.out.0 r.out.1,
    )

pub load-found-requires : goal.load-found-requires
load-found-requires g c =
    let j = c.join_seat.ensures in
    let wide = c.self.invariant.1 in
    let some = g.M.Machine.enrolling.has_count (g.M.Machine.shared.table c.self.inside.table.shared.key) in
    let seat = rw (← c.self.view_is) at c.requires.seat in (
      j.0 ∙ seat.0,
      omega arith,
      meets g.M.Machine.shared g.M.Machine.enrolling c.self.inside.table.shared.key _ _ c.join_seat.new.seat.me
          (ap {A = Me ℕ (View g.row.M-Kind.Denot g.row.M-Terms.Denot)} (λ m. m.0.terms) j.2 ∙ seat.2),
    )

pub returns-clause-joined : goal.returns-clause-joined
returns-clause-joined g c =
    let Met : View g.row.M-Kind.Denot g.row.M-Terms.Denot → Type 0 = λ v.
    Meets g.M.Machine.shared v c.load-found.new.seat.me.0 in
    let both = ap {A = Me ℕ (View g.row.M-Kind.Denot g.row.M-Terms.Denot)} (λ m. m.0) c.join_seat.ensures.2 in
    joined_after g.M.Machine.shared g.M.Machine.enrolling c.self.inside.table.shared.key _ _ _
    (rw (← both) c.load-found.ensures.2.1)
