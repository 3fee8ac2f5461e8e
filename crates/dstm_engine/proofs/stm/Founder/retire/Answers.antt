use Rattle.std.proofs.Common.{◌∙◌, ◌≡◌, Some, ap, sym, subst}
use Rattle.dstm_words.specs.Seats.{Home, Joined, View}
use Rattle.dstm_engine.specs.Callers.{seat_view}
use Rattle.dstm_engine.specs.Tables.{Founding}
use Rattle.dstm_engine.proofs.Enrolling.{keeps_rest}
use Rattle.dstm_engine.proofs.Retired.{retired_done, retired_run}
use Rattle.dstm_engine.proofs.stm.Founder.retire.Goals as goal

pub returns : goal.returns
returns g c =
    let words = c.stm.view_is in
    let joined : Joined g.L.Law.holds c.args.self.now.view (seat_view c.leave.new.self) c.join.new.seat.me.0 =
    subst (λ (x : Founding _). Joined g.L.Law.holds x.view (seat_view c.leave.new.self) c.join.new.seat.me.0)
    c.self.view_is (subst (λ (v : View _). Joined g.L.Law.holds c.self.inside.seat.me.0 v c.join.new.seat.me.0)
    c.into_seat.ensures.view c.join.ensures.joined) in
    let terms : c.args.self.now.view.terms ≡ Some c.args.caller.home.terms =
    subst (λ (x : Founding _). x.view.terms ≡ Some x.home.terms) c.self.view_is c.self.invariant.0
    ∙ ap (λ (h : Home _). Some h.terms) (c.requires.table ∙ sym c.requires.caller) in
    record {
      retired = record {
        quit = c.leave.new.self;
        steps = c.leave.ensures.steps;
        rest = c.leave.ensures.rest;
        joined = joined;
        run = retired_run joined terms;
        done = retired_done c.leave.ensures.steps joined terms;
        founder =
            keeps_rest _ c.self.inside.terms c.self.inside.seat.me.0 c.join.new.seat.me.0
            c.self.inside.made c.self.inside.guests c.self.view_is c.requires.table
            (c.join.ensures.seat.0 ∙ ap (λ (x : Home _). x.table) words);
      };
    }
