use Rattle.std.proofs.Common.{◌+◌, ◌-◌, ◌≡◌, ◌∙◌, ap, arith, subst, sym}
use Rattle.dstm_tl2_words.specs.Seats.{Home, Joined, View}
use Rattle.dstm_tl2_engine.specs.Callers.{TlCalled, seat_view}
use Rattle.dstm_tl2_engine.specs.Tables.{TlFounding}
use Rattle.dstm_tl2_engine.proofs.Enrolling.{keeps_rest}
use Rattle.dstm_tl2_engine.proofs.Retired.{retired_done, returned_more}
use Rattle.dstm_tl2_engine.proofs.stm.TlFounder.retire.Goals as goal

pub invariant_of-self : goal.invariant_of-self
invariant_of-self g c =
    let v = c.self.invariant in
    let old = c.self.inside.seat.me.0 in
    let new = c.join.new.seat.me.0 in
    let returned = c.give_back.new.self in
    let joined : Joined g.L.Law.holds old (seat_view returned) new =
    subst (λ (x : View _). Joined g.L.Law.holds old x new) c.into_seat.ensures.view c.join.ensures.joined in
    let told : returned.home.terms ≡ c.self.inside.terms =
    ap (λ (k : TlCalled _). k.home.terms) c.give_back.ensures.kept
    ∙ ap (λ (h : Home _). h.terms) (c.requires.caller ∙ sym c.requires.table)
    ∙ ap (λ (f : TlFounding _). f.home.terms) (sym c.self.view_is) in
    let spent : new.enrolments ≡ old.enrolments + 0 = ap (λ (x : View _). x.enrolments) joined.view in
    let outs : new.out ≡ old.out - 1 = ap (λ (x : View _). x.out) joined.view in (
      ap (λ (x : View _). x.terms) joined.view ∙ v.0,
      c.join.ensures.seat.1,
      ap (λ (x : View _). x.first) joined.view ∙ v.2,
      (let was = v.3 in let less = c.saturating_sub-self-inside.ensures in omega arith),
      v.4,
      (let enough = v.5 in omega arith),
      returned_more returned joined told
          c.give_back.ensures.free v.6,
    )

pub returns : goal.returns
returns g c =
    let joined : Joined g.L.Law.holds c.args.self.now.view (seat_view c.give_back.new.self) c.join.new.seat.me.0 =
    subst (λ (x : TlFounding _). Joined g.L.Law.holds x.view (seat_view c.give_back.new.self) c.join.new.seat.me.0)
    c.self.view_is (subst (λ (v : View _). Joined g.L.Law.holds c.self.inside.seat.me.0 v c.join.new.seat.me.0)
    c.into_seat.ensures.view c.join.ensures.joined) in
    record {
      retired = record {
        returned = c.give_back.new.self;
        steps = c.give_back.ensures.steps;
        free = c.give_back.ensures.free;
        rest = c.give_back.ensures.rest;
        joined = joined;
        done = retired_done c.give_back.ensures.steps joined c.give_back.ensures.done;
        founder =
            keeps_rest _ c.self.inside.terms c.self.inside.seat.me.0 c.join.new.seat.me.0
            c.self.inside.made c.self.view_is c.requires.table
            (c.join.ensures.seat.0 ∙ ap (λ (x : Home _). x.table) c.stm.view_is);
      };
    }
