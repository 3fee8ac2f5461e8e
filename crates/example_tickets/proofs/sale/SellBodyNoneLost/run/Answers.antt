use Rattle.std.specs.Prelude.{IsSome}
use Rattle.std.proofs.Common.{◌≡◌, ℕ, ◌∙◌, List, ap, arith, slice_set, subst, sym}
use Rattle.dstm_model.specs.declared.value.Val.{Val}
use Rattle.dstm_model.specs.Map.{value_at}
use Rattle.dstm_mem.specs.Memory.{with_set}
use Rattle.example_tickets.specs.Tickets.{AddUp, SellsOne}
use Rattle.example_tickets.proofs.Sales.{Finds, adds_up, after_sale, fewer, has_room, more, sells_one}
use Rattle.example_tickets.proofs.sale.SellBodyNoneLost.run.Given.{Over}
use Rattle.example_tickets.proofs.sale.SellBodyNoneLost.run.Goals.{After-set-2, In_ok-sold}
use Rattle.example_tickets.proofs.sale.SellBodyNoneLost.run.Goals as goal

-- no ticket is left: nothing was set
pub returns-then-left-eq0-clause-lawful : goal.returns-then-left-eq0-clause-lawful
returns-then-left-eq0-clause-lawful g c map admitted =
    let opened = c.in_ok-left.ensures in
    subst (AddUp c.args.self.now.law.all) (sym (opened.unchanged map ∙ c.requires.fresh.untouched map))
    (c.requires.lawful map (opened.narrows map admitted))

pub returns-then-left-eq0-clause-right : goal.returns-then-left-eq0-clause-right
returns-then-left-eq0-clause-right g c map admitted =
    let opened = c.in_ok-left.ensures in
    let same : with_set map (g.M.Mem.written c.open_write.new.self) ≡ map =
    opened.unchanged map ∙ c.requires.fresh.untouched map in
    record {
      left = ap (λ (m : List Val). (value_at m 0).low) (sym same)
          ∙ ap (λ (v : Val). v.low) (opened.found map admitted) ∙ c.if-left-eq0.true;
      same = same;
    }

-- one is left, and is sold: what the sale finds in a map that the memory still admits
finds : (g : Over) (c : In_ok-sold g) (map : List Val) → g.M.Mem.Admits c.open_write-2.new.self map →
    Finds c.args.self.now.law.all c.args.self.now.desk map c.in_ok-left.left c.in_ok-sold.sold
finds g c map admitted =
    let first = c.in_ok-left.ensures in
    let second = c.in_ok-sold.ensures in
    let narrower = second.narrows map admitted in
    let same : with_set map (g.M.Mem.written c.open_write.new.self) ≡ map =
    first.unchanged map ∙ c.requires.fresh.untouched map in
    record {
      lawful = c.requires.lawful map (first.narrows map narrower);
      left_is = ap (λ (m : List Val). value_at m 0) (sym same) ∙ first.found map narrower;
      sold_is = ap (value_at map) (sym c.place-desk.ensures)
          ∙ ap (λ (m : List Val). value_at m c.place-desk.result) (sym (second.unchanged map ∙ same))
          ∙ second.found map admitted;
      some = omega (arith, c.if-left-eq0.false);
    }

pub more-requires : goal.more-requires
more-requires g c =
    let (map, admitted) = c.in_ok-sold.ensures.admits in
    let room =
    has_room c.args.self.now.law.all c.args.self.now.desk map c.in_ok-left.left c.in_ok-sold.sold
    (finds g (goal.at.more-requires g c).In_ok-sold map admitted) in
    record { room = omega (arith, room) }

-- what a sale leaves of a map
leaves : (g : Over) (c : After-set-2 g) (map : List Val) → with_set map (g.M.Mem.written c.set-2.new.self)
    ≡ after_sale c.args.self.now.desk map c.in_ok-left.left c.in_ok-sold.sold
leaves g c map =
    let less = fewer c.in_ok-left.left in
    let same : with_set map (g.M.Mem.written c.open_write-2.new.self) ≡ map =
    c.in_ok-sold.ensures.unchanged map ∙ c.in_ok-left.ensures.unchanged map ∙ c.requires.fresh.untouched map in
    c.set-2.ensures.puts map
    ∙ ap (λ (m : List Val). slice_set m c.place-desk.result c.more.result)
    (c.set.ensures.puts map ∙ ap (λ (m : List Val). slice_set m 0 c.fewer.result) same
    ∙ ap (slice_set map 0) c.fewer.ensures)
    ∙ ap (slice_set (slice_set map 0 less) c.place-desk.result) c.more.ensures
    ∙ ap (λ (o : ℕ). slice_set (slice_set map 0 less) o (more c.in_ok-sold.sold)) c.place-desk.ensures

pub returns-clause-lawful : goal.returns-clause-lawful
returns-clause-lawful g c map admitted =
    let behind = (c.set.ensures.admits map).0 ((c.set-2.ensures.admits map).0 admitted) in
    subst (AddUp c.args.self.now.law.all) (sym (leaves g (goal.at.returns-clause-lawful g c).After-set-2 map))
    (adds_up c.args.self.now.law.all c.args.self.now.desk map c.in_ok-left.left c.in_ok-sold.sold
    (finds g (goal.at.returns-clause-lawful g c).In_ok-sold map behind))

pub returns-clause-right : goal.returns-clause-right
returns-clause-right g c map admitted =
    let behind = (c.set.ensures.admits map).0 ((c.set-2.ensures.admits map).0 admitted) in
    subst (SellsOne c.args.self.now.desk map) (sym (leaves g (goal.at.returns-clause-right g c).After-set-2 map))
    (sells_one c.args.self.now.law.all c.args.self.now.desk map c.in_ok-left.left c.in_ok-sold.sold
    (finds g (goal.at.returns-clause-right g c).In_ok-sold map behind))

pub returns-clause-leads : goal.returns-clause-leads
returns-clause-leads g c =
    let one = c.in_ok-left.ensures in
    let two = c.in_ok-sold.ensures in
    let three = c.set.ensures in
    let four = c.set-2.ensures in
    let (map, admitted) = two.admits in
    record {
      place = four.place ∙ three.place ∙ two.place ∙ one.place;
      objects = four.objects ∙ three.objects ∙ two.objects ∙ one.objects;
      narrows = λ m at. one.narrows m (two.narrows m ((three.admits m).0 ((four.admits m).0 at)));
      admits = (map, (four.admits map).1 ((three.admits map).1 admitted));
      live = four.live;
      holds = λ o some.
          let kept = one.held.kept o some in
          four.held o ∙ three.held o ∙ two.held.kept o (subst IsSome (sym kept) some) ∙ kept;
      ended = tt;
    }
