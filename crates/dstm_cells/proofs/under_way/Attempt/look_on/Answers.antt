use Rattle.std.proofs.Common.{◌+◌, ◌∙◌, ◌≡◌, arith, inl, inr, refl, subst, sym, Ok, Err}
use Rattle.dstm_attempts.specs.Attempts.{LooksChanged}
use Rattle.dstm_cells.specs.Attempts.{FollowsLooks, LooksInTurn}
use Rattle.dstm_cells.specs.declared.error.GaveUp.TheVariants.{Idle, Spent}
use Rattle.dstm_cells.proofs.Resting.{of_all}
use Rattle.dstm_cells.proofs.Waiting.{changes_on, looks_more, looks_on, spends_on, stays_same, still_at}
use Rattle.dstm_cells.proofs.under_way.Attempt.look_on.Goals as goal

pub loop-look-init : goal.loop-look-init
loop-look-init g c = (stays_same c.args.self.now.attempts.caller, omega arith, refl, refl, inr refl, refl)

pub loop-look-preserved : goal.loop-look-preserved
loop-look-preserved g c =
    let first = c.args.self.now.attempts.caller in
    let last = c.loop-look.self.attempts.caller in
    let new = c.look.new.self.caller in
    let look = c.look.ensures.same c.in-Same.is in
    let (stays, looks, still, kept, live, in_turn) = c.loop-look.invariant in
    let (stays_on, one) = looks_on first last new c.clock-began.result stays look in (
      stays_on,
      omega (arith, looks, one),
      still_at last new c.clock-began.result (c.clock-began.ensures ∙ sym still) look ∙ still,
      kept,
      inl (c.look.ensures.live c.in-Same.is),
      looks_more g.L.Law.holds c.loop-look._look first last new in_turn (c.look.ensures.once (let same = c.in-Same.is in λ spent. absurd (cc))),
    )

pub returns-in-Changed-clause-stays : goal.returns-in-Changed-clause-stays
returns-in-Changed-clause-stays g c =
    changes_on g.L.Law.holds c.args.self.now.attempts.caller c.loop-look.self.attempts.caller c.look.new.self.caller
    c.clock-began.result c.loop-look.invariant.0 (c.look.ensures.changed c.in-Changed.is)

pub returns-in-Changed-clause-follows : goal.returns-in-Changed-clause-follows
returns-in-Changed-clause-follows g c = of_all g.R.Rest.tires c.args.self.now.looks
    (λ looks. FollowsLooks g.L.Law.holds looks c.args.self.now.attempts.caller c.look.new.self.caller (Ok tt)) (record {
      last = c.loop-look.self.attempts.caller;
      count = c.loop-look._look;
      fewer = omega (arith, c.loop-look-test.true);
      in_turn = c.loop-look.invariant.5;
      stays = c.loop-look.invariant.0;
      live = c.loop-look.invariant.4;
      once = c.look.ensures.once (let changed = c.in-Changed.is in λ spent. absurd (cc));
      changed = subst (λ since. LooksChanged g.L.Law.holds since c.loop-look.self.attempts.caller c.look.new.self.caller)
          c.clock-began.ensures (c.look.ensures.changed c.in-Changed.is);
    })

pub returns-in-Spent-clause-stays : goal.returns-in-Spent-clause-stays
returns-in-Spent-clause-stays g c =
    spends_on c.args.self.now.attempts.caller c.loop-look.self.attempts.caller c.look.new.self.caller
    c.loop-look.invariant.0 (c.look.ensures.spent c.in-Spent.is)

pub returns-in-Spent-clause-follows : goal.returns-in-Spent-clause-follows
returns-in-Spent-clause-follows g c = of_all g.R.Rest.tires c.args.self.now.looks
    (λ looks. FollowsLooks g.L.Law.holds looks c.args.self.now.attempts.caller c.look.new.self.caller (Err Spent)) (record {
      last = c.loop-look.self.attempts.caller;
      count = c.loop-look._look;
      fewer = omega (arith, c.loop-look-test.true);
      in_turn = c.loop-look.invariant.5;
      stays = c.loop-look.invariant.0;
      spent = c.look.ensures.spent c.in-Spent.is;
      unbegun = c.look.ensures.unbegun c.in-Spent.is;
    })

pub returns-clause-stays : goal.returns-clause-stays
returns-clause-stays g c = c.loop-look.invariant.0

pub returns-clause-follows : goal.returns-clause-follows
returns-clause-follows g c =
    let looks = c.loop-look.invariant.1 in
    let end : c.loop-look._look ≡ c.args.self.now.looks =
    omega (arith, c.loop-look-test.false, c.loop-look.auto._look-end) in
    of_all g.R.Rest.tires c.args.self.now.looks
    (λ looks. FollowsLooks g.L.Law.holds looks c.args.self.now.attempts.caller c.loop-look.self.attempts.caller (Err Idle)) (record {
      in_turn = subst (λ count. LooksInTurn g.L.Law.holds count c.args.self.now.attempts.caller c.loop-look.self.attempts.caller)
          end c.loop-look.invariant.5;
      stays = c.loop-look.invariant.0;
      looks = omega (arith, looks, c.loop-look-test.false, c.loop-look.auto._look-end);
      still = c.loop-look.invariant.2;
    })

pub returns-in-Changed-clause-looks : goal.returns-in-Changed-clause-looks
returns-in-Changed-clause-looks g c = c.loop-look.invariant.3

pub returns-in-Spent-clause-looks : goal.returns-in-Spent-clause-looks
returns-in-Spent-clause-looks g c = c.loop-look.invariant.3

pub returns-clause-looks : goal.returns-clause-looks
returns-clause-looks g c = c.loop-look.invariant.3

pub returns-then-is_tired-clause-follows : goal.returns-then-is_tired-clause-follows
returns-then-is_tired-clause-follows g c =
    let first = c.args.self.now.attempts.caller in
    let last = c.loop-look.self.attempts.caller in
    let new = c.look.new.self.caller in
    let look = c.look.ensures.same c.in-Same.is in
    let (stays, looks, still, kept, live, in_turn) = c.loop-look.invariant in
    let (stays_on, one) = looks_on first last new c.clock-began.result stays look in
    record {
      looks = c.loop-look._look + 1;
      most = omega (arith, c.loop-look-test.true);
      some = λ none. omega (arith, none);
      all = λ never. let no = c.is_tired.ensures never in let yes = c.if-is_tired.true in absurd (cc);
      said = record {
        in_turn = looks_more g.L.Law.holds c.loop-look._look first last new in_turn
            (c.look.ensures.once (let same = c.in-Same.is in λ spent. absurd (cc)));
        stays = stays_on;
        looks = omega (arith, looks, one);
        still = still_at last new c.clock-began.result (c.clock-began.ensures ∙ sym still) look ∙ still;
      };
    }
