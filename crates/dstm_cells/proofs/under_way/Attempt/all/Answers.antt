use Rattle.std.proofs.Common.{◌≡◌, ◌∙◌, arith, rules, subst}
use Rattle.dstm_attempts.proofs.UnderWay.{all_lawful, all_values}
use Rattle.dstm_cells.specs.Attempts.{ReadsInTurn, StopsReading}
use Rattle.dstm_cells.proofs.Calling.{is_err}
use Rattle.dstm_cells.proofs.Reading.{one_more, stops_reading}
use Rattle.dstm_cells.proofs.under_way.Attempt.all.Goals as goal

pub returns-clause-reads : goal.returns-clause-reads
returns-clause-reads g c map may =
    let so_far = c.loop-object.invariant in
    let end : c.loop-object.object ≡ c.args.objects =
    omega (arith, c.loop-object-test.false, c.loop-object.auto.object-end) in
    all_values g.L.Law.holds c.args.self.now.attempts.caller c.loop-object.self.attempts.caller c.loop-object.values.items map
    c.loop-object.object c.args.objects so_far.1 c.requires.all end so_far.0 may (so_far.4 map may)

pub returns-clause-lawful : goal.returns-clause-lawful
returns-clause-lawful g c =
    let (map, may) = c.loop-object.invariant.3 in
    all_lawful g.L.Law.holds c.args.self.now.attempts.caller c.loop-object.self.attempts.caller c.loop-object.values.items map
    c.loop-object.invariant.1 (returns-clause-reads g c map may) may

pub returns-clause-in_turn : goal.returns-clause-in_turn
returns-clause-in_turn g c =
    let end : c.loop-object.object ≡ c.args.objects =
    omega (arith, c.loop-object-test.false, c.loop-object.auto.object-end) in
    subst (λ o. ReadsInTurn g.L.Law.holds o c.args.self.now.attempts.caller c.loop-object.self.attempts.caller)
    (end ∙ c.requires.all) c.loop-object.invariant.5

pub returns-in_err-read-clause-stops : goal.returns-in_err-read-clause-stops
returns-in_err-read-clause-stops g c =
    let stop = c.in_err-read.field-0.0 in
    let k = c.args.self.now.attempts.caller in
    let n = c.read.new.self.attempts.caller in
    is_err c.from_residual-in_err-read.result stop (λ stop. StopsReading g.L.Law.holds k n stop.why) c.from_residual-in_err-read.ensures.1
    (stops_reading g.L.Law.holds c.loop-object.object c.args.objects k c.loop-object.self.attempts.caller n stop.why
    c.loop-object.invariant.5 c.loop-object.invariant.1 c.requires.all c.loop-object-test.true c.in_err-read.ensures.stops)

pub loop-object-preserved : goal.loop-object-preserved
loop-object-preserved g c =
    let k = c.loop-object.self.attempts.caller in
    let n = c.read.new.self.attempts.caller in
    let finds = c.in_ok-read.ensures.finds in (
      search rules,
      c.in_ok-read.ensures.keeps ∙ c.loop-object.invariant.1,
      λ map. finds.same map ∙ c.loop-object.invariant.2 map,
      c.in_ok-read.ensures.may,
      search rules,
      one_more g.L.Law.holds c.loop-object.object c.args.self.now.attempts.caller k n c.loop-object.invariant.5 c.in_ok-read.ensures.once,
    )
