use Rattle.std.proofs.Common.{◌≡◌, ◌+◌, List, [], ◌∷◌, ◌++◌, false, length, rules, arith, refl, ap, sym, subst, ◌∙◌}
use Rattle.std.proofs.lemmas.List.{length-append}
use Rattle.dstm_model.specs.declared.reply.Reply.TheVariants.{Never}
use Rattle.dstm_report.specs.declared.report.Row.{Row}
use Rattle.dstm_report.specs.Turns.{Turning}
use Rattle.dstm_report.proofs.Rising.{length-without_first}
use Rattle.dstm_crew.specs.Alone.{MayStep, Sweeps}
use Rattle.dstm_crew.proofs.Sweeps.{end_done, end_empty, given_up_spent, may_begin, may_on, step_given_up, sweep_begins, turns_after}
use Rattle.dstm_crew.proofs.sweeping.run_alone.Goals as goal

pub loop-turns-init : goal.loop-turns-init
loop-turns-init g c = (
  may_begin
      c.requires.can,
  c.requires.room,
  sweep_begins
      c.requires.can,
  λ _. refl,
)

pub returns-in-Done-clause-ran : goal.returns-in-Done-clause-ran
returns-in-Done-clause-ran g c =
    let swept = c.in-Done.ensures.swept c.args.caller.now c.args.rows.now.items c.args.turns.now c.requires.can
    c.loop-turns.invariant.2 in
    end_done c.requires.can swept

pub returns-in-Spent-clause-ran : goal.returns-in-Spent-clause-ran
returns-in-Spent-clause-ran g c =
    c.in-Spent.ensures.swept c.args.caller.now c.args.rows.now.items c.args.turns.now c.requires.can c.loop-turns.invariant.2

pub returns-in_default-clause-ran : goal.returns-in_default-clause-ran
returns-in_default-clause-ran g c =
    let swept = c.in-Blocked.ensures.swept c.args.caller.now c.args.rows.now.items c.args.turns.now c.requires.can
    c.loop-turns.invariant.2 in
    end_empty c.requires.can c.in_default.ensures.none swept

pub returns-in_default-give_up-clause-ran : goal.returns-in_default-give_up-clause-ran
returns-in_default-give_up-clause-ran g c =
    let swept = c.in-Blocked.ensures.swept c.args.caller.now c.args.rows.now.items c.args.turns.now c.requires.can
    c.loop-turns.invariant.2 in
    given_up_spent c.requires.can c.in_default-give_up.ensures.spent swept

pub loop-turns-smaller : goal.loop-turns-smaller
loop-turns-smaller g c =
    let job = c.in-Some.job.now in
    let turn = c.in-Some.ensures.some in
    let fewer : length c.push_row.new.turns.left + 1 ≡ length c.sweep.new.turns.left =
    ap (λ (t : Turning). length t.left + 1) c.push_row.ensures.turns
    ∙ length-without_first job.worker c.sweep.new.turns.left job turn in
    let less = c.in-Blocked.ensures.fewer in
    omega (arith, fewer, less)

pub loop-turns-preserved : goal.loop-turns-preserved
loop-turns-preserved g c =
    let workload = c.args.play.now.workload.now in
    let options = c.args.play.now.options.now in
    let job = c.in-Some.job.now in
    let rows = c.sweep.new.rows.items in
    let turns = c.sweep.new.turns in
    let turn = c.in-Some.ensures.some in
    let drawn = c.in-Some-give_up.drawn in
    let gave = c.in-Some-give_up.ensures.given_up in
    let never : c.push.new.self ≡ Never ∷ [] = search rules in
    let row : Row = record {
      line = job.line;
      worker = job.worker;
      round = c.args.number;
      number = drawn;
      replies = c.push.new.self;
    } in
    let fewer : length c.push_row.new.turns.left + 1 ≡ length turns.left =
    ap (λ (t : Turning). length t.left + 1) c.push_row.ensures.turns ∙ length-without_first job.worker turns.left job turn in
    let may : MayStep workload c.args.table.now c.give_up.new.caller (rows ++ row ∷ []) c.push_row.new.turns =
    may_on (rows ++ row ∷ []) c.in-Blocked.ensures.may gave.made.on
    (turns_after rows row job c.in-Blocked.ensures.may.valid
    c.in-Blocked.ensures.may.turns_are turn refl c.push_row.ensures.turns) in
    let swept = c.in-Blocked.ensures.swept c.args.caller.now c.args.rows.now.items c.args.turns.now c.requires.can
    c.loop-turns.invariant.2 in
    let goes : Sweeps workload options c.args.number c.args.caller.now c.give_up.new.caller c.args.rows.now.items
    (rows ++ row ∷ []) c.push_row.new.turns 0 false = step_given_up
    c.requires.can job row turn c.in-Some.ensures.least gave refl refl
    refl refl never c.push_row.ensures.turns swept in (
      subst (λ (rs : List Row). MayStep workload c.args.table.now c.give_up.new.caller rs c.push_row.new.turns)
          (sym c.push_row.ensures.rows) may,
      omega (
        arith,
        fewer,
        ap length c.push_row.ensures.rows ∙ length-append rows (row ∷ []),
        c.in-Blocked.ensures.room,
        c.push_row.ensures.room,
      ),
      subst (λ (rs : List Row). Sweeps workload options c.args.number c.args.caller.now c.give_up.new.caller
          c.args.rows.now.items rs c.push_row.new.turns 0 false) (sym c.push_row.ensures.rows) goes,
      λ none. c.give_up.ensures.keeps ∙ (c.sweep.ensures.keeps none ∙ c.loop-turns.invariant.3 none),
    )

pub returns-in_default-give_up-clause-keeps : goal.returns-in_default-give_up-clause-keeps
returns-in_default-give_up-clause-keeps g c none =
    c.give_up.ensures.keeps ∙ (c.sweep.ensures.keeps none ∙ c.loop-turns.invariant.3 none)
