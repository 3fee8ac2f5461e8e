use Rattle.std.proofs.Common.{List, ap, subst, ◌∙◌}
use Rattle.dstm_model.specs.declared.value.Val.{Val}
use Rattle.dstm_tables.specs.Founders.{seen_by}
use Rattle.dstm_crew.specs.Opened.{IsOpened}
use Rattle.dstm_crew.proofs.Closes.{adds_alone, can_run, least_came, opened_for}
use Rattle.dstm_crew.proofs.alone.play_alone.Goals as goal

pub run_alone-requires-clause-can : goal.run_alone-requires-clause-can
run_alone-requires-clause-can g c =
    let workload = c.args.play.now.workload.now in
    let options = c.args.play.now.options.now in
    let p = c.args.progress.now in
    can_run c.requires.alone c.requires.can.begins c.requires.can.turns
    (opened_for p.rows.items c.count_waiting-waiting.ensures.count c.requires.can.turns
    (subst (λ (vs : List Val). IsOpened workload options c.count_waiting-waiting.result.count vs c.in_ok-table.table
    c.in_ok-table.founder c.in_ok-table.caller) (ap (λ v. v.items) c.replace-values.ensures.value)
    c.in_ok-table.ensures.opened))

pub returns-clause-played : goal.returns-clause-played
returns-clause-played g c =
    let workload = c.args.play.now.workload.now in
    let options = c.args.play.now.options.now in
    let p = c.args.progress.now in
    let table = c.in_ok-table.table in
    let opened = opened_for p.rows.items c.count_waiting-waiting.ensures.count c.requires.can.turns
    (subst (λ (vs : List Val). IsOpened workload options c.count_waiting-waiting.result.count vs table
    c.in_ok-table.founder c.in_ok-table.caller) (ap (λ v. v.items) c.replace-values.ensures.value)
    c.in_ok-table.ensures.opened) in
    let ran = c.run_alone.ensures.ran in
    let taken = c.retire.new.self in
    record {
      now = ran.now;
      closed = seen_by taken;
      rows_are = ran.goes.rows_are;
      rounds_are = c.close_behind-left.ensures.kept;
      adds = adds_alone workload options c.args.number p.rows.items p.values.items table c.in_ok-table.founder taken
          c.in_ok-table.caller c.run_alone.new.caller c.run_alone.new.rows.items c.run_alone.new.turns c.requires.alone
          c.requires.can.begins opened ran (λ none. c.run_alone.ensures.keeps none ∙ opened.none_let_go) (c.retire.ensures.back ran.goes.on.rest.over)
          c.close_behind-left.ensures.run (least_came workload options p.rows.items c.count_waiting-waiting.result.first
          c.in_ok-table.caller c.requires.can.turns c.count_waiting-waiting.ensures.first c.in_ok-table.ensures.come)
          c.close_behind-left.ensures.values;
      turns_are = ran.goes.turns_are;
    }
