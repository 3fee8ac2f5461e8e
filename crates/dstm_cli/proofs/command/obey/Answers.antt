use Rattle.std.proofs.Common.{ℕ, List, Option, Some, Err, sym, subst, ap, ◌∙◌}
use Rattle.std.proofs.Math.Seq.{drop-length}
use Rattle.std.proofs.lemmas.Result.{err_from_is_err_and}
use Rattle.dstm_io.specs.Sink.{AppendsPart}
use Rattle.dstm_command.specs.declared.command.Command.{Command}
use Rattle.dstm_records.specs.Running.{added}
use Rattle.dstm_cli.specs.declared.failure.Failure.TheVariants.{WriteFault}
use Rattle.dstm_cli.specs.Command.{asked, Answers}
use Rattle.dstm_cli.specs.Ending.{Happened, EndsAs}
use Rattle.dstm_cli.proofs.Ends.{none_closed, status_is}
use Rattle.dstm_cli.proofs.command.obey.Goals as goal

pub returns-in_err-write_all-clause-ending : goal.returns-in_err-write_all-clause-ending
returns-in_err-write_all-clause-ending g c =
    let command : Option Command = asked c.args.words.now in
    let what : Happened = record {
      left_before = g.S.Source.left c.args.source.now;
      left_after = g.S.Source.left c.output_of.new.source;
      read_faults_before = g.S.Source.faults c.args.source.now;
      read_faults_after = g.S.Source.faults c.output_of.new.source;
      taken_before = g.K.Sink.taken c.args.out.now;
      taken_after = g.K.Sink.taken c.write_all.new.sink;
      write_faults_before = g.K.Sink.faults c.args.out.now;
      write_faults_after = g.K.Sink.faults c.write_all.new.sink;
      records = added c.args.rounds.now c.output_of.new.rounds;
    } in
    let text : List ℕ = c.in_ok-output.output.text.items in
    let status : ℕ = c.in_ok-output.output.status in
    let answers : Answers command (what.left_before, what.left_after) what.records text status =
    subst (λ (asked : Option Command). Answers asked (what.left_before, what.left_after) what.records text status)
    (sym c.in_ok-command.ensures.ok) c.in_ok-output.ensures.output in
    let part : AppendsPart what.taken_before what.taken_after text =
    subst (AppendsPart what.taken_before what.taken_after) c.deref.ensures.value c.in_err-write_all.ensures.part in
    let failure = err_from_is_err_and c.from_residual-in_err-write_all.result
    c.from_residual-in_err-write_all.ensures.1 in
    let ends : EndsAs command what (Err WriteFault) =
    (c.in_err-write_all.ensures.fault, (text, (status, (answers, part)))) in
    subst (EndsAs command what) (sym (failure.1 ∙ ap Err failure.2)) ends

pub returns-in_err-command-clause-closed : goal.returns-in_err-command-clause-closed
returns-in_err-command-clause-closed g c =
    let left = g.S.Source.left c.args.source.now in
    none_closed (asked c.args.words.now) (left, left) (added c.args.rounds.now c.args.rounds.now)
    (drop-length c.args.rounds.now)

pub returns-clause-written : goal.returns-clause-written
returns-clause-written g c =
    status_is (Some c.in_ok-command.command) (g.S.Source.left c.args.source.now, g.S.Source.left c.output_of.new.source)
    (added c.args.rounds.now c.output_of.new.rounds)
    c.in_ok-output.output.text.items c.in_ok-output.output.status c.in_ok-output.ensures.output
