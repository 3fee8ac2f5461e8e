use Rattle.std.proofs.Common.{◌≡◌, ◌⊎◌, ℕ, subst, sym, ◌∙◌, inl, inr, ⊎_elim, arith}
use Rattle.std.specs.Prelude.{IfSome}
use Rattle.dstm_io.specs.Count.{Rises}
use Rattle.dstm_records.specs.Running.{added}
use Rattle.dstm_cli.specs.declared.failure.Failure.{Failure}
use Rattle.dstm_cli.specs.Failure.{message_of}
use Rattle.dstm_cli.specs.Command.{asked, Refuses}
use Rattle.dstm_cli.proofs.Ends.{takes_or_faults, between, answered-refuses, failed-reason, failed-refuses}
use Rattle.dstm_cli.proofs.Ends.{closed_sights, failed-complete, failed-unplayed}
use Rattle.dstm_cli.proofs.command.dstm.Goals as goal

pub returns-in-Ok-clause-usage : goal.returns-in-Ok-clause-usage
returns-in-Ok-clause-usage g c is = between c.in-Ok.status 1 c.in-Ok.ensures.written is (omega arith, omega arith)

pub returns-in-Ok-clause-read_fault : goal.returns-in-Ok-clause-read_fault
returns-in-Ok-clause-read_fault g c is = between c.in-Ok.status 3 c.in-Ok.ensures.written is (omega arith, omega arith)

pub returns-in-Ok-clause-write_fault : goal.returns-in-Ok-clause-write_fault
returns-in-Ok-clause-write_fault g c is = between c.in-Ok.status 4 c.in-Ok.ensures.written is (omega arith, omega arith)

pub returns-in-Ok-clause-part : goal.returns-in-Ok-clause-part
returns-in-Ok-clause-part g c is = between c.in-Ok.status 4 c.in-Ok.ensures.written is (omega arith, omega arith)

pub returns-in-Ok-clause-unwritten : goal.returns-in-Ok-clause-unwritten
returns-in-Ok-clause-unwritten g c not_done no_fault lawful = absurd (⊎_elim not_done lawful c.in-Ok.ensures.written)

pub returns-in-Ok-clause-refuses : goal.returns-in-Ok-clause-refuses
returns-in-Ok-clause-refuses g c =
    answered-refuses (asked c.args.words.now) (g.S.Source.left c.args.source.now) (g.S.Source.left c.obey.new.source)
    (added c.args.rounds.now c.obey.new.rounds)
    c.in-Ok.ensures.ending.0 c.in-Ok.status
    ((c.in-Ok.status ≡ 2) ⊎ (c.in-Ok.status ≡ 5) ⊎ Rises (g.S.Source.faults c.args.source.now)
    (g.S.Source.faults c.obey.new.source))
    c.in-Ok.ensures.ending.1.0

pub returns-in-Ok-clause-complete : goal.returns-in-Ok-clause-complete
returns-in-Ok-clause-complete g c can = ⊎_elim (λ is. inl is) (λ is. inr (inl is)) c.in-Ok.ensures.written

pub returns-in-Err-clause-told : goal.returns-in-Err-clause-told
returns-in-Err-clause-told g c some other = (
  c.in-Err.failure,
  (
    sym c.status.ensures,
    λ is. failed-reason (asked c.args.words.now) _ c.in-Err.failure c.in-Err.ensures.ending (sym c.status.ensures ∙ is),
    takes_or_faults c.write_to.result _ _ _ _ (message_of c.in-Err.failure)
        c.write_to.ensures.taken c.write_to.ensures.no_fault c.write_to.ensures.part c.write_to.ensures.fault,
  ),
)

pub returns-in-Err-clause-refuses : goal.returns-in-Err-clause-refuses
returns-in-Err-clause-refuses g c =
    let command = asked c.args.words.now in
    let left = g.S.Source.left c.args.source.now in
    let before = g.S.Source.faults c.args.source.now in
    let after = g.S.Source.faults c.obey.new.source in
    subst (λ (status : ℕ). IfSome left (λ input. (f : Failure) → Refuses command input f → (status ≡ 2) ⊎
    (status ≡ 5) ⊎ Rises before after))
    (sym c.status.ensures)
    (failed-refuses command _ c.in-Err.failure c.in-Err.ensures.ending)

pub returns-in-Err-clause-complete : goal.returns-in-Err-clause-complete
returns-in-Err-clause-complete g c can =
    let before = g.S.Source.faults c.args.source.now in
    let after = g.S.Source.faults c.obey.new.source in
    let faults = g.K.Sink.faults c.args.out.now in
    let faults_after = g.K.Sink.faults c.obey.new.out in
    subst (λ (status : ℕ). (status ≡ 0) ⊎ (status ≡ 6) ⊎ (status ≡ 5) ⊎ Rises before after ⊎ Rises faults faults_after)
    (sym c.status.ensures)
    (failed-complete (asked c.args.words.now) _ c.in-Err.failure c.in-Err.ensures.ending can)

pub returns-in-Ok-clause-sights : goal.returns-in-Ok-clause-sights
returns-in-Ok-clause-sights g c =
    closed_sights (asked c.args.words.now) (g.S.Source.left c.args.source.now, g.S.Source.left c.obey.new.source)
    (added c.args.rounds.now c.obey.new.rounds) c.obey.ensures.closed

pub returns-in-Err-clause-sights : goal.returns-in-Err-clause-sights
returns-in-Err-clause-sights g c =
    closed_sights (asked c.args.words.now) (g.S.Source.left c.args.source.now, g.S.Source.left c.obey.new.source)
    (added c.args.rounds.now c.obey.new.rounds) c.obey.ensures.closed

pub returns-in-Err-clause-unplayed : goal.returns-in-Err-clause-unplayed
returns-in-Err-clause-unplayed g c is =
    failed-unplayed (asked c.args.words.now) _ c.in-Err.failure c.in-Err.ensures.ending
    (subst (λ (status : ℕ). (status ≡ 1) ⊎ (status ≡ 2) ⊎ (status ≡ 3)) c.status.ensures is)
