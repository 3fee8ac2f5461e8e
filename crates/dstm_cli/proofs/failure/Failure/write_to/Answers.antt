use Rattle.std.proofs.Common.{sym, subst}
use Rattle.std.specs.Prelude.{OnOk, OnErr}
use Rattle.std.specs.Io.KnownBytes.{Appends}
use Rattle.dstm_io.specs.Sink.{AppendsPart}
use Rattle.dstm_cli.specs.declared.failure.Failure.{Failure}
use Rattle.dstm_cli.specs.Failure.{message_of}
use Rattle.dstm_cli.proofs.failure.Failure.write_to.Goals as goal

pub returns-in-Usage-clause-part : goal.returns-in-Usage-clause-part
returns-in-Usage-clause-part g c =
    subst (λ (failure : Failure). OnErr c.write_all.result
    (AppendsPart (g.E.Sink.taken c.args.err.now) (g.E.Sink.taken c.write_all.new.sink) (message_of failure)))
    (sym c.in-Usage.is) c.write_all.ensures.part

pub returns-in-WriteFault-clause-taken : goal.returns-in-WriteFault-clause-taken
returns-in-WriteFault-clause-taken g c =
    subst (λ (failure : Failure). OnOk c.write_all-in-WriteFault.result
    (Appends (g.E.Sink.taken c.args.err.now) (g.E.Sink.taken c.write_all-in-WriteFault.new.sink) (message_of failure)))
    (sym c.in-WriteFault.is) c.write_all-in-WriteFault.ensures.all

pub returns-in-WriteFault-clause-part : goal.returns-in-WriteFault-clause-part
returns-in-WriteFault-clause-part g c =
    subst (λ (failure : Failure). OnErr c.write_all-in-WriteFault.result
    (AppendsPart (g.E.Sink.taken c.args.err.now) (g.E.Sink.taken c.write_all-in-WriteFault.new.sink)
    (message_of failure))) (sym c.in-WriteFault.is) c.write_all-in-WriteFault.ensures.part
