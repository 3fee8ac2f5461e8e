use Rattle.std.proofs.Common.{ap, ◌∙◌}
use Rattle.dstm_machines.specs.Traces.Access.{Load}
use Rattle.dstm_tl2.specs.declared.kind.Kind.TheVariants.{Sample}
use Rattle.dstm_tl2.specs.Rules.{begin}
use Rattle.dstm_tl2.specs.State.{LocalState}
use Rattle.dstm_tl2_words.proofs.Seats.{state_after}
use Rattle.dstm_engine_tests.proofs.tests.tl2_words.sample.Goals as goal

pub returns-clause-state : goal.returns-clause-state
returns-clause-state g c =
    state_after g.L.Law.holds c.args.words.now.terms c.args.seat.now.me.0 c.load.new.seat.me.0 Load Sample _
    c.load.result c.load.ensures.event
    ∙ ap (λ (l : LocalState). begin l c.load.result) c.requires.state
