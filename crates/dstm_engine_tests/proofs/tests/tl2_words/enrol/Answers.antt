use Rattle.std.proofs.Common.{Some, ap, ◌∙◌}
use Rattle.dstm_machines.specs.Traces.Access.{Add}
use Rattle.dstm_seats.specs.Seats.{state_by}
use Rattle.dstm_tl2.specs.declared.kind.Kind.TheVariants.{Enrol}
use Rattle.dstm_tl2.specs.Runs.{tl2}
use Rattle.dstm_tl2.specs.Sharing.{table_of}
use Rattle.dstm_tl2.specs.State.{LocalState}
use Rattle.dstm_tl2_words.proofs.Seats.{state_after}
use Rattle.dstm_engine_tests.proofs.tests.tl2_words.enrol.Goals as goal

pub returns-clause-state : goal.returns-clause-state
returns-clause-state g c =
    let terms = c.args.words.now.terms in
    let v = c.args.seat.now.me.0 in
    state_after g.L.Law.holds terms v c.add.new.seat.me.0 Add Enrol _ c.add.result c.add.ensures.event
    ∙ ap (λ (l : LocalState). record l { number = Some c.add.result })
    (ap (λ o. state_by tl2 (table_of terms) o v.log) c.requires.new.0)
