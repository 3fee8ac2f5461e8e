use Rattle.dstm_structures.proofs.Doing.{does-as, does-read, does-still, then-read}
use Rattle.dstm_structures.proofs.Mapping.{reads-key}
use Rattle.dstm_structures.proofs.Placing.{looks-keyless, looks-nowhere, looks-there}
use Rattle.dstm_structures.proofs.ordered.OrderedMap.entry.Goals as goal

pub returns-in_default-clause-looks : goal.returns-in_default-clause-looks
returns-in_default-clause-looks g c =
    does-still (λ values. looks-nowhere g.V.Word.found c.args.self c.args.place values c.in_default.is)

pub returns-in_default-key-clause-looks : goal.returns-in_default-key-clause-looks
returns-in_default-key-clause-looks g c =
    does-as (does-read c.in_ok-slot.ensures.gets)
    (λ before after size reads. looks-keyless g.V.Word.found c.args.self c.args.place c.in-Some.at c.slot_at.result.object
    c.in_ok-slot.slot.key before after c.in-Some.is c.slot_at.ensures c.in_default-key.is (reads-key reads))

pub returns-clause-looks : goal.returns-clause-looks
returns-clause-looks g c =
    then-read c.in_ok-slot.ensures.keeps (does-read c.in_ok-slot.ensures.gets) c.in_ok-value.ensures.gets
    (λ before mid after size reads. looks-there g.V.Word.found c.args.self c.args.place c.in-Some.at c.slot_at.result.object
    c.value_at.result.object c.in-Some-key.key c.in_ok-slot.slot.key c.in_ok-value.value before mid after c.in-Some.is
    c.slot_at.ensures c.value_at.ensures c.in-Some-key.is (reads-key reads))
