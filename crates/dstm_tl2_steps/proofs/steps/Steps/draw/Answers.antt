use Rattle.std.proofs.Common.{◌≡◌, ◌+◌, ◌*◌, ◌∙◌, ap, refl}
use Rattle.dstm_machines.specs.Traces.Access.{Add}
use Rattle.dstm_tl2.specs.declared.kind.Kind.TheVariants.{Draw}
use Rattle.dstm_tl2.specs.Sharing.{table_of}
use Rattle.dstm_tl2_words.specs.Seats.{number_or, view_of}
use Rattle.dstm_tl2_order.specs.Order.{draws}
use Rattle.dstm_tl2_steps.specs.Under.{now}
use Rattle.dstm_tl2_steps.proofs.Stepping.{draw_allowed, went_on}
use Rattle.dstm_tl2_steps.proofs.steps.Steps.draw.Goals as goal

pub add-requires-clause-allowed : goal.add-requires-clause-allowed
add-requires-clause-allowed g c = λ found below.
    let told : Draw c.of.result ≡ draws c.args.writes.now.items = ap draws (c.of.ensures ∙ c.of-told.ensures) in
    draw_allowed (table_of c.args.words.now.terms) (now c.args.words.now c.args.self.now) c.args.writes.now.items
    (number_or (view_of c.args.self.now.seat).number found) c.clock-clock.result found told
    (c.clock-clock.ensures ∙ ap (λ n. 3 * n + 1) c.requires.under.places) c.requires.begun c.requires.told
    c.requires.undrawn c.requires.sound.0 c.requires.sound.1 c.requires.locked

pub returns-clause-went : goal.returns-clause-went
returns-clause-went g c =
    went_on Add c.requires.under c.add.ensures.event (ap draws (c.of.ensures ∙ c.of-told.ensures))
    (c.clock-clock.ensures ∙ ap (λ n. 3 * n + 1) c.requires.under.places) c.add.ensures.seat refl refl refl refl
