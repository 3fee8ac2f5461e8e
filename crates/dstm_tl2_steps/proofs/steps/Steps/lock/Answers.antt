use Rattle.std.proofs.Common.{◌≡◌, ◌+◌, ◌<◌, ◌^◌, ◌∙◌, ap, arith, refl}
use Rattle.dstm_machines.specs.Traces.Access.{Exchange}
use Rattle.dstm_tl2.specs.declared.kind.Kind.TheVariants.{Lock}
use Rattle.dstm_tl2.specs.Sharing.{table_of}
use Rattle.dstm_tl2.specs.State.{recorded}
use Rattle.dstm_tl2_words.specs.Seats.{number_or, view_of}
use Rattle.dstm_tl2_order.specs.Order.{locks}
use Rattle.dstm_tl2_steps.specs.Under.{now}
use Rattle.dstm_tl2_steps.proofs.Bounds.{recorded_below}
use Rattle.dstm_tl2_steps.proofs.Stepping.{is_something, lock_allowed, went_on}
use Rattle.dstm_tl2_steps.proofs.steps.Steps.lock.Goals as goal

pub raise-requires-clause-fits : goal.raise-requires-clause-fits
raise-requires-clause-fits g c =
    let below : recorded c.args.o (now c.args.words.now c.args.self.now).reads < 2 ^ 62 =
    recorded_below c.requires.under c.args.o (is_something _ c.requires.read) in
    let word = c.requires.word in omega arith

pub raise-requires-clause-allowed : goal.raise-requires-clause-allowed
raise-requires-clause-allowed g c = λ found below.
    let told : Lock c.of.result ≡ locks c.args.writes.now.items = ap locks (c.of.ensures ∙ c.of-told.ensures) in
    lock_allowed (table_of c.args.words.now.terms) (now c.args.words.now c.args.self.now) c.args.writes.now.items
    (number_or (view_of c.args.self.now.seat).number found)
    c.lock-lock.result c.args.o c.args.word found told c.lock-lock.ensures c.requires.exists c.requires.told
    c.requires.undrawn c.requires.sound.0 c.requires.sound.1 c.requires.left c.requires.next
    (is_something _ c.requires.read) c.requires.word

pub returns-clause-went : goal.returns-clause-went
returns-clause-went g c =
    went_on (Exchange c.args.word (c.args.word + 1)) c.requires.under c.raise.ensures.event
    (ap locks (c.of.ensures ∙ c.of-told.ensures)) c.lock-lock.ensures c.raise.ensures.seat refl refl refl refl
