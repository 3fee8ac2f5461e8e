use Rattle.std.proofs.Common.{◌≡◌, ◌∙◌, None, refl, sym}
use Rattle.dstm_tl2.specs.State.{look_of}
use Rattle.dstm_tl2.specs.declared.kind.Kind.TheVariants.{LookHigh, LookLow}
use Rattle.dstm_tl2_steps.specs.Under.{now}
use Rattle.dstm_tl2_steps.proofs.Looking.{Looks, found_other, looked, looked_again, looked_high, looked_low, not_readable, on_attempt, word_first, word_high, word_low}
use Rattle.dstm_tl2_steps.proofs.steps.Steps.read.Given.{Over}
use Rattle.dstm_tl2_steps.proofs.steps.Steps.read.Goals.{After-look_high-high, After-look_low-low, After-unreadable}
use Rattle.dstm_tl2_steps.proofs.steps.Steps.read.Goals as goal

pub returns-in-Some-clause-ends : goal.returns-in-Some-clause-ends
returns-in-Some-clause-ends g c =
    not_readable c.args.o
    c.look_lock-word.result _ c.requires.under c.look_lock-word.ensures.went c.look_lock-word.ensures.rest
    c.in-Some.again (sym c.unreadable.ensures ∙ c.in-Some.is) refl

first_look : (g : Over) (c : After-unreadable g) → c.unreadable.result ≡ None →
    Looks g.L.Law.holds c.args.words.now g.B.InCall.began c.look_lock-word.new.self LookLow None
first_look g c none =
    looked c.args.o
    c.look_lock-word.result _ c.requires.under c.look_lock-word.ensures.went c.look_lock-word.ensures.rest
    (sym c.unreadable.ensures ∙ none)

second_look : (g : Over) (c : After-look_low-low g) →
    Looks g.L.Law.holds c.args.words.now g.B.InCall.began c.look_lock-word.new.self LookLow None →
    Looks g.L.Law.holds c.args.words.now g.B.InCall.began c.look_low-low.new.self LookHigh None
second_look g c looks =
    let task = on_attempt c.args.o c.requires.under in
    looked_low c.args.o c.look_low-low.result task.0 task.1 _ c.look_low-low.ensures.went looks.good

-- the word that is looked for again is the one that was found first
word_found : (g : Over) (c : After-look_high-high g) →
    (look_of (now c.args.words.now c.look_high-high.new.self)).word ≡ c.look_lock-word.result
word_found g c =
    word_high c.args.o c.look_high-high.result _ c.look_high-high.ensures.went
    ∙ word_low c.args.o c.look_low-low.result _ c.look_low-low.ensures.went
    ∙ word_first c.args.o c.look_lock-word.result c.look_lock-word.ensures.went

pub look_low-low-requires-clause-under : goal.look_low-low-requires-clause-under
look_low-low-requires-clause-under g c =
    (first_look g (goal.at.look_low-low-requires-clause-under g c).After-unreadable c.in_default.is).due

pub look_low-low-requires-clause-readable : goal.look_low-low-requires-clause-readable
look_low-low-requires-clause-readable g c =
    (first_look g (goal.at.look_low-low-requires-clause-readable g c).After-unreadable c.in_default.is).good

pub look_high-high-requires-clause-under : goal.look_high-high-requires-clause-under
look_high-high-requires-clause-under g c =
    let at = goal.at.look_high-high-requires-clause-under g c in
    (second_look g at.After-look_low-low (first_look g at.After-unreadable c.in_default.is)).due

pub look_high-high-requires-clause-readable : goal.look_high-high-requires-clause-readable
look_high-high-requires-clause-readable g c =
    let at = goal.at.look_high-high-requires-clause-readable g c in
    (second_look g at.After-look_low-low (first_look g at.After-unreadable c.in_default.is)).good

pub look_again-again-requires-clause-under : goal.look_again-again-requires-clause-under
look_again-again-requires-clause-under g c =
    let task = on_attempt c.args.o c.requires.under in
    looked_high c.args.o c.look_high-high.result task.0 task.1 _ c.look_high-high.ensures.went

pub returns-then-again-word-clause-ends : goal.returns-then-again-word-clause-ends
returns-then-again-word-clause-ends g c =
    let task = on_attempt c.args.o c.requires.under in
    let word = word_found g (goal.at.returns-then-again-word-clause-ends g c).After-look_high-high in
    found_other c.args.o c.look_again-again.result task.0 task.1 c.look_again-again.ensures.went
    (λ q. c.if-again-word.true (q ∙ word)) c.changed.ensures

pub returns-clause-ends_well : goal.returns-clause-ends_well
returns-clause-ends_well g c =
    let task = on_attempt c.args.o c.requires.under in
    let word = word_found g (goal.at.returns-clause-ends_well g c).After-look_high-high in
    looked_again c.args.o c.look_again-again.result task.0 task.1 c.look_again-again.ensures.went (c.if-again-word.false ∙ sym word)
