use Rattle.std.proofs.Common.{◌∙◌, None, ap, sym, subst}
use Rattle.dstm_tl2_engine.proofs.Base.{Done, Returning, Under, now}
use Rattle.dstm_tl2_engine.proofs.Begins.{freed_here, freed_tied, nothing_back, returned_nothing, returns_done}
use Rattle.dstm_tl2_engine.proofs.Tying.{at_words, ends_here}
use Rattle.dstm_tl2_engine.specs.Attempts.{done}
use Rattle.dstm_tl2_engine.specs.Began.{began_of}
use Rattle.dstm_tl2_engine.specs.Mirror.{Tied, called}
use Rattle.dstm_tl2_engine.proofs.caller.TlCaller.give_back.Given.{Over}
use Rattle.dstm_tl2_engine.proofs.caller.TlCaller.give_back.Goals.{After-free_first}
use Rattle.dstm_tl2_engine.proofs.caller.TlCaller.give_back.Goals as goal

ended : (g : Over) (c : After-free_first g) →
    Under g.L.Law.holds (called c.self.inside).home (began_of Returning (called c.self.inside)) c.free_first.new.steps
    Done None
ended g c =
    ends_here c.self.invariant
    (at_words c.self.inside c.self.view_is c.requires.table c.words.ensures) Returning c.free_first.ensures.under

pub invariant_of-self : goal.invariant_of-self
invariant_of-self g c =
    let new = c.free_first.new.steps in
    let gave = (now c.words.result.now new).gave_back in
    let u = ended g (goal.at.invariant_of-self g c).After-free_first in
    let is = freed_here c.self.invariant
    (at_words c.self.inside c.self.view_is c.requires.table c.words.ensures) new gave c.free_first.ensures.state in
    subst (λ n. Tied g.L.Law.holds (record c.self.inside { steps = new; locked = n })) (sym c.free_first.ensures.none)
    (freed_tied c.self.invariant Returning u gave is c.free_first.ensures.idle
    (nothing_back c.self.inside u returned_nothing gave is))

pub returns-clause-done : goal.returns-clause-done
returns-clause-done g c =
    returns_done c.self.invariant (ended g (goal.at.returns-clause-done g c).After-free_first) ∙ ap done c.self.view_is
