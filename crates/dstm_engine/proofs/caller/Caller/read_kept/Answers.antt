use Rattle.std.proofs.Common.{ap, refl}
use Rattle.dstm_engine.proofs.AtCall.{AtCall, at_call}
use Rattle.dstm_engine.proofs.FirstOpens.{Unheld, first_opens, first_stopped_tied, first_stops, first_tied, first_unheld}
use Rattle.dstm_engine.specs.Mirror.{set_pairs}
use Rattle.dstm_engine.proofs.caller.Caller.read_kept.Given.{Over}
use Rattle.dstm_engine.proofs.caller.Caller.read_kept.Goals.{After-words}
use Rattle.dstm_engine.proofs.caller.Caller.read_kept.Goals as goal

begun : (g : Over) (c : After-words g) →
    AtCall g.L.Law.holds c.self.inside c.args.self.now c.words.result.now c.renew.new.steps
begun g c = at_call c.self.invariant c.self.view_is c.requires.table c.words.ensures c.renew.ensures

unheld : (g : Over) (c : After-words g) →
    Unheld c.words.result.now c.renew.new.steps c.self.inside.opened c.args.o
unheld g c = first_unheld (begun g c) c.requires.live c.args.o c.requires.unheld c.requires.exists

pub read_object-requires-clause-unopened : goal.read_object-requires-clause-unopened
read_object-requires-clause-unopened g c =
    (unheld g (goal.at.read_object-requires-clause-unopened g c).After-words).unopened

pub read_object-requires-clause-unread : goal.read_object-requires-clause-unread
read_object-requires-clause-unread g c = (unheld g (goal.at.read_object-requires-clause-unread g c).After-words).unread

pub read_object-requires-clause-fresh : goal.read_object-requires-clause-fresh
read_object-requires-clause-fresh g c = (unheld g (goal.at.read_object-requires-clause-fresh g c).After-words).fresh

pub read_object-requires-clause-room : goal.read_object-requires-clause-room
read_object-requires-clause-room g c = (unheld g (goal.at.read_object-requires-clause-room g c).After-words).room

pub invariant_of-self : goal.invariant_of-self
invariant_of-self g c =
    first_tied (begun g (goal.at.invariant_of-self g c).After-words) c.requires.live c.args.o c.requires.unheld
    c.requires.reads c.in-Ok.ensures.ends_well c.in-Ok.ensures.opens c.in-Ok.ensures.last

pub returns-in-Ok-clause-opens : goal.returns-in-Ok-clause-opens
returns-in-Ok-clause-opens g c = λ _.
    first_opens (begun g (goal.at.returns-in-Ok-clause-opens g c).After-words) c.requires.live c.args.o
    c.requires.unheld c.requires.reads c.in-Ok.ensures.ends_well c.in-Ok.ensures.opens c.in-Ok.ensures.last

pub returns-in-Ok-clause-stops : goal.returns-in-Ok-clause-stops
returns-in-Ok-clause-stops g c = λ dead.
    let is = first_opens (begun g (goal.at.returns-in-Ok-clause-stops g c).After-words) c.requires.live c.args.o
    c.requires.unheld c.requires.reads c.in-Ok.ensures.ends_well c.in-Ok.ensures.opens c.in-Ok.ensures.last in
    let live = is.continues.live in absurd (cc)

pub invariant_of-self-in-Err : goal.invariant_of-self-in-Err
invariant_of-self-in-Err g c =
    first_stopped_tied (begun g (goal.at.invariant_of-self-in-Err g c).After-words) c.requires.live refl
    c.in-Err.ensures.ends
    (λ all. let some = c.requires.reads in absurd (cc)) c.read_object.new.last c.read_object.new.opened
    (c.read_object.ensures.rest.0, ap set_pairs c.read_object.ensures.rest.1)

pub returns-in-Err : goal.returns-in-Err
returns-in-Err g c =
    let is = first_stops (begun g (goal.at.returns-in-Err g c).After-words) c.requires.live refl
    c.in-Err.ensures.ends
    (λ all. let some = c.requires.reads in absurd (cc)) c.read_object.new.last c.read_object.new.opened
    (c.read_object.ensures.rest.0, ap set_pairs c.read_object.ensures.rest.1) in
    let dead = is.over.live in record {
      opens = λ live. absurd (cc);
      unmarked = λ live. absurd (cc);
      stops = λ _. (c.in-Err.again, is);
    }
