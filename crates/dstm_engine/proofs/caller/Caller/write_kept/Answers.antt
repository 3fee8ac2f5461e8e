use Rattle.std.proofs.Common.{◌*◌, ◌+◌, ◌<◌, ◌∙◌, ◌≡◌, ap, arith, refl, subst, sym, true}
use Rattle.dstm_engine.proofs.Base.{Steps}
use Rattle.dstm_core.proofs.Columns.{in_table}
use Rattle.dstm_engine.proofs.AtCall.{AtCall, at_call}
use Rattle.dstm_engine.proofs.FirstOpens.{first_stopped_tied, first_stops, first_write_marked, first_write_opens, first_write_tied, locator_there, write_fresh, write_room}
use Rattle.dstm_engine.proofs.Opens.{locator_left}
use Rattle.dstm_engine.proofs.Tying.{live_there}
use Rattle.dstm_engine.specs.Callers.{Called, is_live, is_opened, shape_of, state}
use Rattle.dstm_engine.specs.Mirror.{called}
use Rattle.dstm_engine.proofs.caller.Caller.write_kept.Given.{Over}
use Rattle.dstm_engine.proofs.caller.Caller.write_kept.Goals.{After-words}
use Rattle.dstm_engine.proofs.caller.Caller.write_kept.Goals as goal

pub overflow_add-next : goal.overflow_add-next
overflow_add-next g c =
    let x = c.self.inside in
    let v = c.self.invariant in
    let live : x.live ≡ true = live_there v ∙ ap is_live c.self.view_is ∙ c.requires.live in
    let below = subst (λ (k : Called _). c.args.o < (shape_of k).objects) (sym c.self.view_is) c.requires.exists in
    let unopened = ap (λ (k : Called _). is_opened k c.args.o) c.self.view_is ∙ c.requires.unopened in
    let left = locator_left v live c.args.o below unopened in
    let inside : x.number * x.terms.shape.locators + (state (called x)).installed
    < x.terms.shape.callers * x.terms.shape.locators =
    in_table x.number x.terms.shape.locators (state (called x)).installed x.terms.shape.callers v.number.0 left in
    let words = v.run.valid.words in
    let installed : c.renew.new.steps.installed ≡ (state (called x)).installed =
    ap (λ (s : Steps _). s.installed) c.renew.ensures ∙ v.mirror.installed in
    omega arith

begun : (g : Over) (c : After-words g) →
    AtCall g.L.Law.holds c.self.inside c.args.self.now c.words.result.now c.renew.new.steps
begun g c = at_call c.self.invariant c.self.view_is c.requires.table c.words.ensures c.renew.ensures

pub write_object-requires-clause-locators : goal.write_object-requires-clause-locators
write_object-requires-clause-locators g c =
    locator_there (begun g (goal.at.write_object-requires-clause-locators g c).After-words) c.requires.live c.args.o
    c.requires.unopened c.requires.exists

pub write_object-requires-clause-fresh : goal.write_object-requires-clause-fresh
write_object-requires-clause-fresh g c =
    write_fresh (begun g (goal.at.write_object-requires-clause-fresh g c).After-words) c.requires.live c.args.o
    c.requires.unopened

pub write_object-requires-clause-room : goal.write_object-requires-clause-room
write_object-requires-clause-room g c =
    write_room (begun g (goal.at.write_object-requires-clause-room g c).After-words) c.requires.live c.args.o
    c.requires.unopened c.requires.exists

pub invariant_of-self : goal.invariant_of-self
invariant_of-self g c =
    first_write_tied (begun g (goal.at.invariant_of-self g c).After-words) c.requires.live c.args.o
    c.requires.unopened c.in-Ok.ensures.ends_well c.in-Ok.ensures.opens c.in-Ok.ensures.last

pub returns-in-Ok : goal.returns-in-Ok
returns-in-Ok g c =
    let at = begun g (goal.at.returns-in-Ok g c).After-words in
    let is = first_write_opens at c.requires.live c.args.o c.requires.unopened
    c.in-Ok.ensures.ends_well c.in-Ok.ensures.opens c.in-Ok.ensures.last in
    record {
      opens = λ _. is;
      marked = λ _. first_write_marked at c.requires.live c.args.o c.requires.unopened
          c.in-Ok.ensures.ends_well c.in-Ok.ensures.opens c.in-Ok.ensures.last;
      stops = λ dead. let live = is.continues.live in absurd (cc);
    }

pub invariant_of-self-in-Err : goal.invariant_of-self-in-Err
invariant_of-self-in-Err g c =
    first_stopped_tied (begun g (goal.at.invariant_of-self-in-Err g c).After-words) c.requires.live refl
    c.in-Err.ensures.ends (λ all. tt) c.write_object.new.last c.write_object.new.opened c.write_object.ensures.rest

pub returns-in-Err : goal.returns-in-Err
returns-in-Err g c =
    let is = first_stops (begun g (goal.at.returns-in-Err g c).After-words) c.requires.live refl
    c.in-Err.ensures.ends (λ all. tt) c.write_object.new.last c.write_object.new.opened c.write_object.ensures.rest in
    let dead = is.over.live in record {
      opens = λ live. absurd (cc);
      marked = λ live. absurd (cc);
      stops = λ _. (c.in-Err.again, is);
    }
