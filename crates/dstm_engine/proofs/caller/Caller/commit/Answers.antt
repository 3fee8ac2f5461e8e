use Rattle.std.proofs.Common.{rules, ◌∙◌, ◌≡◌, ◌*◌, ◌+◌, ◌-◌, ap, arith, length, refl, subst, sym, true}
use Rattle.std.specs.Prelude.{List}
use Rattle.dstm_engine.proofs.Base.{Val, with_set}
use Rattle.dstm_engine.proofs.AtCall.{AtCall, at_call}
use Rattle.dstm_engine.proofs.ClosedCalls.{commit_left, commit_left_tied, commit_tied, committed}
use Rattle.dstm_engine.proofs.Committing.{Putting, few_slots, few_there, first_fits, lawful_there, putting}
use Rattle.dstm_engine.proofs.Tying.{live_there}
use Rattle.dstm_engine.specs.Attempts.{Admits}
use Rattle.dstm_engine.specs.Callers.{Called, is_live, law_of, written}
use Rattle.dstm_engine.proofs.caller.Caller.commit.Given.{Over}
use Rattle.dstm_engine.proofs.caller.Caller.commit.Goals.{After-words}
use Rattle.dstm_engine.proofs.caller.Caller.commit.Goals as goal

pub overflow_cast-first : goal.overflow_cast-first
overflow_cast-first g c =
    let x = c.self.inside in
    let live : x.live ≡ true = live_there c.self.invariant ∙ ap is_live c.self.view_is ∙ c.requires.live in
    let few = few_slots c.self.invariant live refl c.renew.ensures c.writes-writes.ensures in omega arith

pub overflow_sub-first : goal.overflow_sub-first
overflow_sub-first g c =
    let x = c.self.inside in
    let live : x.live ≡ true = live_there c.self.invariant ∙ ap is_live c.self.view_is ∙ c.requires.live in
    few_there c.self.invariant live refl c.renew.ensures c.writes-writes.ensures

pub overflow_add-first : goal.overflow_add-first
overflow_add-first g c =
    let x = c.self.inside in
    let live : x.live ≡ true = live_there c.self.invariant ∙ ap is_live c.self.view_is ∙ c.requires.live in
    let fits = first_fits c.self.invariant live refl c.renew.ensures c.writes-writes.ensures in omega arith

begun : (g : Over) (c : After-words g) →
    AtCall g.L.Law.holds c.self.inside c.args.self.now c.words.result.now c.renew.new.steps
begun g c = at_call c.self.invariant c.self.view_is c.requires.table c.words.ensures c.renew.ensures

puts : (g : Over) (c : After-words g) → Putting g.L.Law.holds c.words.result.now c.renew.new.steps c.writes-writes.result.now
    (c.self.inside.number * c.self.inside.terms.shape.locators
    + (c.renew.new.steps.installed - length c.writes-writes.result.now))
puts g c =
    let at = begun g c in
    putting at.tied (at.live ∙ c.requires.live) at.home at.begun c.writes-writes.ensures

pub commit-committed-requires-clause-under : goal.commit-committed-requires-clause-under
commit-committed-requires-clause-under g c = (puts g (goal.at.commit-committed-requires-clause-under g c).After-words).under

pub commit-committed-requires-clause-first : goal.commit-committed-requires-clause-first
commit-committed-requires-clause-first g c = (puts g (goal.at.commit-committed-requires-clause-first g c).After-words).first

pub commit-committed-requires-clause-values : goal.commit-committed-requires-clause-values
commit-committed-requires-clause-values g c = (puts g (goal.at.commit-committed-requires-clause-values g c).After-words).values

pub commit-committed-requires-clause-lawful : goal.commit-committed-requires-clause-lawful
commit-committed-requires-clause-lawful g c =
    let at = begun g (goal.at.commit-committed-requires-clause-lawful g c).After-words in
    lawful_there at.tied (at.live ∙ c.requires.live) at.home at.begun c.writes-writes.ensures
    (subst (λ (k : Called _). (map : List Val) → Admits g.L.Law.holds k map → g.L.Law.holds (law_of k)
    (with_set map (written k))) (sym at.view) c.requires.lawful)

pub invariant_of-self : goal.invariant_of-self
invariant_of-self g c =
    commit_tied (begun g (goal.at.invariant_of-self g c).After-words) c.requires.live
    c.writes-writes.ensures c.in-Ok.ensures.commits.1

pub returns-in-Ok : goal.returns-in-Ok
returns-in-Ok g c =
    let is = c.in-Ok.is in
    let end = committed (begun g (goal.at.returns-in-Ok g c).After-words) c.requires.live
    c.writes-writes.ensures c.in-Ok.ensures.commits.1 c.in-Ok.field-0 c.in-Ok.ensures.number in
    record {
      stays = rw is end.stays;
      leaves = search rules;
      number = rw is end.committed;
      kept = rw is end.kept;
      attempt = end.attempt;
      done = search rules;
      ended = end.ended;
    }

pub invariant_of-self-in-Err : goal.invariant_of-self-in-Err
invariant_of-self-in-Err g c =
    commit_left_tied (begun g (goal.at.invariant_of-self-in-Err g c).After-words) c.requires.live
    c.writes-writes.ensures c.in-Err.ensures.ends

pub returns-in-Err : goal.returns-in-Err
returns-in-Err g c =
    let left = commit_left (begun g (goal.at.returns-in-Err g c).After-words) c.requires.live c.writes-writes.ensures
    c.in-Err.ensures.ends in assumption left
