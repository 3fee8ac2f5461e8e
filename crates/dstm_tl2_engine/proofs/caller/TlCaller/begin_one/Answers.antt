use Rattle.std.proofs.Common.{◌≡◌, ◌<◌, ◌≤◌, [], None}
use Rattle.dstm_tl2_engine.proofs.Base.{Beginning, ClockWord, Done, Under, begin, now, place, table_of, view_of}
use Rattle.dstm_tl2_engine.proofs.Begins.{anew_tied, begins_anew, begun_here, begun_nothing, freed_here, freed_tied, nothing_back, since_begin_of, spent_by, spent_from, top_here, unspent_by}
use Rattle.dstm_tl2_engine.proofs.Tying.{at_words, ends_here}
use Rattle.dstm_tl2_engine.specs.Began.{began_of}
use Rattle.dstm_tl2_engine.specs.Callers.{state}
use Rattle.dstm_tl2_engine.specs.Mirror.{called}
use Rattle.dstm_tl2_engine.proofs.caller.TlCaller.begin_one.Given.{Over}
use Rattle.dstm_tl2_engine.proofs.caller.TlCaller.begin_one.Goals.{After-begin_next}
use Rattle.dstm_tl2_engine.proofs.caller.TlCaller.begin_one.Goals as goal

home : (g : Over) (c : After-begin_next g) → (called c.self.inside).home ≡ c.words.result.now
home g c = at_words c.self.inside c.self.view_is c.requires.table c.words.ensures

ended : (g : Over) (c : After-begin_next g) →
    Under g.L.Law.holds (called c.self.inside).home (began_of Beginning (called c.self.inside)) c.begin_next.new.steps
    Done None
ended g c = ends_here c.self.invariant (home g c) Beginning c.begin_next.ensures.under

-- where the caller is spent its locks were given back, and no more
freed : (g : Over) (c : After-begin_next g) → c.self.inside.terms.attempts ≤ c.self.inside.begun →
    now (called c.self.inside).home c.begin_next.new.steps ≡ record (state (called c.self.inside)) {
      holds = [];
      gave_back = (now c.words.result.now c.begin_next.new.steps).gave_back;
    }
freed g c all =
    freed_here c.self.invariant (home g c) c.begin_next.new.steps _
    (c.begin_next.ensures.spent (spent_by c.self.invariant all).0)

-- else an attempt was begun
begun : (g : Over) (c : After-begin_next g) → c.self.inside.begun < c.self.inside.terms.attempts →
    now (called c.self.inside).home c.begin_next.new.steps
    ≡ begin (state (called c.self.inside)) c.begin_next.new.steps.sample
begun g c some =
    begun_here c.self.invariant (home g c) c.begin_next.new.steps
    (c.begin_next.ensures.begun (unspent_by c.self.invariant some).0)

pub invariant_of-self : goal.invariant_of-self
invariant_of-self g c =
    let before = (goal.at.invariant_of-self g c).After-begin_next in
    let u = ended g before in
    let is = freed g before c.if-spent.true in
    rw c.begin_next.ensures.none (freed_tied c.self.invariant Beginning u _ is
    (c.begin_next.ensures.idle (spent_by c.self.invariant c.if-spent.true).0) (nothing_back c.self.inside u begun_nothing _ is))

pub returns-then-spent-clause-spent : goal.returns-then-spent-clause-spent
returns-then-spent-clause-spent g c =
    let before = (goal.at.returns-then-spent-clause-spent g c).After-begin_next in
    let spent = spent_by c.self.invariant c.if-spent.true in
    rw (← c.self.view_is) (spent_from c.self.invariant (ended g before) _ (freed g before c.if-spent.true)
    (c.begin_next.ensures.idle spent.0) spent.1)

pub invariant_of-self-2 : goal.invariant_of-self-2
invariant_of-self-2 g c =
    let before = (goal.at.invariant_of-self-2 g c).After-begin_next in
    let x = c.self.inside in
    let new = c.begin_next.new.steps in
    let clock = place (table_of c.words.result.now.terms) ClockWord in
    let top = c.begin_next.ensures.top (unspent_by c.self.invariant c.if-spent.false).0 in
    rw (c.begin_next.ensures.none, c.clear.ensures)
    (anew_tied c.self.invariant Beginning (ended g before) (begun g before c.if-spent.false)
    (since_begin_of (began_of Beginning (called x)) (view_of new.seat).log clock new.sample
    (top_here c.self.invariant (home g before) new clock top)))

pub returns-clause-begins : goal.returns-clause-begins
returns-clause-begins g c =
    let x = c.self.inside in
    let new = c.begin_next.new.steps in
    let some = unspent_by c.self.invariant c.if-spent.false in
    let before = (goal.at.returns-clause-begins g c).After-begin_next in
    rw (← c.self.view_is, c.clear.ensures)
    (begins_anew c.self.invariant (ended g before) (begun g before c.if-spent.false) _
    (top_here c.self.invariant (home g before) new _ (c.begin_next.ensures.top some.0)) some.1)
