use Rattle.std.proofs.Common.{◌≡◌, ◌∙◌, refl, ap, sym, Some, arith}
use Rattle.dstm_core.specs.State.{LocalState, res, is_other, read_of}
use Rattle.dstm_steps.specs.declared.steps.Steps.{Steps}
use Rattle.dstm_steps.specs.Finding.{StaysAt, is_changed}
use Rattle.dstm_steps.specs.Under.{now, effort_by}
use Rattle.dstm_steps.proofs.Encounters.{on_ok, other_is, stale_found, stays_object, undrawn}
use Rattle.dstm_steps.proofs.Stepping.{under_is}
use Rattle.dstm_steps.proofs.steps.Steps.resolve.Given.{Over}
use Rattle.dstm_steps.proofs.steps.Steps.resolve.Goals.{After-is_changed}
use Rattle.dstm_steps.proofs.steps.Steps.resolve.Goals as goal

-- the look finds the read stale where its word is another one
changed : (g : Over) (c : After-is_changed g) →
    is_other c.look_object-word.result (read_of c.args.object (now c.args.words.now c.args.self.now).reads)
    ≡ c.is_changed.result
changed g c =
    other_is c.look_object-word.result (read_of c.args.object (now c.args.words.now c.args.self.now).reads)
    ∙ ap (λ o. is_changed o c.look_object-word.result) c.requires.read ∙ sym c.is_changed.ensures

stale : (g : Over) (c : After-is_changed g) →
    (now c.args.words.now c.look_object-word.new.self).stale ≡ c.is_changed.result
stale g c = ap (λ (l : LocalState). l.stale) c.look_object-word.ensures.state ∙ changed g c

pub quit-requires-clause-under : goal.quit-requires-clause-under
quit-requires-clause-under g c =
    c.look_object-word.ensures.stale
    (stale g (goal.at.quit-requires-clause-under g c).After-is_changed ∙ c.if-is_changed.true)

pub returns-then-is_changed-clause-ends : goal.returns-then-is_changed-clause-ends
returns-then-is_changed-clause-ends g c =
    let state = c.look_object-word.ensures.state in
    under_is c.quit.ensures.under refl
    (ap Some (stale_found (now c.args.words.now c.look_object-word.new.self) (effort_by c.look_object-word.new.self) c.args.object
    (stale g (goal.at.returns-then-is_changed-clause-ends g c).After-is_changed ∙ c.if-is_changed.true)
    (ap (λ (l : LocalState). l.pass) state)
    (ap (λ (l : LocalState). l.drawn) state ∙ undrawn c.requires.under c.requires.running.phase)
    (ap (λ l. (res l).object) state)))

pub returns-then-word-eq0-clause-under : goal.returns-then-word-eq0-clause-under
returns-then-word-eq0-clause-under g c =
    under_is (c.look_object-word.ensures.agreed
    (stale g (goal.at.returns-then-word-eq0-clause-under g c).After-is_changed ∙ c.if-is_changed.false))
    (rw (c.look_object-word.ensures.state, c.requires.running.phase, c.if-word-eq0.true) refl) refl

pub resolve_word-requires : goal.resolve_word-requires
resolve_word-requires g c =
    let state = c.look_object-word.ensures.state in
    let rest = c.look_object-word.ensures.rest in
    let agreed = stale g (goal.at.resolve_word-requires g c).After-is_changed ∙ c.if-is_changed.false in
    record {
      starts = record {
        under = c.look_object-word.ensures.agreed agreed;
        running = record {
          phase = ap (λ (l : LocalState). l.phase) state ∙ c.requires.running.phase;
          agreed = agreed;
          uncommitted = ap (λ (l : LocalState). l.committed) state ∙ c.requires.running.uncommitted;
        };
        word_is = ap (λ l. (res l).word) state;
        some = let other = c.if-word-eq0.false in omega arith;
        owner = ap (λ l. (res l).owner) state;
        status = ap (λ l. (res l).status) state;
        rank = ap (λ l. (res l).rank) state;
        old = ap (λ l. (res l).old) state;
        high = ap (λ l. (res l).high) state;
        value = ap (λ l. (res l).value) state;
        left = ap (λ (s : Steps g.row.L.Denot). s.left) rest;
        round = ap (λ (s : Steps g.row.L.Denot). s.round) rest;
        tries = rw (ap (λ (s : Steps g.row.L.Denot). s.missed) rest) c.requires.tries;
      };
    }

pub returns-clause-attempt : goal.returns-clause-attempt
returns-clause-attempt g c =
    let last : LocalState = now c.args.words.now c.resolve_word.new.self in
    let first =
    stays_object (now c.args.words.now c.args.self.now) (now c.args.words.now c.look_object-word.new.self) _ _
    c.look_object-word.ensures.state c.requires.running.agreed
    (changed g (goal.at.returns-clause-attempt g c).After-is_changed ∙ c.if-is_changed.false) in
    on_ok c.resolve_word.result (λ (stays : StaysAt _ last). stays.attempt
    ∙ ap (λ (l : LocalState). record l { resolution = last.resolution; pass = last.pass; checked = last.checked })
    first) c.resolve_word.ensures.stays
