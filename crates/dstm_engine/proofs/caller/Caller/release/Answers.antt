use Rattle.std.proofs.Common.{rules, ◌∙◌, ◌≡◌, ap, true, None}
use Rattle.std.specs.Prelude.{is_some, not, ◌&&◌}
use Rattle.dstm_engine.proofs.Base.{LocalState, drop_read, now, read_of}
use Rattle.dstm_engine.proofs.AtCall.{AtCall, at_call, at_home, ends_at, state_at}
use Rattle.dstm_engine.proofs.Released.{holds_without, read_there, released_place, released_tied, released_widens}
use Rattle.dstm_engine.specs.Callers.{Called, held, is_opened, state}
use Rattle.dstm_engine.specs.Mirror.{called}
use Rattle.dstm_engine.proofs.caller.Caller.release.Given.{Over}
use Rattle.dstm_engine.proofs.caller.Caller.release.Goals.{After-release, After-words}
use Rattle.dstm_engine.proofs.caller.Caller.release.Goals as goal

begun : (g : Over) (c : After-words g) →
    AtCall g.L.Law.holds c.self.inside c.args.self.now c.words.result.now c.renew.new.steps
begun g c = at_call c.self.invariant c.self.view_is c.requires.table c.words.ensures c.renew.ensures

-- the object is read
read : (g : Over) (c : After-words g) →
    is_some (held (called c.self.inside) c.args.o) && not (is_opened (called c.self.inside) c.args.o) ≡ true
read g c =
    ap (λ (k : Called _). is_some (held k c.args.o) && not (is_opened k c.args.o)) c.self.view_is ∙ c.requires.read

pub release-requires-clause-read : goal.release-requires-clause-read
release-requires-clause-read g c =
    let before = (goal.at.release-requires-clause-read g c).After-words in
    ap (λ (l : LocalState). is_some (read_of c.args.o l.reads)) (state_at (begun g before))
    ∙ read_there c.self.invariant c.args.o (read g before)

-- the read is let go, and nothing else has changed
dropped : (g : Over) (c : After-release g) →
    AtCall g.L.Law.holds c.self.inside c.args.self.now c.words.result.now c.renew.new.steps →
    now (called c.self.inside).home c.release.new.self ≡ record (state (called c.self.inside)) {
      reads = drop_read c.args.o (state (called c.self.inside)).reads;
      resolution = None;
      pass = None;
      checked = 0;
    }
dropped g c at =
    at_home at (λ h l. now h c.release.new.self ≡ record l {
      reads = drop_read c.args.o l.reads;
      resolution = None;
      pass = None;
      checked = 0;
    }) c.release.ensures.state

pub invariant_of-self : goal.invariant_of-self
invariant_of-self g c =
    let at = begun g (goal.at.invariant_of-self g c).After-words in
    rw c.drop_read.ensures (released_tied at.tied (at.live ∙ c.requires.live) (ends_at at c.release.ensures.under)
    (dropped g (goal.at.invariant_of-self g c).After-release at) (read g (goal.at.invariant_of-self g c).After-words))

pub returns : goal.returns
returns g c =
    let before = (goal.at.returns g c).After-words in
    let at = begun g before in
    let live : c.self.inside.live ≡ true = at.live ∙ c.requires.live in
    let u = ends_at at c.release.ensures.under in
    let is = dropped g (goal.at.returns g c).After-release at in
    record {
      steps = search rules;
      kept = search rules;
      held = rw (← at.view) (holds_without at.tied live u is (read g before));
      opened = search rules;
      live = search rules;
      place = λ name table. rw (← at.view) (released_place at.tied live u is (read g before) name table);
      widens = λ map. rw (c.drop_read.ensures, ← at.view) (released_widens at.tied live u is (read g before));
    }
