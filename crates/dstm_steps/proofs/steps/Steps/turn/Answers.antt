use Rattle.std.proofs.Common.{◌≡◌, ℕ, ◌+◌, refl, ap, ◌∙◌, ◌-◌, inl}
use Rattle.dstm_words.specs.Seats.{caller_state, view_of}
use Rattle.dstm_steps.specs.declared.steps.Steps.{Steps}
use Rattle.dstm_steps.specs.Under.{Resolving, effort_by, now}
use Rattle.dstm_order.specs.Efforts.{turn}
use Rattle.dstm_steps.proofs.Ranged.{live_small, owner_below}
use Rattle.dstm_steps.proofs.Stepping.{went_on, turn_left, turn_last, turn_more}
use Rattle.dstm_steps.proofs.steps.Steps.turn.Given.{Over}
use Rattle.dstm_steps.proofs.steps.Steps.turn.Goals.{After-look-status, then-self-eq1, else-self-eq1}
use Rattle.dstm_steps.proofs.steps.Steps.turn.Goals as goal

pub status-place-requires-clause-below : goal.status-place-requires-clause-below
status-place-requires-clause-below g c =
    owner_below c.requires.under (inl c.requires.running.phase) c.requires.running.agreed c.requires.owner
    (live_small _ c.requires.status.1)

-- after a turn of a wait, in this round
turned : (g : Over) (c : After-look-status g) (looked : Steps g.row.L.Denot) (round : ℕ) →
    looked ≡ record c.look-status.new.self { round = round } → turn c.args.self.now.left (effort_by c.args.self.now)
    ≡ record (effort_by c.args.self.now) { left = c.args.self.now.left - 1; round = round } →
    Resolving g.L.Law.holds c.args.words.now g.B.InCall.began (record looked { left = looked.left - 1 })
turned g c looked round is counts =
    let old : Steps g.row.L.Denot = c.args.self.now in
    let new : Steps g.row.L.Denot = record looked { left = looked.left - 1 } in
    let rest = c.look-status.ensures.rest in
    let m = c.requires.under.mirror in
    let went = c.look-status.ensures.went in
    let seat = ap (λ (s : Steps g.row.L.Denot). s.seat) is in
    let here : now c.args.words.now new ≡ now c.args.words.now c.look-status.new.self =
    ap (λ s. caller_state c.args.words.now.terms (view_of s)) seat in
    went_on {steps = new} went seat (record {
      shape = rw (is, rest) refl;
      manager = rw (is, rest) refl;
      mirror = record { own = rw (is, rest) m.own; installed = rw (is, rest) m.installed; rank = rw (is, rest) m.rank };
      effort = turn_left c.args.words.now.terms.shape.manager (now c.args.words.now old) (effort_by old)
          c.requires.status.0 c.requires.running.phase c.requires.left ∙ counts ∙ (rw (is, rest) refl);
    }) (rw (here, went.state, c.requires.running.phase) refl) (rw (here, went.state) c.requires.running.agreed)
    (rw (is, rest) c.requires.tries)

pub returns-clause-under : goal.returns-clause-under
returns-clause-under g c =
    let before = (goal.at.returns-clause-under g c).After-look-status in
    let old = effort_by c.args.self.now in
    let rest = c.look-status.ensures.rest in
    elim c.if-self-eq1.branch [
      | then-self-eq1 w ↦ turned g before _ (old.round + 1) (w.self-is ∙ rw rest refl)
          (turn_last old.left old (rw rest at w.if-self-eq1.true))
      | else-self-eq1 w ↦ turned g before _ old.round (w.self-is ∙ rw rest refl)
          (turn_more old.left old (rw rest at w.if-self-eq1.false))
    ]
