use Rattle.std.proofs.Common.{sym, subst, refl, ◌∙◌, ◌≡◌, None, Some}
use Rattle.std.specs.Prelude.{IfSome}
use Rattle.dstm_tl2_engine.specs.Attempts.{CommitsRun, Settles, done}
use Rattle.dstm_tl2_engine.specs.Callers.{TlCalled}
use Rattle.dstm_tl2_engine.specs.Endings.{Attempts}
use Rattle.dstm_tl2_engine.specs.Outcomes.{IsLeft}
use Rattle.std.proofs.lemmas.Bool.{and_parts}
use Rattle.dstm_tl2_engine.proofs.Resting.{rests}
use Rattle.dstm_mem.proofs.InTheEnd.{in_the_end}
use Rattle.dstm_tl2_engine.proofs.Made.{made, runs, same_done, same_name, settled, still}
use Rattle.dstm_tl2_engine.proofs.making.tl_attempt.Goals as goal

pub commit-requires-clause-rest : goal.commit-requires-clause-rest
commit-requires-clause-rest g c = rests _ (and_parts _ _ c.in-Ok-run.ensures.leads.live).1

-- The caller ends as the attempt left it, since this has the reference that it was begun with.

pub returns-in-Ok-commit-clause-attempts : goal.returns-in-Ok-commit-clause-attempts
returns-in-Ok-commit-clause-attempts g c =
    let place = c.in-Ok-run.ensures.leads.place in
    let begins = c.in-Ok.ensures.begins in
    let name = same_name g.L.Law.holds c.args.caller.now c.in-Ok.tx.caller.now c.run.new.mem.caller.now _ _ _ _ begins place _ c.in-Ok.ensures.same in
    in_the_end (λ n. Attempts g.L.Law.holds c.args.caller.now n None) _ _ _ _ (assumption c) name
    (made g.L.Law.holds c.args.caller.now c.in-Ok.tx.caller.now c.run.new.mem.caller.now _ _ _ _ begins place c.commit.new.self.0 None
    c.in-Ok-commit.ensures.kept c.in-Ok-commit.ensures.stays.attempt c.in-Ok-commit.ensures.number.free
    (λ _. c.in-Ok-commit.ensures.number.valid) c.in-Ok-commit.ensures.seen c.in-Ok-commit.ensures.stays.steps.run
    c.in-Ok-commit.ensures.told)

pub returns-in-Ok-commit-clause-settles : goal.returns-in-Ok-commit-clause-settles
returns-in-Ok-commit-clause-settles g c =
    let place = c.in-Ok-run.ensures.leads.place in
    let begins = c.in-Ok.ensures.begins in
    let name = same_name g.L.Law.holds c.args.caller.now c.in-Ok.tx.caller.now c.run.new.mem.caller.now _ _ _ _ begins place _ c.in-Ok.ensures.same in
    in_the_end (λ n. Settles g.L.Law.holds (g.B.Body.right c.run.new.self) c.args.caller.now n c.in-Ok-commit.number)
    _ _ _ _ (assumption c) name
    (settled g.L.Law.holds c.args.caller.now c.in-Ok.tx.caller.now c.run.new.mem.caller.now _ _ _ _ begins place (g.B.Body.right c.run.new.self) c.commit.new.self.0
    c.in-Ok-commit.number None c.in-Ok-commit.ensures.kept
    c.in-Ok-commit.ensures.stays.steps.run c.in-Ok-commit.ensures.number c.in-Ok-run.ensures.right)

pub returns-in-Ok-commit-clause-runs : goal.returns-in-Ok-commit-clause-runs
returns-in-Ok-commit-clause-runs g c =
    let place = c.in-Ok-run.ensures.leads.place in
    let begins = c.in-Ok.ensures.begins in
    let k = c.args.caller.now in
    let b = c.in-Ok.tx.caller.now in
    let t = c.run.new.mem.caller.now in
    let right = g.B.Body.right c.run.new.self in
    let leaves = g.B.Body.leaves c.run.new.self in
    let name = same_name g.L.Law.holds k b t _ _ _ _ begins place _ c.in-Ok.ensures.same in
    in_the_end (λ n. CommitsRun g.L.Law.holds right leaves k n c.in-Ok-commit.number) _ _ _ _ (assumption c) name
    (runs g.L.Law.holds k b t _ _ _ _ begins place right leaves
    c.in-Ok-commit.ensures.number c.in-Ok-run.ensures.right c.in-Ok-run.ensures.leaves c.in-Ok-commit.ensures.stays.steps)

pub returns-in-Err-commit-clause-ended : goal.returns-in-Err-commit-clause-ended
returns-in-Err-commit-clause-ended g c =
    let place = c.in-Ok-run.ensures.leads.place in
    let begins = c.in-Ok.ensures.begins in
    let leaves = c.in-Err-commit.ensures.leaves in
    let name = same_name g.L.Law.holds c.args.caller.now c.in-Ok.tx.caller.now c.run.new.mem.caller.now _ _ _ _ begins place _ c.in-Ok.ensures.same in
    in_the_end (λ n. Attempts g.L.Law.holds c.args.caller.now n (Some c.in-Err-commit.again) × IsLeft n
    × (done n ≡ done c.args.caller.now)) _ _ _ _ (assumption c) name (
      (made g.L.Law.holds c.args.caller.now c.in-Ok.tx.caller.now c.run.new.mem.caller.now _ _ _ _ begins place c.commit.new.self.0 (Some c.in-Err-commit.again)
          c.in-Err-commit.ensures.kept leaves.attempt leaves.left.given_back.free
          (λ none. absurd (cc)) c.in-Err-commit.ensures.seen leaves.steps.run c.in-Err-commit.ensures.told),
      leaves.left,
      (leaves.done ∙ same_done g.L.Law.holds c.args.caller.now c.in-Ok.tx.caller.now c.run.new.mem.caller.now _ _ _ _ begins place),
    )

pub returns-in-Err-run-clause-ended : goal.returns-in-Err-run-clause-ended
returns-in-Err-run-clause-ended g c =
    let place = c.in-Err-run.ensures.leads.place in
    let begins = c.in-Ok.ensures.begins in
    let over = c.in-Err-run.ensures.leads.ended.1 in
    let left : IsLeft c.run.new.mem.caller.now = subst (λ l. IfSome l (λ _. IsLeft c.run.new.mem.caller.now)) over c.abandon.ensures.left in
    let name = same_name g.L.Law.holds c.args.caller.now c.in-Ok.tx.caller.now c.run.new.mem.caller.now _ _ _ _ begins place _ c.in-Ok.ensures.same in
    let P = λ (n : TlCalled _). Attempts g.L.Law.holds c.args.caller.now n (Some c.in-Err-run.again) × IsLeft n
    × (done n ≡ done c.args.caller.now) in
    in_the_end P _ _ _ _ (assumption c) name (subst P (sym c.abandon.ensures.same) (
      (made g.L.Law.holds c.args.caller.now c.in-Ok.tx.caller.now c.run.new.mem.caller.now _ _ _ _ begins place c.run.new.mem.caller.now (Some c.in-Err-run.again)
          (still c.run.new.mem.caller.now _ over) refl left.given_back.free (λ none. absurd (cc)) c.abandon.ensures.seen c.abandon.ensures.run c.abandon.ensures.told),
      left,
      same_done g.L.Law.holds c.args.caller.now c.in-Ok.tx.caller.now c.run.new.mem.caller.now _ _ _ _ begins place,
    ))
