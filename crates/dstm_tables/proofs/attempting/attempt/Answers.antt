use Rattle.std.proofs.Common.{None, refl}
use Rattle.dstm_engine.proofs.Made.{few_by_opens}
use Rattle.dstm_tables.proofs.ByTl2.{tl2_did, tl2_kept, tl2_spent}
use Rattle.dstm_tables.proofs.Made.{did, is_spent_from, one_more, was_kept}
use Rattle.dstm_tables.proofs.attempting.attempt.Goals as goal

-- ---- by DSTM

pub returns-in-Ok-clause-done : goal.returns-in-Ok-clause-done
returns-in-Ok-clause-done g c =
    let rest = rw c.in-Dstm.is at c.requires.rest in
    let runs = c.in-Ok.ensures.runs in
    rw c.in-Dstm.is (did (g.B.Body.right c.attempt.new.body) (g.B.Body.leaves c.attempt.new.body) c.in-Dstm.caller runs.ran
    c.attempt.new.caller c.in-Ok.done.number c.in-Ok.done.number rest
    (one_more c.in-Dstm.caller c.attempt.new.caller None rest c.in-Ok.ensures.attempts)
    (c.in-Ok.ensures.attempts.status refl) c.in-Ok.ensures.settles runs.commits runs.left
    (few_by_opens c.in-Ok.ensures.sighted))

pub returns-in-Err-Again-clause-ended : goal.returns-in-Err-Again-clause-ended
returns-in-Err-Again-clause-ended g c =
    let was = rw c.in-Err-Again.field-0-is at c.in-Err-Again.ensures.ended in
    rw c.in-Dstm.is (was_kept c.in-Dstm.caller c.attempt.new.caller c.in-Err-Again.field-0-0
    (rw c.in-Dstm.is at c.requires.rest) was.0 was.1 was.2)

pub returns-in-Err-Spent-clause-ended : goal.returns-in-Err-Spent-clause-ended
returns-in-Err-Spent-clause-ended g c =
    rw c.in-Dstm.is (is_spent_from c.in-Dstm.caller c.attempt.new.caller (rw c.in-Dstm.is at c.requires.rest)
    (rw c.in-Err-Spent.field-0-is at c.in-Err-Spent.ensures.ended))

-- ---- by TL2

pub returns-in-Ok-tl_attempt-clause-done : goal.returns-in-Ok-tl_attempt-clause-done
returns-in-Ok-tl_attempt-clause-done g c =
    let runs = c.in-Ok-tl_attempt.ensures.runs in
    rw c.in-Tl2.is (tl2_did (g.B.Body.right c.tl_attempt.new.body) (g.B.Body.leaves c.tl_attempt.new.body) c.in-Tl2.caller
    runs.ran c.tl_attempt.new.caller c.in-Ok-tl_attempt.done.number c.in-Ok-tl_attempt.done.number
    (rw c.in-Tl2.is at c.requires.rest) c.in-Ok-tl_attempt.ensures.attempts
    c.in-Ok-tl_attempt.ensures.settles runs.commits runs.left)

pub returns-in-Err-Again-tl_attempt-clause-ended : goal.returns-in-Err-Again-tl_attempt-clause-ended
returns-in-Err-Again-tl_attempt-clause-ended g c =
    let was = rw c.in-Err-Again-tl_attempt.field-0-is at c.in-Err-Again-tl_attempt.ensures.ended in
    rw c.in-Tl2.is (tl2_kept 0 c.in-Tl2.caller c.tl_attempt.new.caller c.in-Err-Again-tl_attempt.field-0-0
    (rw c.in-Tl2.is at c.requires.rest) was.0 was.1 was.2)

pub returns-in-Err-Spent-tl_attempt-clause-ended : goal.returns-in-Err-Spent-tl_attempt-clause-ended
returns-in-Err-Spent-tl_attempt-clause-ended g c =
    rw c.in-Tl2.is (tl2_spent c.in-Tl2.caller c.tl_attempt.new.caller (rw c.in-Tl2.is at c.requires.rest)
    (rw c.in-Err-Spent-tl_attempt.field-0-is at c.in-Err-Spent-tl_attempt.ensures.ended))
