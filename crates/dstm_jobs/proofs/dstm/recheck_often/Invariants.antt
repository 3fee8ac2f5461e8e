use Rattle.std.proofs.Common.{◌≡◌, ℕ}
use Rattle.dstm_engine.specs.Callers.{is_opened}
use Rattle.dstm_engine.specs.Makes.{let_go}
use Rattle.dstm_engine.specs.Transactions.{tx_place}
use Rattle.dstm_jobs.specs.Rechecks.{HasRechecked}
use Rattle.dstm_jobs.proofs.dstm.recheck_often.Given as goal

abbrev pub invariant-loop-pass : goal.invariant-loop-pass
invariant-loop-pass l =
    ((o : ℕ) → is_opened l.tx.caller.now o ≡ is_opened l.initial.tx.caller.now o)
    × HasRechecked l._pass l.initial.tx.caller.now l.tx.caller.now
    × (l.tx.caller.ghost_name ≡ l.initial.tx.caller.ghost_name) × (l.tx.stm.now ≡ l.initial.tx.stm.now)
    × (tx_place l.tx.caller.ghost_name l.tx.stm.now l.tx.caller.now
    ≡ tx_place l.initial.tx.caller.ghost_name l.initial.tx.stm.now l.initial.tx.caller.now)
    × (let_go l.tx.caller.now ≡ let_go l.initial.tx.caller.now)
