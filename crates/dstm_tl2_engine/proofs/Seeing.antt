-- What a caller has seen, at its own log.
use Rattle.std.proofs.Common.{List, []}
use Rattle.dstm_tl2_engine.proofs.Base.{IsRunOf, Val}
use Rattle.dstm_tl2.proofs.Closing.{sample_agrees}
use Rattle.dstm_tl2_engine.specs.Attempts.{Seen}
use Rattle.dstm_tl2_engine.specs.Callers.{TlCalled, law_of, table_of_caller}

-- WHAT AN ATTEMPT HAS READ are values of one moment, at every place of a run.
pub seen_now : {L : Type 0} {holds : L → List Val → Type 0} (k : TlCalled L) → IsRunOf holds k.home.terms k.log →
    Seen holds k
seen_now {holds = holds} k run = sample_agrees (table_of_caller k) (holds (law_of k)) [] k.log k.number run.run
