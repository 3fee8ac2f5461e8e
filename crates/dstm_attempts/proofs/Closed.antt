-- A caller that was just given out has no attempt under way.
use Rattle.std.proofs.Common.{ℕ, List}
use Rattle.dstm_model.specs.declared.value.Val.{Val}
use Rattle.dstm_tables.specs.Founders.{Enrols}
use Rattle.dstm_tables.specs.declared.founding.Founder.{Founder}
use Rattle.dstm_tables.specs.declared.founding.Founder.TheVariants.{Dstm, Tl2}
use Rattle.dstm_tables.specs.declared.tables.Caller.{Caller}
use Rattle.dstm_tables.specs.declared.tables.Caller.TheVariants as caller
use Rattle.dstm_tables.proofs.Fresh.{fresh_rest}
use Rattle.dstm_attempts.specs.Attempts.{IsClosed}
use Rattle.dstm_attempts.proofs.ClosedByTl2.{enrolled_by_tl2}

pub enrolled_closed : {L : Type 0} (holds : L → List Val → Type 0) (f g : Founder L) (seed : ℕ) (k : Caller L) →
    Enrols holds f g seed k → IsClosed k
enrolled_closed holds (Dstm f) (Dstm g) seed (caller.Dstm k) enrols = (fresh_rest f g seed k enrols).over
enrolled_closed holds (Tl2 f) (Tl2 g) seed (caller.Tl2 k) enrols = enrolled_by_tl2 holds f g k enrols
enrolled_closed holds f g seed k enrols = absurd enrols
