-- What is written of why a transaction did not take effect, and why a call on a memory failed.
use Rattle.std.specs.Prelude.{ℕ, List, codes}
use Rattle.dstm_cells.specs.declared.error.Failed.{Failed}
use Rattle.dstm_cells.specs.declared.error.Failed.TheVariants as failed
use Rattle.dstm_cells.specs.declared.error.GaveUp.{GaveUp}
use Rattle.dstm_cells.specs.declared.error.GaveUp.TheVariants as gave_up

abbrev pub text_of_end : GaveUp → List ℕ
text_of_end gave_up.Spent = codes "a thread's attempts are used up"
text_of_end gave_up.Idle = codes "a transaction waited in vain"
text_of_end gave_up.Foreign = codes "the memory has no such cell"
text_of_end gave_up.Memory = codes "out of memory"
text_of_end gave_up.Elsewhere = codes "another transaction is over"

abbrev pub text_of_failure : Failed → List ℕ
text_of_failure failed.Full = codes "the memory has no room for another cell"
text_of_failure failed.Memory = codes "out of memory"
text_of_failure failed.Threads = codes "a memory runs from 1 to 63 threads"
text_of_failure (failed.GaveUp why) = text_of_end why
text_of_failure failed.Unread = codes "the cells could not be read"
text_of_failure failed.Foreign = codes "the memory has no such cell"
