use Rattle.std.proofs.Common.{◌≡◌, length, take}
use Rattle.dstm_crew.specs.Collecting.{heads}
use Rattle.dstm_crew.proofs.collecting.note_numbers.Given as goal

abbrev pub invariant-loop-place : goal.invariant-loop-place
invariant-loop-place l =
    (length l.numbers.items ≡ length l.shares) × (take l.place l.numbers.items ≡ take l.place (heads l.shares l.next))
