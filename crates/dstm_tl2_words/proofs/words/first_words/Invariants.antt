use Rattle.std.proofs.Common.{◌≡◌, ◌++◌, length, map, replicate, take}
use Rattle.dstm_model.specs.declared.value.Val.{Val}
use Rattle.dstm_tl2_words.proofs.words.first_words.Given as goal

abbrev pub invariant-loop-value : goal.invariant-loop-value
invariant-loop-value l =
    l.words.items ≡ replicate (length l.start) 0 ++ map (λ (value : Val). value.low) (take l.value-index l.start)

abbrev pub invariant-loop-value-2 : goal.invariant-loop-value-2
invariant-loop-value-2 l =
    l.words.items ≡ replicate (length l.start) 0 ++ (map (λ (value : Val). value.low) l.start
    ++ map (λ (value : Val). value.high) (take l.value-index l.start))
