use Rattle.std.proofs.Common.{rules}
use Rattle.std.proofs.lemmas.List.Sorted.{Contains-permutation, IsNonDecreasingBy-from_sort_by_key, IsPermutation-sym}
use Rattle.dstm_structures.proofs.Rising.{rising}
use Rattle.dstm_structures.proofs.ordered.OrderedMap.read_all.Goals as goal

pub returns-clause-lists : goal.returns-clause-lists
returns-clause-lists g c =
    let told = c.in_ok-items.ensures.lists in
    let moved = c.sort_by_key.ensures.permutation in
    record {
      all = λ key value is. Contains-permutation _ _ (key, value) moved (told.all key value is);
      only = λ key value has. told.only key value (Contains-permutation _ _ (key, value) (IsPermutation-sym _ _ moved) has);
      rising = rising (λ item. item.0) _ _ told.once moved
          (IsNonDecreasingBy-from_sort_by_key (λ item. item.0) _ c.in_ok-sort_by_key.ensures.sorted (λ a r q k. search rules));
    }
