-- A caller that was taken in: nothing is locked by it any more, and what it has committed is told by its founder's log.
use Rattle.std.proofs.Common.{◌+◌, ◌-◌, ◌++◌, ◌∙◌, ◌∷◌, ◌≡◌, ◌⊎◌, List, [], ap, arith, inl, inr, length, length-append, subst, sym, ℕ}
use Rattle.std.specs.Prelude.{Contains, None}
use Rattle.std.proofs.lemmas.List.Elements.{Contains-append_cases}
use Rattle.dstm_tl2_engine.proofs.Base.{Home, Joined, LocalState, Returning, Terms, Val, View, local, table_of, tl2}
use Rattle.dstm_seats.proofs.Lists.{one_of}
use Rattle.dstm_machines.proofs.Own.{same_local}
use Rattle.dstm_tl2.proofs.Done.{same_done_by}
use Rattle.dstm_tl2_engine.specs.Attempts.{done, done_by}
use Rattle.dstm_tl2_engine.specs.Callers.{TlCalled, seat_view, state, table_of_caller}
use Rattle.dstm_tl2_engine.specs.Calls.{Performs}
use Rattle.dstm_tl2_engine.specs.Tables.{HasReturned}

-- with a caller more, which holds nothing, those that were taken in are as many as were made
pub returned_more : {L : Type 0} {holds : L → List Val → Type 0} {terms : Terms L} {made : ℕ} {v w : View L}
    (k : TlCalled L) → Joined holds v (seat_view k) w → k.home.terms ≡ terms → (state k).holds ≡ [] →
    HasReturned terms made v → HasReturned terms made w
returned_more {L = L} {terms = terms} {v = v} {w = w} k joined told nothing back = record {
  free = λ n has.
      free n (Contains-append_cases v.numbers (k.number ∷ []) n (subst (λ ns. Contains ns n) numbers has));
  counted =
      let many : length w.numbers ≡ length v.numbers + 1 =
      ap length numbers ∙ length-append v.numbers (k.number ∷ []) in
      let outs : w.out ≡ v.out - 1 = ap (λ (x : View L). x.out) joined.view in
      let counted = back.counted in omega arith;
  few =
      let outs : w.out ≡ v.out - 1 = ap (λ (x : View L). x.out) joined.view in
      let few = back.few in omega arith;
}
  where
    numbers : w.numbers ≡ v.numbers ++ k.number ∷ []
    numbers = ap (λ (x : View L). x.numbers) joined.view

    free : (n : ℕ) → Contains v.numbers n ⊎ Contains (k.number ∷ []) n → (local (table_of terms) w.log n).holds ≡ []
    free n (inl has) =
        ap (λ (x : LocalState). x.holds) (same_local tl2 (table_of terms) w.log v.log n (joined.kept n has))
        ∙ back.free n has
    free n (inr has) =
        ap (λ (x : LocalState). x.holds) (same_local tl2 (table_of terms) w.log k.log n (joined.other_kept n has))
        ∙ ap (λ m. (local (table_of terms) k.log m).holds) (one_of k.number n has)
        ∙ ap (λ t. (local (table_of t) k.log k.number).holds) (sym told)
        ∙ nothing

-- what a retired caller has committed is the same in the founder's log
pub retired_done : {L : Type 0} {holds : L → List Val → Type 0} {v w : View L} {k returned : TlCalled L} →
    Performs holds Returning k returned None → Joined holds v (seat_view returned) w → done returned ≡ done k →
    done_by (table_of_caller k) w.log k.number ≡ done k
retired_done {L = L} {w = w} {k = k} {returned = returned} steps joined same =
    same_done_by (table_of_caller k) w.log returned.log k.number
    (joined.other_kept k.number (0, omega arith, steps.same.1))
    ∙ ap (λ (h : Home L). done_by (table_of h.terms) returned.log k.number) (sym steps.same.0)
    ∙ ap (done_by (table_of_caller returned) returned.log) (sym steps.same.1)
    ∙ same
