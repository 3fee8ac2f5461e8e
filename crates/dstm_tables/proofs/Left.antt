-- What a run has left, where it is committed.
use Rattle.std.proofs.Common.{◌≡◌, ◌∙◌, ◌∷◌, ℕ, Bool, List, None, Option, ap}
use Rattle.std.specs.Prelude.{if◌then◌else◌}
use Rattle.dstm_mem.specs.Memory.{value_in}
use Rattle.dstm_model.specs.Answers.{Committed}
use Rattle.dstm_model.specs.declared.value.Val.{Val}
use Rattle.dstm_tables.specs.Tries.{IsLeftBy}

-- what a run has left is the entry of the caller's newest transaction
pub left_by : {leaves : (ℕ → Option Val) → (ℕ → Bool) → Type 0} (held handed : ℕ → Option Val) (opened : ℕ → Bool)
    {all older before : List Committed} {newest by : Committed} → all ≡ newest ∷ older → all ≡ by ∷ before →
    leaves held opened → ((o : ℕ) → value_in newest.entry.reads o ≡ held o) →
    ((o : ℕ) → value_in newest.entry.writes o ≡ (if opened o then handed o else None)) → IsLeftBy leaves by.entry
left_by held handed opened {newest = newest} {by = by} done is left reads writes =
    let same : by ≡ newest = cc in
    record {
      held = held;
      opened = opened;
      left = left;
      reads = λ o. ap (λ (c : Committed). value_in c.entry.reads o) same ∙ reads o;
      writes = λ o unopened.
          ap (λ (c : Committed). value_in c.entry.writes o) same ∙ writes o
          ∙ ap (λ (b : Bool). if b then handed o else None) unopened;
    }
