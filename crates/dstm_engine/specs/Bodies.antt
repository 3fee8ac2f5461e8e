-- What an attempt knows of a body, of either trait.
use Rattle.std.specs.Prelude.{ℕ, Bool, List, Option}
use Rattle.dstm_model.specs.declared.value.Val.{Val}

pub record Known (L B Task Outcome : Type 0) : Type 1 where
  pub law : B → L
  pub task : B → Task
  pub outcome : B → Outcome
  pub right : B → List Val → List Val → Type 0
  pub leaves : B → (ℕ → Option Val) → (ℕ → Bool) → Type 0
  pub keeps_at_most : B → ℕ → Type 0
