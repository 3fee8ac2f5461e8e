-- How many objects a structure has.
use Rattle.std.proofs.Common.{◌≡◌, ℕ, ◌+◌, ◌<◌, ap, arith}
use Rattle.std.specs.Prelude.{cond}
use Rattle.std.proofs.lemmas.Bool.{ne_eqb}
use Rattle.dstm_model.specs.Objects.{structure_objects}

pub structure_objects-declared : (n : ℕ) → 0 < n → structure_objects n ≡ n + 2
structure_objects-declared n h = ap (λ b. cond b 0 (n + 2)) (ne_eqb n 0 (λ e. omega (arith, e, h)))
