-- Numbers that may be absent.
use Rattle.std.proofs.Common.{◌≡◌, ℕ, true, false, Option, Some, None, is_some, refl, is_none}
use Rattle.dstm_core.proofs.Base.{or_zero}

pub some_zero : (o : Option ℕ) → is_some o ≡ true → o ≡ Some (or_zero o)
some_zero None h = absurd (cc)
some_zero (Some n) h = refl

pub known_some : (o : Option ℕ) → is_none o ≡ false → is_some o ≡ true
known_some None h = absurd (cc)
known_some (Some n) h = refl
