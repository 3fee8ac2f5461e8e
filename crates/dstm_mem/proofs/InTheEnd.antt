-- What a reference leads to in the end.
use Rattle.std.proofs.Common.{◌≡◌, subst, sym}

-- what holds of a thing as it was left holds of it in the end, if the reference to it is still the one that it had
pub in_the_end : {X A : Type 0} (P : X → Type 0) (a b : A) (x n : X) → (a ≡ b → x ≡ n) → a ≡ b → P n → P x
in_the_end P a b x n same is h = subst P (sym (same is)) h
