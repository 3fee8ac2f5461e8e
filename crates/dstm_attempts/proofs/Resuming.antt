-- What a caller leaves that has gone on with its attempt.
use Rattle.std.proofs.Common.{◌≡◌, subst}
use Rattle.dstm_mem.proofs.InTheEnd.{in_the_end}

-- What holds between an attempt that was resumed and what was left of it holds between the caller and what it ends as, since
-- the attempt has the reference still that it was resumed with.
pub resumed : {X A : Type 0} (P : X → X → Type 0) (old k new n : X) (a b : A) → (a ≡ b → n ≡ new) → a ≡ b → k ≡ old →
    P k new → P old n
resumed P old k new n a b same is was h = in_the_end (P old) a b n new same is (subst (λ x. P x new) was h)
