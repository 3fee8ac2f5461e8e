-- What a table was told is known by the values.
use Rattle.std.proofs.Common.{◌≡◌, refl}
use Rattle.dstm_words.specs.declared.terms.Terms.{Terms}

pub terms_same : {L : Type 0} (t u : Terms L) → t.shape ≡ u.shape → t.law.value ≡ u.law.value →
    t.start.value ≡ u.start.value → t ≡ u
terms_same t u s l v = rw (s, l, v) refl
