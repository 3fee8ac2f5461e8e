-- What a table was told is known by the values.
use Rattle.std.proofs.Common.{◌≡◌, refl}
use Rattle.dstm_tl2.specs.declared.terms.Terms.{Terms}

pub terms_same : {L : Type 0} (t u : Terms L) → t.callers ≡ u.callers → t.attempts ≡ u.attempts →
    t.law.value ≡ u.law.value → t.start.value ≡ u.start.value → t ≡ u
terms_same t u c a l v = rw (c, a, l, v) refl
