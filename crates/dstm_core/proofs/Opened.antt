-- The objects opened for writing.
use Rattle.std.proofs.Common.{◌≡◌, ◌==◌, ◌||◌, ◌++◌, ℕ, List, [], ◌∷◌, Bool, true, false, cond, is_some, Some, None, refl}
use Rattle.dstm_core.proofs.Base.{Write, write_of}

-- one write more, and its object is open
pub is_open-push : (o : ℕ) (ws : List Write) (w : Write) →
    is_some (write_of o (ws ++ w ∷ [])) ≡ (is_some (write_of o ws) || (w.object == o))
is_open-push o [] w = last (w.object == o)
  where
    last : (b : Bool) → is_some (cond b (Some w) None) ≡ (false || b)
    last true = refl
    last false = refl
is_open-push o (v ∷ ws) w = front (v.object == o) (is_open-push o ws w)
  where
    front : (b : Bool) → is_some (write_of o (ws ++ w ∷ [])) ≡ (is_some (write_of o ws) || (w.object == o))
        → is_some (cond b (Some v) (write_of o (ws ++ w ∷ []))) ≡
        (is_some (cond b (Some v) (write_of o ws)) || (w.object == o))
    front true e = refl
    front false e = e
