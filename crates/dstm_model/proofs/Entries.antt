-- Maps and entries: what writes leave, and lists of entries with one more.
use Rattle.std.proofs.Common.{◌++◌, ◌∙◌, ◌∷◌, ◌≡◌, List, [], length, length-set, refl, ℕ}
use Rattle.std.proofs.lemmas.List.{reverse-append}
use Rattle.std.specs.Prelude.{reverse}
use Rattle.dstm_model.specs.Map.{Agrees, Entry, IsLegal, state_after, with_writes}
use Rattle.dstm_model.specs.declared.value.Val.{Val}

-- writes replace values, and add none
pub with_length : (ws : List (ℕ × Val)) (m : List Val) → length (with_writes m ws) ≡ length m
with_length [] m = refl
with_length (w ∷ ws) m = simp length-set (with_length ws m)

-- so the state has as many objects as the map before
pub states_keep_length : (start : List Val) (xs : List Entry) → length (state_after start xs) ≡ length start
states_keep_length m [] = refl
states_keep_length m (x ∷ xs) = states_keep_length (with_writes m x.writes) xs ∙ with_length x.writes m

-- the state after one entry more
pub state_snoc : (start : List Val) (xs : List Entry) (x : Entry) →
    state_after start (xs ++ x ∷ []) ≡ with_writes (state_after start xs) x.writes
state_snoc start [] x = refl
state_snoc start (y ∷ ys) x = state_snoc (with_writes start y.writes) ys x

-- an entry that agrees with the state may come next
pub legal_snoc : (start : List Val) (xs : List Entry) (x : Entry) → IsLegal start xs →
    Agrees (state_after start xs) x.reads → IsLegal start (xs ++ x ∷ [])
legal_snoc start [] x h a = (a, tt)
legal_snoc start (y ∷ ys) x h a = (h.0, legal_snoc (with_writes start y.writes) ys x h.1 a)

-- the first item becomes the last
pub reverse_cons : {A : Type 0} → (x : A) (xs : List A) → reverse (x ∷ xs) ≡ reverse xs ++ x ∷ []
reverse_cons x xs = reverse-append (x ∷ []) xs
