-- Lists of entries with the newest first, as traces give them, and with the oldest first, as histories have them.
use Rattle.std.proofs.Common.{◌∷◌, ◌≡◌, ◌∙◌, List, [], ap, length, refl, reverse, subst, sym}
use Rattle.dstm_model.proofs.Entries.{legal_snoc, reverse_cons, state_snoc, with_length}
use Rattle.dstm_model.specs.Map.{Agrees, Entry, IsLegal, state_after, with_writes}
use Rattle.dstm_model.specs.declared.value.Val.{Val}

-- the map after some entries, the newest first
abbrev pub map_after : List Val → List Entry → List Val
map_after start [] = start
map_after start (x ∷ xs) = with_writes (map_after start xs) x.writes

-- the map keeps its length
pub state_length : (xs : List Entry) (m : List Val) → length (map_after m xs) ≡ length m
state_length [] m = refl
state_length (x ∷ xs) m = with_length x.writes (map_after m xs) ∙ state_length xs m

-- entries one after the other, the newest first: each agrees with the map that those before it leave
abbrev pub Legal : List Val → List Entry → Type 0
Legal start [] = Unit {0}
Legal start (x ∷ xs) = Legal start xs × Agrees (map_after start xs) x.reads

-- the map after entries in either order
pub state_reversed : (start : List Val) (xs : List Entry) → state_after start (reverse xs) ≡ map_after start xs
state_reversed start [] = refl
state_reversed start (x ∷ xs) =
    ap (state_after start) (reverse_cons x xs)
    ∙ state_snoc start (reverse xs) x
    ∙ ap (λ m. with_writes m x.writes) (state_reversed start xs)

-- entries that are legal in one order are so in the other
pub legal_reversed : (start : List Val) (xs : List Entry) → Legal start xs → IsLegal start (reverse xs)
legal_reversed start [] h = tt
legal_reversed start (x ∷ xs) h =
    subst (IsLegal start) (sym (reverse_cons x xs))
    (legal_snoc start (reverse xs) x (legal_reversed start xs h.0)
    (subst (λ m. Agrees m x.reads) (sym (state_reversed start xs)) h.1))
