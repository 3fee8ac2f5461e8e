-- What a caller has committed stands among all that was committed, and so in the history.
use Rattle.std.proofs.Common.{◌++◌, ◌==◌, ◌∙◌, ◌∷◌, ◌≡◌, ◌⊎◌, List, [], ap, append_assoc, false, inl, inr, length, map, refl, reverse, subst, sym, true, ℕ}
use Rattle.std.proofs.lemmas.Bool.{cases_Bool}
use Rattle.std.proofs.lemmas.List.{reverse-append}
use Rattle.dstm_model.specs.Answers.{Committed, Stands, StandsIn, by_caller}
use Rattle.dstm_model.specs.Map.{Agrees, Entry, IsLegal, state_after, with_writes}
use Rattle.dstm_model.specs.declared.value.Val.{Val}
use Rattle.dstm_model.proofs.Entries.{reverse_cons, states_keep_length}

-- it stands among one more
pub stands_cons : (x y : Committed) (xs : List Committed) → Stands x xs → Stands x (y ∷ xs)
stands_cons x y xs h = record { newer = y ∷ h.newer; older = h.older; is = ap (λ zs. y ∷ zs) h.is }

-- and among any more
pub stands_more : (x : Committed) (newer xs : List Committed) → Stands x xs → Stands x (newer ++ xs)
stands_more x newer xs h =
    record {
      newer = newer ++ h.newer;
      older = h.older;
      is = ap (λ zs. newer ++ zs) h.is ∙ sym (append_assoc newer h.newer (x ∷ h.older));
    }

-- what stands among one caller's attempts stands among all
pub stands_all : (c : ℕ) (x : Committed) (xs : List Committed) → Stands x (by_caller c xs) → Stands x xs
stands_all c x [] h = go h.newer h.is
  where
    go : (ns : List Committed) → [] ≡ ns ++ x ∷ h.older → Stands x []
    go [] q = absurd (cc)
    go (n ∷ ns) q = absurd (cc)
stands_all c x (y ∷ xs) h = go (stands_all c x xs) (cases_Bool (y.caller == c))
  where
    own : (newer : List Committed) → y ∷ by_caller c xs ≡ newer ++ x ∷ h.older →
        (Stands x (by_caller c xs) → Stands x xs) → Stands x (y ∷ xs)
    own [] q ih = let same : y ≡ x = cc in record { newer = []; older = xs; is = ap (λ z. z ∷ xs) same }
    own (n ∷ ns) q ih = let rest : by_caller c xs ≡ ns ++ x ∷ h.older = cc in
        stands_cons x y xs (ih (record { newer = ns; older = h.older; is = rest }))

    go : (Stands x (by_caller c xs) → Stands x xs) → (y.caller == c ≡ true) ⊎ (y.caller == c ≡ false) →
        Stands x (y ∷ xs)
    go ih (inl q) = own h.newer (rw q at h.is) ih
    go ih (inr q) = stands_cons x y xs (ih (record { newer = h.newer; older = h.older; is = rw q at h.is }))

map_append : (xs ys : List Committed) →
    map (λ (x : Committed). x.entry) (xs ++ ys)
    ≡ map (λ (x : Committed). x.entry) xs ++ map (λ (x : Committed). x.entry) ys
map_append [] ys = refl
map_append (x ∷ xs) ys = ap (λ zs. x.entry ∷ zs) (map_append xs ys)

legal_at : (m : List Val) (before : List Entry) (x : Entry) (after : List Entry) → IsLegal m (before ++ x ∷ after) →
    Agrees (state_after m before) x.reads
legal_at m [] x after h = h.0
legal_at m (y ∷ before) x after h = legal_at (with_writes m y.writes) before x after h.1

-- An attempt that stands among those whose entries are a history has its entry there, where the history is legal and
-- the state after each of its prefixes is lawful.
pub stands_in : (n : ℕ) (start : List Val) (holds : List Val → Type 0) (history : List Entry) (xs : List Committed)
    (x : Committed) → length start ≡ n → history ≡ reverse (map (λ (y : Committed). y.entry) xs) →
    IsLegal start history →
    ((prefix rest : List Entry) → history ≡ prefix ++ rest → holds start → holds (state_after start prefix)) →
    Stands x xs → StandsIn n start holds history x.entry
stands_in n start holds history xs x values entries legal lawful stands = record {
  before = first;
  after = last;
  is = split;
  objects = states_keep_length start first ∙ values;
  reads = legal_at start first x.entry last (subst (IsLegal start) split legal);
  lawful = λ ok. lawful first (x.entry ∷ last) split ok;
}
  where
    first : List Entry
    first = reverse (map (λ (y : Committed). y.entry) stands.older)

    last : List Entry
    last = reverse (map (λ (y : Committed). y.entry) stands.newer)

    split : history ≡ first ++ x.entry ∷ last
    split =
        entries
        ∙ ap (λ ys. reverse (map (λ (y : Committed). y.entry) ys)) stands.is
        ∙ ap reverse (map_append stands.newer (x ∷ stands.older))
        ∙ reverse-append (map (λ (y : Committed). y.entry) stands.newer)
        (x.entry ∷ map (λ (y : Committed). y.entry) stands.older)
        ∙ ap (λ ys. ys ++ last) (reverse_cons x.entry (map (λ (y : Committed). y.entry) stands.older))
        ∙ append_assoc first (x.entry ∷ []) last
