-- Values of the state after a prefix of a history stood together.
use Rattle.std.proofs.Common.{◌≡◌, ◌∙◌, List, [], ◌∷◌, ◌++◌, ℕ, refl, sym, subst, ap, reverse}
use Rattle.dstm_records.proofs.Base.{Agrees, Committed, Entry, StoodTogether, Val, entries_of}
use Rattle.dstm_model.specs.Map.{state_after}
use Rattle.dstm_tables.proofs.Entries.{entries_reverse}

-- transactions whose entries are in two parts
record AreSplit (xs : List Committed) (front : List Entry) : Type 0 where
  pub first : List Committed
  pub rest : List Committed
  pub are : xs ≡ first ++ rest
  pub entries : entries_of first ≡ front

split : (xs : List Committed) (front back : List Entry) → entries_of xs ≡ front ++ back → AreSplit xs front
split xs [] back is = record { first = []; rest = xs; are = refl; entries = refl }
split [] (e ∷ front) back is = absurd (cc)
split (x ∷ xs) (e ∷ front) back is =
    let one : x.entry ≡ e = cc in
    let more : entries_of xs ≡ front ++ back = cc in
    let parts = split xs front back more in record {
      first = x ∷ parts.first;
      rest = parts.rest;
      are = ap (λ (ys : List Committed). x ∷ ys) parts.are;
      entries = ap (λ (y : Entry). y ∷ entries_of parts.first) one ∙ ap (λ (ys : List Entry). e ∷ ys) parts.entries;
    }

-- the history is that of these transactions, the newest first, and has this prefix
pub stood_together : (start : List Val) (done : List Committed) {history : List Entry} (front back : List Entry) (values : List (ℕ × Val)) →
    history ≡ reverse (entries_of done) → history ≡ front ++ back → Agrees (state_after start front) values →
    StoodTogether start (reverse done) values
stood_together start done front back values told split_as agrees =
    let parts = split (reverse done) front back (entries_reverse done ∙ sym told ∙ split_as) in record {
      first = parts.first;
      rest = parts.rest;
      are = parts.are;
      stood = subst (λ (es : List Entry). Agrees (state_after start es) values) (sym parts.entries) agrees;
    }
