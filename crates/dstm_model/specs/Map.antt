-- Maps from objects to values, and the entries that transactions leave in a history.
use Rattle.std.specs.Prelude.{◌≡◌, ◌≢◌, ℕ, ◌<◌, List, [], ◌∷◌, length, slice_index_or, slice_set}
use Rattle.dstm_model.specs.declared.value.Val.{Val}

-- what stands at a place that a map does not have
abbrev pub no_value : Val
no_value = record { low = 0; high = 0 }

-- the value of object o: a map is the list of the objects' values
abbrev pub value_at : List Val → ℕ → Val
value_at map o = slice_index_or map o no_value

-- what a transaction read and wrote: pairs of an object and a value
pub record Entry : Type 0 where
  pub reads : List (ℕ × Val)
  pub writes : List (ℕ × Val)

-- the map with the named places replaced, and no others
abbrev pub with_writes : List Val → List (ℕ × Val) → List Val
with_writes map [] = map
with_writes map (w ∷ ws) = slice_set (with_writes map ws) w.0 w.1

-- the map has every value that was read
abbrev pub Agrees : List Val → List (ℕ × Val) → Type 0
Agrees map [] = Unit {0}
Agrees map (r ∷ rs) = (value_at map r.0 ≡ r.1) × Agrees map rs

-- no pair names object o
abbrev pub IsUnnamed : ℕ → List (ℕ × Val) → Type 0
IsUnnamed o [] = Unit {0}
IsUnnamed o (p ∷ ps) = (p.0 ≢ o) × IsUnnamed o ps

-- each pair names one of n objects, and no two name the same
abbrev pub NamesOnce : ℕ → List (ℕ × Val) → Type 0
NamesOnce n [] = Unit {0}
NamesOnce n (p ∷ ps) = (p.0 < n) × IsUnnamed p.0 ps × NamesOnce n ps

-- an entry over n objects
pub record IsEntry (n : ℕ) (entry : Entry) : Type 0 where
  pub reads : NamesOnce n entry.reads
  pub writes : NamesOnce n entry.writes

-- entries one after the other, the oldest first: each agrees with the map that those before it leave
abbrev pub IsLegal : List Val → List Entry → Type 0
IsLegal map [] = Unit {0}
IsLegal map (x ∷ xs) = Agrees map x.reads × IsLegal (with_writes map x.writes) xs

-- the map after all entries, the oldest first
abbrev pub state_after : List Val → List Entry → List Val
state_after map [] = map
state_after map (x ∷ xs) = state_after (with_writes map x.writes) xs

-- every lawful map of n objects that agrees with the reads of an entry is lawful with its writes
abbrev pub KeepsLaw : (List Val → Type 0) → ℕ → Entry → Type 0
KeepsLaw holds n entry =
    (map : List Val) → length map ≡ n → holds map → Agrees map entry.reads → holds (with_writes map entry.writes)
