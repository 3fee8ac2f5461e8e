-- What is found by looks alone, by whatever values there may be.
use Rattle.std.proofs.Common.{◌∙◌, refl, subst, sym, ◌⊎◌, inl, inr}
use Rattle.std.specs.Prelude.{◌≡◌, ℕ, ◌<◌, Bool, true, false, List}
use Rattle.dstm_model.specs.declared.value.Law.{Ghosts}
use Rattle.dstm_model.specs.declared.value.Val.{Val}
use Rattle.dstm_tables.specs.Tables.{objects_there}
use Rattle.dstm_attempts.specs.Attempts.{Attempt, SetsNothing}
use Rattle.dstm_cells.specs.UnderWay.{MayBegin, seen}
use Rattle.dstm_cells.specs.declared.error.Failed.{Failed}
use Rattle.dstm_cells.specs.declared.error.Failed.TheVariants as failed
use Rattle.dstm_cells.specs.declared.error.Why.{Why}
use Rattle.dstm_cells.specs.declared.error.Why.TheVariants.{Again, Retry, Foreign, Memory}
use Rattle.dstm_cells.specs.declared.holds.Holds.{Ghosts as Holding}
use Rattle.dstm_cells.specs.declared.under_way.Attempt.{Attempt as Tx}
use Rattle.dstm_structures.specs.Effects.{GoesOn, Stops, goes-again, goes-still}

-- for what looks at cells, and stands at these values if it has begun at this map
module _ {B : Type 0} (stands : B → List Val → List Val → Type 0) where
  -- THIS HOLDS, whatever values it stands at
  abbrev pub Shows : (List Val → Type 0) → B → Type 0
  Shows fact by = (map values : List Val) → stands by map values → fact values

  -- there are values at which it stands, and what it has read stood together at one moment
  abbrev pub StandsSomewhere : (together : B → Type 0) → B → Type 0
  StandsSomewhere together by = (map : List Val) × (values : List Val) × stands by map values × together by

-- ---- a transaction under way

module _ {L S : Type 0} {ghosts : Ghosts L} {holding : Holding S L} (holds : L → List Val → Type 0) where
  -- one whose attempt has begun at this map stands at these values
  abbrev pub StandsAt : Tx L S ghosts holding → List Val → List Val → Type 0
  StandsAt k map values = MayBegin holds k.attempts.caller map × (seen k.attempts.caller map ≡ values)

  -- it has only looked: it goes on, and has set nothing
  pub record OnlyLooks (old new : Tx L S ghosts holding) : Type 0 where
    pub goes : GoesOn holds old new
    pub open goes use *
    pub unset : SetsNothing holds old.attempts.caller new.attempts.caller

  pub looks-still : (k : Tx L S ghosts holding) → OnlyLooks k k
  looks-still k = record {
    goes = goes-still;
    unset = record { narrows = λ map may. may; same = λ map. refl };
  }

  pub looks-again : (k m n : Tx L S ghosts holding) → OnlyLooks k m → OnlyLooks m n → OnlyLooks k n
  looks-again k m n one two = record {
    goes = goes-again one.goes two.goes;
    unset = record {
      narrows = λ map may. one.unset.narrows map (two.unset.narrows map may);
      same = λ map. two.unset.same map ∙ one.unset.same map;
    };
  }

  pub looks-narrow : (k n : Tx L S ghosts holding) (map values : List Val) → OnlyLooks k n → StandsAt n map values → StandsAt k map values
  looks-narrow k n map values looks at = (looks.unset.narrows map at.0, sym (looks.unset.same map) ∙ at.1)

  pub stops-later : (lists : Bool) (size : ℕ) (k m n : Tx L S ghosts holding) (why : Why) → OnlyLooks k m → Stops size lists m n why →
      Stops size lists k n why
  stops-later lists size k m n Again looks stops = stops
  stops-later lists size k m n Retry looks stops = stops
  stops-later lists size k m n Foreign looks stops =
      subst (λ (a : Attempt L). objects_there a.home < size) looks.keeps stops
  stops-later lists size k m n Memory looks stops = stops

  pub stops-listing : (size : ℕ) (k n : Tx L S ghosts holding) (why : Why) → Stops size false k n why → Stops size true k n why
  stops-listing size k n Again stops = stops
  stops-listing size k n Retry stops = stops
  stops-listing size k n Foreign stops = stops
  stops-listing size k n Memory stops = refl

-- ---- a memory between runs

-- why a look fails at cells among so many, where the memory has so many; and whether a list is made
abbrev pub FailsBetween : (lists : Bool) (size cells : ℕ) → Failed → Type 0
FailsBetween lists size cells why = ((cells < size) × (why ≡ failed.Foreign)) ⊎ ((lists ≡ true) × (why ≡ failed.Memory))

pub between-listing : (size cells : ℕ) (why : Failed) → FailsBetween false size cells why → FailsBetween true size cells why
between-listing size cells why (inl foreign) = inl foreign
between-listing size cells why (inr memory) = inr (refl, memory.1)
