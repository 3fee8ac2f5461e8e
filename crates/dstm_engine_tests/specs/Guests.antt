-- A guest on the words of a table, and the kinds of events that it makes.
use Rattle.std.specs.Prelude.{◌≡◌, ℕ, ◌<◌, Bool, List, [], ◌∷◌, None}
use Rattle.atomic_table.specs.declared.shared.Seat.{Seat}
use Rattle.dstm_core.specs.Events.{Event}
use Rattle.dstm_core.specs.Kinds.{is_one_of}
use Rattle.dstm_core.specs.Local.{Tracked}
use Rattle.dstm_core.specs.Rules.{after}
use Rattle.dstm_core.specs.declared.event.Kind.{Kind}
use Rattle.dstm_core.specs.declared.event.Kind.TheVariants.{Enrol, Rank, Begin, LookObj, PutOwner, PutOld, Install, LookNumber, LookSelf, PutHigh, PutNew, Validating, Draw, Commit}
use Rattle.dstm_words.specs.Seats.{View, Home, IsOf, IsOut, caller_state, view_of}

-- it adds one to a word
abbrev pub is_add : Kind → Bool
is_add = is_one_of (Enrol ∷ Draw ∷ [])

-- it loads a word
abbrev pub is_load : Kind → Bool
is_load = is_one_of (LookObj ∷ LookNumber ∷ LookSelf ∷ [])

-- it stores a number in a word
abbrev pub is_store : Kind → Bool
is_store = is_one_of (Rank ∷ Begin ∷ PutOwner ∷ PutOld ∷ PutHigh ∷ PutNew ∷ [])

-- it exchanges a word
abbrev pub is_exchange : Kind → Bool
is_exchange = is_one_of (Install ∷ Validating ∷ Commit ∷ [])

module _ {L : Type 0} where
  -- the seat is one of the table's, for a guest that can still enrol where it has no number
  pub record IsGuest (home : Home L) (seat : Seat ℕ (View L)) : Type 0 where
    pub table : IsOf home seat
    pub out : IsOut (view_of seat)
    pub enrolment : (view_of seat).number ≡ None → 0 < (view_of seat).enrolments

  -- what the rules know of the guest is its state
  abbrev pub IsTracked : Home L → Seat ℕ (View L) → Tracked → Type 0
  IsTracked home seat guest =
      guest ≡ record { shape = home.terms.shape; state = caller_state home.terms (view_of seat) }

  -- the guest went on by an event of this kind and place, and where it found what the event says, by that event
  pub record GoesOnBy (home : Home L) (before now : Seat ℕ (View L)) (event : Event) (found : ℕ) : Type 0 where
    pub guest : IsGuest home now
    pub state : found ≡ event.found → caller_state home.terms (view_of now)
        ≡ after event.kind home.terms.shape (caller_state home.terms (view_of before)) event
