-- What a seat knows after a step: its number, and the state of its caller.
use Rattle.std.proofs.Common.{◌≡◌, ◌≢◌, ℕ, List, Some, Contains}
use Rattle.dstm_model.specs.declared.value.Val.{Val}
use Rattle.dstm_core.specs.declared.event.Kind.{Kind}
use Rattle.dstm_core.specs.Rules.{after}
use Rattle.dstm_core.specs.Traces.{Access}
use Rattle.dstm_seats.proofs.Seats as seats
use Rattle.dstm_words.specs.declared.terms.Terms.{Terms}
use Rattle.dstm_words.specs.Seats.{caller_state, made, number_or, shared, Joined, Makes, View}

module _ {L : Type 0} (holds : L → List Val → Type 0) where
  pub number_after : (v w : View L) (way : Access) (kind : Kind) (place found : ℕ) →
      Makes holds v way kind place found w → w.number ≡ Some (number_or v.number found)
  number_after = seats.number_after (shared holds)

  -- the state of the seat's caller after its event
  pub state_after : (terms : Terms L) (v w : View L) (way : Access) (kind : Kind) (place found : ℕ) →
      Makes holds v way kind place found w →
      caller_state terms w ≡ after kind terms.shape (caller_state terms v) (made v way kind place found)
  state_after terms = seats.state_after (shared holds) terms.shape

  -- a seat that is joined has other numbers than the first one
  pub numbers_differ : (v other w : View L) (m n : ℕ) → Joined holds v other w → Contains v.numbers m →
      Contains other.numbers n → m ≢ n
  numbers_differ = seats.numbers_differ (shared holds)
