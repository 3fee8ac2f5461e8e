-- What a seat knows after a step: its number, and the state of its caller.
use Rattle.std.proofs.Common.{◌≡◌, ◌≢◌, ℕ, List, Contains}
use Rattle.dstm_model.specs.declared.value.Val.{Val}
use Rattle.dstm_machines.specs.Traces.{Access}
use Rattle.dstm_seats.proofs.Seats as seats
use Rattle.dstm_tl2.specs.declared.kind.Kind.{Kind}
use Rattle.dstm_tl2.specs.declared.terms.Terms.{Terms}
use Rattle.dstm_tl2.specs.Rules.{after}
use Rattle.dstm_tl2.specs.Sharing.{shared, table_of}
use Rattle.dstm_tl2_words.specs.Seats.{caller_state, made, Joined, Makes, View}

module _ {L : Type 0} (holds : L → List Val → Type 0) where
  -- the state of the seat's caller after its event
  pub state_after : (terms : Terms L) (v w : View L) (way : Access) (kind : Kind) (place found : ℕ) →
      Makes holds v way kind place found w →
      caller_state terms w ≡ after kind (table_of terms) (caller_state terms v) (made v way kind place found)
  state_after terms = seats.state_after (shared holds) (table_of terms)

  -- a seat that is joined has other numbers than the first one
  pub numbers_differ : (v other w : View L) (m n : ℕ) → Joined holds v other w → Contains v.numbers m →
      Contains other.numbers n → m ≢ n
  numbers_differ = seats.numbers_differ (shared holds)
