-- What is known of an attempt that was left.
use Rattle.std.specs.Prelude.{◌≡◌, ℕ, ◌<◌, ◌==◌, ◌&&◌, Bool, true, false, List, [], ◌∷◌, Option, None, Some, All, Contains, if◌then◌else◌}
use Rattle.dstm_machines.specs.Traces.{events_of}
use Rattle.dstm_tl2.specs.declared.kind.Kind.{Kind}
use Rattle.dstm_tl2.specs.declared.kind.Kind.TheVariants.{Lock, WriteLow, WriteHigh, Unlock}
use Rattle.dstm_tl2.specs.Rules.{Event}
use Rattle.dstm_tl2.specs.Runs.{local}
use Rattle.dstm_tl2.specs.State.{LocalState}
use Rattle.dstm_tl2_order.specs.Calls.{answer_of}
use Rattle.dstm_tl2_order.specs.Ended.{Disturbed}
use Rattle.dstm_tl2_engine.specs.Callers.{TlCalled, begun_log, since_sample, state, table_of_caller}

abbrev pub is_lock : Kind → Bool
is_lock (Lock writes) = true
is_lock kind = false

-- it writes a part of a value
abbrev pub is_write : Kind → Bool
is_write WriteLow = true
is_write WriteHigh = true
is_write kind = false

-- the event locked object o
abbrev pub has_locked : ℕ → Event → Bool
has_locked o event = is_lock event.kind && ((event.place == o) && (event.found == event.expected))

-- the newest of some events at a place
abbrev pub last_at : ℕ → List Event → Option Event
last_at place [] = None
last_at place (event ∷ events) = if event.place == place then Some event else last_at place events

-- the event gave back the word that another one, a Lock, had expected
pub record GivesBack (lock event : Event) : Type 0 where
  pub unlocks : event.kind ≡ Unlock
  pub word : event.put ≡ lock.expected

module _ {L : Type 0} where
  -- the caller's own events in its last attempt, the newest first
  abbrev pub own_since : TlCalled L → List Event
  own_since k = events_of k.number (since_sample k.number k.log)

  -- of all that the attempt has locked nothing is locked any more: its last event on each lock that it held gave it its
  -- recorded word back
  pub record HasGivenBack (k : TlCalled L) : Type 0 where
    pub free : (state k).holds ≡ []
    pub last : (o : ℕ) (lock : Event) → Contains (own_since k) lock → has_locked o lock ≡ true →
        (event : Event) × (last_at o (own_since k) ≡ Some event) × GivesBack lock event

  -- the caller as its last attempt began
  abbrev pub begun_state : TlCalled L → LocalState
  begun_state k = local (table_of_caller k) (begun_log k.number k.log) k.number

  -- What is known of a caller whose attempt was left: why is what its own events in the attempt answer; it was disturbed,
  -- it has given back what it had locked, it has written nothing, and the table has another caller.
  pub record IsLeft (n : TlCalled L) : Type 0 where
    pub cause : n.left ≡ answer_of (table_of_caller n) (begun_state n) (own_since n)
    pub disturbed : Disturbed (table_of_caller n) n.log n.number (state n).begun
    pub given_back : HasGivenBack n
    pub unwritten : All (λ (event : Event). is_write event.kind ≡ false) (own_since n)
    pub others : 1 < (table_of_caller n).callers
