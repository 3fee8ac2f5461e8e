-- The events of a call that locks or commits.
use Rattle.std.proofs.Common.{◌≡◌, ◌==◌, ◌∙◌, ◌∷◌, ◌++◌, ℕ, Bool, List, [], Option, None, Some, ap, false, refl, subst, true}
use Rattle.std.specs.declared.snapshot.Snapshot.{Snapshot}
use Rattle.std.specs.List.{All}
use Rattle.std.specs.Prelude.{◌||◌, not, is_some, if◌then◌else◌}
use Rattle.std.proofs.lemmas.Bool.{cond_both}
use Rattle.std.proofs.lemmas.List.Elements.{All-head, All-tail}
use Rattle.dstm_tl2_engine.proofs.Base.{Check, Committing, Doing, Draw, Enrol, Event, Finishing, Kind, LocalState, Lock, Locking, LookAgain, LookHigh, LookLock, LookLow, NamesOnce, Obeys, Opening, Sample, Table, TlAgain, Unlock, Val, Work, WriteHigh, WriteLow, after, answer_of, at_first, cause, draws, fails, in_checking, in_giving_back, in_locking, in_writing_back, lock, locks, next, or_zero, state_after, when_locked, writes_of}
use Rattle.dstm_tl2_engine.proofs.CallKinds.{Dues, checking, each_due, giving_back, is_plain, locking, writing_back}

-- ---- what such a call makes

-- an event that commits or gives back, once all is locked
abbrev pub is_finishing : Kind → Bool
is_finishing (Draw writes) = true
is_finishing kind = is_plain kind

-- one of these, or a lock
abbrev pub is_closing : Kind → Bool
is_closing (Lock writes) = true
is_closing kind = is_finishing kind

-- the call locks or commits
abbrev pub closes : Work → Bool
closes (Opening object) = false
closes work = true

-- one of the events of a call
pub one_is : (P : Kind → Type 0) (later : List Event) (event : Event) (early : List Event) →
    All (λ (e : Event). P e.kind) (later ++ event ∷ early) → P event.kind
one_is P [] event early all = All-head (λ (e : Event). P e.kind) event early all
one_is P (newer ∷ later) event early all =
    one_is P later event early (All-tail (λ (e : Event). P e.kind) newer (later ++ event ∷ early) all)

-- the rows of a call that locks or commits
module _ (P : Kind → Type 0) (plain : (kind : Kind) → is_plain kind ≡ true → P kind)
    (closing : (kind : Kind) → P kind → is_closing kind ≡ true)
    (again : (writes : Snapshot (List (ℕ × Val))) → P (Lock writes) → P (locks writes.value)) (work : Work)
    (drawn : Dues P (when_locked work)) where
  gives : (l : LocalState) → Dues P (in_giving_back l.holds)
  gives l = giving_back P (plain Unlock refl) l.holds

  writes_back : (l : LocalState) → Dues P (in_writing_back (or_zero l.drawn) l.holds)
  writes_back l =
      writing_back P (plain WriteLow refl) (plain WriteHigh refl) (plain Unlock refl) (or_zero l.drawn) l.holds

  checks : (l : LocalState) → Dues P (in_checking l)
  checks l = checking P (plain Check refl) (plain WriteLow refl) (plain WriteHigh refl) (plain Unlock refl) l

  following : (kind : Kind) (newest : Event) (l : LocalState) → P kind → Dues P (next kind newest work l)
  following (Lock writes) newest l p =
      cond_both l.failed (in_giving_back l.holds) (in_locking writes.value work l) (Dues P) (λ _. gives l)
      (λ _. locking P writes.value work l (again writes p) drawn)
  following (Draw writes) newest l p = checks l
  following Check newest l p =
      cond_both l.failed (in_giving_back l.holds) (in_checking l) (Dues P) (λ _. gives l) (λ _. checks l)
  following WriteLow newest l p = writes_back l
  following WriteHigh newest l p = writes_back l
  following Unlock newest l p =
      cond_both l.failed (in_giving_back l.holds) (in_writing_back (or_zero l.drawn) l.holds) (Dues P)
      (λ _. gives l) (λ _. writes_back l)
  following Enrol newest l p = absurd (let x = closing Enrol p in cc)
  following Sample newest l p = absurd (let x = closing Sample p in cc)
  following LookLock newest l p = absurd (let x = closing LookLock p in cc)
  following LookLow newest l p = absurd (let x = closing LookLow p in cc)
  following LookHigh newest l p = absurd (let x = closing LookHigh p in cc)
  following LookAgain newest l p = absurd (let x = closing LookAgain p in cc)

  -- Every event of a call is of such a kind, where the first one is.
  every : ((l : LocalState) → Dues P (at_first work l)) → (table : Table) (l : LocalState) (events : List Event) →
      Obeys (Doing work) table l events → All (λ (e : Event). P e.kind) events
  every first table = each_due P (Doing work) table first (λ e l p. following e.kind e l p)

-- ---- the events of a call by their kinds

abbrev pub IsClosing : Kind → Type 0
IsClosing kind = is_closing kind ≡ true

abbrev pub IsFinishing : Kind → Type 0
IsFinishing kind = is_finishing kind ≡ true

-- one that tells writes tells such that name each object once
abbrev pub TellsOnce : ℕ → Kind → Type 0
TellsOnce n kind = (is_closing kind ≡ true) × NamesOnce n (writes_of kind)

plain_finishes : (kind : Kind) → is_plain kind ≡ true → is_finishing kind ≡ true
plain_finishes (Draw writes) is = refl
plain_finishes kind is = is

pub finishing_closes : (kind : Kind) → is_finishing kind ≡ true → is_closing kind ≡ true
finishing_closes (Lock writes) is = refl
finishing_closes kind is = is

plain_closes : (kind : Kind) → is_plain kind ≡ true → is_closing kind ≡ true
plain_closes kind is = finishing_closes kind (plain_finishes kind is)

plain_tells : (n : ℕ) (kind : Kind) → is_plain kind ≡ true → TellsOnce n kind
plain_tells n (Lock writes) is = absurd (cc)
plain_tells n (Draw writes) is = absurd (cc)
plain_tells n kind is = (plain_closes kind is, tt)

-- what is due once all is locked, by what a commit does then
locked : (P : Kind → Type 0) (work : Work) →
    ((writes : List (ℕ × Val)) → work ≡ Committing writes → P (draws writes)) → Dues P (when_locked work)
locked P (Committing writes) draw = draw writes refl
locked P (Locking writes) draw = tt
locked P (Finishing writes) draw = tt
locked P (Opening object) draw = tt

-- EVERY EVENT OF A CALL THAT LOCKS OR COMMITS closes its attempt.
pub are_closing : (work : Work) (table : Table) (l : LocalState) (events : List Event) → closes work ≡ true →
    Obeys (Doing work) table l events → All (λ (e : Event). IsClosing e.kind) events
are_closing work table l events is =
    every IsClosing plain_closes (λ kind p. p) (λ writes p. refl) work (locked IsClosing work (λ writes q. refl))
    (λ l. first work is l) table l events
  where
    first : (work : Work) → closes work ≡ true → (l : LocalState) → Dues IsClosing (at_first work l)
    first (Locking writes) is l = locking IsClosing writes (Locking writes) l refl tt
    first (Committing writes) is l = locking IsClosing writes (Committing writes) l refl refl
    first (Finishing writes) is l = refl
    first (Opening object) is l = absurd (cc)

-- A call that finishes makes no lock.
pub are_finishing : (writes : List (ℕ × Val)) (table : Table) (l : LocalState) (events : List Event) →
    Obeys (Doing (Finishing writes)) table l events → All (λ (e : Event). IsFinishing e.kind) events
are_finishing writes =
    every IsFinishing plain_finishes finishing_closes (λ w p. absurd (cc)) (Finishing writes) tt (λ l. refl)

-- what a call is to write
abbrev pub works_on : Work → List (ℕ × Val)
works_on (Opening object) = []
works_on (Locking writes) = writes
works_on (Finishing writes) = writes
works_on (Committing writes) = writes

-- Where what it is to write names each object once, so does what its events tell.
pub tell_once : (n : ℕ) (work : Work) (table : Table) (l : LocalState) (events : List Event) → closes work ≡ true →
    NamesOnce n (works_on work) → Obeys (Doing work) table l events → All (λ (e : Event). TellsOnce n e.kind) events
tell_once n work table l events is once =
    every (TellsOnce n) (plain_tells n) (λ kind p. p.0) (λ writes p. (refl, p.1)) work
    (locked (TellsOnce n) work (λ writes q. (refl, subst (λ w. NamesOnce n (works_on w)) q once)))
    (λ l. first work is once l) table l events
  where
    first : (work : Work) → closes work ≡ true → NamesOnce n (works_on work) → (l : LocalState) →
        Dues (TellsOnce n) (at_first work l)
    first (Locking writes) is once l = locking (TellsOnce n) writes (Locking writes) l (refl, once) tt
    first (Committing writes) is once l = locking (TellsOnce n) writes (Committing writes) l (refl, once) (refl, once)
    first (Finishing writes) is once l = (refl, once)
    first (Opening object) is once l = absurd (cc)

-- ---- what they keep

-- The attempt keeps its reads, and an event that ends it makes it fail.
pub record KeptBy (state new : LocalState) (ended : Bool) : Type 0 where
  pub begun : new.begun ≡ state.begun
  pub reads : new.reads ≡ state.reads
  pub failed : new.failed ≡ (state.failed || ended)

or_false : (b : Bool) → b ≡ (b || false)
or_false true = refl
or_false false = refl

or_true : (b : Bool) → true ≡ (b || true)
or_true true = refl
or_true false = refl

pub step_keeps : (kind : Kind) (table : Table) (state : LocalState) (event : Event) → is_closing kind ≡ true →
    KeptBy state (after kind table state event) (fails kind state event)
step_keeps (Lock writes) table state event is = by (event.found == event.expected)
  where
    by : (b : Bool) →
        KeptBy state (if b then lock state writes.value
        else record state { look = None; writes = Some writes.value; failed = true }) (not b)
    by true = record { begun = refl; reads = refl; failed = or_false state.failed }
    by false = record { begun = refl; reads = refl; failed = or_true state.failed }
step_keeps (Draw writes) table state event is =
    record { begun = refl; reads = refl; failed = or_false state.failed }
step_keeps Check table state event is = record { begun = refl; reads = refl; failed = refl }
step_keeps WriteLow table state event is = record { begun = refl; reads = refl; failed = or_false state.failed }
step_keeps WriteHigh table state event is = record { begun = refl; reads = refl; failed = or_false state.failed }
step_keeps Unlock table state event is = record { begun = refl; reads = refl; failed = or_false state.failed }
step_keeps Enrol table state event is = absurd (cc)
step_keeps Sample table state event is = absurd (cc)
step_keeps LookLock table state event is = absurd (cc)
step_keeps LookLow table state event is = absurd (cc)
step_keeps LookHigh table state event is = absurd (cc)
step_keeps LookAgain table state event is = absurd (cc)

more_ended : (failed ends : Bool) (again : TlAgain) (answer : Option TlAgain) →
    ((failed || is_some answer) || ends) ≡ (failed || is_some (if ends then Some again else answer))
more_ended true ends again answer = refl
more_ended false true again None = refl
more_ended false true again (Some other) = refl
more_ended false false again None = refl
more_ended false false again (Some other) = refl

-- WHAT A CALL THAT LOCKS OR COMMITS KEEPS of its attempt; the attempt has failed exactly where the call answers why.
pub closing_keeps : (table : Table) (state : LocalState) (events : List Event) →
    All (λ (e : Event). IsClosing e.kind) events →
    KeptBy state (state_after table state events) (is_some (answer_of table state events))
closing_keeps table state [] a = record { begun = refl; reads = refl; failed = or_false state.failed }
closing_keeps table state (event ∷ events) a =
    let before = closing_keeps table state events (All-tail (λ (e : Event). IsClosing e.kind) event events a) in
    let step = step_keeps event.kind table (state_after table state events) event
    (All-head (λ (e : Event). IsClosing e.kind) event events a) in
    record {
      begun = step.begun ∙ before.begun;
      reads = step.reads ∙ before.reads;
      failed = step.failed
          ∙ ap (λ b. b || fails event.kind (state_after table state events) event) before.failed
          ∙ more_ended state.failed (fails event.kind (state_after table state events) event) (cause event)
          (answer_of table state events);
    }
