-- Of which kinds the events of a call are, by what it is to do.
use Rattle.std.proofs.Common.{◌≡◌, ◌==◌, ◌∷◌, ℕ, List, [], refl, sym, subst, true, false, Bool, Option, Some, None, is_some, length}
use Rattle.std.specs.List.{All}
use Rattle.std.specs.Prelude.{not}
use Rattle.std.proofs.lemmas.Bool.{cond_both}
use Rattle.std.proofs.lemmas.List.Elements.{All-cons, All-head, All-nil, All-weaker}
use Rattle.dstm_tl2_engine.proofs.Base.{Beginning, Check, Committing, Doing, Done, Draw, Due, Enrol, Enrolling, Event, Finishing, FreeAs, Hold, IsDue, Just, Kind, LocalState, Lock, Locking, LookAgain, LookAt, LookHigh, LookLock, LookLow, Obeys, Opening, PutHigh, PutLow, Returning, Sample, Table, Task, Unlock, Val, Work, WriteHigh, WriteLow, at_first, due, due_after, has_sampled, in_checking, in_giving_back, in_locking, in_writing_back, is_readable, is_sample, is_spent, locks, next, or_zero, state_after, to_check, when_locked}
use Rattle.dstm_tl2_order.specs.Calls.{is_look_lock}
use Rattle.dstm_tl2_engine.specs.Outcomes.{is_write}
use Rattle.dstm_tl2.proofs.Done.{NoCommits, NoSamples, may_commit}

-- ---- what is due

-- what holds of the kind of the event that is due
abbrev pub Dues : (Kind → Type 0) → Due → Type 0
Dues P (Just kind) = P kind
Dues P (LookAt object) = P LookLock
Dues P (PutLow object) = P WriteLow
Dues P (PutHigh object) = P WriteHigh
Dues P (FreeAs object word) = P Unlock
Dues P Done = Unit {0}

of_due : (P : Kind → Type 0) (t : Table) (d : Due) (e : Event) → Dues P d → IsDue t d e → P e.kind
of_due P t (Just kind) e h i = subst P (sym i) h
of_due P t (LookAt object) e h i = subst P (sym i.0) h
of_due P t (PutLow object) e h i = subst P (sym i.0) h
of_due P t (PutHigh object) e h i = subst P (sym i.0) h
of_due P t (FreeAs object word) e h i = subst P (sym i.0) h
of_due P t Done e h i = absurd i

-- What holds of what is due at first, and then after each event of which it holds, holds of each event of a call.
pub each_due : (P : Kind → Type 0) (task : Task) (t : Table) → ((l : LocalState) → Dues P (due task t None l)) →
    ((e : Event) (l : LocalState) → P e.kind → Dues P (due task t (Some e) l)) → (l : LocalState)
    (events : List Event) → Obeys task t l events → All (λ (e : Event). P e.kind) events
each_due P task t first more l [] h = All-nil (λ (e : Event). P e.kind)
each_due P task t first more l (e ∷ events) h =
    let earlier = each_due P task t first more l events h.0 in
    All-cons (λ (e : Event). P e.kind) e events
    (of_due P t (due_after task t l events) e (here events earlier) h.1) earlier
  where
    here : (events : List Event) → All (λ (e : Event). P e.kind) events → Dues P (due_after task t l events)
    here [] all = first l
    here (x ∷ xs) all = more x (state_after t l (x ∷ xs)) (All-head (λ (e : Event). P e.kind) x xs all)

module _ (P : Kind → Type 0) where
  pub giving_back : P Unlock → (holds : List Hold) → Dues P (in_giving_back holds)
  giving_back u [] = tt
  giving_back u (hold ∷ holds) = u

  pub writing_back : P WriteLow → P WriteHigh → P Unlock → (drawn : ℕ) (holds : List Hold) →
      Dues P (in_writing_back drawn holds)
  writing_back low high u drawn [] = tt
  writing_back low high u drawn (hold ∷ holds) =
      cond_both (not hold.low_put) (PutLow hold.object) _ (Dues P) (λ _. low)
      (λ _. cond_both (not hold.high_put) (PutHigh hold.object) _ (Dues P) (λ _. high) (λ _. u))

  pub checking : P Check → P WriteLow → P WriteHigh → P Unlock → (l : LocalState) → Dues P (in_checking l)
  checking check low high u l =
      cond_both (l.checked == length (to_check l)) (in_writing_back (or_zero l.drawn) l.holds) (Just Check) (Dues P)
      (λ _. writing_back low high u (or_zero l.drawn) l.holds) (λ _. check)

  pub locking : (writes : List (ℕ × Val)) (work : Work) (l : LocalState) → P (locks writes) →
      Dues P (when_locked work) → Dues P (in_locking writes work l)
  locking writes work l k rest =
      cond_both (l.locked == length writes) (when_locked work) (Just (locks writes)) (Dues P) (λ _. rest) (λ _. k)

  beginning : P Unlock → P Sample → (t : Table) (newest : Option Event) (l : LocalState) →
      Dues P (due Beginning t newest l)
  beginning u s t newest l =
      cond_both (has_sampled newest) Done _ (Dues P) (λ _. tt)
      (λ _. cond_both (not (length l.holds == 0)) (in_giving_back l.holds) _ (Dues P) (λ _. giving_back u l.holds)
      (λ _. cond_both (is_spent t l) Done (Just Sample) (Dues P) (λ _. tt) (λ _. s)))

  enrolling : P Enrol → (t : Table) (newest : Option Event) (l : LocalState) → Dues P (due Enrolling t newest l)
  enrolling k t newest l = cond_both (is_some l.number) Done (Just Enrol) (Dues P) (λ _. tt) (λ _. k)

-- ---- no Sample

-- only a call that begins an attempt samples
abbrev pub samples_in : Task → Bool
samples_in Beginning = true
samples_in task = false

abbrev Unsampled : Kind → Type 0
Unsampled k = is_sample k ≡ false

unsampled_locked : (work : Work) → Dues Unsampled (when_locked work)
unsampled_locked (Opening o) = tt
unsampled_locked (Locking writes) = tt
unsampled_locked (Finishing writes) = tt
unsampled_locked (Committing writes) = refl

unsampled_first : (work : Work) (l : LocalState) → Dues Unsampled (at_first work l)
unsampled_first (Opening o) l = refl
unsampled_first (Locking writes) l = locking Unsampled writes (Locking writes) l refl tt
unsampled_first (Finishing writes) l = refl
unsampled_first (Committing writes) l = locking Unsampled writes (Committing writes) l refl refl

unsampled_next : (k : Kind) (e : Event) (work : Work) (l : LocalState) → Dues Unsampled (next k e work l)
unsampled_next Enrol e work l = tt
unsampled_next Sample e work l = tt
unsampled_next LookLock e work l =
    cond_both (is_readable l.sample e.found) (Just LookLow) Done (Dues Unsampled) (λ _. refl) (λ _. tt)
unsampled_next LookLow e work l = refl
unsampled_next LookHigh e work l = refl
unsampled_next LookAgain e work l = tt
unsampled_next (Lock w) e work l =
    cond_both l.failed (in_giving_back l.holds) (in_locking w.value work l) (Dues Unsampled)
    (λ _. giving_back Unsampled refl l.holds) (λ _. locking Unsampled w.value work l refl (unsampled_locked work))
unsampled_next (Draw w) e work l = checking Unsampled refl refl refl refl l
unsampled_next Check e work l =
    cond_both l.failed (in_giving_back l.holds) (in_checking l) (Dues Unsampled)
    (λ _. giving_back Unsampled refl l.holds) (λ _. checking Unsampled refl refl refl refl l)
unsampled_next WriteLow e work l = writing_back Unsampled refl refl refl (or_zero l.drawn) l.holds
unsampled_next WriteHigh e work l = writing_back Unsampled refl refl refl (or_zero l.drawn) l.holds
unsampled_next Unlock e work l =
    cond_both l.failed (in_giving_back l.holds) (in_writing_back (or_zero l.drawn) l.holds) (Dues Unsampled)
    (λ _. giving_back Unsampled refl l.holds) (λ _. writing_back Unsampled refl refl refl (or_zero l.drawn) l.holds)

pub unsampled : (task : Task) (t : Table) (l : LocalState) (events : List Event) → samples_in task ≡ false →
    Obeys task t l events → NoSamples events
unsampled Enrolling t l events no_sample h =
    each_due Unsampled Enrolling t (λ l. enrolling Unsampled refl t None l)
    (λ e l _. enrolling Unsampled refl t (Some e) l) l events h
unsampled Beginning t l events no_sample h = absurd (cc)
unsampled Returning t l events no_sample h =
    each_due Unsampled Returning t (λ l. giving_back Unsampled refl l.holds)
    (λ e l _. giving_back Unsampled refl l.holds) l events h
unsampled (Doing work) t l events no_sample h =
    each_due Unsampled (Doing work) t (λ l. unsampled_first work l) (λ e l _. unsampled_next e.kind e work l) l events h

-- ---- no Draw and no Check

-- only a call that commits draws and checks
abbrev pub commits_in : Task → Bool
commits_in (Doing (Finishing writes)) = true
commits_in (Doing (Committing writes)) = true
commits_in task = false

abbrev Uncommitted : Kind → Type 0
Uncommitted k = may_commit k ≡ false

-- the kinds of the events of a call that opens an object, and of one that locks
abbrev pub is_look : Kind → Bool
is_look LookLow = true
is_look LookHigh = true
is_look LookAgain = true
is_look kind = is_look_lock kind

-- an event of these kinds tells nothing
abbrev pub is_plain : Kind → Bool
is_plain Check = true
is_plain Unlock = true
is_plain kind = is_write kind

abbrev pub is_locking : Kind → Bool
is_locking (Lock writes) = true
is_locking Check = false
is_locking kind = is_plain kind

abbrev Looking : Kind → Type 0
Looking k = is_look k ≡ true

abbrev InLocking : Kind → Type 0
InLocking k = is_locking k ≡ true

looking_quiet : (k : Kind) → is_look k ≡ true → may_commit k ≡ false
looking_quiet (Draw w) h = absurd (cc)
looking_quiet Check h = absurd (cc)
looking_quiet k h = refl

locking_quiet : (k : Kind) → is_locking k ≡ true → may_commit k ≡ false
locking_quiet (Draw w) h = absurd (cc)
locking_quiet Check h = absurd (cc)
locking_quiet k h = refl

opening_next : (k : Kind) (e : Event) (o : ℕ) (l : LocalState) → is_look k ≡ true →
    Dues Looking (next k e (Opening o) l)
opening_next LookLock e o l h =
    cond_both (is_readable l.sample e.found) (Just LookLow) Done (Dues Looking) (λ _. refl) (λ _. tt)
opening_next LookLow e o l h = refl
opening_next LookHigh e o l h = refl
opening_next LookAgain e o l h = tt
opening_next k e o l h = absurd (cc)

locking_next : (k : Kind) (e : Event) (writes : List (ℕ × Val)) (l : LocalState) → is_locking k ≡ true →
    Dues InLocking (next k e (Locking writes) l)
locking_next (Lock w) e writes l h =
    cond_both l.failed (in_giving_back l.holds) (in_locking w.value (Locking writes) l) (Dues InLocking)
    (λ _. giving_back InLocking refl l.holds) (λ _. locking InLocking w.value (Locking writes) l refl tt)
locking_next WriteLow e writes l h = writing_back InLocking refl refl refl (or_zero l.drawn) l.holds
locking_next WriteHigh e writes l h = writing_back InLocking refl refl refl (or_zero l.drawn) l.holds
locking_next Unlock e writes l h =
    cond_both l.failed (in_giving_back l.holds) (in_writing_back (or_zero l.drawn) l.holds) (Dues InLocking)
    (λ _. giving_back InLocking refl l.holds) (λ _. writing_back InLocking refl refl refl (or_zero l.drawn) l.holds)
locking_next k e writes l h = absurd (cc)

-- the events of a call that opens an object are its looks
pub opening_looks : (o : ℕ) (t : Table) (l : LocalState) (events : List Event) → Obeys (Doing (Opening o)) t l events →
    All (λ (e : Event). is_look e.kind ≡ true) events
opening_looks o t l events h =
    each_due Looking (Doing (Opening o)) t (λ l. refl) (λ e l k. opening_next e.kind e o l k) l events h

pub locking_locks : (writes : List (ℕ × Val)) (t : Table) (l : LocalState) (events : List Event) →
    Obeys (Doing (Locking writes)) t l events → All (λ (e : Event). is_locking e.kind ≡ true) events
locking_locks writes t l events h =
    each_due InLocking (Doing (Locking writes)) t (λ l. locking InLocking writes (Locking writes) l refl tt)
    (λ e l k. locking_next e.kind e writes l k) l events h

pub uncommitting : (task : Task) (t : Table) (l : LocalState) (events : List Event) → commits_in task ≡ false →
    Obeys task t l events → NoCommits events
uncommitting Enrolling t l events quiet h =
    each_due Uncommitted Enrolling t (λ l. enrolling Uncommitted refl t None l)
    (λ e l _. enrolling Uncommitted refl t (Some e) l) l events h
uncommitting Beginning t l events quiet h =
    each_due Uncommitted Beginning t (λ l. beginning Uncommitted refl refl t None l)
    (λ e l _. beginning Uncommitted refl refl t (Some e) l) l events h
uncommitting Returning t l events quiet h =
    each_due Uncommitted Returning t (λ l. giving_back Uncommitted refl l.holds)
    (λ e l _. giving_back Uncommitted refl l.holds) l events h
uncommitting (Doing (Opening o)) t l events quiet h =
    All-weaker (λ (e : Event). is_look e.kind ≡ true) (λ (e : Event). may_commit e.kind ≡ false)
    (λ e k. looking_quiet e.kind k) events (opening_looks o t l events h)
uncommitting (Doing (Locking writes)) t l events quiet h =
    All-weaker (λ (e : Event). is_locking e.kind ≡ true) (λ (e : Event). may_commit e.kind ≡ false)
    (λ e k. locking_quiet e.kind k) events (locking_locks writes t l events h)
uncommitting (Doing (Finishing writes)) t l events quiet h = absurd (cc)
uncommitting (Doing (Committing writes)) t l events quiet h = absurd (cc)
