-- A commit is a call that locks, and then one that finishes.
use Rattle.std.proofs.Common.{◌≡◌, ◌==◌, ℕ, List, [], ◌∷◌, ◌++◌, ◌∙◌, refl, ap, sym, subst, true, false, Bool, Option, Some, None, length, append_assoc, eq-eqb}
use Rattle.std.specs.List.{All}
use Rattle.std.specs.Prelude.{◌||◌, is_some, if◌then◌else◌}
use Rattle.std.specs.Option.{option_or}
use Rattle.std.proofs.lemmas.List.Elements.{All-cons, All-head, All-nil}
use Rattle.dstm_tl2_engine.proofs.Base.{Check, Committing, Doing, Done, Draw, Enrol, Event, Finishing, Home, IsCall, IsDue, IsRunOf, Just, Kind, LocalState, Lock, Locking, LookAgain, LookHigh, LookLock, LookLow, Obeys, Sample, Table, Task, TlAgain, Unlock, Val, Work, WriteHigh, WriteLow, after, answer_of, draws, due_after, events_of, fails, in_giving_back, in_locking, local, locks, newest_of, next, next_or_first, state_after, table_of, tl2, value_in, when_locked}
use Rattle.dstm_machines.proofs.Pasts.{past_past}
use Rattle.dstm_tl2_engine.specs.Attempts.{Commits, done}
use Rattle.dstm_tl2_engine.specs.Callers.{TlCalled, handed, held, is_opened, state, table_of_caller, written}
use Rattle.dstm_tl2_engine.specs.Calls.{Performs}
use Rattle.dstm_tl2_engine.specs.Transactions.{HasLocked, Leaves, Stays}
use Rattle.dstm_tl2_order.proofs.Causing.{causes_of}
use Rattle.dstm_machines.proofs.Own.{after_own}
use Rattle.dstm_tl2_engine.proofs.Working.{are_closing, are_finishing, closing_keeps, is_closing, is_finishing, step_keeps}

-- ---- the events of two calls, one behind the other

state_both : (t : Table) (l : LocalState) (es fs : List Event) →
    state_after t l (es ++ fs) ≡ state_after t (state_after t l fs) es
state_both t l [] fs = refl
state_both t l (e ∷ es) fs = ap (λ m. after e.kind t m e) (state_both t l es fs)

answer_both : (t : Table) (l : LocalState) (es fs : List Event) → answer_of t l fs ≡ None →
    answer_of t l (es ++ fs) ≡ answer_of t (state_after t l fs) es
answer_both t l [] fs none = none
answer_both t l (e ∷ es) fs none = rw (state_both t l es fs, answer_both t l es fs none) refl

-- ---- the rows differ once all is locked

-- what is due in a call that ends there is due in a commit
module _ (work : Work) (ends : when_locked work ≡ Done) (writes : List (ℕ × Val)) (t : Table) (e : Event) where
  more_locking : (ws : List (ℕ × Val)) (l : LocalState) → IsDue t (in_locking ws work l) e →
      IsDue t (in_locking ws (Committing writes) l) e
  more_locking ws l = by (l.locked == length ws)
    where
      by : (b : Bool) → IsDue t (if b then when_locked work else Just (locks ws)) e →
          IsDue t (if b then when_locked (Committing writes) else Just (locks ws)) e
      by true h = absurd (subst (λ d. IsDue t d e) ends h)
      by false h = h

  more_next : (kind : Kind) (newest : Event) (l : LocalState) → IsDue t (next kind newest work l) e →
      IsDue t (next kind newest (Committing writes) l) e
  more_next (Lock ws) newest l = by l.failed
    where
      by : (b : Bool) → IsDue t (if b then in_giving_back l.holds else in_locking ws.value work l) e →
          IsDue t (if b then in_giving_back l.holds else in_locking ws.value (Committing writes) l) e
      by true h = h
      by false h = more_locking ws.value l h
  more_next Enrol newest l = λ h. h
  more_next Sample newest l = λ h. h
  more_next LookLock newest l = λ h. h
  more_next LookLow newest l = λ h. h
  more_next LookHigh newest l = λ h. h
  more_next LookAgain newest l = λ h. h
  more_next (Draw ws) newest l = λ h. h
  more_next Check newest l = λ h. h
  more_next WriteLow newest l = λ h. h
  more_next WriteHigh newest l = λ h. h
  more_next Unlock newest l = λ h. h

-- ---- the locks

-- the events of a call that locks are those of a commit
locks_more : (writes : List (ℕ × Val)) (t : Table) (l : LocalState) (es : List Event) →
    Obeys (Doing (Locking writes)) t l es → Obeys (Doing (Committing writes)) t l es
locks_more writes t l [] o = tt
locks_more writes t l (e ∷ es) o = (locks_more writes t l es o.0, by es (state_after t l es) o.1)
  where
    by : (es : List Event) (m : LocalState) → IsDue t (next_or_first (newest_of es) (Locking writes) m) e →
        IsDue t (next_or_first (newest_of es) (Committing writes) m) e
    by [] m h = more_locking (Locking writes) refl writes t e writes m h
    by (newest ∷ es) m h = more_next (Locking writes) refl writes t e newest.kind newest m h

neither : (a b c : Bool) → a ≡ (b || c) → a ≡ false → b ≡ false
neither a true c q r = absurd (cc)
neither a false c q r = refl

-- and where the attempt has not failed, these are locks
only_locks : (writes : List (ℕ × Val)) (t : Table) (l : LocalState) (es : List Event) →
    Obeys (Doing (Locking writes)) t l es → (state_after t l es).failed ≡ false →
    All (λ (e : Event). e.kind ≡ locks writes) es
only_locks writes t l [] o sound = All-nil (λ (e : Event). e.kind ≡ locks writes)
only_locks writes t l (e ∷ es) o sound =
    let closing : is_closing e.kind ≡ true =
    All-head (λ (e : Event). is_closing e.kind ≡ true) e es (are_closing (Locking writes) t l (e ∷ es) refl o) in
    let before : (state_after t l es).failed ≡ false =
    neither (state_after t l (e ∷ es)).failed (state_after t l es).failed (fails e.kind (state_after t l es) e)
    (step_keeps e.kind t (state_after t l es) e closing).failed sound in
    let all : All (λ (e : Event). e.kind ≡ locks writes) es = only_locks writes t l es o.0 before in
    All-cons (λ (e : Event). e.kind ≡ locks writes) e es (by es all (state_after t l es) before o.1) all
  where
    one : (m : LocalState) → IsDue t (in_locking writes (Locking writes) m) e → e.kind ≡ locks writes
    one m = go (m.locked == length writes)
      where
        go : (b : Bool) → IsDue t (if b then Done else Just (locks writes)) e → e.kind ≡ locks writes
        go true h = absurd h
        go false h = h

    by : (es : List Event) → All (λ (e : Event). e.kind ≡ locks writes) es → (m : LocalState) → m.failed ≡ false →
        IsDue t (next_or_first (newest_of es) (Locking writes) m) e → e.kind ≡ locks writes
    by [] all m sound h = one m h
    by (newest ∷ es) all m sound h =
        let row : IsDue t (if m.failed then in_giving_back m.holds else in_locking writes (Locking writes) m) e =
        subst (λ kind. IsDue t (next kind newest (Locking writes) m) e)
        (All-head (λ (e : Event). e.kind ≡ locks writes) newest es all) h in
        one m (subst (λ b. IsDue t (if b then in_giving_back m.holds else in_locking writes (Locking writes) m) e)
        sound row)

-- so a commit draws its number then
draws_then : (writes : List (ℕ × Val)) (t : Table) (l : LocalState) (es : List Event) →
    Obeys (Doing (Locking writes)) t l es → (state_after t l es).failed ≡ false →
    (state_after t l es).locked ≡ length writes → due_after (Doing (Committing writes)) t l es ≡ Just (draws writes)
draws_then writes t l es o sound count = by es (only_locks writes t l es o sound) (state_after t l es) sound count
  where
    row : (m : LocalState) → m.locked ≡ length writes → in_locking writes (Committing writes) m ≡ Just (draws writes)
    row m count =
        ap (λ b. if b then Just (draws writes) else Just (locks writes)) (eq-eqb m.locked (length writes) count)

    by : (es : List Event) → All (λ (e : Event). e.kind ≡ locks writes) es → (m : LocalState) → m.failed ≡ false →
        m.locked ≡ length writes → next_or_first (newest_of es) (Committing writes) m ≡ Just (draws writes)
    by [] all m sound count = row m count
    by (newest ∷ es) all m sound count =
        ap (λ kind. next kind newest (Committing writes) m)
        (All-head (λ (e : Event). e.kind ≡ locks writes) newest es all)
        ∙ ap (λ b. if b then in_giving_back m.holds else in_locking writes (Committing writes) m) sound
        ∙ row m count

-- ---- what follows

-- the events of a call that finishes are those of a commit behind the locks
finishes_more : (writes : List (ℕ × Val)) (t : Table) (l : LocalState) (es fs : List Event) →
    Obeys (Doing (Committing writes)) t l fs → due_after (Doing (Committing writes)) t l fs ≡ Just (draws writes) →
    Obeys (Doing (Finishing writes)) t (state_after t l fs) es → Obeys (Doing (Committing writes)) t l (es ++ fs)
finishes_more writes t l [] fs o draws_next p = o
finishes_more writes t l (e ∷ es) fs o draws_next p = (finishes_more writes t l es fs o draws_next p.0, by es p.1)
  where
    by : (es : List Event) →
        IsDue t (due_after (Doing (Finishing writes)) t (state_after t l fs) es) e →
        IsDue t (due_after (Doing (Committing writes)) t l (es ++ fs)) e
    by [] h = subst (λ d. IsDue t d e) (sym draws_next) h
    by (newest ∷ es) h =
        more_next (Finishing writes) refl writes t e newest.kind newest (state_after t l (newest ∷ es ++ fs))
        (subst (λ m. IsDue t (next newest.kind newest (Finishing writes) m) e)
        (sym (state_both t l (newest ∷ es) fs)) h)

same_finishing : (kind : Kind) (newest : Event) (writes : List (ℕ × Val)) (l : LocalState) → is_finishing kind ≡ true →
    next kind newest (Committing writes) l ≡ next kind newest (Finishing writes) l
same_finishing (Lock ws) newest writes l is = absurd (cc)
same_finishing kind newest writes l is = refl

-- and it ends as a commit does
finishes_done : (writes : List (ℕ × Val)) (t : Table) (l : LocalState) (es fs : List Event) →
    All (λ (e : Event). is_finishing e.kind ≡ true) es →
    due_after (Doing (Finishing writes)) t (state_after t l fs) es ≡ Done →
    due_after (Doing (Committing writes)) t l (es ++ fs) ≡ Done
finishes_done writes t l [] fs all done = absurd (cc)
finishes_done writes t l (newest ∷ es) fs all done =
    same_finishing newest.kind newest writes (state_after t l (newest ∷ es ++ fs))
    (All-head (λ (e : Event). is_finishing e.kind ≡ true) newest es all)
    ∙ ap (next newest.kind newest (Finishing writes)) (state_both t l (newest ∷ es) fs) ∙ done

same_failed : (kind : Kind) (newest : Event) (writes : List (ℕ × Val)) (l : LocalState) → l.failed ≡ true →
    next kind newest (Committing writes) l ≡ next kind newest (Locking writes) l
same_failed (Lock ws) newest writes l failed =
    ap (λ b. if b then in_giving_back l.holds else in_locking ws.value (Committing writes) l) failed
    ∙ ap (λ b. if b then in_giving_back l.holds else in_locking ws.value (Locking writes) l) (sym failed)
same_failed kind newest writes l failed = refl

-- so does a call that locks, where a lock has failed
locks_done : (writes : List (ℕ × Val)) (t : Table) (l : LocalState) (es : List Event) (again : TlAgain) →
    (state_after t l es).failed ≡ true → Some again ≡ answer_of t l es →
    due_after (Doing (Locking writes)) t l es ≡ Done → due_after (Doing (Committing writes)) t l es ≡ Done
locks_done writes t l [] again failed answer done = absurd (cc)
locks_done writes t l (newest ∷ es) again failed answer done =
    same_failed newest.kind newest writes (state_after t l (newest ∷ es)) failed ∙ done

-- ---- of a caller

module _ {L : Type 0} {holds : L → List Val → Type 0} where
  -- the events of a call make the state after it
  pub state_by : {k n : TlCalled L} {task : Task} {again : Option TlAgain} → (p : Performs holds task k n again) →
      state n ≡ state_after (table_of_caller k) (state k) p.events
  state_by {k = k} {n = n} p =
      ap (λ (h : Home L). local (table_of h.terms) n.log n.number) p.same.0
      ∙ ap (local (table_of_caller k) n.log) p.same.1
      ∙ after_own tl2 (table_of_caller k) k.number n.log k.log p.events p.own

  -- A COMMIT LOCKS, AND THEN IT FINISHES.
  pub both : {k m n : TlCalled L} (writes : List (ℕ × Val)) {again : Option TlAgain} →
      Performs holds (Doing (Locking writes)) k m None → (state m).failed ≡ false →
      (state m).locked ≡ length writes → Performs holds (Doing (Finishing writes)) m n again →
      Performs holds (Doing (Committing writes)) k n again
  both {k = k} {m = m} {n = n} writes {again = again} p sound count q =
      let t : Table = table_of_caller k in
      let is : state m ≡ state_after t (state k) p.events = state_by p in
      let call : IsCall (Doing (Finishing writes)) t (state_after t (state k) p.events) q.events =
      subst (λ l. IsCall (Doing (Finishing writes)) t l q.events) is
      (subst (λ (h : Home L). IsCall (Doing (Finishing writes)) (table_of h.terms) (state m) q.events) p.same.0
      q.call) in
      let answers : again ≡ answer_of t (state_after t (state k) p.events) q.events =
      q.answers ∙ ap (λ (h : Home L). answer_of (table_of h.terms) (state m) q.events) p.same.0
      ∙ ap (λ l. answer_of t l q.events) is in
      record {
        acts = record {
          events = q.events ++ p.events;
          own = ap (λ c. events_of c n.log) (sym p.same.1) ∙ q.own
              ∙ ap (λ c. q.events ++ events_of c m.log) p.same.1 ∙ ap (λ es. q.events ++ es) p.own
              ∙ sym (append_assoc q.events p.events (events_of k.number k.log));
          call = record {
            obeys = finishes_more writes t (state k) q.events p.events
                (locks_more writes t (state k) p.events p.call.obeys) (draws_then writes t (state k) p.events p.call.obeys
                (ap (λ (l : LocalState). l.failed) (sym is) ∙ sound)
                (ap (λ (l : LocalState). l.locked) (sym is) ∙ count)) call.obeys;
            done = finishes_done writes t (state k) q.events p.events
                (are_finishing writes t (state_after t (state k) p.events) q.events call.obeys) call.done;
          };
          answers = answers ∙ sym (answer_both t (state k) q.events p.events (sym p.answers));
          seen = past_past k.log m.log n.log p.seen q.seen;
          run = subst (λ (h : Home L). IsRunOf holds h.terms n.log) p.same.0 q.run;
        };
        same = (q.same.0 ∙ p.same.0, q.same.1 ∙ p.same.1);
      }

  -- and where a lock has failed it ends.
  pub ends_locking : {k n : TlCalled L} (writes : List (ℕ × Val)) {again : TlAgain} → (state k).failed ≡ false →
      Performs holds (Doing (Locking writes)) k n (Some again) →
      Performs holds (Doing (Committing writes)) k n (Some again)
  ends_locking {k = k} writes {again = again} sound p =
      let t : Table = table_of_caller k in
      let kept = closing_keeps t (state k) p.events
      (are_closing (Locking writes) t (state k) p.events refl p.call.obeys) in
      let failed : (state_after t (state k) p.events).failed ≡ true =
      kept.failed ∙ ap (λ b. b || is_some (answer_of t (state k) p.events)) sound ∙ ap is_some (sym p.answers) in
      record {
        acts = record {
          events = p.events;
          own = p.own;
          call = record {
            obeys = locks_more writes t (state k) p.events p.call.obeys;
            done = locks_done writes t (state k) p.events again failed p.answers p.call.done;
          };
          answers = p.answers;
          seen = p.seen;
          run = p.run;
        };
        same = p.same;
      }

  -- ---- what a commit says, from what its two calls say

  -- a call that locks keeps the reads
  pub held_kept : {k m : TlCalled L} (writes : List (ℕ × Val)) {again : Option TlAgain} →
      Performs holds (Doing (Locking writes)) k m again → (o : ℕ) → held m o ≡ held k o
  held_kept {k = k} writes p o =
      rw (
        state_by p,
        (closing_keeps (table_of_caller k) (state k) p.events
            (are_closing (Locking writes) (table_of_caller k) (state k) p.events refl p.call.obeys)).reads,
      ) refl

  pub commit_lost : {k n : TlCalled L} {again : TlAgain} → (state k).failed ≡ false →
      Leaves holds (Locking k.writes) k n again → Leaves holds (Committing k.writes) k n again
  commit_lost {k = k} {again = again} sound x =
      let steps = ends_locking k.writes sound x.steps in
      record {
        steps = steps;
        cause = causes_of (table_of_caller k) (state k) steps.events again (sym steps.answers);
        left = x.left;
        attempt = x.attempt;
        done = x.done;
      }

  module _ {k m : TlCalled L} (kept : m ≡ record k { log = m.log; left = None })
      (locks_stay : Stays holds (Locking k.writes) k m) (locked : HasLocked m) (same_done : done m ≡ done k) where
    same_writes : m.writes ≡ k.writes
    same_writes = ap (λ (x : TlCalled L). x.writes) kept

    commits_by : {n : TlCalled L} {again : Option TlAgain} →
        Performs holds (Doing (Finishing m.writes)) m n again → Performs holds (Doing (Committing k.writes)) k n again
    commits_by {n = n} {again = again} p =
        both k.writes locks_stay.steps locked.sound.0 (locked.locked ∙ ap length same_writes)
        (subst (λ ws. Performs holds (Doing (Finishing ws)) m n again) same_writes p)

    pub commit_stays : {n : TlCalled L} → Stays holds (Finishing m.writes) m n → Stays holds (Committing k.writes) k n
    commit_stays x = record { steps = commits_by x.steps; attempt = x.attempt ∙ locks_stay.attempt }

    pub commit_leaves : (n : TlCalled L) (again : TlAgain) → Leaves holds (Finishing m.writes) m n again →
        Leaves holds (Committing k.writes) k n again
    commit_leaves n again x =
        let steps = commits_by x.steps in
        record {
          steps = steps;
          cause = causes_of (table_of_caller k) (state k) steps.events again (sym steps.answers);
          left = x.left;
          attempt = x.attempt ∙ locks_stay.attempt;
          done = x.done ∙ same_done;
        }

    pub commit_commits : (n : TlCalled L) (number : ℕ) → Commits m n number → Commits k n number
    commit_commits n number x = record {
      valid = x.valid;
      drawn = x.drawn;
      free = x.free;
      entry = x.entry;
      done = x.done
          ∙ ap (λ c. record { caller = c; number = number; entry = x.entry } ∷ done m)
          (ap (λ (y : TlCalled L). y.number) kept)
          ∙ ap (λ xs. record { caller = k.number; number = number; entry = x.entry } ∷ xs) same_done;
      reads = λ o. x.reads o ∙ same_held o;
      writes = λ o. x.writes o
          ∙ ap (λ w. if is_some w then handed m o else None) (ap (λ ws. value_in ws o) same_writes)
          ∙ ap (λ h. if is_opened k o then h else None) (same_handed o);
      only = λ o shut.
          ap (λ (y : TlCalled L). written y o) (sym kept)
          ∙ x.only o (ap (λ ws. is_some (value_in ws o)) same_writes ∙ shut);
    }
      where
        same_held : (o : ℕ) → held m o ≡ held k o
        same_held o = held_kept k.writes locks_stay.steps o

        same_handed : (o : ℕ) → handed m o ≡ handed k o
        same_handed o =
            ap (λ (y : TlCalled L). option_or (written y o) (held m o)) kept
            ∙ ap (option_or (written k o)) (same_held o)
