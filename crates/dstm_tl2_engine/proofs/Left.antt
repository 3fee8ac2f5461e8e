-- What an attempt leaves that is left: it has given back what it had locked, and it has written nothing.
use Rattle.std.proofs.Common.{◌≡◌, ◌==◌, ◌<◌, ◌≤◌, ◌⊎◌, ◌∷◌, ◌++◌, ◌∙◌, ℕ, inl, inr, List, [], refl, ap, arith, sym, subst, true, false, Bool, Option, Some, None, is_some}
use Rattle.std.specs.List.{All, Contains}
use Rattle.std.specs.Prelude.{◌&&◌, ◌||◌}
use Rattle.std.proofs.lemmas.Bool.{and_from, and_left, and_parts, and_right, cases_Bool, cases_eq, cond_both, eq-eqb, eqb-true, ne_eqb, or_left, or_right}
use Rattle.std.proofs.lemmas.List.Elements.{All-cons, All-contains, All-nil, Contains-append_cases, Contains-push_cases}
use Rattle.dstm_tl2_engine.proofs.Base.{AllowedAs, Check, Draw, Enrol, Event, Hold, Kind, LocalState, Lock, LookAgain, LookHigh, LookLock, LookLow, MayUnlock, Read, Run, Sample, Table, Unlock, Val, WriteHigh, WriteLow, after, answer_of, events_of, high_object, hold_of, is_sample, is_valid, local, lock, look_of, low_object, marked, new_hold, next_write, objects, or_hold, record_read, recorded, tl2, with_high, with_low, without}
use Rattle.dstm_tl2.proofs.Foretelling.{valid_parts}
use Rattle.dstm_tl2.proofs.Holds.{hold_of-append, marked_other, marked_own, or_else, without_other, without_own}
use Rattle.dstm_tl2.proofs.Static.{Static, static}
use Rattle.dstm_tl2_order.specs.Ended.{Disturbed}
use Rattle.dstm_tl2_engine.specs.Callers.{TlCalled, since_sample, state, table_of_caller}
use Rattle.dstm_tl2_engine.specs.Outcomes.{GivesBack, HasGivenBack, IsLeft, begun_state, has_locked, is_lock, is_write, last_at, own_since}
use Rattle.dstm_machines.proofs.Attempts.{since_at, since_still}
use Rattle.dstm_machines.proofs.Own.{local_mine, local_others, own_first, own_other}
use Rattle.dstm_tl2.proofs.Done.{allowed_mine, failed_invalid, undrawn_invalid, untold_invalid}

-- ---- lists

-- an element of a list is its first one, or one of the rest
contains_cases : (y : Event) (xs : List Event) (x : Event) → Contains (y ∷ xs) x → (y ≡ x) ⊎ Contains xs x
contains_cases y xs x m = elim (Contains-append_cases (y ∷ []) xs x m) [
  | inl n ↦ one (Contains-push_cases [] y x n)
  | inr n ↦ inr n
]
  where
    one : Contains [] x ⊎ (y ≡ x) → (y ≡ x) ⊎ Contains xs x
    one (inl n) = absurd (let b = n.1 in omega arith)
    one (inr q) = inl q

-- a lock that is held stays held behind another one, and where it is changed
some_append : (o : ℕ) (hs ks : List Hold) → is_some (hold_of o hs) ≡ true → is_some (hold_of o (hs ++ ks)) ≡ true
some_append o hs ks h = ap is_some (hold_of-append o hs ks) ∙ go (hold_of o hs) h
  where
    go : (x : Option Hold) → is_some x ≡ true → is_some (or_else x (hold_of o ks)) ≡ true
    go None h = absurd (cc)
    go (Some k) h = refl

some_added : (o : ℕ) (hs : List Hold) (h : Hold) → h.object ≡ o → is_some (hold_of o (hs ++ h ∷ [])) ≡ true
some_added o hs h q = ap is_some (hold_of-append o hs (h ∷ [])) ∙ go (hold_of o hs)
  where
    last : is_some (hold_of o (h ∷ [])) ≡ true
    last = rw (eq-eqb h.object o q) refl

    go : (x : Option Hold) → is_some (or_else x (hold_of o (h ∷ []))) ≡ true
    go None = last
    go (Some k) = refl

some_marked : (f : Hold → Hold) → ((h : Hold) → (f h).object ≡ h.object) → (o p : ℕ) (hs : List Hold) →
    is_some (hold_of o hs) ≡ true → is_some (hold_of o (marked f p hs)) ≡ true
some_marked f same o p hs h = go (cases_eq p o) (hold_of o hs) refl
  where
    go : (p ≡ o) ⊎ (p ≡ o → ⊥) → (x : Option Hold) → hold_of o hs ≡ x → is_some (hold_of o (marked f p hs)) ≡ true
    go (inr d) x q = ap is_some (marked_other f same o p hs d) ∙ h
    go (inl d) None q = absurd (let y : is_some (hold_of o hs) ≡ false = ap is_some q in cc)
    go (inl d) (Some k) q = ap (λ n. is_some (hold_of o (marked f n hs))) d ∙ ap is_some (marked_own f same o hs k q)

-- ---- what was locked

-- an event that only comes once the attempt has told its writes
abbrev pub is_late : Kind → Bool
is_late (Lock writes) = true
is_late (Draw writes) = true
is_late Check = true
is_late WriteLow = true
is_late WriteHigh = true
is_late Unlock = true
is_late kind = false

-- The newest event on the lock of an object has given it up: it gave back the recorded word, where the attempt is not
-- valid. Then the attempt locks and checks nothing more.
record Given (t : Table) (o old : ℕ) (gave_back valid : Bool) (events : List Event) : Type 0 where
  event : Event
  last : last_at o events ≡ Some event
  unlocks : event.kind ≡ Unlock
  over : (gave_back ≡ true) ⊎ (valid ≡ true)
  word : valid ≡ false → event.put ≡ old

-- a lock that was taken
record Taken (t : Table) (o : ℕ) (taking : Event) (reads : List Read) (holds : List Hold) (gave_back valid : Bool)
    (events : List Event) : Type 0 where
  expected : taking.expected ≡ recorded o reads
  below : o < objects t
  now : (is_some (hold_of o holds) ≡ true) ⊎ Given t o (recorded o reads) gave_back valid events

-- what the own events of an attempt say of its state
record AttemptBy (t : Table) (reads : List Read) (writes : Option (List (ℕ × Val))) (holds : List Hold)
    (gave_back valid : Bool) (events : List Event) : Type 0 where
  idle : writes ≡ None → All (λ (e : Event). is_late e.kind ≡ false) events
  early : valid ≡ false → All (λ (e : Event). is_write e.kind ≡ false) events
  part : (o : ℕ) (h : Hold) → hold_of o holds ≡ Some h → h.low_put ≡ true → valid ≡ true
  locks : (o : ℕ) (taking : Event) → Contains events taking → has_locked o taking ≡ true →
      Taken t o taking reads holds gave_back valid events

abbrev Attempt : Table → LocalState → List Event → Type 0
Attempt t l events = AttemptBy t l.reads l.writes l.holds l.gave_back (is_valid l) events

-- an event that has locked is a Lock
locked_is : (o : ℕ) (e : Event) → has_locked o e ≡ true →
    (is_lock e.kind ≡ true) × (e.place ≡ o) × ((e.found == e.expected) ≡ true)
locked_is o e h =
    let one = and_parts (is_lock e.kind) ((e.place == o) && (e.found == e.expected)) h in
    let two = and_parts (e.place == o) (e.found == e.expected) one.1 in
    (one.0, eqb-true e.place o two.0, two.1)

lock_late : (k : Kind) → is_lock k ≡ true → is_late k ≡ true
lock_late (Lock w) h = refl
lock_late k h = absurd (cc)

early_unwritten : (k : Kind) → is_late k ≡ false → is_write k ≡ false
early_unwritten WriteLow h = absurd (cc)
early_unwritten WriteHigh h = absurd (cc)
early_unwritten k h = refl

-- what was given up stays so by an event elsewhere
given_away : {t : Table} {o word : ℕ} {g : Bool} (i : Bool) {v : Bool} (w : Bool) {events : List Event} (e : Event) →
    (e.place ≡ o → ⊥) → (g ≡ true → i ≡ true) → (v ≡ true → w ≡ true) → Given t o word g v events →
    Given t o word i w (e ∷ events)
given_away {o = o} {word = word} {g = g} i {v = v} w e away gs vs x = record {
  event = x.event;
  last = rw (ne_eqb e.place o away) x.last;
  unlocks = x.unlocks;
  over = over x.over;
  word = λ q. x.word (lower q (cases_Bool v));
}
  where
    over : (g ≡ true) ⊎ (v ≡ true) → (i ≡ true) ⊎ (w ≡ true)
    over (inl q) = inl (gs q)
    over (inr q) = inr (vs q)

    lower : w ≡ false → (v ≡ true) ⊎ (v ≡ false) → v ≡ false
    lower q (inl r) = absurd (let y = vs r in cc)
    lower q (inr r) = r

-- ---- one event more

module _ (t : Table) (l : LocalState) (s : Static t l) (events : List Event) (a : Attempt t l events) (e : Event) where
  abbrev late : Event → Type 0
  late e = is_late e.kind ≡ false

  abbrev unwritten : Event → Type 0
  unwritten e = is_write e.kind ≡ false

  -- of an event that is no Lock, the locks taken are the earlier ones
  no_lock : (m : LocalState) → is_lock e.kind ≡ false →
      ((o : ℕ) (taking : Event) → Contains events taking →
      Taken t o taking l.reads l.holds l.gave_back (is_valid l) events →
      Taken t o taking m.reads m.holds m.gave_back (is_valid m) (e ∷ events)) →
      (o : ℕ) (taking : Event) → Contains (e ∷ events) taking → has_locked o taking ≡ true →
      Taken t o taking m.reads m.holds m.gave_back (is_valid m) (e ∷ events)
  no_lock m plain more o taking c h = elim (contains_cases e events taking c) [
    | inl q ↦
        absurd (let x : is_lock e.kind ≡ true = ap (λ (e : Event). is_lock e.kind) q ∙ (locked_is o taking h).0 in cc)
    | inr c ↦ more o taking c (a.locks o taking c h)
  ]

  -- while nothing is told, nothing was locked
  no_locks : l.writes ≡ None → (o : ℕ) (taking : Event) → Contains events taking → has_locked o taking ≡ true → ⊥
  no_locks none o taking c h =
      let x : is_late taking.kind ≡ false = All-contains late events taking (a.idle none) c in
      let y : is_late taking.kind ≡ true = lock_late taking.kind (locked_is o taking h).0 in
      cc

  -- an event while nothing is told
  untold_step : (m : LocalState) → l.writes ≡ None → is_late e.kind ≡ false → m.holds ≡ [] → Attempt t m (e ∷ events)
  untold_step m none plain free = record {
    idle = λ _. All-cons late e events plain (a.idle none);
    early = λ _. All-cons unwritten e events (early_unwritten e.kind plain) (a.early (untold_invalid t l s none));
    part = λ o h q. absurd (let x : hold_of o m.holds ≡ None = ap (hold_of o) free in cc);
    locks = λ o taking c h. absurd (taken o taking h (contains_cases e events taking c));
  }
    where
      taken : (o : ℕ) (taking : Event) → has_locked o taking ≡ true → (e ≡ taking) ⊎ Contains events taking → ⊥
      taken o taking h (inr c) = no_locks none o taking c h
      taken o taking h (inl q) =
          let x : is_late e.kind ≡ true =
          ap (λ (e : Event). is_late e.kind) q ∙ lock_late taking.kind (locked_is o taking h).0 in
          cc

  -- an event that the attempt makes only while it has given up nothing, and is not valid
  module _ {k : Kind} (kind : e.kind ≡ k) (v : is_valid l ≡ false) (g : l.gave_back ≡ false) where
    not_given : {o word : ℕ} → Given t o word l.gave_back (is_valid l) events → ⊥
    not_given x = elim x.over [
      | inl q ↦ cc
      | inr q ↦ cc
    ]

    still_held : (o word : ℕ) → (is_some (hold_of o l.holds) ≡ true) ⊎ Given t o word l.gave_back (is_valid l) events →
        is_some (hold_of o l.holds) ≡ true
    still_held o word (inl h) = h
    still_held o word (inr x) = absurd (not_given x)

    -- it locks nothing
    firm_step : (m : LocalState) → is_write k ≡ false → (m.writes ≡ None → ⊥) →
        ((o : ℕ) → has_locked o e ≡ true → ⊥) → m.reads ≡ l.reads → m.holds ≡ l.holds → Attempt t m (e ∷ events)
    firm_step m plain told unlocked reads holds = record {
      idle = λ q. absurd (told q);
      early = λ _. All-cons unwritten e events (ap is_write kind ∙ plain) (a.early v);
      part = λ o h q low. absurd (let x = a.part o h (ap (hold_of o) (sym holds) ∙ q) low in cc);
      locks = λ o taking c h. taken o taking h (contains_cases e events taking c);
    }
      where
        taken : (o : ℕ) (taking : Event) → has_locked o taking ≡ true → (e ≡ taking) ⊎ Contains events taking →
            Taken t o taking m.reads m.holds m.gave_back (is_valid m) (e ∷ events)
        taken o taking h (inl q) = absurd (unlocked o (ap (has_locked o) q ∙ h))
        taken o taking h (inr c) =
            let x = a.locks o taking c h in record {
              expected = x.expected ∙ ap (recorded o) (sym reads);
              below = x.below;
              now = inl (ap (λ hs. is_some (hold_of o hs)) holds ∙ still_held o (recorded o l.reads) x.now);
            }

    -- it locks an object
    lock_step : (m : LocalState) (new : Hold) → is_write k ≡ false → (m.writes ≡ None → ⊥) → new.low_put ≡ false →
        new.object ≡ e.place → e.expected ≡ recorded e.place l.reads → e.place < objects t → m.reads ≡ l.reads →
        m.holds ≡ l.holds ++ new ∷ [] → Attempt t m (e ∷ events)
    lock_step m new plain told unput object expected below reads holds = record {
      idle = λ q. absurd (told q);
      early = λ _. All-cons unwritten e events (ap is_write kind ∙ plain) (a.early v);
      part = λ o h q low.
          absurd (parted o h (sym (hold_of-append o l.holds (new ∷ [])) ∙ ap (hold_of o) (sym holds) ∙ q) low
          (hold_of o l.holds) refl (cases_eq new.object o));
      locks = λ o taking c h. taken o taking h (contains_cases e events taking c);
    }
      where
        parted : (o : ℕ) (h : Hold) → or_else (hold_of o l.holds) (hold_of o (new ∷ [])) ≡ Some h →
            h.low_put ≡ true → (x : Option Hold) → hold_of o l.holds ≡ x → (new.object ≡ o) ⊎ (new.object ≡ o → ⊥) → ⊥
        parted o h q low (Some k) is n =
            let same : Some k ≡ Some h = ap (λ x. or_else x (hold_of o (new ∷ []))) (sym is) ∙ q in
            let one : k ≡ h = cc in
            let x = a.part o k is (ap (λ (h : Hold). h.low_put) one ∙ low) in
            cc
        parted o h q low None is (inl n) =
            let last : hold_of o (new ∷ []) ≡ Some new = rw (eq-eqb new.object o n) refl in
            let same : Some new ≡ Some h = sym last ∙ ap (λ x. or_else x (hold_of o (new ∷ []))) (sym is) ∙ q in
            let one : new ≡ h = cc in
            let x : new.low_put ≡ true = ap (λ (h : Hold). h.low_put) one ∙ low in
            cc
        parted o h q low None is (inr n) =
            let last : hold_of o (new ∷ []) ≡ None = rw (ne_eqb new.object o n) refl in
            let same : None ≡ Some h = sym last ∙ ap (λ x. or_else x (hold_of o (new ∷ []))) (sym is) ∙ q in
            cc

        taken : (o : ℕ) (taking : Event) → has_locked o taking ≡ true → (e ≡ taking) ⊎ Contains events taking →
            Taken t o taking m.reads m.holds m.gave_back (is_valid m) (e ∷ events)
        taken o taking h (inl q) =
            let at_o : e.place ≡ o = ap (λ (e : Event). e.place) q ∙ (locked_is o taking h).1 in record {
              expected = ap (λ (e : Event). e.expected) (sym q) ∙ expected ∙ rw (at_o, ← reads) refl;
              below = subst (λ n. n < objects t) at_o below;
              now = inl (ap (λ hs. is_some (hold_of o hs)) holds ∙ some_added o l.holds new (object ∙ at_o));
            }
        taken o taking h (inr c) =
            let x = a.locks o taking c h in record {
              expected = x.expected ∙ ap (recorded o) (sym reads);
              below = x.below;
              now = inl (ap (λ hs. is_some (hold_of o hs)) holds
                  ∙ some_append o l.holds (new ∷ []) (still_held o (recorded o l.reads) x.now));
            }

  -- an event that lies beside the locks, and gives up none
  beside_step : (m : LocalState) → (m.writes ≡ None → (l.writes ≡ None) × (is_late e.kind ≡ false)) →
      (is_valid m ≡ false → is_write e.kind ≡ false) → is_lock e.kind ≡ false → objects t ≤ e.place →
      m.reads ≡ l.reads → m.gave_back ≡ l.gave_back → is_valid m ≡ is_valid l →
      ((o : ℕ) → is_some (hold_of o l.holds) ≡ true → is_some (hold_of o m.holds) ≡ true) →
      ((o : ℕ) (h : Hold) → hold_of o m.holds ≡ Some h → h.low_put ≡ true → is_valid m ≡ true) →
      Attempt t m (e ∷ events)
  beside_step m told no_write plain above reads gave valid held part = record {
    idle = λ q. All-cons late e events (told q).1 (a.idle (told q).0);
    early = λ q. All-cons unwritten e events (no_write q) (a.early (sym valid ∙ q));
    part = part;
    locks = no_lock m plain (λ o taking c x. record {
      expected = x.expected ∙ ap (recorded o) (sym reads);
      below = x.below;
      now = go o x.below x.now;
    });
  }
    where
      go : (o : ℕ) → o < objects t → (is_some (hold_of o l.holds) ≡ true)
          ⊎ Given t o (recorded o l.reads) l.gave_back (is_valid l) events → (is_some (hold_of o m.holds) ≡ true)
          ⊎ Given t o (recorded o m.reads) m.gave_back (is_valid m) (e ∷ events)
      go o b (inl h) = inl (held o h)
      go o b (inr x) =
          inr (subst (λ rs. Given t o (recorded o rs) m.gave_back (is_valid m) (e ∷ events)) (sym reads)
          (given_away m.gave_back (is_valid m) e (λ q. omega arith) (λ q. gave ∙ q) (λ q. valid ∙ q) x))

  -- it gives up the lock of an object
  unlock_step : e.kind ≡ Unlock → AllowedAs Unlock t l e → Attempt t (after Unlock t l e) (e ∷ events)
  unlock_step kind h = record {
    idle = λ q. absurd (let x : hold_of e.place l.holds ≡ None = ap (hold_of e.place) (s.idle q) in
        let y : is_some (hold_of e.place l.holds) ≡ false = ap is_some x in let z = h.2.0 in cc);
    early = λ q. All-cons unwritten e events (ap is_write kind) (a.early q);
    part = λ o k q low. parted o k q low (cases_eq e.place o);
    locks = no_lock (after Unlock t l e) (ap is_lock kind) (λ o taking c x. record {
      expected = x.expected;
      below = x.below;
      now = go o (cases_eq e.place o) x.now;
    });
  }
    where
      parted : (o : ℕ) (k : Hold) → hold_of o (without e.place l.holds) ≡ Some k → k.low_put ≡ true →
          (e.place ≡ o) ⊎ (e.place ≡ o → ⊥) → is_valid l ≡ true
      parted o k q low (inl d) =
          absurd (let x : hold_of o (without e.place l.holds) ≡ None =
          ap (λ n. hold_of o (without n l.holds)) d ∙ without_own o l.holds in cc)
      parted o k q low (inr d) = a.part o k (sym (without_other o e.place l.holds d) ∙ q) low

      over : (x : Option Hold) → hold_of e.place l.holds ≡ x → is_some (hold_of e.place l.holds) ≡ true →
          MayUnlock l (or_hold (hold_of e.place l.holds)) e.put →
          ((l.gave_back || (e.put == (or_hold (hold_of e.place l.holds)).word) ≡ true) ⊎ (is_valid l ≡ true))
          × (is_valid l ≡ false → e.put ≡ recorded e.place l.reads)
      over None q i m = absurd (let y : is_some (hold_of e.place l.holds) ≡ false = ap is_some q in cc)
      over (Some k) q i (inl m) =
          let low : k.low_put ≡ true = ap (λ (x : Option Hold). (or_hold x).low_put) (sym q) ∙ m.0 in
          let v : is_valid l ≡ true = a.part e.place k q low in
          (inr v, (λ w. absurd (cc)))
      over (Some k) q i (inr m) = (
        inl (or_right l.gave_back (e.put == (or_hold (hold_of e.place l.holds)).word)
            (eq-eqb e.put (or_hold (hold_of e.place l.holds)).word m.1)),
        (λ _. m.1 ∙ ap (λ (x : Option Hold). (or_hold x).word) q ∙ (s.locks e.place k q).word),
      )

      go : (o : ℕ) → (e.place ≡ o) ⊎ (e.place ≡ o → ⊥) → (is_some (hold_of o l.holds) ≡ true)
          ⊎ Given t o (recorded o l.reads) l.gave_back (is_valid l) events →
          (is_some (hold_of o (without e.place l.holds)) ≡ true)
          ⊎ Given t o (recorded o l.reads) (l.gave_back || (e.put == (or_hold (hold_of e.place l.holds)).word))
          (is_valid l) (e ∷ events)
      go o (inl d) x =
          let y = over (hold_of e.place l.holds) refl h.2.0 h.2.1 in
          inr (record {
            event = e;
            last = rw (eq-eqb e.place o d) refl;
            unlocks = kind;
            over = y.0;
            word = λ q. y.1 q ∙ ap (λ n. recorded n l.reads) d;
          })
      go o (inr d) (inl x) = inl (ap is_some (without_other o e.place l.holds d) ∙ x)
      go o (inr d) (inr x) =
          inr (given_away (l.gave_back || (e.put == (or_hold (hold_of e.place l.holds)).word)) (is_valid l) e d
          (λ q. or_left l.gave_back (e.put == (or_hold (hold_of e.place l.holds)).word) q) (λ q. q) x)

  -- no Check comes once the attempt is valid
  unchecked : AllowedAs Check t l e → is_valid l ≡ false
  unchecked h = elim (cases_Bool (is_valid l)) [
    | inl v ↦ absurd (let x = (valid_parts l v).1 in let y = h.2.2 in omega arith)
    | inr v ↦ v
  ]

  attempt_by : (k : Kind) → e.kind ≡ k → is_sample k ≡ false → AllowedAs k t l e →
      Attempt t (after k t l e) (e ∷ events)
  attempt_by Enrol kind n h =
      beside_step (after Enrol t l e) (λ q. (q, ap is_late kind)) (λ _. ap is_write kind) (ap is_lock kind)
      (let p = h.0 in omega arith) refl refl refl (λ o x. x) a.part
  attempt_by Sample kind n h = absurd (cc)
  attempt_by LookLock kind n h = untold_step (after LookLock t l e) h.2.1 (ap is_late kind) (s.idle h.2.1)
  attempt_by LookLow kind n h = untold_step (after LookLow t l e) h.2.0 (ap is_late kind) (s.idle h.2.0)
  attempt_by LookHigh kind n h = untold_step (after LookHigh t l e) h.2.0 (ap is_late kind) (s.idle h.2.0)
  attempt_by LookAgain kind n h =
      cond_both (e.found == (look_of l).word) (record_read l) (record l { look = None })
      (λ (m : LocalState). Attempt t m (e ∷ events))
      (λ _. untold_step (record_read l) h.2.0 (ap is_late kind) (s.idle h.2.0))
      (λ _. untold_step (record l { look = None }) h.2.0 (ap is_late kind) (s.idle h.2.0))
  attempt_by (Lock w) kind n h =
      cond_both (e.found == e.expected) (lock l w.value)
      (record l { look = None; writes = Some w.value; failed = true }) (λ (m : LocalState). Attempt t m (e ∷ events))
      (λ _. lock_step kind (undrawn_invalid l h.2.1) h.2.3 (lock l w.value)
      (new_hold l (next_write l w.value)) refl (λ q. cc) refl (sym at_next)
      (h.1.0 ∙ ap (λ n. recorded n l.reads) (sym at_next)) (subst (λ n. n < objects t) (sym at_next) h.3) refl refl)
      (λ f. firm_step kind (undrawn_invalid l h.2.1) h.2.3
      (record l { look = None; writes = Some w.value; failed = true }) refl (λ q. cc)
      (λ o x. let y = (locked_is o e x).2 in cc) refl refl)
    where
      at_next : e.place ≡ (next_write l w.value).0
      at_next = h.0
  attempt_by (Draw w) kind n h =
      firm_step kind (undrawn_invalid l h.2.2) h.2.4 (after (Draw w) t l e) refl (λ q. cc)
      (λ o x. let y = (locked_is o e x).0 in let z : is_lock e.kind ≡ false = ap is_lock kind in cc) refl refl
  attempt_by Check kind n h =
      firm_step kind (unchecked h) h.2.1 (after Check t l e) refl
      (λ q. let x = s.told h.2.0 in let y : is_some l.writes ≡ false = ap is_some q in cc)
      (λ o x. let y = (locked_is o e x).0 in let z : is_lock e.kind ≡ false = ap is_lock kind in cc) refl refl
  attempt_by WriteLow kind n h =
      beside_step (after WriteLow t l e) (λ q. absurd (let x = untold_invalid t l s q in let y = h.2.0 in cc))
      (λ q. absurd (let y = h.2.0 in cc)) (ap is_lock kind) (let p = h.0 in omega arith) refl refl refl
      (λ o x. some_marked with_low (λ h. refl) o (low_object t e.place) l.holds x) (λ _ _ _ _. h.2.0)
  attempt_by WriteHigh kind n h =
      beside_step (after WriteHigh t l e) (λ q. absurd (let x = untold_invalid t l s q in let y = h.2.0 in cc))
      (λ q. absurd (let y = h.2.0 in cc)) (ap is_lock kind) (let p = h.0 in omega arith) refl refl refl
      (λ o x. some_marked with_high (λ h. refl) o (high_object t e.place) l.holds x) (λ _ _ _ _. h.2.0)
  attempt_by Unlock kind n h = unlock_step kind h

-- ---- of a run

-- an attempt that has just begun
none_yet : (t : Table) (l : LocalState) → l.holds ≡ [] → Attempt t l []
none_yet t l free = record {
  idle = λ _. All-nil (λ (e : Event). is_late e.kind ≡ false);
  early = λ _. All-nil (λ (e : Event). is_write e.kind ≡ false);
  part = λ o h q. absurd (let x : hold_of o l.holds ≡ None = ap (hold_of o) free in cc);
  locks = λ o taking c. absurd (let b = c.1 in omega arith);
}

just_sampled : (t : Table) (l : LocalState) (e : Event) (k : Kind) → is_sample k ≡ true → Attempt t (after k t l e) []
just_sampled t l e Sample h = none_yet t (after Sample t l e) refl
just_sampled t l e k h = absurd (cc)

attempt : (t : Table) (es : List Event) → Run t es → (c : ℕ) →
    Attempt t (local t es c) (events_of c (since_sample c es))
attempt t [] run c = none_yet t (local t [] c) refl
attempt t (e ∷ es) run c =
    let ih = attempt t es run.0 c in
    elim (cases_Bool (e.caller == c)) [
      | inl q ↦ elim (cases_Bool (is_sample e.kind)) [
        | inl r ↦
            subst (Attempt t (local t (e ∷ es) c))
            (sym (ap (events_of c) (since_at is_sample e es c (and_from (e.caller == c) (is_sample e.kind) q r))))
            (subst (λ l. Attempt t l []) (sym (local_mine tl2 t es e c q)) (just_sampled t (local t es c) e e.kind r))
        | inr r ↦
            subst (Attempt t (local t (e ∷ es) c))
            (sym (ap (events_of c) (since_still is_sample e es c (and_right (e.caller == c) (is_sample e.kind) r))
            ∙ own_first e (since_sample c es) c q))
            (subst (λ l. Attempt t l (e ∷ events_of c (since_sample c es))) (sym (local_mine tl2 t es e c q))
            (attempt_by t (local t es c) (static t es run.0 c) (events_of c (since_sample c es)) ih e e.kind refl r
            (allowed_mine t es e c run q)))
      ]
      | inr q ↦
          subst (Attempt t (local t (e ∷ es) c))
          (sym (ap (events_of c) (since_still is_sample e es c (and_left (e.caller == c) (is_sample e.kind) q))
          ∙ own_other e (since_sample c es) c q))
          (subst (λ l. Attempt t l (events_of c (since_sample c es))) (sym (local_others tl2 t es e c q)) ih)
    ]

module _ (t : Table) (es : List Event) (run : Run t es) (c : ℕ) where
  abbrev l : LocalState
  l = local t es c

  abbrev since : List Event
  since = events_of c (since_sample c es)

  -- while it is not valid, it has written nothing
  pub invalid_unwritten : is_valid l ≡ false → All (λ (e : Event). is_write e.kind ≡ false) since
  invalid_unwritten = (attempt t es run c).early

  -- an object that was locked is held, or the newest event on its lock has given it its recorded word back
  pub held_or_given : is_valid l ≡ false → (o : ℕ) (taking : Event) → Contains since taking →
      has_locked o taking ≡ true → (is_some (hold_of o l.holds) ≡ true)
      ⊎ ((event : Event) × (last_at o since ≡ Some event) × GivesBack taking event)
  held_or_given v o taking x h =
      let y = (attempt t es run c).locks o taking x h in
      let e = y.expected in
      elim y.now [
        | inl q ↦ inl q
        | inr y ↦ inr (y.event, y.last, record { unlocks = y.unlocks; word = y.word v ∙ sym e })
      ]

-- a state that failed, or that has drawn nothing, is not valid
pub left_invalid : (l : LocalState) → (l.failed ≡ true) ⊎ (l.drawn ≡ None) → is_valid l ≡ false
left_invalid l (inl q) = failed_invalid l q
left_invalid l (inr q) = undrawn_invalid l q

-- AN ATTEMPT THAT WAS LEFT: it failed or has drawn nothing, and nothing is locked any more.
module _ {L : Type 0} (n : TlCalled L) (run : Run (table_of_caller n) n.log) (free : (state n).holds ≡ [])
    (over : ((state n).failed ≡ true) ⊎ ((state n).drawn ≡ None)) where
  invalid : is_valid (state n) ≡ false
  invalid = left_invalid (state n) over

  pub has_given_back : HasGivenBack n
  has_given_back = record {
    free = free;
    last = λ o taking x h. go o taking (held_or_given (table_of_caller n) n.log run n.number invalid o taking x h);
  }
    where
      go : (o : ℕ) (taking : Event) → (is_some (hold_of o (state n).holds) ≡ true)
          ⊎ ((event : Event) × (last_at o (own_since n) ≡ Some event) × GivesBack taking event) →
          (event : Event) × (last_at o (own_since n) ≡ Some event) × GivesBack taking event
      go o taking (inr y) = y
      go o taking (inl q) =
          absurd (let x : hold_of o (state n).holds ≡ None = ap (hold_of o) free in
          let y : is_some (hold_of o (state n).holds) ≡ false = ap is_some x in cc)

  pub has_not_written : All (λ (e : Event). is_write e.kind ≡ false) (own_since n)
  has_not_written = invalid_unwritten (table_of_caller n) n.log run n.number invalid

  pub is_left : n.left ≡ answer_of (table_of_caller n) (begun_state n) (own_since n) →
      Disturbed (table_of_caller n) n.log n.number (state n).begun → 1 < (table_of_caller n).callers → IsLeft n
  is_left cause disturbed others = assumption (has_given_back, has_not_written)
