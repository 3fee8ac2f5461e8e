-- A table's only caller never finds a word that ends its attempt.
use Rattle.std.proofs.Common.{◌≡◌, ◌≢◌, ◌==◌, ◌<◌, ◌≤◌, ◌*◌, ◌⊎◌, ◌∷◌, ◌∙◌, ℕ, zero, suc, inl, inr, List, [], refl, ap, arith, sym, subst, true, false, Bool, Option, Some, None, is_some, length, take, slice_get, not}
use Rattle.std.specs.List.{Contains}
use Rattle.std.specs.Prelude.{is_none, slice_index_or}
use Rattle.dstm_tl2.proofs.Base.{AllowedAs, Check, Draw, Event, Fits, Hold, IsTold, IsUnnamed, Kind, LocalState, Lock, LockWord, Look, LookAgain, LookHigh, LookLock, LookLow, NamesOnce, Read, Run, Sample, Table, Unlock, Val, WriteHigh, WriteLow, after, at, cases_eq, cond_both, eq-eqb, fails, first, high_object, hold_of, initial, is_draw, is_readable, local, lock, look_of, low_object, marked, nat_tests, ne_eqb, new_hold, next_check, next_write, no_write, objects, or_look, or_read, or_value, or_writes, read_of, record_read, recorded, tl2, to_check, will_of, with_high, with_low, without, word, write_of, writes_of}
use Rattle.std.proofs.lemmas.List.Elements.{All-contains, All-contains_itself, All-filter, Contains-append_right, Contains-push_cases, filter_passes}
use Rattle.dstm_machines.proofs.Runs as runs
use Rattle.dstm_tl2.proofs.Clock.{Draws, NoDraw, Turn, clock, clock_step, turn}
use Rattle.dstm_tl2.proofs.Clock.Turn.{keeps, samples, drew}
use Rattle.dstm_tl2.proofs.Foretelling.{told}
use Rattle.dstm_tl2.proofs.Holds.{hold_of-other, hold_value, marked_other, without_other, without_own}
use Rattle.dstm_tl2.proofs.Places.{first_clock}
use Rattle.dstm_tl2.proofs.SinceDraw.{Current}
use Rattle.dstm_tl2.proofs.Stands.{Held, Stands, Told, stands}
use Rattle.dstm_tl2.proofs.Stands.Stands.{free, waits, commits}
use Rattle.dstm_tl2.proofs.Static.{Static, static, told_take, valued_look}
use Rattle.dstm_tl2.proofs.Tidy.{low_look}
use Rattle.dstm_tl2.proofs.Versions.{version_at, version_below}

-- ---- the writes told, and the locks

-- a write of a list is one of it
written_in : (ws : List (ℕ × Val)) (i : ℕ) → i < length ws → write_of (slice_index_or ws i no_write).0 ws ≡ None → ⊥
written_in [] i h q = omega arith
written_in (w ∷ ws) zero h q = let bad : Some w.1 ≡ None = rw (eq-eqb w.0 w.0 refl) at q in cc
written_in (w ∷ ws) (suc i) h q =
    elim (cases_eq w.0 (slice_index_or ws i no_write).0) [
      | inl z ↦ let bad : Some w.1 ≡ None = rw (eq-eqb w.0 (slice_index_or ws i no_write).0 z) at q in cc
      | inr z ↦ written_in ws i (omega arith) (rw (ne_eqb w.0 (slice_index_or ws i no_write).0 z) at q)
    ]

unnamed_at : (o : ℕ) (ws : List (ℕ × Val)) (i : ℕ) → IsUnnamed o ws → i < length ws →
    (slice_index_or ws i no_write).0 ≢ o
unnamed_at o [] i u h q = omega arith
unnamed_at o (w ∷ ws) zero u h q = u.0 q
unnamed_at o (w ∷ ws) (suc i) u h q = unnamed_at o ws i u.1 (omega arith) q

-- where each object is named once, none of the writes before one is of its object
unwritten_before : (n : ℕ) (ws : List (ℕ × Val)) (i : ℕ) → NamesOnce n ws → i < length ws →
    write_of (slice_index_or ws i no_write).0 (take i ws) ≡ None
unwritten_before n [] i once h = absurd (omega arith)
unwritten_before n (w ∷ ws) zero once h = refl
unwritten_before n (w ∷ ws) (suc i) once h =
    let apart : w.0 ≢ (slice_index_or ws i no_write).0 = λ q.
    unnamed_at w.0 ws i once.1 (let l : i < length ws = omega arith in l) (sym q) in
    rw (ne_eqb w.0 (slice_index_or ws i no_write).0 apart) (unwritten_before n ws i once.2 (omega arith))

-- what is not written is not held
abbrev Unheld : LocalState → Type 0
Unheld l = (o : ℕ) → write_of o (or_writes l.writes) ≡ None → hold_of o l.holds ≡ None

module _ (t : Table) (l : LocalState) (s : Static t l) (h : Unheld l) where
  told_unheld : (ws : List (ℕ × Val)) → IsTold l ws → (o : ℕ) → write_of o ws ≡ None → hold_of o l.holds ≡ None
  told_unheld ws (inl none) o q = ap (hold_of o) (s.idle none)
  told_unheld ws (inr same) o q = h o (ap (λ x. write_of o (or_writes x)) same ∙ q)

  marked_unheld : (f : Hold → Hold) → ((h : Hold) → (f h).object ≡ h.object) → (p : ℕ) →
      is_some (hold_of p l.holds) ≡ true → (o : ℕ) → write_of o (or_writes l.writes) ≡ None →
      hold_of o (marked f p l.holds) ≡ None
  marked_unheld f same p held o q = elim (cases_eq p o) [
    | inl z ↦
        let some : is_some (hold_of o l.holds) ≡ true = subst (λ n. is_some (hold_of n l.holds) ≡ true) z held in
        let none : is_some (hold_of o l.holds) ≡ false = ap is_some (h o q) in
        absurd (cc)
    | inr z ↦ marked_other f same o p l.holds z ∙ h o q
  ]

  unheld_step : (e : Event) (k : Kind) → AllowedAs k t l e → Unheld (after k t l e)
  unheld_step e Sample a = λ o _. refl
  unheld_step e LookAgain a =
      cond_both (e.found == (look_of l).word) (record_read l) (record l { look = None }) Unheld (λ _. h) (λ _. h)
  unheld_step e (Lock w) a =
      cond_both (e.found == e.expected) (lock l w.value)
      (record l { look = None; writes = Some w.value; failed = true }) Unheld (λ _ o q.
      hold_of-other o l.holds (new_hold l (next_write l w.value))
      (λ z. written_in w.value l.locked a.2.4 (subst (λ n. write_of n w.value ≡ None) (sym z) q))
      ∙ told_unheld w.value a.2.0 o q) (λ _ o q. told_unheld w.value a.2.0 o q)
  unheld_step e (Draw w) a = λ o q. told_unheld w.value a.2.1 o q
  unheld_step e WriteLow a = marked_unheld with_low (λ h. refl) (low_object t e.place) a.2.1
  unheld_step e WriteHigh a = marked_unheld with_high (λ h. refl) (high_object t e.place) a.2.1
  unheld_step e Unlock a = λ o q. gone o q (cases_eq e.place o)
    where
      gone : (o : ℕ) → write_of o (or_writes l.writes) ≡ None → (e.place ≡ o) ⊎ (e.place ≡ o → ⊥) →
          hold_of o (without e.place l.holds) ≡ None
      gone o q (inl z) = ap (λ n. hold_of o (without n l.holds)) z ∙ without_own o l.holds
      gone o q (inr z) = without_other o e.place l.holds z ∙ h o q
  unheld_step e k a = h

unheld : (t : Table) (es : List Event) → Run t es → (c : ℕ) → Unheld (local t es c)
unheld t [] run c = λ o _. refl
unheld t (e ∷ es) run c =
    runs.callers tl2 t es e (λ c l. Unheld l)
    (unheld_step t (local t es e.caller) (static t es run.0 e.caller) (unheld t es run.0 e.caller) e e.kind
    run.1.allowed) (λ c _. unheld t es run.0 c) c

-- ---- the only caller, the clock and the objects

-- no other caller makes an event
others_first : (t : Table) (es : List Event) → Run t es → t.callers ≡ 1 → (c : ℕ) → 0 < c → local t es c ≡ first
others_first t [] run one c h = refl
others_first t (e ∷ es) run one c h =
    let b = run.1.caller in
    runs.local_other tl2 t es e c (λ q. omega arith) ∙ others_first t es run.0 one c h

-- until it draws, the clock stands at its sample
clock_is : (t : Table) (es : List Event) → Run t es → t.callers ≡ 1 → (c : ℕ) → c < t.callers →
    (local t es c).drawn ≡ None → clock t es ≡ (local t es c).sample
clock_is t [] run one c = λ b q. first_clock t
clock_is t (e ∷ es) run one c =
    runs.callers tl2 t es e (λ c l. c < t.callers → l.drawn ≡ None → clock t (e ∷ es) ≡ l.sample)
    (λ b. own (clock_is t es run.0 one e.caller b) (turn t es e run.1) (clock_step t es e run.1))
    (λ c other b. absurd (let a = run.1.caller in other (omega arith))) c
  where
    own : ((local t es e.caller).drawn ≡ None → clock t es ≡ (local t es e.caller).sample) →
        Turn t e e.kind (local t es e.caller) (after e.kind t (local t es e.caller) e) →
        Draws t es e e.kind ⊎ NoDraw t es e e.kind → (after e.kind t (local t es e.caller) e).drawn ≡ None →
        clock t (e ∷ es) ≡ (after e.kind t (local t es e.caller) e).sample
    own ih (keeps x) (inl d) q = absurd (let y = x.no_draw in let z = d.kind in cc)
    own ih (keeps x) (inr d) q = d.stays ∙ ih (sym x.drawn ∙ q) ∙ sym x.sample
    own ih (samples x) (inl d) q = absurd (let y = x.no_draw in let z = d.kind in cc)
    own ih (samples x) (inr d) q =
        d.stays ∙ ap (λ p. at (initial t) es p) (sym x.place) ∙ sym run.1.linked ∙ sym x.sample
    own ih (drew x) d q = absurd (let y = x.drawn in cc)

-- the lock word of an object that it does not hold is that of the version
free_word : (t : Table) (will : ℕ → Bool) (es : List Event) → Run t es → Told t will es → t.callers ≡ 1 →
    (c : ℕ) → c < t.callers → (o : ℕ) → o < objects t → hold_of o (local t es c).holds ≡ None →
    word t es (LockWord o) ≡ 2 * version_at will es o
free_word t will es run foretold one c b o exists none = go (stands t will es run foretold o exists)
  where
    nobody : (d : ℕ) → (d ≡ c) ⊎ (d ≡ c → ⊥) → hold_of o (local t es d).holds ≡ None
    nobody d (inl q) = ap (λ n. hold_of o (local t es n).holds) q ∙ none
    nobody d (inr q) = ap (λ (l : LocalState). hold_of o l.holds) (others_first t es run one d (positive d q))
      where
        positive : (d : ℕ) → (d ≡ c → ⊥) → 0 < d
        positive zero q = absurd (q (omega arith))
        positive (suc d) q = omega arith

    unheld_by : (d : ℕ) (h : Hold) → Held t will es o d h → ⊥
    unheld_by d h held = let x = nobody d (cases_eq d c) in let y = held.holds in cc

    go : Stands t will es o → word t es (LockWord o) ≡ 2 * version_at will es o
    go (free g) = g.lock
    go (waits d h held w) = absurd (unheld_by d h held)
    go (commits d h n held w) = absurd (unheld_by d h held)

-- ---- what it has looked at is current

-- an event changes a version only by a draw that writes the object
version_same : (will : ℕ → Bool) (es : List Event) (e : Event) (o : ℕ) →
    (is_draw e.kind ≡ true → write_of o (writes_of e.kind) ≡ None) → version_at will (e ∷ es) o ≡ version_at will es o
version_same will es e o h = grind (arith, nat_tests)

-- the read under way is of the current version
abbrev Looks : (ℕ → Bool) → List Event → Option Look → Type 0
Looks will es None = Unit {0}
Looks will es (Some k) = k.word ≡ 2 * version_at will es k.object

looked : (will : ℕ → Bool) (es : List Event) (k : Option Look) → is_some k ≡ true → Looks will es k →
    (or_look k).word ≡ 2 * version_at will es (or_look k).object
looked will es None i h = absurd (cc)
looked will es (Some k) i h = h

-- so is each read that was recorded, but of an object that the attempt has drawn to write
record Fresh (will : ℕ → Bool) (es : List Event) (l : LocalState) : Type 0 where
  look : l.writes ≡ None → Looks will es l.look
  reads : (r : Read) → Contains l.reads r → (l.drawn ≡ None) ⊎ (write_of r.object (or_writes l.writes) ≡ None) →
      Current will es r

module _ (t : Table) {will : ℕ → Bool} {es : List Event} (e : Event) (fits : Fits t es e) {l : LocalState}
    (s : Static t l) (at_free : (o : ℕ) → o < objects t → hold_of o l.holds ≡ None →
    word t es (LockWord o) ≡ 2 * version_at will es o) (f : Fresh will es l) where
  same : is_draw e.kind ≡ false → (o : ℕ) → version_at will (e ∷ es) o ≡ version_at will es o
  same q o = version_same will es e o (λ d. absurd (cc))

  look_more : is_draw e.kind ≡ false → (k : Option Look) → Looks will es k → Looks will (e ∷ es) k
  look_more q None h = tt
  look_more q (Some k) h = h ∙ ap (λ n. 2 * n) (sym (same q k.object))

  -- of the read under way
  under_way : is_draw e.kind ≡ false → l.writes ≡ None → is_some l.look ≡ true →
      (look_of l).word ≡ 2 * version_at will (e ∷ es) (look_of l).object
  under_way q w i = looked will (e ∷ es) l.look i (look_more q l.look (f.look w))

  reads_more : is_draw e.kind ≡ false → (r : Read) → Contains l.reads r →
      (l.drawn ≡ None) ⊎ (write_of r.object (or_writes l.writes) ≡ None) → Current will (e ∷ es) r
  reads_more q r m n = f.reads r m n ∙ ap (λ n. 2 * n) (sym (same q r.object))

  fresh_by : {k : Kind} → e.kind ≡ k → AllowedAs k t l e → Fresh will (e ∷ es) (after k t l e)
  fresh_by {k = Sample} j a = record {
    look = λ _. tt;
    reads = λ r m. absurd (let h = m.1 in omega arith);
  }
  fresh_by {k = LookLock} j a = record {
    look = λ w. fits.linked ∙ at_free e.place a.3 (ap (hold_of e.place) (s.idle w))
        ∙ ap (λ n. 2 * n) (sym (same (ap is_draw j) e.place));
    reads = reads_more (ap is_draw j);
  }
  fresh_by {k = LookLow} j a = record {
    look = λ w. under_way (ap is_draw j) w a.2.1;
    reads = reads_more (ap is_draw j);
  }
  fresh_by {k = LookHigh} j a = record {
    look = λ w. under_way (ap is_draw j) w (low_look l.look a.2.1);
    reads = reads_more (ap is_draw j);
  }
  fresh_by {k = LookAgain} j a =
      cond_both (e.found == (look_of l).word) (record_read l) (record l { look = None }) (Fresh will (e ∷ es))
      (λ _. record { look = λ _. tt; reads = λ r m n. recent r n (Contains-push_cases l.reads _ r m) })
      (λ _. record { look = λ _. tt; reads = reads_more (ap is_draw j) })
    where
      recent : (r : Read) → (l.drawn ≡ None) ⊎ (write_of r.object (or_writes l.writes) ≡ None) →
          Contains l.reads r ⊎ (record {
            object = (look_of l).object;
            word = (look_of l).word;
            value = or_value (look_of l).value;
          } ≡ r) → Current will (e ∷ es) r
      recent r n (inl m) = reads_more (ap is_draw j) r m n
      recent r n (inr q) = subst (Current will (e ∷ es)) q (under_way (ap is_draw j) a.2.0 (valued_look l.look a.2.1))
  fresh_by {k = (Lock w)} j a =
      cond_both (e.found == e.expected) (lock l w.value)
      (record l { look = None; writes = Some w.value; failed = true }) (Fresh will (e ∷ es))
      (λ _. record { look = λ _. tt; reads = λ r m n. reads_more (ap is_draw j) r m (inl a.2.1) })
      (λ _. record { look = λ _. tt; reads = λ r m n. reads_more (ap is_draw j) r m (inl a.2.1) })
  fresh_by {k = (Draw w)} j a = record { look = λ _. tt; reads = λ r m n. old r m n }
    where
      old : (r : Read) → Contains l.reads r → (Some e.found ≡ None) ⊎ (write_of r.object w.value ≡ None) →
          Current will (e ∷ es) r
      old r m (inl n) = absurd (cc)
      old r m (inr n) =
          f.reads r m (inl a.2.2)
          ∙ ap (λ n. 2 * n) (sym (version_same will es e r.object
          (λ _. ap (λ k. write_of r.object (writes_of k)) j ∙ n)))
  fresh_by j a = record {
    look = λ w. look_more (ap is_draw j) l.look (f.look w);
    reads = reads_more (ap is_draw j);
  }

fresh : (t : Table) (will : ℕ → Bool) (es : List Event) → Run t es → Told t will es → t.callers ≡ 1 →
    (c : ℕ) → c < t.callers → Fresh will es (local t es c)
fresh t will [] run foretold one c = λ b. record {
  look = λ _. tt;
  reads = λ r m. absurd (let h = m.1 in omega arith);
}
fresh t will (e ∷ es) run foretold one c =
    runs.callers tl2 t es e (λ c l. c < t.callers → Fresh will (e ∷ es) l)
    (λ b. fresh_by t e run.1 (static t es run.0 e.caller)
    (free_word t will es run.0 foretold.0 one e.caller b) (fresh t will es run.0 foretold.0 one e.caller b) refl
    run.1.allowed)
    (λ c other b. absurd (let a = run.1.caller in other (omega arith))) c

-- ---- its events

readable_word : (sample v w : ℕ) → w ≡ 2 * v → v ≤ sample → not (is_readable sample w) ≡ false
readable_word sample v w q h = grind (arith, nat_tests)

same_word : (a b : ℕ) → a ≡ b → not (a == b) ≡ false
same_word a b q = rw (eq-eqb a b q) refl

undrawn : (d : Option ℕ) {writes : Option (List (ℕ × Val))} → (is_some d ≡ true → is_some writes ≡ true) →
    writes ≡ None → d ≡ None
undrawn None h q = refl
undrawn (Some n) h q = absurd (let x = h refl in cc)

-- the word recorded of an object that was read
recorded_current : (will : ℕ → Bool) (es : List Event) (o : ℕ) (rs : List Read) →
    ((r : Read) → Contains rs r → Current will es r) → is_some (read_of o rs) ≡ true →
    recorded o rs ≡ 2 * version_at will es o
recorded_current will es o [] h i = absurd (cc)
recorded_current will es o (r ∷ rs) h i =
    go (cases_eq r.object o) (λ j. recorded_current will es o rs (λ x m. h x (Contains-append_right (r ∷ []) rs x m)) j)
  where
    go : (r.object ≡ o) ⊎ (r.object ≡ o → ⊥) →
        (is_some (read_of o rs) ≡ true → recorded o rs ≡ 2 * version_at will es o) →
        recorded o (r ∷ rs) ≡ 2 * version_at will es o
    go (inl q) ih =
        rw (recorded, eq-eqb r.object o q) (h r (0, omega arith, refl) ∙ ap (λ n. 2 * version_at will es n) q)
    go (inr q) ih = rw (recorded, ne_eqb r.object o q) (ih (rw (ne_eqb r.object o q) at i))

-- a read of a list is one of it
got : (rs : List Read) (i : ℕ) → i < length rs → Contains rs (or_read (slice_get rs i))
got [] i h = absurd (omega arith)
got (r ∷ rs) zero h = (0, omega arith, refl)
got (r ∷ rs) (suc i) h = Contains-append_right (r ∷ []) rs (or_read (slice_get rs i)) (got rs i (omega arith))

no_value_is : (x : Option Val) → is_none x ≡ true → x ≡ None
no_value_is None h = refl
no_value_is (Some v) h = absurd (cc)

module _ (t : Table) (es : List Event) (e : Event) (run : Run t (e ∷ es)) (one : t.callers ≡ 1) where
  abbrev will : ℕ → Bool
  will = will_of t es

  abbrev l : LocalState
  l = local t es e.caller

  is_told : Told t will es
  is_told = told t es es [] run.0 refl

  fixed : Static t l
  fixed = static t es run.0 e.caller

  now : Fresh will es l
  now = fresh t will es run.0 is_told one e.caller run.1.caller

  -- what an event finds in the lock word of an object that the caller does not hold
  lock_is : (o : ℕ) → o < objects t → e.place ≡ o → hold_of o l.holds ≡ None → e.found ≡ 2 * version_at will es o
  lock_is o b at_o none =
      run.1.linked ∙ ap (λ p. at (initial t) es p) at_o
      ∙ free_word t will es run.0 is_told one e.caller run.1.caller o b none

  fails_by : (k : Kind) → AllowedAs k t l e → NamesOnce (objects t) (writes_of k) → fails k l e ≡ false
  fails_by LookLock a once =
      let at_sample = clock_is t es run.0 one e.caller run.1.caller (undrawn l.drawn fixed.told a.2.1) in
      let below = version_below t will es e.place run.0 a.3 in
      readable_word l.sample (version_at will es e.place) e.found
      (lock_is e.place a.3 refl (ap (hold_of e.place) (fixed.idle a.2.1))) (omega arith)
  fails_by LookAgain a once =
      same_word e.found (look_of l).word
      (lock_is (look_of l).object a.3 a.0 (ap (hold_of (look_of l).object) (fixed.idle a.2.0))
      ∙ sym (looked will es l.look (valued_look l.look a.2.1) (now.look a.2.0)))
  fails_by (Lock w) a once =
      same_word e.found e.expected
      (lock_is o a.3 a.0 (unlocked (hold_of o l.holds) (fixed.held a.2.1 a.2.3 o ∙ unwritten))
      ∙ sym (a.1.0 ∙ recorded_current will es o l.reads (λ r m. now.reads r m (inl a.2.1)) a.2.5))
    where
      o : ℕ
      o = (next_write l w.value).0

      unwritten : write_of (next_write l w.value).0 (take l.locked (or_writes l.writes)) ≡ None
      unwritten =
          ap (write_of (next_write l w.value).0) (told_take l.locked l.writes w.value fixed.untold a.2.0)
          ∙ unwritten_before (objects t) w.value l.locked once a.2.4

      unlocked : (h : Option Hold) → hold_value h ≡ None → h ≡ None
      unlocked None q = refl
      unlocked (Some h) q = absurd (cc)
  fails_by Check a once =
      same_word e.found (next_check l).word
      (lock_is (next_check l).object a.3 a.0 (unheld t es run.0 e.caller (next_check l).object unwritten)
      ∙ sym (now.reads (next_check l) read (inr unwritten)))
    where
      left : Contains (to_check l) (next_check l)
      left = got (to_check l) l.checked a.2.2

      read : Contains l.reads (next_check l)
      read = All-contains (Contains l.reads) (to_check l) (next_check l)
          (All-filter _ (Contains l.reads) l.reads (All-contains_itself l.reads)) left

      unwritten : write_of (next_check l).object (or_writes l.writes) ≡ None
      unwritten = no_value_is _ (All-contains
          (λ (r : Read). is_none (write_of r.object (or_writes l.writes)) ≡ true) (to_check l) (next_check l)
          (filter_passes _ l.reads) left)
  fails_by k a once = refl

  pub never_fails : NamesOnce (objects t) (writes_of e.kind) → fails e.kind l e ≡ false
  never_fails once = fails_by e.kind run.1.allowed once
