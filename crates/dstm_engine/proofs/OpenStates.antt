-- The state in which an open ends.
use Rattle.std.proofs.Common.{◌++◌, ◌+◌, ◌==◌, ◌∙◌, ◌∷◌, ◌≡◌, ◌||◌, Bool, List, None, Option, Some, [], ap, arith, false, inl, inr, is_some, length, length-append, ne_eqb, refl, subst, sym, true, ℕ}
use Rattle.std.specs.Prelude.{is_none}
use Rattle.std.proofs.lemmas.Bool.{cases_Bool, cond_both, eq-eqb}
use Rattle.dstm_engine.proofs.Base.{IsFound, IsRunning, KeepsAttempt, LocalState, Manager, Phase, Read, Resolution, Running, Shape, Write, drop_read, install, is_resolved, keep_resolved, next_locator, or_unresolved, or_zero, passed, read_of, record_resolved, res, rises, version, write_of}
use Rattle.dstm_steps.proofs.FoundValues.{found_kept}
use Rattle.dstm_steps.specs.Opening.{Acquired, risen}
use Rattle.dstm_steps.specs.declared.resolving.Found.{Found}
use Rattle.dstm_opacity.proofs.Held.{version_by_open, version_held}
use Rattle.dstm_engine.proofs.Keeping.{write_last}
use Rattle.dstm_engine.specs.Opens.{AddsRead, AddsWrite, GoesOn}

-- ---- a read that is recorded

-- a resolved object with no read recorded becomes the last read
pub recorded_new : (o : Option Resolution) (rs : List Read) → is_some o ≡ true → is_resolved (or_unresolved o) ≡ true →
    read_of (or_unresolved o).object rs ≡ None → record_resolved o rs ≡ rs ++ record {
      object = (or_unresolved o).object;
      word = (or_unresolved o).word;
      version = or_zero (version (or_unresolved o));
    } ∷ []
recorded_new None rs there resolved none = absurd (cc)
recorded_new (Some r) rs there resolved none = rw (resolved, none) refl

read_last : (o : ℕ) (rs : List Read) (r : Read) → r.object ≡ o → is_none (read_of o (rs ++ r ∷ [])) ≡ false
read_last o [] r q = rw (eq-eqb r.object o q) refl
read_last o (x ∷ rs) r q =
    cond_both (x.object == o) (Some x) (read_of o (rs ++ r ∷ [])) (λ y. is_none y ≡ false) (λ _. refl)
    (λ _. read_last o rs r q)

-- and is recorded once
recorded_again : (o : Option Resolution) (rs : List Read) →
    record_resolved (keep_resolved o) (record_resolved o rs) ≡ record_resolved o rs
recorded_again None rs = refl
recorded_again (Some r) rs = elim (cases_Bool (is_resolved r)) [
  | inr unknown ↦ rw unknown refl
  | inl known ↦ elim (cases_Bool (is_none (read_of r.object rs))) [
    | inr there ↦ rw (known, there, known, there) refl
    | inl none ↦
        let last : is_none (read_of r.object (rs ++ record {
          object = r.object;
          word = r.word;
          version = or_zero (version r);
        } ∷ [])) ≡ false = read_last r.object rs _ refl in
        rw (known, none, known, last) refl
  ]
]

-- ---- the state after the pass, and after the rank was raised

-- the attempt is under way, as it was
record Same (old new : LocalState) : Type 0 where
  phase : new.phase ≡ Running
  committed : new.committed ≡ old.committed
  agreed : new.stale ≡ false
  not_put : (new.written ≡ 0) × (new.high_put ≡ false)

goes_passed : (number : ℕ) {old l : LocalState} → Same old l → GoesOn old (passed number l)
goes_passed number {l = l} s = record {
  phase = s.phase;
  committed = s.committed;
  rest = record {
    agreed = s.agreed;
    no_pass = refl;
    not_put = s.not_put;
    recorded = recorded_again l.resolution l.reads;
  };
}

goes_risen : (m : Manager) {old l : LocalState} → GoesOn old l → GoesOn old (risen m l)
goes_risen m {old = old} g =
    cond_both (rises m) _ _ (GoesOn old) (λ _. record {
      phase = g.phase;
      committed = g.committed;
      rest = record {
        agreed = g.rest.agreed;
        no_pass = refl;
        not_put = g.rest.not_put;
        recorded = g.rest.recorded;
      };
    }) (λ _. g)

-- what is read and written, and the number of the pass, stay then
pub record Kept (old new : LocalState) : Type 0 where
  pub reads : new.reads ≡ old.reads
  pub writes : new.writes ≡ old.writes
  pub last_pass : new.last_pass ≡ old.last_pass
  pub resolution : new.resolution ≡ old.resolution

pub kept_risen : (m : Manager) (l : LocalState) → Kept l (risen m l)
kept_risen m l =
    cond_both (rises m) _ _ (Kept l) (λ _. record { reads = refl; writes = refl; last_pass = refl; resolution = refl })
    (λ _. record { reads = refl; writes = refl; last_pass = refl; resolution = refl })

-- ---- an open for reading

either_true : (a : Bool) → a || true ≡ true
either_true true = refl
either_true false = refl

-- what a state tells of its attempt
abbrev attempt_of : LocalState → Phase × Bool × Bool × ℕ × Bool
attempt_of l = (l.phase, l.committed, l.stale, l.written, l.high_put)

same_attempt : {old : LocalState} (new : LocalState) → attempt_of new ≡ attempt_of old → IsRunning old →
    (old.written ≡ 0) × (old.high_put ≡ false) → Same old new
same_attempt new is run put = record {
  phase = ap (λ a. a.0) is ∙ run.phase;
  committed = ap (λ a. a.1) is;
  agreed = ap (λ a. a.2) is ∙ run.agreed;
  not_put = (ap (λ a. a.3) is ∙ put.0, ap (λ a. a.4) is ∙ put.1);
}

-- what is resolved is kept
kept_whole : (o : Option Resolution) → is_some o ≡ true → is_resolved (or_unresolved o) ≡ true → keep_resolved o ≡ o
kept_whole None there resolved = refl
kept_whole (Some r) there resolved = rw resolved refl

module _ (old : LocalState) {before : LocalState} (object : ℕ) {found : Found} (keeps : KeepsAttempt old before)
    (at : (res before).object ≡ object) (is : IsFound before found) (unread : read_of object old.reads ≡ None) where
  -- the read that is recorded
  pub record_read : record_resolved before.resolution before.reads
      ≡ old.reads ++ record { object = object; word = found.word; version = found.version } ∷ []
  record_read =
      recorded_new before.resolution before.reads is.there is.resolved
      (ap (λ o. read_of o before.reads) at ∙ ap (λ (l : LocalState). read_of object l.reads) keeps ∙ unread)
      ∙ rw (ap (λ (l : LocalState). l.reads) keeps) (ap (λ o. old.reads ++ record {
        object = o;
        word = (res before).word;
        version = or_zero (version (res before));
      } ∷ []) at
      ∙ ap (λ w. old.reads ++ record { object = object; word = w; version = or_zero (version (res before)) } ∷ [])
      is.word ∙ ap (λ v. old.reads ++ record { object = object; word = found.word; version = or_zero v } ∷ [])
      is.version_is)

  -- so the rank is owed
  pub owed_read : (passed 0 before).owed ≡ true
  owed_read =
      let more : length (record_resolved before.resolution before.reads) ≡ length old.reads + 1 =
      let n = length-append old.reads (record { object = object; word = found.word; version = found.version } ∷ []) in
      let q = ap length record_read in omega arith in
      let reads : length before.reads ≡ length old.reads = ap (λ (l : LocalState). length l.reads) keeps in
      let other : length (record_resolved before.resolution before.reads) == length before.reads ≡ false =
      ne_eqb (length (record_resolved before.resolution before.reads)) (length before.reads) (λ z. omega arith) in
      rw other (either_true before.owed)

  module _ (m : Manager) (number : ℕ) {new : LocalState} (run : IsRunning old)
      (put : (old.written ≡ 0) × (old.high_put ≡ false)) (end : new ≡ risen m (passed number before)) where
    pub adds_read : AddsRead object found.word found.version old new
    adds_read =
        let l = passed number before in
        let k = kept_risen m l in
        subst (AddsRead object found.word found.version old) (sym end) (record {
          goes_on = goes_risen m (goes_passed number (same_attempt before (ap attempt_of keeps) run put));
          reads = k.reads ∙ record_read;
          writes = k.writes ∙ ap (λ (x : LocalState). x.writes) keeps;
        })

    -- what was found is still known
    pub found_still : IsFound new found
    found_still =
        subst (λ (x : LocalState). IsFound x found) (sym end) (found_kept ((kept_risen m (passed number before)).resolution
        ∙ kept_whole before.resolution is.there is.resolved) is)

    pub object_still : (res new).object ≡ object
    object_still =
        ap (λ (x : LocalState). (res x).object) end
        ∙ ap (λ o. (or_unresolved o).object) ((kept_risen m (passed number before)).resolution
        ∙ kept_whole before.resolution is.there is.resolved) ∙ at

    pub last_read : new.last_pass ≡ Some number
    last_read = ap (λ (x : LocalState). x.last_pass) end ∙ (kept_risen m (passed number before)).last_pass

-- ---- an open for writing

module _ {s : Shape} (m : Manager) (number : ℕ) {object : ℕ} {found : Found} {old mid new : LocalState}
    (run : IsRunning old) (put : (old.written ≡ 0) × (old.high_put ≡ false)) (a : Acquired s object old mid found)
    (end : new ≡ risen m (passed number mid)) where
  pub adds_write : AddsWrite object found.version old new
  adds_write =
      let end_is : new ≡ risen m (passed number (install s a.before)) =
      end ∙ ap (λ l. risen m (passed number l)) a.installed in
      let l = passed number (install s a.before) in
      let k = kept_risen m l in
      subst (AddsWrite object found.version old) (sym end_is) (record {
        goes_on = goes_risen m (goes_passed number (same_attempt (install s a.before) (ap attempt_of a.apart) run put));
        locator = next_locator s a.before;
        reads = k.reads ∙ rw (a.object_is, a.apart) refl;
        writes =
            k.writes
            ∙ rw (ap (λ (x : LocalState). x.writes) a.apart, a.object_is)
            (ap (λ v. old.writes ++ record { object = object; locator = next_locator s a.before; old = or_zero v } ∷ [])
            a.found_is.version_is);
      })

  pub last_write : new.last_pass ≡ Some number
  last_write = ap (λ (x : LocalState). x.last_pass) end ∙ (kept_risen m (passed number mid)).last_pass

-- what is read once the object is open
pub acquired_reads : {s : Shape} {object : ℕ} {old mid : LocalState} {found : Found} → Acquired s object old mid found →
    record_resolved mid.resolution mid.reads ≡ drop_read object old.reads
acquired_reads {object = object} a = rw (a.installed, a.object_is, a.apart) refl

-- and the version that was found is held
pub acquired_held : {s : Shape} {object : ℕ} {old mid : LocalState} {found : Found} → Acquired s object old mid found →
    write_of object old.writes ≡ None → version_held mid object ≡ Some found.version
acquired_held {s = s} {object = object} {old = old} a none =
    let new : Write = record {
      object = (res a.before).object;
      locator = next_locator s a.before;
      old = or_zero (version (res a.before));
    } in
    let was : write_of object a.before.writes ≡ None =
    ap (λ (l : LocalState). write_of object l.writes) a.apart ∙ none in
    ap (λ l. version_held l object) a.installed
    ∙ ap (λ w. version_by_open w (read_of object (drop_read (res a.before).object a.before.reads)))
    (write_last object a.before.writes new a.object_is was)
    ∙ ap (λ v. Some (or_zero v)) a.found_is.version_is

pub acquired_runs : {s : Shape} {object : ℕ} {old mid : LocalState} {found : Found} → Acquired s object old mid found →
    IsRunning old → mid.phase ≡ Running
acquired_runs a run =
    ap (λ (l : LocalState). l.phase) a.installed ∙ ap (λ (l : LocalState). l.phase) a.apart ∙ run.phase
