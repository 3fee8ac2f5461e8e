-- A caller after an open.
use Rattle.std.proofs.Common.{◌++◌, ◌+◌, ◌<◌, ◌≤◌, ◌==◌, ◌∙◌, ◌∷◌, ◌≡◌, ◌≢◌, List, None, Option, Some, [], ap, arith, false, inl, inr, length, length-append, map, refl, subst, sym, true, ℕ}
use Rattle.std.specs.Prelude.{IsSome, IsTrue, if◌then◌else◌, is_some, option_map}
use Rattle.std.specs.Option.{option_or}
use Rattle.std.proofs.lemmas.Bool.{cases_Bool, cases_eq, cond_both, eq-eqb, ne_eqb}
use Rattle.std.proofs.lemmas.List.{length-map, map-append}
use Rattle.dstm_engine.proofs.Base.{Again, AreWrites, Committing, Doing, Event, HoldsAlso, IsNoReading, IsUnnamed, LocalState, MarksAtMost, Outside, Read, ReadSlot, Reading, Rechecking, Releasing, Running, Shape, Steps, Val, Work, Write, WriteSlot, Writing, drop_read, is_open, is_release, no_value, now, old_values, read_of, read_values, value_in, version_value, view_of, word_of, words_of, write_of}
use Rattle.dstm_steps.proofs.Puts.{slots_length}
use Rattle.dstm_steps.proofs.Stepping.{call_of}
use Rattle.dstm_mem.proofs.Pairs.{value_in-other, value_in-same}
use Rattle.dstm_opacity.proofs.Entries.{entry_once}
use Rattle.dstm_opacity.proofs.Maps.{few_are_named}
use Rattle.dstm_opacity.proofs.Room.{one_more_write}
use Rattle.dstm_opacity.proofs.Held.{version_by_open, version_held}
use Rattle.dstm_progress.specs.Alone as alone
use Rattle.dstm_engine.proofs.Continuing.{doing_keeps, kept_live, kept_most, told_more}
use Rattle.dstm_engine.proofs.HeldStill.{by_version, narrows_by, same_held, still_held}
use Rattle.dstm_engine.proofs.Keeping.{DropsNone, opens_keep, read_apart, write_apart, write_last, write_more}
use Rattle.dstm_engine.proofs.Left.{current_there, left_as, left_attempt, left_done, left_kept, left_leaves, left_uncommitted, on_tied, performed, same_done, stays, told_there}
use Rattle.dstm_engine.proofs.Steady.{stay}
use Rattle.dstm_engine.proofs.Setting.{opened_slot, set_pairs_push}
use Rattle.dstm_engine.proofs.Sights.{open_sees, sees_all, sighted_admits}
use Rattle.dstm_engine.proofs.Slots.{slot_read, words_push, words_without}
use Rattle.dstm_engine.proofs.Tying.{EndsHere, live_there, olds_in, reads_in, state_logged, state_then}
use Rattle.dstm_engine.specs.Attempts.{Sighted}
use Rattle.dstm_engine.specs.Callers.{Called, entry, handed, held, is_opened, is_running, state}
use Rattle.dstm_engine.specs.Calls.{IsTold, Performs}
use Rattle.dstm_engine.specs.Mirror.{AtRest, Tied, called, phase_by, set_pairs, slot_old, slot_value, slot_word, with_new}
use Rattle.dstm_engine.specs.Opened.{OpenedAs, read_slot, without_read, write_slot}
use Rattle.dstm_engine.specs.Opens.{AddsRead, AddsWrite, GoesOn, HasVersion, Opens, Stops}
use Rattle.dstm_engine.specs.declared.caller.Caller.TheInside.{Inside}

-- ---- any open

module _ {L : Type 0} {holds : L → List Val → Type 0} {c : Inside L} (v : Tied holds c) (live : c.live ≡ true)
    {work : Work} (is_one : is_open work ≡ true) {new : Steps L} {answer : Option Again}
    (u : EndsHere holds c (Doing work) new answer) where
  drops_none : DropsNone u.events
  drops_none = opens_keep work c.terms.shape (state (called c)) c.steps.decider.generator u.events is_one u.obeys

  -- what was held is held then, whatever the call answers
  pub holds_still : (o : ℕ) (x : Val) → held (called c) o ≡ Some x →
      held (called (record c { steps = new })) o ≡ Some x
  holds_still =
      still_held c.terms.shape c.terms.start.value.items (called c).log (view_of new.seat).log c.number u.run.run.core
      u.seen v.number.0 (current_there v live u).live u.events u.own drops_none

  pub holds_same : (o : ℕ) →
      version_held (state_logged c new) o ≡ version_held (state (called c)) o →
      held (called (record c { steps = new })) o ≡ held (called c) o
  holds_same =
      same_held c.terms.shape c.terms.start.value.items (called c).log (view_of new.seat).log c.number u.run.run.core
      u.seen v.number.0 (current_there v live u).live

  -- the caller's home, as a call leaves it
  pub same_home : (called (record c { steps = new })).home ≡ (called c).home
  same_home = ap (λ t. record (called c).home { table = t }) u.seat.0

-- an open counts one, and is no release
open_is : (work : Work) → is_open work ≡ true → (is_release work ≡ 0) × (alone.is_open work ≡ 1)
open_is (Reading o) h = (refl, refl)
open_is (Writing o) h = (refl, refl)
open_is (Releasing o) h = absurd (cc)
open_is Rechecking h = absurd (cc)
open_is (Committing value) h = absurd (cc)

-- ---- an open that ends well

module _ {L : Type 0} {holds : L → List Val → Type 0} {c : Inside L} (v : Tied holds c) (live : c.live ≡ true)
    {work : Work} (is_one : is_open work ≡ true) {new : Steps L} (u : EndsHere holds c (Doing work) new None)
    (goes : GoesOn (state (called c)) (now (called c).home new)) {last : Option ℕ}
    (last_is : last ≡ (now (called c).home new).last_pass) (opened : OpenedAs)
    (objects : opened.objects ≡ c.opened.objects) (set : set_pairs opened.writes ≡ set_pairs c.opened.writes)
    (words : words_of (now (called c).home new).reads ≡ map slot_word opened.reads)
    (values : reads_in c (view_of new.seat).log (now (called c).home new).reads
    ≡ map slot_value opened.reads) (writes : AreWrites opened.writes (now (called c).home new).writes)
    (olds : olds_in c (view_of new.seat).log (now (called c).home new).writes
    ≡ map slot_old opened.writes) (no_reading : c.terms.shape.all_write ≡ true → IsNoReading work)
    (few : length (now (called c).home new).reads ≤ length (state (called c)).reads + 1) where
  abbrev pub opened_as : Inside L
  opened_as = record c { steps = new; last_number = last; opened = opened }

  pub opened_state : state (called opened_as) ≡ now (called c).home new
  opened_state = state_then c u

  runs : (state (called opened_as)).phase ≡ Running
  runs = ap (λ (l : LocalState). l.phase) opened_state ∙ goes.phase

  uncommitted : (state (called opened_as)).committed ≡ false
  uncommitted = ap (λ (l : LocalState). l.committed) opened_state ∙ goes.committed ∙ v.uncommitted live

  steps : Performs holds (Doing work) (called c) (called opened_as) None
  steps = performed v live u (called opened_as) refl refl refl refl

  pub opened_sighted : Sighted (called opened_as)
  opened_sighted =
      sees_all (called opened_as) (open_sees c.number (view_of new.seat).log (called c).log is_one
      (v.phase ∙ ap phase_by live) (call_of u).0 u.own runs)

  told : IsTold (called opened_as)
  told =
      told_more (told_there v live u) steps (current_there v live u).live (doing_keeps steps) refl (v.left live)
      no_reading (let most = kept_most (called opened_as) in
      let same = ap (λ (l : LocalState). length l.reads) opened_state in
      let was = kept_live (called c) (sym (live_there v) ∙ live) in
      let one = open_is work is_one in omega arith)

  pub opened_tied : Tied holds opened_as
  opened_tied =
      on_tied v live u opened runs uncommitted (ap (λ (l : LocalState). l.last_pass) opened_state ∙ sym last_is)
      (subst (λ (l : LocalState). AtRest l) (sym opened_state) goes.rest) told (λ some. opened_sighted)
      (ap (λ (l : LocalState). words_of l.reads) opened_state ∙ words)
      (ap (λ (l : LocalState). reads_in c (view_of new.seat).log l.reads)
      opened_state ∙ values) (subst (λ (l : LocalState). AreWrites opened.writes l.writes) (sym opened_state) writes)
      (ap (λ (l : LocalState). olds_in c (view_of new.seat).log l.writes) opened_state ∙ olds) objects

  -- the attempt goes on with an object more
  pub opens_with : {o : ℕ} {value : Val} → HoldsAlso o (held (called c)) (held (called opened_as)) →
      MarksAtMost o (is_opened (called c)) (is_opened (called opened_as)) → Some value ≡ handed (called opened_as) o →
      Opens holds work o (called c) (called opened_as) value
  opens_with also marks hands = record {
    stays = stays steps (λ out. let x = runs in cc);
    kept = rw (u.seat.0, set, v.left live) refl;
    continues = record {
      live = ap is_running runs;
      sight = opened_sighted;
      held = also;
      opened = marks;
      attempt = doing_keeps steps;
      done = same_done v live u uncommitted;
      narrows = narrows_by holds (called c) (called opened_as) (same_home v live is_one u)
          (holds_still v live is_one u);
      admits = sighted_admits u.run opened_sighted;
    };
    hands = hands;
  }

-- ---- an open that has left its attempt

module _ {L : Type 0} {holds : L → List Val → Type 0} {c : Inside L} (v : Tied holds c) (live : c.live ≡ true)
    {work : Work} (is_one : is_open work ≡ true) {new : Steps L} {again : Again}
    (u : EndsHere holds c (Doing work) new (Some again))
    (no_reading : c.terms.shape.all_write ≡ true → IsNoReading work) (last : Option ℕ) (opened : OpenedAs)
    (set : set_pairs opened.writes ≡ set_pairs c.opened.writes) where
  pub stopped : Stops holds work (called c) (called (left_as c new last again opened)) again
  stopped = record {
    leaves = left_leaves v live u no_reading last opened;
    kept = left_kept v live u no_reading last opened set;
    over = record {
      live = ap is_running (left_uncommitted v live u no_reading last opened).0;
      attempt = left_attempt v live u no_reading last opened;
      done = left_done v live u no_reading last opened;
      narrows = narrows_by holds (called c) (called (left_as c new last again opened)) (same_home v live is_one u)
          (holds_still v live is_one u);
    };
  }

-- ---- an open for reading

read_last : (o : ℕ) (rs : List Read) (r : Read) → r.object ≡ o → read_of o rs ≡ None →
    read_of o (rs ++ r ∷ []) ≡ Some r
read_last o [] r q none = rw (eq-eqb r.object o q) refl
read_last o (x ∷ rs) r q none = elim (cases_Bool (x.object == o)) [
  | inl z ↦ absurd (let w : Some x ≡ None = rw z at none in cc)
  | inr z ↦ rw z (read_last o rs r q (rw z at none))
]

read_other : (o : ℕ) (rs : List Read) (r : Read) → r.object ≢ o → read_of o (rs ++ r ∷ []) ≡ read_of o rs
read_other o [] r other = rw (ne_eqb r.object o other) refl
read_other o (x ∷ rs) r other = ap (λ y. if x.object == o then Some x else y) (read_other o rs r other)

-- what is not held is neither read nor open for writing
pub unheld_open : (w : Option Write) (r : Option Read) (f : ℕ → Val) → option_map f (version_by_open w r) ≡ None →
    (w ≡ None) × (r ≡ None)
unheld_open None None f h = (refl, refl)
unheld_open None (Some r) f h = absurd (cc)
unheld_open (Some w) r f h = absurd (cc)

read_values-push : (s : Shape) (start : List Val) (run : List Event) (rs : List Read) (r : Read) →
    read_values s start run (rs ++ r ∷ [])
    ≡ read_values s start run rs ++ (r.object, version_value s start run r.object r.version) ∷ []
read_values-push s start run [] r = refl
read_values-push s start run (x ∷ rs) r =
    ap (λ xs. (x.object, version_value s start run x.object x.version) ∷ xs) (read_values-push s start run rs r)

old_values-push : (s : Shape) (start : List Val) (run : List Event) (ws : List Write) (w : Write) →
    old_values s start run (ws ++ w ∷ [])
    ≡ old_values s start run ws ++ (w.object, version_value s start run w.object w.old) ∷ []
old_values-push s start run [] w = refl
old_values-push s start run (x ∷ ws) w =
    ap (λ xs. (x.object, version_value s start run x.object x.old) ∷ xs) (old_values-push s start run ws w)

slot_values-push : (rs : List ReadSlot) (r : ReadSlot) → map slot_value (rs ++ r ∷ []) ≡ map slot_value rs ++ slot_value r ∷ []
slot_values-push [] r = refl
slot_values-push (x ∷ rs) r = ap (λ xs. slot_value x ∷ xs) (slot_values-push rs r)

slot_olds-push : (ws : List WriteSlot) (w : WriteSlot) → map slot_old (ws ++ w ∷ []) ≡ map slot_old ws ++ slot_old w ∷ []
slot_olds-push [] w = refl
slot_olds-push (x ∷ ws) w = ap (λ xs. slot_old x ∷ xs) (slot_olds-push ws w)

-- an object that has no slot has no value set
pub unset : (slots : List WriteSlot) (o : ℕ) → write_slot slots o ≡ None → value_in (set_pairs slots) o ≡ None
unset [] o none = refl
unset (s ∷ slots) o none = elim (cases_Bool (s.object == o)) [
  | inl q ↦ absurd (let z : Some s ≡ None = rw q at none in cc)
  | inr q ↦ other q s.new (unset slots o (rw q at none))
]
  where
    other : s.object == o ≡ false → (new : Option Val) → value_in (set_pairs slots) o ≡ None →
        value_in (with_new s.object new (set_pairs slots)) o ≡ None
    other q None h = h
    other q (Some x) h = rw q h

pub none_of : {A : Type 0} (o : Option A) → is_some o ≡ false → o ≡ None
none_of None h = refl
none_of (Some x) h = absurd (cc)

-- and an object that is not open for writing has no slot
pub no_slot : (slots : List WriteSlot) (ws : List Write) (o : ℕ) → AreWrites slots ws → write_of o ws ≡ None →
    write_slot slots o ≡ None
no_slot slots ws o are none = none_of (write_slot slots o) (sym (opened_slot slots ws o are) ∙ ap is_some none)

pub no_word : (x : Option ReadSlot) → None ≡ option_map (λ (s : ReadSlot). s.word) x → x ≡ None
no_word None h = refl
no_word (Some s) h = absurd (cc)

unnamed_of : (ps : List (ℕ × Val)) (o : ℕ) → value_in ps o ≡ None → IsUnnamed o ps
unnamed_of [] o h = tt
unnamed_of (p ∷ ps) o h = elim (cases_eq p.0 o) [
  | inl q ↦ absurd (let z : None ≡ Some p.1 = sym h ∙ value_in-same p ps o q in cc)
  | inr n ↦ (n, unnamed_of ps o (sym (value_in-other p ps o n) ∙ h))
]

-- what is held of an object that has just been opened is the only one more
also_held : {L : Type 0} (k n : Called L) (o : ℕ) (value : Val) → held n o ≡ Some value →
    ((p : ℕ) (x : Val) → held k p ≡ Some x → held n p ≡ Some x) → ((p : ℕ) → p ≢ o → held n p ≡ held k p) →
    HoldsAlso o (held k) (held n)
also_held k n o value is still others = record {
  held = ap is_some is;
  kept = λ p some. by p (held k p) refl some;
  others = others;
}
  where
    by : (p : ℕ) (h : Option Val) → held k p ≡ h → IsSome h → held n p ≡ held k p
    by p None q some = absurd (let z : false ≡ true = some in cc)
    by p (Some x) q some = still p x q ∙ sym q

module _ {L : Type 0} {holds : L → List Val → Type 0} {c : Inside L} (v : Tied holds c) (live : c.live ≡ true) (o : ℕ)
  where
    inside : (state (called c)).phase ≢ Outside
    inside out = let x = v.phase in let y = ap phase_by live in cc

    -- an object that is not held is neither read nor open for writing
    pub unheld_both : held (called c) o ≡ None →
        (write_of o (state (called c)).writes ≡ None) × (read_of o (state (called c)).reads ≡ None)
    unheld_both unheld =
        unheld_open (write_of o (state (called c)).writes) (read_of o (state (called c)).reads) _
        (sym (by_version c.terms.shape c.terms.start.value.items (called c).log c.number o v.run.run.core) ∙ unheld)

    -- nor has it a slot
    pub unheld_slot : held (called c) o ≡ None → read_slot c.opened.reads o ≡ None
    unheld_slot unheld =
        no_word (read_slot c.opened.reads o) (sym (ap word_of (unheld_both unheld).1)
        ∙ slot_read c.opened.reads (state (called c)).reads o (sym (v.reads live)))

    -- so there is room for it
    pub room_to_read : o < c.terms.shape.objects → held (called c) o ≡ None →
        length c.opened.reads < c.opened.objects
    room_to_read below unheld =
        let all = few_are_named c.terms.shape.objects ((o, no_value) ∷ (entry (called c)).reads) (
          below,
          unnamed_of (entry (called c)).reads o unheld,
          (entry_once c.terms.shape c.terms.start.value.items (called c).log (called c).log c.number v.run.run.core
              v.number.0 inside).reads,
        ) in
        let longer = length-append (reads_in c (called c).log (state (called c)).reads) (olds_in c (called c).log
        (state (called c)).writes) in
        let same = ap (λ xs. length xs) (v.values live) in
        let slots = length-map c.opened.reads slot_value in
        let objects = v.objects in
        omega arith

    pub room_to_write : o < c.terms.shape.objects → is_opened (called c) o ≡ false →
        length c.opened.writes < c.opened.objects
    room_to_write below unopened =
        let few = one_more_write c.terms.shape (called c).log c.number o v.run.run.core v.number.0 inside below
        (none_of (write_of o (state (called c)).writes) unopened) in
        let same = slots_length c.opened.writes (state (called c)).writes (v.writes live) in
        let objects = v.objects in
        omega arith

    pub no_slot_of : is_opened (called c) o ≡ false → write_slot c.opened.writes o ≡ None
    no_slot_of unopened =
        no_slot c.opened.writes (state (called c)).writes o (v.writes live)
        (none_of (write_of o (state (called c)).writes) unopened)

    -- and a locator
    pub locator_left : o < c.terms.shape.objects → is_opened (called c) o ≡ false →
        (state (called c)).installed < c.terms.shape.locators
    locator_left below unopened =
        let few = one_more_write c.terms.shape (called c).log c.number o v.run.run.core v.number.0 inside below
        (none_of (write_of o (state (called c)).writes) unopened) in
        let room = v.locators live in
        omega arith

module _ {L : Type 0} {holds : L → List Val → Type 0} {c : Inside L} (v : Tied holds c) (live : c.live ≡ true)
    {o word version : ℕ} (value : Val) {new : Steps L} (u : EndsHere holds c (Doing (Reading o)) new None)
    (adds : AddsRead o word version (state (called c)) (now (called c).home new))
    (valued : HasVersion (called c).home new o version value) {last : Option ℕ}
    (last_is : last ≡ (now (called c).home new).last_pass) (unheld : held (called c) o ≡ None)
    (reads : c.terms.shape.all_write ≡ false) where
  abbrev pub read_opened : OpenedAs
  read_opened = record c.opened {
    reads = c.opened.reads ++ record { object = o; word = word; value = value; kept = true } ∷ [];
  }

  abbrev new_read : Read
  new_read = record { object = o; word = word; version = version }

  none_open : (write_of o (state (called c)).writes ≡ None) × (read_of o (state (called c)).reads ≡ None)
  none_open = unheld_both v live o unheld

  words : words_of (now (called c).home new).reads ≡ map slot_word read_opened.reads
  words =
      ap words_of adds.reads ∙ words_push (state (called c)).reads _ ∙ ap (λ xs. xs ++ (o, word) ∷ []) (v.reads live)
      ∙ sym (map-append slot_word c.opened.reads (_ ∷ []))

  values : reads_in c (view_of new.seat).log (now (called c).home new).reads
      ≡ map slot_value read_opened.reads
  values =
      ap (reads_in c (view_of new.seat).log) adds.reads
      ∙ read_values-push c.terms.shape c.terms.start.value.items (view_of new.seat).log (state (called c)).reads _
      ∙ ap (λ xs. xs ++ (o, version_value c.terms.shape c.terms.start.value.items (view_of new.seat).log o version) ∷ [])
      ((stay v live u).0 ∙ v.values live)
      ∙ ap (λ x. map slot_value c.opened.reads ++ (o, x) ∷ []) valued ∙ sym (slot_values-push c.opened.reads _)

  writes : AreWrites c.opened.writes (now (called c).home new).writes
  writes = subst (AreWrites c.opened.writes) (sym adds.writes) (v.writes live)

  olds : olds_in c (view_of new.seat).log (now (called c).home new).writes
      ≡ map slot_old c.opened.writes
  olds =
      ap (olds_in c (view_of new.seat).log) adds.writes
      ∙ (stay v live u).1 ∙ v.olds live

  no_reading : c.terms.shape.all_write ≡ true → IsNoReading (Reading o)
  no_reading all = absurd (cc)

  one_more : length (now (called c).home new).reads ≤ length (state (called c)).reads + 1
  one_more =
      let more = length-append (state (called c)).reads (new_read ∷ []) in
      let same = ap (λ (rs : List Read). length rs) adds.reads in omega arith

  abbrev pub read_as : Inside L
  read_as = record c { steps = new; last_number = last; opened = read_opened }

  pub read_tied : Tied holds read_as
  read_tied =
      opened_tied v live refl u adds.goes_on last_is read_opened refl refl words values writes olds no_reading one_more

  st : state (called read_as) ≡ now (called c).home new
  st = state_then c u

  pub read_unmarked : (p : ℕ) → is_opened (called read_as) p ≡ is_opened (called c) p
  read_unmarked p = ap (λ (l : LocalState). is_some (write_of p l.writes)) st ∙ ap (λ ws. is_some (write_of p ws)) adds.writes

  holds_it : held (called read_as) o ≡ Some value
  holds_it =
      by_version c.terms.shape c.terms.start.value.items (view_of new.seat).log c.number o u.run.run.core
      ∙ rw (st, adds.writes, none_open.0, adds.reads, read_last o (state (called c)).reads new_read refl none_open.1)
      (ap Some valued)

  others : (p : ℕ) → p ≢ o → held (called read_as) p ≡ held (called c) p
  others p other =
      holds_same v live refl u p (rw (
        st,
        adds.writes,
        adds.reads,
        read_other p (state (called c)).reads new_read (λ z. other (sym z)),
      ) refl)

  pub read_opens : Opens holds (Reading o) o (called c) (called read_as) value
  read_opens =
      opens_with v live refl u adds.goes_on last_is read_opened refl refl words values writes olds no_reading one_more
      (also_held (called c) (called read_as) o value holds_it (holds_still v live refl u) others) (record {
        kept = λ p marked. subst IsTrue (sym (read_unmarked p)) marked;
        others = λ p other. read_unmarked p;
      }) (sym (ap (λ w. option_or w (held (called read_as) o))
      (unset c.opened.writes o (no_slot c.opened.writes (state (called c)).writes o (v.writes live) none_open.0))
      ∙ holds_it))

-- ---- an open for writing

drop_most : (o : ℕ) (rs : List Read) → length (drop_read o rs) ≤ length rs
drop_most o [] = omega arith
drop_most o (r ∷ rs) =
    let ih = drop_most o rs in
    cond_both (r.object == o) rs (r ∷ drop_read o rs) (λ (xs : List Read). length xs ≤ length (r ∷ rs))
    (λ _. omega arith) (λ _. omega arith)

-- the values of the reads without that of an object
values_without : (s : Shape) (start : List Val) (run : List Event) (rs : List Read) (slots : List ReadSlot) (o : ℕ) →
    read_values s start run rs ≡ map slot_value slots →
    read_values s start run (drop_read o rs) ≡ map slot_value (without_read o slots)
values_without s start run [] [] o h = refl
values_without s start run [] (x ∷ slots) o h = absurd (cc)
values_without s start run (r ∷ rs) [] o h = absurd (cc)
values_without s start run (r ∷ rs) (x ∷ slots) o h =
    let rest : read_values s start run rs ≡ map slot_value slots = cc in
    let head : slot_value x ≡ (r.object, version_value s start run r.object r.version) = cc in
    let object : r.object ≡ x.object = ap (λ (p : ℕ × Val). p.0) (sym head) in
    elim (cases_Bool (x.object == o)) [
      | inl q ↦ rw (ap (λ n. n == o) object ∙ q, q) rest
      | inr q ↦
          rw (ap (λ n. n == o) object ∙ q, q) (ap (λ p. p ∷ read_values s start run (drop_read o rs)) (sym head)
          ∙ ap (λ xs. slot_value x ∷ xs) (values_without s start run rs slots o rest))
    ]

are_writes-push : (slots : List WriteSlot) (ws : List Write) (x : WriteSlot) (w : Write) → AreWrites slots ws →
    w.object ≡ x.object → AreWrites (slots ++ x ∷ []) (ws ++ w ∷ [])
are_writes-push [] [] x w h q = (q, tt)
are_writes-push (y ∷ slots) (z ∷ ws) x w h q = (h.0, are_writes-push slots ws x w h.1 q)
are_writes-push [] (z ∷ ws) x w h q = absurd h
are_writes-push (y ∷ slots) [] x w h q = absurd h

still_marked : (p : ℕ) (ws : List Write) (w : Write) → IsTrue (is_some (write_of p ws)) →
    IsTrue (is_some (write_of p (ws ++ w ∷ [])))
still_marked p ws w marked = by (write_of p ws) refl marked
  where
    by : (x : Option Write) → write_of p ws ≡ x → IsTrue (is_some x) → IsTrue (is_some (write_of p (ws ++ w ∷ [])))
    by None q some = absurd (let z : false ≡ true = some in cc)
    by (Some x) q some = subst (λ y. IsTrue (is_some y)) (sym (write_more p ws w x q)) some

module _ {L : Type 0} {holds : L → List Val → Type 0} {c : Inside L} (v : Tied holds c) (live : c.live ≡ true)
    {o version : ℕ} (value : Val) {new : Steps L} (u : EndsHere holds c (Doing (Writing o)) new None)
    (adds : AddsWrite o version (state (called c)) (now (called c).home new))
    (valued : HasVersion (called c).home new o version value) {last : Option ℕ}
    (last_is : last ≡ (now (called c).home new).last_pass) (unopened : is_opened (called c) o ≡ false) where
  abbrev pub write_opened : OpenedAs
  write_opened = record c.opened {
    reads = without_read o c.opened.reads;
    writes = c.opened.writes ++ record { object = o; old = value; new = None } ∷ [];
  }

  abbrev new_write : Write
  new_write = record { object = o; locator = adds.locator; old = version }

  unwritten : write_of o (state (called c)).writes ≡ None
  unwritten = none_of (write_of o (state (called c)).writes) unopened

  words_w : words_of (now (called c).home new).reads ≡ map slot_word write_opened.reads
  words_w = ap words_of adds.reads ∙ sym (words_without c.opened.reads (state (called c)).reads o (sym (v.reads live)))

  values_w : reads_in c (view_of new.seat).log (now (called c).home new).reads
      ≡ map slot_value write_opened.reads
  values_w =
      ap (reads_in c (view_of new.seat).log) adds.reads
      ∙ values_without c.terms.shape c.terms.start.value.items (view_of new.seat).log (state (called c)).reads
      c.opened.reads o ((stay v live u).0 ∙ v.values live)

  writes_w : AreWrites write_opened.writes (now (called c).home new).writes
  writes_w = rw adds.writes (are_writes-push c.opened.writes (state (called c)).writes _ _ (v.writes live) refl)

  olds_w : olds_in c (view_of new.seat).log (now (called c).home new).writes
      ≡ map slot_old write_opened.writes
  olds_w =
      ap (olds_in c (view_of new.seat).log) adds.writes
      ∙ old_values-push c.terms.shape c.terms.start.value.items (view_of new.seat).log (state (called c)).writes _
      ∙ ap (λ xs. xs ++ (o, version_value c.terms.shape c.terms.start.value.items (view_of new.seat).log o version) ∷ [])
      ((stay v live u).1 ∙ v.olds live)
      ∙ ap (λ x. map slot_old c.opened.writes ++ (o, x) ∷ []) valued ∙ sym (slot_olds-push c.opened.writes _)

  no_more : length (now (called c).home new).reads ≤ length (state (called c)).reads + 1
  no_more =
      let fewer = drop_most o (state (called c)).reads in
      let same = ap (λ (rs : List Read). length rs) adds.reads in omega arith

  set_w : set_pairs write_opened.writes ≡ set_pairs c.opened.writes
  set_w = set_pairs_push c.opened.writes _ refl

  abbrev pub write_as : Inside L
  write_as = record c { steps = new; last_number = last; opened = write_opened }

  pub write_tied : Tied holds write_as
  write_tied =
      opened_tied v live refl u adds.goes_on last_is write_opened refl set_w words_w values_w
      writes_w olds_w (λ all. tt) no_more

  st_w : state (called write_as) ≡ now (called c).home new
  st_w = state_then c u

  marks_w : (p : ℕ) → is_opened (called write_as) p ≡ is_some (write_of p ((state (called c)).writes ++ new_write ∷ []))
  marks_w p = ap (λ (l : LocalState). is_some (write_of p l.writes)) st_w ∙ ap (λ ws. is_some (write_of p ws)) adds.writes

  pub write_marked : IsTrue (is_opened (called write_as) o)
  write_marked = marks_w o ∙ ap is_some (write_last o (state (called c)).writes _ refl unwritten)

  holds_w : held (called write_as) o ≡ Some value
  holds_w =
      by_version c.terms.shape c.terms.start.value.items (view_of new.seat).log c.number o u.run.run.core
      ∙ rw (st_w, adds.writes, write_last o (state (called c)).writes new_write refl unwritten) (ap Some valued)

  others_w : (p : ℕ) → p ≢ o → held (called write_as) p ≡ held (called c) p
  others_w p other =
      holds_same v live refl u p (rw (
        st_w,
        adds.writes,
        write_apart p (state (called c)).writes new_write (λ z. other (sym z)),
        adds.reads,
        read_apart o p (state (called c)).reads other,
      ) refl)

  pub write_opens : Opens holds (Writing o) o (called c) (called write_as) value
  write_opens =
      opens_with v live refl u adds.goes_on last_is write_opened refl set_w words_w values_w writes_w olds_w (λ all. tt)
      no_more (also_held (called c) (called write_as) o value holds_w (holds_still v live refl u) others_w) (record {
        kept = λ p marked. subst IsTrue (sym (marks_w p)) (still_marked p (state (called c)).writes _ marked);
        others = λ p other. marks_w p ∙ ap is_some (write_apart p (state (called c)).writes _ (λ z. other (sym z)));
      }) (sym (ap (λ w. option_or w (held (called write_as) o)) (ap (λ xs. value_in xs o) set_w
      ∙ unset c.opened.writes o (no_slot c.opened.writes (state (called c)).writes o (v.writes live) unwritten))
      ∙ holds_w))
