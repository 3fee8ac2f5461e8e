-- What an open of an object hands out that is open already, and what an open answers.
use Rattle.std.proofs.Common.{◌++◌, ◌<◌, ◌==◌, ◌∙◌, ◌∷◌, ◌≡◌, ◌≢◌, List, None, Option, Some, [], ap, arith, false, inl, inr, length, map, refl, sym, true, ℕ}
use Rattle.std.specs.Prelude.{Err, IfErr, IfOk, Ok, OnOk, Result, if◌then◌else◌, is_some, option_map}
use Rattle.std.specs.Option.{option_or}
use Rattle.std.proofs.lemmas.Bool.{cases_Bool, cond_both, eqb-true}
use Rattle.dstm_engine.proofs.Base.{Again, AreWrites, Read, ReadSlot, Reading, Shape, Val, Write, WriteSlot, Writing, or_old, read_of, value_at, value_in, with_set, word_of, write_of}
use Rattle.dstm_mem.proofs.WithSet.{found_by, unchanged_by}
use Rattle.dstm_opacity.proofs.Tidy.{Apart, WritesOnce, tidy}
use Rattle.dstm_engine.proofs.Opens.{no_slot, no_word, none_of, unheld_both, unset}
use Rattle.dstm_engine.proofs.Setting.{opened_slot, opened_there, with_new_apart}
use Rattle.dstm_engine.proofs.Sights.{sighted_admits}
use Rattle.dstm_engine.proofs.Slots.{slot_read}
use Rattle.dstm_engine.proofs.Tying.{live_there}
use Rattle.dstm_engine.specs.Attempts.{Admits}
use Rattle.dstm_engine.specs.Callers.{Called, entry, handed, held, is_live, is_opened, shape_of, state, written}
use Rattle.dstm_engine.specs.Calls.{reading}
use Rattle.dstm_engine.specs.Mirror.{Tied, called, set_pairs, slot_old, slot_value, with_new}
use Rattle.dstm_engine.specs.Opened.{read_slot, slots_value, write_slot}
use Rattle.dstm_engine.specs.Opens.{Continues}
use Rattle.dstm_engine.specs.Transactions.{given_back}
use Rattle.dstm_engine.specs.declared.caller.Caller.TheInside.{Inside}

-- ---- the values of the slots

read_value : (rs : List ReadSlot) (pairs : List (ℕ × Val)) (o : ℕ) (r : ReadSlot) → read_slot rs o ≡ Some r →
    value_in (map slot_value rs ++ pairs) o ≡ Some r.value
read_value [] pairs o r h = absurd (cc)
read_value (x ∷ rs) pairs o r h = elim (cases_Bool (x.object == o)) [
  | inl q ↦
      let z : Some x ≡ Some r = rw q at h in let y : x ≡ r = cc in
      rw q (ap (λ (s : ReadSlot). Some s.value) y)
  | inr q ↦ rw q (read_value rs pairs o r (rw q at h))
]

no_read_value : (rs : List ReadSlot) (pairs : List (ℕ × Val)) (o : ℕ) → read_slot rs o ≡ None →
    value_in (map slot_value rs ++ pairs) o ≡ value_in pairs o
no_read_value [] pairs o h = refl
no_read_value (x ∷ rs) pairs o h = elim (cases_Bool (x.object == o)) [
  | inl q ↦ absurd (let z : Some x ≡ None = rw q at h in cc)
  | inr q ↦ rw q (no_read_value rs pairs o (rw q at h))
]

old_value : (ws : List WriteSlot) (o : ℕ) → value_in (map slot_old ws) o ≡ option_map (λ (w : WriteSlot). w.old) (write_slot ws o)
old_value [] o = refl
old_value (w ∷ ws) o =
    cond_both (w.object == o) (Some w) (write_slot ws o)
    (λ x. (if w.object == o then Some w.old else value_in (map slot_old ws) o)
    ≡ option_map (λ (w : WriteSlot). w.old) x) (λ q. ap (λ b. if b then Some w.old else value_in (map slot_old ws) o) q)
    (λ q. ap (λ b. if b then Some w.old else value_in (map slot_old ws) o) q ∙ old_value ws o)

-- the value set for an object is that of its slot
set_value_of : (slots : List WriteSlot) (ws : List Write) (o : ℕ) (w : WriteSlot) → AreWrites slots ws → WritesOnce ws →
    write_slot slots o ≡ Some w → value_in (set_pairs slots) o ≡ w.new
set_value_of [] ws o w are once h = absurd (cc)
set_value_of (s ∷ slots) [] o w are once h = absurd are
set_value_of (s ∷ slots) (x ∷ ws) o w are once h = elim (cases_Bool (s.object == o)) [
  | inl q ↦
      let z : Some s ≡ Some w = rw q at h in
      let y : s ≡ w = cc in
      let none : write_slot slots o ≡ None =
      no_slot slots ws o are.1 (ap (λ n. write_of n ws) (sym (are.0 ∙ eqb-true s.object o q)) ∙ once.0) in
      here q s.new (unset slots o none) ∙ ap (λ (t : WriteSlot). t.new) y
  | inr q ↦ with_new_apart s.object o s.new (set_pairs slots) q ∙ set_value_of slots ws o w are.1 once.1 (rw q at h)
]
  where
    here : s.object == o ≡ true → (new : Option Val) → value_in (set_pairs slots) o ≡ None →
        value_in (with_new s.object new (set_pairs slots)) o ≡ new
    here q None none = none
    here q (Some v) none = rw q refl

-- an object that is open for writing is not read
apart_unread : (ws : List Write) (rs : List Read) (o : ℕ) → Apart ws rs → is_some (write_of o ws) ≡ true →
    read_of o rs ≡ None
apart_unread ws [] o h some = refl
apart_unread ws (r ∷ rs) o h some = elim (cases_Bool (r.object == o)) [
  | inl q ↦
      absurd (let z : is_some (write_of o ws) ≡ false = ap is_some
      (ap (λ n. write_of n ws) (sym (eqb-true r.object o q))
      ∙ h.0) in cc)
  | inr q ↦ rw q (apart_unread ws rs o h.1 some)
]

or_old_is : (new : Option Val) (old : Val) → Some (or_old new old) ≡ option_or new (Some old)
or_old_is None old = refl
or_old_is (Some x) old = refl

-- an object is open where it has a slot, and this hands out its value
pub record Hands {L : Type 0} (k : Called L) (o : ℕ) (slots : Option Val) : Type 0 where
  pub value : slots ≡ handed k o
  pub held : is_some slots ≡ is_some (held k o)

module _ {L : Type 0} {holds : L → List Val → Type 0} {c : Inside L} (v : Tied holds c) (live : c.live ≡ true)
    (o : ℕ) where
  holds_slots : held (called c) o ≡ value_in (map slot_value c.opened.reads ++ map slot_old c.opened.writes) o
  holds_slots = rw (v.values live, v.olds live) refl

  pub slots_hand : Hands (called c) o (slots_value (write_slot c.opened.writes o) (read_slot c.opened.reads o))
  slots_hand = by (write_slot c.opened.writes o) (read_slot c.opened.reads o) refl refl
    where
      hands : (w : Option WriteSlot) (r : Option ReadSlot) (new old : Option Val) → value_in (set_pairs c.opened.writes) o ≡ new →
          held (called c) o ≡ old → slots_value w r ≡ option_or new old → is_some (slots_value w r) ≡ is_some old →
          Hands (called c) o (slots_value w r)
      hands w r new old q h is some = record {
        value = is ∙ ap (λ x. option_or x old) (sym q) ∙ ap (option_or (value_in (set_pairs c.opened.writes) o)) (sym h);
        held = some ∙ ap is_some (sym h);
      }

      by : (w : Option WriteSlot) (r : Option ReadSlot) → write_slot c.opened.writes o ≡ w →
          read_slot c.opened.reads o ≡ r → Hands (called c) o (slots_value w r)
      by None None qw qr =
          hands None None None None (unset c.opened.writes o qw)
          (holds_slots ∙ no_read_value c.opened.reads (map slot_old c.opened.writes) o qr
          ∙ old_value c.opened.writes o ∙ ap (option_map (λ (w : WriteSlot). w.old)) qw) refl refl
      by None (Some r) qw qr =
          hands None (Some r) None (Some r.value) (unset c.opened.writes o qw)
          (holds_slots ∙ read_value c.opened.reads (map slot_old c.opened.writes) o r qr) refl refl
      by (Some w) r qw qr =
          let are = v.writes live in
          let t = tidy c.terms.shape (called c).log v.run.run.core c.number in
          let marked : is_some (write_of o (state (called c)).writes) ≡ true =
          opened_slot c.opened.writes (state (called c)).writes o are ∙ ap is_some qw in
          let unread : read_slot c.opened.reads o ≡ None = no_word (read_slot c.opened.reads o)
          (sym (ap word_of (apart_unread (state (called c)).writes (state (called c)).reads o t.apart marked))
          ∙ slot_read c.opened.reads (state (called c)).reads o (sym (v.reads live))) in
          hands (Some w) r w.new (Some w.old)
          (set_value_of c.opened.writes (state (called c)).writes o w are t.writes qw)
          (holds_slots ∙ no_read_value c.opened.reads (map slot_old c.opened.writes) o unread
          ∙ old_value c.opened.writes o ∙ ap (option_map (λ (w : WriteSlot). w.old)) qw) (or_old_is w.new w.old) refl

  -- an object that is held stays open as it is
  pub open_already : is_some (held (called c) o) ≡ true → Continues holds o (called c) (called c)
  open_already some =
      let reads : (entry (called c)).reads ≢ [] =
      λ none. let z : is_some (held (called c) o) ≡ false = ap (λ ps. is_some (value_in ps o)) none in cc in
      let sight = v.sighted live reads in
      record {
        live = sym (live_there v) ∙ live;
        sight = sight;
        held = record { held = some; kept = λ p h. refl; others = λ p other. refl };
        opened = record { kept = λ p h. h; others = λ p other. refl };
        attempt = refl;
        done = refl;
        narrows = λ map a. a;
        admits = sighted_admits v.run sight;
      }

-- ---- what an answer says

pub ok_then : {T E : Type 0} (r : Result T E) (P : T → Type 0) (Q : Type 0) → ((x : T) → P x → Q) → IfOk r P → OnOk r Q
ok_then (Ok x) P Q f h = f x h
ok_then (Err e) P Q f h = tt

pub if_err : {T E : Type 0} (r : Result T E) (P Q : E → Type 0) → ((e : E) → P e → Q e) → IfErr r P → IfErr r Q
if_err (Ok x) P Q f h = tt
if_err (Err e) P Q f h = f e h

-- ---- as the answers of an open see it

-- what an open for reading is to do
pub reading_all : (s : Shape) (o : ℕ) → s.all_write ≡ true → Writing o ≡ reading s o
reading_all s o all = rw all refl

pub reading_some : (s : Shape) (o : ℕ) → s.all_write ≡ false → Reading o ≡ reading s o
reading_some s o some = rw some refl

-- it finds the object's value, and what is set stays so
module _ {L : Type 0} (holds : L → List Val → Type 0) (k : Called L) {n : Called L} (r : Result Val Again)
    (kept : n ≡ record k { log = n.log; generator = n.generator; left = given_back r }) where
  pub finds : (o : ℕ) → o < (shape_of k).objects → IfOk r (λ v. Some v ≡ handed n o) →
      IfOk r (λ v. (map : List Val) → Admits holds n map → value_at (with_set map (written n)) o ≡ v)
  finds o exists value =
      let same = ap (λ (k : Called L). (shape_of k).objects) kept in
      found_by r (Admits holds n) (held n) (written n) o (λ map admitted.
      let size = admitted.length in
      let within : o < length map = omega arith in (within, admitted.agrees)) value

  pub sets_none : OnOk r ((map : List Val) → with_set map (written n) ≡ with_set map (written k))
  sets_none = unchanged_by r (written k) (written n) (λ p. ap (λ (k : Called L). written k p) kept)

module _ {L : Type 0} {holds : L → List Val → Type 0} {c : Inside L} (v : Tied holds c) {k : Called L}
    (view : called c ≡ k) (live : is_live k ≡ true) (o : ℕ) where
  on : c.live ≡ true
  on = live_there v ∙ ap is_live view ∙ live

  hands : Hands k o (slots_value (write_slot c.opened.writes o) (read_slot c.opened.reads o))
  hands = rw (← view) (slots_hand v on o)

  -- its slots hand out its value
  pub handed_there : slots_value (write_slot c.opened.writes o) (read_slot c.opened.reads o) ≡ handed k o
  handed_there = hands.value

  pub slot_held : (x : Val) → slots_value (write_slot c.opened.writes o) (read_slot c.opened.reads o) ≡ Some x →
      is_some (held k o) ≡ true
  slot_held x q = sym hands.held ∙ ap is_some q

  pub slot_none : slots_value (write_slot c.opened.writes o) (read_slot c.opened.reads o) ≡ None → held k o ≡ None
  slot_none q = none_of (held k o) (sym hands.held ∙ ap is_some q)

  pub slot_unopened : slots_value (write_slot c.opened.writes o) (read_slot c.opened.reads o) ≡ None →
      is_opened k o ≡ false
  slot_unopened q = rw (← view, (unheld_both v on o (ap (λ (k : Called L). held k o) view ∙ slot_none q)).0) refl

  -- it has a slot to write where it is open for writing
  pub write_there : is_opened k o ≡ is_some (write_slot c.opened.writes o)
  write_there =
      ap (λ (k : Called L). is_opened k o) (sym view)
      ∙ opened_there v on o

  -- what is held stays open as it is
  pub held_continues : is_some (held k o) ≡ true → Continues holds o k k
  held_continues some = rw (← view) (open_already v on o (ap (λ (k : Called L). is_some (held k o)) view ∙ some))
