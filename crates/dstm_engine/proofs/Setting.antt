-- A value that is set.
use Rattle.std.proofs.Common.{◌++◌, ◌==◌, ◌∙◌, ◌∷◌, ◌≡◌, ◌≢◌, Bool, List, None, Option, Some, [], ap, cond, false, inl, inr, map, refl, sym, true, ℕ}
use Rattle.std.specs.Prelude.{IfSome, is_some}
use Rattle.std.proofs.lemmas.Bool.{cases_Bool, cond_both, eqb-true, ne_eqb}
use Rattle.dstm_engine.proofs.Base.{AreWrites, SetsOnly, Val, Write, WriteSlot, value_in, write_of}
use Rattle.dstm_engine.specs.Callers.{Called, is_opened, state}
use Rattle.dstm_engine.specs.Outcomes.{IsLeft, Promises}
use Rattle.dstm_engine.specs.Mirror.{Tied, called, set_pairs, slot_old, with_new}
use Rattle.dstm_engine.specs.Opened.{with_set_slot, write_slot}
use Rattle.dstm_engine.specs.declared.caller.Caller.TheInside.{Inside}

-- an object is open for writing where it has a slot
pub opened_slot : (slots : List WriteSlot) (writes : List Write) (o : ℕ) → AreWrites slots writes →
    is_some (write_of o writes) ≡ is_some (write_slot slots o)
opened_slot [] [] o h = refl
opened_slot (s ∷ slots) (w ∷ writes) o h = elim (cases_Bool (s.object == o)) [
  | inl q ↦ rw (h.0, q) refl
  | inr q ↦ rw (h.0, q) (opened_slot slots writes o h.1)
]
opened_slot [] (w ∷ writes) o h = absurd h
opened_slot (s ∷ slots) [] o h = absurd h

pub opened_there : {L : Type 0} {holds : L → List Val → Type 0} {c : Inside L} → Tied holds c → c.live ≡ true →
    (o : ℕ) → is_opened (called c) o ≡ is_some (write_slot c.opened.writes o)
opened_there {c = c} v live o = opened_slot c.opened.writes (state (called c)).writes o (v.writes live)

-- the slots stay those of the writes, with the same old values
pub are_writes_set : (o : ℕ) (v : Val) (slots : List WriteSlot) (writes : List Write) → AreWrites slots writes →
    AreWrites (with_set_slot o v slots) writes
are_writes_set o v [] writes h = h
are_writes_set o v (s ∷ slots) [] h = absurd h
are_writes_set o v (s ∷ slots) (w ∷ writes) h =
    cond_both (s.object == o) (record s { new = Some v } ∷ slots) (s ∷ with_set_slot o v slots)
    (λ xs. AreWrites xs (w ∷ writes)) (λ _. h) (λ _. (h.0, are_writes_set o v slots writes h.1))

pub olds_set : (o : ℕ) (v : Val) (slots : List WriteSlot) →
    map slot_old (with_set_slot o v slots) ≡ map slot_old slots
olds_set o v [] = refl
olds_set o v (s ∷ slots) =
    cond_both (s.object == o) (record s { new = Some v } ∷ slots) (s ∷ with_set_slot o v slots)
    (λ xs. map slot_old xs ≡ map slot_old (s ∷ slots)) (λ _. refl) (λ _. ap (λ xs. slot_old s ∷ xs) (olds_set o v slots))

-- a pair before others
with_new_other : (object p : ℕ) (new : Option Val) (pairs others : List (ℕ × Val)) →
    value_in pairs p ≡ value_in others p →
    value_in (with_new object new pairs) p ≡ value_in (with_new object new others) p
with_new_other object p None pairs others h = h
with_new_other object p (Some x) pairs others h = ap (λ y. cond (object == p) (Some x) y) h

pub with_new_apart : (object p : ℕ) (new : Option Val) (pairs : List (ℕ × Val)) → object == p ≡ false →
    value_in (with_new object new pairs) p ≡ value_in pairs p
with_new_apart object p None pairs h = refl
with_new_apart object p (Some x) pairs h = rw h refl

set_value : (o : ℕ) (v : Val) (slots : List WriteSlot) → is_some (write_slot slots o) ≡ true →
    value_in (set_pairs (with_set_slot o v slots)) o ≡ Some v
set_value o v [] some = absurd (cc)
set_value o v (s ∷ slots) some = elim (cases_Bool (s.object == o)) [
  | inl q ↦ rw (q, q) refl
  | inr q ↦
      let more : is_some (write_slot slots o) ≡ true = rw q at some in
      rw q (with_new_apart s.object o s.new (set_pairs (with_set_slot o v slots)) q ∙ set_value o v slots more)
]

set_others : (o p : ℕ) (v : Val) (slots : List WriteSlot) → p ≢ o →
    value_in (set_pairs (with_set_slot o v slots)) p ≡ value_in (set_pairs slots) p
set_others o p v [] other = refl
set_others o p v (s ∷ slots) other = elim (cases_Bool (s.object == o)) [
  | inl q ↦
      let apart : s.object == p ≡ false = ne_eqb s.object p (λ z. other (sym z ∙ eqb-true s.object o q)) in
      rw (q, apart) (sym (with_new_apart s.object p s.new (set_pairs slots) apart))
  | inr q ↦
      rw q (with_new_other s.object p s.new (set_pairs (with_set_slot o v slots)) (set_pairs slots)
      (set_others o p v slots other))
]

-- only this object has a new value
pub sets_only : (o : ℕ) (v : Val) (slots : List WriteSlot) → is_some (write_slot slots o) ≡ true →
    SetsOnly o v (value_in (set_pairs slots)) (value_in (set_pairs (with_set_slot o v slots)))
sets_only o v slots some = record {
  value = set_value o v slots some;
  others = λ p other. set_others o p v slots other;
}

-- what contracts see of the caller then
abbrev after_set : {L : Type 0} → Inside L → Bool → List WriteSlot → Called L
after_set c fresh slots = record (called c) { fresh = fresh; set = set_pairs slots }

-- a caller stays as it was but for its transaction and the values that it sets
pub stays_tied : {L : Type 0} {holds : L → List Val → Type 0} {c : Inside L} (fresh : Bool) (slots : List WriteSlot) →
    Tied holds c → (fresh ≡ false → c.fresh ≡ false) →
    IfSome c.left (λ again. IsLeft (after_set c fresh slots) again × Promises (after_set c fresh slots) again) →
    (c.live ≡ true → AreWrites slots (state (called c)).writes) → map slot_old slots ≡ map slot_old c.opened.writes →
    Tied holds (record c { fresh = fresh; opened = record c.opened { writes = slots } })
stays_tied fresh slots t still ended writes olds = record {
  placed = t.placed;
  begun = t.begun;
  phase = t.phase;
  manager = t.manager;
  fresh = λ h. t.fresh (still h);
  unused = t.unused;
  last_number = t.last_number;
  rest = t.rest;
  left = t.left;
  ended = ended;
  uncommitted = t.uncommitted;
  told = λ made. let x = t.told made in record {
    calls = x.calls;
    own = x.own;
    are_calls = x.are_calls;
    each = x.each;
    generator = x.generator;
    left = x.left;
    writes = x.writes;
    releases = x.releases;
  };
  sighted = λ live some. let x = t.sighted live some in
      record { place = x.place; newest = x.newest; covers = x.covers };
  reads = t.reads;
  values = t.values;
  writes = writes;
  olds = λ live. t.olds live ∙ sym olds;
  objects = t.objects;
  locators = t.locators;
}

-- a value that is set
pub set_tied : {L : Type 0} {holds : L → List Val → Type 0} {c : Inside L} (o : ℕ) (v : Val) → Tied holds c →
    c.live ≡ true → Tied holds (record c { opened = record c.opened { writes = with_set_slot o v c.opened.writes } })
set_tied {c = c} o v t live =
    let slots = with_set_slot o v c.opened.writes in
    stays_tied c.fresh slots t (λ h. h)
    (rw (t.left live) tt) (λ on. are_writes_set o v c.opened.writes _ (t.writes on)) (olds_set o v c.opened.writes)

-- an object that was opened for writing has no value set yet
pub set_pairs_push : (slots : List WriteSlot) (s : WriteSlot) → s.new ≡ None →
    set_pairs (slots ++ s ∷ []) ≡ set_pairs slots
set_pairs_push [] s none = ap (λ x. with_new s.object x []) none
set_pairs_push (x ∷ slots) s none = ap (with_new x.object x.new) (set_pairs_push slots s none)
