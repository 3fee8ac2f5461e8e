-- What a caller commits.
use Rattle.std.proofs.Common.{◌*◌, ◌+◌, ◌++◌, ◌-◌, ◌<◌, ◌==◌, ◌^◌, ◌∙◌, ◌∷◌, ◌≡◌, ◌≢◌, ◌≤◌, Bool, List, None, Option, Some, [], ap, arith, cond, false, inl, inr, length, map, ne_eqb, refl, subst, suc, sym, true, zero, ℕ}
use Rattle.std.specs.Option.{option_or}
use Rattle.std.specs.Prelude.{All, is_some, slice_index_or, unwrap_or}
use Rattle.std.proofs.lemmas.Bool.{cases_Bool, eq-eqb, eqb-true}
use Rattle.std.proofs.lemmas.Nat.{mul-le}
use Rattle.dstm_engine.proofs.Base.{Agrees, AgreesWith, AreWrites, Committing, Doing, Event, Home, InTask, IsLawful, LocalState, Read, Shape, Steps, Val, Write, WriteSlot, answer, caller_state, due, effort_by, entry_of, in_putting, is_outside, no_value, now, number_or, or_old, puts_of, read_values, seen, to_put, value_in, view_of, with_set, with_writes, write_of}
use Rattle.dstm_steps.proofs.Puts.{slots_length}
use Rattle.dstm_steps.proofs.Ranged.{few_locators}
use Rattle.dstm_steps.proofs.Stepping.{began_as}
use Rattle.dstm_core.proofs.Static.{static}
use Rattle.dstm_opacity.proofs.Tidy.{Apart, WritesOnce, tidy}
use Rattle.dstm_engine.proofs.Holding.{old_there}
use Rattle.dstm_engine.proofs.Opens.{none_of, unset}
use Rattle.dstm_engine.proofs.Setting.{opened_slot, opened_there, with_new_apart}
use Rattle.dstm_mem.proofs.Settling.{agrees_held, writes_same}
use Rattle.dstm_engine.proofs.Tying.{now_there, olds_in, renewed, starts_there}
use Rattle.dstm_engine.specs.Attempts.{Admits}
use Rattle.dstm_engine.specs.Callers.{handed, held, is_opened, law_of, new_value, state, written}
use Rattle.dstm_engine.specs.Mirror.{Tied, called, phase_by, set_pairs, slot_old, with_new}
use Rattle.dstm_engine.specs.Opened.{write_slot}
use Rattle.dstm_engine.specs.declared.caller.Caller.TheInside.{Inside}

-- the value that a commit by these steps puts into an object
abbrev pub value_there : {L : Type 0} → Home L → Steps L → List WriteSlot → ℕ → Val
value_there home steps slots o =
    unwrap_or (option_or (value_in (set_pairs slots) o)
    (value_in (entry_of home.terms.shape home.terms.start.value.items (view_of steps.seat).log (now home steps)).reads o))
    no_value

-- ---- slots that stand for different objects

abbrev SlotsOnce : List WriteSlot → Type 0
SlotsOnce [] = Unit {0}
SlotsOnce (w ∷ ws) = (write_slot ws w.object ≡ None) × SlotsOnce ws

slots_once : (slots : List WriteSlot) (writes : List Write) → AreWrites slots writes → WritesOnce writes → SlotsOnce slots
slots_once [] [] h o = tt
slots_once (w ∷ ws) (x ∷ xs) h o = (
  none_of (write_slot ws w.object)
      (sym (opened_slot ws xs w.object h.1) ∙ ap (λ n. is_some (write_of n xs)) (sym h.0)
      ∙ ap is_some o.0),
  slots_once ws xs h.1 o.1,
)
slots_once [] (x ∷ xs) h o = absurd h
slots_once (w ∷ ws) [] h o = absurd h

slot_apart : (w : WriteSlot) (ws : List WriteSlot) (o : ℕ) → write_slot (w ∷ ws) o ≡ None →
    (w.object == o ≡ false) × (write_slot ws o ≡ None)
slot_apart w ws o h = elim (cases_Bool (w.object == o)) [
  | inl q ↦ absurd (let z : Some w ≡ None = rw q at h in cc)
  | inr q ↦ (q, rw q at h)
]

-- what is put into an object is what is set for it, or its old value
puts_in : (ws : List WriteSlot) (o : ℕ) → SlotsOnce ws →
    value_in (puts_of ws) o
    ≡ cond (is_some (write_slot ws o)) (option_or (value_in (set_pairs ws) o) (value_in (map slot_old ws) o)) None
puts_in [] o h = refl
puts_in (w ∷ ws) o h = elim (cases_Bool (w.object == o)) [
  | inl q ↦ rw q (head w.new q (ap (write_slot ws) (sym (eqb-true w.object o q)) ∙ h.0))
  | inr q ↦
      rw q (puts_in ws o h.1 ∙ ap
      (λ x. cond (is_some (write_slot ws o)) (option_or x (value_in (map slot_old ws) o)) None)
      (sym (with_new_apart w.object o w.new (set_pairs ws) q)))
]
  where
    head : (new : Option Val) → w.object == o ≡ true → write_slot ws o ≡ None →
        Some (or_old new w.old) ≡ option_or (value_in (with_new w.object new (set_pairs ws)) o) (Some w.old)
    head None q none = rw (unset ws o none) refl
    head (Some x) q none = rw q refl

-- the slot at a place is the first of its object
slot_other : (ws : List WriteSlot) (o k : ℕ) (d : WriteSlot) → write_slot ws o ≡ None → k < length ws →
    (slice_index_or ws k d).object ≢ o
slot_other [] o k d h lt = absurd (omega arith)
slot_other (w ∷ ws) o zero d h lt =
    let k = slot_apart w ws o h in λ q. (let z = eq-eqb w.object o q in cc)
slot_other (w ∷ ws) o (suc k) d h lt = slot_other ws o k d (slot_apart w ws o h).1 (omega arith)

put_at : (ws : List WriteSlot) (k : ℕ) (d : WriteSlot) → SlotsOnce ws → k < length ws →
    value_in (puts_of ws) (slice_index_or ws k d).object ≡ Some (to_put (slice_index_or ws k d))
put_at [] k d h lt = absurd (omega arith)
put_at (w ∷ ws) zero d h lt = rw (eq-eqb w.object w.object refl) refl
put_at (w ∷ ws) (suc k) d h lt =
    rw (ne_eqb w.object (slice_index_or ws k d).object (λ q. slot_other ws w.object k d h.0 (omega arith) (sym q)))
    (put_at ws k d h.1 (omega arith))

-- an object that is open for writing is not read
apart_values : (s : Shape) (start : List Val) (run : List Event) (ws : List Write) (rs : List Read) (ys : List (ℕ × Val))
    (o : ℕ) → Apart ws rs → is_some (write_of o ws) ≡ true →
    value_in (read_values s start run rs ++ ys) o ≡ value_in ys o
apart_values s start run ws [] ys o h some = refl
apart_values s start run ws (r ∷ rs) ys o h some = elim (cases_Bool (r.object == o)) [
  | inl q ↦ absurd (let z = ap (λ n. is_some (write_of n ws)) (eqb-true r.object o q) in let y = ap is_some h.0 in cc)
  | inr q ↦ rw q (apart_values s start run ws rs ys o h.1 some)
]

unwrap_some : (x : Option Val) → is_some x ≡ true → Some (unwrap_or x no_value) ≡ x
unwrap_some None h = absurd (cc)
unwrap_some (Some v) h = refl

some_or : (x y : Option Val) → is_some y ≡ true → is_some (option_or x y) ≡ true
some_or None y h = h
some_or (Some v) y h = refl

-- A call begins with the first event of a commit: the locator of its first new value, and the values that it puts.
pub record Putting {L : Type 0} (holds : L → List Val → Type 0) (home : Home L) (steps : Steps L)
    (slots : List WriteSlot) (locator : ℕ) : Type 0 where
  pub under : InTask holds home (Doing (Committing (value_there home steps slots)))
      (began_as home (Doing (Committing (value_there home steps slots))) (number_or (view_of steps.seat).number 0) steps)
      steps (in_putting (value_there home steps slots) (now home steps)) None
  pub first : locator ≡ number_or (view_of steps.seat).number 0 * home.terms.shape.locators
      + ((now home steps).installed - length (now home steps).writes)
  pub values : All (λ slot. value_there home steps slots slot.object ≡ to_put slot) slots

module _ {L : Type 0} {holds : L → List Val → Type 0} {c : Inside L} (v : Tied holds c) (live : c.live ≡ true) where
  once : SlotsOnce c.opened.writes
  once =
      slots_once c.opened.writes (state (called c)).writes (v.writes live)
      (tidy c.terms.shape (called c).log v.run.run.core c.number).writes

  -- an object that is open for writing has its old value among the reads
  held_old : (o : ℕ) → is_opened (called c) o ≡ true → held (called c) o ≡ value_in (map slot_old c.opened.writes) o
  held_old o opens =
      apart_values c.terms.shape c.terms.start.value.items (called c).log (state (called c)).writes
      (state (called c)).reads (olds_in c (called c).log (state (called c)).writes) o
      (tidy c.terms.shape (called c).log v.run.run.core c.number).apart opens
      ∙ ap (λ ws. value_in ws o) (v.olds live)

  pub held_some : (o : ℕ) → is_opened (called c) o ≡ true → is_some (held (called c) o) ≡ true
  held_some o opens =
      ap is_some (held_old o opens) ∙ old_there c.opened.writes o
      ∙ sym (opened_there v live o) ∙ opens

  pub puts_handed : (o : ℕ) →
      value_in (puts_of c.opened.writes) o ≡ cond (is_opened (called c) o) (handed (called c) o) None
  puts_handed o =
      puts_in c.opened.writes o once
      ∙ ap (λ b. cond b (option_or (written (called c) o) (value_in (map slot_old c.opened.writes) o)) None)
      (sym (opened_there v live o))
      ∙ by (is_opened (called c) o) refl
    where
      by : (b : Bool) → is_opened (called c) o ≡ b →
          cond b (option_or (written (called c) o) (value_in (map slot_old c.opened.writes) o)) None
          ≡ cond b (handed (called c) o) None
      by true opens = ap (option_or (written (called c) o)) (sym (held_old o opens))
      by false opens = refl

  -- nothing is set for an object that is not open for writing
  pub unwritten : (o : ℕ) → is_opened (called c) o ≡ false → written (called c) o ≡ None
  unwritten o shut =
      unset c.opened.writes o (none_of (write_slot c.opened.writes o) (sym (opened_there v live o) ∙ shut))

  pub handed_value : (o : ℕ) → is_opened (called c) o ≡ true → Some (new_value (called c) o) ≡ handed (called c) o
  handed_value o opens =
      unwrap_some (handed (called c) o) (some_or (written (called c) o) (held (called c) o) (held_some o opens))

  -- what is put into the object of a slot
  slot_put : (k : ℕ) (d : WriteSlot) → k < length c.opened.writes →
      new_value (called c) (slice_index_or c.opened.writes k d).object ≡ to_put (slice_index_or c.opened.writes k d)
  slot_put k d lt =
      let o = (slice_index_or c.opened.writes k d).object in
      let is : cond (is_opened (called c) o) (handed (called c) o) None
      ≡ Some (to_put (slice_index_or c.opened.writes k d)) = sym (puts_handed o) ∙ put_at c.opened.writes k d once lt in
      by (is_opened (called c) o) (handed (called c) o) is
    where
      by : (b : Bool) (h : Option Val) → cond b h None ≡ Some (to_put (slice_index_or c.opened.writes k d)) →
          unwrap_or h no_value ≡ to_put (slice_index_or c.opened.writes k d)
      by true h is = ap (λ x. unwrap_or x no_value) is
      by false h is = absurd (cc)

  lawful_here : ((map : List Val) → Admits holds (called c) map →
      holds (law_of (called c)) (with_set map (written (called c)))) → (map : List Val) →
      length map ≡ c.terms.shape.objects → holds c.terms.law.value map →
      Agrees map (seen c.terms.shape c.terms.start.value.items (called c).log (called c).log c.number) →
      holds c.terms.law.value (with_writes map (puts_of c.opened.writes))
  lawful_here lawful map size was agrees =
      let all : AgreesWith map (held (called c)) = agrees_held map (held (called c))
      (seen c.terms.shape c.terms.start.value.items (called c).log (called c).log c.number) agrees (λ o. refl) in
      subst (holds c.terms.law.value)
      (writes_same map (held (called c)) (written (called c)) (is_opened (called c)) (puts_of c.opened.writes) all
      puts_handed unwritten) (lawful map (record { length = size; lawful = was; agrees = all }))

  module _ {home : Home L} (same : (called c).home ≡ home) {steps : Steps L} (is : steps ≡ renewed c.steps)
      {slots : List WriteSlot} (listed : slots ≡ c.opened.writes) where
    pub value_is : value_there home steps slots ≡ new_value (called c)
    value_is =
        ap (λ h. value_there h steps slots) (sym same) ∙ ap (λ st. value_there (called c).home st slots) is
        ∙ ap (value_there (called c).home (renewed c.steps)) listed
        ∙ ap (λ (l : LocalState). λ o. unwrap_or (option_or (value_in (set_pairs c.opened.writes) o)
        (value_in (entry_of c.terms.shape c.terms.start.value.items (called c).log l).reads o)) no_value)
        (ap (caller_state c.terms) v.seat.0)

    number_is : number_or (view_of steps.seat).number 0 ≡ c.number
    number_is = rw (is, v.seat.0) refl

    few : length c.opened.writes ≤ c.steps.installed
    few =
        let st = static c.terms.shape (called c).log v.run.run.core c.number in
        let x = st.count in let y = v.mirror.installed in
        let z = slots_length c.opened.writes (state (called c)).writes (v.writes live) in omega arith

    pub few_there : length slots ≤ steps.installed
    few_there = let x = few in let y = ap length listed in let z = ap (λ (s : Steps L). s.installed) is in omega arith

    pub few_slots : length slots < 2 ^ 32
    few_slots =
        let st = static c.terms.shape (called c).log v.run.run.core c.number in
        let x = st.installed in let y = v.mirror.installed in let w = few_there in
        let i = ap (λ (s : Steps L). s.installed) is in let most = v.run.valid.locators in omega arith

    pub first_fits : c.number * c.terms.shape.locators + (steps.installed - length slots) < 2 ^ 32
    first_fits =
        let st = static c.terms.shape (called c).log v.run.run.core c.number in
        let most = few_locators c.terms.shape v.run.valid in
        let x = st.installed in let y = v.mirror.installed in let z = v.number.0 in
        let w = few_there in let i = ap (λ (s : Steps L). s.installed) is in
        let objects = v.run.valid.some_locators in
        below c.terms.shape.callers c.terms.shape.locators (steps.installed - length slots) z (omega arith) most
      where
        below : (callers locators n : ℕ) → c.number < callers → n ≤ locators → callers * locators < 2 ^ 32 →
            c.number * locators + n < 2 ^ 32
        below callers locators n lt le most =
            let row : (c.number + 1) * locators ≤ callers * locators = mul-le (c.number + 1) locators callers locators (omega arith) (omega arith) in
            omega arith

    pub putting : Putting holds home steps slots
        (c.number * c.terms.shape.locators + (steps.installed - length slots))
    putting = record {
      under =
          let task = Doing (Committing (value_there home steps slots)) in
          let was = now_there v same is in
          let inside : is_outside (now home steps).phase ≡ false =
          ap (λ (l : LocalState). is_outside l.phase) was ∙ ap is_outside (v.phase ∙ ap phase_by live) in
          let agreed : (now home steps).stale ≡ false = ap (λ (l : LocalState). l.stale) was ∙ (v.rest live).agreed in
          let none : steps.missed ≡ 0 = ap (λ (s : Steps L). s.missed) is in
          let first : due task home.terms.shape None (now home steps) (effort_by steps)
          ≡ in_putting (value_there home steps slots) (now home steps) = rw (inside, agreed, none) refl in
          let gives : answer task None (now home steps) (effort_by steps) ≡ None = rw inside refl in
          subst (λ again. InTask holds home task (began_as home task (number_or (view_of steps.seat).number 0) steps) steps
          (in_putting (value_there home steps slots) (now home steps)) again) gives
          (subst (λ next. InTask holds home task (began_as home task (number_or (view_of steps.seat).number 0) steps) steps
          next (answer task None (now home steps) (effort_by steps))) first (starts_there v same is task));
      first =
          let shape : c.terms.shape ≡ home.terms.shape = ap (λ (h : Home L). h.terms.shape) same in
          let was = now_there v same is in
          let i : steps.installed ≡ (now home steps).installed =
          ap (λ (s : Steps L). s.installed) is ∙ v.mirror.installed ∙ sym (ap (λ (l : LocalState). l.installed) was) in
          let n : length slots ≡ length (now home steps).writes =
          ap length listed ∙ slots_length c.opened.writes (state (called c)).writes (v.writes live)
          ∙ sym (ap (λ (l : LocalState). length l.writes) was) in
          ap (λ (s : Shape). c.number * s.locators + (steps.installed - length slots)) shape
          ∙ ap (λ m. m * home.terms.shape.locators + (steps.installed - length slots)) (sym number_is)
          ∙ ap (λ m. number_or (view_of steps.seat).number 0 * home.terms.shape.locators + (m - length slots)) i
          ∙ ap (λ m. number_or (view_of steps.seat).number 0 * home.terms.shape.locators
          + ((now home steps).installed - m)) n;
      values =
          subst (λ value. All (λ slot. value slot.object ≡ to_put slot) slots) (sym value_is)
          (subst (λ xs. All (λ slot. new_value (called c) slot.object ≡ to_put slot) xs) (sym listed)
          (λ k d lt. slot_put k d lt));
    }

    pub lawful_there : ((map : List Val) → Admits holds (called c) map →
        holds (law_of (called c)) (with_set map (written (called c)))) →
        IsLawful holds home steps (number_or (view_of steps.seat).number 0) slots
    lawful_there lawful =
        subst (λ (h : Home L). IsLawful holds h steps (number_or (view_of steps.seat).number 0) slots) same
        (subst (λ (s : Steps L). IsLawful holds (called c).home s (number_or (view_of steps.seat).number 0) slots) (sym is)
        (subst (λ n. IsLawful holds (called c).home (renewed c.steps) n slots) (sym number_is)
        (subst (λ xs. IsLawful holds (called c).home (renewed c.steps) c.number xs) (sym listed) (lawful_here lawful))))
