-- The loop that puts the new values, and why the last of them keeps the law.
use Rattle.std.proofs.Common.{◌≡◌, ◌≢◌, ◌⊎◌, ℕ, ◌+◌, ◌-◌, ◌*◌, ◌≤◌, ◌<◌, ◌∙◌, List, [], ◌∷◌, ◌++◌, length, true, false, None, refl, sym, ap, subst, arith, inl, inr, append_assoc, slice_index_or, ne_eqb, Option, All}
use Rattle.std.proofs.lemmas.Bool.{cases_lt, eq-eqb}
use Rattle.std.proofs.lemmas.List.Elements.{All-get_or}
use Rattle.dstm_core.specs.Events.{Event}
use Rattle.dstm_core.specs.declared.event.Kind.TheVariants.{PutHigh, PutNew, Validating as ToValidating}
use Rattle.dstm_core.specs.declared.shape.Shape.{Shape}
use Rattle.dstm_core.specs.declared.state.Phase.TheVariants.{Running, Putting, Outside}
use Rattle.dstm_core.specs.declared.state.Write.{Write}
use Rattle.dstm_core.specs.Histories.{new_value, new_values, read_values, old_values, seen}
use Rattle.dstm_core.specs.Runs.{local, Core}
use Rattle.dstm_core.specs.State.{LocalState, next_write}
use Rattle.dstm_core.specs.Traces.{at, word, IsPastOf}
use Rattle.dstm_core.specs.Words.{place}
use Rattle.dstm_core.specs.Words.Word.{LowWord, HighWord}
use Rattle.dstm_core.proofs.Static.{Numbered, numbered-get, static}
use Rattle.dstm_model.specs.declared.value.Val.{Val}
use Rattle.dstm_model.specs.Map.{Agrees}
use Rattle.dstm_opacity.proofs.Kept.{seen_stays}
use Rattle.dstm_words.specs.Seats.{Home, view_of, StoresLawfully, made}
use Rattle.dstm_machines.specs.Traces.Access.{Store}
use Rattle.dstm_core.proofs.Places.{put_at}
use Rattle.dstm_machines.proofs.Pasts.{past_past}
use Rattle.dstm_order.specs.declared.again.Again.{Again}
use Rattle.dstm_order.specs.declared.TheConstants.{MAX_MISSED}
use Rattle.dstm_order.specs.Order.{Due, in_putting, just}
use Rattle.dstm_order.specs.Order.Due.{Step}
use Rattle.dstm_steps.specs.declared.slots.WriteSlot.{WriteSlot}
use Rattle.dstm_steps.specs.declared.steps.Steps.{Steps}
use Rattle.dstm_steps.specs.Under.{work_of, Began, Under, now}
use Rattle.dstm_steps.specs.Writes.{IsReady, to_put, puts_of, value_in, no_slot, AreWrites, ArePut, IsLawful, Holds}
use Rattle.dstm_steps.proofs.Puts.{slots_length, slot_object, all_put, holds_later}
use Rattle.dstm_steps.proofs.Stepping.{here}

-- the values of the first i slots are put, since the steps of the start
pub record PutsOf {L : Type 0} (holds : L → List Val → Type 0) (home : Home L) (b : Began) (start steps : Steps L)
    (first : ℕ) (slots : List WriteSlot) (i : ℕ) : Type 0 where
  pub under : Under holds home b steps (in_putting (value_in (work_of b.task)) (now home steps)) None
  pub phase : ((now home steps).phase ≡ Running) ⊎ ((now home steps).phase ≡ Putting)
  pub begun : (now home steps).phase ≡ Running → i ≡ 0
  pub agreed : (now home steps).stale ≡ false
  pub uncommitted : (now home steps).committed ≡ false
  pub reads : (now home steps).reads ≡ (now home start).reads
  pub writes : (now home steps).writes ≡ (now home start).writes
  pub last : (now home steps).last_pass ≡ (now home start).last_pass
  pub written : (now home steps).written ≡ i
  pub none : (now home steps).high_put ≡ false
  pub past : IsPastOf (view_of start.seat).log (view_of steps.seat).log
  pub put : ArePut home steps first slots i
  pub tries : steps.missed < MAX_MISSED

-- what is put for a slot
abbrev pub value_of : List WriteSlot → ℕ → Val
value_of slots i = to_put (slice_index_or slots i no_slot)

-- the writes have locators one after the other
pub numbered : {L : Type 0} {holds : L → List Val → Type 0} {home : Home L} {b : Began} {steps : Steps L} {d : Due}
    {a : Option Again} {first : ℕ} → Under holds home b steps d a →
    first ≡ b.number * home.terms.shape.locators + ((now home steps).installed - length (now home steps).writes) →
    Numbered first (now home steps).writes
numbered {home = home} {b = b} {steps = steps} u is =
    rw is (rw (here u) (static home.terms.shape (view_of steps.seat).log u.run.run.core b.number).numbered)

-- the write whose value is put next
pub record NextPut (l : LocalState) (value : ℕ → Val) (locator : ℕ) (put : Val) : Type 0 where
  pub left : l.written < length l.writes
  pub locator_is : (next_write l).locator ≡ locator
  pub high : l.high_put ≡ false → in_putting value l ≡ Step PutHigh put.high
  pub low : l.high_put ≡ true → in_putting value l ≡ Step PutNew put.low

pub next_put : (l : LocalState) (ws : List Write) (value : ℕ → Val) (first : ℕ) (slots : List WriteSlot) (i : ℕ) →
    AreWrites slots ws → Numbered first ws → All (λ slot. value slot.object ≡ to_put slot) slots → l.writes ≡ ws →
    l.written ≡ i → i < length slots → NextPut l value (first + i) (value_of slots i)
next_put l ws value first slots i m n values writes written h =
    let count = slots_length slots ws m in
    let left : l.written < length l.writes = rw (writes, written) (omega arith) in
    let more = ne_eqb l.written (length l.writes) (λ q. omega arith) in
    let object : (next_write l).object ≡ (slice_index_or slots i no_slot).object =
    rw (writes, written) (slot_object slots ws i m h) in
    let is : value (next_write l).object ≡ value_of slots i =
    rw object (All-get_or (λ slot. value slot.object ≡ to_put slot) slots i no_slot h values) in record {
      left = left;
      locator_is = rw (writes, written) (numbered-get first ws i n (omega arith));
      high = λ q. rw (more, q, is) refl;
      low = λ q. rw (more, q, is) refl;
    }

-- in a run whose newest event puts the low part of slot i, each slot up to it has its value
put_one : {L : Type 0} (home : Home L) (mid : Steps L) (first : ℕ) (slots : List WriteSlot) (i : ℕ) (e : Event)
    (between : List Event) → Core home.terms.shape (e ∷ (between ++ (view_of mid.seat).log)) →
    ArePut home mid first slots i → Holds home mid (HighWord (first + i)) (value_of slots i).high →
    e.place ≡ place home.terms.shape (LowWord (first + i)) → e.put ≡ (value_of slots i).low → (j : ℕ) → j < i + 1 →
    new_value home.terms.shape (e ∷ (between ++ (view_of mid.seat).log)) (first + j) ≡ value_of slots j
put_one home mid first slots i e between core put high aimed puts j h = go (cases_lt j i)
  where
    s : Shape
    s = home.terms.shape

    run : List Event
    run = e ∷ (between ++ (view_of mid.seat).log)

    -- the parts of a value make the value
    both : (n : ℕ) (v : Val) → word s run (LowWord n) ≡ v.low → word s run (HighWord n) ≡ v.high → new_value s run n ≡ v
    both n v low high = rw (low, high) refl

    low : word s run (LowWord (first + i)) ≡ (value_of slots i).low
    low = ap (at run) (sym aimed) ∙ put_at (between ++ (view_of mid.seat).log) e e.place refl ∙ puts

    go : (j < i) ⊎ (i ≤ j) → new_value s run (first + j) ≡ value_of slots j
    go (inl less) =
        both (first + j) (value_of slots j) ((put j less).0 (e ∷ between) core) ((put j less).1 (e ∷ between) core)
    go (inr more) = let is : j ≡ i = omega arith in
        rw is (both (first + i) (value_of slots i) low (high (e ∷ between) core))

module _ {L : Type 0} {holds : L → List Val → Type 0} {home : Home L} {b : Began} {start old : Steps L} {first : ℕ}
    {slots : List WriteSlot} {i : ℕ} (p : PutsOf holds home b start old first slots i) where
  -- what is put stays put in a later log
  pub puts_kept : (new : Steps L) → IsPastOf (view_of old.seat).log (view_of new.seat).log → ArePut home new first slots i
  puts_kept new past j h = (
    holds_later home old new (LowWord (first + j)) _ past (p.put j h).0,
    holds_later home old new (HighWord (first + j)) _ past (p.put j h).1,
  )

  -- one slot more is put
  pub puts_more : (mid new : Steps L) → IsPastOf (view_of old.seat).log (view_of mid.seat).log →
      IsPastOf (view_of mid.seat).log (view_of new.seat).log →
      Holds home mid (HighWord (first + i)) (value_of slots i).high →
      Holds home new (LowWord (first + i)) (value_of slots i).low → ArePut home new first slots (i + 1)
  puts_more mid new before after high low j h = go (cases_lt j i)
    where
      both : ℕ → Type 0
      both j = Holds home new (LowWord (first + j)) (value_of slots j).low
          × Holds home new (HighWord (first + j)) (value_of slots j).high

      go : (j < i) ⊎ (i ≤ j) → both j
      go (inl less) = puts_kept new (past_past _ _ _ before after) j less
      go (inr more) = let is : i ≡ j = omega arith in
          subst both is (low, holds_later home mid new (HighWord (first + i)) _ after high)

  -- THE LAST PUT keeps the law, whatever others did in between.
  pub lawful_put : {mid : Steps L} {d f : Due} {a c : Option Again} → Under holds home b start d a →
      Under holds home b mid f c → (now home start).phase ≢ Outside → AreWrites slots (now home start).writes →
      Numbered first (now home start).writes → IsLawful holds home start b.number slots →
      IsPastOf (view_of old.seat).log (view_of mid.seat).log →
      now home mid ≡ record (now home old) { phase = Putting; high_put = true; pass = None; checked = 0 } →
      Holds home mid (HighWord (first + i)) (value_of slots i).high →
      StoresLawfully holds home.terms (view_of mid.seat) PutNew (place home.terms.shape (LowWord (first + i)))
      (value_of slots i).low
  lawful_put {mid = mid} u v live m n lawful later state high found between run fits own last map long held agrees =
      let s : Shape = home.terms.shape in
      let st : List Val = home.terms.start.value.items in
      let l : LocalState = now home mid in
      let l0 : LocalState = now home start in
      let log0 : List Event = (view_of start.seat).log in
      let after : List Event = (view_of mid.seat).log in
      let past = past_past _ _ _ p.past later in
      let reads : l.reads ≡ l0.reads = rw state p.reads in
      let writes : l.writes ≡ l0.writes = rw state p.writes in
      let e : Event = made (view_of mid.seat) (Store (value_of slots i).low) PutNew (place s (LowWord (first + i))) found in
      let more : List Event = e ∷ (between ++ past.later) in
      let core : Core s (e ∷ (between ++ after)) = (run.run.core, fits) in
      let whole : e ∷ (between ++ after) ≡ more ++ log0 = ap (λ es. e ∷ (between ++ es)) (sym past.whole)
      ∙ ap (λ es. e ∷ es) (sym (append_assoc between past.later log0)) in
      let c : ℕ = b.number in
      let q : l0 ≡ local s log0 c = here u in
      let entry : LocalState → List Event → List (ℕ × Val) =
      λ l log. read_values s st log l.reads ++ old_values s st log l.writes in
      let seen_same : seen s st (more ++ log0) log0 c ≡ seen s st log0 log0 c =
      seen_stays s st more log0 c (subst (Core s) whole core) u.caller
      (subst (λ (l : LocalState). l.phase ≢ Outside) q live) in
      let reads_same : entry l (e ∷ (between ++ after)) ≡ seen s st log0 log0 c = ap (λ log. entry l log) whole
      ∙ ap (λ rs. read_values s st (more ++ log0) rs ++ old_values s st (more ++ log0) l.writes) reads
      ∙ ap (λ ws. read_values s st (more ++ log0) l0.reads ++ old_values s st (more ++ log0) ws) writes
      ∙ ap (λ l. entry l (more ++ log0)) q ∙ seen_same in
      let count : length slots ≡ i + 1 = slots_length slots l0.writes m ∙ ap length (sym writes) ∙ sym last
      ∙ ap (λ n. n + 1) (rw state p.written) in
      let put_all : (j : ℕ) → j < length slots → new_value s (e ∷ (between ++ after)) (first + j) ≡ value_of slots j =
      λ j h. put_one home mid first slots i e between core (puts_kept mid later) high refl refl j (rw count at h) in
      let writes_same : new_values s (e ∷ (between ++ after)) l.writes ≡ puts_of slots =
      ap (new_values s (e ∷ (between ++ after))) writes
      ∙ all_put s (e ∷ (between ++ after)) first slots l0.writes m n put_all in
      rw writes_same (lawful map long held (subst (Agrees map) reads_same agrees))

  -- where each slot is put, Validating is due
  pub puts_all : AreWrites slots (now home start).writes → i ≤ length slots → length slots ≤ i →
      in_putting (value_in (work_of b.task)) (now home old) ≡ just ToValidating
  puts_all m within all =
      let count = slots_length slots (now home start).writes m in
      rw (p.writes, p.written, eq-eqb i (length (now home start).writes) (omega arith)) refl

  -- and the attempt is ready to be validated
  pub ready : AreWrites slots (now home start).writes → i ≤ length slots → length slots ≤ i → IsReady (now home old)
  ready m within all = go p.phase
    where
      count : length slots ≡ length (now home start).writes
      count = slots_length slots (now home start).writes m

      empty : (ws : List Write) → length ws ≡ 0 → ws ≡ []
      empty [] q = refl
      empty (w ∷ ws) q = absurd (omega arith)

      go : ((now home old).phase ≡ Running) ⊎ ((now home old).phase ≡ Putting) → IsReady (now home old)
      go (inl q) = let none = p.begun q in
          inl (q, p.writes ∙ empty (now home start).writes (let c = count in omega arith))
      go (inr q) = inr (q, rw (p.writes, p.written) (let c = count in omega arith))
