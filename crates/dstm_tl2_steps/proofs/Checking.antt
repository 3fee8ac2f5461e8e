-- The loop of the checks: the slots that it has before it hold the reads that are left to check.
use Rattle.std.proofs.lemmas.List.Elements.{All-filter, All-get_or}
use Rattle.std.proofs.Common.{◌≡◌, ◌≢◌, ◌==◌, ◌<◌, ◌≤◌, ◌+◌, ◌∷◌, ◌∙◌, ℕ, Bool, List, [], refl, ap, arith, sym, subst, true, false, Option, Some, None, is_some, length, drop, length-drop, ◌||◌, not, is_none, IfNone, map, filter, slice_get, slice_index_or, if◌then◌else◌, eq-eqb, ne_eqb}
use Rattle.std.proofs.lemmas.List.{drop_all, drop_more}
use Rattle.std.proofs.lemmas.Option.{slice_get-get_or}
use Rattle.dstm_mem.specs.Memory.{value_in}
use Rattle.dstm_model.specs.declared.value.Val.{Val}
use Rattle.dstm_machines.specs.Traces.Access.{Load}
use Rattle.dstm_tl2.specs.declared.kind.Kind.TheVariants.{Check}
use Rattle.dstm_tl2.specs.Failing.{is_locked}
use Rattle.dstm_tl2.specs.Sharing.{table_of}
use Rattle.dstm_tl2.specs.State.{LocalState, Read, is_valid, next_check, no_read, or_read, or_writes, to_check, unwritten, write_of}
use Rattle.dstm_tl2.specs.Words.{Table, objects}
use Rattle.dstm_tl2.proofs.Static.{ReadOk, ReadsOk}
use Rattle.dstm_tl2_words.specs.Seats.{Home}
use Rattle.dstm_tl2_order.specs.declared.again.TlAgain.{TlAgain}
use Rattle.dstm_tl2_order.specs.declared.again.TlAgain.TheVariants.{Changed, Locked}
use Rattle.dstm_tl2_steps.specs.declared.opened.ReadSlot.{ReadSlot}
use Rattle.dstm_tl2_steps.specs.declared.steps.Steps.{Steps}
use Rattle.dstm_tl2_steps.specs.Opened.{no_slot, read_at}
use Rattle.dstm_tl2_order.specs.Order.{Due, in_checking, in_giving_back}
use Rattle.dstm_tl2_order.specs.Order.Due.{Just}
use Rattle.dstm_tl2_steps.specs.Reads.{slot_read}
use Rattle.dstm_tl2_steps.specs.Under.{Began, Under, Went, made_by, now}
use Rattle.dstm_tl2_steps.proofs.Bounds.{static_now}
use Rattle.dstm_tl2_steps.proofs.Going.{goes_on}
use Rattle.dstm_tl2_steps.proofs.Slots.{write_of-value_in}
use Rattle.dstm_tl2_steps.proofs.WritingBack.{due_is, is_doing}
use Rattle.dstm_tl2_steps.proofs.Stepping.{under_is}

-- ---- lists

-- the read at a place is the first of those that are left
pub record Next (reads : List Read) (i : ℕ) (r : Read) (rest : List Read) : Type 0 where
  pub left : i < length reads
  pub read : or_read (slice_get reads i) ≡ r
  pub later : drop (i + 1) reads ≡ rest

abbrev head_or : List Read → Read
head_or [] = no_read
head_or (r ∷ rs) = r

abbrev tail_of : List Read → List Read
tail_of [] = []
tail_of (r ∷ rs) = rs

next_left : (reads : List Read) (i : ℕ) (r : Read) (rest : List Read) → drop i reads ≡ r ∷ rest → Next reads i r rest
next_left reads i r rest q = record {
  left = left;
  read = ap or_read (slice_get-get_or reads i no_read left) ∙ ap head_or parts;
  later = ap tail_of parts;
}
  where
    left : i < length reads
    left = let n : length (drop i reads) ≡ length (r ∷ rest) = ap length q in omega (arith, length-drop i reads)

    parts : slice_index_or reads i no_read ∷ drop (i + 1) reads ≡ r ∷ rest
    parts = sym (drop_more reads i no_read left) ∙ q

none_left : (reads : List Read) (i : ℕ) → drop i reads ≡ [] → i ≤ length reads → i ≡ length reads
none_left reads i q l = let n : length (drop i reads) ≡ 0 = ap length q in omega (arith, length-drop i reads)

none_is : (x : Option Val) (none : Bool) → is_some x ≡ not none → is_none x ≡ none
none_is None true h = refl
none_is None false h = absurd (cc)
none_is (Some v) true h = absurd (cc)
none_is (Some v) false h = refl

-- the look at an object of the list says whether it is written
pub slot_is : (ws : List (ℕ × Val)) {given slots : List ReadSlot} (i : ℕ) {found : Option Val} (none is : Bool) →
    given ≡ slots → found ≡ value_in ws (read_at given i).object → is_some found ≡ not none → none ≡ is →
    is_none (value_in ws (read_at slots i).object) ≡ is
slot_is ws {slots = slots} i {found = found} none is same value test q =
    rw (← same) (ap is_none (sym value) ∙ none_is found none test ∙ q)

-- the slot is that of the read
pub slot_read_is : {given slots : List ReadSlot} (i : ℕ) {r : Read} → given ≡ slots → r ≡ slot_read (read_at slots i) →
    (r.object ≡ (read_at given i).object) × (r.word ≡ (read_at given i).word)
slot_read_is {slots = slots} i {r = r} same q = rw same (ap (λ (r : Read). r.object) q, ap (λ (r : Read). r.word) q)

at_none : {P : Type 0} (x : Option TlAgain) → is_some x ≡ false → IfNone x P → P
at_none None q h = h
at_none (Some again) q h = absurd (cc)

pub some_number : (x : Option ℕ) → x ≢ None → is_some x ≡ true
some_number None h = absurd (h refl)
some_number (Some n) h = refl

-- a slot of an object that is not written is the next read that is checked
slot_next : (ws : List (ℕ × Val)) (slots : List ReadSlot) (reads : List Read) (i c : ℕ) →
    unwritten ws (map slot_read (drop i slots)) ≡ drop c reads → i < length slots →
    is_none (write_of (read_at slots i).object ws) ≡ true →
    Next reads c (slot_read (read_at slots i)) (unwritten ws (map slot_read (drop (i + 1) slots)))
slot_next ws slots reads i c same h is =
    next_left reads c _ _ (sym same ∙ ap (λ s. unwritten ws (map slot_read s)) (drop_more slots i no_slot h)
    ∙ rw is refl)

-- and one of an object that is written is none
slot_skip : (ws : List (ℕ × Val)) (slots : List ReadSlot) (reads : List Read) (i c : ℕ) →
    unwritten ws (map slot_read (drop i slots)) ≡ drop c reads → i < length slots →
    is_none (write_of (read_at slots i).object ws) ≡ false →
    unwritten ws (map slot_read (drop (i + 1) slots)) ≡ drop c reads
slot_skip ws slots reads i c same h is =
    sym (rw is refl) ∙ sym (ap (λ s. unwritten ws (map slot_read s)) (drop_more slots i no_slot h)) ∙ same

-- ---- the read that is checked next is of an object of the table

get_below : (t : Table) (sample : ℕ) (p : Read → Bool) (rs : List Read) (i : ℕ) → ReadsOk t sample rs →
    i < length (filter p rs) → (or_read (slice_get (filter p rs) i)).object < objects t
get_below t sample p rs i h below =
    subst (λ (r : Read). r.object < objects t) (sym (ap or_read (slice_get-get_or (filter p rs) i no_read below)))
    (All-get_or (ReadOk t sample) (filter p rs) i no_read below (All-filter p (ReadOk t sample) rs h)).0

pub check_below : {L : Type 0} {holds : L → List Val → Type 0} {home : Home L} {b : Began} {steps : Steps L}
    {d : Due} {a : Option TlAgain} → Under holds home b steps d a →
    (now home steps).checked < length (to_check (now home steps)) →
    (next_check (now home steps)).object < objects (table_of home.terms)
check_below {home = home} {steps = steps} u left =
    get_below (table_of home.terms) (now home steps).sample
    (λ (r : Read). is_none (write_of r.object (or_writes (now home steps).writes))) (now home steps).reads
    (now home steps).checked (static_now u).read left

-- ---- after a check

module _ {L : Type 0} {holds : L → List Val → Type 0} {home : Home L} {b : Began} where
  -- the state after a check
  pub check_state : {old new : Steps L} {a : Option TlAgain} (o found word : ℕ) (bad : Bool) →
      Went holds home b old new a (made_by b Load Check o found) → (now home old).failed ≡ false →
      (next_check (now home old)).word ≡ word → not (found == word) ≡ bad →
      now home new ≡ record (now home old) { checked = (now home old).checked + 1; failed = bad }
  check_state {old = old} o found word bad w good is test =
      let failed : ((now home old).failed || not (found == (next_check (now home old)).word)) ≡ bad =
      rw (good, is) test in
      w.state ∙ ap (λ x. record (now home old) { checked = (now home old).checked + 1; failed = x }) failed

  -- the call goes on with the next one, or gives back what is locked
  pub check_goes : {old new : Steps L} (o found word : ℕ) (bad : Bool) → Under holds home b old (Just Check) None →
      Went holds home b old new None (made_by b Load Check o found) → (now home old).failed ≡ false →
      (next_check (now home old)).word ≡ word → not (found == word) ≡ bad →
      Under holds home b new (if bad then in_giving_back (now home new).holds else in_checking (now home new))
      (if bad then Some (if is_locked found then Locked o else Changed o) else None)
  check_goes o found word bad u w good is test =
      let work = is_doing u refl in
      let state = check_state o found word bad w good is test in
      under_is (goes_on work.0 work.1 w) (rw (ap (λ (l : LocalState). l.failed) state) refl) (rw (is, test) refl)

-- ---- the loop

-- what is due while a read is left, and once none is
check_due : (l : LocalState) → l.checked < length (to_check l) → in_checking l ≡ Just Check
check_due l h = rw (ne_eqb l.checked (length (to_check l)) (λ q. omega arith)) refl

module _ {L : Type 0} (holds : L → List Val → Type 0) (home : Home L) (b : Began) (start : Steps L)
    (writes : List (ℕ × Val)) where
  -- the reads in these slots are left to check
  pub record Checking (steps : Steps L) (slots : List ReadSlot) : Type 0 where
    pub under : Under holds home b steps (in_checking (now home steps)) None
    pub state : now home steps ≡ record (now home start) { checked = (now home steps).checked }
    pub same : unwritten writes (map slot_read slots) ≡ drop (now home steps).checked (to_check (now home start))
    pub within : (now home steps).checked ≤ length (to_check (now home start))

  -- the slot that is next is the read that is
  pub record NextCheck (steps : Steps L) (slot : ReadSlot) : Type 0 where
    pub due : Under holds home b steps (Just Check) None
    pub left : (now home steps).checked < length (to_check (now home steps))
    pub read : next_check (now home steps) ≡ slot_read slot

module _ {L : Type 0} {holds : L → List Val → Type 0} {home : Home L} {b : Began} {start : Steps L}
    {writes : List (ℕ × Val)} where
  pub next_is : {steps : Steps L} (slots : List ReadSlot) (i : ℕ) →
      Checking holds home b start writes steps (drop i slots) → i < length slots →
      is_none (value_in writes (read_at slots i).object) ≡ true → NextCheck holds home b start writes steps (read_at slots i)
  next_is {steps = steps} slots i c h is =
      let none : is_none (write_of (read_at slots i).object writes) ≡ true =
      ap is_none (write_of-value_in writes (read_at slots i).object) ∙ is in
      let n = slot_next writes slots (to_check (now home start)) i (now home steps).checked c.same h none in
      let all : to_check (now home steps) ≡ to_check (now home start) = ap to_check c.state in
      let left : (now home steps).checked < length (to_check (now home steps)) = rw all n.left in record {
        due = due_is c.under (check_due (now home steps) left);
        left = left;
        read = ap (λ rs. or_read (slice_get rs (now home steps).checked)) all ∙ n.read;
      }

  -- one read was checked, and it is good
  pub checked_one : {old : Steps L} (new : Steps L) (slots : List ReadSlot) (i : ℕ) →
      Checking holds home b start writes old (drop i slots) → i < length slots →
      is_none (value_in writes (read_at slots i).object) ≡ true → (bad : Option TlAgain) →
      is_some bad ≡ false → IfNone bad (Under holds home b new (in_checking (now home new)) None) →
      (now home start).failed ≡ false →
      now home new ≡ record (now home old) { checked = (now home old).checked + 1; failed = is_some bad } →
      Checking holds home b start writes new (drop (i + 1) slots)
  checked_one {old = old} new slots i c h is bad fine u good state =
      let none : is_none (write_of (read_at slots i).object writes) ≡ true =
      ap is_none (write_of-value_in writes (read_at slots i).object) ∙ is in
      let n = slot_next writes slots (to_check (now home start)) i (now home old).checked c.same h none in
      let checked : (now home new).checked ≡ (now home old).checked + 1 =
      ap (λ (l : LocalState). l.checked) state in record {
        under = at_none bad fine u;
        state = state
            ∙ ap (λ (l : LocalState). record l { checked = (now home old).checked + 1; failed = is_some bad }) c.state
            ∙ ap (λ x. record (now home start) { checked = (now home old).checked + 1; failed = x }) (fine ∙ sym good)
            ∙ ap (λ n. record (now home start) { checked = n }) (sym checked);
        same = rw checked (sym n.later);
        within = rw checked (let left = n.left in omega arith);
      }

  -- a read of an object that is written is not checked
  pub checked_none : {steps : Steps L} (slots : List ReadSlot) (i : ℕ) →
      Checking holds home b start writes steps (drop i slots) →
      i < length slots → is_none (value_in writes (read_at slots i).object) ≡ false →
      Checking holds home b start writes steps (drop (i + 1) slots)
  checked_none {steps = steps} slots i c h is =
      let none : is_none (write_of (read_at slots i).object writes) ≡ false =
      ap is_none (write_of-value_in writes (read_at slots i).object) ∙ is in record {
        under = c.under;
        state = c.state;
        same = slot_skip writes slots (to_check (now home start)) i (now home steps).checked c.same h none;
        within = c.within;
      }

  -- where no slot is left every read is checked
  pub checked_all : {steps : Steps L} (slots : List ReadSlot) (i : ℕ) →
      Checking holds home b start writes steps (drop i slots) →
      length slots ≤ i → is_some (now home start).drawn ≡ true → (now home start).failed ≡ false →
      is_valid (now home steps) ≡ true
  checked_all {steps = steps} slots i c h drawn good =
      let all : (now home steps).checked ≡ length (to_check (now home start)) =
      none_left (to_check (now home start)) (now home steps).checked
      (sym c.same ∙ ap (λ s. unwritten writes (map slot_read s)) (drop_all i slots h)) c.within in
      let done : ((now home steps).checked == length (to_check (now home start))) ≡ true =
      eq-eqb (now home steps).checked (length (to_check (now home start))) all in
      ap is_valid c.state ∙ rw (drawn, done, good) refl
