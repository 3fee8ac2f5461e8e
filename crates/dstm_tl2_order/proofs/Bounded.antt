-- Each event of a call takes off what is left of its price.
use Rattle.std.proofs.Common.{◌≡◌, ◌==◌, ◌+◌, ◌-◌, ◌*◌, ◌≤◌, ◌⊎◌, ◌∷◌, ◌++◌, ℕ, inl, inr, List, [], refl, ap, arith, sym, subst, true, false, Bool, Option, Some, None, is_some, length, length-append, ◌<◌, not, if◌then◌else◌}
use Rattle.std.specs.Prelude.{◌||◌, is_none}
use Rattle.std.proofs.lemmas.List.Filters.{length-filter_both}
use Rattle.dstm_tl2.proofs.Base.{Event, Hold, LocalState, Read, Table, Val, after, cases_Bool, cond-false, cond-true, cond_both, eq-eqb, eqb-false, high_object, is_readable, lock, low_object, marked, new_hold, next_check, next_write, objects, or_zero, to_check, unwritten, with_high, with_low, without, write_of}
use Rattle.dstm_tl2.specs.declared.kind.Kind.{Kind}
use Rattle.dstm_tl2.specs.declared.kind.Kind.TheVariants.{Check, Draw, Enrol, Lock, LookAgain, LookHigh, LookLock, LookLow, Sample, Unlock, WriteHigh, WriteLow}
use Rattle.dstm_tl2_order.specs.Calls.{Obeys, newest_of, state_after}
use Rattle.dstm_tl2_order.specs.Order.{IsDue, at_first, draws, due, has_sampled, in_beginning, in_checking, in_giving_back, in_locking, in_writing_back, is_spent, locks, next, when_locked}
use Rattle.dstm_tl2_order.specs.Tasks.{Task, Work}
use Rattle.dstm_tl2_order.specs.Tasks.Task.{Enrolling, Beginning, Returning, Doing}
use Rattle.dstm_tl2_order.specs.Tasks.Work.{Opening, Locking, Finishing, Committing}
use Rattle.dstm_tl2_order.specs.Laws.{CanLock, price, to_lock}

-- ---- what is left to do

-- with an object that is locked, to write it back
abbrev one_unless : Bool → ℕ
one_unless done = if done then 0 else 1

abbrev hold_cost : Hold → ℕ
hold_cost h = one_unless h.low_put + (one_unless h.high_put + 1)

abbrev writing : List Hold → ℕ
writing [] = 0
writing (h ∷ hs) = hold_cost h + writing hs

abbrev checking : LocalState → ℕ
checking l = (length (to_check l) - l.checked) + writing l.holds

abbrev drawing : LocalState → ℕ
drawing l = length l.reads + writing l.holds + 1

abbrev locking : List (ℕ × Val) → Work → LocalState → ℕ
locking ws (Committing writes) l = 4 * to_lock ws l + drawing l
locking ws work l = 2 * to_lock ws l + length l.holds

abbrev left_first : Work → LocalState → ℕ
left_first (Opening o) l = 4
left_first (Locking ws) l = locking ws (Locking ws) l
left_first (Finishing ws) l = drawing l
left_first (Committing ws) l = locking ws (Committing ws) l

abbrev left_next : Kind → Work → LocalState → ℕ
left_next LookLock work l = 3
left_next LookLow work l = 2
left_next LookHigh work l = 1
left_next (Lock ws) work l = if l.failed then length l.holds else locking ws.value work l
left_next (Draw ws) work l = checking l
left_next Check work l = if l.failed then length l.holds else checking l
left_next WriteLow work l = writing l.holds
left_next WriteHigh work l = writing l.holds
left_next Unlock work l = if l.failed then length l.holds else writing l.holds
left_next k work l = 0

-- what is counted so far is at most what there is to count
abbrev Counted : Kind → LocalState → Type 0
Counted (Lock ws) l = l.locked ≤ length ws.value
Counted (Draw ws) l = l.checked ≤ length (to_check l)
Counted Check l = l.checked ≤ length (to_check l)
Counted k l = Unit {0}

-- an event of this kind takes one off
abbrev Takes : Table → Work → LocalState → Event → ℕ → Kind → Type 0
Takes t w l e n k = (left_next k w (after k t l e) + 1 ≤ n) × Counted k (after k t l e)

-- ---- objects that are locked

giving_less : (hs : List Hold) → length hs ≤ writing hs
giving_less [] = omega arith
giving_less (h ∷ hs) = let ih = giving_less hs in omega arith

at_most_one : (b : Bool) → one_unless b ≤ 1
at_most_one true = omega arith
at_most_one false = omega arith

writing_most : (hs : List Hold) → writing hs ≤ 3 * length hs
writing_most [] = omega arith
writing_most (h ∷ hs) =
    let ih = writing_most hs in let low = at_most_one h.low_put in let high = at_most_one h.high_put in omega arith

writing_snoc : (hs : List Hold) (l : LocalState) (w : ℕ × Val) → writing (hs ++ new_hold l w ∷ []) ≡ writing hs + 3
writing_snoc [] l w = omega arith
writing_snoc (h ∷ hs) l w = let ih = writing_snoc hs l w in omega arith

-- to take one out makes them no longer, and cost no more
without_most : (size : List Hold → ℕ) → ((h : Hold) (hs : List Hold) → size hs ≤ size (h ∷ hs)) →
    ((h : Hold) (hs ks : List Hold) → size hs ≤ size ks → size (h ∷ hs) ≤ size (h ∷ ks)) → (o : ℕ) (hs : List Hold) →
    size (without o hs) ≤ size hs
without_most size less more o [] = omega arith
without_most size less more o (h ∷ hs) =
    let ih = without_most size less more o hs in let one = less h hs in
    cond_both (h.object == o) (without o hs) (h ∷ without o hs) (λ xs. size xs ≤ size (h ∷ hs)) (λ _. omega arith)
    (λ _. more h (without o hs) hs ih)

without_less : (o : ℕ) (hs : List Hold) → length (without o hs) ≤ length hs
without_less o hs = without_most length (λ h hs. omega arith) (λ h hs ks le. omega arith) o hs

without_cheaper : (o : ℕ) (hs : List Hold) → writing (without o hs) ≤ writing hs
without_cheaper o hs = without_most writing (λ h hs. omega arith) (λ h hs ks le. omega arith) o hs

-- a part that is written makes none of them cost more
marked_cheaper : (change : Hold → Hold) → ((h : Hold) → hold_cost (change h) ≤ hold_cost h) → (o : ℕ) (hs : List Hold) →
    writing (marked change o hs) ≤ writing hs
marked_cheaper change less o [] = omega arith
marked_cheaper change less o (h ∷ hs) =
    let ih = marked_cheaper change less o hs in let one = less h in
    cond_both (h.object == o) (change h ∷ marked change o hs) (h ∷ marked change o hs)
    (λ xs. writing xs ≤ writing (h ∷ hs)) (λ _. omega arith) (λ _. omega arith)

-- the first of them is given back
pub first_given : (t : Table) (hs : List Hold) (e : Event) → IsDue t (in_giving_back hs) e →
    (e.kind ≡ Unlock) × (length (without e.place hs) + 1 ≤ length hs)
first_given t [] e h = absurd h
first_given t (x ∷ hs) e h =
    (h.0, let less = without_less e.place hs in rw (eq-eqb x.object e.place (sym h.1)) (omega arith))

-- something of the first of them is written, or it gets its lock word
pub data Written (t : Table) (hs : List Hold) (e : Event) : Type 0 where
  puts_low : (e.kind ≡ WriteLow) → (writing (marked with_low (low_object t e.place) hs) + 1 ≤ writing hs) →
      Written t hs e
  puts_high : (e.kind ≡ WriteHigh) → (writing (marked with_high (high_object t e.place) hs) + 1 ≤ writing hs) →
      Written t hs e
  frees : (e.kind ≡ Unlock) → (writing (without e.place hs) + 1 ≤ writing hs) → Written t hs e

pub first_written : (t : Table) (n : ℕ) (hs : List Hold) (e : Event) → IsDue t (in_writing_back n hs) e → Written t hs e
first_written t n [] e d = absurd d
first_written t n (h ∷ hs) e d = go (cases_Bool h.low_put) (cases_Bool h.high_put)
  where
    go : (h.low_put ≡ true) ⊎ (h.low_put ≡ false) → (h.high_put ≡ true) ⊎ (h.high_put ≡ false) → Written t (h ∷ hs) e
    go (inr a) b =
        let due : (e.kind ≡ WriteLow) × (e.place ≡ objects t + h.object) = rw a at d in
        let same : h.object ≡ low_object t e.place = let q = due.1 in omega arith in
        let rest = marked_cheaper with_low (λ h. omega arith) (low_object t e.place) hs in
        puts_low due.0 (rw (eq-eqb h.object (low_object t e.place) same, a) (omega arith))
    go (inl a) (inr b) =
        let due : (e.kind ≡ WriteHigh) × (e.place ≡ 2 * objects t + h.object) = rw (a, b) at d in
        let same : h.object ≡ high_object t e.place = let q = due.1 in omega arith in
        let rest = marked_cheaper with_high (λ h. omega arith) (high_object t e.place) hs in
        puts_high due.0 (rw (eq-eqb h.object (high_object t e.place) same, b) (omega arith))
    go (inl a) (inl b) =
        let due : (e.kind ≡ Unlock) × (e.place ≡ h.object) × (e.put ≡ 2 * n + 2) = rw (a, b) at d in
        let rest = without_cheaper e.place hs in
        frees due.0 (rw (eq-eqb h.object e.place (sym due.1)) (omega arith))

-- ---- each event takes one off

unwritten_less : (ws : List (ℕ × Val)) (rs : List Read) → length (unwritten ws rs) ≤ length rs
unwritten_less ws rs =
    let both = length-filter_both (λ (r : Read). is_none (write_of r.object ws))
    (λ (r : Read). not (is_none (write_of r.object ws))) (λ r. refl) rs in omega arith

module _ (t : Table) (w : Work) (l : LocalState) (e : Event) where
  of_kind : (n : ℕ) {k : Kind} → e.kind ≡ k → Takes t w l e n k → Takes t w l e n e.kind
  of_kind n q h = subst (Takes t w l e n) (sym q) h

  -- one that gives back
  takes_given : (n : ℕ) → l.failed ≡ true → IsDue t (in_giving_back l.holds) e → length l.holds ≤ n →
      Takes t w l e n e.kind
  takes_given n failed due enough =
      let given = first_given t l.holds e due in
      let less = given.1 in
      of_kind n given.0 (rw failed (omega arith), tt)

  -- one that writes back
  takes_written : (n d : ℕ) → IsDue t (in_writing_back d l.holds) e → writing l.holds ≤ n → Takes t w l e n e.kind
  takes_written n d due enough = go (first_written t d l.holds e due)
    where
      go : Written t l.holds e → Takes t w l e n e.kind
      go (puts_low q less) = of_kind n q (omega arith, tt)
      go (puts_high q less) = of_kind n q (omega arith, tt)
      go (frees q less) =
          let few = giving_less (without e.place l.holds) in
          of_kind n q (
            cond_both l.failed (length (without e.place l.holds)) (writing (without e.place l.holds)) (λ m. m + 1 ≤ n)
                (λ _. omega arith) (λ _. omega arith),
            tt,
          )

  -- a check, or what comes behind the last one
  takes_checked : (n : ℕ) → l.checked ≤ length (to_check l) → IsDue t (in_checking l) e → checking l ≤ n →
      Takes t w l e n e.kind
  takes_checked n counted due enough = go (cases_Bool (l.checked == length (to_check l)))
    where
      go : (l.checked == length (to_check l) ≡ true) ⊎ (l.checked == length (to_check l) ≡ false) →
          Takes t w l e n e.kind
      go (inl q) = takes_written n (or_zero l.drawn) (rw q at due) (omega arith)
      go (inr q) =
          let is : e.kind ≡ Check = rw q at due in
          let other = eqb-false l.checked (length (to_check l)) q in
          let left : l.checked < length (to_check l) = less l.checked (length (to_check l)) counted other in
          let few = giving_less l.holds in
          of_kind n is (
            cond_both (l.failed || not (e.found == (next_check l).word)) (length l.holds)
                ((length (to_check l) - (l.checked + 1)) + writing l.holds) (λ m. m + 1 ≤ n) (λ _. omega arith)
                (λ _. omega arith),
            omega arith,
          )
        where
          less : (a b : ℕ) → a ≤ b → (a ≡ b → ⊥) → a < b
          less a b h other = omega arith

  -- the Draw
  takes_drawn : (n : ℕ) (ws : List (ℕ × Val)) → e.kind ≡ draws ws → drawing l ≤ n → Takes t w l e n e.kind
  takes_drawn n ws q enough =
      let few = unwritten_less ws l.reads in of_kind n q (omega arith, omega arith)

  -- a lock, or what comes behind the last one
  takes_locked : (n : ℕ) (ws : List (ℕ × Val)) → l.locked ≤ length ws → IsDue t (in_locking ws w l) e →
      locking ws w l ≤ n → Takes t w l e n e.kind
  takes_locked n ws counted due enough = elim (cases_Bool (l.locked == length ws)) [
    | inl q ↦ rest w (rw q at due) enough
    | inr q ↦
        let is : e.kind ≡ locks ws = rw q at due in
        let left = less l.locked (length ws) counted (eqb-false l.locked (length ws) q) in
        of_kind n is
        (cond_both (e.found == e.expected) (lock l ws) (record l { look = None; writes = Some ws; failed = true })
        (λ (m : LocalState). ((if m.failed then length m.holds else locking ws w m) + 1 ≤ n) × (m.locked ≤ length ws))
        (λ _. one w left enough (lock l ws) (inl (
          refl,
          refl,
          length-append l.holds (new_hold l (next_write l ws) ∷ []),
          writing_snoc l.holds l (next_write l ws),
        )))
        (λ _. one w left enough (record l { look = None; writes = Some ws; failed = true }) (inr (refl, refl, refl))))
  ]
    where
      less : (a b : ℕ) → a ≤ b → (a ≡ b → ⊥) → a < b
      less a b h other = omega arith

      rest : (v : Work) → IsDue t (when_locked v) e → locking ws v l ≤ n → Takes t w l e n e.kind
      rest (Committing writes) d enough = takes_drawn n writes d (omega arith)
      rest v d enough = absurd d

      -- one more lock, and one that fails
      one : (v : Work) → l.locked < length ws → locking ws v l ≤ n →
          (m : LocalState) → ((m.locked ≡ l.locked + 1) × (m.reads ≡ l.reads) × (length m.holds ≡ length l.holds + 1)
          × (writing m.holds ≡ writing l.holds + 3))
          ⊎ ((m.locked ≡ l.locked) × (length m.holds ≡ length l.holds) × (m.failed ≡ true)) →
          ((if m.failed then length m.holds else locking ws v m) + 1 ≤ n) × (m.locked ≤ length ws)
      one v left enough m (inr x) =
          let same = x.0 in let few = x.1 in (rw x.2 (by v enough), omega arith)
        where
          by : (v : Work) → locking ws v l ≤ n → length m.holds + 1 ≤ n
          by (Committing writes) enough = let few = x.1 in let less = giving_less l.holds in omega arith
          by v enough = let few = x.1 in omega arith
      one v left enough m (inl x) =
          let more = x.0 in (
            cond_both m.failed (length m.holds) (locking ws v m) (λ k. k + 1 ≤ n) (λ _. given v enough)
                (λ _. by v enough),
            omega arith,
          )
        where
          given : (v : Work) → locking ws v l ≤ n → length m.holds + 1 ≤ n
          given (Committing writes) enough = let few = x.2 in let less = giving_less l.holds in omega arith
          given v enough = let few = x.2 in omega arith

          by : (v : Work) → locking ws v l ≤ n → locking ws v m + 1 ≤ n
          by (Committing writes) enough =
              let more = x.0 in let reads = ap length x.1 in let cost = x.3 in omega arith
          by v enough = let more = x.0 in let few = x.2 in omega arith

-- ---- the calls

-- how much of a call is left
abbrev left : Task → Option Event → LocalState → ℕ
left Enrolling newest l = one_unless (is_some l.number)
left Beginning newest l = if has_sampled newest then 0 else length l.holds + 1
left Returning newest l = length l.holds
left (Doing work) None l = left_first work l
left (Doing work) (Some e) l = left_next e.kind work l

abbrev CountedBy : Task → Kind → LocalState → Type 0
CountedBy (Doing work) k l = Counted k l
CountedBy task k l = Unit {0}

abbrev Within : Task → Option Event → LocalState → Type 0
Within task None l = CanLock task l
Within task (Some e) l = CountedBy task e.kind l

-- what is due first of a call on an attempt
takes_first : (t : Table) (w : Work) (l : LocalState) (e : Event) → CanLock (Doing w) l →
    IsDue t (at_first w l) e → Takes t w l e (left_first w l) e.kind
takes_first t (Opening o) l e can due = of_kind t (Opening o) l e 4 due.0 (omega arith, tt)
takes_first t (Locking ws) l e can due =
    takes_locked t (Locking ws) l e (locking ws (Locking ws) l) ws can due (omega arith)
takes_first t (Finishing ws) l e can due = takes_drawn t (Finishing ws) l e (drawing l) ws due (omega arith)
takes_first t (Committing ws) l e can due =
    takes_locked t (Committing ws) l e (locking ws (Committing ws) l) ws can due (omega arith)

-- and behind an event of this kind
takes_next : (t : Table) (w : Work) (l : LocalState) (newest e : Event) (k : Kind) → Counted k l →
    IsDue t (next k newest w l) e → Takes t w l e (left_next k w l) e.kind
takes_next t w l newest e LookLock c due = elim (cases_Bool (is_readable l.sample newest.found)) [
  | inl q ↦ let is : e.kind ≡ LookLow = rw q at due in of_kind t w l e 3 is (omega arith, tt)
  | inr q ↦ let none : ⊥ = rw q at due in absurd none
]
takes_next t w l newest e LookLow c due = of_kind t w l e 2 due (omega arith, tt)
takes_next t w l newest e LookHigh c due = of_kind t w l e 1 due (omega arith, tt)
takes_next t w l newest e LookAgain c due = absurd due
takes_next t w l newest e (Lock ws) c due = elim (cases_Bool l.failed) [
  | inl q ↦
      subst (λ n. Takes t w l e n e.kind) (sym (cond-true l.failed (length l.holds) (locking ws.value w l) q))
      (takes_given t w l e (length l.holds) q (rw q at due) (omega arith))
  | inr q ↦
      subst (λ n. Takes t w l e n e.kind) (sym (cond-false l.failed (length l.holds) (locking ws.value w l) q))
      (takes_locked t w l e (locking ws.value w l) ws.value c (rw q at due) (omega arith))
]
takes_next t w l newest e (Draw ws) c due = takes_checked t w l e (checking l) c due (omega arith)
takes_next t w l newest e Check c due = elim (cases_Bool l.failed) [
  | inl q ↦
      subst (λ n. Takes t w l e n e.kind) (sym (cond-true l.failed (length l.holds) (checking l) q))
      (takes_given t w l e (length l.holds) q (rw q at due) (omega arith))
  | inr q ↦
      subst (λ n. Takes t w l e n e.kind) (sym (cond-false l.failed (length l.holds) (checking l) q))
      (takes_checked t w l e (checking l) c (rw q at due) (omega arith))
]
takes_next t w l newest e WriteLow c due = takes_written t w l e (writing l.holds) (or_zero l.drawn) due (omega arith)
takes_next t w l newest e WriteHigh c due = takes_written t w l e (writing l.holds) (or_zero l.drawn) due (omega arith)
takes_next t w l newest e Unlock c due = elim (cases_Bool l.failed) [
  | inl q ↦
      subst (λ n. Takes t w l e n e.kind) (sym (cond-true l.failed (length l.holds) (writing l.holds) q))
      (takes_given t w l e (length l.holds) q (rw q at due) (omega arith))
  | inr q ↦
      subst (λ n. Takes t w l e n e.kind) (sym (cond-false l.failed (length l.holds) (writing l.holds) q))
      (takes_written t w l e (writing l.holds) (or_zero l.drawn) (rw q at due) (omega arith))
]
takes_next t w l newest e Enrol c due = absurd due
takes_next t w l newest e Sample c due = absurd due

-- to begin
takes_begun : (t : Table) (newest : Option Event) (l : LocalState) (e : Event) →
    IsDue t (in_beginning t newest l) e → left Beginning (Some e) (after e.kind t l e) + 1 ≤ left Beginning newest l
takes_begun t newest l e due = go (cases_Bool (has_sampled newest)) (cases_Bool (length l.holds == 0)) (cases_Bool (is_spent t l))
  where
    go : (has_sampled newest ≡ true) ⊎ (has_sampled newest ≡ false) →
        (length l.holds == 0 ≡ true) ⊎ (length l.holds == 0 ≡ false) → (is_spent t l ≡ true) ⊎ (is_spent t l ≡ false) →
        left Beginning (Some e) (after e.kind t l e) + 1 ≤ left Beginning newest l
    go (inl a) b c = let none : ⊥ = rw a at due in absurd none
    go (inr a) (inr b) c =
        let given = first_given t l.holds e (rw (a, b) at due) in
        let less = given.1 in
        rw a (subst (λ k. left Beginning (Some (record e { kind = k })) (after k t l e) + 1 ≤ length l.holds + 1)
        (sym given.0) (omega arith))
    go (inr a) (inl b) (inl c) = let none : ⊥ = rw (a, b, c) at due in absurd none
    go (inr a) (inl b) (inr c) =
        let is : e.kind ≡ Sample = rw (a, b, c) at due in
        rw a (subst (λ k. left Beginning (Some (record e { kind = k })) (after k t l e) + 1 ≤ length l.holds + 1)
        (sym is) (omega arith))

-- an event that is due takes one off
takes : (task : Task) (t : Table) (newest : Option Event) (l : LocalState) (e : Event) → Within task newest l →
    IsDue t (due task t newest l) e →
    (left task (Some e) (after e.kind t l e) + 1 ≤ left task newest l) × Within task (Some e) (after e.kind t l e)
takes Enrolling t newest l e c due = elim (cases_Bool (is_some l.number)) [
  | inl q ↦ let none : ⊥ = rw q at due in absurd none
  | inr q ↦
      let is : e.kind ≡ Enrol = rw q at due in
      (rw q (subst (λ k. one_unless (is_some (after k t l e).number) + 1 ≤ 1) (sym is) (omega arith)), tt)
]
takes Beginning t newest l e c due = (takes_begun t newest l e due, tt)
takes Returning t newest l e c due =
    let given = first_given t l.holds e due in
    let less = given.1 in
    (subst (λ k. length (after k t l e).holds + 1 ≤ length l.holds) (sym given.0) (omega arith), tt)
takes (Doing w) t None l e c due = takes_first t w l e c due
takes (Doing w) t (Some newest) l e c due = takes_next t w l newest e newest.kind c due

all_take : (task : Task) (t : Table) (l : LocalState) (es : List Event) → CanLock task l → Obeys task t l es →
    (length es + left task (newest_of es) (state_after t l es) ≤ left task None l)
    × Within task (newest_of es) (state_after t l es)
all_take task t l [] can o = (omega arith, can)
all_take task t l (e ∷ es) can o =
    let before = all_take task t l es can o.0 in
    let one = takes task t (newest_of es) (state_after t l es) e before.1 o.1 in
    let a = before.0 in let b = one.0 in (omega arith, one.1)

price_is : (task : Task) (l : LocalState) → left task None l ≤ price task l
price_is Enrolling l = at_most_one (is_some l.number)
price_is Beginning l = omega arith
price_is Returning l = omega arith
price_is (Doing (Opening o)) l = omega arith
price_is (Doing (Locking ws)) l = omega arith
price_is (Doing (Finishing ws)) l = let most = writing_most l.holds in omega arith
price_is (Doing (Committing ws)) l = let most = writing_most l.holds in omega arith

pub bounded : (task : Task) (t : Table) (l : LocalState) (es : List Event) → CanLock task l → Obeys task t l es →
    length es ≤ price task l
bounded task t l es can o =
    let all = (all_take task t l es can o).0 in let most = price_is task l in omega arith
