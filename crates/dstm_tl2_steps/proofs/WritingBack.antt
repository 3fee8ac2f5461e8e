-- To write back and to unlock what is locked, one object after the other.
use Rattle.std.proofs.Common.{◌≡◌, ◌≢◌, ◌==◌, ◌<◌, ◌+◌, ◌*◌, ◌-◌, ◌⊎◌, ◌∷◌, ◌∙◌, ℕ, inl, inr, Bool, List, [], refl, ap, arith, sym, subst, true, false, Option, Some, None, is_some, length, drop, ◌||◌, ◌&&◌, not, map}
use Rattle.std.proofs.lemmas.Bool.{and_parts, cases_eq, eq-eqb, ne_eqb, not-true}
use Rattle.dstm_model.specs.declared.value.Val.{Val}
use Rattle.dstm_machines.specs.Traces.Access.{Store}
use Rattle.dstm_tl2.specs.declared.kind.Kind.TheVariants.{Enrol, Sample, Unlock, WriteHigh, WriteLow}
use Rattle.dstm_tl2.specs.Rules.{Event, new_hold}
use Rattle.dstm_tl2.specs.Sharing.{table_of}
use Rattle.dstm_tl2.specs.State.{Hold, LocalState, hold_of, is_valid, marked, or_hold, or_zero, to_check, with_high, with_low, without}
use Rattle.dstm_tl2.specs.Words.{Table, objects, place}
use Rattle.dstm_tl2.specs.Words.Word.{HighWord, LowWord}
use Rattle.dstm_tl2_words.specs.Seats.{Home}
use Rattle.dstm_tl2_order.specs.declared.again.TlAgain.{TlAgain}
use Rattle.dstm_tl2_steps.specs.declared.steps.Steps.{Steps}
use Rattle.dstm_tl2_steps.specs.Opened.{write_at}
use Rattle.dstm_tl2_order.specs.Order.{Due, due, has_sampled, in_giving_back, in_writing_back, is_spent}
use Rattle.dstm_tl2_order.specs.Order.Due.{Done, FreeAs, Just, LookAt, PutHigh, PutLow}
use Rattle.dstm_tl2_order.specs.Tasks.{Task, Work}
use Rattle.dstm_tl2_order.specs.Tasks.Task.{Beginning, Doing, Enrolling, Returning}
use Rattle.dstm_tl2_steps.specs.Under.{Began, IsFirst, Under, Went, made_by, now}
use Rattle.dstm_tl2_steps.proofs.InRun.{held_below, new_word}
use Rattle.dstm_tl2_steps.proofs.GivingBack.{without_first}
use Rattle.dstm_tl2_steps.proofs.Going.{goes_on}
use Rattle.dstm_tl2_steps.proofs.Held.{first_from}

-- ---- one object among those that are locked

marked_none : (f : Hold → Hold) (o : ℕ) (hs : List Hold) → hold_of o hs ≡ None → marked f o hs ≡ hs
marked_none f o [] h = refl
marked_none f o (k ∷ hs) h = go (cases_eq k.object o) (λ i. marked_none f o hs i)
  where
    go : (k.object ≡ o) ⊎ (k.object ≡ o → ⊥) → (hold_of o hs ≡ None → marked f o hs ≡ hs) →
        marked f o (k ∷ hs) ≡ k ∷ hs
    go (inl q) ih = absurd (let is : Some k ≡ None = rw (eq-eqb k.object o q) at h in cc)
    go (inr q) ih = rw (ne_eqb k.object o q) (ap (λ x. k ∷ x) (ih (rw (ne_eqb k.object o q) at h)))

-- the first one, which is locked once, is changed
pub marked_first : (f : Hold → Hold) (o : ℕ) (h : Hold) (rest : List Hold) → h.object ≡ o → hold_of o rest ≡ None →
    marked f o (h ∷ rest) ≡ f h ∷ rest
marked_first f o h rest q once = rw (eq-eqb h.object o q) (ap (λ x. f h ∷ x) (marked_none f o rest once))

-- ---- the task of a call in which an event of an attempt is due

abbrev pub is_of_attempt : Due → Bool
is_of_attempt (Just Enrol) = false
is_of_attempt (Just Sample) = false
is_of_attempt (Just kind) = true
is_of_attempt (LookAt object) = true
is_of_attempt (PutLow object) = true
is_of_attempt (PutHigh object) = true
is_of_attempt (FreeAs object word) = false
is_of_attempt Done = false

giving_back_not : (hs : List Hold) → is_of_attempt (in_giving_back hs) ≡ false
giving_back_not [] = refl
giving_back_not (h ∷ hs) = refl

pub doing : (task : Task) (t : Table) (newest : Option Event) (l : LocalState) {d : Due} →
    due task t newest l ≡ d → is_of_attempt d ≡ true → (work : Work) × (task ≡ Doing work)
doing (Doing work) t newest l q i = (work, refl)
doing Enrolling t newest l {d = d} q i = absurd (go (is_some l.number) refl)
  where
    go : (x : Bool) → is_some l.number ≡ x → ⊥
    go true e = let z : Done ≡ d = rw e at q in let y = ap is_of_attempt z in cc
    go false e = let z : Just Enrol ≡ d = rw e at q in let y = ap is_of_attempt z in cc
doing Returning t newest l q i = absurd (let x = giving_back_not l.holds in let y = ap is_of_attempt q in cc)
doing Beginning t newest l {d = d} q i =
    absurd (go (has_sampled newest) refl (length l.holds == 0) refl (is_spent t l) refl)
  where
    go : (x : Bool) → has_sampled newest ≡ x → (y : Bool) → (length l.holds == 0) ≡ y →
        (z : Bool) → is_spent t l ≡ z → ⊥
    go true e y f z g = let w : Done ≡ d = rw e at q in let v = ap is_of_attempt w in cc
    go false e false f z g =
        let w : in_giving_back l.holds ≡ d = rw (e, f) at q in let v = ap is_of_attempt w in
        let n = giving_back_not l.holds in cc
    go false e true f true g = let w : Done ≡ d = rw (e, f, g) at q in let v = ap is_of_attempt w in cc
    go false e true f false g = let w : Just Sample ≡ d = rw (e, f, g) at q in let v = ap is_of_attempt w in cc

-- ---- a call on an attempt goes on

module _ {L : Type 0} {holds : L → List Val → Type 0} {home : Home L} {b : Began} where
  pub due_is : {steps : Steps L} {d f : Due} {a : Option TlAgain} → Under holds home b steps d a → d ≡ f →
      Under holds home b steps f a
  due_is {steps = steps} {d = d} {a = a} u q = subst (λ d. Under holds home b steps d a) q u

  -- the call is on an attempt, since an event of one is due
  pub is_doing : {steps : Steps L} {d : Due} {a : Option TlAgain} → Under holds home b steps d a →
      is_of_attempt d ≡ true → (work : Work) × (b.task ≡ Doing work)
  is_doing {steps = steps} u i = doing b.task (table_of home.terms) _ (now home steps) u.due i

-- ---- the first object that is locked

pub first_held : {l : LocalState} {w : ℕ × Val} {rest : List Hold} → IsFirst l w rest →
    hold_of w.0 l.holds ≡ Some (new_hold l w)
first_held {w = w} f = ap (hold_of w.0) f.held ∙ rw (eq-eqb w.0 w.0 refl) refl

pub first_is_held : {l : LocalState} {w : ℕ × Val} {rest : List Hold} → IsFirst l w rest →
    is_some (hold_of w.0 l.holds) ≡ true
first_is_held f = ap is_some (first_held f)

pub valid_good : (l : LocalState) → is_valid l ≡ true → l.failed ≡ false
valid_good l h =
    let rest = (and_parts (is_some l.drawn) ((l.checked == length (to_check l)) && not l.failed) h).1 in
    not-true l.failed (and_parts (l.checked == length (to_check l)) (not l.failed) rest).1

or_false : (x : Bool) → (x || false) ≡ x
or_false true = refl
or_false false = refl

-- it is of the table
pub first_below : {L : Type 0} {holds : L → List Val → Type 0} {home : Home L} {b : Began} {steps : Steps L} {d : Due}
    {a : Option TlAgain} {w : ℕ × Val} {rest : List Hold} → IsFirst (now home steps) w rest →
    Under holds home b steps d a → w.0 < objects (table_of home.terms)
first_below {w = w} first u = held_below u w.0 (first_is_held first)

module _ {L : Type 0} (holds : L → List Val → Type 0) (home : Home L) (b : Began) (number o : ℕ) (value : Val)
    (start : Steps L) (rest : List Hold) (first : IsFirst (now home start) (o, value) rest) where
  -- its low part is written
  pub record LowPut (steps : Steps L) : Type 0 where
    pub state : now home steps ≡ record (now home start) {
      holds = with_low (new_hold (now home start) (o, value)) ∷ rest;
    }
    pub under : Under holds home b steps (PutHigh o) None

  -- so is its high part
  pub record HighPut (steps : Steps L) : Type 0 where
    pub state : now home steps ≡ record (now home start) {
      holds = with_high (with_low (new_hold (now home start) (o, value))) ∷ rest;
    }
    pub under : Under holds home b steps (FreeAs o (2 * number + 2)) None

  module _ (u : Under holds home b start (in_writing_back number (now home start).holds) None) where
    -- the low part is due first
    low_due : Under holds home b start (PutLow o) None
    low_due = due_is u (ap (in_writing_back number) first.held)

    work : (work : Work) × (b.task ≡ Doing work)
    work = is_doing low_due refl

    pub low_put : {new : Steps L} (found : ℕ) →
        Went holds home b start new None
        (made_by b (Store value.low) WriteLow (place (table_of home.terms) (LowWord o)) found) → LowPut new
    low_put {new = new} found w =
        let at : objects (table_of home.terms) + o - objects (table_of home.terms) ≡ o = omega arith in
        let state : now home new ≡ record (now home start) {
          holds = with_low (new_hold (now home start) (o, value)) ∷ rest;
        } = w.state
        ∙ ap (λ n. record (now home start) { holds = marked with_low n (now home start).holds }) at
        ∙ ap (λ hs. record (now home start) { holds = marked with_low o hs }) first.held
        ∙ ap (λ hs. record (now home start) { holds = hs })
        (marked_first with_low o (new_hold (now home start) (o, value)) rest refl first.once) in
        record {
          state = state;
          under = due_is (goes_on work.0 work.1 w)
              (ap (λ (l : LocalState). in_writing_back (or_zero l.drawn) l.holds) state);
        }

    pub high_put : (now home start).drawn ≡ Some number → {old new : Steps L} (found : ℕ) → LowPut old →
        Went holds home b old new None
        (made_by b (Store value.high) WriteHigh (place (table_of home.terms) (HighWord o)) found) → HighPut new
    high_put drawn {old = old} {new = new} found low w =
        let at : 2 * objects (table_of home.terms) + o - 2 * objects (table_of home.terms) ≡ o = omega arith in
        let state : now home new ≡ record (now home start) {
          holds = with_high (with_low (new_hold (now home start) (o, value))) ∷ rest;
        } = w.state
        ∙ ap (λ n. record (now home old) { holds = marked with_high n (now home old).holds }) at
        ∙ ap (λ (l : LocalState). record l { holds = marked with_high o l.holds }) low.state
        ∙ ap (λ hs. record (now home start) { holds = hs })
        (marked_first with_high o (with_low (new_hold (now home start) (o, value))) rest refl first.once) in
        record {
          state = state;
          under = due_is (goes_on work.0 work.1 w)
              (ap (λ (l : LocalState). in_writing_back (or_zero l.drawn) l.holds) state
              ∙ ap (λ n. FreeAs o (2 * or_zero n + 2)) drawn);
        }

    pub unlocked_state : (now home start).drawn ≡ Some number → {old new : Steps L} (found : ℕ) → HighPut old →
        Went holds home b old new None (made_by b (Store (2 * number + 2)) Unlock o found) →
        now home new ≡ record (now home start) { holds = rest }
    unlocked_state drawn found high w =
        let l : LocalState = now home start in
        let k : Hold = with_high (with_low (new_hold l (o, value))) in
        let other : (2 * number + 2 == (new_hold l (o, value)).word) ≡ false =
        new_word u number o (new_hold l (o, value)) drawn (first_held first) in
        let here : hold_of o (k ∷ rest) ≡ Some k = rw (eq-eqb o o refl) refl in
        let gave : (l.gave_back || (2 * number + 2 == (or_hold (hold_of o (k ∷ rest))).word)) ≡ l.gave_back =
        rw (here, other, or_false l.gave_back) refl in
        w.state
        ∙ ap (λ (m : LocalState). record m {
          holds = without o m.holds;
          gave_back = m.gave_back || (2 * number + 2 == (or_hold (hold_of o m.holds)).word);
        }) high.state
        ∙ ap (λ x. record l { holds = without o (k ∷ rest); gave_back = x }) gave
        ∙ ap (λ hs. record l { holds = hs }) (without_first k rest first.once)

    pub unlocked : is_valid (now home start) ≡ true →
        (now home start).drawn ≡ Some number → {old new : Steps L} (found : ℕ) →
        Went holds home b old new None (made_by b (Store (2 * number + 2)) Unlock o found) →
        now home new ≡ record (now home start) { holds = rest } →
        Under holds home b new (in_writing_back number (now home new).holds) None
    unlocked valid drawn {new = new} found w state =
        let good : (now home new).failed ≡ false =
        ap (λ (l : LocalState). l.failed) state ∙ valid_good (now home start) valid in
        let same : (now home new).drawn ≡ Some number = ap (λ (l : LocalState). l.drawn) state ∙ drawn in
        due_is (goes_on work.0 work.1 w) (rw (good, same) refl)

-- ---- one write after the other

module _ {L : Type 0} (holds : L → List Val → Type 0) (home : Home L) (b : Began) (number : ℕ) (start : Steps L)
    (writes : List (ℕ × Val)) where
  -- so many writes are written back
  pub record Writing (steps : Steps L) (i : ℕ) : Type 0 where
    pub state : now home steps ≡ record (now home start) {
      holds = map (new_hold (now home start)) (drop i writes);
    }
    pub under : Under holds home b steps (in_writing_back number (now home steps).holds) None

module _ {L : Type 0} {holds : L → List Val → Type 0} {home : Home L} {b : Began} {number : ℕ} {start : Steps L}
    {writes : List (ℕ × Val)} where
  -- the object of the next write is the first of those that are locked
  pub next_is_first : {steps : Steps L} {i : ℕ} → Writing holds home b number start writes steps i → i < length writes →
      ((i j : ℕ) → i < j → j < length writes → (write_at writes i).0 ≢ (write_at writes j).0) →
      IsFirst (now home steps) (write_at writes i) (map (new_hold (now home start)) (drop (i + 1) writes))
  next_is_first {i = i} w h apart =
      subst (λ (l : LocalState). IsFirst l (write_at writes i) (map (new_hold (now home start)) (drop (i + 1) writes)))
      (sym w.state)
      (first_from (record (now home start) { holds = map (new_hold (now home start)) (drop i writes) }) writes i apart h
      refl)

  pub one_written : {old new : Steps L} {i : ℕ} → Writing holds home b number start writes old i →
      now home new ≡ record (now home old) { holds = map (new_hold (now home start)) (drop (i + 1) writes) } →
      Under holds home b new (in_writing_back number (now home new).holds) None → Writing holds home b number start writes new (i + 1)
  one_written {i = i} w state u = record {
    state = state
        ∙ ap (λ (l : LocalState). record l { holds = map (new_hold (now home start)) (drop (i + 1) writes) }) w.state;
    under = u;
  }
