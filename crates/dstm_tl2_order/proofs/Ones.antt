-- Events of an attempt that pass a test.
use Rattle.std.proofs.Common.{◌≡◌, ◌==◌, ◌<◌, ◌⊎◌, ◌∷◌, ◌++◌, ◌∙◌, ℕ, inl, inr, List, [], refl, ap, arith, sym, subst, true, false, Bool, ◌&&◌}
use Rattle.std.specs.Prelude.{◌||◌}
use Rattle.dstm_tl2.proofs.Base.{Event, LocalState, Table, and_from, and_left, and_parts, and_right, cases_Bool, eq-eqb, eqb-true, events_of, is_draw, local, ne_eqb, or_left, or_right, tl2, will_of}
use Rattle.dstm_machines.proofs.Own.{own_first, own_other}
use Rattle.dstm_machines.proofs.Runs.{local-events_of}
use Rattle.dstm_tl2.proofs.Foretelling.{will_more}
use Rattle.dstm_tl2_order.specs.Ended.{Disturbed, HasCommitted, draws_for, finds_changed, finds_locked, finds_newer, has_one}
use Rattle.dstm_tl2_order.specs.Ended.Disturbed.{found_locked, found_newer, found_changed}
use Rattle.dstm_tl2_order.proofs.Steps.{begun_up}

abbrev pub Test : Type 0
Test = LocalState → Event → Bool

-- the newest event is one
pub one_here : (test : Test) (t : Table) (e : Event) (es : List Event) (c i : ℕ) → (e.caller == c) ≡ true →
    (local t es c).begun ≡ i → test (local t es c) e ≡ true → has_one test t (e ∷ es) c i ≡ true
one_here test t e es c i own at is =
    or_left ((e.caller == c) && (((local t es c).begun == i) && test (local t es c) e)) (has_one test t es c i)
    (and_from (e.caller == c) (((local t es c).begun == i) && test (local t es c) e) own
    (and_from ((local t es c).begun == i) (test (local t es c) e) (eq-eqb (local t es c).begun i at) is))

pub one_more : (test : Test) (t : Table) (more es : List Event) (c i : ℕ) → has_one test t es c i ≡ true →
    has_one test t (more ++ es) c i ≡ true
one_more test t [] es c i is = is
one_more test t (e ∷ more) es c i is = or_right _ (has_one test t (more ++ es) c i) (one_more test t more es c i is)

-- an event that stands somewhere in a log
pub one_there : (test : Test) (t : Table) {log : List Event} (later : List Event) (e : Event) (es : List Event)
    (c i : ℕ) →
    log ≡ later ++ e ∷ es → e.caller ≡ c → (local t es c).begun ≡ i → test (local t es c) e ≡ true →
    has_one test t log c i ≡ true
one_there test t later e es c i whole own at is =
    subst (λ (l : List Event). has_one test t l c i ≡ true) (sym whole)
    (one_more test t later (e ∷ es) c i (one_here test t e es c i (eq-eqb e.caller c own) at is))

-- where each that passes a test passes another one
pub one_weaker : (test other : Test) (t : Table) (es : List Event) (c i : ℕ) →
    ((l : LocalState) (e : Event) → test l e ≡ true → other l e ≡ true) → has_one test t es c i ≡ true →
    has_one other t es c i ≡ true
one_weaker test other t [] c i weaker is = is
one_weaker test other t (e ∷ es) c i weaker is =
    elim (cases_Bool ((e.caller == c) && (((local t es c).begun == i) && test (local t es c) e))) [
      | inl q ↦
          let outer = and_parts (e.caller == c) (((local t es c).begun == i) && test (local t es c) e) q in
          let inner = and_parts ((local t es c).begun == i) (test (local t es c) e) outer.1 in
          one_here other t e es c i outer.0 (eqb-true (local t es c).begun i inner.0) (weaker (local t es c) e inner.1)
      | inr q ↦
          or_right ((e.caller == c) && (((local t es c).begun == i) && other (local t es c) e)) (has_one other t es c i)
          (one_weaker test other t es c i weaker (rw q at is))
    ]

-- none is of an attempt that is not begun yet
pub none_later : (test : Test) (t : Table) (es : List Event) (c i : ℕ) → (local t es c).begun < i →
    has_one test t es c i ≡ false
none_later test t [] c i late = refl
none_later test t (e ∷ es) c i late =
    let up = begun_up t c (e ∷ []) es in
    let other : ((local t es c).begun == i) ≡ false = ne_eqb (local t es c).begun i (λ q. omega (arith, q)) in
    let head : ((e.caller == c) && (((local t es c).begun == i) && test (local t es c) e)) ≡ false =
    and_right (e.caller == c) (((local t es c).begun == i) && test (local t es c) e)
    (and_left ((local t es c).begun == i) (test (local t es c) e) other) in
    rw head (none_later test t es c i (omega arith))

-- ---- its caller's own events tell

abbrev one_head : (test : Test) → Bool → LocalState → Event → ℕ → Bool → Bool
one_head test own l e i more = (own && ((l.begun == i) && test l e)) || more

pub one_own : (test : Test) (t : Table) (es : List Event) (c i : ℕ) →
    has_one test t (events_of c es) c i ≡ has_one test t es c i
one_own test t [] c i = refl
one_own test t (e ∷ es) c i = elim (cases_Bool (e.caller == c)) [
  | inl q ↦
      ap (λ xs. has_one test t xs c i) (own_first e es c q)
      ∙ ap (λ l. one_head test (e.caller == c) l e i (has_one test t (events_of c es) c i)) (local-events_of tl2 t es c)
      ∙ ap (one_head test (e.caller == c) (local t es c) e i) (one_own test t es c i)
  | inr q ↦
      ap (λ xs. has_one test t xs c i) (own_other e es c q) ∙ (one_own test t es c i)
      ∙ sym (ap (λ b. one_head test b (local t es c) e i (has_one test t es c i)) q)
]

pub one_same : (test : Test) (t : Table) (one other : List Event) (c i : ℕ) → events_of c one ≡ events_of c other →
    has_one test t one c i ≡ has_one test t other c i
one_same test t one other c i same =
    sym (one_own test t one c i) ∙ ap (λ xs. has_one test t xs c i) same ∙ one_own test t other c i

-- ---- what became of an attempt stays so

pub disturbed_stays : (t : Table) (later before : List Event) (c i : ℕ) → Disturbed t before c i →
    Disturbed t (later ++ before) c i
disturbed_stays t later before c i (found_locked is) = found_locked (one_more finds_locked t later before c i is)
disturbed_stays t later before c i (found_newer is) = found_newer (one_more finds_newer t later before c i is)
disturbed_stays t later before c i (found_changed is) = found_changed (one_more finds_changed t later before c i is)

pub committed_stays : (t : Table) (later before : List Event) (c i : ℕ) → HasCommitted t before c i →
    HasCommitted t (later ++ before) c i
committed_stays t later before c i is =
    one_more (draws_for t (later ++ before)) t later before c i
    (one_weaker (draws_for t before) (draws_for t (later ++ before)) t before c i
    (λ l e h. let parts = and_parts (is_draw e.kind) (will_of t before e.found) h in
    and_from (is_draw e.kind) (will_of t (later ++ before) e.found) parts.0 (will_more t later before e.found parts.1)) is)
