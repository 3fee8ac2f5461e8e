-- The values that the words of a closed table tell.
use Rattle.std.proofs.Common.{◌*◌, ◌+◌, ◌<◌, ◌≤◌, ◌∙◌, ◌∷◌, ◌≡◌, ◌≢◌, ◌⊎◌, List, [], append-nil, arith, inl, inr, refl, ap, subst, sym, true, None, ℕ, zero, suc}
use Rattle.std.specs.Prelude.{Contains, length}
use Rattle.std.proofs.lemmas.Bool.{cases_eq, cases_lt}
use Rattle.std.proofs.lemmas.List.{ext_get_or}
use Rattle.std.proofs.lemmas.List.Elements.{Contains-append_right}
use Rattle.dstm_tl2_engine.proofs.Base.{Event, HighWord, IsRunOf, LeftBy, LocalState, LockWord, LowWord, Run, Table, Terms, Val, View, history_of, hold_of, local, no_value, objects, place, shared, table_of, tl2, value_at, will_of, word}
use Rattle.dstm_mem.proofs.Few.{first_or_other}
use Rattle.dstm_model.proofs.Entries.{states_keep_length}
use Rattle.dstm_model.specs.Map.{state_after}
use Rattle.dstm_machines.proofs.Runs.{local-events_of}
use Rattle.dstm_seats.specs.Seats.{AreApart, enrolled}
use Rattle.dstm_tl2.proofs.Closing.{current}
use Rattle.dstm_tl2.proofs.Foretelling.{told}
use Rattle.dstm_tl2.proofs.Orders.{prefix_is_lawful}
use Rattle.dstm_tl2.proofs.Stands.{Stands, stands}
use Rattle.dstm_tl2.proofs.Stands.Stands.{free, waits, commits}
use Rattle.dstm_tl2.specs.Laws.{Tells}
use Rattle.dstm_tl2_engine.specs.Closing.{value_left}
use Rattle.dstm_tl2_engine.specs.Tables.{HasReturned}

-- ---- the loop over the objects

-- the values have those of a table, by what the table was told
pub told_by : (values : List Val) {start first : List Val} (words : List ℕ) → first ≡ start →
    ((o : ℕ) → o < length first → value_at values o ≡ value_left (length first) words o) →
    (o : ℕ) → o < length start → value_at values o ≡ value_left (length start) words o
told_by values words is_start told = rw (← is_start) told

-- ---- numbers that stand once each

-- all but one of some numbers
record Others (numbers : List ℕ) (one : ℕ) : Type 0 where
  others : List ℕ
  shorter : length numbers ≤ length others + 1
  apart : AreApart others
  among : (n : ℕ) → Contains others n → Contains numbers n × (n ≢ one)

others_of : (numbers : List ℕ) (one : ℕ) → AreApart numbers → Others numbers one
others_of [] one apart = record {
  others = [];
  shorter = omega arith;
  apart = tt;
  among = λ n has. absurd (let k = has.1 in omega arith);
}
others_of (x ∷ xs) one apart = by (cases_eq x one) (others_of xs one apart.1)
  where
    by : (x ≡ one) ⊎ (x ≡ one → ⊥) → Others xs one → Others (x ∷ xs) one
    by (inl same) rest = record {
      others = xs;
      shorter = omega arith;
      apart = apart.1;
      among = λ n has. (
        Contains-append_right (x ∷ []) xs n has,
        λ is. apart.0 (subst (Contains xs) (is ∙ sym same) has),
      );
    }
    by (inr differs) rest = record {
      others = x ∷ rest.others;
      shorter = let s = rest.shorter in omega arith;
      apart = (λ has. apart.0 (rest.among x has).0, rest.apart);
      among = λ n has. elim (first_or_other x rest.others n has) [
        | inl first ↦ ((0, omega arith, first), λ is. differs (first ∙ is))
        | inr later ↦
            let a = rest.among n later in (Contains-append_right (x ∷ []) xs n a.0, a.1)
      ];
    }

-- numbers below a bound that stand once each are no more than the bound
pub few_below : (most : ℕ) (numbers : List ℕ) → AreApart numbers → ((n : ℕ) → Contains numbers n → n < most) →
    length numbers ≤ most
few_below zero [] apart below = omega arith
few_below zero (x ∷ xs) apart below = absurd (let no = below x (0, omega arith, refl) in omega arith)
few_below (suc most) numbers apart below =
    let rest = others_of numbers most apart in
    let fewer : length rest.others ≤ most = few_below most rest.others rest.apart (λ n has.
    let a = rest.among n has in let lt = below n a.0 in let other = a.1 in omega (arith, lt, other)) in
    let s = rest.shorter in omega arith

-- a number is one of some numbers or not
has_number : (n : ℕ) (numbers : List ℕ) → Contains numbers n ⊎ (Contains numbers n → ⊥)
has_number n [] = inr (λ has. let k = has.1 in omega arith)
has_number n (x ∷ xs) = elim (cases_eq x n) [
  | inl same ↦ inl (0, omega arith, same)
  | inr differs ↦ elim (has_number n xs) [
    | inl has ↦ inl (Contains-append_right (x ∷ []) xs n has)
    | inr none ↦
        inr (λ has. elim (first_or_other x xs n has) [
          | inl first ↦ differs first
          | inr later ↦ none later
        ])
  ]
]

-- where they are as many as the bound, they are all numbers below it
pub all_below : (most : ℕ) (numbers : List ℕ) → AreApart numbers → ((n : ℕ) → Contains numbers n → n < most) →
    most ≤ length numbers → (n : ℕ) → n < most → Contains numbers n
all_below most numbers apart below many n lt = elim (has_number n numbers) [
  | inl has ↦ has
  | inr none ↦
      let few : length (n ∷ numbers) ≤ most = few_below most (n ∷ numbers) (none, apart) (λ k has.
      elim (first_or_other n numbers k has) [
        | inl first ↦ subst (λ m. m < most) first lt
        | inr later ↦ below k later
      ]) in
      absurd (omega arith)
]

-- ---- the words in the end

-- a value is its two parts
pub value_is : (v : Val) (low high : ℕ) → low ≡ v.low → high ≡ v.high → record { low = low; high = high } ≡ v
value_is v low high p q = ap (λ x. record { low = x; high = high }) p ∙ ap (λ x. record { low = v.low; high = x }) q

-- where no caller holds anything each lock is free
free_word : (t : Table) (run : List Event) (o : ℕ) → Run t run → o < objects t →
    ((c : ℕ) → (local t run c).holds ≡ []) → (version : ℕ) × (word t run (LockWord o) ≡ 2 * version)
free_word t run o r b none = by (stands t (will_of t run) run r (told t run run [] r refl) o b)
  where
    nobody : (c : ℕ) → hold_of o (local t run c).holds ≡ None
    nobody c = ap (hold_of o) (none c)

    by : Stands t (will_of t run) run o → (version : ℕ) × (word t run (LockWord o) ≡ 2 * version)
    by (free g) = (_, g.lock)
    by (waits c h held w) = absurd (let p = nobody c in let q = held.holds in cc)
    by (commits c h n held w) = absurd (let p = nobody c in let q = held.holds in cc)

module _ {L : Type 0} {holds : L → List Val → Type 0} {terms : Terms L} {made : ℕ} {v : View L} {words : List ℕ}
    (l : LeftBy holds terms v words) (back : HasReturned terms made v) (all : terms.callers ≤ made + v.enrolments)
    (first : v.first ≡ true) (none_out : v.out ≡ 0) where
  -- each caller that has enrolled was taken in
  was_taken : (c : ℕ) → c < enrolled (shared holds) terms l.log → Contains v.numbers c
  was_taken c lt =
      let few = l.few in
      let counted = back.counted in
      all_below (enrolled (shared holds) terms l.log) v.numbers l.unlike l.known (omega arith) c lt

  -- so nothing is locked
  nothing_held : (c : ℕ) → (local (table_of terms) l.log c).holds ≡ []
  nothing_held c = elim (cases_lt c (enrolled (shared holds) terms l.log)) [
    | inr le ↦
        ap (λ (x : LocalState). x.holds) (sym (local-events_of tl2 (table_of terms) l.log c)
        ∙ ap (λ xs. local (table_of terms) xs c) (l.fresh c le))
    | inl lt ↦
        subst (λ log. (local (table_of terms) log c).holds ≡ []) (sym (l.whole first none_out))
        (back.free c (was_taken c lt))
  ]

  run_there : Run (table_of terms) l.log
  run_there = l.run.run.run

  -- the words of an object tell its current value
  tells : (o : ℕ) → o < objects (table_of terms) →
      Tells (table_of terms) l.log o
      (value_at (state_after terms.start.value.items (history_of (table_of terms) l.log)) o)
  tells o b =
      let free = free_word (table_of terms) l.log o run_there b nothing_held in
      current (table_of terms) l.log o free.0 run_there b free.1

  left_is : (o : ℕ) → o < objects (table_of terms) →
      value_left (objects (table_of terms)) words o
      ≡ value_at (state_after terms.start.value.items (history_of (table_of terms) l.log)) o
  left_is o b = value_is _ _ _
      (l.left (place (table_of terms) (LowWord o)) (omega arith) ∙ (tells o b).low)
      (l.left (place (table_of terms) (HighWord o)) (omega arith) ∙ (tells o b).high)

  module _ (values : List Val) (same : length values ≡ objects (table_of terms))
      (settled : (o : ℕ) → o < objects (table_of terms) →
      value_at values o ≡ value_left (objects (table_of terms)) words o) where
    -- where no caller is out, the values that the words of a closed table tell are those after the history
    pub last_state : values ≡ state_after terms.start.value.items (history_of (table_of terms) v.log)
    last_state =
        subst (λ log. values ≡ state_after terms.start.value.items (history_of (table_of terms) log))
        (l.whole first none_out) (ext_get_or no_value values _
        (same ∙ sym (states_keep_length terms.start.value.items (history_of (table_of terms) l.log)))
        (λ o within. let b : o < objects (table_of terms) = omega (arith, within, same) in settled o b ∙ left_is o b))

-- and they are lawful
pub last_lawful : {L : Type 0} {holds : L → List Val → Type 0} {terms : Terms L} {v : View L} {words : List ℕ} →
    LeftBy holds terms v words → v.first ≡ true → v.out ≡ 0 → {values : List Val} →
    values ≡ state_after terms.start.value.items (history_of (table_of terms) v.log) → holds terms.law.value values
last_lawful {holds = holds} {terms = terms} {v = v} l first none_out is =
    let run : IsRunOf holds terms v.log = subst (IsRunOf holds terms) (l.whole first none_out) l.run in
    subst (holds terms.law.value) (sym is)
    (prefix_is_lawful (table_of terms) (holds terms.law.value) v.log (history_of (table_of terms) v.log) []
    run.run (sym (append-nil (history_of (table_of terms) v.log))) run.lawful)
