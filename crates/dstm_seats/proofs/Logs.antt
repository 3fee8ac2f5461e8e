-- Logs: their pasts, and the events of one caller in them.
use Rattle.std.proofs.Common.{◌≡◌, ℕ, suc, ◌<◌, ◌≤◌, List, [], ◌∷◌, ◌++◌, length, refl, sym, ap, ◌∙◌, ⊎_elim, arith, length-append}
use Rattle.std.proofs.lemmas.Bool.Decides.{leb_tells}
use Rattle.dstm_machines.specs.declared.event.Event.{Event}
use Rattle.dstm_machines.specs.Traces.{IsPastOf, events_of}
use Rattle.dstm_machines.proofs.Own.{own_append}
use Rattle.dstm_seats.specs.Seats.{longer}

module _ {K : Type 0} where
  -- ---- the events of one caller

  nil_of : (xs : List (Event K)) → length xs ≡ 0 → xs ≡ []
  nil_of [] e = refl
  nil_of (x ∷ xs) e = absurd (omega arith)

  -- where the whole log has no more events of n than a past of it, none came since
  pub none_since : (n : ℕ) (before later log : List (Event K)) → later ++ before ≡ log →
      events_of n log ≡ events_of n before → events_of n later ≡ []
  none_since n before later log whole same =
      let all : length (events_of n log) ≡ length (events_of n later ++ events_of n before) =
      ap (λ l. length (events_of n l)) (sym whole) ∙ ap length (own_append n later before) in
      let mine : length (events_of n log) ≡ length (events_of n before) = ap length same in
      nil_of (events_of n later) (omega (arith, length-append (events_of n later) (events_of n before)))

  -- and where it has none, the past has none
  pub none_before : (n : ℕ) (before later log : List (Event K)) → later ++ before ≡ log → events_of n log ≡ [] →
      events_of n before ≡ []
  none_before n before later log whole none =
      let all : length (events_of n log) ≡ length (events_of n later ++ events_of n before) =
      ap (λ l. length (events_of n l)) (sym whole) ∙ ap length (own_append n later before) in
      let zero : length (events_of n log) ≡ 0 = ap length none in
      nil_of (events_of n before) (omega (arith, length-append (events_of n later) (events_of n before)))

  -- ---- pasts

  past_length : (before log : List (Event K)) → IsPastOf before log → length before ≤ length log
  past_length before log p =
      let n : length (p.later ++ before) ≡ length log = ap length p.whole in
      omega (arith, length-append p.later before)

  -- of two pasts of one log the shorter is a past of the longer
  past_between : (xs ys rx ry : List (Event K)) → rx ++ xs ≡ ry ++ ys → length xs ≤ length ys → IsPastOf xs ys
  past_between xs ys rx [] e l = record { later = rx; whole = e }
  past_between xs ys [] (y ∷ ry) e l =
      let n : length xs ≡ length (y ∷ ry ++ ys) = ap length e in absurd (omega (arith, length-append ry ys))
  past_between xs ys (x ∷ rx) (y ∷ ry) e l =
      let tails : rx ++ xs ≡ ry ++ ys = cc in past_between xs ys rx ry tails l

  past_of : (log xs ys : List (Event K)) → IsPastOf xs log → IsPastOf ys log → length xs ≤ length ys → IsPastOf xs ys
  past_of log xs ys p q l = past_between xs ys p.later q.later (p.whole ∙ sym q.whole) l

  -- a past of full length is the whole
  whole : (log xs : List (Event K)) → IsPastOf xs log → length log ≤ length xs → xs ≡ log
  whole log xs p l =
      let n : length (p.later ++ xs) ≡ length log = ap length p.whole in
      let none : p.later ≡ [] = nil_of p.later (omega (arith, length-append p.later xs)) in
      ap (λ more. more ++ xs) (sym none) ∙ p.whole

  pub past_nil : (xs : List (Event K)) → IsPastOf xs [] → xs ≡ []
  past_nil xs p = let l = past_length xs [] p in nil_of xs (omega arith)

  -- what a past has of n already, a longer one has no more of
  quiet_between : (n : ℕ) (log xs ys : List (Event K)) → IsPastOf xs ys → IsPastOf ys log →
      events_of n log ≡ events_of n xs → events_of n log ≡ events_of n ys
  quiet_between n log xs ys p q same =
      let all : length (events_of n log) ≡ length (events_of n q.later ++ events_of n ys) =
      ap (λ l. length (events_of n l)) (sym q.whole) ∙ ap length (own_append n q.later ys) in
      let some : length (events_of n ys) ≡ length (events_of n p.later ++ events_of n xs) =
      ap (λ l. length (events_of n l)) (sym p.whole) ∙ ap length (own_append n p.later xs) in
      let mine : length (events_of n log) ≡ length (events_of n xs) = ap length same in
      let none : events_of n q.later ≡ [] = nil_of (events_of n q.later) (omega (
        arith,
        length-append (events_of n q.later) (events_of n ys),
        length-append (events_of n p.later) (events_of n xs),
      )) in
      ap (events_of n) (sym q.whole) ∙ own_append n q.later ys ∙ ap (λ l. l ++ events_of n ys) none

  module _ (log xs ys : List (Event K)) (p : IsPastOf xs log) (q : IsPastOf ys log) where
    -- a fact of the longer of two logs
    of_longer : (P : List (Event K) → Type 0) → (length xs < length ys → P ys) → (length ys ≤ length xs → P xs) →
        P (longer xs ys)
    of_longer P hit miss = ⊎_elim
        (λ t. rw t.0 (hit t.1)) (λ t. rw t.0 (miss (let l = t.1 in omega arith)))
        (leb_tells (suc (length xs)) (length ys))

    pub longer_past : IsPastOf (longer xs ys) log
    longer_past = of_longer (λ l. IsPastOf l log) (λ _. q) (λ _. p)

    pub quiet_left : (n : ℕ) → events_of n log ≡ events_of n xs → events_of n log ≡ events_of n (longer xs ys)
    quiet_left n same =
        of_longer (λ l. events_of n log ≡ events_of n l)
        (λ l. quiet_between n log xs ys (past_of log xs ys p q (omega arith)) q same) (λ _. same)

    pub quiet_right : (n : ℕ) → events_of n log ≡ events_of n ys → events_of n log ≡ events_of n (longer xs ys)
    quiet_right n same =
        of_longer (λ l. events_of n log ≡ events_of n l) (λ _. same)
        (λ l. quiet_between n log ys xs (past_of log ys xs q p l) p same)

    pub longer_whole_left : xs ≡ log → longer xs ys ≡ log
    longer_whole_left is =
        of_longer (λ l. l ≡ log) (λ l. let m = past_length ys log q in let n : length xs ≡ length log = ap length is in
        absurd (omega arith)) (λ _. is)

    pub longer_whole_right : ys ≡ log → longer xs ys ≡ log
    longer_whole_right is =
        of_longer (λ l. l ≡ log) (λ _. is)
        (λ l. whole log xs p (let n : length ys ≡ length log = ap length is in omega arith))
