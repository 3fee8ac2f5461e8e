-- A caller's own events, and its state by them.
use Rattle.std.proofs.Common.{◌≡◌, ◌≢◌, ◌==◌, ◌⊎◌, ◌∷◌, ◌++◌, ◌∙◌, ℕ, inl, inr, List, [], refl, ap, append-nil, sym, true, false}
use Rattle.std.proofs.lemmas.Bool.{cases_Bool, cond-false, cond-true, eq-eqb, ne_eqb}
use Rattle.std.proofs.lemmas.List.{append_cancel_right}
use Rattle.std.proofs.lemmas.List.Elements.{filter-append}
use Rattle.dstm_machines.specs.declared.event.Event.{Event}
use Rattle.dstm_machines.specs.Machines.{Machine, local, state_after}
use Rattle.dstm_machines.specs.Traces.{IsPastOf, events_of}
use Rattle.dstm_machines.proofs.Runs.{local-events_of}

module _ {K : Type 0} where
  -- ---- its events

  pub own_first : (e : Event K) (es : List (Event K)) (c : ℕ) → (e.caller == c) ≡ true →
      events_of c (e ∷ es) ≡ e ∷ events_of c es
  own_first e es c q = cond-true (e.caller == c) (e ∷ events_of c es) (events_of c es) q

  pub own_other : (e : Event K) (es : List (Event K)) (c : ℕ) → (e.caller == c) ≡ false →
      events_of c (e ∷ es) ≡ events_of c es
  own_other e es c q = cond-false (e.caller == c) (e ∷ events_of c es) (events_of c es) q

  -- the same by the numbers of the callers
  pub own_event : (e : Event K) (es : List (Event K)) → events_of e.caller (e ∷ es) ≡ e ∷ events_of e.caller es
  own_event e es = own_first e es e.caller (eq-eqb e.caller e.caller refl)

  pub others_event : (c : ℕ) (e : Event K) (es : List (Event K)) → e.caller ≢ c →
      events_of c (e ∷ es) ≡ events_of c es
  others_event c e es other = own_other e es c (ne_eqb e.caller c other)

  pub own_append : (c : ℕ) (more es : List (Event K)) →
      events_of c (more ++ es) ≡ events_of c more ++ events_of c es
  own_append c more es = filter-append (λ (e : Event K). e.caller == c) more es

  -- those since a past, where its own events since then are known
  pub own_later : (c : ℕ) (old new events : List (Event K)) → (p : IsPastOf old new) →
      events_of c new ≡ events ++ events_of c old → events_of c p.later ≡ events
  own_later c old new events p own =
      append_cancel_right (events_of c p.later) events (events_of c old)
      (sym (own_append c p.later old) ∙ ap (events_of c) p.whole ∙ own)

-- ---- its state

module _ {K T S : Type 0} (machine : Machine K T S) (table : T) where
  -- after an event of its own, and after one of another caller
  pub local_mine : (es : List (Event K)) (e : Event K) (c : ℕ) → (e.caller == c) ≡ true →
      local machine table (e ∷ es) c ≡ machine.after table (local machine table es c) e
  local_mine es e c q =
      cond-true (e.caller == c) (machine.after table (local machine table es c) e) (local machine table es c) q

  pub local_others : (es : List (Event K)) (e : Event K) (c : ℕ) → (e.caller == c) ≡ false →
      local machine table (e ∷ es) c ≡ local machine table es c
  local_others es e c q =
      cond-false (e.caller == c) (machine.after table (local machine table es c) e) (local machine table es c) q

  -- equal own events make equal states
  pub same_local : (es fs : List (Event K)) (c : ℕ) → events_of c es ≡ events_of c fs →
      local machine table es c ≡ local machine table fs c
  same_local es fs c q =
      sym (local-events_of machine table es c)
      ∙ ap (λ xs. local machine table xs c) q
      ∙ local-events_of machine table fs c

  -- over two runs of events
  pub state_both : (state : S) (xs ys : List (Event K)) →
      state_after machine table state (xs ++ ys)
      ≡ state_after machine table (state_after machine table state ys) xs
  state_both state [] ys = refl
  state_both state (x ∷ xs) ys = ap (λ s. machine.after table s x) (state_both state xs ys)

  -- it is that after its own events
  pub own_state : (c : ℕ) (later es : List (Event K)) →
      local machine table (later ++ es) c
      ≡ state_after machine table (local machine table es c) (events_of c later)
  own_state c [] es = refl
  own_state c (e ∷ later) es = go (cases_Bool (e.caller == c)) (own_state c later es)
    where
      go : (e.caller == c ≡ true) ⊎ (e.caller == c ≡ false) →
          local machine table (later ++ es) c
          ≡ state_after machine table (local machine table es c) (events_of c later) →
          local machine table (e ∷ (later ++ es)) c
          ≡ state_after machine table (local machine table es c) (events_of c (e ∷ later))
      go (inl q) ih =
          local_mine (later ++ es) e c q
          ∙ ap (λ s. machine.after table s e) ih
          ∙ ap (state_after machine table (local machine table es c)) (sym (own_first e later c q))
      go (inr q) ih =
          local_others (later ++ es) e c q
          ∙ ih
          ∙ ap (state_after machine table (local machine table es c)) (sym (own_other e later c q))

  -- all of them
  pub whole_state : (c : ℕ) (es : List (Event K)) →
      local machine table es c ≡ state_after machine table machine.first (events_of c es)
  whole_state c es = ap (λ xs. local machine table xs c) (sym (append-nil es)) ∙ own_state c es []

  -- where it makes none, it stays
  pub local_quiet : (more es : List (Event K)) (c : ℕ) → events_of c more ≡ [] →
      local machine table (more ++ es) c ≡ local machine table es c
  local_quiet more es c none =
      own_state c more es ∙ ap (state_after machine table (local machine table es c)) none

  -- from what it was before them
  pub after_own : (c : ℕ) (new old events : List (Event K)) → events_of c new ≡ events ++ events_of c old →
      local machine table new c ≡ state_after machine table (local machine table old c) events
  after_own c new old events own =
      whole_state c new
      ∙ ap (state_after machine table machine.first) own
      ∙ state_both machine.first events (events_of c old)
      ∙ ap (λ s. state_after machine table s events) (sym (whole_state c old))

-- a caller whose only event is the last had none before it
pub none_before_only : {K : Type 0} (c : ℕ) (xs ys : List (Event K)) (e : Event K) → e.caller ≡ c →
    events_of c (e ∷ (xs ++ ys)) ≡ e ∷ [] → events_of c ys ≡ []
none_before_only {K = K} c xs ys e own only =
    let all : e ∷ events_of c (xs ++ ys) ≡ e ∷ [] = sym (own_first e (xs ++ ys) c (eq-eqb e.caller c own)) ∙ only in
    let more : events_of c (xs ++ ys) ≡ [] = cc in
    empty (events_of c xs) (events_of c ys) (sym (own_append c xs ys) ∙ more)
  where
    empty : (us vs : List (Event K)) → us ++ vs ≡ [] → vs ≡ []
    empty [] vs q = q
    empty (u ∷ us) vs q = absurd (cc)
