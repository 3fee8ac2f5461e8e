-- What holds of the runs of every machine.
use Rattle.std.proofs.Common.{◌≡◌, ◌≢◌, ◌==◌, ◌⊎◌, ◌∷◌, ◌++◌, ℕ, inl, inr, List, [], refl, ap, arith, subst, sym, true, false}
use Rattle.std.proofs.lemmas.Bool.{cases_Bool, cases_eq, eq-eqb, ne_eqb}
use Rattle.std.proofs.lemmas.Bool.Decides.{nat_tests}
use Rattle.dstm_machines.specs.declared.event.Event.{Event}
use Rattle.dstm_machines.specs.Machines.{Fits, Machine, local, Run}
use Rattle.dstm_machines.specs.Traces.{Each, at, events_of}

-- what an event puts at its word
pub put_at : {K : Type 0} → (initial : ℕ → ℕ) (es : List (Event K)) (e : Event K) (p : ℕ) → e.place ≡ p →
    at initial (e ∷ es) p ≡ e.put
put_at initial es e p h = grind (arith, nat_tests)

-- an event that lies elsewhere keeps a word
pub elsewhere : {K : Type 0} → (initial : ℕ → ℕ) (es : List (Event K)) (e : Event K) (p : ℕ) → e.place ≢ p →
    at initial (e ∷ es) p ≡ at initial es p
elsewhere initial es e p h = rw (ne_eqb e.place p h) refl

-- so does one that puts what it found
pub kept : {K : Type 0} → (initial : ℕ → ℕ) (es : List (Event K)) (e : Event K) (p : ℕ) →
    e.found ≡ at initial es e.place → (e.place ≡ p → e.put ≡ e.found) →
    at initial (e ∷ es) p ≡ at initial es p
kept initial es e p l h = grind (arith, nat_tests)

-- what is so of each event of a trace is so of each of a past
pub each_past : {K : Type 0} → (Is : Event K → List (Event K) → Type 0) (more es : List (Event K)) →
    Each Is (more ++ es) → Each Is es
each_past Is [] es each = each
each_past Is (e ∷ more) es each = each_past Is more es each.0

module _ {K T S : Type 0} (machine : Machine K T S) (table : T) where
  pub local_own : (es : List (Event K)) (e : Event K) →
      local machine table (e ∷ es) e.caller ≡ machine.after table (local machine table es e.caller) e
  local_own es e = rw (eq-eqb e.caller e.caller refl) refl

  pub local_other : (es : List (Event K)) (e : Event K) (c : ℕ) → e.caller ≢ c →
      local machine table (e ∷ es) c ≡ local machine table es c
  local_other es e c h = rw (ne_eqb e.caller c h) refl

  -- a fact of each caller's state, from that of the caller that steps and those of the others
  pub callers : (es : List (Event K)) (e : Event K) (P : ℕ → S → Type 0) →
      P e.caller (machine.after table (local machine table es e.caller) e) →
      ((c : ℕ) → e.caller ≢ c → P c (local machine table es c)) → (c : ℕ) →
      P c (local machine table (e ∷ es) c)
  callers es e P own other c = go (cases_eq e.caller c)
    where
      go : (e.caller ≡ c) ⊎ (e.caller ≡ c → ⊥) → P c (local machine table (e ∷ es) c)
      go (inl q) = subst (λ n. P n (local machine table (e ∷ es) n)) q
          (subst (P e.caller) (sym (local_own es e)) own)
      go (inr q) = subst (P c) (sym (local_other es e c q)) (other c q)

  -- every part of a run that has its oldest events is one
  pub run_past : (more es : List (Event K)) → Run machine table (more ++ es) → Run machine table es
  run_past more es run = each_past (λ e es. Fits machine table es e) more es run

  -- a caller's state is made by its own events
  pub local-events_of : (es : List (Event K)) (c : ℕ) →
      local machine table (events_of c es) c ≡ local machine table es c
  local-events_of [] c = refl
  local-events_of (e ∷ es) c = go (cases_Bool (e.caller == c)) (local-events_of es c)
    where
      go : (e.caller == c ≡ true) ⊎ (e.caller == c ≡ false) →
          local machine table (events_of c es) c ≡ local machine table es c →
          local machine table (events_of c (e ∷ es)) c ≡ local machine table (e ∷ es) c
      go (inl q) ih = rw (q, q) (ap (λ l. machine.after table l e) ih)
      go (inr q) ih = rw q ih
