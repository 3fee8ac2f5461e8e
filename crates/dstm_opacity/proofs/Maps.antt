-- Maps, entries and the sights of a live attempt.
use Rattle.std.proofs.Common.{◌++◌, ◌+◌, ◌==◌, ◌∙◌, ◌∷◌, ◌≡◌, ◌≤◌, List, [], arith, length, subst, suc, zero, ℕ, if◌then◌else◌}
use Rattle.dstm_core.proofs.Base.{Agrees, CoreRun, Entry, Event, IsSight, IsUnnamed, NamesOnce, Val, cond_both, eqb-false, eqb-true, pass_place, prefix_at, seen, state_after}
use Rattle.dstm_opacity.proofs.Base.{Shape}
use Rattle.dstm_opacity.proofs.Opacity.{sight_is_seen}
use Rattle.dstm_model.proofs.Entries.{states_keep_length}

-- a map that a live attempt has seen
pub record SeenMap (s : Shape) (holds : List Val → Type 0) (pairs : List (ℕ × Val)) : Type 0 where
  pub map : List Val
  pub objects : length map ≡ s.objects
  pub lawful : holds map
  pub values : Agrees map pairs

-- every sight has one
pub sights_have_maps : (s : Shape) (start : List Val) (holds : List Val → Type 0) (later before : List Event)
    (sight : Event) → CoreRun s start holds (later ++ sight ∷ before) → IsSight s before sight → holds start →
    SeenMap s holds (seen s start (later ++ sight ∷ before) before sight.caller)
sights_have_maps s start holds later before sight run is lawful =
    let prefix : List Entry = prefix_at s start (later ++ sight ∷ before) (pass_place sight.caller before) in
    let seen = sight_is_seen s start holds later before sight run is in
    record {
      map = state_after start prefix;
      objects = states_keep_length start prefix ∙ run.values;
      lawful = seen.lawful lawful;
      values = seen.values;
    }

-- ---- few pairs name each of n objects once

-- the pairs without the one of object o
without : ℕ → List (ℕ × Val) → List (ℕ × Val)
without o [] = []
without o (p ∷ ps) = if p.0 == o then ps else p ∷ without o ps

without_unnamed : (o n : ℕ) (ps : List (ℕ × Val)) → IsUnnamed n ps → IsUnnamed n (without o ps)
unfolding without
without_unnamed o n [] h = h
without_unnamed o n (p ∷ ps) h =
    cond_both (p.0 == o) ps (p ∷ without o ps) (IsUnnamed n) (λ _. h.1)
    (λ _. (h.0, without_unnamed o n ps h.1))

-- pairs that do not name the last object name those before it
below_last : (n : ℕ) (ps : List (ℕ × Val)) → NamesOnce (suc n) ps → IsUnnamed n ps → NamesOnce n ps
below_last n [] h u = tt
below_last n (p ∷ ps) h u =
    ((let a = h.0 in let b = u.0 in omega arith), h.1, below_last n ps h.2 u.1)

without_last : (n : ℕ) (ps : List (ℕ × Val)) → NamesOnce (suc n) ps → NamesOnce n (without n ps)
unfolding without
without_last n [] h = tt
without_last n (p ∷ ps) h =
    cond_both (p.0 == n) ps (p ∷ without n ps) (NamesOnce n)
    (λ q. below_last n ps h.2 (subst (λ o. IsUnnamed o ps) (eqb-true p.0 n q) h.1))
    (λ q. (
      (let a = h.0 in let b = eqb-false p.0 n q in omega arith),
      without_unnamed n p.0 ps h.1,
      without_last n ps h.2,
    ))

one_less : (o : ℕ) (ps : List (ℕ × Val)) → length ps ≤ length (without o ps) + 1
unfolding without
one_less o [] = omega arith
one_less o (p ∷ ps) =
    cond_both (p.0 == o) ps (p ∷ without o ps) (λ (qs : List (ℕ × Val)). length (p ∷ ps) ≤ length qs + 1)
    (λ _. omega arith) (λ _. omega (arith, one_less o ps))

pub few_are_named : (n : ℕ) (ps : List (ℕ × Val)) → NamesOnce n ps → length ps ≤ n
few_are_named zero [] h = omega arith
few_are_named zero (p ∷ ps) h = absurd (let a = h.0 in omega arith)
few_are_named (suc n) ps h =
    omega (arith, one_less n ps, few_are_named n (without n ps) (without_last n ps h))
