-- The first event that breaks a run is one alone, and there is none in a core run.
use Rattle.std.proofs.Common.{Bool, true, false, ◌≡◌, ◌+◌, ◌<◌, ◌≤◌, ◌↔◌, ◌⊎◌, ◌++◌, ◌∙◌, ℕ, List, [], ◌∷◌, length, take, drop, reverse, get_or, inl, inr, ap, sym, subst, arith}
use Rattle.std.proofs.lemmas.Grind.{common_steps}
use Rattle.std.proofs.lemmas.List.{reverse-append, take-append-drop}
use Rattle.std.proofs.Math.Seq.{take-suc}
use Rattle.dstm_core.proofs.Base.{Core, Event, Shape}
use Rattle.dstm_core.specs.declared.verdict.Replay.TheVariants.{Run, Broken}
use Rattle.dstm_core.specs.Replays.{IsFirstBroken, Stands, Judged}
use Rattle.dstm_core.specs.Local.{Tracked}
use Rattle.dstm_core.proofs.Pasts.{core_past}

-- one event more, and the log has it as its newest
pub next_log : (t : List Event) (i : ℕ) (d : Event) → i < length t →
    reverse (take (i + 1) t) ≡ get_or t i d ∷ reverse (take i t)
next_log t i d h = grind (arith, take-suc t i d h, reverse-append (take i t) (get_or t i d ∷ []), common_steps)

-- fewer events of a core run are a core run
pub core_fewer : (s : Shape) (t : List Event) (i j : ℕ) → i ≤ j → Core s (reverse (take j t)) →
    Core s (reverse (take i t))
core_fewer s t i j h c =
    let parts : reverse (take j t) ≡ reverse (drop i (take j t)) ++ reverse (take i t) =
    grind (arith, take-append-drop i (take j t), reverse-append (take i t) (drop i (take j t)), common_steps) in
    core_past s (reverse (drop i (take j t))) (reverse (take i t)) (subst (Core s) parts c)

compare : (i j : ℕ) → (i < j) ⊎ (j < i) ⊎ (i ≡ j)
compare i j = grind arith

-- all events of a trace
pub core_whole : (s : Shape) (t : List Event) (i : ℕ) → length t ≤ i → Core s (reverse (take i t)) → Core s (reverse t)
core_whole s t i h c =
    let all : take i t ≡ t = grind (arith, common_steps) in subst (λ (u : List Event). Core s (reverse u)) all c

-- there is but one first event that breaks a run
pub one_first : {s : Shape} {t : List Event} {i j : ℕ} → IsFirstBroken s t i → IsFirstBroken s t j → i ≡ j
one_first {s = s} {t = t} {i = i} {j = j} p q = elim (compare i j) [
  | inl h ↦ absurd (p.broken (core_fewer s t (i + 1) j (omega arith) q.before))
  | inr (inl h) ↦ absurd (q.broken (core_fewer s t (j + 1) i (omega arith) p.before))
  | inr (inr h) ↦ h
]

-- and none in a core run
pub none_broken : {s : Shape} {t : List Event} {i : ℕ} → Core s (reverse t) → IsFirstBroken s t i → ⊥
none_broken {s = s} {t = t} {i = i} c p =
    let all : take (length t) t ≡ t = grind (arith, common_steps) in
    let within = p.within in
    p.broken (core_fewer s t (i + 1) (length t) (omega arith)
    (subst (λ (u : List Event). Core s (reverse u)) (sym all) c))

-- the events so far are a core run, after which the table stands
pub record Replayed (s : Shape) (t : List Event) (i : ℕ) (words : List ℕ)
    (callers : List Tracked) : Type 0 where
  pub core : Core s (reverse (take i t))
  pub stands : Stands s words callers (reverse (take i t))

-- an event that fits
pub one_more : (s : Shape) (t : List Event) (i : ℕ) {e : Event} (fits : Bool) (words : List ℕ)
    (callers : List Tracked) → i < length t → e ≡ get_or t i e → fits ≡ true → Core s (reverse (take i t))
    → Judged s (reverse (take i t)) e fits words callers → Replayed s t (i + 1) words callers
one_more s t i {e = e} fits words callers within is held core said =
    let log : reverse (take (i + 1) t) ≡ e ∷ reverse (take i t) = next_log t i e within
    ∙ ap (λ (d : Event). d ∷ reverse (take i t)) (sym is) in
    record {
      core = subst (Core s) (sym log) (core, said.0.0 held);
      stands = subst (Stands s words callers) (sym log) (said.1 held);
    }

-- an event that does not fit
pub breaks : (s : Shape) (t : List Event) (i : ℕ) {e : Event} (fits : Bool) (words : List ℕ)
    (callers : List Tracked) → i < length t → e ≡ get_or t i e → fits ≡ false → Core s (reverse (take i t))
    → Judged s (reverse (take i t)) e fits words callers → IsFirstBroken s t i
breaks s t i {e = e} fits words callers within is fell core said =
    let log : reverse (take (i + 1) t) ≡ e ∷ reverse (take i t) = next_log t i e within
    ∙ ap (λ (d : Event). d ∷ reverse (take i t)) (sym is) in
    record {
      within = within;
      before = core;
      broken = λ c. let both = subst (Core s) log c in let fit : fits ≡ true = said.0.1 both.1 in absurd (cc);
    }

-- the answers to a trace with a first broken event
pub broken_run : {s : Shape} {t : List Event} {i : ℕ} → IsFirstBroken s t i → (Broken i ≡ Run) ↔ Core s (reverse t)
broken_run p = ((λ e. absurd (cc)), (λ c. absurd (none_broken c p)))

pub broken_at : {s : Shape} {t : List Event} {i : ℕ} → IsFirstBroken s t i → (k : ℕ) →
    (Broken i ≡ Broken k) ↔ IsFirstBroken s t k
broken_at {s = s} {t = t} {i = i} p k =
    ((λ e. let same : i ≡ k = cc in subst (IsFirstBroken s t) same p), (λ q. ap Broken (one_first p q)))

-- and to a core run
pub run_at : (s : Shape) (t : List Event) → Core s (reverse t) → (k : ℕ) → (Run ≡ Broken k) ↔ IsFirstBroken s t k
run_at s t c k = ((λ e. absurd (cc)), (λ q. absurd (none_broken c q)))
