-- The committed attempts of a run, in the order of their numbers, and by their callers.
use Rattle.std.proofs.Common.{◌≡◌, ◌≢◌, ◌<◌, ◌≤◌, ◌⊎◌, ◌∷◌, ◌++◌, ◌∙◌, ℕ, inl, inr, List, [], ap, cond, length, map, reverse, sym, subst, true, false, Bool}
use Rattle.std.proofs.lemmas.Bool.{cases_Bool}
use Rattle.dstm_machines.specs.declared.event.Event.{Event}
use Rattle.dstm_machines.specs.Machines.{Machine, local}
use Rattle.dstm_machines.proofs.Runs.{callers}
use Rattle.dstm_model.specs.declared.value.Val.{Val}
use Rattle.dstm_model.specs.Answers.{AreBelow, Committed, NumbersFall, Stands, StandsIn, by_caller}
use Rattle.dstm_model.specs.Map.{Entry, IsLegal, state_after}
use Rattle.dstm_model.proofs.Merging.{below_more, other_list, own_list}
use Rattle.dstm_model.proofs.Standing.{stands_all, stands_in, stands_more}
use Rattle.dstm_machines.specs.Histories.{attempt_at, committed, gathered, history_of}
use Rattle.dstm_machines.proofs.Gathered.{map_told, told_more, told_now, told_still}

module _ {K : Type 0} (commits : Event K → List (Event K) → Bool) (entry : Event K → List (Event K) → Entry) where
  -- the entries are the history
  pub entries_are_history : (run : List (Event K)) →
      history_of commits entry run ≡ reverse (map (λ (x : Committed). x.entry) (committed commits entry run))
  entries_are_history run =
      ap reverse (sym (map_told commits (attempt_at commits entry) (λ (x : Committed). x.entry) run))

  -- Where a clock only rises, and each draw finds it and raises it, the numbers fall from the newest on, and are below
  -- the clock.
  pub falls : (Q : List (Event K) → Type 0) → ((e : Event K) (es : List (Event K)) → Q (e ∷ es) → Q es) →
      (clock : List (Event K) → ℕ) →
      ((e : Event K) (es : List (Event K)) → Q (e ∷ es) → clock es ≤ clock (e ∷ es)) →
      ((e : Event K) (es : List (Event K)) → Q (e ∷ es) → commits e es ≡ true →
      (e.found ≡ clock es) × (e.found < clock (e ∷ es))) →
      (es : List (Event K)) → Q es →
      AreBelow (clock es) (committed commits entry es) × NumbersFall (committed commits entry es)
  falls Q before clock up draws [] q = (tt, tt)
  falls Q before clock up draws (e ∷ es) q =
      go (cases_Bool (commits e es)) (falls Q before clock up draws es (before e es q))
    where
      old : AreBelow (clock es) (committed commits entry es) → AreBelow (clock (e ∷ es)) (committed commits entry es)
      old b = below_more (clock es) (clock (e ∷ es)) (committed commits entry es) (up e es q) b

      go : (commits e es ≡ true) ⊎ (commits e es ≡ false) →
          AreBelow (clock es) (committed commits entry es) × NumbersFall (committed commits entry es) →
          AreBelow (clock (e ∷ es)) (committed commits entry (e ∷ es))
          × NumbersFall (committed commits entry (e ∷ es))
      go (inl h) ih =
          let draw = draws e es q h in
          subst (λ xs. AreBelow (clock (e ∷ es)) xs × NumbersFall xs)
          (sym (told_now commits (attempt_at commits entry) e es h)) (
            (draw.1, old ih.0),
            (subst (λ n. AreBelow n (committed commits entry es)) (sym draw.0) ih.0, ih.1),
          )
      go (inr h) ih =
          subst (λ xs. AreBelow (clock (e ∷ es)) xs × NumbersFall xs)
          (sym (told_still commits (attempt_at commits entry) e es h)) (old ih.0, ih.1)

  -- an attempt that stands among its caller's has its entry in the history, where this is legal and lawful
  pub part_stands : (n : ℕ) (start : List Val) (holds : List Val → Type 0) (run : List (Event K)) →
      length start ≡ n → IsLegal start (history_of commits entry run) →
      ((prefix rest : List Entry) → history_of commits entry run ≡ prefix ++ rest → holds start →
      holds (state_after start prefix)) →
      (c : ℕ) (x : Committed) → Stands x (by_caller c (committed commits entry run)) →
      StandsIn n start holds (history_of commits entry run) x.entry
  part_stands n start holds run values legal lawful c x stands =
      stands_in n start holds (history_of commits entry run) (committed commits entry run) x values
      (entries_are_history run) legal lawful (stands_all c x (committed commits entry run) stands)

  -- Each caller's part of the committed attempts is what it has done, behind what is pending of the attempt that it has
  -- under way, where each of its events keeps it so, and no event of others does anything.
  pub parts_are_done : {T S : Type 0} (machine : Machine K T S) (table : T) (pending : ℕ → S → List Committed)
      (done : List (Event K) → ℕ → List Committed) (Q : List (Event K) → Type 0) →
      ((e : Event K) (es : List (Event K)) → Q (e ∷ es) → Q es) →
      ((c : ℕ) → [] ≡ pending c machine.first ++ done [] c) →
      ((e : Event K) (es : List (Event K)) → Q (e ∷ es) →
      by_caller e.caller (committed commits entry es)
      ≡ pending e.caller (local machine table es e.caller) ++ done es e.caller →
      cond (commits e es) (attempt_at commits entry e es ∷ by_caller e.caller (committed commits entry es))
      (by_caller e.caller (committed commits entry es))
      ≡ pending e.caller (machine.after table (local machine table es e.caller) e) ++ done (e ∷ es) e.caller) →
      ((e : Event K) (es : List (Event K)) (c : ℕ) → e.caller ≢ c → done (e ∷ es) c ≡ done es c) →
      (es : List (Event K)) → Q es → (c : ℕ) →
      by_caller c (committed commits entry es) ≡ pending c (local machine table es c) ++ done es c
  parts_are_done machine table pending done Q before none own other [] q c = none c
  parts_are_done machine table pending done Q before none own other (e ∷ es) q c =
      let ih : (c : ℕ) →
      by_caller c (committed commits entry es) ≡ pending c (local machine table es c) ++ done es c =
      λ c. parts_are_done machine table pending done Q before none own other es (before e es q) c in
      callers machine table es e
      (λ c state. by_caller c (committed commits entry (e ∷ es)) ≡ pending c state ++ done (e ∷ es) c)
      (own_list (commits e es) (attempt_at commits entry e es) (committed commits entry es)
      ∙ own e es q (ih e.caller))
      (λ c h. other_list (commits e es) c (attempt_at commits entry e es) (committed commits entry es) h
      ∙ ih c
      ∙ ap (λ xs. pending c (local machine table es c) ++ xs) (sym (other e es c h)))
      c

-- what stands among the attempts that a trace tells stands among those that a longer one tells
pub stands_later : {K : Type 0} (tells : Event K → List (Event K) → Bool)
    (told : Event K → List (Event K) → Committed) (more es : List (Event K)) (x : Committed) →
    Stands x (gathered tells told es) → Stands x (gathered tells told (more ++ es))
stands_later tells told more es x h =
    let m = told_more tells told more es in
    subst (Stands x) (sym m.1) (stands_more x m.0 (gathered tells told es) h)
