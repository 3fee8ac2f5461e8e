-- An entry that commits has no more reads than its attempt held.
use Rattle.std.proofs.Common.{◌≡◌, ◌∙◌, ◌++◌, ◌∷◌, ℕ, List, [], true, refl, sym, subst, arith}
use Rattle.std.specs.Prelude.{IsSome, All, Contains}
use Rattle.std.proofs.lemmas.List.Elements.{All-contains, Contains-append_right}
use Rattle.dstm_engine.proofs.Base.{Committed, HoldsAtMost, Home, IsEntry, IsRunOf, NamesOnce, Val, history_of, will_of}
use Rattle.dstm_opacity.proofs.Entries.{entries_once}
use Rattle.dstm_opacity.proofs.Standing.{done_stands}
use Rattle.dstm_mem.proofs.Few.{named_few}
use Rattle.dstm_engine.specs.Attempts.{Commits, ReadsAtMost, done}
use Rattle.dstm_engine.specs.Callers.{Called, held, is_live, law_of, live_held, shape_of, start_of}

module _ {L : Type 0} {holds : L → List Val → Type 0} {t n : Called L} {drawn : ℕ} (home : n.home ≡ t.home)
    (run : IsRunOf holds t.home.terms n.log) (commits : Commits t n drawn) where
  there : IsRunOf holds n.home.terms n.log
  there = subst (λ (x : Home L). IsRunOf holds x.terms n.log) (sym home) run

  -- no two reads of the entry are of one object
  once : NamesOnce (shape_of n).objects commits.entry.reads
  once =
      let by : Committed = record { caller = t.number; number = drawn; entry = commits.entry } in
      let stands = done_stands (shape_of n) (start_of n) (holds (law_of n)) [] n.log n.number by there.run
      (record { newer = []; older = done t; is = commits.done }) in
      let each : All (IsEntry (shape_of n).objects) (history_of (shape_of n) (start_of n) n.log) =
      entries_once (shape_of n) (start_of n) (will_of (shape_of n) n.log) n.log n.log there.run.core in
      let all : All (IsEntry (shape_of n).objects) (stands.before ++ commits.entry ∷ stands.after) =
      subst (All (IsEntry (shape_of n).objects)) stands.is each in
      let among : Contains (stands.before ++ commits.entry ∷ stands.after) commits.entry =
      Contains-append_right stands.before (commits.entry ∷ stands.after) commits.entry (0, omega arith, refl) in
      (All-contains (IsEntry (shape_of n).objects) (stands.before ++ commits.entry ∷ stands.after) commits.entry all among).reads

  pub few_reads : {most : ℕ} → is_live t ≡ true → HoldsAtMost most (live_held t) → ReadsAtMost most n
  few_reads live keeps =
      let alive : (o : ℕ) → held t o ≡ live_held t o = λ o. rw live refl in
      let few = named_few (shape_of n).objects commits.entry.reads keeps.objects once
      (λ o some. keeps.each o (subst IsSome (commits.reads o ∙ alive o) some)) in
      record {
        last = record { caller = t.number; number = drawn; entry = commits.entry };
        before = done t;
        done = commits.done;
        few = let most_objects = keeps.few in omega arith;
      }
