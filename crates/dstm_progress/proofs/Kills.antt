-- A Kill is chosen by the manager.
use Rattle.std.proofs.Common.{◌≡◌, ◌≢◌, ◌∙◌, ◌&&◌, Bool, true, false, ap, refl, subst, sym, nat_lt, is_none, ℕ, Option}
use Rattle.dstm_core.proofs.Base.{Event, LocalState, cond_both, is_live, is_resolved, res, version}
use Rattle.dstm_order.proofs.Base.{Choice, Doing, Done, Due, Effort, IsDue, Kill, Kind, LookHigh, LookNew, LookOld, LookOwner, LookRank, LookStatus, Manager, Quit, Release, Resume, Shape, Step, Work, chosen, due, effort_of, enemy_code, has_ranks, in_conflict, in_resolving, is_paused, just, newest_of, next_or_first, on_choice, state_after, when_resolved}
use Rattle.dstm_managers.specs.declared.decider.Choice.TheVariants as decision
use Rattle.dstm_order.proofs.Rows.{EachStep, giving_way_by, is_step, is_test, resolved_by, table_by, doing_by}
use Rattle.dstm_progress.specs.Lives.{KillsAreChosen}

abbrev kills : Due → Bool
kills (Step Kill n) = true
kills (Step k n) = false
kills Done = false

no_kill : (k : Kind) (n : ℕ) → k ≢ Kill → kills (Step k n) ≡ false
no_kill Kill n h = absurd (h refl)
no_kill k n h = refl

-- where a Kill is due it was chosen
abbrev Chosen : Choice → Due → Type 0
Chosen c d = kills d ≡ true → c ≡ decision.Kill

never : (c : Choice) (d : Due) → kills d ≡ false → Chosen c d
never c d other q = absurd (let x : true ≡ false = sym q ∙ other in cc)

on_chosen : (c : Choice) → Chosen c (on_choice c)
on_chosen decision.Kill q = refl
on_chosen (decision.Wait t) q = absurd (cc)
on_chosen decision.GiveWay q = absurd (cc)

module _ (m : Manager) (l : LocalState) (f : Effort) where
  abbrev C : Due → Type 0
  C d = Chosen (chosen m l f) d

  unlike : (d : Due) → kills d ≡ false → C d
  unlike d = never (chosen m l f) d

  conflict : C (in_conflict m l f)
  conflict =
      cond_both (has_ranks m && is_none (res l).rank) _ _ C (λ _. unlike (just LookRank) refl) (λ _.
      cond_both (nat_lt 0 f.left) _ _ C (λ _. unlike (just LookStatus) refl) (λ _. on_chosen (chosen m l f)))

  resolving : (d : Due) → C d → C (in_resolving m l f d)
  resolving d resolved =
      cond_both (is_paused l.phase) _ _ C
      (λ _. giving_way_by C l f (unlike (just Resume) refl) (unlike (just Quit) refl) (unlike (just LookStatus) refl)) (λ _.
      cond_both (is_resolved (res l)) _ _ C (λ _. resolved) (λ _.
      cond_both (is_none (res l).owner) _ _ C (λ _. unlike (just LookOwner) refl) (λ _.
      cond_both (is_none (res l).status) _ _ C (λ _. unlike (just LookStatus) refl) (λ _.
      cond_both (is_live (enemy_code l)) _ _ C (λ _. conflict) (λ _.
      cond_both (is_none (version (res l))) _ _ C (λ _. unlike (just LookOld) refl) (λ _.
      cond_both (is_none (res l).high) _ _ C (λ _. unlike (just LookHigh) refl) (λ _. unlike (just LookNew) refl)))))))

  steps : (w : Work) → EachStep C w
  steps w = record {
    done = unlike Done refl;
    step = λ k n q. unlike (Step k n) (no_kill k n (λ z. let x = ap is_step z in cc));
    release = λ o q. unlike (Step Release o) refl;
  }

  table_row : (o : Option Event) (w : Work) → C (next_or_first o w m l f)
  table_row o w = table_by C o w m l f (steps w) (resolving (when_resolved w) (resolved_by C w (steps w)))
      (λ k q. unlike (just k) (no_kill k 0 (λ z. let x = ap is_test z in cc)))

due_row : (w : Work) (s : Shape) (o : Option Event) (l : LocalState) (f : Effort) →
    Chosen (chosen s.manager l f) (due (Doing w) s o l f)
due_row w s o l f = doing_by (Chosen (chosen s.manager l f)) w s o l f (never (chosen s.manager l f) Done refl)
    (never (chosen s.manager l f) (just Quit) refl) (table_row s.manager l f o w)

due_kills : (d : Due) (e : Event) → IsDue d e → e.kind ≡ Kill → kills d ≡ true
due_kills (Step k n) e is q = subst (λ j. kills (Step j n) ≡ true) (sym q ∙ is.0) refl
due_kills Done e is q = absurd is

pub kills_are_chosen : KillsAreChosen
kills_are_chosen w s l g e es h q =
    due_row w s (newest_of es) (state_after s l es) (effort_of s l g es)
    (due_kills (due (Doing w) s (newest_of es) (state_after s l es) (effort_of s l g es)) e h.1 q)
