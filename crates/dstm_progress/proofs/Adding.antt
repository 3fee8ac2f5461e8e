-- What a call on an attempt adds to what its caller has committed.
use Rattle.std.proofs.Common.{◌&&◌, ◌++◌, ◌+◌, ◌==◌, ◌∙◌, ◌∷◌, ◌≡◌, ◌≢◌, ◌⊎◌, List, [], add-one, ap, append_assoc, arith, false, inl, inr, length, length-append, refl, subst, sym, true, ℕ}
use Rattle.dstm_core.proofs.Base.{Core, Event, IsPastOf, LocalState, Val, after, and_parts, cases_Bool, eq-eqb, events_of, local, nat_tests}
use Rattle.std.proofs.lemmas.List.Elements.{All-cons, All-nil, filter-append}
use Rattle.dstm_machines.proofs.Own.{own_first}
use Rattle.dstm_opacity.specs.Committed.{attempt_of, done_by, has_committed, is_commit}
use Rattle.dstm_opacity.proofs.Stays.{NoneCommits, call_adds_none, same_told, told_stays}
use Rattle.dstm_core.proofs.Pasts.{core_past}
use Rattle.dstm_order.proofs.Base.{Commit, Doing, Kind, Lcg, Obeys, Outside, Shape, Work, effort_of, newest_of, state_after}
use Rattle.dstm_progress.proofs.Calls.{nothing_due}
use Rattle.dstm_progress.proofs.Own.{AreAllowed, IsNewest, newest_own}
use Rattle.dstm_progress.specs.Calls.{EveryCommitIsAdded, EveryOtherCallAddsNothing}
use Rattle.dstm_progress.proofs.OwnEvents.{after_own, allowed_own}
use Rattle.dstm_progress.proofs.Sound.{Sound, sound_after, sound_before}

-- ---- a call that does not commit

commit_sets : (s : Shape) (l : LocalState) (e : Event) (k : Kind) → is_commit k ≡ true → e.found == 3 ≡ true →
    (after k s l e).committed ≡ true
commit_sets s l e Commit k q = q
commit_sets s l e k is q = absurd (cc)

none_commits : (w : Work) (s : Shape) (l : LocalState) (g : Lcg) (es : List Event) → Obeys (Doing w) s l g es →
    AreAllowed s l es → Sound l → (state_after s l es).committed ≡ false → NoneCommits es
none_commits w s l g [] o a h un = All-nil (λ (e : Event). has_committed e ≡ false)
none_commits w s l g (e ∷ es) o a h un =
    let old = state_after s l es in
    let inside : old.phase ≢ Outside = λ z. nothing_due w s (newest_of es) old (effort_of s l g es) e z o.1 in
    All-cons (λ (e : Event). has_committed e ≡ false) e es (none (cases_Bool (has_committed e)))
    (none_commits w s l g es o.0 a.0 h ((sound_after s l es a.0 h).goes inside))
  where
    none : (has_committed e ≡ true) ⊎ (has_committed e ≡ false) → has_committed e ≡ false
    none (inr q) = q
    none (inl q) =
        let two = and_parts (is_commit e.kind) (e.found == 3) q in
        let x = commit_sets s (state_after s l es) e e.kind two.0 two.1 in absurd (cc)

pub adds_nothing : EveryOtherCallAddsNothing
adds_nothing = λ w s start c g events later before h un.
    let l = local s before c in
    call_adds_none s start later before c events h.core h.own
    (none_commits w s l g events h.call.obeys (allowed_own s c (later ++ before) before events h.core h.own)
    (sound_before s c (later ++ before) before events h.core h.own)
    (ap (λ (l : LocalState). l.committed) (sym (after_own s c (later ++ before) before events h.own)) ∙ un))

-- ---- a call that commits

-- only a Commit that succeeds commits
commits_by : (s : Shape) (l : LocalState) (e : Event) (k : Kind) → l.committed ≡ false →
    (after k s l e).committed ≡ true → is_commit k && (e.found == 3) ≡ true
commits_by s l e Commit n c = c
commits_by s l e k n c = absurd (grind (arith, nat_tests))

-- a Commit keeps what the attempt has done
commit_keeps : (s : Shape) (start : List Val) (run : List Event) (c : ℕ) (l : LocalState) (e : Event) (k : Kind) →
    is_commit k ≡ true → attempt_of s start run c (after k s l e) ≡ attempt_of s start run c l
commit_keeps s start run c l e Commit h = refl
commit_keeps s start run c l e k h = absurd (cc)

-- of two events lists that one run goes on from, one goes on from the other
one_past : (later before others : List Event) (e : Event) (es : List Event) → later ++ before ≡ others ++ e ∷ es →
    IsPastOf before es ⊎ IsPastOf (e ∷ es) before
one_past [] before others e es q = inr (record { later = others; whole = sym q })
one_past (x ∷ later) before [] e es q = inl (record { later = later; whole = cc })
one_past (x ∷ later) before (y ∷ others) e es q = one_past later before others e es (cc)

-- what stood as the call began stands before its newest event
began_before : (c : ℕ) (before : List Event) (e : Event) (es rest : List Event) → e.caller ≡ c →
    events_of c es ≡ rest ++ events_of c before → IsPastOf before es ⊎ IsPastOf (e ∷ es) before → IsPastOf before es
began_before c before e es rest q own (inl p) = p
began_before c before e es rest q own (inr p) =
    absurd (let a = longer in let b = ap length own in let d = length-append rest (events_of c before) in omega arith)
  where
    whole : events_of c before ≡ events_of c p.later ++ e ∷ events_of c es
    whole = ap (events_of c) (sym p.whole) ∙ filter-append (λ (e : Event). e.caller == c) p.later (e ∷ es)
        ∙ ap (λ xs. events_of c p.later ++ xs) (own_first e es c (eq-eqb e.caller c q))

    longer : length (events_of c before) ≡ length (events_of c p.later) + (length (events_of c es) + 1)
    longer =
        let a = ap length whole in let b = length-append (events_of c p.later) (e ∷ events_of c es) in
        let d = add-one (length (events_of c es)) in omega arith

-- the newest event is the Commit
added_by : (w : Work) (s : Shape) (start : List Val) (c : ℕ) (g : Lcg) (e : Event) (es later before : List Event) →
    Core s (later ++ before) → events_of c (later ++ before) ≡ (e ∷ es) ++ events_of c before →
    Obeys (Doing w) s (local s before c) g es → AreAllowed s (local s before c) es → Sound (local s before c) →
    (state_after s (local s before c) es).committed ≡ false → has_committed e ≡ true →
    done_by s start (later ++ before) (later ++ before) c
    ≡ attempt_of s start (later ++ before) c (local s (later ++ before) c) ∷ done_by s start before before c
added_by w s start c g e es later before core own o a h un commits =
    at_end ∙ sym (same_told s start run (e ∷ n.before) (e ∷ n.before) core core' here
    (record { later = []; whole = refl }) c) ∙ one
    ∙ ap (λ x. x ∷ done_by s start run n.before c) attempt
    ∙ ap (λ xs. attempt_of s start run c (local s run c) ∷ xs) rest
  where
    run : List Event
    run = later ++ before

    n : IsNewest c run e (es ++ events_of c before)
    n = newest_own c run e (es ++ events_of c before) own

    whole : Core s (n.later ++ e ∷ n.before)
    whole = subst (Core s) n.run core

    core' : Core s (e ∷ n.before)
    core' = core_past s n.later (e ∷ n.before) whole

    here : IsPastOf (e ∷ n.before) run
    here = record { later = n.later; whole = sym n.run }

    past : IsPastOf before n.before
    past = began_before c before e n.before es n.own n.rest (one_past later before n.later e n.before n.run)

    at_end : done_by s start run run c ≡ done_by s start (e ∷ n.before) (e ∷ n.before) c
    at_end =
        ap (λ xs. done_by s start xs xs c) n.run
        ∙ told_stays s start n.later (e ∷ n.before) c whole
        (ap (events_of c) (sym n.run) ∙ own ∙ ap (λ xs. e ∷ xs) (sym n.rest) ∙ sym (own_first e n.before c (eq-eqb e.caller c n.own)))

    one : done_by s start run (e ∷ n.before) c
        ≡ attempt_of s start run c (local s n.before c) ∷ done_by s start run n.before c
    one = rw (eq-eqb e.caller c n.own, commits) refl

    attempt : attempt_of s start run c (local s n.before c) ≡ attempt_of s start run c (local s run c)
    attempt =
        ap (attempt_of s start run c) (after_own s c n.before before es n.rest)
        ∙ sym (commit_keeps s start run c (state_after s (local s before c) es) e e.kind
        (and_parts (is_commit e.kind) (e.found == 3) commits).0)
        ∙ ap (attempt_of s start run c) (sym (after_own s c run before (e ∷ es) own))

    rest : done_by s start run n.before c ≡ done_by s start before before c
    rest =
        same_told s start run n.before n.before core core'.0 (record {
          later = n.later ++ e ∷ [];
          whole = append_assoc n.later (e ∷ []) n.before ∙ sym n.run;
        }) (record { later = []; whole = refl }) c
        ∙ ap (λ xs. done_by s start xs xs c) (sym past.whole)
        ∙ call_adds_none s start past.later before c es (subst (Core s) (sym past.whole) core'.0)
        (ap (events_of c) past.whole ∙ n.rest) (none_commits w s (local s before c) g es o a h un)

pub is_added : EveryCommitIsAdded
is_added = λ w s start c g events later before h i now.
    go w s start c g events later before h.core h.own h.call.obeys i now
  where
    go : (w : Work) (s : Shape) (start : List Val) (c : ℕ) (g : Lcg) (events later before : List Event) →
        Core s (later ++ before) → events_of c (later ++ before) ≡ events ++ events_of c before →
        Obeys (Doing w) s (local s before c) g events → (local s before c).phase ≢ Outside →
        (local s (later ++ before) c).committed ≡ true →
        done_by s start (later ++ before) (later ++ before) c
        ≡ attempt_of s start (later ++ before) c (local s (later ++ before) c) ∷ done_by s start before before c
    go w s start c g [] later before core own o i now = absurd (
        let x = (sound_before s c (later ++ before) before [] core own).goes i in
        let y = ap (λ (l : LocalState). l.committed) (after_own s c (later ++ before) before [] own) in cc)
    go w s start c g (e ∷ es) later before core own o i now =
        let old = state_after s (local s before c) es in
        let h = sound_before s c (later ++ before) before (e ∷ es) core own in
        let a = (allowed_own s c (later ++ before) before (e ∷ es) core own).0 in
        let inside : old.phase ≢ Outside =
        λ z. nothing_due w s (newest_of es) old (effort_of s (local s before c) g es) e z o.1 in
        let un = (sound_after s (local s before c) es a h).goes inside in
        added_by w s start c g e es later before core own o.0 a h un
        (commits_by s old e e.kind un
        (ap (λ (l : LocalState). l.committed) (sym (after_own s c (later ++ before) before (e ∷ es) own)) ∙ now))
