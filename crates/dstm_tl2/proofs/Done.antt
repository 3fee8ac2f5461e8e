-- What a caller has committed is told by its own events, and which of them keep it.
use Rattle.std.proofs.Common.{◌≡◌, ◌==◌, ◌⊎◌, ◌∷◌, ◌++◌, ◌∙◌, ℕ, inl, inr, List, [], refl, ap, arith, sym, subst, true, false, Bool, Option, Some, None, is_some, length, cond, ◌&&◌, not}
use Rattle.std.specs.List.{All}
use Rattle.dstm_tl2.proofs.Base.{AllowedAs, Check, Committed, Draw, Event, IsPastOf, Kind, LocalState, Lock, LookAgain, Run, Sample, Table, Val, after, and_from, and_left, and_right, attempt_of, cases_Bool, commits, cond_both, done_by, eqb-true, events_of, fails, is_sample, is_valid, local, lock, look_of, next_check, not_from_true, or_right, record_read, tl2, to_check}
use Rattle.std.proofs.lemmas.List.Elements.{All-head, All-tail}
use Rattle.dstm_machines.proofs.Gathered.{told_none, told_now, told_still}
use Rattle.dstm_machines.proofs.Attempts.{NoneBegins}
use Rattle.dstm_machines.proofs.Own.{local_mine, local_others, own_first, own_later, own_other}
use Rattle.dstm_machines.proofs.Runs as runs
use Rattle.dstm_tl2.proofs.Foretelling.{valid_parts}
use Rattle.dstm_tl2.proofs.Static.{Static, static, valid_drawn}

-- an own event of a run is allowed in the caller's state
pub allowed_mine : (t : Table) (es : List Event) (e : Event) (c : ℕ) → Run t (e ∷ es) → (e.caller == c) ≡ true →
    AllowedAs e.kind t (local t es c) e
allowed_mine t es e c run q =
    subst (λ n. AllowedAs e.kind t (local t es n) e) (eqb-true e.caller c q) run.1.allowed

-- ---- what it has committed

-- what a caller has committed with one more event of its own
abbrev pub more_done : Table → ℕ → Event → LocalState → List Committed → List Committed
more_done t c e l before =
    cond (is_valid (after e.kind t l e) && not (is_valid l)) (attempt_of c (after e.kind t l e) ∷ before) before

pub done_mine : (t : Table) (es : List Event) (e : Event) (c : ℕ) → (e.caller == c) ≡ true →
    done_by t (e ∷ es) c ≡ more_done t c e (local t es c) (done_by t es c)
done_mine t es e c q =
    ap (λ b. cond (b && (is_valid (local t (e ∷ es) c) && not (is_valid (local t es c))))
    (attempt_of c (local t (e ∷ es) c) ∷ done_by t es c) (done_by t es c)) q
    ∙ ap (λ l. cond (is_valid l && not (is_valid (local t es c))) (attempt_of c l ∷ done_by t es c) (done_by t es c))
    (local_mine tl2 t es e c q)

-- an event with which nothing is committed
pub done_still : (t : Table) (es : List Event) (e : Event) (c : ℕ) → commits t c e es ≡ false →
    done_by t (e ∷ es) c ≡ done_by t es c
done_still t es e c h = told_still (commits t c) (λ e es. attempt_of c (local t (e ∷ es) c)) e es h

-- an event with which its attempt is
pub done_now : (t : Table) (es : List Event) (e : Event) (c : ℕ) → commits t c e es ≡ true →
    done_by t (e ∷ es) c ≡ attempt_of c (local t (e ∷ es) c) ∷ done_by t es c
done_now t es e c h = told_now (commits t c) (λ e es. attempt_of c (local t (e ∷ es) c)) e es h

-- an event of another caller commits nothing
pub other_commits : (t : Table) (es : List Event) (e : Event) (c : ℕ) → (e.caller == c) ≡ false →
    commits t c e es ≡ false
other_commits t es e c q =
    and_left (e.caller == c) (is_valid (local t (e ∷ es) c) && not (is_valid (local t es c))) q

-- an event of another caller changes nothing
pub done_other : (t : Table) (es : List Event) (e : Event) (c : ℕ) → (e.caller == c) ≡ false →
    done_by t (e ∷ es) c ≡ done_by t es c
done_other t es e c q = done_still t es e c (other_commits t es e c q)

-- IT IS TOLD BY ITS OWN EVENTS.
pub done_own : (t : Table) (es : List Event) (c : ℕ) → done_by t (events_of c es) c ≡ done_by t es c
done_own t [] c = refl
done_own t (e ∷ es) c = elim (cases_Bool (e.caller == c)) [
  | inl q ↦
      ap (λ xs. done_by t xs c) (own_first e es c q)
      ∙ done_mine t (events_of c es) e c q
      ∙ ap (λ l. more_done t c e l (done_by t (events_of c es) c)) (runs.local-events_of tl2 t es c)
      ∙ ap (more_done t c e (local t es c)) (done_own t es c)
      ∙ sym (done_mine t es e c q)
  | inr q ↦ ap (λ xs. done_by t xs c) (own_other e es c q) ∙ (done_own t es c) ∙ sym (done_other t es e c q)
]

-- so equal own events tell the same
pub same_done_by : (t : Table) (es fs : List Event) (c : ℕ) → events_of c es ≡ events_of c fs →
    done_by t es c ≡ done_by t fs c
same_done_by t es fs c q = sym (done_own t es c) ∙ ap (λ xs. done_by t xs c) q ∙ done_own t fs c

-- ---- which events commit

-- none of the events is a Sample
abbrev pub NoSamples : List Event → Type 0
NoSamples events = NoneBegins is_sample events

-- only by these an attempt becomes valid
abbrev pub may_commit : Kind → Bool
may_commit (Draw writes) = true
may_commit Check = true
may_commit kind = false

-- none of the events is one of these
abbrev pub NoCommits : List Event → Type 0
NoCommits events = All (λ (e : Event). may_commit e.kind ≡ false) events

pub undrawn_invalid : (l : LocalState) → l.drawn ≡ None → is_valid l ≡ false
undrawn_invalid l q = and_left (is_some l.drawn) ((l.checked == length (to_check l)) && not l.failed) (ap is_some q)

pub failed_invalid : (l : LocalState) → l.failed ≡ true → is_valid l ≡ false
failed_invalid l q =
    and_right (is_some l.drawn) ((l.checked == length (to_check l)) && not l.failed)
    (and_right (l.checked == length (to_check l)) (not l.failed) (not_from_true l.failed q))

-- an attempt that has told no writes has not drawn
pub untold_invalid : (t : Table) (l : LocalState) → Static t l → l.writes ≡ None → is_valid l ≡ false
untold_invalid t l s q = elim (cases_Bool (is_valid l)) [
  | inl v ↦ absurd (let x = s.told (valid_drawn l v) in let y : is_some l.writes ≡ false = ap is_some q in cc)
  | inr v ↦ v
]

-- what is not valid stays so by any other event
pub stays_invalid : (t : Table) (l : LocalState) (e : Event) (k : Kind) → Static t l → AllowedAs k t l e →
    may_commit k ≡ false → is_valid l ≡ false → is_valid (after k t l e) ≡ false
stays_invalid t l e Sample s a m v = refl
stays_invalid t l e LookAgain s a m v =
    cond_both (e.found == (look_of l).word) (record_read l) (record l { look = None })
    (λ (m : LocalState). is_valid m ≡ false) (λ _. undrawn_invalid (record_read l) none) (λ _. v)
  where
    none : l.drawn ≡ None
    none = undrawn l.drawn l.writes s.told a.2.0
      where
        undrawn : (d : Option ℕ) (w : Option (List (ℕ × Val))) → (is_some d ≡ true → is_some w ≡ true) →
            w ≡ None → d ≡ None
        undrawn None w h q = refl
        undrawn (Some n) w h q = absurd (let x : is_some w ≡ true = h refl in cc)
stays_invalid t l e (Lock w) s a m v =
    cond_both (e.found == e.expected) (lock l w.value)
    (record l { look = None; writes = Some w.value; failed = true }) (λ (m : LocalState). is_valid m ≡ false)
    (λ _. undrawn_invalid (lock l w.value) a.2.1)
    (λ _. undrawn_invalid (record l { look = None; writes = Some w.value; failed = true }) a.2.1)
stays_invalid t l e (Draw w) s a m v = absurd (cc)
stays_invalid t l e Check s a m v = absurd (cc)
stays_invalid t l e k s a m v = v

-- and by one that fails
pub fails_invalid : (t : Table) (l : LocalState) (e : Event) (k : Kind) → Static t l → AllowedAs k t l e →
    fails k l e ≡ true → is_valid l ≡ false → is_valid (after k t l e) ≡ false
fails_invalid t l e Check s a f v =
    failed_invalid (after Check t l e) (or_right l.failed (not (e.found == (next_check l).word)) f)
fails_invalid t l e (Draw w) s a f v = absurd (cc)
fails_invalid t l e Sample s a f v = refl
fails_invalid t l e LookAgain s a f v = stays_invalid t l e LookAgain s a refl v
fails_invalid t l e (Lock w) s a f v = stays_invalid t l e (Lock w) s a refl v
fails_invalid t l e k s a f v = v

-- within its attempt, what is valid stays so, and is the same
pub stays_valid : (t : Table) (c : ℕ) (l : LocalState) (e : Event) (k : Kind) → Static t l → AllowedAs k t l e →
    is_sample k ≡ false → is_valid l ≡ true →
    (is_valid (after k t l e) ≡ true) × (attempt_of c (after k t l e) ≡ attempt_of c l)
stays_valid t c l e Sample s a n v = absurd (cc)
stays_valid t c l e LookAgain s a n v =
    absurd (let x = untold_invalid t l s a.2.0 in cc)
stays_valid t c l e (Lock w) s a n v = absurd (let x = undrawn_invalid l a.2.1 in cc)
stays_valid t c l e (Draw w) s a n v = absurd (let x = undrawn_invalid l a.2.2 in cc)
stays_valid t c l e Check s a n v = absurd (let x = (valid_parts l v).1 in let y = a.2.2 in omega arith)
stays_valid t c l e k s a n v = (v, refl)

module _ (t : Table) (c : ℕ) where
  -- an event that commits nothing
  pub never_commits : (es : List Event) (e : Event) → Run t (e ∷ es) →
      (may_commit e.kind ≡ false) ⊎ (fails e.kind (local t es e.caller) e ≡ true) → commits t c e es ≡ false
  never_commits es e run h = go (cases_Bool (e.caller == c)) (cases_Bool (is_valid (local t es c)))
    where
      invalid : (e.caller == c) ≡ true → is_valid (local t es c) ≡ false →
          (may_commit e.kind ≡ false) ⊎ (fails e.kind (local t es e.caller) e ≡ true) →
          is_valid (after e.kind t (local t es c) e) ≡ false
      invalid q v (inl m) =
          stays_invalid t (local t es c) e e.kind (static t es run.0 c) (allowed_mine t es e c run q) m v
      invalid q v (inr f) =
          fails_invalid t (local t es c) e e.kind (static t es run.0 c) (allowed_mine t es e c run q)
          (subst (λ n. fails e.kind (local t es n) e ≡ true) (eqb-true e.caller c q) f) v

      go : (e.caller == c ≡ true) ⊎ (e.caller == c ≡ false) →
          (is_valid (local t es c) ≡ true) ⊎ (is_valid (local t es c) ≡ false) → commits t c e es ≡ false
      go (inr q) w = and_left (e.caller == c) (is_valid (local t (e ∷ es) c) && not (is_valid (local t es c))) q
      go (inl q) (inl v) =
          and_right (e.caller == c) (is_valid (local t (e ∷ es) c) && not (is_valid (local t es c)))
          (and_right (is_valid (local t (e ∷ es) c)) (not (is_valid (local t es c)))
          (not_from_true (is_valid (local t es c)) v))
      go (inl q) (inr v) =
          and_right (e.caller == c) (is_valid (local t (e ∷ es) c) && not (is_valid (local t es c)))
          (and_left (is_valid (local t (e ∷ es) c)) (not (is_valid (local t es c)))
          (ap is_valid (local_mine tl2 t es e c q) ∙ invalid q v h))

  -- where none of the own events is a Draw or a Check, nothing more is committed
  pub quiet_done : (more es : List Event) → Run t (more ++ es) → NoCommits (events_of c more) →
      done_by t (more ++ es) c ≡ done_by t es c
  quiet_done more es run none =
      told_none (commits t c) (λ e es. attempt_of c (local t (e ∷ es) c)) (Run t) (λ e es run. run.0)
      (λ e. may_commit e.kind ≡ false) c (λ e es other. other_commits t es e c other)
      (λ e es run may. never_commits es e run (inl may)) more es run none

  -- Nothing more is committed where the attempt is not valid in the end.
  pub invalid_done : (more es : List Event) → Run t (more ++ es) → NoSamples (events_of c more) →
      is_valid (local t (more ++ es) c) ≡ false → done_by t (more ++ es) c ≡ done_by t es c
  invalid_done [] es run none v = refl
  invalid_done (e ∷ more) es run none v =
      go (cases_Bool (e.caller == c)) (cases_Bool (is_valid (local t (more ++ es) c)))
      (λ h w. invalid_done more es run.0 h w)
    where
      go : (e.caller == c ≡ true) ⊎ (e.caller == c ≡ false) →
          (is_valid (local t (more ++ es) c) ≡ true) ⊎ (is_valid (local t (more ++ es) c) ≡ false) →
          (NoSamples (events_of c more) → is_valid (local t (more ++ es) c) ≡ false →
          done_by t (more ++ es) c ≡ done_by t es c) → done_by t (e ∷ (more ++ es)) c ≡ done_by t es c
      go (inl q) (inl w) ih =
          let all : NoSamples (e ∷ events_of c more) = subst NoSamples (own_first e more c q) none in
          let stays = stays_valid t c (local t (more ++ es) c) e e.kind (static t (more ++ es) run.0 c)
          (allowed_mine t (more ++ es) e c run q)
          (All-head (λ (e : Event). is_sample e.kind ≡ false) e (events_of c more) all) w in
          let yes : is_valid (local t (e ∷ (more ++ es)) c) ≡ true =
          ap is_valid (local_mine tl2 t (more ++ es) e c q) ∙ stays.0 in
          absurd (cc)
      go (inl q) (inr w) ih =
          let all : NoSamples (e ∷ events_of c more) = subst NoSamples (own_first e more c q) none in
          done_still t (more ++ es) e c (and_right (e.caller == c)
          (is_valid (local t (e ∷ (more ++ es)) c) && not (is_valid (local t (more ++ es) c)))
          (and_left (is_valid (local t (e ∷ (more ++ es)) c)) (not (is_valid (local t (more ++ es) c))) v))
          ∙ ih (All-tail (λ (e : Event). is_sample e.kind ≡ false) e (events_of c more) all) w
      go (inr q) w ih =
          done_other t (more ++ es) e c q
          ∙ ih (subst NoSamples (own_other e more c q) none)
          (ap is_valid (sym (local_others tl2 t (more ++ es) e c q)) ∙ v)

  -- WHERE IT BECOMES VALID, exactly this attempt is committed, and it is the one of the state in the end.
  pub becomes_valid_once : (more es : List Event) → Run t (more ++ es) → NoSamples (events_of c more) →
      is_valid (local t es c) ≡ false → is_valid (local t (more ++ es) c) ≡ true →
      done_by t (more ++ es) c ≡ attempt_of c (local t (more ++ es) c) ∷ done_by t es c
  becomes_valid_once [] es run none u v = absurd (cc)
  becomes_valid_once (e ∷ more) es run none u v =
      go (cases_Bool (e.caller == c)) (cases_Bool (is_valid (local t (more ++ es) c)))
      (λ h w. becomes_valid_once more es run.0 h u w)
    where
      go : (e.caller == c ≡ true) ⊎ (e.caller == c ≡ false) →
          (is_valid (local t (more ++ es) c) ≡ true) ⊎ (is_valid (local t (more ++ es) c) ≡ false) →
          (NoSamples (events_of c more) → is_valid (local t (more ++ es) c) ≡ true →
          done_by t (more ++ es) c ≡ attempt_of c (local t (more ++ es) c) ∷ done_by t es c) →
          done_by t (e ∷ (more ++ es)) c ≡ attempt_of c (local t (e ∷ (more ++ es)) c) ∷ done_by t es c
      go (inl q) (inl w) ih =
          let all : NoSamples (e ∷ events_of c more) = subst NoSamples (own_first e more c q) none in
          let stays = stays_valid t c (local t (more ++ es) c) e e.kind (static t (more ++ es) run.0 c)
          (allowed_mine t (more ++ es) e c run q)
          (All-head (λ (e : Event). is_sample e.kind ≡ false) e (events_of c more) all) w in
          done_still t (more ++ es) e c (and_right (e.caller == c)
          (is_valid (local t (e ∷ (more ++ es)) c) && not (is_valid (local t (more ++ es) c)))
          (and_right (is_valid (local t (e ∷ (more ++ es)) c)) (not (is_valid (local t (more ++ es) c)))
          (not_from_true (is_valid (local t (more ++ es) c)) w)))
          ∙ ih (All-tail (λ (e : Event). is_sample e.kind ≡ false) e (events_of c more) all) w
          ∙ ap (λ x. x ∷ done_by t es c)
          (sym (ap (attempt_of c) (local_mine tl2 t (more ++ es) e c q) ∙ stays.1))
      go (inl q) (inr w) ih =
          let all : NoSamples (e ∷ events_of c more) = subst NoSamples (own_first e more c q) none in
          done_now t (more ++ es) e c (and_from (e.caller == c)
          (is_valid (local t (e ∷ (more ++ es)) c) && not (is_valid (local t (more ++ es) c))) q
          (and_from (is_valid (local t (e ∷ (more ++ es)) c)) (not (is_valid (local t (more ++ es) c))) v
          (ap not w)))
          ∙ ap (λ xs. attempt_of c (local t (e ∷ (more ++ es)) c) ∷ xs)
          (invalid_done more es run.0 (All-tail (λ (e : Event). is_sample e.kind ≡ false) e (events_of c more) all)
          w)
      go (inr q) w ih =
          done_other t (more ++ es) e c q
          ∙ ih (subst NoSamples (own_other e more c q) none)
          (ap is_valid (sym (local_others tl2 t (more ++ es) e c q)) ∙ v)
          ∙ ap (λ l. attempt_of c l ∷ done_by t es c) (sym (local_others tl2 t (more ++ es) e c q))

  -- ---- the same of a call, by its own events

  module _ (old new events : List Event) (p : IsPastOf old new) (own : events_of c new ≡ events ++ events_of c old)
      (run : Run t new) where
    run_whole : Run t (p.later ++ old)
    run_whole = subst (Run t) (sym p.whole) run

    mine : events_of c p.later ≡ events
    mine = own_later c old new events p own

    pub quiet_after : NoCommits events → done_by t new c ≡ done_by t old c
    quiet_after none =
        subst (λ es. done_by t es c ≡ done_by t old c) p.whole
        (quiet_done p.later old run_whole (subst NoCommits (sym mine) none))

    pub invalid_after : NoSamples events → is_valid (local t new c) ≡ false → done_by t new c ≡ done_by t old c
    invalid_after none =
        subst (λ es. is_valid (local t es c) ≡ false → done_by t es c ≡ done_by t old c) p.whole
        (invalid_done p.later old run_whole (subst NoSamples (sym mine) none))

    pub valid_after : NoSamples events → is_valid (local t old c) ≡ false → is_valid (local t new c) ≡ true →
        done_by t new c ≡ attempt_of c (local t new c) ∷ done_by t old c
    valid_after none u =
        subst (λ es. is_valid (local t es c) ≡ true →
        done_by t es c ≡ attempt_of c (local t es c) ∷ done_by t old c) p.whole
        (becomes_valid_once p.later old run_whole (subst NoSamples (sym mine) none) u)
