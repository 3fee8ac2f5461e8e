-- A call that has left its attempt, and one that has not.
use Rattle.std.proofs.Common.{◌++◌, ◌<◌, arith, ◌∙◌, ◌∷◌, ◌≡◌, ◌≢◌, List, None, Option, Some, [], ap, append_assoc, false, inl, inr, refl, subst, sym, true, ℕ, ◌==◌, map}
use Rattle.std.proofs.lemmas.List.{append_cancel_right}
use Rattle.std.specs.Prelude.{Bool, IfSome, is_some}
use base.Fml.{GName}
use Rattle.std.proofs.lemmas.List.Elements.{filter-append}
use Rattle.dstm_engine.proofs.Base.{Again, AreCalls, AreWrites, Committing, Core, Disturbed, Doing, Event, HasOther, Home, IsCallIn, IsNoReading, IsOfOldest, IsOldest, LocalState, Made, Obeys, Outside, Reading, Rechecking, Releasing, Running, Shape, StaysAt, Steps, Val, Work, Writing, all_events, answer_of, code_of, done_by, effort_of, events_of, is_begin, is_release, last_answer, local, newest_of, state_after, view_of, words_of}
use Rattle.dstm_machines.proofs.Attempts.{log_parts}
use Rattle.dstm_progress.proofs.Causes.{again_has_its_cause, has_left}
use Rattle.dstm_steps.proofs.Stepping.{call_of}
use Rattle.dstm_progress.proofs.Adding.{adds_nothing}
use Rattle.dstm_progress.proofs.Leaving.{is_aborted, keeps_its_attempt, was_disturbed}
use Rattle.dstm_progress.proofs.Sound.{number_stays}
use Rattle.dstm_progress.proofs.Others.{has_another, shows_another}
use Rattle.dstm_progress.proofs.OwnEvents.{after_own, allowed_own}
use Rattle.dstm_progress.proofs.Staying.{call_stays}
use Rattle.dstm_progress.specs.Ends.{IsCurrent}
use Rattle.dstm_core.proofs.Pasts.{core_past}
use Rattle.dstm_core.proofs.Static.{running, static}
use Rattle.dstm_core.specs.declared.shape.Manager.TheVariants.{Greedy}
use Rattle.dstm_core.specs.declared.status.Status.TheVariants as status
use Rattle.dstm_order.specs.declared.again.Again.TheVariants.{Killed, Lost, Stale, Waited}
use Rattle.dstm_progress.proofs.Answers.{oldest_answers}
use Rattle.dstm_progress.proofs.Calls.{alone_is_committed}
use Rattle.dstm_progress.specs.Oldest.{AreMade}
use Rattle.dstm_engine.proofs.Calling.{performs}
use Rattle.dstm_engine.proofs.Lasting.{Lasts, call_lasts}
use Rattle.dstm_engine.proofs.Tying.{EndsHere, live_there, olds_in, placed_then, reads_in, state_logged}
use Rattle.dstm_engine.specs.Attempts.{Sighted, done}
use Rattle.dstm_engine.specs.Opened.{OpenedAs}
use Rattle.dstm_engine.specs.Mirror.{AtRest, Tied, called, phase_by, set_pairs, slot_old, slot_value, slot_word}
use Rattle.dstm_engine.specs.declared.caller.Caller.TheInside.{Inside}
use Rattle.dstm_engine.proofs.Abandoning.{has_begin}
use Rattle.dstm_engine.proofs.Alone.{Begun, commits}
use Rattle.dstm_engine.proofs.Continuing.{doing_keeps, kept_over, more_answer, more_calls, release_answers, told_more, told_state}
use Rattle.dstm_engine.proofs.Locators.{enough_still}
use Rattle.dstm_engine.specs.Callers.{Called, begun_log, entry, is_running, shape_of, since_begin, state}
use Rattle.dstm_engine.specs.Calls.{IsTold, Performs, begun_state}
use Rattle.dstm_engine.specs.Outcomes.{IsEnded, IsLeft, IsLost, IsStaleOrLost, Promises}
use Rattle.dstm_engine.specs.Transactions.{Leaves, Stays, tx_place}

stale_or_lost : (again : Again) → again ≢ Killed → again ≢ Waited → IsStaleOrLost again
stale_or_lost (Stale o) k w = tt
stale_or_lost Lost k w = tt
stale_or_lost Killed k w = absurd (k refl)
stale_or_lost Waited k w = absurd (w refl)

module _ {L : Type 0} {holds : L → List Val → Type 0} {k n : Called L} {work : Work} {answer : Option Again}
    (p : Performs holds (Doing work) k n answer) where
  pub call_in : IsCallIn (Doing work) (shape_of k) k.number k.generator p.events k.log n.log
  call_in = record { core = p.run.run.core; own = p.own; call = p.call }

  -- the state after the call, by its events
  pub state_by : local (shape_of k) n.log k.number ≡ state_after (shape_of k) (state k) p.events
  state_by = after_own (shape_of k) k.number n.log k.log p.events p.own

  -- what holds of the table and the number before the call holds of them after it
  pub carry : (P : Home L → ℕ → Type 0) → P k.home k.number → P n.home n.number
  carry P x = subst (P n.home) (sym p.same.1) (subst (λ (h : Home L). P h k.number) (sym p.same.0) x)

  core_then : Core (shape_of k) k.log
  core_then = core_past (shape_of k) p.seen.later k.log (subst (Core (shape_of k)) (sym p.seen.whole) p.run.run.core)

  -- the Begin of the attempt
  pub begin_of : (state k).phase ≢ Outside → Begun k.number k.log
  begin_of live =
      has_begin k ((running (shape_of k) k.number (state k) (static (shape_of k) k.log core_then k.number) live).1)

-- ---- A call that stays on its attempt.

pub stays : {L : Type 0} {holds : L → List Val → Type 0} {k n : Called L} {work : Work} →
    Performs holds (Doing work) k n None → (state n).phase ≢ Outside → Stays holds work k n
stays {k = k} {n = n} {work = work} p live = record {
  steps = p;
  missed =
      (call_stays work (shape_of k) (state k) k.generator p.events p.call
      (λ out. live (carry p (λ h c. (local h.terms.shape n.log c).phase ≡ Outside)
      (ap (λ (l : LocalState). l.phase) (state_by p) ∙ out)))).1;
}

-- ---- A call that has left its attempt.

module _ {L : Type 0} {holds : L → List Val → Type 0} {k n : Called L} {work : Work} {again : Again}
    (p : Performs holds (Doing work) k n (Some again)) (current : IsCurrent (state k)) (told : IsTold k)
    (same_generator : n.began ≡ k.began) (left : n.left ≡ Some again)
    (writes : (shape_of k).all_write ≡ true → IsNoReading work) where
  b : Begun k.number k.log
  b = begin_of p current.live

  same_begin : begun_log n.number n.log ≡ begun_log k.number k.log
  same_begin = doing_keeps p

  -- what the caller has seen since the Begin
  abbrev since : List Event
  since = since_begin k.number n.log

  whole : n.log ≡ since ++ b.begin ∷ b.before
  whole =
      log_parts is_begin k.number n.log
      ∙ ap (λ xs. since ++ xs) (ap (λ c. begun_log c n.log) (sym p.same.1) ∙ same_begin ∙ b.is)

  core : Core (shape_of k) (since ++ b.begin ∷ b.before)
  core = subst (Core (shape_of k)) whole p.run.run.core

  first : begun_state k ≡ local (shape_of k) (b.begin ∷ b.before) b.begin.caller
  first =
      ap (λ xs. local (shape_of k) xs k.number) b.is
      ∙ ap (local (shape_of k) (b.begin ∷ b.before)) (sym b.own)

  abbrev call : Made
  call = record { work = work; events = p.events }

  -- the calls on the attempt made all its caller's events since
  made : AreMade (shape_of k) k.began call told.calls since b.begin b.before
  made = record {
    own = ap (λ c. events_of c since) b.own ∙ append_cancel_right (events_of k.number since) (p.events ++ all_events told.calls)
        (events_of k.number (b.begin ∷ b.before))
        (sym (filter-append (λ (e : Event). e.caller == k.number) since (b.begin ∷ b.before))
        ∙ ap (events_of k.number) (sym whole) ∙ p.own ∙ ap (λ xs. p.events ++ xs) told.own
        ∙ sym (append_assoc p.events (all_events told.calls) (events_of k.number (begun_log k.number k.log)))
        ∙ ap (λ xs. (p.events ++ all_events told.calls) ++ events_of k.number xs) b.is);
    made = subst (λ (l : LocalState). AreCalls (shape_of k) l k.began (call ∷ told.calls)) first
        (more_calls told p);
    live = subst (λ (l : LocalState). (state_after (shape_of k) l (all_events told.calls)).phase ≢ Outside) first
        (subst (λ (l : LocalState). l.phase ≢ Outside) (sym (told_state told)) current.live);
  }

  answers : last_answer (shape_of k) (local (shape_of k) (b.begin ∷ b.before) b.begin.caller) k.began call told.calls
      ≡ Some again
  answers =
      ap (λ (l : LocalState). last_answer (shape_of k) l k.began call told.calls) (sym first)
      ∙ sym (more_answer told p)

  other : again ≢ Waited → HasOther k.number (since_begin k.number n.log)
  other w =
      subst (λ c. HasOther c since) b.own
      (shows_another (shape_of k) k.began call told.calls since b.begin b.before again core b.kind made answers w)

  -- the attempt has not committed
  pub uncommitted : ((state n).phase ≡ Outside) × ((state n).committed ≡ false)
  uncommitted =
      carry p (λ h c. ((local h.terms.shape n.log c).phase ≡ Outside)
      × ((local h.terms.shape n.log c).committed ≡ false))
      (subst (λ (l : LocalState). (l.phase ≡ Outside) × (l.committed ≡ false)) (sym (state_by p))
      (has_left work (newest_of p.events) (state_after (shape_of k) (state k) p.events)
      (effort_of (shape_of k) (state k) k.generator p.events) again (sym p.answers)))

  is_left : IsLeft n again
  is_left = record {
    over = ap is_running uncommitted.0;
    aborted = carry p (λ h c. StaysAt h.terms.shape n.log c (code_of status.Aborted))
        (is_aborted work (shape_of k) k.number k.generator p.events k.log n.log again
        (call_in p) current.live (sym p.answers)).1;
    disturbed = carry p
        (λ h c. Disturbed h.terms.shape n.log c (local h.terms.shape n.log c).begun)
        (was_disturbed work (shape_of k) k.number k.generator p.events k.log n.log again
        (call_in p) current (sym p.answers));
    callers = carry p (λ h c. 1 < h.terms.shape.callers)
        (has_another (shape_of k) k.began call told.calls since b.begin b.before again core b.kind made answers);
    other = λ w. subst (λ c. HasOther c (since_begin c n.log)) (sym p.same.1) (other w);
  }

  pub told_then : IsTold n
  told_then =
      told_more told p current.live same_begin same_generator left writes
      (let over = kept_over n (ap is_running uncommitted.0) in let none = no_release work p.answers p.call.obeys in
      omega arith)
    where
      -- a release answers nothing
      no_release : (w : Work) → Some again ≡ answer_of (Doing w) (shape_of k) (state k) k.generator p.events →
          Obeys (Doing w) (shape_of k) (state k) k.generator p.events → is_release w ≡ 0
      no_release (Reading o) answers obeys = refl
      no_release (Writing o) answers obeys = refl
      no_release (Releasing o) answers obeys =
          absurd (let none = release_answers o (shape_of k) (state k) k.generator current.live current.agreed p.events
          obeys in
          let no_way : Some again ≡ None = answers ∙ none in cc)
      no_release Rechecking answers obeys = refl
      no_release (Committing value) answers obeys = refl

  shape : shape_of k ≡ shape_of n
  shape = sym (ap (λ (h : Home L). h.terms.shape) p.same.0)

  abbrev begun_then : Begun n.number n.log
  begun_then = record {
    begin = b.begin;
    before = b.before;
    is = same_begin ∙ b.is;
    kind = b.kind;
    own = b.own ∙ sym p.same.1;
  }

  of_oldest : (shape_of n).manager ≡ Greedy → IsOldest (shape_of n) (begun_log n.number n.log) n.number →
      IsOfOldest (call ∷ told.calls) again
  of_oldest greedy oldest =
      oldest_answers (shape_of k) k.began call told.calls since b.begin b.before again core
      (ap (λ (s : Shape). s.manager) shape ∙ greedy) b.kind
      (subst (λ s. IsOldest s (b.begin ∷ b.before) b.begin.caller) (sym shape)
      (subst (IsOldest (shape_of n) (b.begin ∷ b.before)) (sym begun_then.own)
      (subst (λ xs. IsOldest (shape_of n) xs n.number) begun_then.is oldest))) made answers

  promises : Promises n again
  promises = record {
    alone = λ alone.
        let yes = commits told_then alone (subst (λ s. Core s n.log) shape p.run.run.core) begun_then alone_is_committed
        uncommitted.0 in
        let no = uncommitted.1 in cc;
    oldest = λ o. let x = of_oldest o.greedy o.oldest in stale_or_lost again x.not_killed x.not_waited;
    all_write = λ o all. let every : (shape_of k).all_write ≡ true = ap (λ (s : Shape). s.all_write) shape ∙ all in
        subst IsLost (sym ((of_oldest o.greedy o.oldest).writing (writes every, told.writes every))) tt;
  }

  pub leaves : Leaves holds work k n again
  leaves = record {
    steps = p;
    cause = again_has_its_cause work (shape_of k) k.number k.generator p.events k.log n.log again
        (call_in p) current (sym p.answers);
    left = is_left;
    promises = promises;
  }

-- ---- of a caller's insides

-- what it is after a call that ended its attempt, and after one that has left it
abbrev pub over_as : {L : Type 0} → Inside L → Steps L → Option ℕ → Option Again → Bool → OpenedAs → Inside L
over_as c new last left fresh opened =
    record c { steps = new; live = false; last_number = last; left = left; fresh = fresh; opened = opened }

abbrev pub left_as : {L : Type 0} → Inside L → Steps L → Option ℕ → Again → OpenedAs → Inside L
left_as c new last again opened = over_as c new last (Some again) c.fresh opened

module _ {L : Type 0} {holds : L → List Val → Type 0} {c : Inside L} (v : Tied holds c) (live : c.live ≡ true)
    {work : Work} {new : Steps L} {answer : Option Again} (u : EndsHere holds c (Doing work) new answer) where
  -- the call, by what stands for it
  pub performed : (n : Called L) → n.log ≡ (view_of new.seat).log → n.generator ≡ new.decider.generator →
      n.home ≡ (called (record c { steps = new })).home → n.number ≡ c.number →
      Performs holds (Doing work) (called c) n answer
  performed n log generator home number =
      performs holds (called c) n u log generator
      (home ∙ ap (λ t. record (called c).home { table = t }) u.seat.0) number

  call_done : Performs holds (Doing work) (called c) (called (record c { steps = new })) answer
  call_done = performed (called (record c { steps = new })) refl refl refl refl

  pub current_there : IsCurrent (state (called c))
  current_there = record {
    live = λ out. let x = v.phase in let y = ap phase_by live in cc;
    agreed = (v.rest live).agreed;
  }

  pub told_there : IsTold (called c)
  told_there = v.told (inl (sym (live_there v) ∙ live))

  pub call_there : IsCallIn (Doing work) c.terms.shape c.number c.steps.decider.generator u.events (called c).log
      (view_of new.seat).log
  call_there = record {
    core = u.run.run.core;
    own = u.own;
    call = (call_of u).0;
  }

  pub begun_there : (state_logged c new).begun ≡ (state (called c)).begun
  begun_there =
      keeps_its_attempt work c.terms.shape c.number c.steps.decider.generator u.events (called c).log
      (view_of new.seat).log call_there

  pub lasts_then : Lasts (state (called c)) (state_logged c new)
  lasts_then =
      rw (after_own c.terms.shape c.number (view_of new.seat).log (called c).log u.events u.own)
      (call_lasts work c.terms.shape (state (called c)) c.steps.decider.generator u.events
      (allowed_own c.terms.shape c.number (view_of new.seat).log (called c).log u.events u.run.run.core u.own) u.obeys
      v.unused.0 v.unused.1)

  pub number_then : (state_logged c new).number ≡ Some c.number
  number_then =
      ap (λ (l : LocalState). l.number)
      (after_own c.terms.shape c.number (view_of new.seat).log (called c).log u.events u.own)
      ∙ number_stays c.terms.shape (state (called c)) u.events
      (allowed_own c.terms.shape c.number (view_of new.seat).log (called c).log u.events u.run.run.core u.own)
      (ap is_some v.number.1)
      ∙ v.number.1

  -- where the attempt has not committed nothing was, and it is the same attempt
  pub same_done : (state_logged c new).committed ≡ false →
      done (called (record c { steps = new })) ≡ done (called c)
  same_done undone =
      subst (λ xs. done_by c.terms.shape c.terms.start.value.items xs xs c.number ≡ done (called c)) u.seen.whole
      (adds_nothing work c.terms.shape c.terms.start.value.items c.number c.steps.decider.generator u.events u.seen.later
      (called c).log
      (subst (IsCallIn (Doing work) c.terms.shape c.number c.steps.decider.generator u.events (called c).log)
      (sym u.seen.whole) call_there)
      (subst (λ xs. (local c.terms.shape xs c.number).committed ≡ false) (sym u.seen.whole) undone))

  pub same_place : (state_logged c new).committed ≡ false → (name : GName) →
      (table : Home L) → tx_place name table (called (record c { steps = new })) ≡ tx_place name table (called c)
  same_place undone name table =
      rw (u.seat.0, doing_keeps (performed (called (record c { steps = new })) refl refl refl refl), same_done undone)
      refl

  -- an attempt that is over, whichever way it ended
  pub over_tied : (last : Option ℕ) (fresh : Bool) (opened : OpenedAs) → opened.objects ≡ c.opened.objects →
      (state_logged c new).phase ≡ Outside →
      (fresh ≡ false → (c.fresh ≡ false) × ((state_logged c new).committed ≡ false)) →
      IfSome answer (λ again. IsLeft (called (over_as c new last answer fresh opened)) again
      × Promises (called (over_as c new last answer fresh opened)) again) →
      IsTold (called (over_as c new last answer fresh opened)) → Tied holds (over_as c new last answer fresh opened)
  over_tied last fresh opened objects out same ended told = record {
    placed = placed_then c u v.number.0 number_then;
    begun = begun_there ∙ v.begun;
    phase = out;
    manager = (u.manager, v.manager.1);
    fresh = λ h. let x = same h in
        (x.1, (λ greedy. lasts_then.stands (inr x.1) ∙ (v.fresh x.0).1 greedy));
    unused = (lasts_then.stamped, lasts_then.ranked);
    last_number = λ h. absurd (cc h);
    rest = λ h. absurd (cc h);
    left = λ h. absurd (cc h);
    ended = ended;
    uncommitted = λ h. absurd (cc h);
    told = λ made. told;
    sighted = λ h. absurd (cc h);
    reads = λ h. absurd (cc h);
    values = λ h. absurd (cc h);
    writes = λ h. absurd (cc h);
    olds = λ h. absurd (cc h);
    objects = objects ∙ v.objects;
    locators = λ h. absurd (cc h);
  }

  -- an attempt that goes on, with what is open then
  pub on_tied : {last : Option ℕ} (opened : OpenedAs) →
      (state_logged c new).phase ≡ Running → (state_logged c new).committed ≡ false →
      (state_logged c new).last_pass ≡ last → AtRest (state_logged c new) →
      IsTold (called (record c { steps = new; last_number = last; opened = opened })) →
      ((entry (called (record c { steps = new; last_number = last; opened = opened }))).reads ≢ [] →
      Sighted (called (record c { steps = new; last_number = last; opened = opened }))) →
      words_of (state_logged c new).reads ≡ map slot_word opened.reads → reads_in c (view_of new.seat).log
      (state_logged c new).reads ≡ map slot_value opened.reads → AreWrites opened.writes (state_logged c new).writes →
      olds_in c (view_of new.seat).log (state_logged c new).writes ≡ map slot_old opened.writes →
      opened.objects ≡ c.opened.objects → Tied holds (record c { steps = new; last_number = last; opened = opened })
  on_tied {last = last} opened runs undone passed rest told sighted reads values writes olds objects = record {
    placed = placed_then c u v.number.0 number_then;
    begun = begun_there ∙ v.begun;
    phase = runs ∙ ap phase_by (sym live);
    manager = (u.manager, v.manager.1);
    fresh = λ h. (undone, (λ greedy. lasts_then.stands (inr undone) ∙ (v.fresh h).1 greedy));
    unused = (lasts_then.stamped, lasts_then.ranked);
    last_number = λ h. passed;
    rest = λ h. rest;
    left = v.left;
    ended = rw (v.left live) tt;
    uncommitted = λ h. undone;
    told = λ made. told;
    sighted = λ h some. sighted some;
    reads = λ h. reads;
    values = λ h. values;
    writes = λ h. writes;
    olds = λ h. olds;
    objects = objects ∙ v.objects;
    locators = λ h. enough_still c.terms.shape (view_of new.seat).log
        (begin_of call_done current_there.live) (doing_keeps call_done) (v.locators live);
  }

module _ {L : Type 0} {holds : L → List Val → Type 0} {c : Inside L} (v : Tied holds c) (live : c.live ≡ true)
    {work : Work} {new : Steps L} {again : Again} (u : EndsHere holds c (Doing work) new (Some again))
    (writes : c.terms.shape.all_write ≡ true → IsNoReading work) (last : Option ℕ) (opened : OpenedAs) where
  abbrev after : Inside L
  after = left_as c new last again opened

  left_steps : Performs holds (Doing work) (called c) (called after) (Some again)
  left_steps = performed v live u (called after) refl refl refl refl

  pub left_leaves : Leaves holds work (called c) (called after) again
  left_leaves = leaves left_steps (current_there v live u) (told_there v live u) refl refl writes

  pub left_uncommitted : ((state (called after)).phase ≡ Outside) × ((state (called after)).committed ≡ false)
  left_uncommitted = uncommitted left_steps (current_there v live u) (told_there v live u) refl refl writes

  left_told : IsTold (called after)
  left_told = told_then left_steps (current_there v live u) (told_there v live u) refl refl writes

  pub left_tied : opened.objects ≡ c.opened.objects → Tied holds after
  left_tied objects =
      over_tied v live u last c.fresh opened objects left_uncommitted.0 (λ h. (h, left_uncommitted.1))
      (left_leaves.left, left_leaves.promises) left_told

  -- nothing was committed
  pub left_done : done (called after) ≡ done (called c)
  left_done = same_done v live u left_uncommitted.1

  pub left_kept : set_pairs opened.writes ≡ set_pairs c.opened.writes → called after
      ≡ record (called c) { log = (view_of new.seat).log; generator = new.decider.generator; left = Some again }
  left_kept set = rw (u.seat.0, set) refl

  -- it is the same attempt
  pub left_place : (name : GName) (table : Home L) → tx_place name table (called after) ≡ tx_place name table (called c)
  left_place = same_place v live u left_uncommitted.1

  -- what is known of its end
  pub left_ended : IsEnded (called after)
  left_ended = record {
    told = left_told;
    left = (left_leaves.left, left_leaves.promises);
    bounded = λ none. absurd (cc);
  }

  pub left_attempt : begun_log c.number (view_of new.seat).log ≡ begun_log c.number (called c).log
  left_attempt = doing_keeps left_steps
