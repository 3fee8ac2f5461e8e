-- A caller after it was to begin an attempt.
use Rattle.std.proofs.Common.{◌++◌, ◌+◌, ◌<◌, ◌==◌, ◌≤◌, ◌∙◌, ◌∷◌, ◌≡◌, Bool, List, None, [], ap, arith, false, inl, inr, length, not, refl, subst, sym, true, ℕ}
use Rattle.std.specs.Prelude.{IfSome, is_some}
use Rattle.std.specs.declared.snapshot.Snapshot.{Snapshot}
use Rattle.std.proofs.lemmas.Bool.{cases_Bool, eq-eqb}
use Rattle.std.proofs.lemmas.List.Elements.{All-nil}
use Rattle.dstm_engine.proofs.Base.{AreWrites, Beginning, Core, DeciderState, Effort, Event, Home, LocalState, Made, Running, Steps, Val, begin, done_by, entry_of, events_of, has_begun, is_spent, newest_of, now, value_at, value_in, view_of, words_of, write_of}
use Rattle.dstm_opacity.proofs.Stays.{call_adds_none}
use Rattle.dstm_core.proofs.Stamps.{standing}
use Rattle.dstm_mem.proofs.WithSet.{with_set-nothing}
use Rattle.dstm_progress.proofs.Own.{newest_own}
use Rattle.dstm_engine.proofs.AtCall.{AtCall, at_home, ends_at}
use Rattle.dstm_engine.proofs.Calling.{performs}
use Rattle.dstm_engine.proofs.Continuing.{kept_most}
use Rattle.dstm_engine.proofs.Leaving.{not_made}
use Rattle.dstm_engine.proofs.Locators.{unspent_enough}
use Rattle.dstm_engine.proofs.Starting.{Ended, beginning_none, beginning_still, ended_is, ends_with_begin}
use Rattle.dstm_engine.proofs.Tying.{EndsAt, EndsHere, olds_in, placed_then, reads_in, renewed, state_logged, state_then}
use Rattle.dstm_engine.specs.Attempts.{done}
use Rattle.dstm_engine.specs.Beginnings.{ended}
use Rattle.dstm_engine.specs.Callers.{Called, begun_log, held, is_running, state}
use Rattle.dstm_engine.specs.Calls.{IsMade, IsTold}
use Rattle.dstm_engine.specs.Outcomes.{IsLeft, Promises}
use Rattle.dstm_engine.specs.Mirror.{AtRest, Tied, called}
use Rattle.dstm_engine.specs.Opened.{OpenedAs}
use Rattle.dstm_engine.specs.Transactions.{BeginsAnew, SpentFrom}
use Rattle.dstm_engine.specs.declared.caller.Caller.TheInside.{Inside}

-- a log whose newest event is the caller's Begin
at_begin_of : (c : ℕ) (log es rest : List Event) → has_begun (newest_of es) ≡ true →
    IfSome (newest_of es) (λ event. (before : List Event) × (log ≡ event ∷ before)) → events_of c log ≡ es ++ rest →
    log ≡ begun_log c log
at_begin_of c log [] rest begins top own = absurd (cc)
at_begin_of c log (e ∷ es) rest begins top own =
    let mine : e.caller == c ≡ true = eq-eqb e.caller c (newest_own c log e (es ++ rest) own).own in
    subst (λ xs. xs ≡ begun_log c xs) (sym top.1) (rw (mine, begins) refl)

-- a caller with these fields after it was to begin an attempt
abbrev begun_with : {L : Type 0} → Inside L → Steps L → Snapshot DeciderState → Bool → OpenedAs → Inside L
begun_with c new began live opened = record c {
  steps = new;
  begun = c.begun + 1;
  fresh = false;
  live = live;
  last_number = None;
  left = None;
  began = began;
  opened = opened;
}

module _ {L : Type 0} {holds : L → List Val → Type 0} {c : Inside L} (v : Tied holds c) {new : Steps L}
    (u : EndsHere holds c (Beginning c.fresh) new None) where
  st : state_logged c new ≡ now (called c).home new
  st = state_then c u

  e : Ended (state (called c)) (ended c.live (state (called c)))
  e = ended_is c.live (state (called c)) v.phase

  -- the generator is as it was
  same_decider : new.decider.generator ≡ c.steps.decider.generator
  same_decider =
      sym (ap (λ (x : Effort). x.generator) u.effort)
      ∙ ap (λ (x : Effort). x.generator)
      (beginning_still c.terms.shape c.fresh (state (called c)) c.steps.decider.generator u.events u.obeys)

  -- nothing was committed
  same_done : done_by c.terms.shape c.terms.start.value.items (view_of new.seat).log (view_of new.seat).log c.number
      ≡ done (called c)
  same_done =
      subst (λ xs. done_by c.terms.shape c.terms.start.value.items xs xs c.number ≡ done (called c)) u.seen.whole
      (call_adds_none c.terms.shape c.terms.start.value.items u.seen.later (called c).log c.number u.events
      (subst (Core c.terms.shape) (sym u.seen.whole) u.run.run.core)
      (subst (λ xs. events_of c.number xs ≡ u.events ++ events_of c.number (called c).log) (sym u.seen.whole) u.own)
      (beginning_none c.terms.shape c.fresh (state (called c)) c.steps.decider.generator u.events u.obeys))

  -- ---- it is spent

  module _ (is : now (called c).home new ≡ ended c.live (state (called c)))
      (idle : c.live ≡ false → new ≡ renewed c.steps) where
    ends : Ended (state (called c)) (state_logged c new)
    ends = subst (Ended (state (called c))) (sym (st ∙ is)) e

    told_then : IsMade (called (record c { steps = new; live = false })) →
        IsTold (called (record c { steps = new; live = false }))
    told_then made = elim (cases_Bool c.live) [
      | inl live ↦
          absurd (not_made (called (record c { steps = new; live = false })) (ap is_running ends.outside) (v.left live)
          (ends.committed ∙ v.uncommitted live) made)
      | inr dead ↦
          (subst (λ (x : Steps L). IsMade (called (record c { steps = x })) → IsTold (called (record c { steps = x })))
          (sym (idle dead)) v.told) made
    ]

    ended_then : IfSome c.left (λ again. IsLeft (called (record c { steps = new; live = false })) again
        × Promises (called (record c { steps = new; live = false })) again)
    ended_then = elim (cases_Bool c.live) [
      | inl live ↦ rw (v.left live) tt
      | inr dead ↦ rw (idle dead) v.ended
    ]

    pub spent_tied : Tied holds (record c { steps = new; live = false })
    spent_tied = record {
      placed = placed_then c u v.number.0 (ends.number ∙ v.number.1);
      begun = ends.begun ∙ v.begun;
      phase = ends.outside;
      manager = (u.manager, v.manager.1);
      fresh = λ h. let f = v.fresh h in (ends.committed ∙ f.0, (λ greedy. ends.stands ∙ f.1 greedy));
      unused = (ends.stamped ∙ v.unused.0, ends.ranked ∙ v.unused.1);
      last_number = λ h. absurd (cc h);
      rest = λ h. absurd (cc h);
      left = λ h. absurd (cc h);
      ended = ended_then;
      uncommitted = λ h. absurd (cc h);
      told = told_then;
      sighted = λ h. absurd (cc h);
      reads = λ h. absurd (cc h);
      values = λ h. absurd (cc h);
      writes = λ h. absurd (cc h);
      olds = λ h. absurd (cc h);
      objects = v.objects;
      locators = λ h. absurd (cc h);
    }

    pub spent_from : is_spent c.terms.shape (state (called c)) ≡ true →
        SpentFrom holds (called c) (called (record c { steps = new; live = false }))
    spent_from spent = record {
      steps = performs holds (called c) (called (record c { steps = new; live = false })) u
          refl refl (ap (λ t. record (called c).home { table = t }) u.seat.0) refl;
      caller = rw (u.seat.0, same_decider) refl;
      live = ap is_running ends.outside;
      begun = ends.begun;
      same_done = same_done;
      spent = spent;
      used_up = rw (ends.begun, ends.installed) spent;
    }

  -- ---- it has begun an attempt

  module _ (began : Snapshot DeciderState) (took : began.value ≡ c.steps.decider)
      (is : now (called c).home new ≡ begin (record (ended c.live (state (called c))) {
        rank = new.rank;
        stands = (now (called c).home new).stands;
      })) where
    -- the caller then
    abbrev pub anew : Inside L
    anew = begun_with c new began true (record c.opened { reads = []; writes = [] })

    is_begun : state (called anew) ≡ begin (record (ended c.live (state (called c))) {
      rank = new.rank;
      stands = (now (called c).home new).stands;
    })
    is_begun = st ∙ is

    runs : (state (called anew)).phase ≡ Running
    runs = ap (λ (l : LocalState). l.phase) is_begun

    at_begin : (view_of new.seat).log ≡ begun_log c.number (view_of new.seat).log
    at_begin =
        at_begin_of c.number (view_of new.seat).log u.events (events_of c.number (called c).log)
        (ends_with_begin c.terms.shape c.fresh (newest_of u.events) (now (called c).home new) (ap (λ (l : LocalState). l.phase) is)
        u.due) u.top u.own

    pub anew_tied : is_spent c.terms.shape (state (called c)) ≡ false → Tied holds anew
    anew_tied enough = record {
      placed = placed_then c u v.number.0 (ap (λ (l : LocalState). l.number) is_begun ∙ e.number ∙ v.number.1);
      begun = ap (λ (l : LocalState). l.begun) is_begun ∙ ap (λ n. n + 1) (e.begun ∙ v.begun);
      phase = runs;
      manager = (u.manager, ap (λ (d : DeciderState). d.manager) took ∙ v.manager.0);
      fresh = λ h. (
        ap (λ (l : LocalState). l.committed) is_begun,
        (λ greedy. (standing c.terms.shape (view_of new.seat).log greedy u.run.run.core c.number).inside
            (λ out. let r = runs in cc)),
      );
      unused = (ap (λ (l : LocalState). l.stamped) is_begun, ap (λ (l : LocalState). l.ranked) is_begun);
      last_number = λ h. ap (λ (l : LocalState). l.last_pass) is_begun;
      rest = λ h. subst AtRest (sym is_begun) (record {
        agreed = refl;
        no_pass = refl;
        not_put = (refl, refl);
        recorded = refl;
      });
      left = λ h. refl;
      ended = tt;
      uncommitted = λ h. ap (λ (l : LocalState). l.committed) is_begun;
      told = λ made. record {
        calls = [];
        own = ap (events_of c.number) at_begin;
        are_calls = tt;
        each = All-nil (λ (call : Made). 0 < length call.events);
        generator = same_decider ∙ sym (ap (λ (d : DeciderState). d.generator) took);
        left = refl;
        writes = λ w. tt;
        releases =
            let kept = kept_most (called anew) in
            let none = ap (λ (l : LocalState). length l.reads) is_begun in omega arith;
      };
      sighted = λ h some. absurd (some
          (ap (λ (l : LocalState). (entry_of c.terms.shape c.terms.start.value.items (view_of new.seat).log l).reads)
          is_begun));
      reads = λ h. ap (λ (l : LocalState). words_of l.reads) is_begun;
      values = λ h. ap (λ (l : LocalState). reads_in c (view_of new.seat).log
          l.reads) is_begun;
      writes = λ h. subst (λ (l : LocalState). AreWrites [] l.writes) (sym is_begun) tt;
      olds = λ h. ap (λ (l : LocalState). olds_in c (view_of new.seat).log
          l.writes) is_begun;
      objects = v.objects;
      locators = λ h. subst (λ (l : LocalState). l.installed + c.terms.shape.objects
          ≤ c.terms.shape.locators + length l.writes) (sym is_begun)
          (let few = unspent_enough c.terms.shape (state (called c)) enough in
          let same = e.installed in omega arith);
    }

    unread : (o : ℕ) → held (called anew) o ≡ None
    unread o =
        ap (λ (l : LocalState). value_in (entry_of c.terms.shape c.terms.start.value.items (view_of new.seat).log l).reads
        o) is_begun

    pub begins_anew : is_spent c.terms.shape (state (called c)) ≡ false → BeginsAnew holds (called c) (called anew)
    begins_anew enough = record {
      steps = performs holds (called c) (called anew) u refl refl
          (ap (λ t. record (called c).home { table = t }) u.seat.0) refl;
      caller = rw (u.seat.0, same_decider, took) refl;
      live = ap is_running runs;
      begun = ap (λ (l : LocalState). l.begun) is_begun ∙ ap (λ n. n + 1) e.begun;
      at_begin = at_begin;
      unread = unread;
      unwritten = λ o. refl;
      untouched = λ map. with_set-nothing map (λ o. None) (λ o. refl);
      unopened = λ o. ap (λ (l : LocalState). is_some (write_of o l.writes)) is_begun;
      same_done = same_done;
      enough = enough;
      admits = (
        c.terms.start.value.items,
        record {
          length = u.run.run.values;
          lawful = u.run.lawful;
          agrees = λ o. subst (λ h. IfSome h (λ w. value_at c.terms.start.value.items o ≡ w)) (sym (unread o)) tt;
        },
      );
    }

-- ---- as the answers of a begin see it

module _ {L : Type 0} {holds : L → List Val → Type 0} {c : Inside L} {k : Called L} {words : Home L} {steps : Steps L}
    (at : AtCall holds c k words steps) {new : Steps L} (over : EndsAt holds words steps (Beginning c.fresh) new None)
    (spent : Bool)
    (told : is_spent c.terms.shape (state (called c)) ≡ spent) where
  done_there : EndsHere holds c (Beginning c.fresh) new None
  done_there = ends_at at over

  module _ (yes : spent ≡ true) (is : spent ≡ true → now words new ≡ ended c.live (now words steps))
      (idle : c.live ≡ false → spent ≡ true → new ≡ steps) where
    quit : now (called c).home new ≡ ended c.live (state (called c))
    quit = at_home at (λ h l. now h new ≡ ended c.live l) (is yes)

    still : c.live ≡ false → new ≡ renewed c.steps
    still dead = idle dead yes ∙ at.begun

    pub spent_caller : Tied holds (record c { steps = new; live = not spent })
    spent_caller = rw yes (spent_tied at.tied done_there quit still)

    pub spends : SpentFrom holds k (called (record c { steps = new; live = false }))
    spends = rw (← at.view) (spent_from at.tied done_there quit still (told ∙ yes))

  module _ (no : spent ≡ false) (is : spent ≡ false → now words new ≡ begin (record (ended c.live (now words steps)) {
    rank = new.rank;
    stands = (now words new).stands;
  })) (began : Snapshot DeciderState) (took : began.value ≡ steps.decider) {opened : OpenedAs}
      (cleared : opened ≡ record c.opened { reads = []; writes = [] }) where
    next : now (called c).home new ≡ begin (record (ended c.live (state (called c))) {
      rank = new.rank;
      stands = (now (called c).home new).stands;
    })
    next =
        at_home at (λ h l. now h new ≡ begin (record (ended c.live l) {
          rank = new.rank;
          stands = (now h new).stands;
        })) (is no)

    same : began.value ≡ c.steps.decider
    same = took ∙ ap (λ (s : Steps L). s.decider) at.begun

    pub begun_caller : Tied holds (begun_with c new began (not spent) opened)
    begun_caller = rw (no, cleared) (anew_tied at.tied done_there began same next (told ∙ no))

    pub begins : BeginsAnew holds k (called (begun_with c new began true opened))
    begins = rw (← at.view, cleared) (begins_anew at.tied done_there began same next (told ∙ no))
