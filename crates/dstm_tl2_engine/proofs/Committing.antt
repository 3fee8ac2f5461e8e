-- A caller after a call that locks or commits.
use Rattle.std.proofs.Common.{◌≡◌, ◌≢◌, ◌<◌, ◌≤◌, ◌∙◌, ℕ, List, [], ◌∷◌, refl, ap, sym, subst, true, false, inl, inr, Bool, Option, Some, None, length, map, take, arith}
use Rattle.std.specs.List.{All}
use Rattle.std.specs.Prelude.{◌⊎◌, ◌||◌, IfSome, IsSome, is_none, is_some, if◌then◌else◌}
use Rattle.std.specs.Option.{option_or}
use Rattle.std.proofs.Math.Seq.{take-length}
use Rattle.dstm_tl2_engine.proofs.Base.{Agrees, AtRest, CanLock, Doing, Done, Event, Finishing, Home, KeepsLaw, Lists, LocalState, Locking, NamesOnce, Steps, TlAgain, Under, Val, Work, entry_of, is_valid, new_hold, now, objects, or_writes, or_zero, read_of, read_values, table_of, value_at, value_in, view_of, with_set, with_writes}
use Rattle.dstm_mem.proofs.Pairs.{AgreesWith-of_agrees, with_writes-with_set}
use Rattle.dstm_mem.proofs.WithSet.{unset_stays}
use Rattle.dstm_tl2_steps.proofs.Slots.{WritesApart, WritesBelow, writes_once}
use Rattle.dstm_tl2_steps.specs.Under as under
use Rattle.dstm_tl2_engine.specs.Attempts.{Commits, done}
use Rattle.dstm_tl2_engine.specs.Callers.{TlCalled, handed, held, is_live, state, table_of_caller, written}
use Rattle.dstm_tl2_engine.specs.Calls as calls
use Rattle.dstm_tl2_engine.specs.Calls.{IsMade, Performs}
use Rattle.dstm_tl2_engine.specs.Mirror.{Tied, called}
use Rattle.dstm_tl2_engine.proofs.Calling.{begun_as}
use Rattle.dstm_tl2_engine.proofs.Told.{locked_made, rest_can, rest_made, told_more}
use Rattle.dstm_tl2_engine.specs.Outcomes.{IsLeft}
use Rattle.dstm_tl2_engine.specs.Transactions.{HasLocked, IsLawful, Leaves, Stays}
use Rattle.dstm_tl2_engine.specs.declared.caller.TlCaller.TheInside.{Inside}
use Rattle.dstm_tl2_engine.proofs.AfterCall.{attempt_kept, done_invalid, done_valid, left_after}
use Rattle.dstm_tl2_order.proofs.Causing.{causes_of}
use Rattle.dstm_tl2.proofs.Done.{failed_invalid, undrawn_invalid}
use Rattle.dstm_tl2_engine.proofs.Others.{others_of}
use Rattle.dstm_tl2_engine.proofs.Tying.{EndsHere, at_home, ends_here, from_home, kept, performs_then, state_then}
use Rattle.dstm_tl2_engine.proofs.Working.{KeptBy, TellsOnce, are_closing, closes, closing_keeps, one_is, tell_once, works_on}

-- ---- what is written, and what is set

-- For a map that agrees with what was read the writes are what is set: what was opened and not set has the value read.
told_as_set : (values : List Val) (reads writes : List (ℕ × Val)) (set : ℕ → Option Val) → Agrees values reads →
    ((o : ℕ) → IfSome (value_in writes o) (λ v. Some v ≡ option_or (set o) (value_in reads o))) →
    ((o : ℕ) → IsSome (set o) → IsSome (value_in writes o)) → with_writes values writes ≡ with_set values set
told_as_set values reads writes set agrees puts sets =
    with_writes-with_set values writes
    ∙ unset_stays values (value_in reads) set (value_in writes) (AgreesWith-of_agrees values reads agrees) puts sets

put_is : (x h : Option Val) → IfSome x (λ v. Some v ≡ h) → x ≡ (if is_some x then h else None)
put_is None h is = refl
put_is (Some v) h is = is

unset_is : (w x : Option Val) → (IsSome w → IsSome x) → is_some x ≡ false → w ≡ None
unset_is None x sets shut = refl
unset_is (Some v) None sets shut = let some = sets refl in absurd (cc)
unset_is (Some v) (Some y) sets shut = absurd (cc)

no_answer : (x : Option TlAgain) → is_none x ≡ true → x ≡ None
no_answer None live = refl
no_answer (Some again) live = absurd (cc)

told_some : (told : Option (List (ℕ × Val))) (writes : List (ℕ × Val)) → (told ≡ None) ⊎ (told ≡ Some writes) →
    told ≢ None → told ≡ Some writes
told_some told writes (inl none) some = absurd (some none)
told_some told writes (inr is) some = is

-- ---- a caller's fields

module _ {L : Type 0} {holds : L → List Val → Type 0} {c : Inside L} (v : Tied holds c) where
  -- the condition of a commit, as the draw needs it
  pub keeps_law : IsLawful holds (called c) →
      KeepsLaw (holds c.terms.law.value) (objects (table_of c.terms)) (entry_of (state (called c)) c.opened.writes)
  keeps_law lawful values size was agrees =
      subst (holds c.terms.law.value)
      (sym (told_as_set values (read_values (state (called c)).reads) c.opened.writes (written (called c)) agrees v.puts
      v.sets)) (lawful values (record {
        length = size;
        lawful = was;
        agrees = AgreesWith-of_agrees values (read_values (state (called c)).reads) agrees;
      }))

  -- ---- after a call that locks or commits

  module _ (work : Work) (is : closes work ≡ true) {new : Steps L} {answer : Option TlAgain}
      (u : EndsHere holds c (Doing work) new answer) (locked : ℕ) (left : Option TlAgain) where
    abbrev pub closed_as : Inside L
    closed_as = record c { steps = new; locked = locked; left = left }

    abbrev next : TlCalled L
    next = called closed_as

    pub then_is : state next ≡ now (called c).home new
    then_is = state_then v (Doing work) u

    pub then_keeps : KeptBy (state (called c)) (state next) (is_some answer)
    then_keeps =
        rw (← u.gives, then_is ∙ u.state)
        (closing_keeps (table_of c.terms) (state (called c)) u.events
        (are_closing work (table_of c.terms) (state (called c)) u.events is u.obeys))

    held_then : (o : ℕ) → held next o ≡ held (called c) o
    held_then o = ap (λ rs. value_in (read_values rs) o) then_keeps.reads

    pub then_steps : Performs holds (Doing work) (called c) next answer
    then_steps = performs_then c (Doing work) u c.opened left

    pub then_kept : next ≡ record (called c) { log = (view_of new.seat).log; left = left }
    then_kept = ap (λ h. record next { home = h }) (kept v (Doing work) u).home

    -- the condition of a commit stays
    pub then_lawful : IsLawful holds (called c) → IsLawful holds next
    then_lawful lawful values admits =
        lawful values (record {
          length = admits.length;
          lawful = admits.lawful;
          agrees = λ o.
              subst (λ h. IfSome h (λ x. value_at values o ≡ x)) (held_then o) (admits.agrees o);
        })

    pub closed_tied : locked ≤ length c.opened.writes →
        (now (called c).home new).holds ≡ map (new_hold (now (called c).home new)) (take locked c.opened.writes) →
        (locked ≢ 0 → (now (called c).home new).drawn ≡ None) →
        (HasLocked next → IsLawful holds next) → IfSome left (λ again. IsLeft next) → calls.IsTold next →
        Tied holds closed_as
    closed_tied few locks may lawful is_left told =
        let k = kept v (Doing work) u in record {
          placed = k.placed;
          begun = then_keeps.begun ∙ v.begun;
          objects = k.objects;
          reads = v.reads ∙ sym then_keeps.reads;
          writes_read = λ o none. v.writes_read o (ap (read_of o) (sym then_keeps.reads) ∙ none);
          puts = λ o.
              subst (λ h. IfSome (value_in c.opened.writes o) (λ x. Some x ≡ option_or (written (called c) o) h))
              (sym (held_then o)) (v.puts o);
          sets = v.sets;
          seen = k.seen;
          locks = rw then_is locks;
          may = λ some. ap (λ (l : LocalState). l.drawn) then_is ∙ may some;
          few = few;
          lawful = lawful;
          left = is_left;
          told = λ _. told;
        }

    -- it is one of the attempt's calls
    pub closed_told : IsMade (called c) → CanLock (Doing work) (state (called c)) → (answer ≡ None → c.left ≡ None) →
        left ≡ answer → calls.IsTold next
    closed_told made can live is_answer = told_more then_steps (v.told made) can live is_answer

    pub closed_stays : answer ≡ None → Stays holds work (called c) next
    closed_stays none = record {
      steps = subst (Performs holds (Doing work) (called c) next) none then_steps;
      attempt = attempt_kept then_steps refl;
    }

    -- nothing is committed where the attempt is not valid in the end
    pub closed_done : is_valid (state next) ≡ false → done next ≡ done (called c)
    closed_done invalid = done_invalid then_steps refl invalid

  -- ---- a call that has left its attempt

  pub record Left (work : Work) (new : Steps L) (again : TlAgain) : Type 0 where
    pub closing : closes work ≡ true
    pub under : EndsHere holds c (Doing work) new (Some again)
    pub once : NamesOnce (objects (table_of c.terms)) (works_on work)
    pub free : (now (called c).home new).holds ≡ []
    pub made : IsMade (called c)
    pub can : CanLock (Doing work) (state (called c))

  module _ {work : Work} {new : Steps L} {again : TlAgain} (by : Left work new again) where
    abbrev pub left_as : Inside L
    left_as = closed_as work by.closing by.under 0 (Some again)

    left_failed : (state (called left_as)).failed ≡ true
    left_failed = (then_keeps work by.closing by.under 0 (Some again)).failed ∙ or_true (state (called c)).failed
      where
        or_true : (b : Bool) → (b || true) ≡ true
        or_true true = refl
        or_true false = refl

    left_free : (state (called left_as)).holds ≡ []
    left_free = ap (λ (l : LocalState). l.holds) (then_is work by.closing by.under 0 (Some again)) ∙ by.free

    others : 1 < c.terms.callers
    others =
        others_of (table_of c.terms) c.number (view_of new.seat).log (called c).log by.under.events again by.under.run.run.run
        v.number.0 by.under.own by.under.gives (λ event later early is_in.
        (one_is (TellsOnce (objects (table_of c.terms))) later event early
        (subst (All (λ (e : Event). TellsOnce (objects (table_of c.terms)) e.kind)) is_in
        (tell_once (objects (table_of c.terms)) work (table_of c.terms) (state (called c)) by.under.events by.closing by.once
        by.under.obeys))).1)

    pub left_is : IsLeft (called left_as)
    left_is =
        left_after
        (then_steps work by.closing by.under 0 (Some again)) again refl refl refl left_free (inl left_failed) others

    pub left_told : calls.IsTold (called left_as)
    left_told = closed_told work by.closing by.under 0 (Some again) by.made by.can (λ none. absurd (cc)) refl

    pub left_tied : Tied holds left_as
    left_tied =
        closed_tied work by.closing by.under 0 (Some again) (omega arith) by.free (λ some. absurd (some refl))
        (λ locked. absurd (let sound = locked.sound.0 in let failed = left_failed in cc)) left_is left_told

    pub left_leaves : Leaves holds work (called c) (called left_as) again
    left_leaves = record {
      steps = then_steps work by.closing by.under 0 (Some again);
      cause =
          causes_of (table_of_caller (called c)) (state (called c))
          (then_steps work by.closing by.under 0 (Some again)).events again
          (sym (then_steps work by.closing by.under 0 (Some again)).answers);
      left = left_is;
      attempt = attempt_kept (then_steps work by.closing by.under 0 (Some again)) refl;
      done = closed_done work by.closing by.under 0 (Some again) (failed_invalid (state (called left_as)) left_failed);
    }

  -- ---- a call that has locked

  pub record Locked (new : Steps L) : Type 0 where
    pub ends : EndsHere holds c (Doing (Locking c.opened.writes)) new None
    pub rest : AtRest (state (called c))
    pub live : is_live (called c) ≡ true
    pub state_is : under.HasLocked (state (called c)) c.opened.writes (length c.opened.writes)
        (now (called c).home new)
    pub locks : (now (called c).home new).holds
        ≡ map (new_hold (now (called c).home new)) (take (length c.opened.writes) c.opened.writes)

  module _ {new : Steps L} (by : Locked new) where
    abbrev pub locked_as : Inside L
    locked_as = closed_as (Locking c.opened.writes) refl by.ends (length c.opened.writes) c.left

    is_then : state (called locked_as) ≡ now (called c).home new
    is_then = then_is (Locking c.opened.writes) refl by.ends (length c.opened.writes) c.left

    pub locked_undrawn : (now (called c).home new).drawn ≡ None
    locked_undrawn = ap (λ (l : LocalState). l.drawn) by.state_is.same ∙ by.rest.undrawn

    pub has_locked : HasLocked (called locked_as)
    has_locked = record {
      begun = subst (λ n. 0 < n)
          (sym (ap (λ (l : LocalState). l.begun) is_then ∙ ap (λ (l : LocalState). l.begun) by.state_is.same)) by.rest.begun;
      locked = ap (λ (l : LocalState). l.locked) is_then ∙ ap (λ (l : LocalState). l.locked) by.state_is.same;
      told = rw is_then (told_some (now (called c).home new).writes c.opened.writes by.state_is.told);
      all = rw is_then (by.locks ∙ ap (map (new_hold (now (called c).home new))) (take-length c.opened.writes));
      undrawn = ap (λ (l : LocalState). l.drawn) is_then ∙ locked_undrawn;
      sound = (
        ap (λ (l : LocalState). l.failed) is_then ∙ ap (λ (l : LocalState). l.failed) by.state_is.same ∙ by.rest.sound.0,
        ap (λ (l : LocalState). l.gave_back) is_then ∙ ap (λ (l : LocalState). l.gave_back) by.state_is.same
            ∙ by.rest.sound.1,
      );
      live = by.live;
    }

    pub locked_told : calls.IsTold (called locked_as)
    locked_told =
        closed_told (Locking c.opened.writes) refl by.ends (length c.opened.writes) c.left
        (rest_made (called c) by.rest) (rest_can by.rest (length c.opened.writes))
        (λ _. no_answer c.left by.live) (no_answer c.left by.live)

    pub locked_tied : IsLawful holds (called c) → Tied holds locked_as
    locked_tied lawful =
        closed_tied (Locking c.opened.writes) refl by.ends (length c.opened.writes) c.left (omega arith) by.locks
        (λ some. locked_undrawn)
        (λ locked. then_lawful (Locking c.opened.writes) refl by.ends (length c.opened.writes) c.left lawful)
        (subst (λ x. IfSome x (λ again. IsLeft (called locked_as))) (sym (no_answer c.left by.live)) tt) locked_told

    pub locked_stays : Stays holds (Locking c.opened.writes) (called c) (called locked_as)
    locked_stays = closed_stays (Locking c.opened.writes) refl by.ends (length c.opened.writes) c.left refl

    pub locked_kept : called locked_as ≡ record (called c) { log = (view_of new.seat).log; left = None }
    locked_kept =
        then_kept (Locking c.opened.writes) refl by.ends (length c.opened.writes) c.left
        ∙ ap (λ x. record (called c) { log = (view_of new.seat).log; left = x }) (no_answer c.left by.live)

    pub locked_done : done (called locked_as) ≡ done (called c)
    locked_done =
        closed_done (Locking c.opened.writes) refl by.ends (length c.opened.writes) c.left
        (undrawn_invalid (state (called locked_as)) has_locked.undrawn)

  -- ---- a call that has finished

  pub record Finished (new : Steps L) (number : ℕ) : Type 0 where
    pub ends : EndsHere holds c (Doing (Finishing c.opened.writes)) new None
    pub locked : HasLocked (called c)
    pub valid : is_valid (now (called c).home new) ≡ true
    pub drawn : (now (called c).home new).drawn ≡ Some number
    pub told : (now (called c).home new).writes ≡ Some c.opened.writes
    pub free : (now (called c).home new).holds ≡ []

  module _ {new : Steps L} {number : ℕ} (by : Finished new number) where
    abbrev pub finished_as : Inside L
    finished_as = closed_as (Finishing c.opened.writes) refl by.ends 0 c.left

    by_then : state (called finished_as) ≡ now (called c).home new
    by_then = then_is (Finishing c.opened.writes) refl by.ends 0 c.left

    pub finished_told : calls.IsTold (called finished_as)
    finished_told =
        closed_told (Finishing c.opened.writes) refl by.ends 0 c.left (locked_made by.locked) tt
        (λ _. no_answer c.left by.locked.live) (no_answer c.left by.locked.live)

    pub finished_tied : Tied holds finished_as
    finished_tied =
        closed_tied (Finishing c.opened.writes) refl by.ends 0 c.left (omega arith) by.free (λ some. absurd (some refl))
        (λ more. absurd (let none : (now (called c).home new).drawn ≡ None =
        ap (λ (l : LocalState). l.drawn) (sym by_then) ∙ more.undrawn in cc))
        (subst (λ x. IfSome x (λ again. IsLeft (called finished_as))) (sym (no_answer c.left by.locked.live)) tt)
        finished_told

    pub finished_stays : Stays holds (Finishing c.opened.writes) (called c) (called finished_as)
    finished_stays = closed_stays (Finishing c.opened.writes) refl by.ends 0 c.left refl

    pub finished_commits : Commits (called c) (called finished_as) number
    finished_commits = record {
      valid = ap is_valid by_then ∙ by.valid;
      drawn = ap (λ (l : LocalState). l.drawn) by_then ∙ by.drawn;
      free = ap (λ (l : LocalState). l.holds) by_then ∙ by.free;
      entry = entry_of (state (called finished_as)) (or_writes (state (called finished_as)).writes);
      done =
          done_valid (then_steps (Finishing c.opened.writes) refl by.ends 0 c.left) refl
          (undrawn_invalid (state (called c)) by.locked.undrawn) (ap is_valid by_then ∙ by.valid)
          ∙ ap (λ n. record {
            caller = c.number;
            number = n;
            entry = entry_of (state (called finished_as)) (or_writes (state (called finished_as)).writes);
          } ∷ done (called c)) (ap (λ (l : LocalState). or_zero l.drawn) by_then ∙ ap or_zero by.drawn);
      reads = λ o. held_then (Finishing c.opened.writes) refl by.ends 0 c.left o;
      writes = λ o.
          ap (λ (l : LocalState). value_in (or_writes l.writes) o) by_then
          ∙ ap (λ ws. value_in (or_writes ws) o) by.told
          ∙ put_is (value_in c.opened.writes o) (handed (called c) o) (v.puts o);
      only = λ o. unset_is (written (called c) o) (value_in c.opened.writes o) (v.sets o);
    }

  -- ---- in the words of a call's caller

  module _ {home : Home L} (same : (called c).home ≡ home) where
    pub free_here : (new : Steps L) → (now home new).holds ≡ [] → (now (called c).home new).holds ≡ []
    free_here new = at_home v same (λ h _. (now h new).holds ≡ [])

    pub left_here : (work : Work) → closes work ≡ true → works_on work ≡ c.opened.writes → {new : Steps L}
        {again : TlAgain} → Under holds home (begun_as home (Doing work) c.steps) new Done (Some again) →
        (now home new).holds ≡ [] → WritesBelow c.opened.objects c.opened.writes → WritesApart c.opened.writes →
        IsMade (called c) → CanLock (Doing work) (state (called c)) → Left work new again
    left_here work is on {new = new} u free below apart made can = record {
      closing = is;
      under = ends_here v same (Doing work) u;
      once = rw on (subst (λ n. NamesOnce n c.opened.writes) v.objects
          (writes_once c.opened.objects c.opened.writes below apart));
      free = free_here new free;
      made = made;
      can = can;
    }

    pub locks_here : {new : Steps L} {count : ℕ} → Lists home new c.opened count → count ≡ length c.opened.writes →
        (now (called c).home new).holds
        ≡ map (new_hold (now (called c).home new)) (take (length c.opened.writes) c.opened.writes)
    locks_here {new = new} lists all =
        at_home v same (λ h _. (now h new).holds
        ≡ map (new_hold (now h new)) (take (length c.opened.writes) c.opened.writes))
        (lists.held ∙ ap (λ n. map (new_hold (now home new)) (take n c.opened.writes)) all)

    pub locked_here : (new : Steps L) →
        under.HasLocked (now home c.steps) c.opened.writes (length c.opened.writes) (now home new) →
        under.HasLocked (state (called c)) c.opened.writes (length c.opened.writes) (now (called c).home new)
    locked_here new = at_home v same (λ h l. under.HasLocked l c.opened.writes (length c.opened.writes) (now h new))

    pub law_there : IsLawful holds (called c) →
        KeepsLaw (holds home.terms.law.value) (objects (table_of home.terms))
        (entry_of (now home c.steps) c.opened.writes)
    law_there lawful =
        from_home v same (λ h l. KeepsLaw (holds h.terms.law.value) (objects (table_of h.terms))
        (entry_of l c.opened.writes)) (keeps_law lawful)
