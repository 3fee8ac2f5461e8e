-- What an attempt at a job with branches leaves, from the clauses of its calls.
use Rattle.std.proofs.Common.{◌≡◌, ◌≢◌, ◌∙◌, ◌+◌, ◌<◌, ◌≤◌, ◌++◌, ◌∷◌, ℕ, Bool, List, [], None, Some, true, false, refl, sym, ap, subst, arith, add-zero, Option, if◌then◌else◌, ◌&&◌}
use Rattle.std.proofs.lemmas.Bool.{cond_both}
use Rattle.dstm_model.specs.declared.value.Val.{Val}
use Rattle.dstm_model.specs.declared.layout.Layout.{Layout}
use Rattle.dstm_model.specs.declared.op.Op.{Op}
use Rattle.dstm_model.specs.Map.{Agrees}
use Rattle.dstm_model.specs.Objects.{objects_of}
use Rattle.dstm_model.specs.Store.{Store}
use Rattle.dstm_core.specs.Events.{Event}
use Rattle.dstm_core.specs.Runs.{Core, local}
use Rattle.dstm_core.specs.Rules.{is_outside}
use Rattle.dstm_core.specs.State.{LocalState}
use Rattle.dstm_core.specs.Traces.{events_of, IsPastOf}
use Rattle.dstm_core.specs.declared.event.Kind.TheVariants.{Quit}
use Rattle.dstm_core.specs.declared.shape.Shape.{Shape}
use Rattle.dstm_core.specs.declared.state.Phase.TheVariants.{Outside, Running}
use Rattle.dstm_core.proofs.Pasts.{core_past}
use Rattle.dstm_progress.proofs.Disturbing.{count_in, log_counts}
use Rattle.dstm_progress.proofs.Beginnings.{leaving}
use Rattle.dstm_progress.proofs.Ends.{end_stays}
use Rattle.dstm_progress.proofs.OwnEvents.{after_own}
use Rattle.dstm_progress.proofs.Sound.{sound}
use Rattle.dstm_progress.specs.Ends.{StaysAt, ended_as}
use Rattle.dstm_core.specs.Words.{code_of}
use Rattle.dstm_core.specs.declared.status.Status.TheVariants as status
use Rattle.dstm_progress.specs.Disturbed.{count_of}
use Rattle.dstm_mem.specs.Memory.{value_in, with_set}
use Rattle.dstm_mem.proofs.Pairs.{AgreesWith-of_agrees}
use Rattle.dstm_order.specs.declared.again.Again.{Again}
use Rattle.dstm_order.specs.Calls.{IsCall, Obeys, state_after}
use Rattle.dstm_order.specs.Order.{IsDue, just}
use Rattle.dstm_order.specs.Order.Due.{Done}
use Rattle.dstm_order.specs.Tasks.{Task}
use Rattle.dstm_order.specs.Tasks.Task.{Beginning, Doing, Leaving}
use Rattle.dstm_order.specs.Tasks.Work.{Committing}
use Rattle.dstm_core.specs.Counts.{is_begin}
use Rattle.dstm_machines.proofs.Attempts.{log_parts}
use Rattle.dstm_machines.proofs.Own.{own_later}
use Rattle.dstm_machines.proofs.Pasts.{past_past}
use Rattle.dstm_words.specs.Seats.{Home, IsRunOf}
use Rattle.rand_pcg.specs.Lcg.{Lcg}
use Rattle.dstm_engine.proofs.Made as made
use Rattle.dstm_engine.specs.Attempts.{Admits, Commits, SightedByOpens, completes_pass, done, is_look_self, looks, looks_at_object, sights}
use Rattle.dstm_engine.specs.Callers.{Called, begun_log, entry, held, is_live, is_opened, is_running, live_opened, law_of, shape_of, since_begin, start_of, state, written}
use Rattle.dstm_engine.specs.Calls.{Performs, IsTold}
use Rattle.dstm_engine.specs.Outcomes.{IsLeft}
use Rattle.dstm_engine.specs.Transactions.{BeginsAnew, TxPlace}
use Rattle.dstm_store.specs.declared.law.StoreLaw.{StoreLaw}
use Rattle.dstm_store.specs.declared.job.JobTask.{JobTask}
use Rattle.dstm_store.specs.Whole.{StandsFor}
use Rattle.dstm_compose.specs.Compose.{IsRight}
use Rattle.dstm_compose.specs.declared.body.Outcome.{Outcome}
use Rattle.dstm_compose.specs.declared.body.Outcome.TheVariants.{Ran, Blocked}
use Rattle.dstm_workload.specs.declared.workload.Job.{Job}
use Rattle.dstm_tables.specs.Attempts.{is_quit, quits, seen_last}
use Rattle.dstm_jobs.specs.declared.style.Style.TheVariants.{Branches}
use Rattle.dstm_jobs.specs.declared.trying.Finished.{Finished}
use Rattle.dstm_jobs.specs.Rechecks.{HasRechecked}
use Rattle.dstm_engine.specs.Makes.{Makes}
use Rattle.dstm_progress.specs.Lives.{TriesByShape}
use Rattle.dstm_order.specs.Retries.{is_new}
use Rattle.dstm_engine.proofs.AddingUp.{makes_both, makes_one}
use Rattle.dstm_engine.proofs.Attempting.{told_makes}
use Rattle.dstm_engine.proofs.Anew.{new_committed, same_aborted}
use Rattle.dstm_tables.specs.declared.tables.Caller.TheVariants.{Dstm}
use Rattle.dstm_tables.specs.declared.tables.Table.TheVariants as table
use Rattle.dstm_jobs.specs.Tables.{AtRest, OneMore, WasKept}
use Rattle.dstm_jobs.specs.Jobs.{DidJob, StoodAt}
use Rattle.dstm_jobs.specs.Law.{keeps}
use Rattle.dstm_jobs.proofs.Doing as doing
use Rattle.dstm_jobs.proofs.Inside.{KeepsOutOf}
use Rattle.dstm_engine.proofs.BegunThere.{begun_there, count_later}
use Rattle.dstm_engine.proofs.FewSights.{count_kinds, none_looks, sights_more}
use Rattle.dstm_engine.proofs.Looked.{commit_few, few_since}
use Rattle.dstm_engine.proofs.Rechecking.{NoSelf}
use Rattle.dstm_tables.proofs.Made.{did, not_committed, numbered, run_there, was_aborted}
use Rattle.dstm_tables.proofs.SeenLast.{seen_last-agrees, seen_last-skips}
use Rattle.dstm_jobs.proofs.Rechecking.{runs}
use Rattle.dstm_tables.proofs.StayingByDstm.{in_range}
use Rattle.dstm_tables.proofs.Unused.{beginning_installs, installed_there, leaving_commits, leaving_installs, no_writes}

-- what the body's outcome was right for
pub right_for : (layout : Layout) (ops : List Op) (task : JobTask) (outcome is : Outcome) (before after : List Val) →
    task.layout ≡ layout → task.ops ≡ ops → outcome ≡ is → IsRight task before after outcome →
    IsRight (record { layout = layout; ops = ops }) before after is
right_for layout ops task outcome is before after same_layout same_ops same right =
    subst (IsRight (record { layout = layout; ops = ops }) before after) same (rw (← same_layout, ← same_ops) right)

-- ---- a caller's attempt, from its begin to its end

module _ {k b t u x : Called StoreLaw} (a : made.Tried keeps k b t u x) where
  home : t.home ≡ k.home
  home = made.home keeps k b t a.reference a.before a.table a.at a.begins a.place

  number : t.number ≡ k.number
  number = made.number keeps k b t a.reference a.before a.table a.at a.begins a.place

  -- the calls on it, where the caller is told by them
  pub calls_by : AtRest (Dstm k) → (n : Called StoreLaw) → n.home ≡ t.home → n.number ≡ t.number → n.began ≡ t.began →
      begun_log n.number n.log ≡ begun_log t.number t.log → IsTold n → Makes (TriesByShape (shape_of k)) k n
  calls_by rest n nh nn nb log told =
      makes_both (TriesByShape (shape_of k)) k b n
      (makes_one (TriesByShape (shape_of k)) keeps (Beginning k.fresh) k b None (record { again = rest.right; opens = λ all. tt })
      a.begins.steps)
      (told_makes b n (nh ∙ ap (λ (p : TxPlace StoreLaw). p.home) a.place) (nn ∙ ap (λ (p : TxPlace StoreLaw). p.number) a.place)
      (a.begins.at_begin ∙ sym (ap (λ (p : TxPlace StoreLaw). p.began) a.place) ∙ sym log)
      (ap (λ (x : Called StoreLaw). x.generator) a.begins.caller
      ∙ sym (nb ∙ ap (λ (p : TxPlace StoreLaw). p.generator) a.place ∙ ap (λ (x : Called StoreLaw). x.began) a.begins.caller)) told
      (shape_of k) (ap (λ (h : Home StoreLaw). h.terms.shape) a.begins.steps.same.0))

  -- its transaction goes on
  pub stays_same : t.fresh ≡ false
  stays_same = made.goes_on keeps k b t a.reference a.before a.table a.at a.begins a.place

  pub aborted_fresh : (n : Called StoreLaw) → n.fresh ≡ t.fresh → IsRunOf keeps n.home.terms n.log →
      StaysAt (shape_of n) n.log n.number 5 → 1 ≤ (state n).begun → n.fresh ≡ is_new (state n)
  aborted_fresh n same run stays some = same ∙ stays_same ∙ sym (same_aborted n run.run.core stays some)

  -- the caller as the attempt left it
  pub one_more_by : (n : Called StoreLaw) → n.home ≡ t.home → n.number ≡ t.number →
      begun_log n.number n.log ≡ begun_log t.number t.log → IsRunOf keeps n.home.terms n.log → is_live n ≡ false →
      Makes (TriesByShape (shape_of k)) k n → (1 ≤ (state n).begun → n.fresh ≡ is_new (state n)) → OneMore (Dstm k) (Dstm n)
  one_more_by n nh nn log run over calls fresh = record {
    on = record {
      home = ap table.Dstm at_home;
      number = nn ∙ number;
      seen = (
        ap (λ (h : Home StoreLaw). h.terms) at_home,
        past_past k.log b.log n.log a.begins.steps.seen
            (record {
              later = since_begin n.number n.log;
              whole = ap (λ (xs : List Event). since_begin n.number n.log ++ xs) there ∙ sym (log_parts is_begin n.number n.log);
            }),
      );
      calls = calls;
      rest = record {
        run = run;
        enrolled = numbered n run (omega (arith, begun));
        over = over;
        right = fresh (omega (arith, begun));
      };
    };
    begun = begun;
  }
    where
      at_home : n.home ≡ k.home
      at_home = nh ∙ home

      there : b.log ≡ begun_log n.number n.log
      there = a.begins.at_begin ∙ sym (ap (λ (p : TxPlace StoreLaw). p.began) a.place) ∙ sym log

      same_home : n.home ≡ b.home
      same_home = nh ∙ ap (λ (p : TxPlace StoreLaw). p.home) a.place

      same_number : n.number ≡ b.number
      same_number = nn ∙ ap (λ (p : TxPlace StoreLaw). p.number) a.place

      begun : (state n).begun ≡ (state k).begun + 1
      begun = rw (begun_there (shape_of n) n.number n.log, ← there, same_home, same_number, a.begins.begun) refl

  -- others kept it from its commit
  was_kept_by : (rechecks : ℕ) (n : Called StoreLaw) (again : Again) → OneMore (Dstm k) (Dstm n) → IsLeft n again →
      done n ≡ done t → sights n ≤ looks n + rechecks → WasKept rechecks (Dstm k) (Dstm n)
  was_kept_by rechecks n again one left same few = record {
    made = one;
    disturbed = left.disturbed;
    aborted = was_aborted n one.on.rest left.aborted;
    others = left.callers;
    same_done = same ∙ made.same_done keeps k b t a.reference a.before a.table a.at a.begins a.place;
    sighted = few;
  }

  -- the same of an attempt that had been left as it was given up
  was_kept_dead : (rechecks : ℕ) (n : Called StoreLaw) (again : Again) → AtRest (Dstm k) → IsTold t → n ≡ t → IsLeft t again →
      IsRunOf keeps t.home.terms n.log → sights t ≤ looks t + rechecks → WasKept rechecks (Dstm k) (Dstm n)
  was_kept_dead rechecks n again rest told same left run few =
      let there = ap (λ (x : Called StoreLaw). x.log) same in
      let run_t = subst (IsRunOf keeps t.home.terms) there run in
      let one = one_more_by t refl refl refl run_t left.over (calls_by rest t refl refl refl refl told)
      (aborted_fresh t refl run_t left.aborted) in
      subst (λ (x : Called StoreLaw). WasKept rechecks (Dstm k) (Dstm x)) (sym same) (was_kept_by rechecks t again one left refl few)

  -- it ran the first open branch of the job, and committed
  did_branch : (layout : Layout) (job : Job) (finished : Finished) (n : Called StoreLaw) → AtRest (Dstm k) →
      (law_of k).layout ≡ layout → n.home ≡ t.home → OneMore (Dstm k) (Dstm n) → Commits t n finished.number →
      ((map : List Val) → Admits keeps t map →
      IsRight (record { layout = layout; ops = job.ops }) map (with_set map (written t)) (Ran finished.replies)) →
      KeepsOutOf layout job.ops (held t) (is_opened t) → SightedByOpens keeps n →
      DidJob Branches layout job (Dstm k) (Dstm n) finished
  did_branch layout job finished n rest law nh one commits right out sighted =
      doing.did_branch layout job (Dstm k) (Dstm n) finished law
      (did _ (KeepsOutOf layout job.ops) k t n finished.number finished.number rest one commits.status
      (made.settled keeps k b t a.reference a.before a.table a.at a.begins a.place _ n finished.number nh
      (rw (← nh) one.on.rest.run) commits right) commits out (made.few_by_opens sighted)) sighted

-- ---- from the clauses of its last call

module _ {k b t n x : Called StoreLaw} (a : made.Tried keeps k b t n x) (rest : AtRest (Dstm k)) where
  -- it committed
  pub one_committed : n ≡ record t { log = n.log; left = None; fresh = true } →
      begun_log n.number n.log ≡ begun_log t.number t.log → IsRunOf keeps t.home.terms n.log → IsTold n →
      (drawn : ℕ) → Commits t n drawn → OneMore (Dstm k) (Dstm n)
  one_committed kept log run told drawn commits =
      let nh : n.home ≡ t.home = ap (λ (x : Called StoreLaw). x.home) kept in
      let nn : n.number ≡ t.number = ap (λ (x : Called StoreLaw). x.number) kept in
      let there = run_there t n nh run in
      one_more_by a n nh nn log there commits.over (calls_by a rest n nh nn
      (ap (λ (x : Called StoreLaw). x.began) kept) log told)
      (λ some. ap (λ (x : Called StoreLaw). x.fresh) kept ∙ sym (new_committed n there.run.core commits.status some))

  -- so it did the job
  pub did_commit : (layout : Layout) (job : Job) (finished : Finished) → (law_of k).layout ≡ layout →
      n ≡ record t { log = n.log; left = None; fresh = true } → begun_log n.number n.log ≡ begun_log t.number t.log →
      IsRunOf keeps t.home.terms n.log → IsTold n → Commits t n finished.number →
      ((map : List Val) → Admits keeps t map →
      IsRight (record { layout = layout; ops = job.ops }) map (with_set map (written t)) (Ran finished.replies)) →
      KeepsOutOf layout job.ops (held t) (is_opened t) → SightedByOpens keeps n →
      DidJob Branches layout job (Dstm k) (Dstm x) finished
  did_commit layout job finished law kept log run told commits right out sighted =
      subst (λ (c : Called StoreLaw). DidJob Branches layout job (Dstm k) (Dstm c) finished) (sym a.end)
      (did_branch a layout job finished n rest law
      (ap (λ (x : Called StoreLaw). x.home) kept) (one_committed kept log run told finished.number commits) commits
      right out sighted)

  -- its commit failed
  pub was_left : (rechecks : ℕ) {v : ℕ → Val} (again : Again) → n ≡ record t { log = n.log; left = Some again } →
      begun_log n.number n.log ≡ begun_log t.number t.log → Performs keeps (Doing (Committing v)) t n (Some again) → IsTold n →
      IsLeft n again → done n ≡ done t → sights t ≤ looks t → WasKept rechecks (Dstm k) (Dstm x)
  was_left rechecks again kept log commit told left same few =
      let nh : n.home ≡ t.home = ap (λ (x : Called StoreLaw). x.home) kept in
      let nn : n.number ≡ t.number = ap (λ (x : Called StoreLaw). x.number) kept in
      let there = run_there t n nh commit.run in
      let sighted = few_since t n few (commit_few log commit) in
      rw a.end (was_kept_by a rechecks n again (one_more_by a n nh nn log there left.over (calls_by a rest n nh nn
      (ap (λ (x : Called StoreLaw). x.began) kept) log told) (aborted_fresh a n
      (ap (λ (x : Called StoreLaw). x.fresh) kept) there left.aborted)) left same (omega (arith, sighted)))

  -- it had been left as it was given up
  pub was_dead : (rechecks : ℕ) (again : Again) → IsTold t → n ≡ t → IsLeft t again → IsRunOf keeps t.home.terms n.log →
      sights t ≤ looks t + rechecks → WasKept rechecks (Dstm k) (Dstm x)
  was_dead rechecks again told same left run few = rw a.end (was_kept_dead a rechecks n again rest told same left run few)

-- ---- an attempt that was given up at its job

-- a call leaves the state that its events make
performed : {task : Task} {again : Option Again} (u n : Called StoreLaw) (p : Performs keeps task u n again) →
    state n ≡ state_after (shape_of u) (state u) p.events
performed u n p = rw (p.same.0, p.same.1, after_own (shape_of u) u.number n.log u.log p.events p.own) refl

quit_kind : (b : Bool) (e : Event) → IsDue (if b then Done else just Quit) e → e.kind ≡ Quit
quit_kind true e due = absurd due
quit_kind false e due = due.0

-- it was quit, and completed no pass more
pub record Quits (s : Shape) (l : LocalState) (events : List Event) : Type 0 where
  pub no_looks : NoSelf events
  pub quit : 1 ≤ count_in quits s l events

leaving_looks : (s : Shape) (l : LocalState) (g : Lcg) (events : List Event) → Obeys Leaving s l g events → NoSelf events
leaving_looks s l g [] obeys = tt
leaving_looks s l g (e ∷ events) obeys = (
  ap is_look_self (quit_kind (is_outside (state_after s l events).phase) e obeys.1),
  leaving_looks s l g events obeys.0,
)

abandon_quits : (s : Shape) (l : LocalState) (g : Lcg) (events : List Event) → IsCall Leaving s l g events →
    l.phase ≡ Running → Quits s l events
abandon_quits s l g [] call run = absurd (let due : just Quit ≡ Done = rw run at call.done in cc)
abandon_quits s l g (e ∷ events) call run = record {
  no_looks = leaving_looks s l g (e ∷ events) call.obeys;
  quit =
      cond_both (is_quit e.kind) (count_in quits s l events + 1) (count_in quits s l events) (λ (n : ℕ). 1 ≤ n)
      (λ _. omega arith)
      (λ other. absurd (let is = ap is_quit (quit_kind (is_outside (state_after s l events).phase) e call.obeys.1) in cc));
}

-- a log that went on with the giving up of an attempt that ran
module _ (s : Shape) (start : List Val) (c : ℕ) (old new : List Event) (g : Lcg) (events : List Event)
    (core : Core s new) (caller : c < s.callers) (past : IsPastOf old new)
    (own : events_of c new ≡ events ++ events_of c old) (call : IsCall Leaving s (local s old c) g events)
    (run : (local s old c).phase ≡ Running) where
  gave : Quits s (local s old c) events
  gave = abandon_quits s (local s old c) g events call run

  later_own : events_of c past.later ≡ events
  later_own = own_later c old new events past own

  pub same_attempt : (local s new c).begun ≡ (local s old c).begun
  same_attempt = (leaving s c g events old new (record { core = core; own = own; call = call })).1

  pub quit_counts : 1 ≤ count_of quits s new c (local s new c).begun
  quit_counts =
      let counts = log_counts quits s c (local s new c).begun events old new own (sym same_attempt) refl in
      let some = gave.quit in omega arith

  pub sights_count : (most : ℕ) → most ≤ count_of completes_pass s old c (local s old c).begun →
      most ≤ count_of completes_pass s new c (local s new c).begun
  sights_count most many =
      subst (λ (i : ℕ). most ≤ count_of completes_pass s new c i) (sym same_attempt)
      (subst (λ (log : List Event). most ≤ count_of completes_pass s log c (local s old c).begun) past.whole
      (let more = count_later completes_pass s past.later old c (local s old c).begun in omega arith))

  -- it had no sight more
  pub no_sight_more : (most : ℕ) →
      count_of completes_pass s old c (local s old c).begun ≤ count_of looks_at_object s old c (local s old c).begun + most →
      count_of completes_pass s new c (local s new c).begun ≤ count_of looks_at_object s new c (local s new c).begun + most
  no_sight_more most few =
      subst (λ (i : ℕ). count_of completes_pass s new c i ≤ count_of looks_at_object s new c i + most) (sym same_attempt)
      (subst (λ (log : List Event). count_of completes_pass s log c i ≤ count_of looks_at_object s log c i + most) past.whole
      (let more = sights_more s c i past.later old in
      let none = ap (count_kinds is_look_self) later_own ∙ none_looks events gave.no_looks in
      let looks = count_later looks_at_object s past.later old c i in
      omega arith))
    where
      i : ℕ
      i = (local s old c).begun

  pub same_sight :
      seen_last s start new new c (local s new c).begun ≡ seen_last s start old old c (local s old c).begun
  same_sight =
      ap (seen_last s start new new c) same_attempt
      ∙ ap (λ (log : List Event). seen_last s start log log c i) (sym past.whole)
      ∙ seen_last-skips s start (past.later ++ old) c i past.later old (subst NoSelf (sym later_own) gave.no_looks)
      ∙ seen_last-agrees s start c i past.later [] old (subst (Core s) (sym past.whole) core) old_core caller
    where
      i : ℕ
      i = (local s old c).begun

      old_core : Core s old
      old_core = core_past s past.later old (subst (Core s) (sym past.whole) core)

-- a caller that has given its attempt up is in none
outside : (u n : Called StoreLaw) → Performs keeps Leaving u n None → (state n).phase ≡ Outside
outside u n p =
    let out : (local (shape_of u) n.log u.number).phase ≡ Outside =
    (leaving (shape_of u) u.number u.generator p.events u.log n.log
    (record { core = p.run.run.core; own = p.own; call = p.call })).0 in
    rw (p.same.0, p.same.1) out

pub rests : (u n : Called StoreLaw) → Performs keeps Leaving u n None → is_live n ≡ false
rests u n p = ap is_running (outside u n p)

-- what it quit is aborted, and stays so
pub aborts : (u n : Called StoreLaw) → Performs keeps Leaving u n None → IsRunOf keeps u.home.terms u.log → is_live u ≡ true →
    0 < (state n).begun → StaysAt (shape_of n) n.log n.number (code_of status.Aborted)
aborts u n p run live some =
    subst (λ (b : Bool). StaysAt (shape_of n) n.log n.number (ended_as b)) committed
    (end_stays (shape_of n) n.log n.number (outside u n p) (omega arith))
  where
    inside : (state u).phase ≢ Outside
    inside out = let running = runs u live in cc

    committed : (state n).committed ≡ false
    committed =
        rw (
          performed u n p,
          leaving_commits (shape_of u) (state u) u.generator p.events p.call.obeys,
          (sound (shape_of u) u.log run.run.core u.number).goes inside,
        ) refl

-- a live attempt in which nothing was newly opened for writing
pub unopened_by : (b t : Called StoreLaw) (o : ℕ) → is_live t ≡ true → live_opened t o ≡ live_opened b o →
    is_opened b o ≡ false → is_opened t o ≡ false
unopened_by b t o live same none =
    sym (ap (λ (on : Bool). on && is_opened t o) live) ∙ same ∙ ap (λ (on : Bool). is_live b && on) none
    ∙ and_false (is_live b)
  where
    and_false : (x : Bool) → x && false ≡ false
    and_false true = refl
    and_false false = refl

-- in an attempt that opened nothing for writing nothing was installed
unused_by : (k b u n : Called StoreLaw) → BeginsAnew keeps k b → u.home ≡ b.home → u.number ≡ b.number →
    begun_log u.number u.log ≡ begun_log b.number b.log → ((o : ℕ) → is_opened u o ≡ false) →
    Performs keeps Leaving u n None → (state n).installed ≡ (state k).installed
unused_by k b u n begins home number log unopened left = last ∙ none ∙ first
  where
    first : (state b).installed ≡ (state k).installed
    first =
        let p = begins.steps in
        ap (λ (l : LocalState). l.installed) (performed k b p)
        ∙ beginning_installs (shape_of k) k.fresh (state k) k.generator p.events p.call.obeys

    none : (state u).installed ≡ (state b).installed
    none =
        rw (
          installed_there (shape_of u) u.number u.log,
          no_writes (state u).writes unopened,
          add-zero ((local (shape_of u) (begun_log u.number u.log) u.number).installed),
          log ∙ sym begins.at_begin,
          home,
          number,
        ) refl

    last : (state n).installed ≡ (state u).installed
    last = rw (performed u n left, leaving_installs (shape_of u) (state u) u.generator left.events left.call.obeys) refl

-- an attempt that was rechecked so often, and then given up, in which no branch of the job was open
pub stood_at : (rechecks : ℕ) (layout : Layout) (job : Job) (k b t u n : Called StoreLaw) → 0 < rechecks →
    sights t ≤ looks t → OneMore (Dstm k) (Dstm n) →
    done n ≡ done k → (law_of t).layout ≡ layout → (shape_of t).objects ≡ objects_of layout → HasRechecked rechecks t u →
    Performs keeps Leaving u n None → BeginsAnew keeps k b → u.home ≡ b.home → u.number ≡ b.number →
    begun_log u.number u.log ≡ begun_log b.number b.log → ((shape_of k).all_write ≡ false → (o : ℕ) → is_opened u o ≡ false) →
    ((map : List Val) → Admits keeps t map →
    IsRight (record { layout = layout; ops = job.ops }) map (with_set map (written t)) Blocked) →
    KeepsOutOf layout job.ops (held t) (is_opened t) → StoodAt Branches rechecks layout job (Dstm k) (Dstm n)
stood_at rechecks layout job k b t u n some few one same law size rechecked left begins home number log none right out = record {
  branches = refl;
  made = one;
  given_up = record {
    sights =
        sights_count (shape_of n) (start_of n) n.number u.log n.log u.generator left.events core caller left.seen own call run
        rechecks many;
    no_more =
        no_sight_more (shape_of n) (start_of n) n.number u.log n.log u.generator left.events core caller left.seen own call run
        rechecks at_most;
    quit = quit_counts (shape_of n) (start_of n) n.number u.log n.log u.generator left.events core caller left.seen own call run;
  };
  uncommitted = not_committed n one.on.rest stays;
  aborted = was_aborted n one.on.rest stays;
  blocked = λ map held stands agrees. (right map (admitted map held stands agrees)).blocked refl held stands;
  inside = λ o foreign. ap (λ (values : List (ℕ × Val)). value_in values o) covers ∙ rechecked.held o ∙ (out o foreign).0;
  unused = λ reads. unused_by k b u n begins home number log (none reads) left;
  same_done = same;
}
  where
    -- as n has the table and the number
    there : (P : Home StoreLaw → ℕ → Type 0) → P u.home u.number → P n.home n.number
    there P is = subst (λ (x : Home StoreLaw). P x n.number) (sym left.same.0) (subst (P u.home) (sym left.same.1) is)

    core : Core (shape_of n) n.log
    core = one.on.rest.run.run.core

    stays : StaysAt (shape_of n) n.log n.number (code_of status.Aborted)
    stays = aborts u n left (rechecked.newest some).run rechecked.live (let b = one.begun in omega arith)

    caller : n.number < (shape_of n).callers
    caller = (in_range n one.on.rest).0

    own : events_of n.number n.log ≡ left.events ++ events_of n.number u.log
    own = there (λ x c. events_of c n.log ≡ left.events ++ events_of c u.log) left.own

    call : IsCall Leaving (shape_of n) (local (shape_of n) u.log n.number) u.generator left.events
    call = there (λ x c. IsCall Leaving x.terms.shape (local x.terms.shape u.log c) u.generator left.events) left.call

    run : (local (shape_of n) u.log n.number).phase ≡ Running
    run = there (λ x c. (local x.terms.shape u.log c).phase ≡ Running) (runs u rechecked.live)

    many : rechecks ≤ count_of completes_pass (shape_of n) u.log n.number (local (shape_of n) u.log n.number).begun
    many = there (λ x c. rechecks ≤ count_of completes_pass x.terms.shape u.log c (local x.terms.shape u.log c).begun)
        (let count = rechecked.sights in omega arith)

    at_most : count_of completes_pass (shape_of n) u.log n.number (local (shape_of n) u.log n.number).begun
        ≤ count_of looks_at_object (shape_of n) u.log n.number (local (shape_of n) u.log n.number).begun + rechecks
    at_most = there (λ x c. count_of completes_pass x.terms.shape u.log c (local x.terms.shape u.log c).begun
        ≤ count_of looks_at_object x.terms.shape u.log c (local x.terms.shape u.log c).begun + rechecks)
        (let count = rechecked.sights in let looked = rechecked.looks in omega arith)

    covers : seen_last (shape_of n) (start_of n) n.log n.log n.number (state n).begun ≡ (entry u).reads
    covers =
        same_sight (shape_of n) (start_of n) n.number u.log n.log u.generator left.events core caller left.seen own call run
        ∙ there (λ x c. seen_last x.terms.shape x.terms.start.value.items u.log u.log c (local x.terms.shape u.log c).begun
        ≡ (entry u).reads) (rechecked.newest some).covers

    admitted : (map : List Val) (held : Store) → StandsFor layout map held →
        Agrees map (seen_last (shape_of n) (start_of n) n.log n.log n.number (state n).begun) → Admits keeps t map
    admitted map store stands agrees = record {
      length = stands.objects ∙ sym size;
      lawful = rw law (store, stands);
      agrees = λ o.
          rw (← rechecked.held o) (AgreesWith-of_agrees map (entry u).reads (rw (← covers) agrees) o);
    }
