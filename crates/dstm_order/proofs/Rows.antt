-- A fact of what is due, from the same fact of each event that a row of the table of steps names.
use Rattle.std.proofs.Common.{◌&&◌, ◌==◌, ◌||◌, ◌≡◌, ◌∷◌, [], Bool, Option, Some, None, is_none, length, nat_lt, not, refl, true, ℕ, false, if◌then◌else◌}
use Rattle.dstm_core.proofs.Base.{Event, LocalState, Val, cond_both, is_live, is_one_of, is_outside, is_resolved, next_write, res, version}
use Rattle.dstm_core.proofs.Untouched.{is_look}
use Rattle.dstm_order.proofs.Base.{Begin, Check, Choice, Commit, Committing, Doing, Done, Draw, Drawn, Due, Effort, Enrol, Install, IsDue, Kill, Kind, LookHigh, LookNew, LookNumber, LookObj, LookOld, LookOwner, LookRank, LookSelf, LookStatus, Manager, Pause, Paused, Phase, PutHigh, PutNew, PutOld, PutOwner, Quit, Rank, Reading, Rechecking, Release, Releasing, Resume, Shape, Stamp, Step, ToValidating, Work, Writing, at_first, chosen, due, enemy_code, has_begun, has_ranks, has_stamps, in_beginning, in_checking, in_checks, in_conflict, in_giving_way, in_pass, in_putting, in_resolving, is_paused, is_same, is_spent, just, most_missed, next, next_or_first, on_choice, rises, when_passed, when_put, when_resolved}
use Rattle.dstm_managers.specs.declared.decider.Choice.TheVariants as decision

-- the fact of each event by which an object is resolved
pub record Resolves (P : Due → Type 0) : Type 0 where
  pub owner : P (just LookOwner)
  pub status : P (just LookStatus)
  pub rank : P (just LookRank)
  pub old : P (just LookOld)
  pub high : P (just LookHigh)
  pub new : P (just LookNew)
  pub kill : P (just Kill)
  pub pause : P (just Pause)

-- the kinds of these events
abbrev pub resolves : Kind → Bool
resolves = is_one_of (LookOwner ∷ LookStatus ∷ LookRank ∷ LookOld ∷ LookHigh ∷ LookNew ∷ Kill ∷ Pause ∷ [])

-- where it is a fact of each event of such a kind
pub resolves_by : (P : Due → Type 0) → ((k : Kind) → resolves k ≡ true → P (just k)) → Resolves P
resolves_by P each = record {
  owner = each LookOwner refl;
  status = each LookStatus refl;
  rank = each LookRank refl;
  old = each LookOld refl;
  high = each LookHigh refl;
  new = each LookNew refl;
  kill = each Kill refl;
  pause = each Pause refl;
}

pub choice_by : {P : Due → Type 0} (c : Choice) → Resolves P → P (on_choice c)
choice_by decision.Kill h = h.kill
choice_by (decision.Wait t) h = h.status
choice_by decision.GiveWay h = h.pause

pub conflict_by : {P : Due → Type 0} (m : Manager) (l : LocalState) (f : Effort) → Resolves P → P (in_conflict m l f)
conflict_by {P = P} m l f h =
    cond_both (has_ranks m && is_none (res l).rank) _ _ P (λ _. h.rank) (λ _.
    cond_both (nat_lt 0 f.left) _ _ P (λ _. h.status) (λ _. choice_by (chosen m l f) h))

pub giving_way_by : (P : Due → Type 0) (l : LocalState) (f : Effort) → P (just Resume) → P (just Quit) →
    P (just LookStatus) → P (in_giving_way l f)
giving_way_by P l f resume quit look =
    cond_both (not (is_live (enemy_code l)) || enemy_code l == 2) _ _ P (λ _. resume) (λ _.
    cond_both (f.left == 0) _ _ P (λ _. quit) (λ _. look))

paused_is : (p : Phase) → is_paused p ≡ true → p ≡ Paused
paused_is Paused h = refl
paused_is p h = absurd (cc)

-- of what is due in a call that begins an attempt
pub beginning_by : (P : Due → Type 0) (s : Shape) (fresh : Bool) (o : Option Event) (l : LocalState) → P Done →
    P (just Quit) → (is_spent s l ≡ false → has_stamps s.manager && fresh && not l.stamped ≡ true → P (just Stamp)) →
    (is_spent s l ≡ false → P (Step Rank (if rises s.manager && fresh then 0 else l.rank))) → P (just Begin) →
    P (in_beginning s fresh o l)
beginning_by P s fresh o l done quit stamp rank begin =
    cond_both (has_begun o) _ _ P (λ _. done) (λ _. cond_both (not (is_outside l.phase)) _ _ P (λ _. quit) (λ _.
    cond_both (is_spent s l) _ _ P (λ _. done) (λ free.
    cond_both (has_stamps s.manager && fresh && not l.stamped) _ _ P (stamp free) (λ _.
    cond_both (has_ranks s.manager && not l.ranked) _ _ P (λ _. rank free) (λ _. begin)))))

pub resolving_by : (P : Due → Type 0) (m : Manager) (l : LocalState) (f : Effort) (d : Due) → Resolves P →
    (l.phase ≡ Paused → P (in_giving_way l f)) → P d → P (in_resolving m l f d)
resolving_by P m l f d h way resolved =
    cond_both (is_paused l.phase) _ _ P (λ q. way (paused_is l.phase q)) (λ _.
    cond_both (is_resolved (res l)) _ _ P (λ _. resolved) (λ _.
    cond_both (is_none (res l).owner) _ _ P (λ _. h.owner) (λ _.
    cond_both (is_none (res l).status) _ _ P (λ _. h.status) (λ _.
    cond_both (is_live (enemy_code l)) _ _ P (λ _. conflict_by m l f h) (λ _.
    cond_both (is_none (version (res l))) _ _ P (λ _. h.old) (λ _.
    cond_both (is_none (res l).high) _ _ P (λ _. h.high) (λ _. h.new)))))))

pub pass_by : (P : Due → Type 0) (l : LocalState) → P (just LookSelf) → P (just Check) → P (in_pass l)
pass_by P l look check =
    cond_both (l.checked == length l.reads || is_same l.last_pass l.pass) _ _ P (λ _. look) (λ _. check)

pub checking_by : (P : Due → Type 0) (l : LocalState) → P (just Commit) → P (just Check) → P (in_checking l)
checking_by P l commit check =
    cond_both (l.checked == length l.reads || is_same l.last_pass l.drawn) _ _ P (λ _. commit) (λ _. check)

pub checks_by : (P : Due → Type 0) (p : Phase) (l : LocalState) → P (just LookSelf) → P (just Commit) →
    P (just Check) → P (in_checks p l)
checks_by P Drawn l look commit check = checking_by P l commit check
checks_by P p l look commit check = pass_by P l look check

pub putting_by : (P : Due → Type 0) (v : ℕ → Val) (l : LocalState) → P (just ToValidating) →
    ((n : ℕ) → P (Step PutHigh n)) → ((n : ℕ) → P (Step PutNew n)) → P (in_putting v l)
putting_by P v l validating high new =
    cond_both (l.written == length l.writes) _ _ P (λ _. validating) (λ _.
    cond_both l.high_put _ _ P (λ _. new (v (next_write l).object).low) (λ _. high (v (next_write l).object).high))

pub put_by : (P : Due → Type 0) (w : Work) (l : LocalState) → P Done → P (just ToValidating) →
    ((n : ℕ) → P (Step PutHigh n)) → ((n : ℕ) → P (Step PutNew n)) → P (when_put w l)
put_by P (Reading o) l done validating high new = done
put_by P (Writing o) l done validating high new = done
put_by P (Releasing o) l done validating high new = done
put_by P Rechecking l done validating high new = done
put_by P (Committing v) l done validating high new = putting_by P v l validating high new

pub passed_by : (P : Due → Type 0) (w : Work) (m : Manager) (l : LocalState) → P Done →
    ((n : ℕ) → P (Step Rank n)) → P (when_passed w m l)
passed_by P Rechecking m l done rank = done
passed_by P (Reading o) m l done rank = cond_both (rises m) _ _ P (λ _. rank _) (λ _. done)
passed_by P (Writing o) m l done rank = cond_both (rises m) _ _ P (λ _. rank _) (λ _. done)
passed_by P (Releasing o) m l done rank = cond_both (rises m) _ _ P (λ _. rank _) (λ _. done)
passed_by P (Committing v) m l done rank = cond_both (rises m) _ _ P (λ _. rank _) (λ _. done)

-- ---- the whole table

-- what is due in a call on a live attempt is nothing, a Quit, or what a row names
pub doing_by : (P : Due → Type 0) (w : Work) (s : Shape) (o : Option Event) (l : LocalState) (f : Effort) → P Done →
    P (just Quit) → P (next_or_first o w s.manager l f) → P (due (Doing w) s o l f)
doing_by P w s o l f done quit row =
    cond_both (is_outside l.phase) _ _ P (λ _. done) (λ _.
    cond_both (l.stale || f.missed == most_missed) _ _ P (λ _. quit) (λ _. row))

-- what is due, if anything, is of such a kind
abbrev pub is_due_of : (Kind → Bool) → Due → Bool
is_due_of is (Step k n) = is k
is_due_of is Done = true

pub kind_of_due : (is : Kind → Bool) (d : Due) (e : Event) → IsDue d e → is_due_of is d ≡ true → is e.kind ≡ true
kind_of_due is (Step k n) e i h = rw (i.0) h
kind_of_due is Done e i h = absurd i

-- a check, or the end of some checks
abbrev pub is_test : Kind → Bool
is_test = is_one_of (Check ∷ LookSelf ∷ Commit ∷ [])

-- after these such an event is due
abbrev pub is_tested : Kind → Bool
is_tested = is_one_of (LookNumber ∷ Check ∷ Draw ∷ [])

-- after these events an object is being resolved
abbrev pub is_resolving : Kind → Bool
is_resolving k = is_one_of (Pause ∷ Resume ∷ []) k || is_look k

-- any other event, but for a Release, and those that begin or drop an attempt; and a LookObj
abbrev pub is_step : Kind → Bool
is_step =
    is_one_of (Enrol ∷ Stamp ∷ Rank ∷ LookObj ∷ PutOwner ∷ PutOld ∷ Install ∷ LookNumber ∷ PutHigh ∷ PutNew
    ∷ ToValidating ∷ Draw ∷ [])

-- a fact of nothing due, of each step, and of the Release where one is asked for
pub record EachStep (P : Due → Type 0) (w : Work) : Type 0 where
  pub done : P Done
  pub step : (k : Kind) (n : ℕ) → is_step k ≡ true → P (Step k n)
  pub release : (o : ℕ) → w ≡ Releasing o → P (Step Release o)

steps_put : {P : Due → Type 0} {w : Work} (l : LocalState) → EachStep P w → P (when_put w l)
steps_put {P = P} {w = w} l h =
    put_by P w l h.done (h.step ToValidating 0 refl) (λ n. h.step PutHigh n refl) (λ n. h.step PutNew n refl)

pub first_by : {P : Due → Type 0} {w : Work} (l : LocalState) → EachStep P w → P (at_first w l)
first_by {w = (Reading o)} l h = h.step LookObj o refl
first_by {w = (Writing o)} l h = h.step LookObj o refl
first_by {w = (Releasing o)} l h = h.release o refl
first_by {w = Rechecking} l h = h.step LookNumber 0 refl
first_by {w = (Committing v)} l h = steps_put l h

pub resolved_by : (P : Due → Type 0) (w : Work) → EachStep P w → P (when_resolved w)
resolved_by P (Reading o) h = h.step LookNumber 0 refl
resolved_by P (Writing o) h = h.step PutOwner 0 refl
resolved_by P w h = h.done

-- so it is one of what is due after an event, where it is one of the row that resolves an object, and of the tests
pub next_by : {P : Due → Type 0} (k : Kind) (e : Event) {w : Work} (m : Manager) (l : LocalState) (f : Effort) →
    EachStep P w → P (in_resolving m l f (when_resolved w)) →
    ((j : Kind) → is_tested k ≡ true → is_test j ≡ true → P (just j)) → P (next k e w m l f)
next_by {P = P} LookNumber e m l f h resolving test = pass_by P l (test LookSelf refl refl) (test Check refl refl)
next_by {P = P} Check e m l f h resolving test =
    checks_by P l.phase l (test LookSelf refl refl) (test Commit refl refl) (test Check refl refl)
next_by {P = P} Draw e m l f h resolving test = checking_by P l (test Commit refl refl) (test Check refl refl)
next_by PutOwner e m l f h resolving test = h.step PutOld 0 refl
next_by PutOld e m l f h resolving test = h.step Install 0 refl
next_by {P = P} Install e m l f h resolving test =
    cond_both (e.found == e.expected) _ _ P (λ _. h.step LookNumber 0 refl) (λ _. first_by l h)
next_by {P = P} LookSelf e {w = w} m l f h resolving test = passed_by P w m l h.done (λ n. h.step Rank n refl)
next_by PutHigh e m l f h resolving test = steps_put l h
next_by PutNew e m l f h resolving test = steps_put l h
next_by ToValidating e m l f h resolving test = h.step Draw 0 refl
next_by Rank e m l f h resolving test = h.done
next_by Release e m l f h resolving test = h.done
next_by Commit e m l f h resolving test = h.done
next_by Quit e m l f h resolving test = h.done
next_by Enrol e m l f h resolving test = h.done
next_by Stamp e m l f h resolving test = h.done
next_by Begin e m l f h resolving test = h.done
next_by k e m l f h resolving test = resolving

pub table_by : (P : Due → Type 0) (o : Option Event) (w : Work) (m : Manager) (l : LocalState) (f : Effort) →
    EachStep P w → P (in_resolving m l f (when_resolved w)) →
    ((j : Kind) → is_test j ≡ true → P (just j)) → P (next_or_first o w m l f)
table_by P None w m l f h resolving test = first_by l h
table_by P (Some e) w m l f h resolving test = next_by e.kind e m l f h resolving (λ j _ q. test j q)

pub next_resolving : (k : Kind) (e : Event) (w : Work) (m : Manager) (l : LocalState) (f : Effort) →
    is_resolving k ≡ true → next k e w m l f ≡ in_resolving m l f (when_resolved w)
next_resolving LookObj e w m l f q = refl
next_resolving k e w m l f q = cc
