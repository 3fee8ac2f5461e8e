-- How many steps a call on an attempt that is alone has left, and that each step takes one of them.
use Rattle.std.proofs.Common.{◌*◌, ◌+◌, ◌-◌, ◌<◌, ◌==◌, ◌&&◌, ◌∙◌, ◌≡◌, ◌≤◌, ◌⊎◌, Bool, None, [], ap, arith, false, if◌then◌else◌, inl, inr, is_none, is_some, length, refl, subst, sym, true, ℕ}
use Rattle.dstm_core.proofs.Base.{Event, LocalState, Val, after, cases_Bool, cond_both, eq-eqb, eqb-true, is_live, is_resolved, nat_tests, ne_eqb, or_zero, res, version, word}
use Rattle.std.proofs.lemmas.Grind.{common_steps}
use Rattle.dstm_core.specs.declared.status.Status.{Status}
use Rattle.dstm_managers.specs.Choices.{choice, next_word}
use Rattle.dstm_order.proofs.Base.{Committing, Done, Draw, Drawn, Due, Effort, Greedy, Install, IsRank, Karma, Kind, LookNumber, LookObj, Manager, Polite, Polka, PutOld, Reading, Rechecking, Release, Resolution, Running, Shape, Step, Work, Writing, chosen, decider_of, effort_after, has_ranks, in_checking, in_pass, in_putting, in_resolving, is_open, just, most_rounds, most_turns, next, status_of, turn, turn_of_conflict, turns_of, when_asked, when_passed, when_resolved}
use Rattle.dstm_managers.specs.declared.decider.Choice.TheVariants.{Wait}
use Rattle.dstm_managers.proofs.MeetingLemmas.{mark, mark-last, mark-next, round-left, turns-bounded}

-- ---- the turns that are left of a conflict

-- of this wait, where one is under way, and of all later rounds
abbrev pub turns_left : Manager → (round left : ℕ) → ℕ
turns_left m round left =
    if left == 0
    then mark m (most_rounds m) - mark m round
    else left + (mark m (most_rounds m) - mark m (round + 1))

-- at first they are as many as the manager waits at most
pub turns_whole : (m : Manager) → turns_left m 0 0 ≡ most_turns m
turns_whole Polite = refl
turns_whole Karma = refl
turns_whole Polka = refl
turns_whole Greedy = refl

left_none : (m : Manager) (round left : ℕ) → left ≡ 0 → turns_left m round left ≡ mark m (most_rounds m) - mark m round
left_none m round left h = rw (eq-eqb left 0 h) refl

left_some : (m : Manager) (round left : ℕ) → 0 < left →
    turns_left m round left ≡ left + (mark m (most_rounds m) - mark m (round + 1))
left_some m round left h = rw (ne_eqb left 0 (λ q. absurd (omega arith))) refl

-- a wait has a turn
wait_some : (m : Manager) (own enemy round word turns : ℕ) (status : Status) →
    choice m own enemy status round word ≡ Wait turns → 1 ≤ turns
wait_some Polite own enemy round word turns status h = grind (arith, common_steps)
wait_some Karma own enemy round word turns status h = grind (arith, common_steps)
wait_some Polka own enemy round word turns status h = grind (arith, common_steps)
wait_some Greedy own enemy round word turns status h = grind (arith, common_steps)

-- one turn of some that were left
turn_falls : (m : Manager) (round left : ℕ) → 0 < left →
    turns_left m (if left == 1 then round + 1 else round) (left - 1) + 1 ≤ turns_left m round left
turn_falls m round left h = go (cases_Bool (left == 1))
  where
    go : (left == 1 ≡ true) ⊎ (left == 1 ≡ false) →
        turns_left m (if left == 1 then round + 1 else round) (left - 1) + 1 ≤ turns_left m round left
    go (inl q) = let one : left ≡ 1 = eqb-true left 1 q in
        let a = left_none m (round + 1) (left - 1) (omega arith) in
        let b = left_some m round left h in rw q (omega arith)
    go (inr q) = let more : 0 < left - 1 = grind (arith, nat_tests) in
        let a = left_some m round (left - 1) more in
        let b = left_some m round left h in rw q (omega arith)

-- the first turn of a new wait
wait_falls : (m : Manager) (own enemy round word turns : ℕ) (status : Status) → IsRank m enemy →
    choice m own enemy status round word ≡ Wait turns →
    turns_left m (if turns == 1 then round + 1 else round) (turns - 1) + 1 ≤ turns_left m round 0
wait_falls m own enemy round word turns status rank h = go (cases_Bool (turns == 1))
  where
    some : 1 ≤ turns
    some = wait_some m own enemy round word turns status h

    few : turns + mark m round ≤ mark m (round + 1)
    few = let a = turns-bounded m own enemy round word turns status h in let b = mark-next m round in
        omega arith

    last : mark m (round + 1) ≤ mark m (most_rounds m)
    last = mark-last m (round + 1) (round-left m own enemy round word turns status rank h)

    go : (turns == 1 ≡ true) ⊎ (turns == 1 ≡ false) →
        turns_left m (if turns == 1 then round + 1 else round) (turns - 1) + 1 ≤ turns_left m round 0
    go (inl q) = let one : turns ≡ 1 = eqb-true turns 1 q in
        let a = left_none m (round + 1) (turns - 1) (omega arith) in
        let b = few in let c = last in rw q (omega arith)
    go (inr q) = let more : 0 < turns - 1 = let x = some in grind (arith, nat_tests) in
        let a = left_some m round (turns - 1) more in
        let b = few in let c = last in rw q (omega arith)

-- the turns that are left after an effort
abbrev pub left_of : Manager → Effort → ℕ
left_of m f = turns_left m f.round f.left

-- a turn takes one of them
pub conflict_falls : (m : Manager) (l : LocalState) (f : Effort) → IsRank m (or_zero (res l).rank) →
    (0 < f.left) ⊎ ((f.left ≡ 0) × ((t : ℕ) × (chosen m l f ≡ Wait t))) →
    left_of m (turn_of_conflict m l f) + 1 ≤ left_of m f
conflict_falls m l f rank (inl h) =
    let same : turn_of_conflict m l f ≡ turn f.left f = rw (ne_eqb f.left 0 (λ q. absurd (omega arith))) refl in
    subst (λ (x : Effort). left_of m x + 1 ≤ left_of m f) (sym same) (turn_falls m f.round f.left h)
conflict_falls m l f rank (inr (z, (t, q))) =
    let same : turn_of_conflict m l f ≡ turn (turns_of (chosen m l f)) (when_asked m l f) =
    rw (eq-eqb f.left 0 z) refl in
    let asked : turn (turns_of (chosen m l f)) (when_asked m l f) ≡ turn t (when_asked m l f) =
    ap (λ c. turn (turns_of c) (when_asked m l f)) q in
    let falls = wait_falls m l.rank (or_zero (res l).rank) f.round (next_word (decider_of m f)) t
    (status_of (or_zero (res l).status)) rank q in
    let none : turns_left m f.round 0 ≡ turns_left m f.round f.left = ap (turns_left m f.round) (sym z) in
    subst (λ (x : Effort). left_of m x + 1 ≤ left_of m f) (sym (same
    ∙ asked)) (subst (λ n. left_of m (turn t (when_asked m l f)) + 1 ≤ n) none falls)

-- ---- what is left of resolving an object

-- by what was found so far, where so many turns are left
abbrev pub looking : Manager → Resolution → ℕ → ℕ
looking m r t =
    if is_resolved r then 0
    else if is_none r.owner then t + 7
    else if is_none r.status then t + 6
    else if is_live (or_zero r.status) then (if has_ranks m && is_none r.rank then t + 5 else t + 4)
    else if is_none (version r) then 3
    else if is_none r.high then 2
    else 1

-- it is at most what each step that may come next leaves
looking_most : (m : Manager) (r : Resolution) (t most : ℕ) → 1 ≤ most → (is_none r.owner ≡ true → t + 7 ≤ most) →
    (is_none r.status ≡ true → t + 6 ≤ most) →
    (is_live (or_zero r.status) ≡ true → has_ranks m && is_none r.rank ≡ true → t + 5 ≤ most) →
    (is_live (or_zero r.status) ≡ true → t + 4 ≤ most) → (is_none (version r) ≡ true → 3 ≤ most) →
    (is_none r.high ≡ true → 2 ≤ most) → looking m r t ≤ most
looking_most m r t most one owner status rank live three two =
    cond_both (is_resolved r) _ _ (λ n. n ≤ most) (λ _. omega arith) (λ _.
    cond_both (is_none r.owner) _ _ (λ n. n ≤ most) owner
    (λ _. cond_both (is_none r.status) _ _ (λ n. n ≤ most) status (λ _.
    cond_both (is_live (or_zero r.status)) _ _ (λ n. n ≤ most)
    (λ l. cond_both (has_ranks m && is_none r.rank) _ _ (λ n. n ≤ most) (rank l) (λ _. live l)) (λ _.
    cond_both (is_none (version r)) _ _ (λ n. n ≤ most) three (λ _.
    cond_both (is_none r.high) _ _ (λ n. n ≤ most) two (λ _. one))))))

pub looking_new : (m : Manager) (r : Resolution) (t : ℕ) → looking m r t ≤ t + 7
looking_new m r t = looking_most m r t (t + 7) (omega arith) (λ _. omega arith) (λ _. omega arith) (λ _ _. omega arith)
    (λ _. omega arith) (λ _. omega arith) (λ _. omega arith)

pub looking_owned : (m : Manager) (r : Resolution) (t : ℕ) → is_none r.owner ≡ false → looking m r t ≤ t + 6
looking_owned m r t o = looking_most m r t (t + 6) (omega arith) (λ q. absurd (cc)) (λ _. omega arith)
    (λ _ _. omega arith) (λ _. omega arith) (λ _. omega arith) (λ _. omega arith)

pub looking_seen : (m : Manager) (r : Resolution) (t : ℕ) → is_none r.owner ≡ false → is_none r.status ≡ false →
    looking m r t ≤ t + 5
looking_seen m r t o st = looking_most m r t (t + 5) (omega arith) (λ q. absurd (cc)) (λ q. absurd (cc))
    (λ _ _. omega arith) (λ _. omega arith) (λ _. omega arith) (λ _. omega arith)

pub looking_ranked : (m : Manager) (r : Resolution) (t : ℕ) → is_none r.owner ≡ false → is_none r.status ≡ false →
    has_ranks m && is_none r.rank ≡ false → looking m r t ≤ t + 4
looking_ranked m r t o st rk = looking_most m r t (t + 4) (omega arith) (λ q. absurd (cc)) (λ q. absurd (cc))
    (λ l q. absurd (cc)) (λ _. omega arith) (λ _. omega arith) (λ _. omega arith)

pub looking_finished : (m : Manager) (r : Resolution) (t : ℕ) → is_none r.owner ≡ false → is_none r.status ≡ false →
    is_live (or_zero r.status) ≡ false → looking m r t ≤ 3
looking_finished m r t o st lv = looking_most m r t 3 (omega arith) (λ q. absurd (cc)) (λ q. absurd (cc))
    (λ l q. absurd (cc)) (λ q. absurd (cc)) (λ _. omega arith) (λ _. omega arith)

pub looking_versioned : (m : Manager) (r : Resolution) (t : ℕ) → is_none r.owner ≡ false → is_none r.status ≡ false →
    is_live (or_zero r.status) ≡ false → is_none (version r) ≡ false → looking m r t ≤ 2
looking_versioned m r t o st lv v = looking_most m r t 2 (omega arith) (λ q. absurd (cc)) (λ q. absurd (cc))
    (λ l q. absurd (cc)) (λ q. absurd (cc)) (λ q. absurd (cc)) (λ _. omega arith)

pub looking_high : (m : Manager) (r : Resolution) (t : ℕ) → is_none r.owner ≡ false → is_none r.status ≡ false →
    is_live (or_zero r.status) ≡ false → is_none (version r) ≡ false → is_none r.high ≡ false → looking m r t ≤ 1
looking_high m r t o st lv v h = rw (o, st, lv, v, h)
    (cond_both (is_resolved r) _ _ (λ n. n ≤ 1) (λ _. omega arith) (λ _. omega arith))

pub looking_done : (m : Manager) (r : Resolution) (t : ℕ) → is_resolved r ≡ true → looking m r t ≡ 0
looking_done m r t h = rw h refl

-- ---- the stages of a call

-- what an open has left once its object is resolved; two steps of an open for writing are kept for its puts
abbrev pub base : Work → ℕ
base (Reading object) = 4
base (Writing object) = 8
base work = 0

abbrev pub closes : Work → Bool
closes (Committing value) = true
closes work = false

-- what comes after a pass
abbrev pub tail : Work → ℕ
tail Rechecking = 0
tail work = 1

abbrev pub one_if : Bool → ℕ
one_if true = 1
one_if false = 0

-- the puts that the writes have left
abbrev pub puts_left : LocalState → ℕ
puts_left l = 2 * (length l.writes - l.written) - one_if l.high_put

-- the reads that a pass, or a commit, has left to check: none, once a pass was complete
abbrev pub unchecked : LocalState → ℕ
unchecked l = if is_none l.last_pass then length l.reads - l.checked else 0

-- nothing was put
pub record Still (l : LocalState) : Type 0 where
  pub phase : l.phase ≡ Running
  pub written : l.written ≡ 0
  pub high : l.high_put ≡ false

-- before the first pass nothing is read, and nothing is resolved
abbrev pub Unread : LocalState → Type 0
Unread l = l.last_pass ≡ None → l.reads ≡ []

abbrev pub Blank : LocalState → Type 0
Blank l = l.last_pass ≡ None → (l.reads ≡ []) × (l.resolution ≡ None)

-- where a call stands, by what is due, and that n steps are enough
pub data Stage (s : Shape) (w : Work) (l : LocalState) (f : Effort) (d : Due) (n : ℕ) : Type 0 where
  opening : is_open w ≡ true → (o : ℕ) → d ≡ Step LookObj o → Still l → Unread l →
      base w + 8 + most_turns s.manager ≤ n → Stage s w l f d n
  resolving : is_open w ≡ true → d ≡ in_resolving s.manager l f (when_resolved w) → Still l → Unread l →
      base w + looking s.manager (res l) (left_of s.manager f) ≤ n → Stage s w l f d n
  owning : is_open w ≡ true → d ≡ just PutOld → Still l → Unread l → 7 ≤ n → Stage s w l f d n
  installing : is_open w ≡ true → d ≡ just Install → Still l → Unread l → 6 ≤ n → Stage s w l f d n
  numbering : closes w ≡ false → d ≡ just LookNumber → Still l → Blank l → 2 + tail w ≤ n → Stage s w l f d n
  passing : closes w ≡ false → d ≡ in_pass l → Still l → is_some l.pass ≡ true → 1 + tail w + unchecked l ≤ n →
      Stage s w l f d n
  passed : closes w ≡ false → d ≡ when_passed w s.manager l → Still l → is_some l.last_pass ≡ true → tail w ≤ n →
      Stage s w l f d n
  releasing : closes w ≡ false → (o : ℕ) → d ≡ Step Release o → Still l → Blank l → 1 ≤ n → Stage s w l f d n
  ended : closes w ≡ false → d ≡ Done → Still l → Blank l → Stage s w l f d n
  putting : closes w ≡ true → (v : ℕ → Val) → w ≡ Committing v → d ≡ in_putting v l → Unread l → 3 ≤ n →
      Stage s w l f d n
  validating : closes w ≡ true → d ≡ just Draw → Unread l → 2 ≤ n → Stage s w l f d n
  drawing : closes w ≡ true → d ≡ in_checking l → Unread l → l.checked ≡ 0 → l.phase ≡ Drawn → 1 ≤ n → Stage s w l f d n

-- the stage after an event of kind k
pub record NextStage (s : Shape) (w : Work) (e : Event) (l : LocalState) (f : Effort) (n : ℕ)
    (k : Kind) : Type 0 where
  pub room : ℕ
  pub stage : Stage s w (after k s l e) (effort_after k s.manager l f e)
      (next k e w s.manager (after k s l e) (effort_after k s.manager l f e)) room
  pub falls : room + 1 + puts_left (after k s l e) ≤ n + puts_left l
