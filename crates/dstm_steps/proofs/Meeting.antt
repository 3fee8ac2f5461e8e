-- What is due in a conflict, and what is known after each of its events.
use Rattle.std.proofs.Common.{◌≡◌, ◌≢◌, ◌⊎◌, ℕ, ◌+◌, ◌-◌, ◌*◌, ◌<◌, ◌≤◌, ◌==◌, ◌&&◌, ◌||◌, Bool, true, false, not, None, Some, is_none, is_some, refl, ap, sym, subst, arith, ne_eqb, ◌∙◌, inl, inr, nat_lt, List, Option, if◌then◌else◌}
use Rattle.std.proofs.lemmas.Bool.{lt-ltb, cond_both, eqb-true}
use Rattle.std.proofs.lemmas.Bool.Decides.{nat_tests}
use Rattle.dstm_core.specs.declared.event.Kind.TheVariants.{LookStatus}
use Rattle.dstm_core.specs.declared.shape.Manager.{Manager}
use Rattle.dstm_core.specs.declared.shape.Manager.TheVariants.{Polite, Karma, Polka, Greedy}
use Rattle.dstm_core.specs.declared.state.Phase.{Phase}
use Rattle.dstm_core.specs.declared.state.Phase.TheVariants.{Running, Paused}
use Rattle.dstm_core.specs.declared.status.Status.{Status}
use Rattle.dstm_core.specs.Rules.{after, MayKill}
use Rattle.dstm_core.specs.State.{LocalState, res, or_zero, version_by, is_live}
use Rattle.dstm_core.specs.declared.shape.TheConstants.{MAX_RANK}
use Rattle.dstm_core.proofs.Begun.{IsCode}
use Rattle.dstm_core.proofs.SmallRanks.{are_small}
use Rattle.dstm_machines.specs.Traces.Access.{Load}
use Rattle.dstm_managers.specs.Choices.{choice, is_waiting}
use Rattle.dstm_managers.specs.Meetings.{IsRank, most_rounds}
use Rattle.dstm_managers.specs.declared.decider.Choice.TheVariants as decision
use Rattle.dstm_managers.proofs.MeetingLemmas.{round-left}
use Rattle.dstm_model.specs.declared.value.Val.{Val}
use Rattle.dstm_order.specs.Calls.{quit_cause}
use Rattle.dstm_order.specs.declared.again.Again.{Again}
use Rattle.dstm_order.specs.declared.again.Again.TheVariants.{Waited}
use Rattle.dstm_order.specs.declared.TheConstants.{MAX_MISSED}
use Rattle.dstm_order.specs.Efforts.{Effort, chosen, status_of}
use Rattle.dstm_order.specs.Order.{Due, just, has_ranks, rises}
use Rattle.dstm_order.specs.Tasks.{Task}
use Rattle.dstm_order.proofs.EnemyRanks.{found_is_rank}
use Rattle.dstm_words.specs.Seats.{Home, view_of}
use Rattle.dstm_steps.specs.Conflicts.{Keeps, Meets, lets_go, patience_left, rounds_of}
use Rattle.dstm_steps.specs.declared.steps.Steps.{Steps}
use Rattle.dstm_steps.specs.Under.{Began, InTask, Under, Resolving, IsRunning, made_by, now}
use Rattle.dstm_steps.proofs.Finding.{stays_resolving, stays_self, stays_then}
use Rattle.dstm_steps.proofs.FoundCodes.{code_found}
use Rattle.dstm_steps.proofs.Stepping.{here, under_is}
use Rattle.dstm_core.proofs.Absent.{known_some}

-- while the owner is live no version is known
pub version_live : (word code : ℕ) (old : Option ℕ) → 0 < word → is_live code ≡ true →
    version_by word (Some code) old ≡ None
version_live word code old h l =
    rw (
      ne_eqb word 0 (λ q. omega arith),
      ne_eqb code 4 (λ q. grind (arith, nat_tests)),
      ne_eqb code 5 (λ q. grind (arith, nat_tests)),
    ) refl

module _ {L : Type 0} {task : Task} {holds : L → List Val → Type 0} {home : Home L} {b : Began} {steps : Steps L}
    {d : Due} {a : Option Again} (u : InTask holds home task b steps d a) where
  -- a status that was found has a code of an attempt that has begun
  pub code_in : (n : ℕ) → (res (now home steps)).status ≡ Some n → IsCode n
  code_in n q = code_found home.terms.shape (view_of steps.seat).log u.run.run.core b.number n (rw (← here u) q)

  -- a rank that was found is one that an attempt can have
  pub rank_in : IsRank home.terms.shape.manager (or_zero (res (now home steps)).rank)
  rank_in = rw (here u) (found_is_rank home.terms.shape (view_of steps.seat).log u.run.run.core b.number)

  -- where ranks rise the own one is small
  pub small_rank : rises home.terms.shape.manager ≡ true → steps.rank ≤ MAX_RANK
  small_rank r =
      let small = (are_small home.terms.shape (view_of steps.seat).log (which home.terms.shape.manager r)
      u.run.run.core).own b.number in
      rw (u.mirror.rank, ap (λ (l : LocalState). l.rank) (here u)) small
    where
      which : (m : Manager) → rises m ≡ true → (m ≡ Karma) ⊎ (m ≡ Polka)
      which Karma r = inl refl
      which Polka r = inr refl
      which Polite r = absurd (cc)
      which Greedy r = absurd (cc)

-- an enemy that is still given way to is live
pub still_live : (code : ℕ) → lets_go code ≡ false → is_live code ≡ true
still_live code h = go (is_live code) refl h
  where
    go : (b : Bool) → is_live code ≡ b → (not b || code == 2) ≡ false → is_live code ≡ true
    go true x y = x
    go false x y = absurd (cc)

-- the rounds, by those with the one whose turns are left
pub rounds_split : (left round n : ℕ) → (if left == 0 then round else round + 1) ≡ n → n ≤ 1024 →
    (round ≤ 1024) × (0 < left → round < 1024)
rounds_split left round n q h = go (left == 0) refl q
  where
    go : (b : Bool) → (left == 0) ≡ b → (if b then round else round + 1) ≡ n →
        (round ≤ 1024) × (0 < left → round < 1024)
    go true x q = (omega arith, (λ p. let y = ne_eqb left 0 (λ z. omega arith) in absurd (cc)))
    go false x q = (omega arith, (λ p. omega arith))

module _ {L : Type 0} {holds : L → List Val → Type 0} {home : Home L} {b : Began} {steps : Steps L} {owner code : ℕ}
    (met : Meets holds home b Running steps owner code) where
  -- while turns are left the status is looked at
  pub turn_due : is_live code ≡ true → 0 < steps.left → Under holds home b steps (just LookStatus) None
  turn_due live left = under_is met.under (rw (
    met.in_phase,
    met.owner_is,
    met.status,
    version_live (res (now home steps)).word code (res (now home steps)).old met.word live,
    live,
    met.rank,
    lt-ltb 0 steps.left left,
  ) refl) refl

  pub is_running : IsRunning (now home steps)
  is_running = record { phase = met.in_phase; agreed = met.agreed; uncommitted = met.uncommitted }

-- an attempt that gives way looks at the status while turns are left
pub look_aside : {L : Type 0} {holds : L → List Val → Type 0} {home : Home L} {b : Began} {steps : Steps L}
    {owner code : ℕ} → Meets holds home b Paused steps owner code → lets_go code ≡ false → 0 < steps.left →
    Under holds home b steps (just LookStatus) None
look_aside {steps = steps} met waits left =
    under_is met.under (rw (met.in_phase, met.status, waits, ne_eqb steps.left 0 (λ q. omega arith)) refl) refl

module _ {L : Type 0} {holds : L → List Val → Type 0} {home : Home L} {b : Began} {p : Phase} {old new : Steps L}
    {owner code : ℕ} (met : Meets holds home b p old owner code) (under : Resolving holds home b new) where
  -- after a look at the owner's status
  looked_again : {n : ℕ} →
      now home new ≡ after LookStatus home.terms.shape (now home old) (made_by b Load LookStatus 0 n) →
      new.round ≤ 1024 → (p ≡ Running → 0 < new.left → new.round < 1024) → new.missed < MAX_MISSED →
      Meets holds home b p new owner n
  looked_again {n = n} state rounds waiting tries =
      let status : (res (now home new)).status ≡ Some n = ap (λ l. (res l).status) state in record {
        under = under;
        in_phase = ap (λ (l : LocalState). l.phase) state ∙ met.in_phase;
        agreed = ap (λ (l : LocalState). l.stale) state ∙ met.agreed;
        uncommitted = ap (λ (l : LocalState). l.committed) state ∙ met.uncommitted;
        word = rw state met.word;
        owner_is = ap (λ l. (res l).owner) state ∙ met.owner_is;
        status = status;
        rank = rw state met.rank;
        old = ap (λ l. (res l).old) state ∙ met.old;
        high = ap (λ l. (res l).high) state ∙ met.high;
        value = ap (λ l. (res l).value) state ∙ met.value;
        named = code_in under n status;
        rounds = rounds;
        waiting = waiting;
        tries = tries;
      }

  -- as the first turn of a wait is taken
  pub began_wait : {n : ℕ} →
      now home new ≡ after LookStatus home.terms.shape (now home old) (made_by b Load LookStatus 0 n) →
      rounds_of new ≡ old.round + 1 → old.round < 1024 → new.missed ≡ old.missed → Meets holds home b p new owner n
  began_wait state rounds room missed =
      let split = rounds_split new.left new.round (old.round + 1) rounds (omega arith) in
      looked_again state split.0 (λ _ h. split.1 h) (let tries = met.tries in omega arith)

  -- after a turn of a wait
  pub turned : {n : ℕ} → p ≡ Running → 0 < old.left →
      now home new ≡ after LookStatus home.terms.shape (now home old) (made_by b Load LookStatus 0 n) →
      rounds_of new ≡ rounds_of old → new.missed ≡ old.missed → Meets holds home b p new owner n
  turned running left state rounds missed =
      began_wait state (rounds ∙ rw (ne_eqb old.left 0 (λ q. omega arith)) refl) (met.waiting running left) missed

  -- after a turn of an attempt that gives way
  pub turned_aside : {n : ℕ} → p ≡ Paused →
      now home new ≡ after LookStatus home.terms.shape (now home old) (made_by b Load LookStatus 0 n) →
      new.round ≡ old.round → new.missed ≡ old.missed → Meets holds home b p new owner n
  turned_aside paused state round missed =
      looked_again state (let before = met.rounds in omega arith) (λ q _. absurd (cc))
      (let tries = met.tries in omega arith)

  -- after a Kill, which tells the status as a look does
  pub killed_as : {put : ℕ} → now home new ≡ record (now home old) {
    resolution = Some (record (res (now home old)) { status = Some put });
    pass = None;
    checked = 0;
  } → old.left ≡ 0 → new.left ≡ old.left → new.round ≡ old.round → new.missed < MAX_MISSED →
      Meets holds home b p new owner put
  killed_as state none left round tries =
      looked_again state (let before = met.rounds in omega arith) (λ _ h. omega arith) tries

  -- as an attempt begins or ends to give way
  pub in_other_phase : {q : Phase} → now home new ≡ record (now home old) { phase = q; pass = None; checked = 0 } →
      new.round ≡ old.round → (q ≡ Running → new.left ≡ 0) → new.missed < MAX_MISSED →
      Meets holds home b q new owner code
  in_other_phase state round left tries = record {
    under = under;
    in_phase = ap (λ (l : LocalState). l.phase) state;
    agreed = ap (λ (l : LocalState). l.stale) state ∙ met.agreed;
    uncommitted = ap (λ (l : LocalState). l.committed) state ∙ met.uncommitted;
    word = rw state met.word;
    owner_is = ap (λ l. (res l).owner) state ∙ met.owner_is;
    status = ap (λ l. (res l).status) state ∙ met.status;
    rank = rw state met.rank;
    old = ap (λ l. (res l).old) state ∙ met.old;
    high = ap (λ l. (res l).high) state ∙ met.high;
    value = ap (λ l. (res l).value) state ∙ met.value;
    named = met.named;
    rounds = let before = met.rounds in omega arith;
    waiting = λ x h. let y = left x in omega arith;
    tries = tries;
  }

-- ---- what a conflict keeps

pub keeps_self : {l : LocalState} → Keeps l l
keeps_self = record { stays = stays_self; rank = refl }

pub keeps_then : {a b c : LocalState} → Keeps a b → Keeps b c → Keeps a c
keeps_then p q = record { stays = stays_then p.stays q.stays; rank = q.rank ∙ p.rank }

-- a look at the status keeps it, and so does a Kill
pub keeps_status : {old new : LocalState} {put : ℕ} → new ≡ record old {
  resolution = Some (record (res old) { status = Some put });
  pass = None;
  checked = 0;
} → Keeps old new
keeps_status {old = old} {put = put} q = record {
  stays = stays_resolving (record (res old) { status = Some put }) q refl refl;
  rank = ap (λ l. (res l).rank) q;
}

-- and giving way, from its Pause to its Resume
pub keeps_aside : {a b c d : LocalState} → a.phase ≡ Running →
    b ≡ record a { phase = Paused; pass = None; checked = 0 } →
    Keeps b c → d ≡ record c { phase = Running; pass = None; checked = 0 } → Keeps a d
keeps_aside {a = a} {c = c} {d = d} run p k q = record {
  stays = record {
    attempt = whole ∙ parts;
    object = ap (λ l. (res l).object) q ∙ k.stays.object ∙ ap (λ l. (res l).object) p;
    word = ap (λ l. (res l).word) q ∙ k.stays.word ∙ ap (λ l. (res l).word) p;
  };
  rank = ap (λ l. (res l).rank) q ∙ k.rank ∙ ap (λ l. (res l).rank) p;
}
  where
    -- the whole, by the phase that it began in
    whole : d ≡ record a { phase = Running; resolution = c.resolution; pass = None; checked = 0 }
    whole = rw (q, k.stays.attempt, p) refl

    parts : record a { phase = Running; resolution = c.resolution; pass = None; checked = 0 }
        ≡ record a { resolution = d.resolution; pass = d.pass; checked = d.checked }
    parts = rw (
      ap (λ (l : LocalState). l.resolution) whole,
      ap (λ (l : LocalState). l.pass) whole,
      ap (λ (l : LocalState). l.checked) whole,
    )
        (ap (λ x. record a { phase = x; resolution = c.resolution; pass = None; checked = 0 }) (sym run))

-- ---- what the manager's choice tells

-- a code of a status that waits
waiting_code : (n : ℕ) → is_waiting (status_of n) ≡ true → n ≡ 2
waiting_code n h =
    cond_both (n == 1) _ _ Goal (λ _ p. absurd (cc)) (λ _.
    cond_both (n == 2) _ _ Goal (λ x _. eqb-true n 2 x) (λ _.
    cond_both (n == 3) _ _ Goal (λ _ p. absurd (cc)) (λ _.
    cond_both (n == 4) _ _ Goal (λ _ p. absurd (cc)) (λ _.
    cond_both (n == 5) _ _ Goal (λ _ p. absurd (cc)) (λ _ p. absurd (cc)))))) h
  where
    Goal : Status → Type 0
    Goal s = is_waiting s ≡ true → n ≡ 2

-- under Greedy the rank is known
pub greedy_rank : (m : Manager) (o : Option ℕ) → m ≡ Greedy → (has_ranks m && is_none o) ≡ false → is_some o ≡ true
greedy_rank m o q h = known_some o (subst (λ m. (has_ranks m && is_none o) ≡ false) q h)

-- an enemy that is aborted may be
pub may_kill : (m : Manager) (l : LocalState) (c : Effort) → (has_ranks m && is_none (res l).rank) ≡ false →
    chosen m l c ≡ decision.Kill → MayKill m l (res l)
may_kill Polite l c rank q = tt
may_kill Karma l c rank q = tt
may_kill Polka l c rank q = tt
may_kill Greedy l c rank q = (
  known_some (res l).rank rank,
  go (nat_lt l.rank (or_zero (res l).rank)) refl (is_waiting (status_of (or_zero (res l).status))) refl q,
)
  where
    go : (b : Bool) → nat_lt l.rank (or_zero (res l).rank) ≡ b → (w : Bool) →
        is_waiting (status_of (or_zero (res l).status)) ≡ w →
        (if b || w then decision.Kill else decision.GiveWay) ≡ decision.Kill →
        (l.rank < or_zero (res l).rank) ⊎ (or_zero (res l).status ≡ 2)
    go true x w y p = inl (grind (arith, nat_tests))
    go false x true y p = inr (waiting_code (or_zero (res l).status) y)
    go false x false y p = absurd (cc)

-- only Greedy gives way, to an elder that does not wait
pub record GivesWay (m : Manager) (l : LocalState) : Type 0 where
  pub manager : m ≡ Greedy
  pub elder : or_zero (res l).rank ≤ l.rank
  pub awake : or_zero (res l).status ≢ 2

never_gives : (b : Bool) (turns : ℕ) → (if b then decision.Kill else decision.Wait turns) ≡ decision.GiveWay → ⊥
never_gives true turns p = absurd (cc)
never_gives false turns p = absurd (cc)

pub gives_way : (m : Manager) (l : LocalState) (c : Effort) → chosen m l c ≡ decision.GiveWay → GivesWay m l
gives_way Polite l c q = absurd (never_gives _ _ q)
gives_way Karma l c q = absurd (never_gives _ _ q)
gives_way Polka l c q = absurd (never_gives _ _ q)
gives_way Greedy l c q =
    go (nat_lt l.rank (or_zero (res l).rank)) refl (is_waiting (status_of (or_zero (res l).status))) refl q
  where
    go : (b : Bool) → nat_lt l.rank (or_zero (res l).rank) ≡ b → (w : Bool) →
        is_waiting (status_of (or_zero (res l).status)) ≡ w →
        (if b || w then decision.Kill else decision.GiveWay) ≡ decision.GiveWay → GivesWay Greedy l
    go true x w y p = absurd (cc)
    go false x true y p = absurd (cc)
    go false x false y p = record {
      manager = refl;
      elder = grind (arith, nat_tests);
      awake = λ z. let waits : is_waiting (status_of (or_zero (res l).status)) ≡ true = rw z refl in absurd (cc);
    }

-- a wait is not after the last round
pub round_in : (m : Manager) (own enemy round word turns : ℕ) (status : Status) → IsRank m enemy →
    choice m own enemy status round word ≡ decision.Wait turns → round < 1024
round_in m own enemy round word turns status rank waits =
    let left = round-left m own enemy round word turns status rank waits in
    let most = most_of m in omega arith
  where
    most_of : (m : Manager) → most_rounds m ≤ 1024
    most_of Polite = omega arith
    most_of Karma = omega arith
    most_of Polka = omega arith
    most_of Greedy = omega arith

-- a wait has a turn at least
some_turns : (b : Bool) (n turns : ℕ) → (if b then decision.Kill else decision.Wait (1 + n)) ≡ decision.Wait turns →
    1 ≤ turns
some_turns true n turns q = absurd (cc)
some_turns false n turns q = let x : 1 + n ≡ turns = cc in omega arith

pub waits_some : (m : Manager) (own enemy round word turns : ℕ) (status : Status) →
    choice m own enemy status round word ≡ decision.Wait turns → 1 ≤ turns
waits_some Polite own enemy round word turns status q = some_turns _ _ turns q
waits_some Karma own enemy round word turns status q = some_turns _ 3 turns q
waits_some Polka own enemy round word turns status q = some_turns _ _ turns q
waits_some Greedy own enemy round word turns status q =
    absurd (never_waits (nat_lt own enemy || is_waiting status) turns q)
  where
    never_waits : (b : Bool) (turns : ℕ) → (if b then decision.Kill else decision.GiveWay) ≡ decision.Wait turns → ⊥
    never_waits true turns q = absurd (cc)
    never_waits false turns q = absurd (cc)

-- an attempt that gives up, and has found no read stale, has waited
pub quit_waited : (l : LocalState) (c : Effort) → l.stale ≡ false → c.missed < MAX_MISSED → quit_cause l c ≡ Waited
quit_waited l c agreed tries = rw (agreed, ne_eqb c.missed MAX_MISSED (λ q. omega arith)) refl

-- ---- how long a conflict can go on

-- what the last status adds
last_part : (code : ℕ) → (1 ≤ (if code == 2 then 1 else 2)) × ((if code == 2 then 1 else 2) ≤ 2)
last_part code =
    cond_both (code == 2) 1 2 (λ n. (1 ≤ n) × (n ≤ 2)) (λ _. (omega arith, omega arith))
    (λ _. (omega arith, omega arith))

pub less_over : (missed round code n r new : ℕ) → is_live code ≡ true → is_live new ≡ false →
    patience_left n r new < patience_left missed round code
less_over missed round code n r new live over = let a = last_part code in rw (live, over) (omega (arith, a.0))

pub less_round : (missed round code new : ℕ) → round < 1024 → is_live code ≡ true →
    patience_left missed (round + 1) new < patience_left missed round code
less_round missed round code new h live =
    let a = last_part code in
    let b = last_part new in
    rw live (cond_both (is_live new) _ 0
    (λ n. n < 4 * (64 - missed) + 2 * (1024 - round) + (if code == 2 then 1 else 2))
    (λ _. omega (arith, a.0, b.1, h)) (λ _. omega (arith, a.0)))

pub less_waiting : (missed round code new : ℕ) → is_live code ≡ true → code ≢ 2 → lets_go new ≡ true →
    patience_left missed round new < patience_left missed round code
less_waiting missed round code new live awake gone = rw (live, ne_eqb code 2 awake) (go (is_live new) refl gone)
  where
    go : (b : Bool) → is_live new ≡ b → (not b || new == 2) ≡ true →
        (if b then 4 * (64 - missed) + 2 * (1024 - round) + (if new == 2 then 1 else 2) else 0)
        < 4 * (64 - missed) + 2 * (1024 - round) + 2
    go true x y = rw y (omega arith)
    go false x y = omega arith

-- after a wait
pub less_waited : (missed round code n left r new : ℕ) → n ≡ missed → (is_live new ≡ true → left ≡ 0) →
    (if left == 0 then r else r + 1) ≡ round + 1 → round < 1024 → is_live code ≡ true →
    patience_left n r new < patience_left missed round code
less_waited missed round code n left r new same over rounds room live = go (is_live new) refl
  where
    go : (b : Bool) → is_live new ≡ b → patience_left n r new < patience_left missed round code
    go true x =
        let none : left ≡ 0 = over x in
        let next : r ≡ round + 1 = sym (rw none refl) ∙ rounds in
        rw (same, next) (less_round missed round code new room live)
    go false x = less_over missed round code n r new live x
