-- The state in which an attempt begins.
use Rattle.std.proofs.Common.{◌*◌, ◌+◌, ◌<◌, ◌≤◌, ◌≡◌, Bool, arith, false, is_some, refl, true, ℕ, None, ◌^◌, not, ◌||◌, ◌&&◌, inl, inr, ◌⊎◌, List, [], ◌∷◌, ◌∙◌}
use Rattle.std.specs.Prelude.{Option, if◌then◌else◌, nat_lt}
use Rattle.dstm_steps.specs.Beginning.{CanBegin, KeepsRank}
use Rattle.dstm_core.proofs.Columns.{in_table}
use Rattle.dstm_opacity.proofs.Stays.{NoneCommits}
use Rattle.std.proofs.lemmas.List.Elements.{All-cons, All-nil}
use Rattle.dstm_engine.proofs.Base.{Begin, Beginning, Done, Effort, Event, IsDue, IsValid, Kind, Lcg, LocalState, Manager, Obeys, Outside, Phase, Quit, Rank, Running, Shape, Stamp, Step, effort_after, effort_of, has_begun, has_committed, has_ranks, has_stamps, in_beginning, is_outside, is_spent, just, newest_of, next_attempt, no_effort, rises, state_after}
use Rattle.dstm_engine.specs.Beginnings.{ended}
use Rattle.dstm_engine.specs.Mirror.{phase_by}

-- the last attempt has ended, and nothing else has changed
pub record Ended (old new : LocalState) : Type 0 where
  pub outside : new.phase ≡ Outside
  pub number : new.number ≡ old.number
  pub begun : new.begun ≡ old.begun
  pub installed : new.installed ≡ old.installed
  pub stamped : new.stamped ≡ old.stamped
  pub ranked : new.ranked ≡ old.ranked
  pub stands : new.stands ≡ old.stands
  pub committed : new.committed ≡ old.committed

ends_in : (l : LocalState) (phase : Phase) → phase ≡ Outside → Ended l (record l { phase = phase })
ends_in l phase out = record {
  outside = out;
  number = refl;
  begun = refl;
  installed = refl;
  stamped = refl;
  ranked = refl;
  stands = refl;
  committed = refl;
}

pub ended_is : (live : Bool) (l : LocalState) → l.phase ≡ phase_by live → Ended l (ended live l)
ended_is true l phase = ends_in l Outside refl
ended_is false l phase = ends_in l l.phase phase

-- a caller that is spent is asked for nothing more
pub spent_due : (s : Shape) (fresh : Bool) (l : LocalState) → l.phase ≡ Outside → is_spent s l ≡ true →
    in_beginning s fresh None l ≡ Done
spent_due s fresh l out spent = rw (out, spent) refl

unspent_unused : (s : Shape) (l : LocalState) → is_spent s l ≡ false → l.begun < s.attempts
unspent_unused s l h = by (nat_lt l.begun s.attempts) (nat_lt s.locators (l.installed + s.objects)) h refl
  where
    by : (a b : Bool) → not a || b ≡ false → nat_lt l.begun s.attempts ≡ a → l.begun < s.attempts
    by true b q is = grind arith
    by false b q is = absurd (cc)

pub can_begin : (s : Shape) {old new : LocalState} (next : ℕ) → Ended old new → is_some old.number ≡ true →
    is_spent s old ≡ false → next_attempt s old ≡ next → CanBegin s new next
can_begin s {old = old} next e number unspent next_is = record {
  outside = e.outside;
  number = rw e.number number;
  unspent = rw (e.begun, e.installed) unspent;
  unused = rw e.begun (unspent_unused s old unspent);
  next_is = rw (e.number, e.begun) next_is;
}

pub keeps_rank : {s : Shape} {fresh : Bool} {old new : LocalState} → Ended old new → KeepsRank s fresh old →
    KeepsRank s fresh new
keeps_rank e k = record {
  uncommitted = λ h. rw e.committed (k.uncommitted h);
  stands_now = λ greedy h. rw e.stands (k.stands_now greedy (rw e.stamped at h));
}

-- the attempts of a caller have small numbers
pub next_small : {s : Shape} (n b : ℕ) → IsValid s → n < s.callers → b ≤ s.attempts → n * s.attempts + b < 2 ^ 32
next_small {s = s} n b valid few begun =
    let some = valid.some_attempt in let w = valid.words in let a = valid.attempts in
    let x : n * s.attempts + 0 < s.callers * s.attempts = in_table n s.attempts 0 s.callers few (omega arith) in
    omega arith

-- ---- the events of a call that begins an attempt

-- kinds that change nothing of what is committed, and of what a call has behind it
abbrev pub IsQuiet : Event → Type 0
IsQuiet event =
    (has_committed event ≡ false)
    × ((manager : Manager) (state : LocalState) (effort : Effort) →
    effort_after event.kind manager state effort event ≡ effort)

quiet_kind : (e : Event) {k : Kind} → e.kind ≡ k → (k ≡ Quit) ⊎ ((k ≡ Stamp) ⊎ ((k ≡ Rank) ⊎ (k ≡ Begin))) → IsQuiet e
quiet_kind e is (inl q) = rw (is, q) (refl, (λ m l f. refl))
quiet_kind e is (inr (inl q)) = rw (is, q) (refl, (λ m l f. refl))
quiet_kind e is (inr (inr (inl q))) = rw (is, q) (refl, (λ m l f. refl))
quiet_kind e is (inr (inr (inr q))) = rw (is, q) (refl, (λ m l f. refl))

due_quiet : (a b c d f : Bool) (rank : ℕ) (e : Event) →
    IsDue (if a then Done else if b then just Quit else if c then Done else if d then just Stamp
    else if f then Step Rank rank else just Begin) e → IsQuiet e
due_quiet true b c d f rank e h = absurd h
due_quiet false true c d f rank e h = quiet_kind e h.0 (inl refl)
due_quiet false false true d f rank e h = absurd h
due_quiet false false false true f rank e h = quiet_kind e h.0 (inr (inl refl))
due_quiet false false false false true rank e h = quiet_kind e h.0 (inr (inr (inl refl)))
due_quiet false false false false false rank e h = quiet_kind e h.0 (inr (inr (inr refl)))

due_is_quiet : (s : Shape) (fresh : Bool) (o : Option Event) (l : LocalState) (e : Event) →
    IsDue (in_beginning s fresh o l) e → IsQuiet e
due_is_quiet s fresh o l e =
    due_quiet (has_begun o) (not (is_outside l.phase)) (is_spent s l)
    (has_stamps s.manager && fresh && not l.stamped) (has_ranks s.manager && not l.ranked)
    (if rises s.manager && fresh then 0 else l.rank) e

-- a call that begins an attempt commits nothing
pub beginning_none : (s : Shape) (fresh : Bool) (l : LocalState) (gen : Lcg) (es : List Event) →
    Obeys (Beginning fresh) s l gen es → NoneCommits es
beginning_none s fresh l gen [] h = All-nil (λ (e : Event). has_committed e ≡ false)
beginning_none s fresh l gen (e ∷ es) h =
    All-cons (λ (e : Event). has_committed e ≡ false) e es
    (due_is_quiet s fresh (newest_of es) (state_after s l es) e h.1).0 (beginning_none s fresh l gen es h.0)

-- and leaves the generator as it is
pub beginning_still : (s : Shape) (fresh : Bool) (l : LocalState) (gen : Lcg) (es : List Event) →
    Obeys (Beginning fresh) s l gen es → effort_of s l gen es ≡ no_effort gen
beginning_still s fresh l gen [] h = refl
beginning_still s fresh l gen (e ∷ es) h =
    (due_is_quiet s fresh (newest_of es) (state_after s l es) e h.1).1 s.manager (state_after s l es) (effort_of s l gen es)
    ∙ beginning_still s fresh l gen es h.0

-- a call that ends in an attempt that runs ends with its Begin
pub ends_with_begin : (s : Shape) (fresh : Bool) (o : Option Event) (l : LocalState) → l.phase ≡ Running →
    in_beginning s fresh o l ≡ Done → has_begun o ≡ true
ends_with_begin s fresh o l run done = by (has_begun o) refl
  where
    by : (b : Bool) → has_begun o ≡ b → has_begun o ≡ true
    by true q = q
    by false q = let d : just Quit ≡ Done = rw (q, run) at done in absurd (cc)
