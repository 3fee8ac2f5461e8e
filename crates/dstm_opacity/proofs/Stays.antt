-- What a caller has committed stays, and is told by its own events alone.
use Rattle.std.proofs.Common.{◌&&◌, ◌++◌, ◌==◌, ◌∙◌, ◌∷◌, ◌≡◌, ◌⊎◌, List, [], ap, false, inl, inr, map, refl, reverse, subst, sym, true, ℕ}
use Rattle.dstm_core.proofs.Base.{Core, Event, IsPastOf, Val, and_left, and_parts, and_right, cases_Bool, commits_at, entry_at, entry_of, eqb-true, events_of, history_of, is_draw, local, or_zero, will_of}
use Rattle.dstm_opacity.proofs.Base.{Commit, Draw, Kind, Shape}
use Rattle.std.proofs.lemmas.List.Elements.{All-nil}
use Rattle.std.specs.List.{All}
use Rattle.dstm_machines.proofs.Callers as histories
use Rattle.dstm_machines.proofs.Gathered.{told_none}
use Rattle.dstm_opacity.proofs.Commits.{DrawOf, draw_of}
use Rattle.dstm_opacity.proofs.Draws.{commit_may}
use Rattle.dstm_opacity.proofs.Kept.{drawn_entry_stays}
use Rattle.dstm_opacity.proofs.KeptLaw.{entry_same}
use Rattle.dstm_core.proofs.Pasts.{core_before}
use Rattle.dstm_machines.proofs.Own.{own_later}
use Rattle.dstm_machines.proofs.Pasts.{past_past, past_self}
use Rattle.dstm_opacity.specs.Committed.{Committed, attempt_of, commits_by, committed_in, done_by, has_committed, is_commit}

-- the entries are the history
pub entries_are_history : (s : Shape) (start : List Val) (run : List Event) →
    history_of s start run ≡ reverse (map (λ (x : Committed). x.entry) (committed_in s start run))
entries_are_history s start run =
    histories.entries_are_history (commits_at s (will_of s run)) (entry_at s start run) run

is_kind : (k : Kind) → is_commit k ≡ true → k ≡ Commit
is_kind Commit h = refl
is_kind k h = absurd (cc)

draws : (k : Kind) → is_draw k ≡ true → k ≡ Draw
draws Draw h = refl
draws k h = absurd (cc)

-- the entry of an attempt that commits is that of its Draw, in each run
entry_stays : {s : Shape} (start : List Val) (run : List Event) {es : List Event} (e : Event) → IsPastOf (e ∷ es) run →
    Core s run → (d : DrawOf s es (local s es e.caller)) →
    entry_of s start run (local s es e.caller) ≡ entry_of s start (d.draw ∷ d.before) (local s d.before d.draw.caller)
entry_stays {s = s} start run {es = es} e p core d =
    sym (entry_same s start run (local s es e.caller) (local s d.before d.draw.caller) d.reads d.writes)
    ∙ subst (λ xs. entry_of s start xs (local s d.before d.draw.caller)
    ≡ entry_of s start (d.draw ∷ d.before) (local s d.before d.draw.caller)) here.whole
    (drawn_entry_stays s start here.later d.before d.draw (subst (Core s) (sym here.whole) core)
    (draws d.draw.kind d.kind))
  where
    here : IsPastOf (d.draw ∷ d.before) run
    here = past_past (d.draw ∷ d.before) es run d.past
        (past_past es (e ∷ es) run (record { later = e ∷ []; whole = refl }) p)

-- two runs that go on from the same events tell the same of them
pub same_told : (s : Shape) (start : List Val) (run one es : List Event) → Core s run → Core s one → IsPastOf es run →
    IsPastOf es one → (c : ℕ) → done_by s start run es c ≡ done_by s start one es c
same_told s start run one [] core other p q c = refl
same_told s start run one (e ∷ es) core other p q c =
    go (same_told s start run one es core other (past_past es (e ∷ es) run (record { later = e ∷ []; whole = refl }) p)
    (past_past es (e ∷ es) one (record { later = e ∷ []; whole = refl }) q) c)
    (cases_Bool ((e.caller == c) && has_committed e))
  where
    entry : e.caller ≡ c → is_commit e.kind ≡ true →
        attempt_of s start run c (local s es c) ≡ attempt_of s start one c (local s es c)
    entry h k =
        let here : Core s (e ∷ es) = core_before s (e ∷ es) run p core in
        let d = draw_of s es here.0 e.caller (commit_may s (local s es e.caller) e (is_kind e.kind k) here.1.allowed) in
        subst (λ n. attempt_of s start run n (local s es n) ≡ attempt_of s start one n (local s es n)) h
        (ap (λ x. record { caller = e.caller; number = or_zero (local s es e.caller).drawn; entry = x })
        (entry_stays start run e p core d ∙ sym (entry_stays start one e q other d)))

    go : done_by s start run es c ≡ done_by s start one es c →
        ((e.caller == c) && has_committed e ≡ true) ⊎ ((e.caller == c) && has_committed e ≡ false) →
        done_by s start run (e ∷ es) c ≡ done_by s start one (e ∷ es) c
    go before (inr h) = rw h before
    go before (inl h) =
        let two = and_parts (e.caller == c) (has_committed e) h in
        let three = and_parts (is_commit e.kind) (e.found == 3) two.1 in
        rw (h, before, entry (eqb-true e.caller c two.0) three.0) refl

-- no event of these is a Commit that succeeded
abbrev pub NoneCommits : List Event → Type 0
NoneCommits events = All (λ (e : Event). has_committed e ≡ false) events

-- such events add nothing to what their caller has committed
none_told : (s : Shape) (start : List Val) (run more es : List Event) (c : ℕ) → NoneCommits (events_of c more) →
    done_by s start run (more ++ es) c ≡ done_by s start run es c
none_told s start run more es c none =
    told_none (commits_by c) (λ e before. attempt_of s start run c (local s before c)) (λ es. Unit {0})
    (λ e es is. tt) (λ e. has_committed e ≡ false) c (λ e es other. and_left (e.caller == c) (has_committed e) other)
    (λ e es is other. and_right (e.caller == c) (has_committed e) other) more es tt none

-- a call that makes no Commit that succeeds adds nothing to what its caller has committed
pub call_adds_none : (s : Shape) (start : List Val) (later before : List Event) (c : ℕ) (events : List Event) →
    Core s (later ++ before) → events_of c (later ++ before) ≡ events ++ events_of c before → NoneCommits events →
    done_by s start (later ++ before) (later ++ before) c ≡ done_by s start before before c
call_adds_none s start later before c events core own none =
    none_told s start (later ++ before) later before c
    (subst NoneCommits (sym (own_later c before (later ++ before) events past own)) none)
    ∙ same_told s start (later ++ before) before before core (core_before s before (later ++ before) past core) past
    (past_self before) c
  where
    past : IsPastOf before (later ++ before)
    past = record { later = later; whole = refl }

-- nor do events of others
pub told_stays : (s : Shape) (start : List Val) (later before : List Event) (c : ℕ) → Core s (later ++ before) →
    events_of c (later ++ before) ≡ events_of c before →
    done_by s start (later ++ before) (later ++ before) c ≡ done_by s start before before c
told_stays s start later before c core same =
    call_adds_none s start later before c [] core same (All-nil (λ (e : Event). has_committed e ≡ false))
