-- A caller's own events in a run of several callers.
use Rattle.std.proofs.Common.{◌++◌, ◌+◌, ◌∙◌, ◌∷◌, ◌≡◌, ◌≢◌, ◌⊎◌, List, [], ap, inl, inr, refl, subst, sym, ℕ}
use Rattle.dstm_core.proofs.Base.{AllowedAs, Core, Event, LocalState, after, cases_eq, core, events_of, local}
use Rattle.dstm_machines.proofs.Own as runs
use Rattle.dstm_core.proofs.Statuses.{begin_may}
use Rattle.dstm_order.proofs.Base.{Begin, Doing, Lcg, Obeys, Shape, Work, effort_of, newest_of, state_after}
use Rattle.dstm_progress.specs.Alone.{AreCalls, Made, all_events, generator_after}
use Rattle.dstm_progress.proofs.Calls.{nothing_due}
use Rattle.dstm_core.proofs.Begun.{begun_how}

-- ---- the own events of a caller

-- each event was allowed after those before it
abbrev pub AreAllowed : Shape → LocalState → List Event → Type 0
AreAllowed s l [] = Unit {0}
AreAllowed s l (e ∷ es) = AreAllowed s l es × AllowedAs e.kind s (state_after s l es) e

-- the state of a caller is that after its own events
pub own_state : (s : Shape) (c : ℕ) (later es : List Event) →
    local s (later ++ es) c ≡ state_after s (local s es c) (events_of c later)
own_state s = runs.own_state core s

pub state_both : (s : Shape) (l : LocalState) (xs ys : List Event) →
    state_after s l (xs ++ ys) ≡ state_after s (state_after s l ys) xs
state_both s = runs.state_both core s

-- and each of them was allowed
pub own_allowed : (s : Shape) (c : ℕ) (later es : List Event) → Core s (later ++ es) →
    AreAllowed s (local s es c) (events_of c later)
own_allowed s c [] es core = tt
own_allowed s c (e ∷ later) es core = elim (cases_eq e.caller c) [
  | inl q ↦
      subst (λ c. AreAllowed s (local s es c) (events_of c later) →
      AreAllowed s (local s es c) (events_of c (e ∷ later))) q own (own_allowed s c later es core.0)
  | inr n ↦ subst (AreAllowed s (local s es c)) (sym (runs.others_event c e later n)) (own_allowed s c later es core.0)
]
  where
    own : AreAllowed s (local s es e.caller) (events_of e.caller later) →
        AreAllowed s (local s es e.caller) (events_of e.caller (e ∷ later))
    own ih = subst (AreAllowed s (local s es e.caller)) (sym (runs.own_event e later))
        (ih, subst (λ l. AllowedAs e.kind s l e) (own_state s e.caller later es) core.1.allowed)

pub allowed_split : (s : Shape) (l : LocalState) (xs ys : List Event) → AreAllowed s l (xs ++ ys) →
    AreAllowed s (state_after s l ys) xs × AreAllowed s l ys
allowed_split s l [] ys h = (tt, h)
allowed_split s l (x ∷ xs) ys h = let r = allowed_split s l xs ys h.0 in
    ((r.0, subst (λ m. AllowedAs x.kind s m x) (state_both s l xs ys) h.1), r.1)

-- the newest own event of a run, and what stands before it
pub record IsNewest (c : ℕ) (log : List Event) (e : Event) (others : List Event) : Type 0 where
  pub later : List Event
  pub before : List Event
  pub run : log ≡ later ++ e ∷ before
  pub rest : events_of c before ≡ others
  pub own : e.caller ≡ c

pub newest_own : (c : ℕ) (run : List Event) (e : Event) (rest : List Event) → events_of c run ≡ e ∷ rest →
    IsNewest c run e rest
newest_own c [] e rest h = absurd (cc)
newest_own c (x ∷ run) e rest h = go (cases_eq x.caller c) (newest_own c run e rest)
  where
    other : IsNewest c run e rest → IsNewest c (x ∷ run) e rest
    other n = record {
      later = x ∷ n.later;
      before = n.before;
      run = ap (λ xs. x ∷ xs) n.run;
      rest = n.rest;
      own = n.own;
    }

    own : x.caller ≡ c → x ∷ events_of c run ≡ e ∷ rest → IsNewest c (x ∷ run) e rest
    own q k = let same : x ≡ e = cc in let more : events_of c run ≡ rest = cc in record {
      later = [];
      before = run;
      run = ap (λ y. y ∷ run) same;
      rest = more;
      own = ap (λ (y : Event). y.caller) (sym same) ∙ q;
    }

    go : (x.caller ≡ c) ⊎ (x.caller ≡ c → ⊥) → (events_of c run ≡ e ∷ rest → IsNewest c run e rest) →
        IsNewest c (x ∷ run) e rest
    go (inl q) ih = own q (sym (ap (λ c. x ∷ events_of c run) q) ∙ sym (runs.own_event x run)
        ∙ ap (λ c. events_of c (x ∷ run)) q ∙ h)
    go (inr n) ih = other (ih (sym (runs.others_event c x run n) ∙ h))

-- no call begins an attempt
pub call_begun : (s : Shape) (w : Work) (l : LocalState) (g : Lcg) (events : List Event) →
    AreAllowed s l events → Obeys (Doing w) s l g events → (state_after s l events).begun ≡ l.begun
call_begun s w l g [] a o = refl
call_begun s w l g (e ∷ events) a o =
    go (begun_how s (state_after s l events) e e.kind) ∙ call_begun s w l g events a.0 o.0
  where
    go : ((e.kind ≡ Begin) × ((after e.kind s (state_after s l events) e).begun ≡
        (state_after s l events).begun + 1))
        ⊎ ((e.kind ≢ Begin) × ((after e.kind s (state_after s l events) e).begun ≡ (state_after s l events).begun)) →
        (after e.kind s (state_after s l events) e).begun ≡ (state_after s l events).begun
    go (inl x) = absurd (nothing_due w s (newest_of events) (state_after s l events) (effort_of s l g events) e
        (begin_may s (state_after s l events) e x.0 a.1).0 o.1)
    go (inr x) = x.1

pub calls_begun : (s : Shape) (l : LocalState) (g : Lcg) (calls : List Made) →
    AreAllowed s l (all_events calls) → AreCalls s l g calls → (state_after s l (all_events calls)).begun ≡ l.begun
calls_begun s l g [] a o = refl
calls_begun s l g (x ∷ calls) a o =
    let parts = allowed_split s l x.events (all_events calls) a in
    ap (λ (m : LocalState). m.begun) (state_both s l x.events (all_events calls))
    ∙ call_begun s x.work (state_after s l (all_events calls)) (generator_after s l g calls) x.events parts.0 o.1.obeys
    ∙ calls_begun s l g calls parts.1 o.0
