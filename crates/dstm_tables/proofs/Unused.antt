-- An attempt that opened nothing for writing has used no locator.
use Rattle.std.proofs.Common.{◌≡◌, ◌≢◌, ◌∙◌, ◌⊎◌, ◌+◌, ◌∷◌, ◌==◌, ◌&&◌, ℕ, List, [], Bool, true, false, length, refl, sym, ap, inl, inr, arith, is_some, not, add-zero, if◌then◌else◌}
use Rattle.std.proofs.lemmas.Bool.{cases_Bool, cases_eq, cond_both, cond-true, cond-false, eq-eqb, ne_eqb}
use Rattle.std.proofs.lemmas.List.{length_push}
use Rattle.dstm_core.proofs.Static.{local_other, local_own}
use Rattle.dstm_core.specs.Counts.{is_begin}
use Rattle.dstm_core.specs.Events.{Event}
use Rattle.dstm_core.specs.Rules.{after, is_outside}
use Rattle.dstm_core.specs.Runs.{local}
use Rattle.dstm_core.specs.State.{LocalState, given, next_locator, or_zero, res, version, write_of}
use Rattle.dstm_core.specs.declared.event.Kind.{Kind}
use Rattle.dstm_core.specs.declared.event.Kind.TheVariants.{Begin, Install, LookSelf, Pause, Quit, Rank, Resume, Stamp, Validating as ToValidating}
use Rattle.dstm_core.specs.declared.shape.Shape.{Shape}
use Rattle.dstm_core.specs.declared.state.Write.{Write}
use Rattle.dstm_progress.proofs.Beginnings.{begin_kind}
use Rattle.dstm_order.specs.Calls.{Obeys, newest_of, state_after}
use Rattle.dstm_order.specs.Order.{IsDue, has_begun, has_ranks, has_stamps, is_spent, just, rises}
use Rattle.dstm_order.specs.Order.Due.{Done, Step}
use Rattle.dstm_order.specs.Tasks.Task.{Beginning, Leaving}
use Rattle.rand_pcg.specs.Lcg.{Lcg}
use Rattle.dstm_engine.specs.Callers.{begun_log}

-- ---- what a caller has installed, by its last Begin

-- an event that is no Install keeps what was installed, and one that is no Begin either what is open for writing
abbrev Stays : LocalState → Kind → LocalState → Type 0
Stays l k m = (m.installed ≡ l.installed) × (k ≢ Begin → m.writes ≡ l.writes)

pub stays : (s : Shape) (l : LocalState) (e : Event) (k : Kind) → k ≢ Install → Stays l k (after k s l e)
stays s l e Install other = absurd (other refl)
stays s l e LookSelf other =
    cond_both (e.found == given l.phase) _ _ (Stays l LookSelf) (λ _. (refl, λ _. refl)) (λ _. (refl, λ _. refl))
stays s l e ToValidating other =
    cond_both (e.found == 1) _ _ (Stays l ToValidating) (λ _. (refl, λ _. refl)) (λ _. (refl, λ _. refl))
stays s l e Pause other = cond_both (e.found == 1) _ _ (Stays l Pause) (λ _. (refl, λ _. refl)) (λ _. (refl, λ _. refl))
stays s l e Resume other = cond_both (e.found == 2) _ _ (Stays l Resume) (λ _. (refl, λ _. refl)) (λ _. (refl, λ _. refl))
stays s l e Begin other = (refl, λ no. absurd (no refl))
stays s l e k other = (refl, λ _. refl)

-- an event that is no Begin installs as many locators as it adds writes
installs : (s : Shape) (l : LocalState) (e : Event) (k : Kind) → k ≢ Begin → (n : ℕ) → l.installed ≡ n + length l.writes →
    (after k s l e).installed ≡ n + length (after k s l e).writes
installs s l e Begin other n h = absurd (other refl)
installs s l e Install other n h =
    cond_both (e.found == e.expected) _ _ (λ (m : LocalState). m.installed ≡ n + length m.writes)
    (λ _. omega (arith, length_push l.writes added)) (λ _. h)
  where
    added : Write
    added = record {
      object = (res l).object;
      locator = next_locator s l;
      old = or_zero (version (res l));
    }
installs s l e k other n h = let same = stays s l e k (λ q. cc) in rw (same.0, same.1 other) h

is_none : (k : Kind) → is_begin k ≡ false → k ≢ Begin
is_none Begin is q = cc
is_none k is q = cc

-- since its last Begin a caller has installed a locator for each object that is open for writing
pub installed_there : (s : Shape) (c : ℕ) (log : List Event) →
    (local s log c).installed ≡ (local s (begun_log c log) c).installed + length (local s log c).writes
installed_there s c [] = refl
installed_there s c (e ∷ log) = by (cases_eq e.caller c) (cases_Bool (is_begin e.kind)) (installed_there s c log)
  where
    there : ℕ
    there = (local s (begun_log c log) c).installed

    by : (e.caller ≡ c) ⊎ (e.caller ≡ c → ⊥) → (is_begin e.kind ≡ true) ⊎ (is_begin e.kind ≡ false) →
        (local s log c).installed ≡ there + length (local s log c).writes → (local s (e ∷ log) c).installed
        ≡ (local s (begun_log c (e ∷ log)) c).installed + length (local s (e ∷ log) c).writes
    by (inl own) (inl begins) ih =
        let now : local s (e ∷ log) c ≡ after e.kind s (local s log e.caller) e =
        ap (local s (e ∷ log)) (sym own) ∙ local_own s log e in
        let none : (local s (e ∷ log) c).writes ≡ [] = rw (now, begin_kind e.kind begins) refl in
        ap (λ (l : List Event). (local s l c).installed)
        (sym (cond-true ((e.caller == c) && is_begin e.kind) (e ∷ log) (begun_log c log)
        (rw (eq-eqb e.caller c own, begins) refl)))
        ∙ sym (ap (λ (ws : List Write). (local s (begun_log c (e ∷ log)) c).installed + length ws) none
        ∙ add-zero ((local s (begun_log c (e ∷ log)) c).installed))
    by (inl own) (inr other) ih =
        let now : local s (e ∷ log) c ≡ after e.kind s (local s log c) e =
        ap (local s (e ∷ log)) (sym own) ∙ local_own s log e ∙ ap (λ (n : ℕ). after e.kind s (local s log n) e) own in
        let step = installs s (local s log c) e e.kind (is_none e.kind other) there ih in
        ap (λ (l : LocalState). l.installed) now ∙ step
        ∙ ap (λ (l : LocalState). there + length l.writes) (sym now)
        ∙ ap (λ (l : List Event). (local s l c).installed + length (local s (e ∷ log) c).writes)
        (sym (cond-false ((e.caller == c) && is_begin e.kind) (e ∷ log) (begun_log c log)
        (rw (eq-eqb e.caller c own, other) refl)))
    by (inr another) kind ih =
        let now : local s (e ∷ log) c ≡ local s log c = local_other s log e c another in
        ap (λ (l : LocalState). l.installed) now ∙ ih
        ∙ ap (λ (l : LocalState). there + length l.writes) (sym now)
        ∙ ap (λ (l : List Event). (local s l c).installed + length (local s (e ∷ log) c).writes)
        (sym (cond-false ((e.caller == c) && is_begin e.kind) (e ∷ log) (begun_log c log)
        (rw (ne_eqb e.caller c another) refl)))

-- ---- calls that install nothing

other_kind : (e : Event) (k : Kind) → e.kind ≡ k → (k ≡ Install → ⊥) → e.kind ≢ Install
other_kind e k is other q = other (sym is ∙ q)

leaving_kind : (b : Bool) (e : Event) → IsDue (if b then Done else just Quit) e → e.kind ≢ Install
leaving_kind true e due = absurd due
leaving_kind false e due = other_kind e Quit due.0 (λ q. cc)

-- a call that ends an attempt
pub leaving_installs : (s : Shape) (l : LocalState) (g : Lcg) (events : List Event) → Obeys Leaving s l g events →
    (state_after s l events).installed ≡ l.installed
leaving_installs s l g [] obeys = refl
leaving_installs s l g (e ∷ events) obeys =
    (stays s (state_after s l events) e e.kind (leaving_kind (is_outside (state_after s l events).phase) e obeys.1)).0
    ∙ leaving_installs s l g events obeys.0

-- and commits none
pub leaving_commits : (s : Shape) (l : LocalState) (g : Lcg) (events : List Event) → Obeys Leaving s l g events →
    (state_after s l events).committed ≡ l.committed
leaving_commits s l g [] obeys = refl
leaving_commits s l g (e ∷ events) obeys =
    let m = state_after s l events in
    quit_commits m e (is_outside m.phase) e.kind refl obeys.1 ∙ leaving_commits s l g events obeys.0
  where
    quit_commits : (m : LocalState) (x : Event) (b : Bool) (k : Kind) → x.kind ≡ k →
        IsDue (if b then Done else just Quit) x → (after k s m x).committed ≡ m.committed
    quit_commits m x true k is due = absurd due
    quit_commits m x false Quit is due = refl
    quit_commits m x false k is due = absurd (let quit = due.0 in cc)

beginning_kind : (a b c d f : Bool) (rank : ℕ) (e : Event) →
    IsDue (if a then Done else if b then just Quit else if c then Done else if d then just Stamp
    else if f then Step Rank rank else just Begin) e → e.kind ≢ Install
beginning_kind true b c d f rank e due = absurd due
beginning_kind false true c d f rank e due = other_kind e Quit due.0 (λ q. cc)
beginning_kind false false true d f rank e due = absurd due
beginning_kind false false false true f rank e due = other_kind e Stamp due.0 (λ q. cc)
beginning_kind false false false false true rank e due = other_kind e Rank due.0 (λ q. cc)
beginning_kind false false false false false rank e due = other_kind e Begin due.0 (λ q. cc)

-- a call that begins one
pub beginning_installs : (s : Shape) (fresh : Bool) (l : LocalState) (g : Lcg) (events : List Event) →
    Obeys (Beginning fresh) s l g events → (state_after s l events).installed ≡ l.installed
beginning_installs s fresh l g [] obeys = refl
beginning_installs s fresh l g (e ∷ events) obeys =
    let m = state_after s l events in
    (stays s m e e.kind (beginning_kind (has_begun (newest_of events)) (not (is_outside m.phase)) (is_spent s m)
    (has_stamps s.manager && fresh && not m.stamped) (has_ranks s.manager && not m.ranked)
    (if rises s.manager && fresh then 0 else m.rank) e obeys.1)).0
    ∙ beginning_installs s fresh l g events obeys.0

-- ---- nothing is open for writing

pub no_writes : (ws : List Write) → ((o : ℕ) → is_some (write_of o ws) ≡ false) → ws ≡ []
no_writes [] none = refl
no_writes (w ∷ ws) none =
    absurd (let some : is_some (write_of w.object (w ∷ ws)) ≡ true = rw (eq-eqb w.object w.object refl) refl in
    let unopened = none w.object in cc)
