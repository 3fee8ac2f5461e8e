-- What an attempt was handed is validated at once.
use Rattle.std.proofs.Common.{◌≡◌, ◌⊎◌, ◌∙◌, ◌++◌, ◌∷◌, ◌==◌, ◌||◌, Bool, List, [], Some, None, true, false, ap, inl, inr, refl, subst, sym, Option, if◌then◌else◌, is_some}
use Rattle.dstm_core.proofs.Base.{AllowedAs, Each, Event, LocalState, after, cases_Bool, cond_both, first, is_one_of, is_outside}
use Rattle.dstm_order.proofs.Base.{AnyTask, AreMade, Begin, Beginning, Call, Check, Doing, Done, Due, Effort, Enrolling, Install, IsCall, IsDue, Kind, Lcg, Leaving, LookNumber, LookSelf, Manager, Obeys, Quit, Running, Shape, Step, Task, Work, at_first, due, effort_of, events_in, generator_by, in_checks, just, most_missed, newest_of, next, next_or_first, state_after, state_by}
use Rattle.dstm_order.proofs.Rows.{pass_by, beginning_by}
use Rattle.dstm_progress.specs.Lives.{EveryValueIsValidated, IsOfPass, awaits_after, awaits_sight}
use Rattle.dstm_progress.proofs.Own.{AreAllowed, allowed_split}
use Rattle.dstm_progress.proofs.OwnEvents.{whole_allowed}

-- ---- what is due while a value awaits a sight

-- the newest event begins a pass, goes on with one, or opens for writing
abbrev Passes : Kind → Event → Type 0
Passes LookNumber e = Unit {0}
Passes Check e = Unit {0}
Passes Install e = (e.found == e.expected) ≡ true
Passes k e = ⊥

abbrev HasPass : Option Event → Type 0
HasPass None = ⊥
HasPass (Some e) = Passes e.kind e

-- what is due is of the pass
abbrev OfPass : Due → Type 0
OfPass (Step k n) = IsOfPass k
OfPass Done = ⊥

number_of : IsOfPass LookNumber
number_of = inl refl

check_of : IsOfPass Check
check_of = inr (inl refl)

self_of : IsOfPass LookSelf
self_of = inr (inr (inl refl))

quit_of : IsOfPass Quit
quit_of = inr (inr (inr refl))

next_of : (k : Kind) (e : Event) (w : Work) (m : Manager) (l : LocalState) (f : Effort) → l.phase ≡ Running →
    Passes k e → OfPass (next k e w m l f)
next_of LookNumber e w m l f r h = pass_by OfPass l self_of check_of
next_of Check e w m l f r h = subst (λ p. OfPass (in_checks p l)) (sym r) (pass_by OfPass l self_of check_of)
next_of Install e w m l f r h = subst (λ b. OfPass (if b then just LookNumber else at_first w l)) (sym h) number_of
next_of k e w m l f r h = absurd h

table_of : (o : Option Event) (w : Work) (m : Manager) (l : LocalState) (f : Effort) → l.phase ≡ Running → HasPass o →
    OfPass (next_or_first o w m l f)
table_of None w m l f r h = absurd h
table_of (Some e) w m l f r h = next_of e.kind e w m l f r h

due_of : (w : Work) (s : Shape) (o : Option Event) (l : LocalState) (f : Effort) → l.phase ≡ Running → HasPass o →
    OfPass (due (Doing w) s o l f)
due_of w s o l f r h =
    cond_both (is_outside l.phase) _ _ OfPass
    (λ out. absurd (let no_way : false ≡ true = sym (ap is_outside r) ∙ out in cc)) (λ _.
    cond_both (l.stale || f.missed == most_missed) _ _ OfPass (λ _. quit_of) (λ _. table_of o w s.manager l f r h))

kind_of : (d : Due) (e : Event) → OfPass d → IsDue d e → IsOfPass e.kind
kind_of (Step k n) e h is = subst IsOfPass (sym is.0) h
kind_of Done e h is = absurd h

-- ---- one event

-- a value awaits a sight only behind an event of its pass, in a running attempt
abbrev Waits : Bool → Option Event → LocalState → Type 0
Waits awaited o l = awaited ≡ true → HasPass o × (l.phase ≡ Running)

abbrev is_pass : Kind → Bool
is_pass = is_one_of (LookNumber ∷ Check ∷ LookSelf ∷ Quit ∷ [])

pass_is : (k : Kind) → IsOfPass k → is_pass k ≡ true
pass_is k (inl q) = ap is_pass q
pass_is k (inr (inl q)) = ap is_pass q
pass_is k (inr (inr (inl q))) = ap is_pass q
pass_is k (inr (inr (inr q))) = ap is_pass q

module _ (s : Shape) (l : LocalState) (e : Event) where
  abbrev Goes : Kind → Type 0
  Goes k = Passes k e × ((after k s l e).phase ≡ Running)

  installs : (b : Bool) → (b ≡ true → IsOfPass Install × (l.phase ≡ Running)) → l.phase ≡ Running →
      (b || e.found == e.expected) ≡ true → Goes Install
  installs true h r q = absurd (let no_way : is_pass Install ≡ true = pass_is Install (h refl).0 in cc)
  installs false h r q = (
    q,
    cond_both (e.found == e.expected) _ _ (λ (l : LocalState). l.phase ≡ Running) (λ _. r) (λ _. r),
  )

  goes : (k : Kind) (b : Bool) → AllowedAs k s l e → (b ≡ true → IsOfPass k × (l.phase ≡ Running)) →
      awaits_after k e b ≡ true → Goes k
  goes LookNumber b a h q = (tt, a.2.0)
  goes Check b a h q = (tt, (h q).1)
  goes Install b a h q = installs b h a.2.0 q
  goes LookSelf b a h q = absurd (cc)
  goes Begin b a h q = absurd (cc)
  goes Quit b a h q = absurd (cc)
  goes k b a h q = absurd (let no_way = pass_is k (h q).0 in cc)

-- ---- a call

-- while a value awaits a sight the next event is of its pass
abbrev IsCovered : Event → List Event → Type 0
IsCovered e es = awaits_sight es ≡ true → IsOfPass e.kind

-- each event so far was, and nothing awaits a sight
abbrev IsValid : List Event → Type 0
IsValid es = Each IsCovered es × (awaits_sight es ≡ false)

-- what is due in a call on no live attempt
abbrev Idle : Due → Type 0
Idle (Step k n) = (e : Event) → awaits_after k e false ≡ false
Idle Done = Unit {0}

enrolling_idle : (s : Shape) (o : Option Event) (l : LocalState) (f : Effort) → Idle (due Enrolling s o l f)
enrolling_idle s o l f = cond_both (is_some l.number) _ _ Idle (λ _. tt) (λ _ e. refl)

leaving_idle : (s : Shape) (o : Option Event) (l : LocalState) (f : Effort) → Idle (due Leaving s o l f)
leaving_idle s o l f = cond_both (is_outside l.phase) _ _ Idle (λ _. tt) (λ _ e. refl)

beginning_idle : (fresh : Bool) (s : Shape) (o : Option Event) (l : LocalState) (f : Effort) →
    Idle (due (Beginning fresh) s o l f)
beginning_idle fresh s o l f =
    beginning_by Idle s fresh o l tt (λ e. refl) (λ _ _ e. refl) (λ _ e. refl) (λ e. refl)

idle_at : (d : Due) (e : Event) (b : Bool) → Idle d → IsDue d e → b ≡ false → awaits_after e.kind e b ≡ false
idle_at (Step k n) e b h is none = rw none (subst (λ k. awaits_after k e false ≡ false) (sym is.0) (h e))
idle_at Done e b h is none = absurd is

module _ (s : Shape) (l : LocalState) (g : Lcg) (before : List Event) (valid : IsValid before) where
  abbrev At : List Event → LocalState
  At es = state_after s l es

  not_both : (b : Bool) → b ≡ false → b ≡ true → ⊥
  not_both b p q = let no_way : false ≡ true = sym p ∙ q in cc

  idle_valid : (t : Task) → ((o : Option Event) (m : LocalState) (f : Effort) → Idle (due t s o m f)) →
      (es : List Event) → Obeys t s l g es → IsValid (es ++ before)
  idle_valid t idle [] h = valid
  idle_valid t idle (e ∷ es) h =
      let ih = idle_valid t idle es h.0 in (
        (ih.0, λ q. absurd (not_both (awaits_sight (es ++ before)) ih.1 q)),
        idle_at (due t s (newest_of es) (At es) (effort_of s l g es)) e (awaits_sight (es ++ before))
            (idle (newest_of es) (At es) (effort_of s l g es)) h.1 ih.1,
      )

  record Waiting (es : List Event) : Type 0 where
    pub covered : Each IsCovered (es ++ before)
    pub waits : Waits (awaits_sight (es ++ before)) (newest_of es) (At es)

  advances : (w : Work) (e : Event) {es : List Event} → Waiting es → AllowedAs e.kind s (At es) e →
      IsDue (due (Doing w) s (newest_of es) (At es) (effort_of s l g es)) e → Waiting (e ∷ es)
  advances w e {es = es} so_far allowed is = record {
    covered = (so_far.covered, λ q. (of_pass q).0);
    waits = goes s (At es) e e.kind (awaits_sight (es ++ before)) allowed of_pass;
  }
    where
      of_pass : awaits_sight (es ++ before) ≡ true → IsOfPass e.kind × ((At es).phase ≡ Running)
      of_pass q =
          let waits = so_far.waits q in (
            kind_of (due (Doing w) s (newest_of es) (At es) (effort_of s l g es)) e
                (due_of w s (newest_of es) (At es) (effort_of s l g es) waits.1 waits.0) is,
            waits.1,
          )

  waiting : (w : Work) (es : List Event) → AreAllowed s l es → Obeys (Doing w) s l g es → Waiting es
  waiting w [] a h = record {
    covered = valid.0;
    waits = λ q. absurd (not_both (awaits_sight before) valid.1 q);
  }
  waiting w (e ∷ es) a h = advances w e (waiting w es a.0 h.0) a.1 h.1

  doing_valid : {w : Work} {es : List Event} → AreAllowed s l es → IsCall (Doing w) s l g es → IsValid (es ++ before)
  doing_valid {w = w} {es = es} a call = (so_far.covered, none (cases_Bool (awaits_sight (es ++ before))))
    where
      so_far : Waiting es
      so_far = waiting w es a call.obeys

      none : (awaits_sight (es ++ before) ≡ true) ⊎ (awaits_sight (es ++ before) ≡ false) →
          awaits_sight (es ++ before) ≡ false
      none (inl q) = absurd (subst OfPass call.done
          (due_of w s (newest_of es) (At es) (effort_of s l g es) (so_far.waits q).1 (so_far.waits q).0))
      none (inr q) = q

  call_valid : {t : Task} {es : List Event} → AreAllowed s l es → IsCall t s l g es → IsValid (es ++ before)
  call_valid {t = Enrolling} {es = es} a call = idle_valid Enrolling (enrolling_idle s) es call.obeys
  call_valid {t = (Beginning fresh)} {es = es} a call =
      idle_valid (Beginning fresh) (beginning_idle fresh s) es call.obeys
  call_valid {t = Leaving} {es = es} a call = idle_valid Leaving (leaving_idle s) es call.obeys
  call_valid {t = (Doing w)} a call = doing_valid a call

-- ---- in a run

calls_valid : (s : Shape) (l : LocalState) (g : Lcg) (cs : List Call) → AreAllowed s l (events_in cs) →
    AreMade s l g AnyTask cs → IsValid (events_in cs)
calls_valid s l g [] a m = (tt, refl)
calls_valid s l g (c ∷ cs) a m =
    let parts = allowed_split s l c.events (events_in cs) a in
    call_valid s (state_by s l g cs) (generator_by s l g cs) (events_in cs) (calls_valid s l g cs parts.1 m.0) parts.0
    m.2

pub every_value : EveryValueIsValidated
every_value s g log c core by =
    subst IsValid (sym by.own)
    (calls_valid s first g by.calls (subst (AreAllowed s first) by.own (whole_allowed s c log core)) by.made)
