-- A step of a call that is due goes on with it.
use Rattle.std.proofs.Common.{◌≡◌, ◌≢◌, ℕ, ◌<◌, ◌∙◌, List, [], ◌∷◌, ◌++◌, ◌==◌, true, false, Some, None, refl, sym, ap, subst, arith, ne_eqb, eq-eqb, is_some, ◌+◌, ◌-◌, Option, IfSome, Bool, ◌||◌, if◌then◌else◌}
use Rattle.std.proofs.lemmas.Bool.{cond_both}
use Rattle.dstm_core.specs.Events.{Event}
use Rattle.dstm_core.specs.declared.event.Kind.{Kind}
use Rattle.dstm_core.specs.declared.event.Kind.TheVariants.{LookObj, LookStatus, LookSelf, Rank, PutHigh, PutNew, Quit}
use Rattle.dstm_core.specs.declared.shape.Manager.{Manager}
use Rattle.dstm_core.specs.declared.shape.Shape.{Shape}
use Rattle.dstm_core.specs.declared.state.Phase.TheVariants.{Running}
use Rattle.dstm_core.specs.Rules.{is_outside, after, access, target, May, AllowedAs}
use Rattle.dstm_core.specs.Runs.{local}
use Rattle.dstm_core.specs.State.{LocalState, given, res, or_zero}
use Rattle.dstm_core.specs.Traces.{Access, Acts, IsPastOf}
use Rattle.dstm_machines.specs.Traces.Access.{Load, Store, Exchange, Add}
use Rattle.dstm_core.specs.declared.shape.Manager.TheVariants.{Polite, Karma, Polka, Greedy}
use Rattle.dstm_core.specs.declared.status.Status.{Status}
use Rattle.dstm_managers.specs.declared.decider.Choice.TheVariants as decision
use Rattle.dstm_managers.specs.Choices.{DeciderState, choice, next_word, takes_word, without_word, decider_after as decided}
use Rattle.dstm_core.specs.Words.{HasWord, code_of}
use Rattle.dstm_machines.proofs.Pasts.{past_past}
use Rattle.dstm_core.proofs.Ranges.{in_range}
use Rattle.dstm_model.specs.declared.value.Val.{Val}
use Rattle.dstm_seats.proofs.Seats as seats
use Rattle.dstm_words.specs.Seats.{View, caller_view, event_by, ActsBy, Home, view_of, IsOf, MayMake, IsRunOf, Adds, Makes, number_or, shared, state_by}
use Rattle.dstm_order.specs.Calls.{answer, IsCall, answer_of}
use Rattle.dstm_order.specs.declared.again.Again.{Again}
use Rattle.dstm_order.specs.Efforts.{Effort, effort_after, turn, chosen, status_of}
use Rattle.dstm_order.specs.Order.{Due, IsDue, HasOperand, due, next, next_or_first, just}
use Rattle.dstm_order.specs.Order.Due.{Done}
use Rattle.dstm_order.specs.declared.TheConstants.{MAX_MISSED}
use Rattle.dstm_order.specs.Tasks.{Task, Work}
use Rattle.dstm_order.specs.Tasks.Task.{Doing}
use Rattle.dstm_steps.specs.declared.steps.Steps.{Steps}
use Rattle.dstm_steps.specs.Under.{Began, InTask, Under, is_exchange, MayStep, After, Went, WentOn, IsMirror, again_by, operand_of, now, effort_by, made_by, due_next_by, answer_by, work_of}

-- what the rules say of an event that acts in some way does not depend on what it finds
may_any : (k : Kind) (s : Shape) (l : LocalState) (way : Access) (c p found : ℕ) →
    MayStep s l k way (event_by way c k p 0) → MayStep s l k way (event_by way c k p found)
may_any Rank s l (Store v) c p found m = record { place = m.place; access = m.access; may = m.may }
may_any Rank s l way c p found m = let other = m.access in absurd (cc)
may_any PutHigh s l (Store v) c p found m = record { place = m.place; access = m.access; may = m.may }
may_any PutHigh s l way c p found m = let other = m.access in absurd (cc)
may_any PutNew s l (Store v) c p found m = record { place = m.place; access = m.access; may = m.may }
may_any PutNew s l way c p found m = let other = m.access in absurd (cc)
may_any k s l way c p found m = record { place = m.place; access = m.access; may = m.may }

-- a load has the operand of its place
pub load_operand : (k : Kind) (s : Shape) (l : LocalState) (e : Event) → ActsBy k Load →
    HasOperand k (operand_of k e.place 0) e
load_operand LookObj s l e acts = refl
load_operand k s l e acts = let way = acts s l e in first_of (assumption tt, cc)

-- an exchange has none
pub exchange_operand : (k : Kind) (e : Event) → is_exchange k ≡ true → HasOperand k 0 e
exchange_operand LookObj e x = absurd (cc)
exchange_operand k e x = first_of (assumption tt, cc)

pub exchange_object : (k : Kind) → is_exchange k ≡ true → k ≢ LookObj
exchange_object LookObj x q = absurd (cc)
exchange_object k x q = let y = ap is_exchange q in absurd (cc)

-- an add has none
pub add_operand : (k : Kind) (s : Shape) (l : LocalState) (e : Event) → ActsBy k Add → HasOperand k 0 e
add_operand LookObj s l e acts = let way = acts s l e in absurd (cc)
add_operand k s l e acts = let way = acts s l e in first_of (assumption tt, cc)

pub add_object : (k : Kind) (s : Shape) (l : LocalState) (e : Event) → ActsBy k Add → k ≢ LookObj
add_object LookObj s l e acts q = let way = acts s l e in absurd (cc)
add_object k s l e acts q = let way = subst (λ k. access k s l e ≡ Add) q (acts s l e) in absurd (cc)

-- a store has the operand of its place and of what it stores
pub store_operand : (k : Kind) (e : Event) (p v : ℕ) → e.place ≡ p → e.put ≡ v → HasOperand k (operand_of k p v) e
store_operand LookObj e p v q r = q
store_operand k e p v q r = assumption tt

-- a load leaves what the caller remembers
pub load_mirror : {L : Type 0} (k : Kind) (s : Shape) (steps : Steps L) (l : LocalState) (e : Event) → ActsBy k Load →
    IsMirror s steps l → IsMirror s steps (after k s l e)
load_mirror LookSelf s steps l e acts m = cond_both (e.found == given l.phase) _ _ (IsMirror s steps)
    (λ _. record { own = m.own; installed = m.installed; rank = m.rank })
    (λ _. record { own = m.own; installed = m.installed; rank = m.rank })
load_mirror k s steps l e acts m = let way = acts s l e in first_of (assumption m, cc)

placed : (way : Access) (c : ℕ) (k : Kind) (p found : ℕ) → (event_by way c k p found).place ≡ p
placed Load c k p found = refl
placed (Store v) c k p found = refl
placed (Exchange x v) c k p found = refl
placed Add c k p found = refl

acts : (way : Access) (c : ℕ) (k : Kind) (p found : ℕ) → Acts way (event_by way c k p found)
acts Load c k p found = (refl, refl)
acts (Store v) c k p found = (refl, refl)
acts (Exchange e v) c k p found = (refl, refl)
acts Add c k p found = (refl, refl)

module _ {L : Type 0} {holds : L → List Val → Type 0} {home : Home L} {task : Task} {b : Began} {old : Steps L} {d : Due}
    {a : Option Again} (u : InTask holds home task b old d a) where
  -- the state of the caller, by its number
  pub here : now home old ≡ local home.terms.shape (view_of old.seat).log b.number
  here = ap (λ o. state_by home.terms.shape o (view_of old.seat).log) u.number

  -- another due event and another answer, which are the same
  pub under_is : {f : Due} {c : Option Again} → d ≡ f → a ≡ c → InTask holds home task b old f c
  under_is {f = f} q r = subst (InTask holds home task b old f) r (subst (λ d. InTask holds home task b old d a) q u)

  -- the call goes on after the event
  goes_on : (new : Steps L) (e : Event) → Adds holds (view_of old.seat) e (view_of new.seat) → e.caller ≡ b.number →
      IsOf home new.seat → IsDue d e → After home old new e →
      InTask holds home task b new (due_next_by home task new e) (answer_by home task new e)
  goes_on new e m c seat is t =
      let s : Shape = home.terms.shape in
      let v : View L = view_of old.seat in
      let w : View L = view_of new.seat in
      let state : now home new ≡ after e.kind s (now home old) e =
      seats.state_now (shared holds) b.number v w e u.number m c s in record {
        seat = seat;
        number = seats.number_now (shared holds) b.number v w e u.number m c;
        view = seats.view_now (shared holds) b.number v w e u.number m c home.terms u.view;
        caller = u.caller;
        run = subst (λ o. IfSome o (λ terms. IsRunOf holds terms w.log)) u.seat.2 m.run;
        seen = past_past _ _ _ u.seen (record { later = e ∷ m.log.0; whole = sym m.log.1 });
        shape = t.shape ∙ u.shape;
        manager = t.manager ∙ u.manager;
        mirror = subst (IsMirror s new) (sym state) t.mirror;
        events = e ∷ u.events;
        own = seats.own_now (shared holds) b.number v w e u.number m c ∙ ap (λ es. e ∷ es) u.own;
        top = (m.log.0 ++ v.log, m.log.1);
        state = state ∙ ap (λ l. after e.kind s l e) u.state;
        obeys = (u.obeys, subst (λ d. IsDue d e) (sym (rw (← u.state, u.effort) u.due)) is);
        effort = rw (← u.state, u.effort) t.effort;
        due = refl;
        gives = refl;
      }

  -- the event that the caller's seat made is the call's
  pub took : {new : Steps L} {k : Kind} {p found : ℕ} (way : Access) →
      Makes holds (view_of old.seat) way k p found (view_of new.seat) → IsOf home new.seat →
      IsDue d (made_by b way k p found) → WentOn holds home task b old new (made_by b way k p found)
  took {new = new} {k = k} {p = p} {found = found} way makes seat is =
      let v : View L = view_of old.seat in
      let e : Event = made_by b way k p found in
      let m : Adds holds v e (view_of new.seat) =
      seats.makes_by (shared holds) b.number v (view_of new.seat) way k p found u.number makes in record {
        log = m.log;
        state = seats.state_now (shared holds) b.number v (view_of new.seat) e u.number m refl home.terms.shape;
        goes_on = λ steps same t. goes_on steps e (subst (λ s. Adds holds v e (view_of s)) (sym same) m) refl
            (subst (IsOf home) (sym same) seat) is t;
      }

  -- the rules let the caller make the event, whatever it finds
  pub may_make : (way : Access) (k : Kind) (p : ℕ) → (k ≡ LookObj → p < home.terms.shape.objects) →
      MayStep home.terms.shape (now home old) k way (made_by b way k p 0) →
      MayMake home.terms (view_of old.seat) way k p
  may_make way k p in_shape m found below =
      let s : Shape = home.terms.shape in
      let l : LocalState = now home old in
      let e : Event = made_by b way k p found in
      let any : MayStep s l k way e = may_any k s l way b.number p found m in
      let word = in_range s (view_of old.seat).log b.number e k u.run.run.core u.caller
      (λ q. subst (λ n. n < s.objects) (sym (placed way b.number k p found)) (in_shape q))
      (subst (λ l. May k s l e) here any.may) in
      let all : AllowedAs k s l e = (
        any.place,
        subst (λ w. Acts w e) (sym any.access) (acts way b.number k p found),
        any.may,
        subst (λ l. HasWord s (target k s l e)) (sym here) word,
      ) in
      subst (λ o. AllowedAs k s l (event_by way (number_or o found) k p found)) (sym u.number) all

-- ---- what a caller remembers after an event

-- It remembers all as before, but for what the call has behind it, and no word of its own has changed.
pub after_rest : {L : Type 0} {home : Home L} {old new steps : Steps L} {e : Event} →
    new ≡ record old { seat = new.seat } →
    steps ≡ record new { missed = steps.missed; round = steps.round; left = steps.left } →
    IsMirror home.terms.shape old (after e.kind home.terms.shape (now home old) e) →
    effort_after e.kind home.terms.shape.manager (now home old) (effort_by old) e ≡ effort_by steps →
    After home old steps e
after_rest rest more mirror effort = record {
  shape = rw (more, rest) refl;
  manager = rw (more, rest) refl;
  mirror = record { own = rw (more, rest) mirror.own; installed = rw (more, rest) mirror.installed; rank = rw (more, rest) mirror.rank };
  effort = effort;
}

-- ---- what is due after an event

-- a live attempt goes on as the table says
pub due_next : (w : Work) (s : Shape) (e : Event) (l : LocalState) (c : Effort) → is_outside l.phase ≡ false →
    l.stale ≡ false → (c.missed == MAX_MISSED) ≡ false → due (Doing w) s (Some e) l c ≡ next e.kind e w s.manager l c
due_next w s e l c live agreed tries = rw (live, agreed, tries) refl

-- an attempt that found a read stale quits
pub due_quit : (w : Work) (s : Shape) (newest : Option Event) (l : LocalState) (c : Effort) →
    is_outside l.phase ≡ false → l.stale ≡ true → due (Doing w) s newest l c ≡ just Quit
due_quit w s newest l c live stale = rw (live, stale) refl

-- an attempt whose exchanges failed too often quits
pub due_lost : (w : Work) (s : Shape) (newest : Option Event) (l : LocalState) (c : Effort) →
    is_outside l.phase ≡ false → c.missed ≡ MAX_MISSED → due (Doing w) s newest l c ≡ just Quit
due_lost w s newest l c live lost = rw (live, lost) (either l.stale)
  where
    either : (b : Bool) →
        (if b || true then just Quit else next_or_first newest w s.manager l (record c { missed = MAX_MISSED }))
        ≡ just Quit
    either true = refl
    either false = refl

-- where the attempt is left the call ends
pub due_done : (w : Work) (s : Shape) (newest : Option Event) (l : LocalState) (c : Effort) →
    is_outside l.phase ≡ true → due (Doing w) s newest l c ≡ Done
due_done w s newest l c left = rw left refl

pub again_none : (w : Work) (n : Option Event) (l : LocalState) (c : Effort) → is_outside l.phase ≡ false →
    answer (Doing w) n l c ≡ None
again_none w n l c live = rw live refl

pub more_tries : (missed : ℕ) → missed < MAX_MISSED → (missed == MAX_MISSED) ≡ false
more_tries missed h = ne_eqb missed MAX_MISSED (λ q. omega arith)

module _ {L : Type 0} {holds : L → List Val → Type 0} {home : Home L} {b : Began} {old new steps : Steps L} {e : Event}
    (w : Went holds home b old new e) (same : steps.seat ≡ new.seat) (t : After home old steps e) where
  -- the attempt goes on after the event
  pub went_on : is_outside (now home steps).phase ≡ false → (now home steps).stale ≡ false → steps.missed < MAX_MISSED →
      Under holds home b steps
      (next e.kind e (work_of b.task) home.terms.shape.manager (now home steps) (effort_by steps)) None
  went_on live agreed tries =
      under_is (w.goes_on steps same t)
      (due_next (work_of b.task) home.terms.shape e (now home steps) (effort_by steps) live agreed
      (more_tries steps.missed tries)) (again_none (work_of b.task) (Some e) (now home steps) (effort_by steps) live)

  -- it has found a read stale
  pub went_stale : is_outside (now home steps).phase ≡ false → (now home steps).stale ≡ true →
      Under holds home b steps (just Quit) None
  went_stale live stale =
      under_is (w.goes_on steps same t)
      (due_quit (work_of b.task) home.terms.shape (Some e) (now home steps) (effort_by steps) live stale)
      (again_none (work_of b.task) (Some e) (now home steps) (effort_by steps) live)

  -- too many exchanges failed
  pub went_lost : is_outside (now home steps).phase ≡ false → steps.missed ≡ MAX_MISSED →
      Under holds home b steps (just Quit) None
  went_lost live lost =
      under_is (w.goes_on steps same t)
      (due_lost (work_of b.task) home.terms.shape (Some e) (now home steps) (effort_by steps) live lost)
      (again_none (work_of b.task) (Some e) (now home steps) (effort_by steps) live)

  -- it was left
  pub went_out : is_outside (now home steps).phase ≡ true → Under holds home b steps Done (again_by home b steps e)
  went_out left =
      under_is (w.goes_on steps same t)
      (due_done (work_of b.task) home.terms.shape (Some e) (now home steps) (effort_by steps) left) refl

-- what a call has seen before its event
pub past_went : {L : Type 0} {holds : L → List Val → Type 0} {home : Home L} {task : Task} {b : Began} {old new : Steps L}
    {e : Event} → WentOn holds home task b old new e → IsPastOf (view_of old.seat).log (view_of new.seat).log
past_went {e = e} w = record { later = e ∷ w.log.0; whole = sym w.log.1 }

-- ---- the effort after a turn, whatever the look finds

-- one of the turns that are left
pub turn_left : (m : Manager) (l : LocalState) (c : Effort) → is_some (res l).status ≡ true → l.phase ≡ Running →
    0 < c.left → effort_after LookStatus m l c (event_by Load 0 LookStatus 0 0) ≡ turn c.left c
turn_left m l c h p left = rw (h, p, ne_eqb c.left 0 (λ q. omega arith)) refl

pub turn_last : (left : ℕ) (c : Effort) → left ≡ 1 → turn left c ≡ record c { left = left - 1; round = c.round + 1 }
turn_last left c h = rw (eq-eqb left 1 h) refl

pub turn_more : (left : ℕ) (c : Effort) → left ≢ 1 → turn left c ≡ record c { left = left - 1 }
turn_more left c h = rw (ne_eqb left 1 h) refl

-- ---- what the manager chooses

-- a code of a status names it
pub status_named : (status : Status) → status_of (code_of status) ≡ status
status_named s = grind arith

-- to abort and to give way take no word
takes_none : (m : Manager) → (takes_word m decision.Kill ≡ false) × (takes_word m decision.GiveWay ≡ false)
takes_none Polite = (refl, refl)
takes_none Karma = (refl, refl)
takes_none Polka = (refl, refl)
takes_none Greedy = (refl, refl)

pub kill_keeps : (d : DeciderState) → decided d decision.Kill ≡ d
kill_keeps d = rw (takes_none d.manager).0 refl

pub give_way_keeps : (d : DeciderState) → decided d decision.GiveWay ≡ d
give_way_keeps d = rw (takes_none d.manager).1 refl

-- what the table says that the manager chooses is what the caller's decider answers
pub chosen_is : {L : Type 0} {holds : L → List Val → Type 0} {home : Home L} {b : Began} {steps : Steps L} {d : Due}
    {a : Option Again} {enemy : ℕ} → Under holds home b steps d a → (status : Status) →
    or_zero (res (now home steps)).rank ≡ enemy → (res (now home steps)).status ≡ Some (code_of status) →
    chosen home.terms.shape.manager (now home steps) (effort_by steps)
    ≡ choice steps.decider.manager steps.rank enemy status steps.round (next_word steps.decider)
chosen_is u status rank code = rw (rank, code, status_named status, ← u.mirror.rank, ← u.manager) refl

-- the first turn of a wait
pub first_turn : (m : Manager) (l : LocalState) (c : Effort) (t : ℕ) → is_some (res l).status ≡ true →
    l.phase ≡ Running → c.left ≡ 0 → chosen m l c ≡ decision.Wait t →
    effort_after LookStatus m l c (event_by Load 0 LookStatus 0 0) ≡ turn t (record c {
      generator = (decided (record { manager = m; generator = c.generator }) (decision.Wait t)).generator;
    })
first_turn m l c t h p left wait = rw (h, p, left, wait) refl

pub manager_kept : (d : DeciderState) (turns : ℕ) → (decided d (decision.Wait turns)).manager ≡ d.manager
manager_kept d turns =
    cond_both (takes_word d.manager (decision.Wait turns)) (without_word d) d
    (λ (x : DeciderState). x.manager ≡ d.manager) (λ _. refl) (λ _. refl)

-- ---- the begin and the end of a call

-- a call with this task begins as the steps are now
abbrev pub began_as : {L : Type 0} → Home L → Task → (number : ℕ) → Steps L → Began
began_as home task number steps = record {
  task = task;
  number = number;
  state = now home steps;
  generator = steps.decider.generator;
  log = (view_of steps.seat).log;
}

-- its first event is due, where the steps remember what they should and have nothing behind them
pub call_begins : {L : Type 0} (holds : L → List Val → Type 0) (home : Home L) (task : Task) (number : ℕ)
    (steps : Steps L) → IsOf home steps.seat →
    view_of steps.seat ≡ caller_view home.terms number (view_of steps.seat).log → number < home.terms.shape.callers → IsRunOf holds home.terms (view_of steps.seat).log →
    steps.shape ≡ home.terms.shape → steps.decider.manager ≡ home.terms.shape.manager →
    IsMirror home.terms.shape steps (now home steps) → steps.missed ≡ 0 → steps.round ≡ 0 → steps.left ≡ 0 →
    InTask holds home task (began_as home task number steps) steps
    (due task home.terms.shape None (now home steps) (effort_by steps))
    (answer task None (now home steps) (effort_by steps))
call_begins holds home task number steps seat view caller run shape manager mirror missed round left = record {
  seat = seat;
  number = ap (λ (v : View _). v.number) view;
  view = view;
  caller = caller;
  run = run;
  seen = record { later = []; whole = refl };
  shape = shape;
  manager = manager;
  mirror = mirror;
  events = [];
  own = refl;
  top = tt;
  state = refl;
  obeys = tt;
  effort = rw (missed, round, left) refl;
  due = refl;
  gives = refl;
}

-- where nothing more is due the events are a call, which answers what it does
pub call_of : {L : Type 0} {task : Task} {holds : L → List Val → Type 0} {home : Home L} {b : Began} {steps : Steps L}
    {a : Option Again} (u : InTask holds home task b steps Done a) →
    IsCall task home.terms.shape b.state b.generator u.events
    × (answer_of task home.terms.shape b.state b.generator u.events ≡ a)
call_of u = (record { obeys = u.obeys; done = rw (← u.state, u.effort) u.due }, rw (← u.state, u.effort) u.gives)
