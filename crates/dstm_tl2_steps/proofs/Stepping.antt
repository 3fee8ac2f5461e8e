-- A step of a call that is due goes on with it; how a call begins, and what it is once it has ended.
use Rattle.std.proofs.Common.{◌≡◌, ◌≢◌, ℕ, ◌+◌, ◌<◌, ◌∙◌, List, ◌∷◌, ◌++◌, ◌==◌, true, false, Some, None, is_some, length, refl, sym, ap, subst, Option, IfSome}
use Rattle.std.proofs.lemmas.Bool.{cond_both}
use Rattle.dstm_model.specs.declared.value.Val.{Val}
use Rattle.dstm_machines.specs.Traces.{Access, IsPastOf, events_of}
use Rattle.dstm_machines.specs.Traces.Access.{Exchange, Add}
use Rattle.dstm_machines.proofs.Pasts.{past_past}
use Rattle.dstm_seats.proofs.Seats as seats
use Rattle.dstm_seats.specs.Seats.{event_by, Adds}
use Rattle.dstm_tl2.specs.declared.kind.Kind.{Kind}
use Rattle.dstm_tl2.specs.declared.kind.Kind.TheVariants.{Sample, LookAgain, Lock}
use Rattle.dstm_tl2.specs.Histories.{is_sample}
use Rattle.dstm_tl2.specs.Rules.{AllowedAs, Event, IsTold, after, lock, record_read}
use Rattle.dstm_tl2.specs.Sharing.{IsRunOf, shared, table_of}
use Rattle.dstm_tl2.specs.State.{LocalState, look_of, next_write, read_of, recorded}
use Rattle.dstm_tl2.specs.Words.{Table, objects, place}
use Rattle.dstm_tl2.specs.Words.Word.{ClockWord}
use Rattle.dstm_tl2_words.specs.Seats.{caller_view, view_of, Home, IsOf, Makes, View}
use Rattle.dstm_tl2_order.specs.declared.again.TlAgain.{TlAgain}
use Rattle.dstm_tl2_steps.specs.declared.steps.Steps.{Steps}
use Rattle.dstm_tl2_order.specs.Calls.{answer_of, state_after, IsCall}
use Rattle.dstm_tl2_order.specs.Order.{Due, IsDue, draws, due, locks}
use Rattle.dstm_tl2_order.specs.Order.Due.{Done}
use Rattle.dstm_tl2_order.specs.Tasks.{Task}
use Rattle.dstm_tl2_steps.specs.Under.{answer_by, made_by, now, Began, Under, Went}

pub is_something : {A : Type 0} (o : Option A) → o ≢ None → is_some o ≡ true
is_something None h = absurd (h refl)
is_something (Some x) h = refl

-- ---- where a Draw and a Lock are allowed

pub draw_allowed : (t : Table) (l : LocalState) {k : Kind} (ws : List (ℕ × Val)) (c p found : ℕ) → k ≡ draws ws →
    p ≡ place t ClockWord → 0 < l.begun → IsTold l ws → l.drawn ≡ None → l.failed ≡ false → l.gave_back ≡ false →
    l.locked ≡ length ws → AllowedAs k t l (event_by Add c k p found)
draw_allowed t l {k = k} ws c p found same there begun told undrawn sound kept locked =
    rw same (there, (refl, refl), (begun, told, undrawn, sound, kept, locked), tt)

pub lock_allowed : (t : Table) (l : LocalState) {k : Kind} (ws : List (ℕ × Val)) (c p o word found : ℕ) →
    k ≡ locks ws → p ≡ o → o < objects t → IsTold l ws → l.drawn ≡ None → l.failed ≡ false → l.gave_back ≡ false →
    l.locked < length ws → (next_write l ws).0 ≡ o → is_some (read_of o l.reads) ≡ true → recorded o l.reads ≡ word →
    AllowedAs k t l (event_by (Exchange word (word + 1)) c k p found)
lock_allowed t l {k = k} ws c p o word found same there exists told undrawn sound kept left next read recorded_word =
    rw same (
      there ∙ sym next,
      rw (ap (λ o. recorded o l.reads) next ∙ recorded_word) (refl, refl),
      (told, undrawn, sound, kept, left, rw next read),
      rw next exists,
    )

-- ---- what a step tells

-- only a Sample takes another sample, and begins an attempt
pub sample_kept : (k : Kind) (t : Table) (l : LocalState) (e : Event) → is_sample k ≡ false →
    ((after k t l e).sample ≡ l.sample) × ((after k t l e).begun ≡ l.begun)
sample_kept Sample t l e q = absurd (cc)
sample_kept LookAgain t l e q =
    cond_both (e.found == (look_of l).word) (record_read l) (record l { look = None })
    (λ (m : LocalState). (m.sample ≡ l.sample) × (m.begun ≡ l.begun)) (λ _. (refl, refl)) (λ _. (refl, refl))
sample_kept (Lock w) t l e q =
    cond_both (e.found == e.expected) (lock l w.value) (record l { look = None; writes = Some w.value; failed = true })
    (λ (m : LocalState). (m.sample ≡ l.sample) × (m.begun ≡ l.begun)) (λ _. (refl, refl)) (λ _. (refl, refl))
sample_kept k t l e q = (refl, refl)

module _ {L : Type 0} {holds : L → List Val → Type 0} {home : Home L} {b : Began} where
  -- the caller's number, by its seat
  pub number_of : {steps : Steps L} {d : Due} {a : Option TlAgain} → Under holds home b steps d a →
      (view_of steps.seat).number ≡ Some b.number
  number_of u = ap (λ (v : View L). v.number) u.view

  module _ {old : Steps L} (new : Steps L) {e : Event} {d : Due} {a : Option TlAgain} (u : Under holds home b old d a)
      (m : Adds (shared holds) (view_of old.seat) e (view_of new.seat)) (c : e.caller ≡ b.number) where
    own_now : events_of b.number (view_of new.seat).log ≡ e ∷ events_of b.number (view_of old.seat).log
    own_now = seats.own_now (shared holds) b.number (view_of old.seat) (view_of new.seat) e (number_of u) m c

    view_now : view_of new.seat ≡ caller_view home.terms b.number (view_of new.seat).log
    view_now =
        seats.view_now (shared holds) b.number (view_of old.seat) (view_of new.seat) e (number_of u) m c
        home.terms u.view

    -- the state after it
    state_now : now home new ≡ after e.kind (table_of home.terms) (now home old) e
    state_now =
        seats.state_now (shared holds) b.number (view_of old.seat) (view_of new.seat) e (number_of u) m c
        (table_of home.terms)

    -- the call goes on
    under_adds : IsOf home new.seat → IsDue (table_of home.terms) d e → new.places ≡ old.places →
        new.sample ≡ (after e.kind (table_of home.terms) (now home old) e).sample →
        Under holds home b new (due b.task (table_of home.terms) (Some e) (now home new)) (answer_by (now home old) e a)
    under_adds seat is places sample =
        let t : Table = table_of home.terms in record {
          seat = seat;
          view = view_now;
          caller = u.caller;
          run = subst (λ o. IfSome o (λ terms. IsRunOf holds terms (view_of new.seat).log)) u.seat.2 m.run;
          seen = past_past _ _ _ u.seen (record { later = e ∷ m.log.0; whole = sym m.log.1 });
          places = places ∙ u.places;
          sample = sample ∙ ap (λ (l : LocalState). l.sample) (sym state_now);
          events = e ∷ u.events;
          own = own_now ∙ ap (λ es. e ∷ es) u.own;
          state = state_now ∙ ap (λ l. after e.kind t l e) u.state;
          obeys = (u.obeys, subst (λ d. IsDue t d e) (sym (rw (← u.state) u.due)) is);
          due = refl;
          gives = rw (← u.state, u.gives) refl;
        }

  -- THE CALL GOES ON with an event that the seat's caller made, of a kind at a place, which were due.
  pub went_by : {old new : Steps L} {d : Due} {a : Option TlAgain} {told k : Kind} {at p found : ℕ} (way : Access) →
      Under holds home b old d a → Makes holds (view_of old.seat) way told at found (view_of new.seat) →
      told ≡ k → at ≡ p → IsOf home new.seat → IsDue (table_of home.terms) d (made_by b way k p found) →
      new.places ≡ old.places →
      new.sample ≡ (after k (table_of home.terms) (now home old) (made_by b way k p found)).sample →
      Went holds home b old new a (made_by b way k p found)
  went_by {old = old} {new = new} {k = k} {at = at} {p = p} {found = found} way u makes same there seat is places sample =
      let e : Event = made_by b way k p found in
      let makes_k : Makes holds (view_of old.seat) way k p found (view_of new.seat) =
      subst (λ p. Makes holds (view_of old.seat) way k p found (view_of new.seat)) there
      (subst (λ k. Makes holds (view_of old.seat) way k at found (view_of new.seat)) same makes) in
      let adds : Adds (shared holds) (view_of old.seat) e (view_of new.seat) =
      seats.makes_by (shared holds) b.number (view_of old.seat) (view_of new.seat) way k p found (number_of u)
      makes_k in
      record {
        state = state_now new u adds refl;
        goes_on = under_adds new u adds refl seat is places sample;
      }

  -- The same of an event that is no Sample.
  pub went_on : {old new : Steps L} {d : Due} {a : Option TlAgain} {told k : Kind} {at p found : ℕ} (way : Access) →
      Under holds home b old d a → Makes holds (view_of old.seat) way told at found (view_of new.seat) →
      told ≡ k → at ≡ p → IsOf home new.seat → IsDue (table_of home.terms) d (made_by b way k p found) →
      new.places ≡ old.places → new.sample ≡ old.sample → is_sample k ≡ false →
      Went holds home b old new a (made_by b way k p found)
  went_on {old = old} {k = k} {p = p} {found = found} way u makes same there seat is places sample kind =
      went_by way u makes same there seat is places (sample ∙ u.sample
      ∙ sym (sample_kept k (table_of home.terms) (now home old) (made_by b way k p found) kind).0)

  -- ---- the begin and the end of a call

  -- The same due and the same answer, written otherwise.
  pub under_is : {steps : Steps L} {d f : Due} {a c : Option TlAgain} → Under holds home b steps d a → d ≡ f → a ≡ c →
      Under holds home b steps f c
  under_is {steps = steps} {d = d} {f = f} {a = a} u q r = subst (Under holds home b steps f) r (rw (← q) u)

  -- A CALL THAT ENDS IS A CALL: each of its events was due, and nothing more is; it answers what its events say.
  pub call_of : {steps : Steps L} {a : Option TlAgain} (u : Under holds home b steps Done a) →
      IsCall b.task (table_of home.terms) b.state u.events
      × (a ≡ answer_of (table_of home.terms) b.state u.events)
      × (events_of b.number (view_of steps.seat).log ≡ u.events ++ events_of b.number b.log)
      × (now home steps ≡ state_after (table_of home.terms) b.state u.events)
      × IsPastOf b.log (view_of steps.seat).log
      × IsRunOf holds home.terms (view_of steps.seat).log
  call_of u = (record { obeys = u.obeys; done = rw (← u.state) u.due }, sym u.gives, u.own, u.state, u.seen, u.run)

-- a call with this task begins as the steps are now
abbrev pub began_as : {L : Type 0} → Home L → Task → (number : ℕ) → Steps L → Began
began_as home task number steps = record {
  task = task;
  number = number;
  state = now home steps;
  log = (view_of steps.seat).log;
}
