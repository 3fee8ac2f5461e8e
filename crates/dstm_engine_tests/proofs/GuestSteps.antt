-- What the rules allow a guest they allow whatever it finds, and its state goes on by it.
use Rattle.std.proofs.Common.{◌≡◌, ℕ, List, Some, refl, sym, ap, ◌∙◌, subst, eq-eqb}
use Rattle.std.specs.Prelude.{◌==◌, true, if◌then◌else◌}
use Rattle.atomic_table.specs.declared.shared.Seat.{Seat}
use Rattle.dstm_core.specs.Events.{Event}
use Rattle.dstm_core.specs.Rules.{AllowedAs, after}
use Rattle.dstm_core.specs.State.{LocalState}
use Rattle.dstm_core.specs.Traces.{Access, Acts}
use Rattle.dstm_core.specs.declared.event.Kind.{Kind}
use Rattle.dstm_core.specs.declared.event.Kind.TheVariants.{Enrol, Rank, Begin, LookObj, PutOwner, PutOld, Install, LookNumber, LookSelf, PutHigh, PutNew, Validating, Draw, Commit}
use Rattle.dstm_core.specs.declared.shape.Shape.{Shape}
use Rattle.dstm_model.specs.declared.value.Val.{Val}
use Rattle.dstm_machines.specs.Traces.Access.{Load, Store, Exchange, Add}
use Rattle.dstm_words.specs.Seats.{ActsBy, event_by, Home, IsOf, MayMake, caller_state, view_of, Makes, number_or, View}
use Rattle.dstm_words.proofs.Seats.{number_after, state_after}
use Rattle.dstm_engine_tests.specs.Guests.{GoesOnBy, IsGuest, is_add, is_exchange, is_load, is_store}

-- ---- how a guest's event acts

pub adds : (k : Kind) → is_add k ≡ true → ActsBy k Add
adds Enrol q s l e = refl
adds Draw q s l e = refl
adds k q s l e = absurd (cc)

pub loads : (k : Kind) → is_load k ≡ true → ActsBy k Load
loads LookObj q s l e = refl
loads LookNumber q s l e = refl
loads LookSelf q s l e = refl
loads k q s l e = absurd (cc)

-- an exchange that finds what it expects puts what its event says
exchanges : (e : Event) (x v : ℕ) → e.expected ≡ e.found → Acts (Exchange x v) e →
    Exchange x v ≡ Exchange e.expected e.put
exchanges e x v q acts =
    let found : (e.found == x) ≡ true = eq-eqb e.found x (sym q ∙ acts.0) in
    let put : e.put ≡ v = acts.1 ∙ ap (λ b. if b then v else e.found) found in
    ap (λ n. Exchange n v) (sym acts.0) ∙ ap (Exchange e.expected) (sym put)

-- ---- what is allowed does not depend on what is found

module _ (s : Shape) (l : LocalState) (e : Event) (c found : ℕ) where
  add_any : (k : Kind) → is_add k ≡ true → AllowedAs k s l e → AllowedAs k s l (event_by Add c k e.place found)
  add_any Enrol q a = (a.0, (refl, refl), a.2, a.3)
  add_any Draw q a = (a.0, (refl, refl), a.2, a.3)
  add_any k q a = absurd (cc)

  load_any : (k : Kind) → is_load k ≡ true → AllowedAs k s l e → AllowedAs k s l (event_by Load c k e.place found)
  load_any LookObj q a = (a.0, (refl, refl), a.2, a.3)
  load_any LookNumber q a = (a.0, (refl, refl), a.2, a.3)
  load_any LookSelf q a = (a.0, (refl, refl), a.2, a.3)
  load_any k q a = absurd (cc)

  store_any : (k : Kind) → is_store k ≡ true → AllowedAs k s l e →
      AllowedAs k s l (event_by (Store e.put) c k e.place found)
  store_any Rank q a = (a.0, (refl, refl), a.2, a.3)
  store_any Begin q a = (a.0, (refl, a.1.1), a.2, a.3)
  store_any PutOwner q a = (a.0, (refl, a.1.1), a.2, a.3)
  store_any PutOld q a = (a.0, (refl, a.1.1), a.2, a.3)
  store_any PutHigh q a = (a.0, (refl, refl), a.2, a.3)
  store_any PutNew q a = (a.0, (refl, refl), a.2, a.3)
  store_any k q a = absurd (cc)

  -- an exchange acts as its event does, whatever it finds
  acts_too : (k : Kind) (x v : ℕ) → e.expected ≡ e.found → Acts (Exchange x v) e →
      Acts (Exchange x v) (event_by (Exchange e.expected e.put) c k e.place found)
  acts_too k x v same acts =
      subst (λ w. Acts w (event_by (Exchange e.expected e.put) c k e.place found)) (sym (exchanges e x v same acts))
      (refl, refl)

  exchange_any : (k : Kind) → is_exchange k ≡ true → e.expected ≡ e.found → AllowedAs k s l e →
      AllowedAs k s l (event_by (Exchange e.expected e.put) c k e.place found)
  exchange_any Install q x a = (a.0, acts_too Install _ _ x a.1, a.2, a.3)
  exchange_any Validating q x a = (a.0, acts_too Validating _ _ x a.1, a.2, a.3)
  exchange_any Commit q x a = (a.0, acts_too Commit _ _ x a.1, a.2, a.3)
  exchange_any k q x a = absurd (cc)

  -- ---- and the state after an event that finds what it is to find is that of the event

  add_goes_on : (k : Kind) → is_add k ≡ true → found ≡ e.found →
      after k s l (event_by Add c k e.place found) ≡ after k s l e
  add_goes_on Enrol q f = ap (λ n. record l { number = Some n }) f
  add_goes_on Draw q f = ap (λ n. after Draw s l (event_by Add c Draw e.place n)) f
  add_goes_on k q f = absurd (cc)

  load_goes_on : (k : Kind) → is_load k ≡ true → found ≡ e.found →
      after k s l (event_by Load c k e.place found) ≡ after k s l e
  load_goes_on LookObj q f = ap (λ n. after LookObj s l (event_by Load c LookObj e.place n)) f
  load_goes_on LookNumber q f = ap (λ n. after LookNumber s l (event_by Load c LookNumber e.place n)) f
  load_goes_on LookSelf q f = ap (λ n. after LookSelf s l (event_by Load c LookSelf e.place n)) f
  load_goes_on k q f = absurd (cc)

  store_goes_on : (k : Kind) → is_store k ≡ true →
      after k s l (event_by (Store e.put) c k e.place found) ≡ after k s l e
  store_goes_on Rank q = refl
  store_goes_on Begin q = refl
  store_goes_on PutOwner q = refl
  store_goes_on PutOld q = refl
  store_goes_on PutHigh q = refl
  store_goes_on PutNew q = refl
  store_goes_on k q = absurd (cc)

  exchange_goes_on : (k : Kind) → is_exchange k ≡ true → found ≡ e.found →
      after k s l (event_by (Exchange e.expected e.put) c k e.place found) ≡ after k s l e
  exchange_goes_on Install q f =
      ap (λ n. after Install s l (event_by (Exchange e.expected e.put) c Install e.place n)) f
  exchange_goes_on Validating q f =
      ap (λ n. after Validating s l (event_by (Exchange e.expected e.put) c Validating e.place n)) f
  exchange_goes_on Commit q f =
      ap (λ n. after Commit s l (event_by (Exchange e.expected e.put) c Commit e.place n)) f
  exchange_goes_on k q f = absurd (cc)

-- ---- the calls on a table's words

module _ {L : Type 0} (home : Home L) where
  -- a guest stays one
  stays_guest : (holds : L → List Val → Type 0) (before now : Seat ℕ (View L)) (way : Access) (k : Kind)
      (p found : ℕ) → IsGuest home before → IsOf home now → Makes holds (view_of before) way k p found (view_of now) →
      IsGuest home now
  stays_guest holds before now way k p found g of m = record {
    table = of;
    out = (ap (λ v. v.first) m.view ∙ g.out.0, ap (λ v. v.apart) m.view ∙ g.out.1);
    enrolment = λ none.
        let numbered = number_after holds (view_of before) (view_of now) way k p found m in absurd (cc);
  }

  module _ (seat : Seat ℕ (View L)) (e : Event)
      (a : AllowedAs e.kind home.terms.shape (caller_state home.terms (view_of seat)) e) where
    pub may_add : is_add e.kind ≡ true → MayMake home.terms (view_of seat) Add e.kind e.place
    may_add q found below =
        add_any home.terms.shape (caller_state home.terms (view_of seat)) e
        (number_or (view_of seat).number found) found e.kind q a

    pub may_load : is_load e.kind ≡ true → MayMake home.terms (view_of seat) Load e.kind e.place
    may_load q found below =
        load_any home.terms.shape (caller_state home.terms (view_of seat)) e
        (number_or (view_of seat).number found) found e.kind q a

    pub may_store : is_store e.kind ≡ true → MayMake home.terms (view_of seat) (Store e.put) e.kind e.place
    may_store q found below =
        store_any home.terms.shape (caller_state home.terms (view_of seat)) e
        (number_or (view_of seat).number found) found e.kind q a

    pub may_exchange : is_exchange e.kind ≡ true → e.expected ≡ e.found →
        MayMake home.terms (view_of seat) (Exchange e.expected e.put) e.kind e.place
    may_exchange q x found below =
        exchange_any home.terms.shape (caller_state home.terms (view_of seat)) e
        (number_or (view_of seat).number found) found e.kind q x a

  module _ (holds : L → List Val → Type 0) (before now : Seat ℕ (View L)) (e : Event) (found : ℕ)
      (g : IsGuest home before) (of : IsOf home now) where
    -- an event that the seat has made in one of these ways
    went : (way : Access) (other : ℕ) → Makes holds (view_of before) way e.kind e.place other (view_of now) →
        (found ≡ e.found → after e.kind home.terms.shape (caller_state home.terms (view_of before))
        (event_by way (number_or (view_of before).number other) e.kind e.place other)
        ≡ after e.kind home.terms.shape (caller_state home.terms (view_of before)) e) → GoesOnBy home before now e found
    went way other m same = record {
      guest = stays_guest holds before now way e.kind e.place other g of m;
      state = λ f. state_after holds home.terms (view_of before) (view_of now) way e.kind e.place other m ∙ same f;
    }

    pub added : is_add e.kind ≡ true → Makes holds (view_of before) Add e.kind e.place found (view_of now) →
        GoesOnBy home before now e found
    added q m = went Add found m (add_goes_on _ _ e _ found e.kind q)

    pub loaded : is_load e.kind ≡ true → Makes holds (view_of before) Load e.kind e.place found (view_of now) →
        GoesOnBy home before now e found
    loaded q m = went Load found m (load_goes_on _ _ e _ found e.kind q)

    pub stored : is_store e.kind ≡ true → (other : ℕ) →
        Makes holds (view_of before) (Store e.put) e.kind e.place other (view_of now) →
        GoesOnBy home before now e found
    stored q other m = went (Store e.put) other m (λ f. store_goes_on _ _ e _ other e.kind q)

    pub exchanged : is_exchange e.kind ≡ true →
        Makes holds (view_of before) (Exchange e.expected e.put) e.kind e.place found (view_of now) →
        GoesOnBy home before now e found
    exchanged q m = went (Exchange e.expected e.put) found m (exchange_goes_on _ _ e _ found e.kind q)
