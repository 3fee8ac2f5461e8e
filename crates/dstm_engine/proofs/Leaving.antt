-- An attempt that is quit.
use Rattle.std.proofs.Common.{◌*◌, ◌<◌, ◌∙◌, ◌∷◌, ◌≡◌, List, [], ap, inl, inr, refl, subst, sym, true, false, ℕ}
use Rattle.std.specs.Prelude.{IfSome, None, Option, Some, is_some}
use Rattle.dstm_engine.proofs.Base.{AllowedAs, Event, Exchange, Home, IsCall, IsRunOf, Lcg, Leaving, LocalState, Makes, Outside, Quit, Running, Shape, StatusWord, Val, View, caller_state, given, leave, made, own_attempt, place}
use Rattle.dstm_core.proofs.Columns.{own_in}
use Rattle.dstm_core.proofs.Static.{static}
use Rattle.dstm_words.proofs.Seats.{state_after}
use Rattle.dstm_engine.specs.Callers.{Called, is_live, seat_view, shape_of, state}
use Rattle.dstm_engine.specs.Calls.{IsMade, Performs}

-- the own attempt of a caller that is running one
pub own_below : {L : Type 0} {holds : L → List Val → Type 0} (k : Called L) → IsRunOf holds k.home.terms k.log →
    k.number < (shape_of k).callers → (state k).phase ≡ Running →
    own_attempt (shape_of k) (state k) < (shape_of k).callers * (shape_of k).attempts
own_below k run few ph =
    own_in (shape_of k) k.number (state k) (static (shape_of k) k.log run.run.core k.number) few (λ h. cc)

pub quit_allowed : {L : Type 0} (k : Called L) {h : Home L} {v : View L} (p found : ℕ) → k.home ≡ h → v ≡ seat_view k →
    (state k).phase ≡ Running → own_attempt (shape_of k) (state k) < (shape_of k).callers * (shape_of k).attempts →
    p ≡ place h.terms.shape (StatusWord (own_attempt (shape_of k) (state k))) →
    AllowedAs Quit h.terms.shape (caller_state h.terms v) (made v (Exchange 1 5) Quit p found)
quit_allowed {L = L} k {h = h} {v = v} p found home view ph below at =
    subst (λ (h : Home L). AllowedAs Quit h.terms.shape (caller_state h.terms v) (made v (Exchange 1 5) Quit p found))
    home (subst (λ (v : View L). AllowedAs Quit (shape_of k) (caller_state k.home.terms v)
    (made v (Exchange 1 5) Quit p found)) (sym view) (here, (sym (ap given ph), rw ph refl), (λ q. cc), below))
  where
    here : p ≡ place (shape_of k) (StatusWord (own_attempt (shape_of k) (state k)))
    here =
        at
        ∙ ap (λ (h : Home L). place h.terms.shape (StatusWord (own_attempt (shape_of k) (state k)))) (sym home)

leaving : (s : Shape) (l : LocalState) (gen : Lcg) (e : Event) → e.kind ≡ Quit → l.phase ≡ Running →
    IsCall Leaving s l gen (e ∷ [])
leaving s l gen e k ph = record {
  obeys = (tt, rw ph (k, tt));
  done = rw k refl;
}

stays_out : (s : Shape) (l : LocalState) (gen : Lcg) → l.phase ≡ Outside → IsCall Leaving s l gen []
stays_out s l gen ph = record { obeys = tt; done = rw ph refl }

-- an attempt that was abandoned
pub not_made : {L : Type 0} (k : Called L) → is_live k ≡ false → k.left ≡ None → (state k).committed ≡ false →
    IsMade k → ⊥
not_made k dead left undone (inl x) = cc
not_made k dead left undone (inr (inl x)) = let z : is_some k.left ≡ true = x in cc
not_made k dead left undone (inr (inr x)) = cc

-- nothing is known of what is not there
pub none_holds : {A : Type 0} (o : Option A) (P : A → Type 0) → o ≡ None → IfSome o P
none_holds None P h = tt
none_holds (Some x) P h = absurd (cc)

-- nothing is done where no attempt is live
pub left_already : {L : Type 0} {holds : L → List Val → Type 0} (k : Called L) → IsRunOf holds k.home.terms k.log →
    (state k).phase ≡ Outside → Performs holds Leaving k k None
left_already k run ph = record {
  acts = record {
    events = [];
    own = refl;
    call = stays_out (shape_of k) (state k) k.generator ph;
    answers = refl;
    seen = record { later = []; whole = refl };
    run = run;
    generator = refl;
  };
  same = (refl, refl);
}

module _ {L : Type 0} {holds : L → List Val → Type 0} (k : Called L) {w : View L} {p found : ℕ}
    (m : Makes holds (seat_view k) (Exchange 1 5) Quit p found w) where
  -- the state after the Quit, and what the seat then knows
  pub quit_state : state (record k { log = w.log }) ≡ leave (state k)
  quit_state =
      ap (λ (x : View L). caller_state k.home.terms (record w { number = x.number })) (sym m.view)
      ∙ state_after holds k.home.terms (seat_view k) w (Exchange 1 5) Quit p found m

  pub quit_view : w ≡ seat_view (record k { log = w.log })
  quit_view = m.view

  pub quit_run : IsRunOf holds k.home.terms w.log
  quit_run = m.run

  pub quits : (state k).phase ≡ Running → Performs holds Leaving k (record k { log = w.log }) None
  quits ph = record {
    acts = record {
      events = made (seat_view k) (Exchange 1 5) Quit p found ∷ [];
      own = m.mine;
      call = leaving (shape_of k) (state k) k.generator (made (seat_view k) (Exchange 1 5) Quit p found) refl ph;
      answers = refl;
      seen = record { later = made (seat_view k) (Exchange 1 5) Quit p found ∷ m.log.0; whole = sym m.log.1 };
      run = quit_run;
      generator = refl;
    };
    same = (refl, refl);
  }
