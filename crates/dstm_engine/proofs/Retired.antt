-- What a retired caller has committed is told by its founder's log.
use Rattle.std.proofs.Common.{◌&&◌, ◌++◌, ◌==◌, ◌∙◌, ◌∷◌, ◌≡◌, List, [], arith, refl, subst, sym, true, false}
use Rattle.std.specs.Prelude.{Bool, Contains, IfSome, None, Option, Some, if◌then◌else◌}
use Rattle.dstm_opacity.proofs.Stays.{NoneCommits, call_adds_none, told_stays}
use Rattle.std.proofs.lemmas.List.Elements.{All-cons, All-nil}
use Rattle.dstm_engine.proofs.Base.{Core, Done, Event, IsDue, IsRunOf, Joined, Kind, Lcg, Leaving, LocalState, Obeys, Quit, Shape, Terms, Val, View, done_by, events_of, has_committed, is_commit, is_outside, just, state_after}
use Rattle.dstm_engine.specs.Attempts.{done}
use Rattle.dstm_engine.specs.Callers.{Called, seat_view, shape_of, start_of, state}
use Rattle.dstm_engine.specs.Calls.{Performs}

quit_only : (b : Bool) (e : Event) → IsDue (if b then Done else just Quit) e → e.kind ≡ Quit
quit_only true e h = absurd h
quit_only false e h = h.0

quits_none : (e : Event) (k : Kind) → k ≡ Quit → is_commit k && (e.found == 3) ≡ false
quits_none e Quit h = refl
quits_none e k h = absurd (cc)

-- a call that leaves an attempt makes no Commit
leaving_none : (s : Shape) (l : LocalState) (gen : Lcg) (es : List Event) → Obeys Leaving s l gen es → NoneCommits es
leaving_none s l gen [] h = All-nil (λ (e : Event). has_committed e ≡ false)
leaving_none s l gen (e ∷ es) h =
    All-cons (λ (e : Event). has_committed e ≡ false) e es
    (quits_none e e.kind (quit_only (is_outside (state_after s l es).phase) e h.1)) (leaving_none s l gen es h.0)

-- an attempt that is quit adds nothing to what its caller has committed
pub leaving_done : {L : Type 0} {holds : L → List Val → Type 0} {k quit : Called L} →
    Performs holds Leaving k quit None → done_by (shape_of k) (start_of k) quit.log quit.log k.number ≡ done k
leaving_done {k = k} steps =
    subst (λ xs. done_by (shape_of k) (start_of k) xs xs k.number ≡ done k) steps.seen.whole
    (call_adds_none (shape_of k) (start_of k) steps.seen.later k.log k.number steps.events
    (subst (Core (shape_of k)) (sym steps.seen.whole) steps.run.run.core)
    (subst (λ xs. events_of k.number xs ≡ steps.events ++ events_of k.number k.log) (sym steps.seen.whole) steps.own)
    (leaving_none (shape_of k) (state k) k.generator steps.events steps.call.obeys))

-- the founder's log is a run of the table
pub retired_run : {L : Type 0} {holds : L → List Val → Type 0} {v other w : View L} {terms : Terms L} →
    Joined holds v other w → v.terms ≡ Some terms → IsRunOf holds terms w.log
retired_run {L = L} {holds = holds} {w = w} joined is =
    subst (λ (o : Option (Terms L)). IfSome o (λ (t : Terms L). IsRunOf holds t w.log)) is joined.run

module _ {L : Type 0} {holds : L → List Val → Type 0} {v w : View L} {k quit : Called L}
    (steps : Performs holds Leaving k quit None) (joined : Joined holds v (seat_view quit) w) where
  one_of : Contains (quit.number ∷ []) k.number
  one_of = (0, omega arith, steps.same.1)

  -- what a retired caller has committed is the same in the founder's log
  pub retired_done : v.terms ≡ Some k.home.terms →
      done_by (shape_of k) (start_of k) w.log w.log k.number ≡ done k
  retired_done terms =
      let run : IsRunOf holds k.home.terms w.log = retired_run joined terms in
      subst (λ xs. done_by (shape_of k) (start_of k) xs xs k.number
      ≡ done_by (shape_of k) (start_of k) quit.log quit.log k.number) joined.other_past.whole
      (told_stays (shape_of k) (start_of k) joined.other_past.later quit.log k.number
      (subst (Core (shape_of k)) (sym joined.other_past.whole) run.run.core)
      (subst (λ xs. events_of k.number xs ≡ events_of k.number quit.log) (sym joined.other_past.whole)
      (joined.other_kept k.number one_of)))
      ∙ leaving_done steps
