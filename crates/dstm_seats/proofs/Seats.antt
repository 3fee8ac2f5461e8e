-- What a seat knows after a step: its number, and the state of its caller.
use Rattle.std.proofs.Common.{◌≡◌, ◌≢◌, ℕ, List, ◌∷◌, Some, None, refl, sym, ap, ◌∙◌, subst, eq-eqb, Option, Contains}
use Rattle.dstm_machines.specs.declared.event.Event.{Event}
use Rattle.dstm_machines.specs.Machines.{Machine, local}
use Rattle.dstm_machines.specs.Sharing.{Shared}
use Rattle.dstm_machines.specs.Traces.{Access, events_of}
use Rattle.dstm_machines.proofs.Runs.{local_own, local-events_of}
use Rattle.dstm_seats.specs.declared.view.View.{View}
use Rattle.dstm_seats.specs.Seats.{caller_view, event_by, events_by, made, number_or, own_events, state_by, Adds, Joined, Makes}
use Rattle.dstm_seats.proofs.Lists.{apart_of}
use Rattle.dstm_machines.proofs.Own.{own_first, same_local}

-- a caller's state is that of its own events
state_of_events : {K B S : Type 0} (machine : Machine K B S) (table : B) (o : Option ℕ) (log : List (Event K))
    (found : ℕ) → local machine table (events_by o log) (number_or o found) ≡ state_by machine table o log
state_of_events machine table (Some c) log found = local-events_of machine table log c
state_of_events machine table None log found = refl

module _ {K T B S : Type 0} (shared : Shared K T B S) where
  pub number_after : (v w : View K T) (way : Access) (kind : K) (place found : ℕ) →
      Makes shared v way kind place found w → w.number ≡ Some (number_or v.number found)
  number_after v w way kind place found m = ap (λ x. x.number) m.view

  -- the state of the seat's caller after its event
  pub state_after : (table : B) (v w : View K T) (way : Access) (kind : K) (place found : ℕ) →
      Makes shared v way kind place found w → state_by shared.machine table w.number w.log
      ≡ shared.machine.after table (state_by shared.machine table v.number v.log) (made v way kind place found)
  state_after table v w way kind place found m =
      let c : ℕ = number_or v.number found in
      let e : Event K = made v way kind place found in
      let state : List (Event K) → S = λ log. local shared.machine table log c in
      ap (λ o. state_by shared.machine table o w.log) (ap (λ x. x.number) m.view)
      ∙ sym (local-events_of shared.machine table w.log c) ∙ ap state m.mine
      ∙ local_own shared.machine table (own_events v) e
      ∙ ap (λ l. shared.machine.after table l e) (state_of_events shared.machine table v.number v.log found)

  -- ---- the same of a caller that has its number

  -- the event that it makes
  pub makes_by : (c : ℕ) (v w : View K T) (way : Access) (kind : K) (place found : ℕ) → v.number ≡ Some c →
      Makes shared v way kind place found w → Adds shared v (event_by way c kind place found) w
  makes_by c v w way kind place found n m = rw (← ap (λ o. number_or o found) n) m

  module _ (c : ℕ) (v w : View K T) (e : Event K) (n : v.number ≡ Some c) (m : Adds shared v e w)
      (mine : e.caller ≡ c) where
    pub number_now : w.number ≡ Some c
    number_now = ap (λ (x : View K T). x.number) m.view ∙ ap Some mine

    -- its events are one more
    pub own_now : events_of c w.log ≡ e ∷ events_of c v.log
    own_now = subst (λ c. events_of c w.log ≡ e ∷ own_events v) mine m.mine ∙ ap (λ o. e ∷ events_by o v.log) n

    pub view_now : (terms : T) → v ≡ caller_view terms c v.log → w ≡ caller_view terms c w.log
    view_now terms is = rw (m.view, is, mine) refl

    pub state_now : (table : B) →
        state_by shared.machine table w.number w.log
        ≡ shared.machine.after table (state_by shared.machine table v.number v.log) e
    state_now table =
        ap (λ o. state_by shared.machine table o w.log) (number_now ∙ ap Some (sym mine))
        ∙ same_local shared.machine table w.log (e ∷ v.log) e.caller
        (subst (λ c. events_of c w.log ≡ events_of c (e ∷ v.log)) (sym mine)
        (own_now ∙ sym (own_first e v.log c (eq-eqb e.caller c mine))))
        ∙ local_own shared.machine table v.log e
        ∙ ap (λ c. shared.machine.after table (local shared.machine table v.log c) e) mine
        ∙ ap (λ o. shared.machine.after table (state_by shared.machine table o v.log) e) (sym n)

  -- a seat that is joined has other numbers than the first one
  pub numbers_differ : (v other w : View K T) (m n : ℕ) → Joined shared v other w → Contains v.numbers m →
      Contains other.numbers n → m ≢ n
  numbers_differ v other w m n j left right same = apart_of v.numbers other.numbers n j.unlike (rw (← same) left) right
