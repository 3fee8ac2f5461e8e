-- Calls that were made one after the other add up.
use Rattle.std.proofs.Common.{◌≡◌, ◌≤◌, ◌∙◌, ◌++◌, ◌∷◌, List, [], ap, append_assoc, arith, length, length-append, refl, subst, sym}
use Rattle.dstm_machines.proofs.Own.{state_both}
use Rattle.dstm_tl2.proofs.Base.{LocalState, Table, events_of, first, tl2}
use Rattle.dstm_tl2_order.specs.Calls.{IsCall, state_after}
use Rattle.dstm_tl2_order.specs.Lives.{LivesAreBounded}
use Rattle.dstm_tl2_order.specs.Made.{AreMade, Call, LocksItsWrites, events_in, prices, state_by}
use Rattle.dstm_tl2_order.specs.Tasks.{Task}
use Rattle.dstm_tl2_order.proofs.Bounded.{bounded}

-- ---- some calls behind others

pub events_both : (cs ds : List Call) → events_in (cs ++ ds) ≡ events_in cs ++ events_in ds
events_both [] ds = refl
events_both (c ∷ cs) ds =
    ap (λ es. c.events ++ es) (events_both cs ds) ∙ sym (append_assoc c.events (events_in cs) (events_in ds))

module _ (t : Table) (l : LocalState) where
  pub states_both : (cs ds : List Call) → state_by t (state_by t l ds) cs ≡ state_by t l (cs ++ ds)
  states_both cs ds =
      sym (state_both tl2 t l (events_in cs) (events_in ds)) ∙ sym (ap (state_after t l) (events_both cs ds))

  pub made_both : (May : LocalState → Task → Type 0) (cs ds : List Call) → AreMade t l May ds →
      AreMade t (state_by t l ds) May cs → AreMade t l May (cs ++ ds)
  made_both May [] ds old new = old
  made_both May (c ∷ cs) ds old new = (
    made_both May cs ds old new.0,
    subst (λ (m : LocalState). May m c.task) (states_both cs ds) new.1,
    subst (λ (m : LocalState). IsCall c.task t m c.events) (states_both cs ds) new.2,
  )

  -- calls that may come here may come where more is allowed
  pub made_where : (May Must : LocalState → Task → Type 0) →
      ((m : LocalState) (task : Task) → May m task → Must m task) → (cs : List Call) → AreMade t l May cs →
      AreMade t l Must cs
  made_where May Must more [] made = tt
  made_where May Must more (c ∷ cs) made =
      (made_where May Must more cs made.0, more (state_by t l cs) c.task made.1, made.2)

  -- each has its price
  pub calls_bounded : (cs : List Call) → AreMade t l LocksItsWrites cs → length (events_in cs) ≤ prices t l cs
  calls_bounded [] made = omega arith
  calls_bounded (c ∷ cs) made =
      let rest = calls_bounded cs made.0 in
      let one = bounded c.task t (state_by t l cs) c.events made.1 made.2.obeys in
      let both = length-append c.events (events_in cs) in omega (arith, rest, one, both)

pub lives_bounded : LivesAreBounded
lives_bounded t log c by =
    let all = calls_bounded t first by.calls by.made in
    let own : length (events_of c log) ≡ length (events_in by.calls) = ap length by.own in omega (arith, all, own)
