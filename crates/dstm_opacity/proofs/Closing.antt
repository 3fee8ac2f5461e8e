-- The state of the whole history has the current values.
use Rattle.std.proofs.Common.{◌-◌, ◌<◌, ◌==◌, ◌∙◌, ◌≡◌, List, ap, arith, false, inl, inr, length, refl, ℕ}
use Rattle.dstm_core.proofs.Base.{Core, Event, Val, at, cases_Bool, current_value, current_version, eqb-true, history, ne_eqb, value_at, version_value, will_of}
use Rattle.dstm_opacity.proofs.Base.{Shape}
use Rattle.dstm_core.proofs.Basic.{Names, basic}
use Rattle.dstm_opacity.proofs.Current.{current}
use Rattle.dstm_opacity.proofs.Draws.{committed_drawn}
use Rattle.dstm_opacity.proofs.Sights.{foretold}
use Rattle.dstm_machines.proofs.Orders.{map_after}
use Rattle.dstm_opacity.proofs.States.{state_value}
use Rattle.dstm_opacity.proofs.Versions.{meant, owner_of}

-- the state of the whole history has the current value of each object
pub closing : (s : Shape) (start : List Val) (run : List Event) (o : ℕ) → length start ≡ s.objects → Core s run →
    o < s.objects → value_at (map_after start (history s start (will_of s run) run run)) o ≡ current_value s start run o
closing s start run o long core lt =
    state_value s start (will_of s run) run run o (omega arith)
    ∙ ap (version_value s start run o) (current core (foretold s run) o lt ∙ same ((basic s run core).object o lt))
  where
    same : Names s run (at run o) → meant s (will_of s run) run (at run o) ≡ current_version s run (at run o)
    same (inl z) = rw z refl
    same (inr z) = let b = ((basic s run core).owner (at run o - 1) z.1).begun.below in
        elim (cases_Bool (will_of s run (owner_of s run (at run o)))) [
          | inl w ↦ rw (pos, w, committed_drawn s run core (owner_of s run (at run o)) b (eqb-true _ 4 w)) refl
          | inr w ↦ rw (pos, w) refl
        ]
      where
        pos : at run o == 0 ≡ false
        pos = ne_eqb (at run o) 0 (λ q. let p = z.0 in omega arith)
