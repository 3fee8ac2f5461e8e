-- An attempt that runs has drawn no number.
use Rattle.std.proofs.Common.{◌≡◌, ◌≢◌, ◌⊎◌, ℕ, ◌==◌, length, List, [], ◌∷◌, None, refl, inl, inr}
use Rattle.std.proofs.lemmas.Bool.{cond_both}
use Rattle.dstm_core.specs.Events.{Event}
use Rattle.dstm_core.specs.declared.event.Kind.{Kind}
use Rattle.dstm_core.specs.declared.event.Kind.TheVariants.{Begin, Install, LookSelf, PutHigh, PutNew, Validating as ToValidating, Draw, Commit, Quit, Pause, Resume}
use Rattle.dstm_core.specs.declared.shape.Shape.{Shape}
use Rattle.dstm_core.specs.declared.state.Phase.TheVariants.{Outside, Running, Paused, Putting, Drawn}
use Rattle.dstm_core.specs.Rules.{AllowedAs, after}
use Rattle.dstm_core.specs.Runs.{Core, local}
use Rattle.dstm_core.specs.State.{LocalState, given}
use Rattle.dstm_core.proofs.Static.{callers}

abbrev IsUndrawn : LocalState → Type 0
IsUndrawn l = (l.phase ≡ Drawn) ⊎ (l.phase ≡ Outside) ⊎ (l.drawn ≡ None)

none_drawn : (l : LocalState) → IsUndrawn l → l.phase ≢ Drawn → l.phase ≢ Outside → l.drawn ≡ None
none_drawn l (inl p) d o = absurd (d p)
none_drawn l (inr (inl p)) d o = absurd (o p)
none_drawn l (inr (inr p)) d o = p

in_running : (l : LocalState) → IsUndrawn l → l.phase ≡ Running → l.drawn ≡ None
in_running l h p = none_drawn l h (λ q. cc) (λ q. cc)

in_putting : (l : LocalState) → IsUndrawn l → l.phase ≡ Putting → l.drawn ≡ None
in_putting l h p = none_drawn l h (λ q. cc) (λ q. cc)

in_paused : (l : LocalState) → IsUndrawn l → l.phase ≡ Paused → l.drawn ≡ None
in_paused l h p = none_drawn l h (λ q. cc) (λ q. cc)

in_either : (l : LocalState) → IsUndrawn l → (l.phase ≡ Running) ⊎ (l.phase ≡ Putting) → l.drawn ≡ None
in_either l h (inl p) = in_running l h p
in_either l h (inr p) = in_putting l h p

undrawn_step : (s : Shape) (l : LocalState) (e : Event) (k : Kind) → AllowedAs k s l e → IsUndrawn l →
    IsUndrawn (after k s l e)
undrawn_step s l e Begin a h = inr (inr refl)
undrawn_step s l e Draw a h = inl refl
undrawn_step s l e Commit a h = inr (inl refl)
undrawn_step s l e Quit a h = inr (inl refl)
undrawn_step s l e LookSelf a h = cond_both (e.found == given l.phase) _ _ IsUndrawn (λ _. h) (λ _. inr (inl refl))
undrawn_step s l e Install a h = cond_both (e.found == e.expected) _ _ IsUndrawn (λ _. h) (λ _. h)
undrawn_step s l e ToValidating a h =
    cond_both (e.found == 1) _ _ IsUndrawn (λ _. inr (inr (begun a.2.0))) (λ _. inr (inl refl))
  where
    begun : ((l.phase ≡ Running) × (l.writes ≡ [])) ⊎ ((l.phase ≡ Putting) × (l.written ≡ length l.writes)) →
        l.drawn ≡ None
    begun (inl p) = in_running l h p.0
    begun (inr p) = in_putting l h p.0
undrawn_step s l e Pause a h =
    cond_both (e.found == 1) _ _ IsUndrawn (λ _. inr (inr (in_running l h a.2.0))) (λ _. inr (inl refl))
undrawn_step s l e Resume a h =
    cond_both (e.found == 2) _ _ IsUndrawn (λ _. inr (inr (in_paused l h a.2.0))) (λ _. inr (inl refl))
undrawn_step s l e PutHigh a h = inr (inr (in_either l h a.2.0))
undrawn_step s l e PutNew a h = inr (inr (in_putting l h a.2.0))
undrawn_step s l e k a h = h

all_undrawn : (s : Shape) (es : List Event) → Core s es → (c : ℕ) → IsUndrawn (local s es c)
all_undrawn s [] core c = inr (inl refl)
all_undrawn s (e ∷ es) core c =
    callers s es e (λ c l. IsUndrawn l)
    (undrawn_step s (local s es e.caller) e e.kind core.1.allowed (all_undrawn s es core.0 e.caller))
    (λ c _. all_undrawn s es core.0 c) c

pub running_undrawn : (s : Shape) (es : List Event) → Core s es → (c : ℕ) → (local s es c).phase ≡ Running →
    (local s es c).drawn ≡ None
running_undrawn s es core c p = in_running (local s es c) (all_undrawn s es core c) p
