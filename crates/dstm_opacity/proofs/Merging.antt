-- Committed attempts in the order of their numbers.
use Rattle.std.proofs.Common.{◌+◌, ◌<◌, ◌∙◌, ◌∷◌, ◌≡◌, List, ap, arith, true}
use Rattle.dstm_core.proofs.Base.{AllowedAs, Core, Event, LocalState, NumbersWord, Val, and_parts, at, commits_at, entry_at, is_draw, local, own_attempt, place, will_of, word}
use Rattle.dstm_opacity.proofs.Base.{Draw, Kind, Shape}
pub use Rattle.dstm_model.proofs.Merging.{tell_all}
use Rattle.dstm_machines.proofs.Callers.{falls}
use Rattle.dstm_core.proofs.Places.{put_at}
use Rattle.dstm_opacity.specs.Committed.{committed_in}
use Rattle.dstm_opacity.specs.Telling.{NumbersFall}
use Rattle.dstm_opacity.proofs.Numbers.{numbers_up}

draw_adds : (s : Shape) (l : LocalState) (e : Event) (k : Kind) → is_draw k ≡ true → AllowedAs k s l e →
    (e.place ≡ place s NumbersWord) × (e.put ≡ e.found + 1)
draw_adds s l e Draw q a = (a.0, a.1.1)
draw_adds s l e k q a = absurd (cc)

pub in_order : (s : Shape) (start : List Val) (run : List Event) → Core s run → NumbersFall (committed_in s start run)
in_order s start run core =
    (falls (commits_at s (will_of s run)) (entry_at s start run) (Core s) (λ e es core. core.0)
    (λ es. word s es NumbersWord) (λ e es core. numbers_up s es e core) draws run core).1
  where
    draws : (e : Event) (es : List Event) → Core s (e ∷ es) → commits_at s (will_of s run) e es ≡ true →
        (e.found ≡ word s es NumbersWord) × (e.found < word s (e ∷ es) NumbersWord)
    draws e es core h =
        let two = and_parts (is_draw e.kind) (will_of s run (own_attempt s (local s es e.caller))) h in
        let adds = draw_adds s (local s es e.caller) e e.kind two.0 core.1.allowed in
        let now : word s (e ∷ es) NumbersWord ≡ e.put = put_at es e (place s NumbersWord) adds.0 in
        let up = adds.1 in (core.1.linked ∙ ap (at es) adds.0, omega arith)
