-- What sharing the words of the machine stands on, beside how callers enrol.
use Rattle.std.proofs.Common.{◌≡◌, ◌≢◌, ◌⊎◌, ℕ, ◌<◌, true, List, ◌∷◌, Some, None, is_some, ap, ◌∙◌, subst, arith, inl, inr}
use Rattle.dstm_core.proofs.Base.{AllowedAs, CallersWord, Core, Enrol, Event, Kind, LocalState, Shape, local, place, target, word_count}
use Rattle.dstm_core.proofs.Enrolment.{has_number, lies_elsewhere}
use Rattle.dstm_core.proofs.LeftWords.{place_in}
use Rattle.dstm_core.proofs.Static.{static, local_own}

-- an event lies in the table
pub inside : (s : Shape) (l : LocalState) (e : Event) (k : Kind) → AllowedAs k s l e → e.place < word_count s
inside s l e k a = let p = a.0 in let x = place_in s (target k s l e) a.3 in omega arith

-- an event of a caller that has a number is no Enrol, and lies elsewhere
pub later : (s : Shape) (l : LocalState) (e : Event) (k : Kind) (n : ℕ) → l.number ≡ Some n → AllowedAs k s l e →
    (k ≢ Enrol) × (e.place ≢ place s CallersWord)
later s l e k n has a = (no_enrol, lies_elsewhere s l e k no_enrol a)
  where
    no_enrol : k ≢ Enrol
    no_enrol is =
        let may : AllowedAs Enrol s l e = subst (λ k. AllowedAs k s l e) is a in
        let none : l.number ≡ None = may.2 in cc

-- after an event of a run its caller has its number
pub named : (s : Shape) (log : List Event) (e : Event) → Core s (e ∷ log) →
    (local s (e ∷ log) e.caller).number ≡ Some e.caller
named s log e core = go (static s (e ∷ log) core e.caller).number
  where
    some : is_some (local s (e ∷ log) e.caller).number ≡ true
    some = ap (λ (l : LocalState). is_some l.number) (local_own s log e)
        ∙ has_number s e.caller (local s log e.caller) e e.kind (static s log core.0 e.caller) core.1.allowed

    go : ((local s (e ∷ log) e.caller).number ≡ None) ⊎ ((local s (e ∷ log) e.caller).number ≡ Some e.caller) →
        (local s (e ∷ log) e.caller).number ≡ Some e.caller
    go (inl none) = absurd (let is = some in cc)
    go (inr is) = is
