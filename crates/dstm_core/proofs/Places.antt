-- Two words of a shape lie at two places.
use Rattle.std.proofs.Common.{◌≡◌, ◌∷◌, ℕ, List, refl, ap, arith}
use Rattle.dstm_machines.proofs.Runs as runs
use Rattle.dstm_core.proofs.Base.{CallersWord, Event, HasWord, HighWord, LowWord, NumbersWord, ObjectWord, OldWord, OwnerWord, RankWord, Shape, StampsWord, StatusWord, Word, at, place}

pub same_place : (s : Shape) (w v : Word) → HasWord s w → HasWord s v → place s w ≡ place s v → w ≡ v
same_place s (ObjectWord o) (ObjectWord p) g h e = ap ObjectWord e
same_place s (StatusWord o) (StatusWord p) g h e = ap StatusWord (omega arith)
same_place s (RankWord o) (RankWord p) g h e = ap RankWord (omega arith)
same_place s (OwnerWord o) (OwnerWord p) g h e = ap OwnerWord (omega arith)
same_place s (OldWord o) (OldWord p) g h e = ap OldWord (omega arith)
same_place s (LowWord o) (LowWord p) g h e = ap LowWord (omega arith)
same_place s (HighWord o) (HighWord p) g h e = ap HighWord (omega arith)
same_place s CallersWord CallersWord g h e = refl
same_place s NumbersWord NumbersWord g h e = refl
same_place s StampsWord StampsWord g h e = refl
same_place s w v g h e = absurd (omega arith)

-- an event that puts what it found, or that lies elsewhere, keeps a word
pub kept : (es : List Event) (e : Event) (p : ℕ) → e.found ≡ at es e.place → (e.place ≡ p → e.put ≡ e.found) →
    at (e ∷ es) p ≡ at es p
kept = runs.kept (λ p. 0)

-- what an event puts at its word
pub put_at : (es : List Event) (e : Event) (p : ℕ) → e.place ≡ p → at (e ∷ es) p ≡ e.put
put_at = runs.put_at (λ p. 0)
