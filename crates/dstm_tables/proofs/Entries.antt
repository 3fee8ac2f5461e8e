-- Transactions that committed: their entries, and those of one caller.
use Rattle.std.proofs.Common.{◌≡◌, Bool, true, false, cond, List, [], ◌∷◌, ◌++◌, refl, ap, reverse, eq-eqb}
use mathlib.Core.List.{reverse-cons}
use Rattle.dstm_model.specs.Answers.{Committed, by_caller}
use Rattle.dstm_model.specs.Map.{Entry}
use Rattle.dstm_tables.specs.Tells.{entries_of}

pub entries_push : (done : List Committed) (next : Committed) → entries_of (done ++ next ∷ []) ≡ entries_of done ++ next.entry ∷ []
entries_push [] next = refl
entries_push (first ∷ done) next = ap (λ (rest : List Entry). first.entry ∷ rest) (entries_push done next)

pub entries_reverse : (done : List Committed) → entries_of (reverse done) ≡ reverse (entries_of done)
entries_reverse [] = refl
entries_reverse (first ∷ done) =
    rw (
      reverse-cons first done,
      entries_push (reverse done) first,
      entries_reverse done,
      ← reverse-cons first.entry (entries_of done),
    ) refl

-- ---- those of an only caller

pub one_more : (b : Bool) (attempt : Committed) (rest : List Committed) → attempt.caller ≡ 0 → by_caller 0 rest ≡ rest →
    by_caller 0 (cond b (attempt ∷ rest) rest) ≡ cond b (attempt ∷ rest) rest
one_more false attempt rest own same = same
one_more true attempt rest own same = rw (eq-eqb attempt.caller 0 own) (ap (λ (cs : List Committed). attempt ∷ cs) same)
