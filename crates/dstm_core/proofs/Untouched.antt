-- Which parts of a caller's state an event leaves as they were.
use Rattle.std.proofs.Common.{Bool, ◌≡◌, ◌⊎◌, List, [], ◌∷◌, None, Option, Some, arith, false, inl, inr, refl, subst, sym}
use Rattle.dstm_core.proofs.Base.{Begin, Event, Install, Kill, Kind, LocalState, LookHigh, LookNew, LookNumber, LookObj, LookOld, LookOwner, LookRank, LookStatus, Read, Release, Resolution, Shape, after, cond_both, is_one_of, is_resolved, keep_resolved, nat_tests}

-- kinds that find something out of the object that is being resolved
abbrev pub is_look : Kind → Bool
is_look =
    is_one_of (LookObj ∷ LookOwner ∷ LookStatus ∷ LookRank ∷ LookOld ∷ LookHigh ∷ LookNew ∷ Kill ∷ [])

kept_how : (r : Option Resolution) → (keep_resolved r ≡ r) ⊎ (keep_resolved r ≡ None)
kept_how None = inl refl
kept_how (Some r) = cond_both (is_resolved r) (Some r) None (λ o. (o ≡ Some r) ⊎ (o ≡ None)) (λ _. inl refl)
    (λ _. inr refl)

resolution_how : (s : Shape) (l : LocalState) (e : Event) (k : Kind) → is_look k ≡ false →
    ((after k s l e).resolution ≡ l.resolution) ⊎ ((after k s l e).resolution ≡ None)
resolution_how s l e LookNumber q = kept_how l.resolution
resolution_how s l e k q = grind (arith, nat_tests)

-- any other leaves the resolution, or drops it
pub unlooked : (P : Option Resolution → Type 0) (s : Shape) (l : LocalState) (e : Event) (k : Kind) →
    is_look k ≡ false → P None → P l.resolution → P (after k s l e).resolution
unlooked P s l e k q none h =
    elim (resolution_how s l e k q) [ inl x ↦ subst P (sym x) h | inr x ↦ subst P (sym x) none ]

-- kinds that change what is recorded of reads
abbrev pub records : Kind → Bool
records = is_one_of (Begin ∷ Install ∷ LookNumber ∷ Release ∷ [])

pub reads_stay : (s : Shape) (l : LocalState) (e : Event) (k : Kind) → records k ≡ false →
    (after k s l e).reads ≡ l.reads
reads_stay s l e k q = grind (arith, nat_tests)

-- any other leaves them
pub unrecorded : (P : List Read → Type 0) (s : Shape) (l : LocalState) (e : Event) (k : Kind) →
    records k ≡ false → P l.reads → P (after k s l e).reads
unrecorded P s l e k q h = subst P (sym (reads_stay s l e k q)) h
