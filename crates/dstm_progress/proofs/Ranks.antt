-- Ranks under Greedy: the rank of an attempt that has begun stays, and so does what was found of it.
use Rattle.std.proofs.Common.{List, None, Option, Some, [], ap, arith, inl, inr, is_some, refl, subst, sym, true, ℕ, ◌%◌, ◌*◌, ◌+◌, ◌-◌, ◌/◌, ◌<◌, ◌∙◌, ◌∷◌, ◌≡◌}
use Rattle.dstm_core.proofs.Base.{AllowedAs, Core, Event, RankWord, after, local, or_unresolved, or_zero, rank_of, res, word}
use Rattle.dstm_order.proofs.Base.{Greedy, Kill, Kind, LookHigh, LookNew, LookObj, LookOld, LookOwner, LookRank, LookStatus, Rank, Resolution, Shape}
use Rattle.dstm_core.proofs.Basic.{Names, OwnerIs, ResBasic, basic, owner_stays, res_known, res_more}
use Rattle.dstm_core.proofs.Columns.{Aims, Begun, Step, caller_of, index_of, stays, step}
use Rattle.dstm_core.proofs.Stamps.{rank_may}
use Rattle.dstm_core.proofs.Places.{put_at}
use Rattle.dstm_core.proofs.Static.{callers}
use Rattle.dstm_core.proofs.Statuses.{next_number}
use Rattle.dstm_opacity.proofs.Versions.{owner_of}
use Rattle.dstm_core.proofs.Untouched.{unlooked}

-- a Rank under Greedy stores the rank of the first unused attempt of its caller
rank_target : {s : Shape} {es : List Event} {e : Event} {a : ℕ} → s.manager ≡ Greedy → Step s es e →
    Aims e Rank a (rank_of (local s es e.caller).phase s (local s es e.caller)) →
    a ≡ e.caller * s.attempts + (local s es e.caller).begun
rank_target {s = s} {es = es} {e = e} g p r =
    let may = rank_may s (local s es e.caller) e r.kind g p.fits.allowed in
    r.number ∙ ap (λ q. rank_of q s (local s es e.caller)) may.outside
    ∙ next_number s e.caller (local s es e.caller) p.own may.number

-- the rank of an attempt that began stays
pub begun_rank_stays : {s : Shape} {es : List Event} {e : Event} {a : ℕ} → s.manager ≡ Greedy → Step s es e →
    Begun s es a → word s (e ∷ es) (RankWord a) ≡ word s es (RankWord a)
begun_rank_stays {s = s} {es = es} {e = e} {a = a} g p b = stays (RankWord a) p b.below other
  where
    other : Aims e Rank a (rank_of (local s es e.caller).phase s (local s es e.caller)) → ⊥
    other r =
        let t = rank_target g p r in
        let may = rank_may s (local s es e.caller) e r.kind g p.fits.allowed in
        let owner : a / s.attempts ≡ e.caller = ap (λ n. n / s.attempts) t
        ∙ caller_of e.caller s.attempts (local s es e.caller).begun may.begun in
        let index : a % s.attempts ≡ (local s es e.caller).begun = ap (λ n. n % s.attempts) t
        ∙ index_of e.caller s.attempts (local s es e.caller).begun may.begun in
        let before : a % s.attempts < (local s es e.caller).begun =
        subst (λ n. a % s.attempts < (local s es n).begun) owner b.begun in
        omega arith

-- ---- what was found of a rank

-- the rank of the owner of the locator that a word names
abbrev pub rank_of_owner : Shape → List Event → ℕ → ℕ
rank_of_owner s es x = word s es (RankWord (owner_of s es x))

-- a rank that was found is the owner's
abbrev pub RankFound : Shape → List Event → Option Resolution → Type 0
RankFound s es None = Unit {0}
RankFound s es (Some r) = (n : ℕ) → r.rank ≡ Some n → (0 < r.word) × (n ≡ rank_of_owner s es r.word)

-- the rank of the owner of a used locator stays
pub owner_rank_stays : (s : Shape) (es : List Event) (e : Event) (x : ℕ) → s.manager ≡ Greedy →
    Core s (e ∷ es) → Names s es x → 0 < x → rank_of_owner s (e ∷ es) x ≡ rank_of_owner s es x
owner_rank_stays s es e x g core (inl z) h = absurd (omega arith)
owner_rank_stays s es e x g core (inr z) h =
    ap (λ a. word s (e ∷ es) (RankWord a)) (owner_stays s es e (x - 1) (step s es e core) z.1)
    ∙ begun_rank_stays g (step s es e core) ((basic s es core.0).owner (x - 1) z.1).begun

rank_found_more : (s : Shape) (es : List Event) (e : Event) (r : Option Resolution) → s.manager ≡ Greedy →
    Core s (e ∷ es) → ResBasic s es r → RankFound s es r → RankFound s (e ∷ es) r
rank_found_more s es e None g core b h = tt
rank_found_more s es e (Some r) g core b h =
    λ n q. let x = h n q in (x.0, x.1 ∙ sym (owner_rank_stays s es e r.word g core b.0 x.0))

-- of a resolution that there is
pub found_rank : (s : Shape) (es : List Event) (r : Option Resolution) → RankFound s es r → (n : ℕ) →
    (or_unresolved r).rank ≡ Some n → (0 < (or_unresolved r).word) × (n ≡ rank_of_owner s es (or_unresolved r).word)
found_rank s es None h n q = absurd (cc)
found_rank s es (Some r) h n q = h n q

-- an owner that was found is the locator's
pub owner_known : (s : Shape) (es : List Event) (x : ℕ) (o : Option ℕ) → OwnerIs s es x o → is_some o ≡ true →
    (0 < x) × (or_zero o ≡ owner_of s es x)
owner_known s es x None h q = absurd (cc)
owner_known s es x (Some a) h q = h

found_own : (s : Shape) (es : List Event) (e : Event) → s.manager ≡ Greedy → Core s (e ∷ es) → (k : Kind) →
    AllowedAs k s (local s es e.caller) e → ResBasic s (e ∷ es) (local s es e.caller).resolution →
    RankFound s (e ∷ es) (local s es e.caller).resolution →
    RankFound s (e ∷ es) (after k s (local s es e.caller) e).resolution
found_own s es e g core LookObj a b h = λ n q. absurd (cc)
found_own s es e g core LookOwner a b h = found_rank s (e ∷ es) (local s es e.caller).resolution h
found_own s es e g core LookStatus a b h = found_rank s (e ∷ es) (local s es e.caller).resolution h
found_own s es e g core LookRank a b h = λ n q.
    let r = res_known s (e ∷ es) (local s es e.caller).resolution b in
    let o = owner_known s (e ∷ es) (res (local s es e.caller)).word (res (local s es e.caller)).owner r.1 a.2.2 in
    let n' : n ≡ e.found = cc in
    (o.0, n' ∙ sym a.1.1 ∙ sym (put_at es e _ a.0) ∙ ap (λ m. word s (e ∷ es) (RankWord m)) o.1)
found_own s es e g core LookOld a b h = found_rank s (e ∷ es) (local s es e.caller).resolution h
found_own s es e g core LookHigh a b h = found_rank s (e ∷ es) (local s es e.caller).resolution h
found_own s es e g core LookNew a b h = found_rank s (e ∷ es) (local s es e.caller).resolution h
found_own s es e g core Kill a b h = found_rank s (e ∷ es) (local s es e.caller).resolution h
found_own s es e g core k a b h = unlooked (RankFound s (e ∷ es)) s (local s es e.caller) e k refl tt h

-- what each caller found of a rank holds
pub rank_found : (s : Shape) (es : List Event) → s.manager ≡ Greedy → Core s es → (c : ℕ) →
    RankFound s es (local s es c).resolution
rank_found s [] g core c = tt
rank_found s (e ∷ es) g core c = let b = (basic s es core.0).res in
    callers s es e (λ c l. RankFound s (e ∷ es) l.resolution) (found_own s es e g core e.kind core.1.allowed
    (res_more (step s es e core) (local s es e.caller).resolution (b e.caller))
    (rank_found_more s es e (local s es e.caller).resolution g core (b e.caller) (rank_found s es g core.0 e.caller)))
    (λ c _. rank_found_more s es e (local s es c).resolution g core (b c) (rank_found s es g core.0 c)) c
