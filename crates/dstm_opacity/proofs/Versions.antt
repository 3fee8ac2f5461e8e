-- Which version a word names, and what a caller knows of it.
use Rattle.std.proofs.Common.{◌&&◌, ◌+◌, ◌-◌, ◌<◌, ◌==◌, ◌∙◌, ◌∷◌, ◌≡◌, ◌≤◌, ◌⊎◌, Bool, List, None, Option, Some, [], ap, arith, false, if◌then◌else◌, inl, inr, is_some, refl, sym, true, ℕ}
use Rattle.dstm_core.proofs.Base.{AllowedAs, Core, Event, OldWord, OwnerWord, StatusWord, after, at, cases_Bool, drawn, eqb-true, is_draw, local, or_unresolved, or_zero, own_attempt, res, version, version_by, word, write_of}
use Rattle.dstm_opacity.proofs.Base.{Kill, Kind, LookHigh, LookNew, LookObj, LookOld, LookOwner, LookRank, LookStatus, Resolution, Shape, Write}
use Rattle.dstm_core.proofs.Basic.{Names, OwnerIs, ResBasic, basic, old_stays, owner_stays, res_known, res_more}
use Rattle.dstm_core.proofs.Columns.{Step, Used, step, used_more}
use Rattle.dstm_core.proofs.Places.{put_at}
use Rattle.dstm_core.proofs.Static.{callers}
use Rattle.dstm_core.proofs.Statuses.{finished_step}
use Rattle.dstm_core.proofs.Untouched.{unlooked}

-- the version of an object after a write of it, where there is one
abbrev pub new_version : Option Write → ℕ → ℕ
new_version None v = v
new_version (Some w) v = w.locator + 1

-- the version of an object that the draws of the attempts that commit have left
abbrev pub version_at : Shape → (ℕ → Bool) → List Event → ℕ → ℕ
version_at s will [] o = 0
version_at s will (e ∷ es) o =
    if is_draw e.kind && will (own_attempt s (local s es e.caller))
    then new_version (write_of o (local s es e.caller).writes) (version_at s will es o) else version_at s will es o

-- the version that a word x stands for: x itself if its owner commits and has drawn, and else the old version
abbrev pub meant_by : ℕ → Bool → Bool → ℕ → ℕ
meant_by x will drawn old = if x == 0 then 0 else if will && drawn then x else old

-- the owner of the locator that a word x names, and that owner's status
abbrev pub owner_of : Shape → List Event → ℕ → ℕ
owner_of s es x = word s es (OwnerWord (x - 1))

-- the status of that owner
abbrev pub status_of : Shape → List Event → ℕ → ℕ
status_of s es x = word s es (StatusWord (owner_of s es x))

-- the same with the owner and the old version that the words of a run tell
abbrev pub meant : Shape → (ℕ → Bool) → List Event → ℕ → ℕ
meant s will es x = meant_by x (will (owner_of s es x)) (drawn s es (owner_of s es x)) (word s es (OldWord (x - 1)))

-- the word x names the version v, for good
pub data Named (s : Shape) (es : List Event) (x v : ℕ) : Type 0 where
  by_zero : x ≡ 0 → v ≡ 0 → Named s es x v
  by_commit : 0 < x → Used s es (x - 1) → status_of s es x ≡ 4 → v ≡ x → Named s es x v
  by_abort : 0 < x → Used s es (x - 1) → status_of s es x ≡ 5 → v ≡ word s es (OldWord (x - 1)) → Named s es x v

-- a finished owner of a used locator stays finished
pub status_more : {s : Shape} {es : List Event} (e : Event) (x : ℕ) → Core s (e ∷ es) → Used s es (x - 1) →
    4 ≤ status_of s es x → status_of s (e ∷ es) x ≡ status_of s es x
status_more {s = s} {es = es} e x core u f = let b = (basic s es core.0).owner (x - 1) u in
    let q = owner_stays s es e (x - 1) (step s es e core) u in
    ap (λ a. word s (e ∷ es) (StatusWord a)) q ∙ finished_step s es e (owner_of s es x) core b.begun.below f

-- what a word names stays
pub named_more : {s : Shape} {es : List Event} (e : Event) {x v : ℕ} → Core s (e ∷ es) → Named s es x v →
    Named s (e ∷ es) x v
named_more e core (by_zero p q) = by_zero p q
named_more e {x = x} core (by_commit p u st q) =
    by_commit p (used_more e u) (status_more e x core u (omega arith) ∙ st) q
named_more {s = s} {es = es} e {x = x} core (by_abort p u st q) =
    by_abort p (used_more e u) (status_more e x core u (omega arith) ∙ st)
    (q ∙ sym (old_stays s es e (x - 1) (step s es e core) u))

-- what was found of the owner's status and of the old word holds
pub record Seen (s : Shape) (es : List Event) (x : ℕ) (st od : Option ℕ) : Type 0 where
  pub status : 4 ≤ or_zero st → (0 < x) × (status_of s es x ≡ or_zero st)
  pub old : (v : ℕ) → od ≡ Some v → (0 < x) × (v ≡ word s es (OldWord (x - 1)))

-- what was found stays true
pub seen_more : {s : Shape} {es : List Event} (e : Event) {x : ℕ} {status old : Option ℕ} → Core s (e ∷ es) →
    Names s es x → Seen s es x status old → Seen s (e ∷ es) x status old
seen_more e {status = status} {old = old} core (inl n) h =
    record {
      status = λ f. let z = h.status f in absurd (omega arith);
      old = λ v q. let z = h.old v q in
          absurd (omega arith);
    }
seen_more {s = s} {es = es} e {x = x} {status = status} {old = old} core (inr n) h = record {
  status = λ f. let z = h.status f in (z.0, status_more e x core n.1 (omega arith) ∙ z.1);
  old = λ v q. let z = h.old v q in (z.0, z.1 ∙ sym (old_stays s es e (x - 1) (step s es e core) n.1));
}

-- the same of a resolution
abbrev pub ResSeen : Shape → List Event → Option Resolution → Type 0
ResSeen s es None = Unit {0}
ResSeen s es (Some r) = Seen s es r.word r.status r.old

-- what was found stays true
pub res_seen_more : (s : Shape) (es : List Event) (e : Event) (r : Option Resolution) → Core s (e ∷ es) →
    ResBasic s es r → ResSeen s es r → ResSeen s (e ∷ es) r
res_seen_more s es e None core b h = tt
res_seen_more s es e (Some r) core b h = seen_more e core b.0 h

-- of a resolution that there is
pub seen_res : (s : Shape) (es : List Event) (r : Option Resolution) → ResSeen s es r →
    Seen s es (or_unresolved r).word (or_unresolved r).status (or_unresolved r).old
seen_res s es None h = record { status = λ f. absurd (omega arith); old = λ v q. absurd (cc) }
seen_res s es (Some r) h = h

-- the version of a resolution is the one that its word names
version_named : {s : Shape} {es : List Event} {x : ℕ} {status old : Option ℕ} (v : ℕ) → Names s es x →
    Seen s es x status old → version_by x status old ≡ Some v → Named s es x v
version_named {s = s} {es = es} {x = x} {status = status} {old = old} v n h q = elim (cases_Bool (x == 0)) [
  | inl z ↦ let o : Some 0 ≡ Some v = rw z at q in by_zero (eqb-true x 0 z) (cc)
  | inr z ↦ at_four (cases_Bool (or_zero status == 4)) (rw z at q)
]
  where
    used : 0 < x → Used s es (x - 1)
    used p = go n
      where
        go : (x ≡ 0) ⊎ ((0 < x) × Used s es (x - 1)) → Used s es (x - 1)
        go (inl z) = absurd (omega arith)
        go (inr z) = z.1

    at_five : (or_zero status == 5 ≡ true) ⊎ (or_zero status == 5 ≡ false) →
        (if or_zero status == 5 then old else None) ≡ Some v → Named s es x v
    at_five (inl z) w = let f = eqb-true (or_zero status) 5 z in let k = h.status (omega arith) in
        let o : old ≡ Some v = rw z at w in by_abort k.0 (used k.0) (k.1 ∙ f) (h.old v o).1
    at_five (inr z) w = let o : None ≡ Some v = rw z at w in absurd (cc)

    at_four : (or_zero status == 4 ≡ true) ⊎ (or_zero status == 4 ≡ false) →
        (if or_zero status == 4 then Some x else if or_zero status == 5 then old else None) ≡ Some v → Named s es x v
    at_four (inl z) w = let f = eqb-true (or_zero status) 4 z in let k = h.status (omega arith) in
        let o : Some x ≡ Some v = rw z at w in by_commit k.0 (used k.0) (k.1 ∙ f) (cc)
    at_four (inr z) w = at_five (cases_Bool (or_zero status == 5)) (rw z at w)

-- a resolution's version, where it is known, is the one that its word names
pub res_named : (s : Shape) (es : List Event) (r : Option Resolution) (v : ℕ) → ResBasic s es r →
    ResSeen s es r → version (or_unresolved r) ≡ Some v → Named s es (or_unresolved r).word v
res_named s es r v b h q = version_named v (res_known s es r b).0 (seen_res s es r h) q

-- what an event finds at the word that it looks at, and that a load leaves it
found_at : {s : Shape} {es : List Event} {e : Event} (p : ℕ) → Step s es e → e.place ≡ p → e.put ≡ e.found →
    e.found ≡ at (e ∷ es) p
found_at {es = es} {e = e} p st q h = sym h ∙ sym (put_at es e p q)

owner_known : (s : Shape) (es : List Event) (x : ℕ) (o : Option ℕ) → OwnerIs s es x o → is_some o ≡ true →
    (0 < x) × (or_zero o ≡ word s es (OwnerWord (x - 1)))
owner_known s es x None h i = absurd (cc)
owner_known s es x (Some a) h i = h

-- an event keeps this for its caller's resolution, by kinds
seen_own : (s : Shape) (es : List Event) (e : Event) → Core s (e ∷ es) → (k : Kind) →
    AllowedAs k s (local s es e.caller) e → ResBasic s (e ∷ es) (local s es e.caller).resolution →
    ResSeen s (e ∷ es) (local s es e.caller).resolution →
    ResSeen s (e ∷ es) (after k s (local s es e.caller) e).resolution
seen_own s es e core LookObj a b h = record { status = λ f. absurd (omega arith); old = λ v q. absurd (cc) }
seen_own s es e core LookOwner a b h = seen_res s (e ∷ es) (local s es e.caller).resolution h
seen_own s es e core LookStatus a b h = let l = local s es e.caller in
    let k = seen_res s (e ∷ es) l.resolution h in
    let o = owner_known s (e ∷ es) (res l).word (res l).owner (res_known s (e ∷ es) l.resolution b).1 a.2.2 in
    record {
      status = λ f. (
        o.0,
        ap (λ n. word s (e ∷ es) (StatusWord n)) (sym o.1)
            ∙ sym (found_at _ (step s es e core) a.0 a.1.1),
      );
      old = k.old;
    }
seen_own s es e core LookOld a b h = let k = seen_res s (e ∷ es) (local s es e.caller).resolution h in
    let pos = (k.status (let i = a.2.2 in omega arith)).0 in
    record {
      status = k.status;
      old = λ v q.
          (pos, let f = found_at _ (step s es e core) a.0 a.1.1 in cc);
    }
seen_own s es e core LookNew a b h = seen_res s (e ∷ es) (local s es e.caller).resolution h
seen_own s es e core Kill a b h = let l = local s es e.caller in let k = seen_res s (e ∷ es) l.resolution h in
    let o = owner_known s (e ∷ es) (res l).word (res l).owner (res_known s (e ∷ es) l.resolution b).1 a.2.2 in
    record {
      status = λ f.
          (o.0, ap (λ n. word s (e ∷ es) (StatusWord n)) (sym o.1) ∙ put_at es e _ a.0);
      old = k.old;
    }
seen_own s es e core LookRank a b h = seen_res s (e ∷ es) (local s es e.caller).resolution h
seen_own s es e core LookHigh a b h = seen_res s (e ∷ es) (local s es e.caller).resolution h
seen_own s es e core k a b h = unlooked (ResSeen s (e ∷ es)) s (local s es e.caller) e k refl tt h

-- what was found of each caller's resolution holds
pub res_seen : (s : Shape) (es : List Event) → Core s es → (c : ℕ) → ResSeen s es (local s es c).resolution
res_seen s [] core c = tt
res_seen s (e ∷ es) core c = let b = (basic s es core.0).res in
    callers s es e (λ c l. ResSeen s (e ∷ es) l.resolution) (seen_own s es e core e.kind core.1.allowed
    (res_more (step s es e core) (local s es e.caller).resolution (b e.caller))
    (res_seen_more s es e (local s es e.caller).resolution core (b e.caller) (res_seen s es core.0 e.caller)))
    (λ c _. res_seen_more s es e (local s es c).resolution core (b c) (res_seen s es core.0 c)) c

-- a version that is settled: the first value, or that of a committed owner
abbrev pub Settled : Shape → List Event → ℕ → Type 0
Settled s es v = (v ≡ 0) ⊎ ((0 < v) × Used s es (v - 1) × (status_of s es v ≡ 4))
