-- What the old words of locators and the recorded reads name.
use Rattle.std.proofs.Common.{◌&&◌, ◌*◌, ◌++◌, ◌+◌, ◌-◌, ◌<◌, ◌==◌, ◌∙◌, ◌∷◌, ◌≡◌, ◌⊎◌, List, None, Option, Some, [], ap, arith, if◌then◌else◌, inl, inr, is_none, is_some, refl, sym, true, ℕ}
use Rattle.dstm_core.proofs.Base.{Core, Event, LocalState, OldWord, OwnerWord, after, and_parts, cond_both, drop_read, is_resolved, local, or_zero, own_attempt, read_of, record_resolved, res, version, word}
use Rattle.dstm_opacity.proofs.Base.{Begin, Install, Kind, LookNumber, PutOld, Read, Release, Resolution, Shape}
use Rattle.dstm_core.proofs.Basic.{Fresh, ResBasic, basic, held_step, install_may, old_stays, olds, res_more, used_back}
use Rattle.dstm_core.proofs.Columns.{Used, stays, step, used_more}
use Rattle.dstm_core.proofs.Locators.{install_fresh}
use Rattle.dstm_core.proofs.Static.{InShape, callers, static}
use Rattle.dstm_opacity.proofs.Versions.{Named, ResSeen, Settled, by_abort, by_commit, by_zero, named_more, res_named, res_seen, res_seen_more, status_more}
use Rattle.dstm_core.proofs.Untouched.{unrecorded}

-- what the first unused locator holds as its old version is in the word
pub held_olds : (s : Shape) (es : List Event) → Core s es → (c a : ℕ) → c < s.callers →
    (local s es c).held_old ≡ Some a → word s es (OldWord (c * s.locators + (local s es c).installed)) ≡ a
held_olds s [] core c a lt h = absurd (cc)
held_olds s (e ∷ es) core c a lt h =
    held_step s OldWord PutOld (λ l. l.held_old) (olds s) core.0 (step s es e core) (held_olds s es core.0) c a lt h

-- what an installer stores as the old version is the version that the word replaced names
pub resolved_version : (r : Resolution) → is_resolved r ≡ true → version r ≡ Some (or_zero (version r))
resolved_version r h = go (version r) h
  where
    go : (v : Option ℕ) → (if or_zero v == 0 then is_some v else is_some r.value) ≡ true → v ≡ Some (or_zero v)
    go None h = absurd (cc)
    go (Some v) h = refl

-- a successful Install replaces a word that names the old version of the new locator
pub record Replaces (s : Shape) (es : List Event) (e : Event) : Type 0 where
  pub locator : e.put - 1 ≡ e.caller * s.locators + (local s es e.caller).installed
  pub owner : word s es (OwnerWord (e.put - 1)) ≡ own_attempt s (local s es e.caller)
  pub old : word s es (OldWord (e.put - 1)) ≡ or_zero (version (res (local s es e.caller)))
  pub named : Named s es (res (local s es e.caller)).word (word s es (OldWord (e.put - 1)))

-- every one does
pub replaces : (s : Shape) (es : List Event) (e : Event) → Core s (e ∷ es) → e.kind ≡ Install →
    e.found ≡ e.expected → Replaces s es e
replaces s es e core k h = let l = local s es e.caller in
    let p = step s es e core in
    let may = install_may s l e k p.fits.allowed in
    let f = install_fresh s es e core k h in
    let loc : e.put - 1 ≡ e.caller * s.locators + l.installed = let q = f.0 in omega arith in
    let v = or_zero (version (res l)) in
    let ver : version (res l) ≡ Some v = resolved_version (res l) may.4 in
    let old : word s es (OldWord (e.put - 1)) ≡ v = ap (λ m. word s es (OldWord m)) loc
    ∙ held_olds s es core.0 e.caller v p.fits.caller (may.2 ∙ ver) in
    record {
      locator = loc;
      owner = ap (λ m. word s es (OwnerWord m)) loc
          ∙ (basic s es core.0).held e.caller (own_attempt s l) p.fits.caller may.1;
      old = old;
      named = rw old
          (res_named s es l.resolution v ((basic s es core.0).res e.caller) (res_seen s es core.0 e.caller) ver);
    }

-- a settled version stays so
pub settled_more : (s : Shape) (es : List Event) (e : Event) (v : ℕ) → Core s (e ∷ es) → Settled s es v →
    Settled s (e ∷ es) v
settled_more s es e v core (inl h) = inl h
settled_more s es e v core (inr h) =
    inr (h.0, used_more e h.1, (let q = h.2 in status_more e v core h.1 (omega arith) ∙ q))

-- a version that a word names is settled
pub named_settled : {s : Shape} {es : List Event} {x v : ℕ} →
    ((m : ℕ) → Used s es m → Settled s es (word s es (OldWord m))) → Named s es x v → Settled s es v
named_settled olds (by_zero p q) = inl q
named_settled olds (by_commit p u st q) = rw q (inr (p, u, st))
named_settled {x = x} olds (by_abort p u st q) = rw q (olds (x - 1) u)

-- the old version of a used locator is settled
pub old_settled : (s : Shape) (es : List Event) → Core s es → (m : ℕ) → Used s es m →
    Settled s es (word s es (OldWord m))
old_settled s [] core m u = inl refl
old_settled s (e ∷ es) core m u = go (used_back es e u) (old_settled s es core.0)
  where
    go : Used s es m ⊎ Fresh s es e m → ((m : ℕ) → Used s es m → Settled s es (word s es (OldWord m))) →
        Settled s (e ∷ es) (word s (e ∷ es) (OldWord m))
    go (inl x) ih =
        rw (old_stays s es e m (step s es e core) x) (settled_more s es e (word s es (OldWord m)) core (ih m x))
    go (inr x) ih = let r = replaces s es e core x.kind x.succeeds in
        let loc : m ≡ e.put - 1 = x.locator ∙ sym r.locator in
        rw (
          stays (OldWord m) (step s es e core) u.below (λ q. let i = x.kind in let j = q.kind in cc),
          loc,
        ) (settled_more s es e (word s es (OldWord (e.put - 1))) core (named_settled ih r.named))

-- the reads that a caller has recorded
abbrev pub ReadsNamed : Shape → List Event → List Read → Type 0
ReadsNamed s es [] = Unit {0}
ReadsNamed s es (r ∷ rs) = (r.object < s.objects) × Named s es r.word r.version × ReadsNamed s es rs

-- recorded reads keep their versions
pub reads_more : (s : Shape) (es : List Event) (e : Event) (rs : List Read) → Core s (e ∷ es) →
    ReadsNamed s es rs → ReadsNamed s (e ∷ es) rs
reads_more s es e [] core h = tt
reads_more s es e (r ∷ rs) core h = (h.0, named_more e core h.1, reads_more s es e rs core h.2)

-- also where one is dropped
pub reads_drop : (s : Shape) (es : List Event) (o : ℕ) (rs : List Read) → ReadsNamed s es rs →
    ReadsNamed s es (drop_read o rs)
reads_drop s es o [] h = tt
reads_drop s es o (r ∷ rs) h =
    cond_both (r.object == o) rs (r ∷ drop_read o rs) (ReadsNamed s es) (λ _. h.2)
    (λ _. (h.0, h.1, reads_drop s es o rs h.2))

-- where one is added
pub reads_snoc : {s : Shape} {es : List Event} (rs : List Read) (r : Read) → ReadsNamed s es rs →
    r.object < s.objects → Named s es r.word r.version → ReadsNamed s es (rs ++ r ∷ [])
reads_snoc [] r h o n = (o, n, tt)
reads_snoc (q ∷ rs) r h o n = (h.0, h.1, reads_snoc rs r h.2 o n)

-- and where a LookNumber records one
pub reads_record : (s : Shape) (es : List Event) (o : Option Resolution) (rs : List Read) → InShape s o →
    ResBasic s es o → ResSeen s es o → ReadsNamed s es rs → ReadsNamed s es (record_resolved o rs)
reads_record s es None rs i b k h = h
reads_record s es (Some r) rs i b k h =
    cond_both (is_resolved r && is_none (read_of r.object rs)) _ rs (ReadsNamed s es)
    (λ q. let two = and_parts (is_resolved r) (is_none (read_of r.object rs)) q in
    reads_snoc rs _ h i (res_named s es (Some r) (or_zero (version r)) b k (resolved_version r two.0))) (λ _. h)

reads_own : (s : Shape) (es : List Event) (e : Event) (k : Kind) → InShape s (local s es e.caller).resolution →
    ResBasic s (e ∷ es) (local s es e.caller).resolution → ResSeen s (e ∷ es) (local s es e.caller).resolution →
    ReadsNamed s (e ∷ es) (local s es e.caller).reads → ReadsNamed s (e ∷ es) (after k s (local s es e.caller) e).reads
reads_own s es e Begin i b n h = tt
reads_own s es e Install i b n h =
    cond_both (e.found == e.expected) _ _ (λ (l : LocalState). ReadsNamed s (e ∷ es) l.reads)
    (λ _. reads_drop s (e ∷ es) (res (local s es e.caller)).object (local s es e.caller).reads h) (λ _. h)
reads_own s es e LookNumber i b n h =
    reads_record s (e ∷ es) (local s es e.caller).resolution (local s es e.caller).reads i b n h
reads_own s es e Release i b n h = reads_drop s (e ∷ es) e.place (local s es e.caller).reads h
reads_own s es e k i b n h = unrecorded (ReadsNamed s (e ∷ es)) s (local s es e.caller) e k refl h

-- each recorded read names its version
pub reads : (s : Shape) (es : List Event) → Core s es → (c : ℕ) → ReadsNamed s es (local s es c).reads
reads s [] core c = tt
reads s (e ∷ es) core c = callers s es e (λ c l. ReadsNamed s (e ∷ es) l.reads)
    (let l = local s es e.caller in let b = (basic s es core.0).res e.caller in
    reads_own s es e e.kind (static s es core.0 e.caller).object (res_more (step s es e core) l.resolution b)
    (res_seen_more s es e l.resolution core b (res_seen s es core.0 e.caller))
    (reads_more s es e l.reads core (reads s es core.0 e.caller)))
    (λ c _. reads_more s es e (local s es c).reads core (reads s es core.0 c)) c
