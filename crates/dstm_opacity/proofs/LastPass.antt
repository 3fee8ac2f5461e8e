-- While the counter of numbers stays since the last complete pass of an attempt, all that it read is current.
-- Beside it stands what a pass has shown, since one fact follows from the other along a run.
use Rattle.std.proofs.Common.{◌&&◌, ◌++◌, ◌<◌, ◌==◌, ◌∙◌, ◌∷◌, ◌≡◌, ◌≤◌, ◌⊎◌, Bool, List, None, Option, Some, [], ap, arith, false, inl, inr, is_none, is_some, length, refl, slice_get, subst, sym, true, ℕ}
use Rattle.dstm_core.proofs.Base.{AllowedAs, Core, Event, IsPastOf, LocalState, NumbersWord, StatusWord, after, and_parts, cases_Bool, cond_both, drawn, eq-eqb, given, is_draw, is_resolved, keep_resolved, local, nat_tests, or_read, or_unresolved, or_zero, own_attempt, pass_place, place, read_of, record_resolved, res, version, word}
use Rattle.dstm_opacity.proofs.Base.{Begin, Install, Kill, Kind, LookHigh, LookNew, LookNumber, LookObj, LookOld, LookOwner, LookRank, LookSelf, LookStatus, Pause, Read, Release, Resolution, Resume, Running, Shape, ToValidating}
use Rattle.dstm_core.proofs.Basic.{ResBasic, basic, res_more}
use Rattle.dstm_core.proofs.Columns.{step}
use Rattle.dstm_core.proofs.Places.{put_at}
use Rattle.dstm_core.proofs.Static.{has_high, has_owner, has_status, has_version, has_word}
use Rattle.dstm_opacity.proofs.Current.{Foretells, current, meant_same, named_meant, version_quiet}
use Rattle.dstm_opacity.proofs.Draws.{drawn_same}
use Rattle.dstm_machines.proofs.Pasts.{past_more}
use Rattle.dstm_opacity.proofs.Numbers.{agreed_same, no_draw, numbers_later, numbers_up, pass_past, version_past}
use Rattle.dstm_opacity.proofs.Recorded.{ReadsNamed, resolved_version}
use Rattle.dstm_opacity.proofs.States.{Agreed, Cur, agreed_by_index, agreed_drop, agreed_snoc}
use Rattle.dstm_opacity.proofs.Versions.{ResSeen, meant, owner_of, res_named, res_seen, res_seen_more, version_at}
use Rattle.dstm_opacity.proofs.Written.{WritesOk}
use Rattle.dstm_core.proofs.Untouched.{unlooked, unrecorded}

-- an open resolution whose object is not among the reads is of the current version
abbrev pub ResCur : Shape → (ℕ → Bool) → List Event → List Read → Option Resolution → Type 0
ResCur s will es rs None = Unit {0}
ResCur s will es rs (Some r) = read_of r.object rs ≡ None → version_at s will es r.object ≡ meant s will es r.word

-- while the counter is the number with which the last complete pass began, all that was read is current
pub record LastOk (s : Shape) (will : ℕ → Bool) (es : List Event) (l : LocalState) : Type 0 where
  pub bound : (n : ℕ) → l.last_pass ≡ Some n → n ≤ word s es NumbersWord
  pub reads : (n : ℕ) → l.last_pass ≡ Some n → n ≡ word s es NumbersWord → Agreed s will es l.reads
  pub res : (n : ℕ) → l.last_pass ≡ Some n → n ≡ word s es NumbersWord → ResCur s will es l.reads l.resolution

-- a pass that began at q has shown of the reads checked that they were current there
pub record PassHas (s : Shape) (will : ℕ → Bool) (q : List Event) (l : LocalState) (n : ℕ) : Type 0 where
  pub number : word s q NumbersWord ≡ n
  pub named : ReadsNamed s q l.reads
  pub checked : l.stale ≡ false → (i : ℕ) → i < l.checked → Cur s will q (or_read (slice_get l.reads i))
  pub same : l.last_pass ≡ Some n → Agreed s will q l.reads
  pub recorded : (r : Resolution) → l.resolution ≡ Some r → read_of r.object l.reads ≡ None → ⊥
  pub writes : WritesOk s q (own_attempt s l) l.writes
  pub undrawn : drawn s q (own_attempt s l) ≡ false

-- there is none
pub none_from : (o : Option Read) → is_none o ≡ true → o ≡ None
none_from None h = refl
none_from (Some r) h = absurd (cc)

-- a LookNumber records a read of the current version
pub agreed_record : {s : Shape} {will : ℕ → Bool} {es : List Event} → Core s es → Foretells s will es →
    (o : Option Resolution) (rs : List Read) → ResBasic s es o → ResSeen s es o → Agreed s will es rs →
    ResCur s will es rs o → Agreed s will es (record_resolved o rs)
agreed_record core f None rs b k h c = h
agreed_record {s = s} {will = will} {es = es} core f (Some r) rs b k h c =
    cond_both (is_resolved r && is_none (read_of r.object rs)) _ rs (Agreed s will es)
    (λ q. let two = and_parts (is_resolved r) (is_none (read_of r.object rs)) q in
    agreed_snoc s will es rs _ h (c (none_from (read_of r.object rs) two.1)
    ∙ named_meant core f (res_named s es (Some r) (or_zero (version r)) b k (resolved_version r two.0)))) (λ _. h)

-- a resolution that a LookNumber keeps has its object among the reads
read_of-snoc : (o : ℕ) (rs : List Read) (r : Read) → r.object ≡ o → read_of o (rs ++ r ∷ []) ≡ None → ⊥
read_of-snoc o [] r q h = let t = eq-eqb r.object o q in let z : Some r ≡ None = rw t at h in cc
read_of-snoc o (v ∷ rs) r q h = elim (cases_Bool (v.object == o)) [
  | inl t ↦ let z : Some v ≡ None = rw t at h in cc
  | inr t ↦ read_of-snoc o rs r q (rw t at h)
]

-- the resolution that it keeps has its object among the reads
pub kept_recorded : (o : Option Resolution) (rs : List Read) (r : Resolution) → keep_resolved o ≡ Some r →
    read_of r.object (record_resolved o rs) ≡ None → ⊥
kept_recorded None rs r q h = cc
kept_recorded (Some p) rs r q h = go (cases_Bool (is_resolved p)) (cases_Bool (is_none (read_of p.object rs)))
  where
    go : (is_resolved p ≡ true) ⊎ (is_resolved p ≡ false) →
        (is_none (read_of p.object rs) ≡ true) ⊎ (is_none (read_of p.object rs) ≡ false) → ⊥
    go (inl t) (inl u) = let z : Some p ≡ Some r = rw t at q in let y : p ≡ r = cc in
        read_of-snoc r.object rs _ (ap (λ (x : Resolution). x.object) y) (rw (t, u) at h)
    go (inl t) (inr u) = let z : Some p ≡ Some r = rw t at q in let y : p ≡ r = cc in
        let k : read_of r.object rs ≡ None = rw (t, u) at h in
        let w : is_none (read_of p.object rs) ≡ true = ap (λ (x : Resolution). is_none (read_of x.object rs)) y
        ∙ ap is_none k in
        cc
    go (inr t) u = let z : None ≡ Some r = rw t at q in cc

-- from one moment to the next without a draw
agreed_quiet : (s : Shape) (will : ℕ → Bool) (es : List Event) (e : Event) (rs : List Read) →
    (is_draw e.kind ≡ true → ⊥) → Agreed s will es rs → Agreed s will (e ∷ es) rs
agreed_quiet s will es e rs d h = agreed_same s will (e ∷ es) es rs (λ o. version_quiet s will es e o (λ z _. d z)) h

res_quiet : (s : Shape) (will : ℕ → Bool) (es : List Event) (e : Event) (rs : List Read)
    (o : Option Resolution) → Core s (e ∷ es) → (is_draw e.kind ≡ true → ⊥) → ResBasic s es o →
    ResCur s will es rs o → ResCur s will (e ∷ es) rs o
res_quiet s will es e rs None core d b h = tt
res_quiet s will es e rs (Some r) core d b h =
    λ n. version_quiet s will es e r.object (λ z _. d z) ∙ h n
    ∙ sym (meant_same s will es e r.word core b.0 (λ _ _. drawn_same s es e (owner_of s es r.word) (λ z. absurd (d z))))

cur_res : (s : Shape) (will : ℕ → Bool) (es : List Event) (rs : List Read) (o : Option Resolution) →
    is_some o ≡ true → ResCur s will es rs o → read_of (or_unresolved o).object rs ≡ None →
    version_at s will es (or_unresolved o).object ≡ meant s will es (or_unresolved o).word
cur_res s will es rs None i h = absurd (cc)
cur_res s will es rs (Some r) i h = h

-- the caller's own event
own_reads : {s : Shape} {will : ℕ → Bool} (es : List Event) (e : Event) → Core s (e ∷ es) →
    Foretells s will (e ∷ es) → (k : Kind) → ResBasic s (e ∷ es) (local s es e.caller).resolution →
    ResSeen s (e ∷ es) (local s es e.caller).resolution → Agreed s will (e ∷ es) (local s es e.caller).reads →
    ResCur s will (e ∷ es) (local s es e.caller).reads (local s es e.caller).resolution →
    Agreed s will (e ∷ es) (after k s (local s es e.caller) e).reads
own_reads es e core f Begin b k h c = tt
own_reads {s = s} {will = will} es e core f Install b k h c =
    cond_both (e.found == e.expected) _ _ (λ (l : LocalState). Agreed s will (e ∷ es) l.reads)
    (λ _. agreed_drop s will (e ∷ es) (res (local s es e.caller)).object (local s es e.caller).reads h) (λ _. h)
own_reads {s = s} es e core f LookNumber b k h c =
    agreed_record core f (local s es e.caller).resolution (local s es e.caller).reads b k h c
own_reads {s = s} {will = will} es e core f Release b k h c =
    agreed_drop s will (e ∷ es) e.place (local s es e.caller).reads h
own_reads {s = s} {will = will} es e core f j b k h c =
    unrecorded (Agreed s will (e ∷ es)) s (local s es e.caller) e j refl h

own_res : {s : Shape} {will : ℕ → Bool} (es : List Event) (e : Event) → Core s (e ∷ es) →
    Foretells s will (e ∷ es) → (k : Kind) → AllowedAs k s (local s es e.caller) e →
    ResCur s will (e ∷ es) (local s es e.caller).reads (local s es e.caller).resolution →
    ResCur s will (e ∷ es) (after k s (local s es e.caller) e).reads (after k s (local s es e.caller) e).resolution
own_res es e core f Begin a c = tt
own_res {s = s} {will = will} es e core f LookObj a c =
    λ _. current core f e.place a.3
    ∙ ap (meant s will (e ∷ es)) (put_at es e e.place refl ∙ a.1.1)
own_res {s = s} {will = will} es e core f LookOwner a c =
    cur_res s will (e ∷ es) _ _ (has_word (local s es e.caller).resolution a.2.2) c
own_res {s = s} {will = will} es e core f LookStatus a c =
    cur_res s will (e ∷ es) _ _ (has_owner (local s es e.caller).resolution a.2.2) c
own_res {s = s} {will = will} es e core f LookOld a c =
    cur_res s will (e ∷ es) _ _ (has_status (local s es e.caller).resolution 4 a.2.2) c
own_res {s = s} {will = will} es e core f LookNew a c =
    cur_res s will (e ∷ es) _ _ (has_high (local s es e.caller).resolution a.2.2) c
own_res {s = s} {will = will} es e core f Kill a c =
    cur_res s will (e ∷ es) _ _ (has_owner (local s es e.caller).resolution a.2.2) c
own_res {s = s} {will = will} es e core f Install a c =
    cond_both (e.found == e.expected) _ _ (λ (l : LocalState). ResCur s will (e ∷ es) l.reads l.resolution)
    (λ _. tt) (λ _. tt)
own_res {s = s} {will = will} es e core f LookNumber a c = go (keep_resolved (local s es e.caller).resolution) refl
  where
    go : (o : Option Resolution) → keep_resolved (local s es e.caller).resolution ≡ o →
        ResCur s will (e ∷ es) (record_resolved (local s es e.caller).resolution (local s es e.caller).reads) o
    go None q = tt
    go (Some r) q = λ n. absurd (kept_recorded (local s es e.caller).resolution (local s es e.caller).reads r q n)
own_res {s = s} {will = will} es e core f LookRank a c =
    cur_res s will (e ∷ es) _ _ (has_owner (local s es e.caller).resolution a.2.2) c
own_res {s = s} {will = will} es e core f LookHigh a c =
    cur_res s will (e ∷ es) _ _ (has_version (local s es e.caller).resolution a.2.2) c
own_res es e core f Release a c = tt
own_res {s = s} {will = will} es e core f k a c =
    unlooked (ResCur s will (e ∷ es) (after k s (local s es e.caller) e).reads) s (local s es e.caller) e k refl tt
    (unrecorded (λ rs. ResCur s will (e ∷ es) rs (local s es e.caller).resolution) s (local s es e.caller) e k refl c)

data LastHow (l : LocalState) (e : Event) (k : Kind) (n : ℕ) : Type 0 where
  by_self : k ≡ LookSelf → l.pass ≡ Some n → LastHow l e k n
  by_old : l.last_pass ≡ Some n → LastHow l e k n

last_how : (s : Shape) (l : LocalState) (e : Event) (k : Kind) (n : ℕ) → (after k s l e).last_pass ≡ Some n →
    LastHow l e k n
last_how s l e Begin n q = absurd (cc)
last_how s l e Install n q = by_old (go (cases_Bool (e.found == e.expected)))
  where
    go : (e.found == e.expected ≡ true) ⊎ (e.found == e.expected ≡ false) → l.last_pass ≡ Some n
    go (inl t) = rw t at q
    go (inr t) = rw t at q
last_how s l e LookSelf n q =
    elim (cases_Bool (e.found == given l.phase)) [ inl t ↦ by_self refl (rw t at q) | inr t ↦ by_old (rw t at q) ]
last_how s l e ToValidating n q = by_old (go (cases_Bool (e.found == 1)))
  where
    go : (e.found == 1 ≡ true) ⊎ (e.found == 1 ≡ false) → l.last_pass ≡ Some n
    go (inl t) = rw t at q
    go (inr t) = rw t at q
last_how s l e Pause n q = by_old (go (cases_Bool (e.found == 1)))
  where
    go : (e.found == 1 ≡ true) ⊎ (e.found == 1 ≡ false) → l.last_pass ≡ Some n
    go (inl t) = rw t at q
    go (inr t) = rw t at q
last_how s l e Resume n q = by_old (go (cases_Bool (e.found == 2)))
  where
    go : (e.found == 2 ≡ true) ⊎ (e.found == 2 ≡ false) → l.last_pass ≡ Some n
    go (inl t) = rw t at q
    go (inr t) = rw t at q
last_how s l e k n q = by_old q

-- where a LookSelf is allowed, and its place
pub look_self_may : (s : Shape) (l : LocalState) (e : Event) (k : Kind) → k ≡ LookSelf → AllowedAs k s l e →
    (l.phase ≡ Running) × (l.stale ≡ false) × (is_some l.pass ≡ true)
    × ((l.checked ≡ length l.reads) ⊎ (l.last_pass ≡ l.pass))
    × (e.place ≡ place s (StatusWord (own_attempt s l)))
look_self_may s l e LookSelf q a = (a.2.0, a.2.1, a.2.2, a.2.3, a.0)
look_self_may s l e k q a = absurd (cc)

-- a complete pass has shown that all reads were current at its place
pub pass_agreed : {s : Shape} {will : ℕ → Bool} {q : List Event} {l : LocalState} {n : ℕ} → PassHas s will q l n →
    l.pass ≡ Some n → l.stale ≡ false → (l.checked ≡ length l.reads) ⊎ (l.last_pass ≡ l.pass) → Agreed s will q l.reads
pass_agreed {s = s} {will = will} {q = q} {l = l} p h st (inl c) =
    agreed_by_index s will q l.reads (λ i lt. p.checked st i (omega arith))
pass_agreed p h st (inr c) = p.same (c ∙ h)

-- both facts, of each caller
abbrev pub PassOk : Shape → (ℕ → Bool) → List Event → ℕ → LocalState → Type 0
PassOk s will es c l = (n : ℕ) → l.phase ≡ Running → l.pass ≡ Some n → PassHas s will (pass_place c es) l n

self_same : (s : Shape) (l : LocalState) (e : Event) {k : Kind} → k ≡ LookSelf →
    ((after k s l e).reads ≡ l.reads) × ((after k s l e).resolution ≡ l.resolution)
self_same s l e {k = LookSelf} q = (grind (arith, nat_tests), grind (arith, nat_tests))
self_same s l e q = absurd (cc)

-- the caller's own event keeps this
pub last_own : {s : Shape} {will : ℕ → Bool} {es : List Event} (e : Event) → Core s (e ∷ es) →
    Foretells s will (e ∷ es) → LastOk s will es (local s es e.caller) →
    PassOk s will es e.caller (local s es e.caller) → LastOk s will (e ∷ es) (after e.kind s (local s es e.caller) e)
last_own {s = s} {will = will} {es = es} e core f h p = record {
  bound = λ n q. bound n (last_how s (local s es e.caller) e e.kind n q);
  reads = λ n q m. reads n (last_how s (local s es e.caller) e e.kind n q) m;
  res = λ n q m. res n (last_how s (local s es e.caller) e e.kind n q) m;
}
  where
    basics : ResBasic s es (local s es e.caller).resolution
    basics = (basic s es core.0).res e.caller

    q : List Event
    q = pass_place e.caller es

    past : IsPastOf (pass_place e.caller es) (e ∷ es)
    past = past_more (pass_place e.caller es) es e (pass_past e.caller es)

    bound : (n : ℕ) → LastHow (local s es e.caller) e e.kind n → n ≤ word s (e ∷ es) NumbersWord
    bound n (by_old x) = let b = h.bound n x in let u = numbers_up s es e core in omega arith
    bound n (by_self k x) = let may = look_self_may s (local s es e.caller) e e.kind k core.1.allowed in
        let has = (p n may.0 x).number in
        let u = subst (λ xs. word s (pass_place e.caller es) NumbersWord ≤ word s xs NumbersWord) past.whole
        (numbers_later s past.later (pass_place e.caller es) (subst (Core s) (sym past.whole) core)) in
        omega arith

    reads : (n : ℕ) → LastHow (local s es e.caller) e e.kind n → n ≡ word s (e ∷ es) NumbersWord →
        Agreed s will (e ∷ es) (after e.kind s (local s es e.caller) e).reads
    reads n (by_old x) m = let d = no_draw s es e n core (h.bound n x) m in
        own_reads es e core f e.kind (res_more (step s es e core) (local s es e.caller).resolution basics)
        (res_seen_more s es e (local s es e.caller).resolution core basics (res_seen s es core.0 e.caller))
        (agreed_quiet s will es e (local s es e.caller).reads d.0 (h.reads n x d.1))
        (res_quiet s will es e (local s es e.caller).reads
        (local s es e.caller).resolution core d.0 basics (h.res n x d.1))
    reads n (by_self k x) m = let may = look_self_may s (local s es e.caller) e e.kind k core.1.allowed in
        let has = p n may.0 x in
        rw (self_same s (local s es e.caller) e k).0
        (agreed_same s will (e ∷ es) (pass_place e.caller es) (local s es e.caller).reads
        (λ o. version_past s will (pass_place e.caller es) (e ∷ es) o past core (has.number ∙ m))
        (pass_agreed has x may.1 may.3))

    res : (n : ℕ) → LastHow (local s es e.caller) e e.kind n → n ≡ word s (e ∷ es) NumbersWord →
        ResCur s will (e ∷ es) (after e.kind s (local s es e.caller) e).reads
        (after e.kind s (local s es e.caller) e).resolution
    res n (by_old x) m = let d = no_draw s es e n core (h.bound n x) m in
        own_res es e core f e.kind core.1.allowed
        (res_quiet s will es e (local s es e.caller).reads (local s es e.caller).resolution core d.0 basics
        (h.res n x d.1))
    res n (by_self k x) m = let may = look_self_may s (local s es e.caller) e e.kind k core.1.allowed in
        let has = p n may.0 x in let same = self_same s (local s es e.caller) e k in
        rw (same.0, same.1) (go (local s es e.caller).resolution refl has)
      where
        go : (o : Option Resolution) → (local s es e.caller).resolution ≡ o →
            PassHas s will (pass_place e.caller es) (local s es e.caller) n →
            ResCur s will (e ∷ es) (local s es e.caller).reads o
        go None z has = tt
        go (Some r) z has = λ y. absurd (has.recorded r z y)

-- an event of another caller keeps it
pub last_other : {s : Shape} {will : ℕ → Bool} {es : List Event} (e : Event) (c : ℕ) → Core s (e ∷ es) →
    LastOk s will es (local s es c) → LastOk s will (e ∷ es) (local s es c)
last_other {s = s} {will = will} {es = es} e c core h = record {
  bound = λ n q. let b = h.bound n q in let u = numbers_up s es e core in omega arith;
  reads = λ n q m. let d = no_draw s es e n core (h.bound n q) m in
      agreed_quiet s will es e (local s es c).reads d.0 (h.reads n q d.1);
  res = λ n q m. let d = no_draw s es e n core (h.bound n q) m in
      res_quiet s will es e (local s es c).reads (local s es c).resolution core d.0
      ((basic s es core.0).res c) (h.res n q d.1);
}
