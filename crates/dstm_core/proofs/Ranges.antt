-- In a core run an event that may come is always aimed at a word that the shape has, so that those who keep to the
-- rules need not test it: all but the object that a LookObj names, which is theirs to choose.
use Rattle.std.proofs.Common.{◌≡◌, ◌+◌, ◌-◌, ◌*◌, ◌<◌, ◌==◌, ◌⊎◌, ◌∷◌, ◌++◌, ◌∙◌, ℕ, inl, inr, List, [], refl, ap, arith, sym, subst, true, Option, Some, None, is_some, length, zero, suc, slice_get, ◌&&◌, is_none}
use Rattle.dstm_core.proofs.Base.{AllowedAs, Begin, Check, Commit, Core, Draw, Enrol, Event, HasWord, Install, Kill, Kind, LocalState, LookHigh, LookNew, LookNumber, LookObj, LookOld, LookOwner, LookRank, LookSelf, LookStatus, May, MayRank, OldWord, Outside, OwnerWord, Pause, Phase, PutHigh, PutNew, PutOld, PutOwner, Quit, Rank, Read, Release, Resolution, Resume, Running, Shape, Stamp, ToValidating, after, at, cases_eq, cond_both, drop_read, is_resolved, local, nat_tests, next_attempt, next_write, or_read, or_unresolved, or_zero, place, rank_of, read_of, record_resolved, res, target, version, version_by, word}
use Rattle.dstm_core.proofs.Places.{put_at}
use Rattle.dstm_core.proofs.Static.{InShape, Static, static, res-in_shape, numbered-get, callers}
use Rattle.dstm_core.proofs.Columns.{in_table, own_in, next_locator_in, step, Changed, Same, change}
use Rattle.dstm_core.proofs.Basic.{Names, names_more, Basic, basic, ResBasic, OwnerIs, res_known}
use Rattle.dstm_core.proofs.Untouched.{unlooked, unrecorded}

-- ---- of a caller's state alone

-- what was found of a resolution's owner, and of its version, says that its word is not 0
pub record Known (r : Resolution) : Type 0 where
  pub owner : is_some r.owner ≡ true → 0 < r.word
  pub status : is_some r.status ≡ true → 0 < r.word
  pub high : is_some r.high ≡ true → 0 < r.word

abbrev pub KnownOf : Option Resolution → Type 0
KnownOf None = Unit {0}
KnownOf (Some r) = Known r

known_res : (r : Option Resolution) → KnownOf r → Known (or_unresolved r)
known_res None h = record { owner = λ q. absurd (cc); status = λ q. absurd (cc); high = λ q. absurd (cc) }
known_res (Some r) h = h

version_word : (word : ℕ) (status old : Option ℕ) → 0 < or_zero (version_by word status old) → 0 < word
version_word zero status old h = absurd (omega arith)
version_word (suc word) status old h = omega arith

known_step : (s : Shape) (l : LocalState) (e : Event) (k : Kind) → AllowedAs k s l e → KnownOf l.resolution →
    KnownOf (after k s l e).resolution
known_step s l e LookObj a h =
    record { owner = λ q. absurd (cc); status = λ q. absurd (cc); high = λ q. absurd (cc) }
known_step s l e LookOwner a h =
    let n = known_res l.resolution h in record { owner = λ _. a.2.2; status = n.status; high = n.high }
known_step s l e LookStatus a h =
    let n = known_res l.resolution h in record { owner = n.owner; status = λ _. n.owner a.2.2; high = n.high }
known_step s l e LookRank a h =
    let n = known_res l.resolution h in record { owner = n.owner; status = n.status; high = n.high }
known_step s l e LookOld a h =
    let n = known_res l.resolution h in record { owner = n.owner; status = n.status; high = n.high }
known_step s l e LookHigh a h =
    let n = known_res l.resolution h in record {
      owner = n.owner;
      status = n.status;
      high = λ _. version_word (res l).word (res l).status (res l).old a.2.2;
    }
known_step s l e LookNew a h =
    let n = known_res l.resolution h in record { owner = n.owner; status = n.status; high = n.high }
known_step s l e Kill a h =
    let n = known_res l.resolution h in record { owner = n.owner; status = λ _. n.owner a.2.2; high = n.high }
known_step s l e k a h = unlooked KnownOf s l e k refl tt h

pub known : (s : Shape) (es : List Event) → Core s es → (c : ℕ) → KnownOf (local s es c).resolution
known s [] core c = tt
known s (e ∷ es) core c = callers s es e (λ c l. KnownOf l.resolution)
    (known_step s (local s es e.caller) e e.kind core.1.allowed (known s es core.0 e.caller))
    (λ c d. known s es core.0 c) c

-- the reads are of objects of the shape
abbrev pub ReadsIn : Shape → List Read → Type 0
ReadsIn s [] = Unit {0}
ReadsIn s (r ∷ rs) = (r.object < s.objects) × ReadsIn s rs

reads_snoc : (s : Shape) (rs : List Read) (r : Read) → ReadsIn s rs → r.object < s.objects → ReadsIn s (rs ++ r ∷ [])
reads_snoc s [] r h b = (b, tt)
reads_snoc s (x ∷ rs) r h b = (h.0, reads_snoc s rs r h.1 b)

reads_drop : (s : Shape) (o : ℕ) (rs : List Read) → ReadsIn s rs → ReadsIn s (drop_read o rs)
reads_drop s o [] h = tt
reads_drop s o (r ∷ rs) h =
    cond_both (r.object == o) rs (r ∷ drop_read o rs) (ReadsIn s) (λ _. h.1) (λ _. (h.0, reads_drop s o rs h.1))

reads_get : (s : Shape) (rs : List Read) (i : ℕ) → ReadsIn s rs → i < length rs →
    (or_read (slice_get rs i)).object < s.objects
reads_get s [] i h l = absurd (omega arith)
reads_get s (r ∷ rs) zero h l = h.0
reads_get s (r ∷ rs) (suc i) h l = reads_get s rs i h.1 (omega arith)

read_found : (s : Shape) (o : ℕ) (rs : List Read) → ReadsIn s rs → is_some (read_of o rs) ≡ true → o < s.objects
read_found s o [] h q = absurd (cc)
read_found s o (r ∷ rs) h q = elim (cases_eq r.object o) [
  | inl x ↦ subst (λ n. n < s.objects) x h.0
  | inr x ↦ read_found s o rs h.1 (grind (arith, nat_tests))
]

reads_recorded : (s : Shape) (r : Option Resolution) (rs : List Read) → InShape s r → ReadsIn s rs →
    ReadsIn s (record_resolved r rs)
reads_recorded s None rs b h = h
reads_recorded s (Some r) rs b h = cond_both (is_resolved r && is_none (read_of r.object rs)) _ _ (ReadsIn s)
    (λ _. reads_snoc s rs (record { object = r.object; word = r.word; version = or_zero (version r) }) h b) (λ _. h)

reads_step : (s : Shape) (l : LocalState) (e : Event) (k : Kind) → InShape s l.resolution → ReadsIn s l.reads →
    ReadsIn s (after k s l e).reads
reads_step s l e Begin b h = tt
reads_step s l e Install b h = cond_both (e.found == e.expected) _ _ (λ (m : LocalState). ReadsIn s m.reads)
    (λ _. reads_drop s (res l).object l.reads h) (λ _. h)
reads_step s l e LookNumber b h = reads_recorded s l.resolution l.reads b h
reads_step s l e Release b h = reads_drop s e.place l.reads h
reads_step s l e k b h = unrecorded (ReadsIn s) s l e k refl h

pub reads_in : (s : Shape) (es : List Event) → Core s es → (c : ℕ) → ReadsIn s (local s es c).reads
reads_in s [] core c = tt
reads_in s (e ∷ es) core c = callers s es e (λ c l. ReadsIn s l.reads)
    (reads_step s (local s es e.caller) e e.kind (static s es core.0 e.caller).object (reads_in s es core.0 e.caller))
    (λ c d. reads_in s es core.0 c) c

-- ---- of the words

-- every old word, and what was found of one, is 0 or names a used locator
abbrev pub OldNames : Shape → List Event → Option Resolution → Type 0
OldNames s es None = Unit {0}
OldNames s es (Some r) = Names s es (or_zero r.old)

pub record Olds (s : Shape) (es : List Event) : Type 0 where
  pub word : (m : ℕ) → m < s.callers * s.locators → Names s es (word s es (OldWord m))
  pub res : (c : ℕ) → OldNames s es (local s es c).resolution

old_res : (s : Shape) (es : List Event) (r : Option Resolution) → OldNames s es r →
    Names s es (or_zero (or_unresolved r).old)
old_res s es None h = inl refl
old_res s es (Some r) h = h

names_version : (s : Shape) (es : List Event) (word : ℕ) (status old : Option ℕ) → Names s es word →
    Names s es (or_zero old) → Names s es (or_zero (version_by word status old))
names_version s es word status old w o = cond_both (word == 0) _ _ named
    (λ _. inl refl) (λ _. cond_both (or_zero status == 4) _ _ named (λ _. w)
    (λ _. cond_both (or_zero status == 5) _ _ named (λ _. o) (λ _. inl refl)))
  where
    named : Option ℕ → Type 0
    named v = Names s es (or_zero v)

-- the version of a caller's resolution is 0 or names a used locator
pub version_names : {s : Shape} {es : List Event} → Basic s es → Olds s es → (c : ℕ) →
    Names s es (or_zero (version (res (local s es c))))
version_names {s = s} {es = es} b o c =
    names_version s es (res (local s es c)).word (res (local s es c)).status (res (local s es c)).old
    (res_known s es (local s es c).resolution (b.res c)).0 (old_res s es (local s es c).resolution (o.res c))

put_old_puts : (s : Shape) (l : LocalState) (e : Event) {k : Kind} → k ≡ PutOld → AllowedAs k s l e →
    (e.place ≡ place s (target k s l e)) × (e.put ≡ or_zero (version (res l))) × (target k s l e ≡ target PutOld s l e)
put_old_puts s l e {k = PutOld} q a = (a.0, a.1.1, refl)
put_old_puts s l e q a = absurd (cc)

old_names_more : (s : Shape) (es : List Event) (e : Event) (r : Option Resolution) → OldNames s es r →
    OldNames s (e ∷ es) r
old_names_more s es e None h = tt
old_names_more s es e (Some r) h = names_more s es e (or_zero r.old) h

old_own : (s : Shape) (es : List Event) (e : Event) (l : LocalState) (k : Kind) → AllowedAs k s l e →
    e.found ≡ at es e.place → ((m : ℕ) → m < s.callers * s.locators → Names s es (word s es (OldWord m))) →
    OldNames s (e ∷ es) l.resolution → OldNames s (e ∷ es) (after k s l e).resolution
old_own s es e l LookObj a q w h = inl refl
old_own s es e l LookOwner a q w h = old_res s (e ∷ es) l.resolution h
old_own s es e l LookStatus a q w h = old_res s (e ∷ es) l.resolution h
old_own s es e l LookRank a q w h = old_res s (e ∷ es) l.resolution h
old_own s es e l LookOld a q w h =
    let found : e.found ≡ word s es (OldWord ((res l).word - 1)) = q ∙ ap (at es) a.0 in
    names_more s es e e.found (subst (Names s es) (sym found) (w ((res l).word - 1) a.3))
old_own s es e l LookHigh a q w h = old_res s (e ∷ es) l.resolution h
old_own s es e l LookNew a q w h = old_res s (e ∷ es) l.resolution h
old_own s es e l Kill a q w h = old_res s (e ∷ es) l.resolution h
old_own s es e l k a q w h = unlooked (OldNames s (e ∷ es)) s l e k refl tt h

old_words : {s : Shape} {es : List Event} (e : Event) → Core s (e ∷ es) → Olds s es → (m : ℕ) →
    m < s.callers * s.locators → Names s (e ∷ es) (word s (e ∷ es) (OldWord m))
old_words {s = s} {es = es} e core o m b = elim (change (OldWord m) (step s es e core) b) [
  | inl x ↦ subst (Names s (e ∷ es)) (sym x) (names_more s es e (word s es (OldWord m)) (o.word m b))
  | inr x ↦
      let puts = put_old_puts s (local s es e.caller) e x.how.kind core.1.allowed in
      let here : e.place ≡ place s (OldWord m) =
      puts.0 ∙ ap (place s) puts.2 ∙ ap (λ m. place s (OldWord m)) (sym x.how.number) in
      let now : word s (e ∷ es) (OldWord m) ≡ or_zero (version (res (local s es e.caller))) =
      put_at es e (place s (OldWord m)) here ∙ puts.1 in
      subst (Names s (e ∷ es)) (sym now) (names_more s es e _ (version_names (basic s es core.0) o e.caller))
]

pub old_names : (s : Shape) (es : List Event) → Core s es → Olds s es
old_names s [] core = record { word = λ m b. inl refl; res = λ c. tt }
old_names s (e ∷ es) core = let o = old_names s es core.0 in record {
  word = old_words e core o;
  res = callers s es e (λ c l. OldNames s (e ∷ es) l.resolution)
      (old_own s es e (local s es e.caller) e.kind core.1.allowed core.1.linked o.word
      (old_names_more s es e (local s es e.caller).resolution (o.res e.caller)))
      (λ c d. old_names_more s es e (local s es c).resolution (o.res c));
}

-- ---- the word of an event that may come

owner_in : {s : Shape} {es : List Event} → Basic s es → (r : Option Resolution) → ResBasic s es r →
    is_some (or_unresolved r).owner ≡ true → or_zero (or_unresolved r).owner < s.callers * s.attempts
owner_in {s = s} {es = es} b r h i = at_owner (or_unresolved r).word (or_unresolved r).owner known.0 known.1 i
  where
    known : Names s es (or_unresolved r).word × OwnerIs s es (or_unresolved r).word (or_unresolved r).owner
    known = res_known s es r h

    named : (x a : ℕ) → Names s es x → (0 < x) × (a ≡ word s es (OwnerWord (x - 1))) → a < s.callers * s.attempts
    named x a (inl n) o = absurd (omega arith)
    named x a (inr n) o = rw o.1 ((b.owner (x - 1) n.1).begun.below)

    at_owner : (x : ℕ) (o : Option ℕ) → Names s es x → OwnerIs s es x o → is_some o ≡ true →
        or_zero o < s.callers * s.attempts
    at_owner x None n o i = absurd (cc)
    at_owner x (Some a) n o i = named x a n o

names_in : (s : Shape) (es : List Event) (x : ℕ) → Names s es x → 0 < x → x - 1 < s.callers * s.locators
names_in s es x (inl h) p = absurd (omega arith)
names_in s es x (inr h) p = h.1.below

-- the locator of a version is in the shape if there is any locator
version_in : (s : Shape) (es : List Event) (x v : ℕ) → Names s es x → 0 < x → Names s es v →
    v - 1 < s.callers * s.locators
version_in s es x v n p (inl h) = let some = names_in s es x n p in omega arith
version_in s es x v n p (inr h) = h.1.below

next_in : (s : Shape) (c : ℕ) (l : LocalState) → Static s c l → c < s.callers → is_some l.number ≡ true →
    l.begun < s.attempts → next_attempt s l < s.callers * s.attempts
next_in s c l t b i h = go t.number
  where
    go : (l.number ≡ None) ⊎ (l.number ≡ Some c) → next_attempt s l < s.callers * s.attempts
    go (inl q) = absurd (cc)
    go (inr q) =
        let number : or_zero l.number ≡ c = ap or_zero q in
        rw number (in_table c s.attempts l.begun s.callers b h)

rank_in : (s : Shape) (c : ℕ) (l : LocalState) (n : ℕ) → Static s c l → c < s.callers → MayRank l.phase s l n →
    rank_of l.phase s l < s.callers * s.attempts
rank_in s c l n t b m = go l.phase refl m
  where
    go : (p : Phase) → l.phase ≡ p → MayRank p s l n → rank_of p s l < s.callers * s.attempts
    go Outside q m = next_in s c l t b m.0 m.1
    go Running q m = own_in s c l t b (λ h. cc)
    go p q m = absurd m

-- the locator of the write whose value is put next
write_in : (s : Shape) (c : ℕ) (l : LocalState) → Static s c l → c < s.callers → l.written < length l.writes →
    (next_write l).locator < s.callers * s.locators
write_in s c l t b h =
    let number = numbered-get _ l.writes l.written t.numbered h in
    let count = t.count in
    let installed = t.installed in
    let below = in_table c s.locators (l.installed - length l.writes + l.written) s.callers b (omega arith) in
    omega arith

some_status : (status : Option ℕ) (n : ℕ) → or_zero status ≡ suc n → is_some status ≡ true
some_status None n h = absurd (cc)
some_status (Some m) n h = refl

-- what a core run knows of the caller that makes the next event
record At (s : Shape) (es : List Event) (c : ℕ) (l : LocalState) : Type 0 where
  pub caller : c < s.callers
  pub own : Static s c l
  pub known : Known (res l)
  pub reads : ReadsIn s l.reads
  pub word : Names s es (res l).word
  pub version : Names s es (or_zero (version (res l)))
  pub owner : is_some (res l).owner ≡ true → or_zero (res l).owner < s.callers * s.attempts

ranged : {s : Shape} {es : List Event} {c : ℕ} {l : LocalState} (e : Event) (k : Kind) → At s es c l →
    (k ≡ LookObj → e.place < s.objects) → May k s l e → HasWord s (target k s l e)
ranged e Enrol t o m = tt
ranged e Stamp t o m = tt
ranged {s = s} {c = c} {l = l} e Rank t o m = rank_in s c l e.put t.own t.caller m
ranged {s = s} {c = c} {l = l} e Begin t o m = next_in s c l t.own t.caller m.1 m.2
ranged e LookObj t o m = o refl
ranged {s = s} {es = es} {l = l} e LookOwner t o m = names_in s es (res l).word t.word m.2
ranged e LookStatus t o m = t.owner m.2
ranged e LookRank t o m = t.owner m.2
ranged {s = s} {es = es} {l = l} e LookOld t o m =
    names_in s es (res l).word t.word (t.known.status (some_status (res l).status 4 m.2))
ranged {s = s} {es = es} {l = l} e LookHigh t o m = names_in s es (or_zero (version (res l))) t.version m.2
ranged {s = s} {es = es} {l = l} e LookNew t o m =
    version_in s es (res l).word (or_zero (version (res l))) t.word (t.known.high m.2) t.version
ranged {s = s} {c = c} {l = l} e PutOwner t o m = next_locator_in s c l t.own t.caller (λ h. cc) m.2
ranged {s = s} {c = c} {l = l} e PutOld t o m =
    next_locator_in s c l t.own t.caller (λ h. cc) (t.own.held (ap is_some m.4))
ranged {s = s} {l = l} e Install t o m = res-in_shape s l t.own.object m.2
ranged e LookNumber t o m = tt
ranged {s = s} {l = l} e Check t o m = reads_get s l.reads l.checked t.reads m.2
ranged {s = s} {c = c} {l = l} e LookSelf t o m = own_in s c l t.own t.caller (λ h. cc)
ranged {s = s} {l = l} e Release t o m = read_found s e.place l.reads t.reads m.2
ranged {s = s} {c = c} {l = l} e PutHigh t o m = write_in s c l t.own t.caller m.2
ranged {s = s} {c = c} {l = l} e PutNew t o m = write_in s c l t.own t.caller m.2
ranged {s = s} {c = c} {l = l} e ToValidating t o m = own_in s c l t.own t.caller (λ h. grind arith)
ranged e Draw t o m = tt
ranged {s = s} {c = c} {l = l} e Commit t o m = own_in s c l t.own t.caller (λ h. cc)
ranged e Kill t o m = t.owner m.2
ranged {s = s} {c = c} {l = l} e Quit t o m = own_in s c l t.own t.caller m
ranged {s = s} {c = c} {l = l} e Pause t o m = own_in s c l t.own t.caller (λ h. cc)
ranged {s = s} {c = c} {l = l} e Resume t o m = own_in s c l t.own t.caller (λ h. cc)

-- in a core run: the word that an event of this kind is aimed at, if it may come next, is one of the shape's
pub in_range : (s : Shape) (es : List Event) (c : ℕ) (e : Event) (k : Kind) → Core s es → c < s.callers →
    (k ≡ LookObj → e.place < s.objects) → May k s (local s es c) e → HasWord s (target k s (local s es c) e)
in_range s es c e k core b o may =
    let basic = basic s es core in
    ranged e k (record {
      caller = b;
      own = static s es core c;
      known = known_res (local s es c).resolution (known s es core c);
      reads = reads_in s es core c;
      word = (res_known s es (local s es c).resolution (basic.res c)).0;
      version = version_names basic (old_names s es core) c;
      owner = owner_in basic (local s es c).resolution (basic.res c);
    }) o may
