-- No object is twice among a caller's reads and writes.
use Rattle.std.proofs.Common.{◌&&◌, Bool, if◌then◌else◌, ◌++◌, ◌==◌, ◌∙◌, ◌∷◌, ◌≡◌, ◌≢◌, ◌⊎◌, List, None, Option, Some, [], ap, false, inl, inr, is_none, is_some, refl, subst, sym, true, ℕ}
use Rattle.dstm_core.proofs.Base.{AllowedAs, Core, Event, LocalState, after, and_parts, cases_Bool, cond_both, drop_read, eqb-false, eqb-true, given, install, is_resolved, local, ne_eqb, or_unresolved, read_of, record_resolved, res, write_of}
use Rattle.dstm_opacity.proofs.Base.{Begin, Install, Kill, Kind, LookHigh, LookNew, LookNumber, LookObj, LookOld, LookOwner, LookRank, LookSelf, LookStatus, Pause, Read, Release, Resolution, Resume, Shape, ToValidating, Write}
use Rattle.dstm_core.proofs.Static.{callers, has_high, has_owner, has_status, has_version, has_word}
use Rattle.dstm_opacity.proofs.LastPass.{none_from}
use Rattle.dstm_core.proofs.Untouched.{unlooked}

-- no object is read twice
abbrev pub ReadsOnce : List Read → Type 0
ReadsOnce [] = Unit {0}
ReadsOnce (r ∷ rs) = (read_of r.object rs ≡ None) × ReadsOnce rs

-- no object is written twice
abbrev pub WritesOnce : List Write → Type 0
WritesOnce [] = Unit {0}
WritesOnce (w ∷ ws) = (write_of w.object ws ≡ None) × WritesOnce ws

-- no read is of an object that is written
abbrev pub Apart : List Write → List Read → Type 0
Apart ws [] = Unit {0}
Apart ws (r ∷ rs) = (write_of r.object ws ≡ None) × Apart ws rs

-- nor is a resolution of an object that is written
abbrev pub ResApart : List Write → Option Resolution → Type 0
ResApart ws None = Unit {0}
ResApart ws (Some r) = write_of r.object ws ≡ None

-- of the reads, the writes and the resolution of a caller
pub record TidyBy (rs : List Read) (ws : List Write) (r : Option Resolution) : Type 0 where
  pub reads : ReadsOnce rs
  pub writes : WritesOnce ws
  pub apart : Apart ws rs
  pub res : ResApart ws r

-- of a caller's state
abbrev pub Tidy : LocalState → Type 0
Tidy l = TidyBy l.reads l.writes l.resolution

-- none is found: it is not the first, and the others have none
pub neither : {A : Type 0} (is : Bool) (first : A) (others : Option A) → (if is then Some first else others) ≡ None →
    (is ≡ false) × (others ≡ None)
neither true first others h = absurd (cc)
neither false first others h = (refl, h)

pub read_apart : (o : ℕ) (r : Read) (rs : List Read) → read_of o (r ∷ rs) ≡ None →
    (r.object ≢ o) × (read_of o rs ≡ None)
read_apart o r rs h = let x = neither (r.object == o) r (read_of o rs) h in (eqb-false r.object o x.0, x.1)

pub read_of-none : (o : ℕ) (r : Read) (rs : List Read) → r.object ≢ o → read_of o rs ≡ None → read_of o (r ∷ rs) ≡ None
read_of-none o r rs d h = rw (ne_eqb r.object o d) h

write_of-none : (o : ℕ) (ws : List Write) (w : Write) → w.object ≢ o → write_of o ws ≡ None →
    write_of o (ws ++ w ∷ []) ≡ None
write_of-none o [] w d h = rw (ne_eqb w.object o d) refl
write_of-none o (v ∷ ws) w d h = elim (cases_Bool (v.object == o)) [
  | inl q ↦ let z : Some v ≡ None = rw q at h in absurd (cc)
  | inr q ↦ rw q (write_of-none o ws w d (rw q at h))
]

-- a read that another drop left
pub drop_keeps : (o p : ℕ) (rs : List Read) → read_of p rs ≡ None → read_of p (drop_read o rs) ≡ None
drop_keeps o p [] h = refl
drop_keeps o p (r ∷ rs) h = let k = read_apart p r rs h in
    cond_both (r.object == o) rs (r ∷ drop_read o rs) (λ x. read_of p x ≡ None) (λ _. k.1)
    (λ _. read_of-none p r (drop_read o rs) k.0 (drop_keeps o p rs k.1))

drop_once : (o : ℕ) (rs : List Read) → ReadsOnce rs → ReadsOnce (drop_read o rs)
drop_once o [] h = tt
drop_once o (r ∷ rs) h =
    cond_both (r.object == o) rs (r ∷ drop_read o rs) ReadsOnce (λ _. h.1)
    (λ _. (drop_keeps o r.object rs h.0, drop_once o rs h.1))

drop_gone : (o : ℕ) (rs : List Read) → ReadsOnce rs → read_of o (drop_read o rs) ≡ None
drop_gone o [] h = refl
drop_gone o (r ∷ rs) h = cond_both (r.object == o) rs (r ∷ drop_read o rs) (λ x. read_of o x ≡ None)
    (λ q. subst (λ n. read_of n rs ≡ None) (eqb-true r.object o q) h.0)
    (λ q. read_of-none o r (drop_read o rs) (eqb-false r.object o q) (drop_gone o rs h.1))

drop_apart : (o : ℕ) (ws : List Write) (rs : List Read) → Apart ws rs → Apart ws (drop_read o rs)
drop_apart o ws [] h = tt
drop_apart o ws (r ∷ rs) h =
    cond_both (r.object == o) rs (r ∷ drop_read o rs) (Apart ws) (λ _. h.1) (λ _. (h.0, drop_apart o ws rs h.1))

apart_more : (ws : List Write) (w : Write) (rs : List Read) → read_of w.object rs ≡ None → Apart ws rs →
    Apart (ws ++ w ∷ []) rs
apart_more ws w [] n h = tt
apart_more ws w (r ∷ rs) n h = let k = read_apart w.object r rs n in
    (write_of-none r.object ws w (λ z. k.0 (sym z)) h.0, apart_more ws w rs k.1 h.1)

writes_more_once : (ws : List Write) (w : Write) → WritesOnce ws → write_of w.object ws ≡ None →
    WritesOnce (ws ++ w ∷ [])
writes_more_once [] w h n = (refl, tt)
writes_more_once (v ∷ ws) w h n = go (cases_Bool (v.object == w.object)) (λ k. writes_more_once ws w h.1 k)
  where
    go : (v.object == w.object ≡ true) ⊎ (v.object == w.object ≡ false) →
        (write_of w.object ws ≡ None → WritesOnce (ws ++ w ∷ [])) → WritesOnce (v ∷ (ws ++ w ∷ []))
    go (inl q) ih = let z : Some v ≡ None = rw q at n in absurd (cc)
    go (inr q) ih = (write_of-none v.object ws w (λ z. eqb-false v.object w.object q (sym z)) h.0, ih (rw q at n))

reads_more_once : (rs : List Read) (r : Read) → ReadsOnce rs → read_of r.object rs ≡ None → ReadsOnce (rs ++ r ∷ [])
reads_more_once [] r h n = (refl, tt)
reads_more_once (q ∷ rs) r h n = let k = read_apart r.object q rs n in
    (end_none q.object rs r (λ z. k.0 (sym z)) h.0, reads_more_once rs r h.1 k.1)
  where
    end_none : (o : ℕ) (rs : List Read) (r : Read) → r.object ≢ o → read_of o rs ≡ None →
        read_of o (rs ++ r ∷ []) ≡ None
    end_none o [] r d h = rw (ne_eqb r.object o d) refl
    end_none o (x ∷ rs) r d h = let k = read_apart o x rs h in
        read_of-none o x (rs ++ r ∷ []) k.0 (end_none o rs r d k.1)

apart_snoc : (ws : List Write) (rs : List Read) (r : Read) → Apart ws rs → write_of r.object ws ≡ None →
    Apart ws (rs ++ r ∷ [])
apart_snoc ws [] r h n = (n, tt)
apart_snoc ws (q ∷ rs) r h n = (h.0, apart_snoc ws rs r h.1 n)

res_apart : (ws : List Write) (o : Option Resolution) → is_some o ≡ true → ResApart ws o →
    write_of (or_unresolved o).object ws ≡ None
res_apart ws None i h = absurd (cc)
res_apart ws (Some r) i h = h

record_once : (o : Option Resolution) (ws : List Write) (rs : List Read) → ReadsOnce rs → Apart ws rs →
    ResApart ws o → ReadsOnce (record_resolved o rs) × Apart ws (record_resolved o rs)
record_once None ws rs h a r = (h, a)
record_once (Some x) ws rs h a r =
    cond_both (is_resolved x && is_none (read_of x.object rs)) _ rs (λ y. ReadsOnce y × Apart ws y)
    (λ q. let two = and_parts (is_resolved x) (is_none (read_of x.object rs)) q in
    (reads_more_once rs _ h (none_from (read_of x.object rs) two.1), apart_snoc ws rs _ a r)) (λ _. (h, a))

-- a look at the resolution's object
looked : (l : LocalState) (r : Resolution) → Tidy l → is_some l.resolution ≡ true → r.object ≡ (res l).object →
    TidyBy l.reads l.writes (Some r)
looked l r t i q = record {
  reads = t.reads;
  writes = t.writes;
  apart = t.apart;
  res = ap (λ o. write_of o l.writes) q ∙ res_apart l.writes l.resolution i t.res;
}

dropped : {rs : List Read} {ws : List Write} {r : Option Resolution} → TidyBy rs ws r → TidyBy rs ws None
dropped t = record { reads = t.reads; writes = t.writes; apart = t.apart; res = tt }

installed : (s : Shape) (l : LocalState) → Tidy l → is_some l.resolution ≡ true → Tidy (install s l)
installed s l t i = record {
  reads = drop_once (res l).object l.reads t.reads;
  writes = writes_more_once l.writes _ t.writes (res_apart l.writes l.resolution i t.res);
  apart = apart_more l.writes _ (drop_read (res l).object l.reads) (drop_gone (res l).object l.reads t.reads)
      (drop_apart (res l).object l.writes l.reads t.apart);
  res = tt;
}

tidy_step : (s : Shape) (l : LocalState) (e : Event) (k : Kind) → Tidy l → AllowedAs k s l e → Tidy (after k s l e)
tidy_step s l e Begin t a = record { reads = tt; writes = tt; apart = tt; res = tt }
tidy_step s l e LookObj t a = record { reads = t.reads; writes = t.writes; apart = t.apart; res = a.2.2 }
tidy_step s l e LookOwner t a = looked l _ t (has_word l.resolution a.2.2) refl
tidy_step s l e LookStatus t a = looked l _ t (has_owner l.resolution a.2.2) refl
tidy_step s l e LookRank t a = looked l _ t (has_owner l.resolution a.2.2) refl
tidy_step s l e LookOld t a = looked l _ t (has_status l.resolution 4 a.2.2) refl
tidy_step s l e LookHigh t a = looked l _ t (has_version l.resolution a.2.2) refl
tidy_step s l e LookNew t a = looked l _ t (has_high l.resolution a.2.2) refl
tidy_step s l e Kill t a = looked l _ t (has_owner l.resolution a.2.2) refl
tidy_step s l e Install t a = cond_both (e.found == e.expected) _ _ Tidy (λ _. installed s l t a.2.2) (λ _. dropped t)
tidy_step s l e LookNumber t a =
    let r = record_once l.resolution l.writes l.reads t.reads t.apart t.res in record {
      reads = r.0;
      writes = t.writes;
      apart = r.1;
      res = unlooked (ResApart l.writes) s l e LookNumber refl tt t.res;
    }
tidy_step s l e Release t a = record {
  reads = drop_once e.place l.reads t.reads;
  writes = t.writes;
  apart = drop_apart e.place l.writes l.reads t.apart;
  res = tt;
}
tidy_step s l e LookSelf t a = cond_both (e.found == given l.phase) _ _ Tidy (λ _. t) (λ _. t)
tidy_step s l e ToValidating t a = cond_both (e.found == 1) _ _ Tidy (λ _. t) (λ _. t)
tidy_step s l e Pause t a = cond_both (e.found == 1) _ _ Tidy (λ _. t) (λ _. t)
tidy_step s l e Resume t a = cond_both (e.found == 2) _ _ Tidy (λ _. t) (λ _. t)
tidy_step s l e k t a = t

-- every caller of a core run keeps this
pub tidy : (s : Shape) (es : List Event) → Core s es → (c : ℕ) → Tidy (local s es c)
tidy s [] core c = record { reads = tt; writes = tt; apart = tt; res = tt }
tidy s (e ∷ es) core c =
    callers s es e (λ c l. Tidy l)
    (tidy_step s (local s es e.caller) e e.kind (tidy s es core.0 e.caller) core.1.allowed)
    (λ c _. tidy s es core.0 c) c
