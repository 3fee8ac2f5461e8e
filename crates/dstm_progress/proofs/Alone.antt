-- An attempt that is alone: what it found and recorded is so now, and no exchange of it fails.
use Rattle.std.proofs.Common.{◌*◌, ◌++◌, ◌+◌, ◌-◌, ◌<◌, ◌==◌, ◌&&◌, ◌∙◌, ◌∷◌, ◌≡◌, ◌≢◌, ◌⊎◌, List, Option, None, Some, [], ap, arith, false, if◌then◌else◌, inl, inr, is_none, is_some, length, refl, slice_get, suc, sym, true, zero, ℕ}
use Rattle.dstm_core.proofs.Base.{AllowedAs, Core, Event, LocalState, NumbersWord, StatusWord, after, and_parts, at, cases_Bool, cond_both, drop_read, eq-eqb, eqb-true, given, is_live, is_other, is_resolved, local, nat_tests, next_read, or_read, or_unresolved, or_zero, own_attempt, place, read_of, record_resolved, res, word}
use Rattle.dstm_order.proofs.Base.{Begin, Check, Commit, Draw, Drawn, Enrol, Install, Kill, Kind, LookHigh, LookNew, LookNumber, LookObj, LookOld, LookOwner, LookRank, LookSelf, LookStatus, Outside, Pause, Paused, PutHigh, PutNew, Putting, Quit, Rank, Read, Release, Resolution, Resume, Running, Shape, Stamp, ToValidating}
use Rattle.dstm_core.proofs.Basic.{Names, ResBasic, basic, res_known}
use Rattle.dstm_core.proofs.Columns.{Changed, Installed, Kills, Same, StatusMove, begins, change, kills, moves, numbers, objects, step}
use Rattle.dstm_core.proofs.Places.{put_at}
use Rattle.dstm_core.proofs.Static.{InShape, has_high, has_owner, has_status, has_version, has_word, local_own, res-in_shape, static}
use Rattle.dstm_opacity.proofs.Versions.{owner_of, status_of}
use Rattle.dstm_core.proofs.Underway.{not_begin, own_same, status_or_killed}
use Rattle.dstm_progress.proofs.Oldest.{looked_apart, owner_same, paused_how}
use Rattle.dstm_progress.proofs.Ranks.{owner_known}
use Rattle.dstm_opacity.proofs.Tidy.{drop_keeps, read_of-none, read_apart}
use Rattle.dstm_opacity.proofs.LastPass.{none_from}
use Rattle.dstm_core.proofs.Untouched.{unlooked, unrecorded}

-- ---- reads that are as they were recorded

-- each object read has the word that was recorded, and no object is read twice
abbrev pub AreNow : Shape → List Event → List Read → Type 0
AreNow s es [] = Unit {0}
AreNow s es (r ∷ rs) =
    (r.object < s.objects) × (at es r.object ≡ r.word) × (read_of r.object rs ≡ None) × AreNow s es rs

pub now_keep : (s : Shape) (es : List Event) (e : Event) (rs : List Read) →
    ((o : ℕ) → o < s.objects → at (e ∷ es) o ≡ at es o) → AreNow s es rs → AreNow s (e ∷ es) rs
now_keep s es e [] same h = tt
now_keep s es e (r ∷ rs) same h = (h.0, same r.object h.0 ∙ h.1, h.2, now_keep s es e rs same h.3)

-- where the word of one object that is not read changes
now_but : (s : Shape) (es : List Event) (e : Event) (p : ℕ) (rs : List Read) →
    ((o : ℕ) → o < s.objects → o ≢ p → at (e ∷ es) o ≡ at es o) → read_of p rs ≡ None → AreNow s es rs →
    AreNow s (e ∷ es) rs
now_but s es e p [] same n h = tt
now_but s es e p (r ∷ rs) same n h = let x = read_apart p r rs n in
    (h.0, same r.object h.0 x.0 ∙ h.1, h.2, now_but s es e p rs same x.1 h.3)

now_drop : (s : Shape) (es : List Event) (p : ℕ) (rs : List Read) → AreNow s es rs → AreNow s es (drop_read p rs)
now_drop s es p [] h = tt
now_drop s es p (r ∷ rs) h =
    cond_both (r.object == p) rs (r ∷ drop_read p rs) (AreNow s es) (λ _. h.3)
    (λ _. (h.0, h.1, drop_keeps p r.object rs h.2, now_drop s es p rs h.3))

-- an object whose read was dropped is not read
dropped : (s : Shape) (es : List Event) (p : ℕ) (rs : List Read) → AreNow s es rs → read_of p (drop_read p rs) ≡ None
dropped s es p [] h = refl
dropped s es p (r ∷ rs) h = go (cases_Bool (r.object == p)) (dropped s es p rs h.3)
  where
    go : (r.object == p ≡ true) ⊎ (r.object == p ≡ false) → read_of p (drop_read p rs) ≡ None →
        read_of p (if r.object == p then rs else r ∷ drop_read p rs) ≡ None
    go (inl q) ih = rw q (ap (λ o. read_of o rs) (sym (eqb-true r.object p q)) ∙ h.2)
    go (inr q) ih = rw q (read_of-none p r (drop_read p rs) (λ z. absurd (let x = eq-eqb r.object p z in cc)) ih)

now_snoc : (s : Shape) (es : List Event) (rs : List Read) (x : Read) → AreNow s es rs → x.object < s.objects →
    at es x.object ≡ x.word → read_of x.object rs ≡ None → AreNow s es (rs ++ x ∷ [])
now_snoc s es [] x h b w n = (b, w, refl, tt)
now_snoc s es (r ∷ rs) x h b w n = let y = read_apart x.object r rs n in
    (h.0, h.1, unread_snoc r.object rs x h.2 (λ z. y.0 (sym z)), now_snoc s es rs x h.3 b w y.1)
  where
    unread_snoc : (q : ℕ) (rs : List Read) (x : Read) → read_of q rs ≡ None → x.object ≢ q →
        read_of q (rs ++ x ∷ []) ≡ None
    unread_snoc q [] x h n = read_of-none q x [] n refl
    unread_snoc q (r ∷ rs) x h n = let y = read_apart q r rs h in
        read_of-none q r (rs ++ x ∷ []) y.0 (unread_snoc q rs x y.1 n)

now_get : (s : Shape) (es : List Event) (rs : List Read) (i : ℕ) → AreNow s es rs → i < length rs →
    at es (or_read (slice_get rs i)).object ≡ (or_read (slice_get rs i)).word
now_get s es [] i h l = absurd (omega arith)
now_get s es (r ∷ rs) zero h l = h.1
now_get s es (r ∷ rs) (suc i) h l = now_get s es rs i h.3 (omega arith)

now_of : (s : Shape) (es : List Event) (rs : List Read) (o : ℕ) → AreNow s es rs →
    is_other (at es o) (read_of o rs) ≡ false
now_of s es [] o h = refl
now_of s es (r ∷ rs) o h =
    cond_both (r.object == o) (Some r) (read_of o rs) (λ (x : Option Read). is_other (at es o) x ≡ false)
    (λ q. let w : r.word ≡ at es o = sym h.1 ∙ ap (at es) (eqb-true r.object o q) in
    rw (eq-eqb r.word (at es o) w) refl) (λ _. now_of s es rs o h.3)

-- ---- a resolution that is as it was found

-- the object has the word found, its owner is another attempt, and the status found last is the owner's
abbrev pub ResNow : Shape → List Event → (own : ℕ) → Option Resolution → Type 0
ResNow s es own None = Unit {0}
ResNow s es own (Some r) =
    (at es r.object ≡ r.word) × (0 < r.word → owner_of s es r.word ≢ own)
    × ((n : ℕ) → r.status ≡ Some n → (0 < r.word) × (status_of s es r.word ≡ n))

-- the same of a resolution that there is
pub now_res : (s : Shape) (es : List Event) (own : ℕ) (r : Option Resolution) → is_some r ≡ true →
    ResNow s es own r → ResNow s es own (Some (or_unresolved r))
now_res s es own None i h = absurd (cc)
now_res s es own (Some r) i h = h

pub now_record : (s : Shape) (es : List Event) (own : ℕ) (o : Option Resolution) (rs : List Read) →
    InShape s o → ResNow s es own o → AreNow s es rs → AreNow s es (record_resolved o rs)
now_record s es own None rs b n h = h
now_record s es own (Some r) rs b n h =
    cond_both (is_resolved r && is_none (read_of r.object rs)) _ rs (AreNow s es)
    (λ q. now_snoc s es rs _ h b n.0 (none_from (read_of r.object rs)
    (and_parts (is_resolved r) (is_none (read_of r.object rs)) q).1)) (λ _. h)

-- ---- an attempt that is alone

-- what the numbers are that an attempt found
pub record NumbersNow (s : Shape) (es : List Event) (l : LocalState) : Type 0 where
  pub last : (n : ℕ) → l.phase ≢ Drawn → l.last_pass ≡ Some n → n ≡ word s es NumbersWord
  pub pass : (n : ℕ) → l.phase ≢ Drawn → l.pass ≡ Some n → n ≡ word s es NumbersWord
  pub drawn : (n : ℕ) → l.phase ≡ Drawn → l.last_pass ≡ Some n → l.drawn ≡ Some n

-- all that the attempt of caller c under way found is so now
pub record Undisturbed (s : Shape) (es : List Event) (c : ℕ) : Type 0 where
  pub inside : (local s es c).phase ≢ Outside
  pub status : word s es (StatusWord (own_attempt s (local s es c))) ≡ given (local s es c).phase
  pub agreed : (local s es c).stale ≡ false
  pub reads : AreNow s es (local s es c).reads
  pub resolution : ResNow s es (own_attempt s (local s es c)) (local s es c).resolution
  pub numbers : NumbersNow s es (local s es c)

-- the words of objects stay, but for the one that an Install replaces
words_but : (s : Shape) (es : List Event) (e : Event) → Core s (e ∷ es) → (o : ℕ) → o < s.objects →
    o ≢ (res (local s es e.caller)).object → at (e ∷ es) o ≡ at es o
words_but s es e core o b n = elim (objects o (step s es e core) b) [ inl x ↦ x | inr x ↦ absurd (n x.how.object) ]

words_keep : (s : Shape) (es : List Event) (e : Event) → Core s (e ∷ es) → e.kind ≢ Install → (o : ℕ) →
    o < s.objects → at (e ∷ es) o ≡ at es o
words_keep s es e core n o b = elim (objects o (step s es e core) b) [ inl x ↦ x | inr x ↦ absurd (n x.how.kind) ]

-- ---- no exchange fails

pub install_aim : (s : Shape) (l : LocalState) (e : Event) {k : Kind} → k ≡ Install → AllowedAs k s l e →
    (e.place ≡ (res l).object) × (e.expected ≡ (res l).word) × (is_some l.resolution ≡ true)
install_aim s l e {k = Install} q a = (a.0, a.1.0, a.2.2)
install_aim s l e q a = absurd (cc)

-- an Install succeeds
pub install_succeeds : {s : Shape} {es : List Event} (e : Event) → Core s (e ∷ es) → Undisturbed s es e.caller →
    e.kind ≡ Install → e.found ≡ e.expected
install_succeeds {s = s} {es = es} e core u k = let l = local s es e.caller in
    let aim = install_aim s l e k core.1.allowed in
    core.1.linked ∙ ap (at es) aim.0 ∙ (now_res s es (own_attempt s l) l.resolution aim.2 u.resolution).0
    ∙ sym aim.1

pub kill_aim : (s : Shape) (l : LocalState) (e : Event) {k : Kind} → k ≡ Kill → AllowedAs k s l e →
    (e.place ≡ place s (StatusWord (or_zero (res l).owner))) × (e.expected ≡ or_zero (res l).status)
    × (is_some (res l).owner ≡ true) × (is_live (or_zero (res l).status) ≡ true)
kill_aim s l e {k = Kill} q a = (a.0, a.1.0, a.2.2, a.2.3)
kill_aim s l e q a = absurd (cc)

pub live_some : (o : Option ℕ) → is_live (or_zero o) ≡ true → o ≡ Some (or_zero o)
live_some None h = absurd (cc)
live_some (Some n) h = refl

-- a Kill succeeds
pub kill_succeeds : {s : Shape} {es : List Event} (e : Event) → Core s (e ∷ es) → Undisturbed s es e.caller →
    e.kind ≡ Kill → e.found ≡ e.expected
kill_succeeds {s = s} {es = es} e core u k = let l = local s es e.caller in
    let aim = kill_aim s l e k core.1.allowed in
    let r = res_known s es l.resolution ((basic s es core.0).res e.caller) in
    let o = owner_known s es (res l).word (res l).owner r.1 aim.2 in
    let now = now_res s es (own_attempt s l) l.resolution (has_owner l.resolution aim.2) u.resolution in
    core.1.linked ∙ ap (at es) aim.0 ∙ ap (λ a. word s es (StatusWord a)) o.1
    ∙ (now.2 (or_zero (res l).status) (live_some (res l).status aim.3)).1 ∙ sym aim.1

-- ---- the attempt after an event of its own

-- nothing becomes stale
pub fresh_after : (s : Shape) (es : List Event) (e : Event) (k : Kind) → e.found ≡ at es e.place →
    AllowedAs k s (local s es e.caller) e → (local s es e.caller).stale ≡ false →
    AreNow s es (local s es e.caller).reads → (after k s (local s es e.caller) e).stale ≡ false
fresh_after s es e Begin f a h n = refl
fresh_after s es e LookObj f a h n = rw f (now_of s es (local s es e.caller).reads e.place n)
fresh_after s es e Check f a h n = let l = local s es e.caller in
    let w : e.found ≡ (next_read l).word = f ∙ ap (at es) a.0 ∙ now_get s es l.reads l.checked n a.2.2 in
    rw (eq-eqb e.found (next_read l).word w) refl
fresh_after s es e k f a h n = grind (arith, nat_tests)

-- the reads
reads_after : (s : Shape) (es : List Event) (e : Event) (own : ℕ) (k : Kind) → (k ≡ Install → e.found ≡ e.expected) →
    ((o : ℕ) → o < s.objects → o ≢ (res (local s es e.caller)).object → at (e ∷ es) o ≡ at es o) →
    (k ≢ Install → (o : ℕ) → o < s.objects → at (e ∷ es) o ≡ at es o) → InShape s (local s es e.caller).resolution →
    ResNow s es own (local s es e.caller).resolution → AreNow s es (local s es e.caller).reads →
    AreNow s (e ∷ es) (after k s (local s es e.caller) e).reads
reads_after s es e own Begin ok but keep i r n = tt
reads_after s es e own Install ok but keep i r n =
    cond_both (e.found == e.expected) _ _ (λ (m : LocalState). AreNow s (e ∷ es) m.reads)
    (λ _. let l = local s es e.caller in
    now_but s es e (res l).object (drop_read (res l).object l.reads) but (dropped s es (res l).object l.reads n)
    (now_drop s es (res l).object l.reads n)) (λ q. absurd (let x = eq-eqb e.found e.expected (ok refl) in cc))
reads_after s es e own LookNumber ok but keep i r n = let l = local s es e.caller in
    now_keep s es e (record_resolved l.resolution l.reads) (keep (λ q. cc))
    (now_record s es own l.resolution l.reads i r n)
reads_after s es e own Release ok but keep i r n = let l = local s es e.caller in
    now_keep s es e (drop_read e.place l.reads) (keep (λ q. cc)) (now_drop s es e.place l.reads n)
reads_after s es e own k ok but keep i r n =
    unrecorded (AreNow s (e ∷ es)) s (local s es e.caller) e k refl
    (now_keep s es e (local s es e.caller).reads (keep (λ q. cc)) n)

-- the status of another attempt stays, but at a Kill
pub status_keep : (s : Shape) (es : List Event) (e : Event) (a : ℕ) → Core s (e ∷ es) →
    a < s.callers * s.attempts → e.kind ≢ Begin → e.kind ≢ Kill → a ≢ own_attempt s (local s es e.caller) →
    word s (e ∷ es) (StatusWord a) ≡ word s es (StatusWord a)
status_keep s es e a core b n k d =
    elim (change (StatusWord a) (step s es e core) b) [ inl x ↦ x | inr x ↦ absurd (moved x.how) ]
  where
    moved : StatusMove s (local s es e.caller) e a → ⊥
    moved (begins x) = n x.kind
    moved (moves x) = d x.attempt
    moved (kills x) = k x.kind

-- what is known of a resolution stays known at an event that is no Install, no Kill and no Begin
res_keep : (s : Shape) (es : List Event) (e : Event) (r : Option Resolution) → Core s (e ∷ es) →
    e.kind ≢ Begin → e.kind ≢ Kill → e.kind ≢ Install → InShape s r → ResBasic s es r →
    ResNow s es (own_attempt s (local s es e.caller)) r → ResNow s (e ∷ es) (own_attempt s (local s es e.caller)) r
res_keep s es e None core b k i sh ba h = tt
res_keep s es e (Some r) core b k i sh ba h = (
  words_keep s es e core i r.object sh ∙ h.0,
  (λ p q. h.1 p (sym (owner_same s es e r.word core ba.0 p) ∙ q)),
  (λ n q. let x = h.2 n q in (x.0, status x.0 ba.0 ∙ x.1)),
)
  where
    status : 0 < r.word → Names s es r.word → status_of s (e ∷ es) r.word ≡ status_of s es r.word
    status p (inl z) = absurd (omega arith)
    status p (inr z) = ap (λ a. word s (e ∷ es) (StatusWord a)) (owner_same s es e r.word core (inr z) p)
        ∙ status_keep s es e (owner_of s es r.word) core ((basic s es core.0).owner (r.word - 1) z.1).begun.below b k
        (h.1 p)

-- the resolution
res_after : (s : Shape) (es : List Event) (e : Event) {k : Kind} → Core s (e ∷ es) → e.kind ≡ k →
    (local s es e.caller).phase ≢ Outside → AllowedAs k s (local s es e.caller) e → (k ≢ Install → k ≢ Kill →
    ResNow s (e ∷ es) (own_attempt s (local s es e.caller)) (local s es e.caller).resolution) →
    ResNow s es (own_attempt s (local s es e.caller)) (local s es e.caller).resolution →
    ResNow s (e ∷ es) (own_attempt s (local s es e.caller)) (after k s (local s es e.caller) e).resolution
res_after s es e {k = Begin} core q out a h was = tt
res_after s es e {k = LookObj} core q out a h was = (
  put_at es e e.place refl ∙ a.1.1,
  (λ pos z. let found = core.1.linked in
      let pos' : 0 < at es e.place = omega arith in
      looked_apart s es e.caller e.place core.0 core.1.caller a.3 out a.2.2 pos'
      (sym (owner_same s es e (at es e.place) core ((basic s es core.0).object e.place a.3) pos')
      ∙ ap (owner_of s (e ∷ es)) (sym found) ∙ z)),
  (λ n z. absurd (cc)),
)
res_after s es e {k = LookStatus} core q out a h was = let l = local s es e.caller in
    let own = own_attempt s l in
    let r = res_known s es l.resolution ((basic s es core.0).res e.caller) in
    let o = owner_known s es (res l).word (res l).owner r.1 a.2.2 in
    let now = now_res s (e ∷ es) own l.resolution (has_owner l.resolution a.2.2) (h (λ z. cc) (λ z. cc)) in (
      now.0,
      now.1,
      (λ n z. (
        o.0,
        ap (λ m. word s (e ∷ es) (StatusWord m))
            (owner_same s es e (res l).word core r.0 o.0 ∙ sym o.1) ∙ put_at es e _ a.0 ∙ a.1.1
            ∙ (let y : e.found ≡ n = cc in y),
      )),
    )
res_after s es e {k = Kill} core q out a h was = let l = local s es e.caller in
    let own = own_attempt s l in
    let r = res_known s es l.resolution ((basic s es core.0).res e.caller) in
    let o = owner_known s es (res l).word (res l).owner r.1 a.2.2 in
    let now = now_res s es own l.resolution (has_owner l.resolution a.2.2) was in
    let object = res-in_shape s l (static s es core.0 e.caller).object (has_owner l.resolution a.2.2) in (
      words_keep s es e core (λ z. cc) (res l).object object ∙ now.0,
      (λ p z. now.1 p (sym (owner_same s es e (res l).word core r.0 p) ∙ z)),
      (λ n z. (
        o.0,
        ap (λ m. word s (e ∷ es) (StatusWord m))
            (owner_same s es e (res l).word core r.0 o.0 ∙ sym o.1) ∙ put_at es e _ a.0
            ∙ (let y : e.put ≡ n = cc in y),
      )),
    )
res_after s es e {k = LookOwner} core q out a h was = let l = local s es e.caller in
    now_res s (e ∷ es) (own_attempt s l) l.resolution (has_word l.resolution a.2.2) (h (λ z. cc) (λ z. cc))
res_after s es e {k = LookRank} core q out a h was = let l = local s es e.caller in
    now_res s (e ∷ es) (own_attempt s l) l.resolution (has_owner l.resolution a.2.2) (h (λ z. cc) (λ z. cc))
res_after s es e {k = LookOld} core q out a h was = let l = local s es e.caller in
    now_res s (e ∷ es) (own_attempt s l) l.resolution (has_status l.resolution 4 a.2.2) (h (λ z. cc) (λ z. cc))
res_after s es e {k = LookHigh} core q out a h was = let l = local s es e.caller in
    now_res s (e ∷ es) (own_attempt s l) l.resolution (has_version l.resolution a.2.2) (h (λ z. cc) (λ z. cc))
res_after s es e {k = LookNew} core q out a h was = let l = local s es e.caller in
    now_res s (e ∷ es) (own_attempt s l) l.resolution (has_high l.resolution a.2.2) (h (λ z. cc) (λ z. cc))
res_after s es e {k = Install} core q out a h was =
    cond_both (e.found == e.expected) _ _
    (λ (m : LocalState). ResNow s (e ∷ es) (own_attempt s (local s es e.caller)) m.resolution) (λ _. tt) (λ _. tt)
res_after s es e {k = k} core q out a h was =
    unlooked (ResNow s (e ∷ es) (own_attempt s (local s es e.caller))) s (local s es e.caller) e k refl tt
    (h (λ z. cc) (λ z. cc))

-- the numbers: what they are where the count of numbers stays, and at a Draw
numbers_drop : {s : Shape} {es : List Event} (e : Event) {l : LocalState} (m : LocalState) →
    word s (e ∷ es) NumbersWord ≡ word s es NumbersWord → m.last_pass ≡ l.last_pass → m.pass ≡ None →
    (m.phase ≢ Drawn → l.phase ≢ Drawn) → (m.phase ≡ Drawn → (l.phase ≡ Drawn) × (m.drawn ≡ l.drawn)) →
    NumbersNow s es l → NumbersNow s (e ∷ es) m
numbers_drop e m w lp ps nd dr h = record {
  last = λ n d q. h.last n (nd d) (sym lp ∙ q) ∙ sym w;
  pass = λ n d q. absurd (cc);
  drawn = λ n d q. let x = dr d in x.1 ∙ h.drawn n x.0 (sym lp ∙ q);
}

numbers_keep : {s : Shape} {es : List Event} (e : Event) {l : LocalState} (m : LocalState) →
    word s (e ∷ es) NumbersWord ≡ word s es NumbersWord → m.last_pass ≡ l.last_pass → m.pass ≡ l.pass →
    (m.phase ≢ Drawn → l.phase ≢ Drawn) → (m.phase ≡ Drawn → (l.phase ≡ Drawn) × (m.drawn ≡ l.drawn)) →
    NumbersNow s es l → NumbersNow s (e ∷ es) m
numbers_keep e m w lp ps nd dr h = record {
  last = λ n d q. h.last n (nd d) (sym lp ∙ q) ∙ sym w;
  pass = λ n d q. h.pass n (nd d) (sym ps ∙ q) ∙ sym w;
  drawn = λ n d q. let x = dr d in x.1 ∙ h.drawn n x.0 (sym lp ∙ q);
}

numbers_after : {s : Shape} {es : List Event} (e : Event) {l : LocalState} (k : Kind) → AllowedAs k s l e →
    e.found ≡ at es e.place → l.phase ≢ Outside → (after k s l e).phase ≢ Outside →
    (k ≢ Draw → word s (e ∷ es) NumbersWord ≡ word s es NumbersWord) →
    NumbersNow s es l → NumbersNow s (e ∷ es) (after k s l e)
numbers_after e Enrol a f i o w h = numbers_keep e _ (w (λ q. cc)) refl refl (λ d. d) (λ d. (d, refl)) h
numbers_after e Stamp a f i o w h = absurd (i a.2.0)
numbers_after e Begin a f i o w h = absurd (i a.2.0)
numbers_after e Rank a f i o w h = numbers_drop e _ (w (λ q. cc)) refl refl (λ d. d) (λ d. (d, refl)) h
numbers_after {es = es} e LookNumber a f i o w h = record {
  last = λ n d q. h.last n d q ∙ sym (w (λ q. cc));
  pass = λ n d q. let x : e.found ≡ n = cc in sym x ∙ f ∙ ap (at es) a.0 ∙ sym (w (λ q. cc));
  drawn = λ n d q. h.drawn n d q;
}
numbers_after e Check a f i o w h = numbers_keep e _ (w (λ q. cc)) refl refl (λ d. d) (λ d. (d, refl)) h
numbers_after {s = s} {es = es} e {l = l} LookSelf a f i o w h =
    cond_both (e.found == given l.phase) _ _ (λ (m : LocalState). NumbersNow s (e ∷ es) m) (λ _. record {
      last = λ n d q. h.pass n d q ∙ sym (w (λ q. cc));
      pass = λ n d q. absurd (cc);
      drawn = λ n d q. absurd (let x = a.2.0 in cc);
    }) (λ _. numbers_keep e _ (w (λ q. cc)) refl refl (λ d z. let x = a.2.0 in cc) (λ d. absurd (cc)) h)
numbers_after {s = s} {es = es} e Install a f i o w h =
    cond_both (e.found == e.expected) _ _ (λ (m : LocalState). NumbersNow s (e ∷ es) m)
    (λ _. numbers_drop e _ (w (λ q. cc)) refl refl (λ d. d) (λ d. (d, refl)) h)
    (λ _. numbers_drop e _ (w (λ q. cc)) refl refl (λ d. d) (λ d. (d, refl)) h)
numbers_after e {l = l} PutHigh a f i o w h =
    numbers_drop e _ (w (λ q. cc)) refl refl (λ d. not_drawn a.2.0) (λ d. absurd (cc)) h
  where
    not_drawn : (l.phase ≡ Running) ⊎ (l.phase ≡ Putting) → l.phase ≢ Drawn
    not_drawn (inl x) z = cc
    not_drawn (inr x) z = cc
numbers_after e PutNew a f i o w h =
    numbers_drop e _ (w (λ q. cc)) refl refl (λ d z. let x = a.2.0 in cc) (λ d. absurd (cc)) h
numbers_after {s = s} {es = es} e {l = l} ToValidating a f i o w h =
    cond_both (e.found == 1) _ _ (λ (m : LocalState). NumbersNow s (e ∷ es) m)
    (λ _. numbers_keep e _ (w (λ q. cc)) refl refl (λ d. not_drawn a.2.0) (λ d. absurd (cc)) h)
    (λ _. numbers_keep e _ (w (λ q. cc)) refl refl (λ d. not_drawn a.2.0) (λ d. absurd (cc)) h)
  where
    not_drawn : ((l.phase ≡ Running) × (l.writes ≡ []))
        ⊎ ((l.phase ≡ Putting) × (l.written ≡ length l.writes)) → l.phase ≢ Drawn
    not_drawn (inl x) z = let y = x.0 in cc
    not_drawn (inr x) z = let y = x.0 in cc
numbers_after {es = es} e Draw a f i o w h = record {
  last = λ n d q. absurd (d refl);
  pass = λ n d q. absurd (d refl);
  drawn = λ n d q. ap Some (f ∙ ap (at es) a.0 ∙ sym (h.last n (λ z. let x = a.2.0 in cc) q));
}
numbers_after e Commit a f i o w h = absurd (o refl)
numbers_after e Quit a f i o w h = absurd (o refl)
numbers_after {s = s} {es = es} e Pause a f i o w h =
    cond_both (e.found == 1) _ _ (λ (m : LocalState). NumbersNow s (e ∷ es) m)
    (λ _. numbers_drop e _ (w (λ q. cc)) refl refl (λ d z. let x = a.2.0 in cc) (λ d. absurd (cc)) h)
    (λ _. numbers_keep e _ (w (λ q. cc)) refl refl (λ d z. let x = a.2.0 in cc) (λ d. absurd (cc)) h)
numbers_after {s = s} {es = es} e Resume a f i o w h =
    cond_both (e.found == 2) _ _ (λ (m : LocalState). NumbersNow s (e ∷ es) m)
    (λ _. numbers_drop e _ (w (λ q. cc)) refl refl (λ d z. let x = a.2.0 in cc) (λ d. absurd (cc)) h)
    (λ _. numbers_keep e _ (w (λ q. cc)) refl refl (λ d z. let x = a.2.0 in cc) (λ d. absurd (cc)) h)
numbers_after e k a f i o w h = numbers_drop e _ (w (λ q. cc)) refl refl (λ d. d) (λ d. (d, refl)) h

-- the count of numbers stays, but at a Draw
pub numbers_stay : (s : Shape) (es : List Event) (e : Event) → Core s (e ∷ es) → e.kind ≢ Draw →
    word s (e ∷ es) NumbersWord ≡ word s es NumbersWord
numbers_stay s es e core n = elim (numbers (step s es e core)) [ inl x ↦ x | inr x ↦ absurd (n x.0) ]

-- no Kill of an attempt that is alone is at its own status
no_own_kill : {s : Shape} {es : List Event} {e : Event} → Core s (e ∷ es) → Undisturbed s es e.caller →
    Kills s (local s es e.caller) e (own_attempt s (local s es e.caller)) → ⊥
no_own_kill {s = s} {es = es} {e = e} core u k = let l = local s es e.caller in
    let aim = kill_aim s l e k.kind core.1.allowed in
    let r = res_known s es l.resolution ((basic s es core.0).res e.caller) in
    let o = owner_known s es (res l).word (res l).owner r.1 aim.2 in
    (now_res s es (own_attempt s l) l.resolution (has_owner l.resolution aim.2) u.resolution).1 o.0
    (sym o.1 ∙ sym k.attempt)

-- an attempt that is alone stays undisturbed by an event of its own that does not leave it
pub undisturbed_step : {s : Shape} {es : List Event} (e : Event) → Core s (e ∷ es) →
    (local s (e ∷ es) e.caller).phase ≢ Outside → Undisturbed s es e.caller → Undisturbed s (e ∷ es) e.caller
undisturbed_step {s = s} {es = es} e core i u = record {
  inside = i;
  status = status (status_or_killed s es e e.caller core core.1.caller u.inside i u.status);
  agreed = rw now (fresh_after s es e e.kind core.1.linked core.1.allowed u.agreed u.reads);
  reads = rw now (reads_after s es e (own_attempt s (local s es e.caller)) e.kind
      (install_succeeds e core u) (words_but s es e core) (words_keep s es e core)
      (static s es core.0 e.caller).object u.resolution u.reads);
  resolution = rw (own_same s es e e.caller core core.1.caller u.inside i, now)
      (res_after s es e core refl u.inside core.1.allowed
      (λ a b. res_keep s es e (local s es e.caller).resolution core (not_begin s es e core u.inside) b a
      (static s es core.0 e.caller).object ((basic s es core.0).res e.caller) u.resolution) u.resolution);
  numbers = rw now (numbers_after e e.kind core.1.allowed core.1.linked u.inside
      (λ z. i (ap (λ (m : LocalState). m.phase) now ∙ z)) (numbers_stay s es e core) u.numbers);
}
  where
    now : local s (e ∷ es) e.caller ≡ after e.kind s (local s es e.caller) e
    now = local_own s es e

    status : (word s (e ∷ es) (StatusWord (own_attempt s (local s (e ∷ es) e.caller))) ≡ given (local s
        (e ∷ es) e.caller).phase)
        ⊎ (Kills s (local s es e.caller) e (own_attempt s (local s es e.caller))
        × (word s es (StatusWord (own_attempt s (local s es e.caller))) ≡ e.found)) →
        word s (e ∷ es) (StatusWord (own_attempt s (local s (e ∷ es) e.caller))) ≡ given (local s
        (e ∷ es) e.caller).phase
    status (inl x) = x
    status (inr x) = absurd (no_own_kill core u x.0)

-- nor does it wait, where it makes no Pause
pub awake_step : (s : Shape) (es : List Event) (e : Event) → Core s (e ∷ es) → e.kind ≢ Pause →
    (local s es e.caller).phase ≢ Paused → (local s (e ∷ es) e.caller).phase ≢ Paused
awake_step s es e core np h q = go (paused_how s (local s es e.caller) e e.kind core.1.allowed
    (ap (λ (m : LocalState). m.phase) (sym (local_own s es e)) ∙ q))
  where
    go : (e.kind ≡ Pause) ⊎ ((local s es e.caller).phase ≡ Paused) → ⊥
    go (inl k) = np k
    go (inr p) = h p
