-- An object that is read and then opened for writing keeps its version.
use Rattle.std.proofs.Common.{◌&&◌, ◌++◌, ◌==◌, ◌∙◌, ◌∷◌, ◌≡◌, Bool, List, Option, None, Some, [], ap, arith, false, inl, inr, is_some, refl, subst, sym, true, ℕ, is_none}
use Rattle.dstm_core.proofs.Base.{AllowedAs, Core, Event, Installs, LocalState, after, and_parts, cases_Bool, cond_both, eq-eqb, eqb-true, given, is_other, is_resolved, keep_resolved, local, or_unresolved, or_zero, read_of, record_resolved, res, version}
use Rattle.dstm_opacity.proofs.Base.{Begin, Check, Install, Kill, Kind, LookHigh, LookNew, LookNumber, LookObj, LookOld, LookOwner, LookRank, LookSelf, LookStatus, Pause, Read, Release, Resolution, Resume, Shape, ToValidating}
use Rattle.dstm_core.proofs.Basic.{basic, install_may}
use Rattle.dstm_core.proofs.Static.{callers, has_high, has_owner, has_status, has_version, has_word}
use Rattle.dstm_opacity.proofs.LastPass.{none_from}
use Rattle.dstm_opacity.proofs.Recorded.{ReadsNamed, reads, resolved_version}
use Rattle.dstm_opacity.proofs.Versions.{Named, by_abort, by_commit, by_zero, res_named, res_seen}

-- of an object that is read the word found last is the one recorded
abbrev WordsAgreeBy : Bool → List Read → Option Resolution → Type 0
WordsAgreeBy stale reads o =
    (r : Read) → stale ≡ false → is_some o ≡ true → read_of (or_unresolved o).object reads ≡ Some r →
    r.word ≡ (or_unresolved o).word

abbrev pub WordsAgree : LocalState → Type 0
WordsAgree l = WordsAgreeBy l.stale l.reads l.resolution

same_word : (found : ℕ) {o : Option Read} (r : Read) → is_other found o ≡ false → o ≡ Some r → r.word ≡ found
same_word found {o = None} r s q = absurd (cc)
same_word found {o = (Some x)} r s q = elim (cases_Bool (x.word == found)) [
  | inl y ↦ let z : x ≡ r = cc in ap (λ (y : Read). y.word) (sym z) ∙ eqb-true x.word found y
  | inr y ↦ absurd (let z : true ≡ false = rw y at s in cc)
]

read_of-new : (o : ℕ) (rs : List Read) (x r : Read) → x.object ≡ o → read_of o rs ≡ None →
    read_of o (rs ++ x ∷ []) ≡ Some r → r ≡ x
read_of-new o [] x r e n q = let z : Some x ≡ Some r = rw (eq-eqb x.object o e) at q in cc
read_of-new o (y ∷ rs) x r e n q = elim (cases_Bool (y.object == o)) [
  | inl z ↦ absurd (let w : Some y ≡ None = rw z at n in cc)
  | inr z ↦ read_of-new o rs x r e (rw z at n) (rw z at q)
]

recorded : (o : Option Resolution) (rs : List Read) → WordsAgreeBy false rs o →
    WordsAgreeBy false (record_resolved o rs) o
recorded None rs h r s i q = absurd (cc)
recorded (Some x) rs h r s i q = elim (cases_Bool (is_resolved x && is_none (read_of x.object rs))) [
  | inl z ↦
      let two = and_parts (is_resolved x) (is_none (read_of x.object rs)) z in
      ap (λ (y : Read). y.word) (read_of-new x.object rs _ r refl (none_from (read_of x.object rs) two.1) (rw z at q))
  | inr z ↦ h r refl refl (rw z at q)
]

kept : (o : Option Resolution) (rs : List Read) → WordsAgreeBy false rs o → WordsAgreeBy false rs (keep_resolved o)
kept None rs h = h
kept (Some x) rs h = cond_both (is_resolved x) (Some x) None (WordsAgreeBy false rs) (λ _. h) (λ _ r s i q. absurd (cc))

words_step : (s : Shape) (l : LocalState) (e : Event) (k : Kind) → AllowedAs k s l e → WordsAgree l →
    WordsAgree (after k s l e)
words_step s l e Begin a h = λ r st i q. absurd (cc)
words_step s l e LookObj a h = λ r st i q. same_word e.found r st q
words_step s l e LookOwner a h = λ r st i q. h r st (has_word l.resolution a.2.2) q
words_step s l e LookStatus a h = λ r st i q. h r st (has_owner l.resolution a.2.2) q
words_step s l e LookRank a h = λ r st i q. h r st (has_owner l.resolution a.2.2) q
words_step s l e LookOld a h = λ r st i q. h r st (has_status l.resolution 4 a.2.2) q
words_step s l e LookHigh a h = λ r st i q. h r st (has_version l.resolution a.2.2) q
words_step s l e LookNew a h = λ r st i q. h r st (has_high l.resolution a.2.2) q
words_step s l e Kill a h = λ r st i q. h r st (has_owner l.resolution a.2.2) q
words_step s l e Install a h =
    cond_both (e.found == e.expected) _ _ WordsAgree (λ _ r st i q. absurd (cc)) (λ _ r st i q. absurd (cc))
words_step s l e LookNumber a h = recorded_kept
  where
    fresh : WordsAgreeBy false l.reads l.resolution
    fresh r f i q = h r a.2.1 i q

    recorded_kept : WordsAgreeBy l.stale (record_resolved l.resolution l.reads) (keep_resolved l.resolution)
    recorded_kept r st i q =
        kept l.resolution (record_resolved l.resolution l.reads) (recorded l.resolution l.reads fresh) r refl i q
words_step s l e Check a h = λ r st i q. h r a.2.1 i q
words_step s l e LookSelf a h = cond_both (e.found == given l.phase) _ _ WordsAgree (λ _. h) (λ _. h)
words_step s l e Release a h = λ r st i q. absurd (cc)
words_step s l e ToValidating a h = cond_both (e.found == 1) _ _ WordsAgree (λ _. h) (λ _. h)
words_step s l e Pause a h = cond_both (e.found == 1) _ _ WordsAgree (λ _. h) (λ _. h)
words_step s l e Resume a h = cond_both (e.found == 2) _ _ WordsAgree (λ _. h) (λ _. h)
words_step s l e k a h = h

pub words_agree : (s : Shape) (es : List Event) → Core s es → (c : ℕ) → WordsAgree (local s es c)
words_agree s [] core c = λ r st i q. absurd (cc)
words_agree s (e ∷ es) core c =
    callers s es e (λ c l. WordsAgree l)
    (words_step s (local s es e.caller) e e.kind core.1.allowed (words_agree s es core.0 e.caller))
    (λ c _. words_agree s es core.0 c) c

-- a read that is found among named ones is named
pub read_named : (s : Shape) (es : List Event) (o : ℕ) (rs : List Read) (r : Read) → ReadsNamed s es rs →
    read_of o rs ≡ Some r → Named s es r.word r.version
read_named s es o [] r h q = absurd (cc)
read_named s es o (x ∷ rs) r h q = elim (cases_Bool (x.object == o)) [
  | inl z ↦
      let w : Some x ≡ Some r = rw z at q in let same : x ≡ r = cc in
      subst (λ (y : Read). Named s es y.word y.version) same h.1
  | inr z ↦ read_named s es o rs r h.2 (rw z at q)
]

-- a word names one version
pub named_one : {s : Shape} {es : List Event} {x v w : ℕ} → Named s es x v → Named s es x w → v ≡ w
named_one (by_zero p q) (by_zero r t) = q ∙ sym t
named_one (by_zero p q) (by_commit r u st t) = absurd (omega arith)
named_one (by_zero p q) (by_abort r u st t) = absurd (omega arith)
named_one (by_commit p u st q) (by_zero r t) = absurd (omega arith)
named_one (by_commit p u st q) (by_commit r u' st' t) = q ∙ sym t
named_one (by_commit p u st q) (by_abort r u' st' t) = absurd (omega arith)
named_one (by_abort p u st q) (by_zero r t) = absurd (omega arith)
named_one (by_abort p u st q) (by_commit r u' st' t) = absurd (omega arith)
named_one (by_abort p u st q) (by_abort r u' st' t) = q ∙ sym t

install_fits : (s : Shape) (l : LocalState) (e : Event) {k : Kind} → k ≡ Install → AllowedAs k s l e → l.stale ≡ false
install_fits s l e {k = Install} q a = a.2.1
install_fits s l e q a = absurd (cc)

-- the version replaced is the one that was read
pub install_keeps_version : (s : Shape) (es : List Event) (e : Event) (r : Read) → Core s (e ∷ es) → Installs e →
    read_of (res (local s es e.caller)).object (local s es e.caller).reads ≡ Some r →
    r.version ≡ or_zero (version (res (local s es e.caller)))
install_keeps_version s es e r core i q =
    let l = local s es e.caller in
    let may = install_may s l e i.kind core.1.allowed in
    let fresh = install_fits s l e i.kind core.1.allowed in
    let word = words_agree s es core.0 e.caller r fresh may.3 q in
    let named = read_named s es (res l).object l.reads r (reads s es core.0 e.caller) q in
    named_one (subst (λ x. Named s es x r.version) word named)
    (res_named s es l.resolution (or_zero (version (res l))) ((basic s es core.0).res e.caller)
    (res_seen s es core.0 e.caller) (resolved_version (res l) may.4))
