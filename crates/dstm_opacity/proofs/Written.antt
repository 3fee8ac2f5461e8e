-- What a caller that is in an attempt has installed.
use Rattle.std.proofs.Common.{◌*◌, ◌++◌, ◌+◌, ◌-◌, ◌<◌, ◌==◌, ◌∙◌, ◌∷◌, ◌≡◌, ◌≢◌, ◌⊎◌, List, [], ap, arith, inl, inr, refl, subst, sym, ℕ}
use Rattle.dstm_core.proofs.Base.{Core, Event, LocalState, OldWord, OwnerWord, StatusWord, after, at, cases_Bool, eqb-false, eqb-true, local, nat_tests, next_locator, or_zero, own_attempt, place, res, target, version, word}
use Rattle.dstm_opacity.proofs.Base.{Begin, Install, Kind, Outside, Shape, Write}
use Rattle.dstm_core.proofs.Basic.{install_may, install_put, old_stays, own_number, owner_stays}
use Rattle.dstm_core.proofs.Columns.{Installed, Used, objects, own_in, stays, step, used_more}
use Rattle.dstm_core.proofs.Locators.{install_fresh}
use Rattle.dstm_core.proofs.Places.{put_at}
use Rattle.dstm_core.proofs.Static.{callers, res-in_shape, static}
use Rattle.dstm_core.proofs.Statuses.{OwnStatus, PhaseHow, finished_step, given_live, own_status, phase_how}
use Rattle.dstm_core.proofs.Underway.{goes_on}
use Rattle.dstm_opacity.proofs.Recorded.{replaces}
use Rattle.dstm_opacity.proofs.Versions.{Named, by_abort, by_commit, by_zero, status_of}

-- a write: its locator is the attempt's, has the old version, and stands in the object or the attempt is aborted
pub record WriteOk (s : Shape) (es : List Event) (own : ℕ) (w : Write) : Type 0 where
  pub object : w.object < s.objects
  pub used : Used s es w.locator
  pub owner : word s es (OwnerWord w.locator) ≡ own
  pub old : word s es (OldWord w.locator) ≡ w.old
  pub here : (word s es (StatusWord own) ≡ 5) ⊎ (at es w.object ≡ w.locator + 1)

-- each of some writes
abbrev pub WritesOk : Shape → List Event → ℕ → List Write → Type 0
WritesOk s es own [] = Unit {0}
WritesOk s es own (w ∷ ws) = WriteOk s es own w × WritesOk s es own ws

-- a word whose owner is under way is replaced only once that is aborted
here_more : (s : Shape) (es : List Event) (e : Event) (own m o : ℕ) → Core s (e ∷ es) →
    own < s.callers * s.attempts → o < s.objects → word s es (OwnerWord m) ≡ own →
    ((word s es (StatusWord own) < 4) ⊎ (word s es (StatusWord own) ≡ 5)) →
    (word s es (StatusWord own) ≡ 5) ⊎ (at es o ≡ m + 1) →
    (word s (e ∷ es) (StatusWord own) ≡ 5) ⊎ (at (e ∷ es) o ≡ m + 1)
here_more s es e own m o core a h q st (inl x) = inl (finished_step s es e own core a (omega arith) ∙ x)
here_more s es e own m o core a h q st (inr x) = elim (objects o (step s es e core) h) [
  | inl y ↦ inr (y ∙ x)
  | inr i ↦
      let r = replaces s es e core i.how.kind (i.how.found ∙ sym i.how.expected) in
      let d = dead (subst (λ n. Named s es n (word s es (OldWord (e.put - 1)))) (word_is i) r.named) st in
      inl (finished_step s es e own core a (omega arith) ∙ d)
]
  where
    less : m + 1 - 1 ≡ m
    less = omega arith

    word_is : Installed s es e o → (res (local s es e.caller)).word ≡ m + 1
    word_is i = sym i.was ∙ x

    status_is : status_of s es (m + 1) ≡ word s es (StatusWord own)
    status_is = ap (λ n. word s es (StatusWord (word s es (OwnerWord n)))) less ∙ ap (λ n. word s es (StatusWord n)) q

    dead : Named s es (m + 1) (word s es (OldWord (e.put - 1))) →
        (word s es (StatusWord own) < 4) ⊎ (word s es (StatusWord own) ≡ 5) → word s es (StatusWord own) ≡ 5
    dead n (inr z) = z
    dead (by_zero z y) (inl lt) = absurd (omega arith)
    dead (by_commit z u y w) (inl lt) = absurd (omega (arith, status_is))
    dead (by_abort z u y w) (inl lt) = absurd (omega (arith, status_is))

write_more : {s : Shape} {es : List Event} (e : Event) {own : ℕ} {w : Write} → Core s (e ∷ es) →
    own < s.callers * s.attempts → ((word s es (StatusWord own) < 4) ⊎ (word s es (StatusWord own) ≡ 5)) →
    WriteOk s es own w → WriteOk s (e ∷ es) own w
write_more {s = s} {es = es} e {own = own} {w = w} core a st k = record {
  object = k.object;
  used = used_more e k.used;
  owner = owner_stays s es e w.locator (step s es e core) k.used ∙ k.owner;
  old = old_stays s es e w.locator (step s es e core) k.used ∙ k.old;
  here = here_more s es e own w.locator w.object core a k.object k.owner st k.here;
}

writes_more : (s : Shape) (es : List Event) (e : Event) (own : ℕ) (ws : List Write) → Core s (e ∷ es) →
    own < s.callers * s.attempts → ((word s es (StatusWord own) < 4) ⊎ (word s es (StatusWord own) ≡ 5)) →
    WritesOk s es own ws → WritesOk s (e ∷ es) own ws
writes_more s es e own [] core a st k = tt
writes_more s es e own (w ∷ ws) core a st k = (write_more e core a st k.0, writes_more s es e own ws core a st k.1)

writes_snoc : {s : Shape} {es : List Event} {own : ℕ} (ws : List Write) {w : Write} → WritesOk s es own ws →
    WriteOk s es own w → WritesOk s es own (ws ++ w ∷ [])
writes_snoc [] h k = (k, tt)
writes_snoc (v ∷ ws) h k = (h.0, writes_snoc ws h.1 k)

-- an attempt under way is live or aborted
pub own_live : (s : Shape) (es : List Event) → Core s es → (c : ℕ) → c < s.callers →
    (local s es c).phase ≢ Outside → (word s es (StatusWord (own_attempt s (local s es c))) < 4)
    ⊎ (word s es (StatusWord (own_attempt s (local s es c))) ≡ 5)
own_live s es core c lt out = go (own_status s es core c lt out)
  where
    go : OwnStatus s es (local s es c) →
        (word s es (StatusWord (own_attempt s (local s es c))) < 4)
        ⊎ (word s es (StatusWord (own_attempt s (local s es c))) ≡ 5)
    go (inl x) = let g = given_live (local s es c).phase out in inl (omega arith)
    go (inr x) = inr x

-- how the writes grow
pub data WritesHow (s : Shape) (l : LocalState) (e : Event) (k : Kind) : Type 0 where
  cleared : k ≡ Begin → (after k s l e).writes ≡ [] → WritesHow s l e k
  unchanged : k ≢ Begin → (after k s l e).writes ≡ l.writes → (k ≡ Install → e.found ≢ e.expected) → WritesHow s l e k
  added : k ≡ Install → e.found ≡ e.expected →
      (after k s l e).writes ≡ l.writes ++ record {
        object = (res l).object;
        locator = next_locator s l;
        old = or_zero (version (res l));
      } ∷ [] → WritesHow s l e k

-- writes grow at a successful Install alone
pub writes_how : (s : Shape) (l : LocalState) (e : Event) (k : Kind) → WritesHow s l e k
writes_how s l e Begin = cleared refl refl
writes_how s l e Install = elim (cases_Bool (e.found == e.expected)) [
  | inl q ↦ added refl (eqb-true e.found e.expected q) (rw q refl)
  | inr q ↦ unchanged (λ z. cc) (rw q refl) (λ _. eqb-false e.found e.expected q)
]
writes_how s l e k = unchanged (λ z. cc) (grind (arith, nat_tests)) (λ z. cc)

-- the write of a successful Install
pub write_new : (s : Shape) (es : List Event) (e : Event) → Core s (e ∷ es) → e.kind ≡ Install →
    e.found ≡ e.expected → WriteOk s (e ∷ es) (own_attempt s (local s es e.caller)) (record {
      object = (res (local s es e.caller)).object;
      locator = next_locator s
          (local s es e.caller);
      old = or_zero (version (res (local s es e.caller)));
    })
write_new s es e core k h = let l = local s es e.caller in
    let p = step s es e core in
    let r = replaces s es e core k h in
    let f = install_fresh s es e core k h in
    let may = install_may s l e k p.fits.allowed in
    let num = own_number p (λ q. let i = may.0 in cc) in
    let loc : e.put - 1 ≡ next_locator s l = r.locator ∙ sym num in
    let one : e.put ≡ next_locator s l + 1 = install_put s l e k h p.fits.allowed in
    record {
      object = res-in_shape s l p.own.object may.3;
      used = subst (Used s (e ∷ es)) loc f.1;
      owner = ap (λ m. word s (e ∷ es) (OwnerWord m)) (sym loc)
          ∙ stays (OwnerWord (e.put - 1)) p f.1.below (λ x. let i = x.kind in cc) ∙ r.owner;
      old = ap (λ m. word s (e ∷ es) (OldWord m)) (sym loc)
          ∙ stays (OldWord (e.put - 1)) p f.1.below (λ x. let i = x.kind in cc) ∙ r.old;
      here = inr (put_at es e _ (p.fits.allowed.0 ∙ ap (λ k. place s (target k s l e)) k) ∙ one);
    }

written_own : {s : Shape} (es : List Event) {e : Event} → Core s (e ∷ es) →
    WritesHow s (local s es e.caller) e e.kind → PhaseHow s (local s es e.caller) e e.kind →
    ((local s es e.caller).phase ≢ Outside →
    WritesOk s es (own_attempt s (local s es e.caller)) (local s es e.caller).writes) →
    WritesOk s (e ∷ es) (own_attempt s (after e.kind s (local s es e.caller) e))
    (after e.kind s (local s es e.caller) e).writes
written_own es core (cleared k w) ph ih = rw w tt
written_own {s = s} es {e = e} core (unchanged n w i) ph ih = let l = local s es e.caller in
    let on = goes_on core.1.allowed n ph in
    rw (on.1, w) (writes_more s es e (own_attempt s l) l.writes core
    (own_in s e.caller l (static s es core.0 e.caller) core.1.caller on.0)
    (own_live s es core.0 e.caller core.1.caller on.0) (ih on.0))
written_own {s = s} es {e = e} core (added k f w) ph ih = let l = local s es e.caller in
    let on = goes_on core.1.allowed (λ q. cc) ph in
    rw (on.1, w) (writes_snoc l.writes (writes_more s es e (own_attempt s l) l.writes core
    (own_in s e.caller l (static s es core.0 e.caller) core.1.caller on.0)
    (own_live s es core.0 e.caller core.1.caller on.0) (ih on.0)) (write_new s es e core k f))

-- this holds of every attempt under way
pub written : (s : Shape) (es : List Event) → Core s es → (c : ℕ) → c < s.callers →
    (local s es c).phase ≢ Outside → WritesOk s es (own_attempt s (local s es c)) (local s es c).writes
written s [] core c lt out = tt
written s (e ∷ es) core c lt out =
    callers s es e (λ c l. c < s.callers → l.phase ≢ Outside → WritesOk s (e ∷ es) (own_attempt s l) l.writes)
    (λ lt out. written_own es core (writes_how s (local s es e.caller) e e.kind)
    (phase_how s e.caller (local s es e.caller) e e.kind (static s es core.0 e.caller) core.1.allowed out)
    (written s es core.0 e.caller lt))
    (λ c d lt out. writes_more s es e (own_attempt s (local s es c)) (local s es c).writes core
    (own_in s c (local s es c) (static s es core.0 c) lt out) (own_live s es core.0 c lt out)
    (written s es core.0 c lt out)) c lt out
