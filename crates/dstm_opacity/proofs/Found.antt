-- The values that are found of versions, and those that are put, stay.
use Rattle.std.proofs.Common.{◌++◌, ◌-◌, ◌<◌, ◌==◌, ◌∙◌, ◌∷◌, ◌≡◌, List, None, Option, Some, [], ap, arith, false, inl, inr, is_some, refl, sym, true, ℕ}
use Rattle.dstm_core.proofs.Base.{AllowedAs, Core, Event, HighWord, LocalState, LowWord, Val, after, at, cases_Bool, eq-eqb, is_live, local, nat_tests, ne_eqb, new_value, or_unresolved, or_zero, place, res, version, version_by, version_value, word}
use Rattle.dstm_opacity.proofs.Base.{Kill, Kind, LookHigh, LookNew, LookObj, LookOld, LookOwner, LookRank, LookStatus, Resolution, Shape}
use Rattle.dstm_core.proofs.Basic.{basic}
use Rattle.dstm_core.proofs.Places.{put_at}
use Rattle.dstm_core.proofs.Static.{callers}
use Rattle.dstm_core.proofs.Pasts.{core_past}
use Rattle.dstm_opacity.proofs.Recorded.{named_settled, old_settled, settled_more}
use Rattle.dstm_opacity.proofs.Values.{value_stays}
use Rattle.dstm_opacity.proofs.Versions.{Settled, res_named, res_seen, seen_res}
use Rattle.dstm_opacity.specs.Laws.{IsFound, looked_at}
use Rattle.dstm_core.proofs.Untouched.{unlooked}

-- a high part was found of a version that a locator has
abbrev pub HighFits : Option Resolution → Type 0
HighFits None = Unit {0}
HighFits (Some r) = is_some r.high ≡ true → 0 < or_zero (version r)

pub high_of : (o : Option Resolution) → HighFits o → is_some (or_unresolved o).high ≡ true →
    0 < or_zero (version (or_unresolved o))
high_of None h i = absurd (cc)
high_of (Some r) h i = h i

-- while the owner is not found finished no version is known but the first value
pub version_unknown : (word : ℕ) (st old : Option ℕ) → or_zero st < 4 → or_zero (version_by word st old) ≡ 0
version_unknown word st old h = elim (cases_Bool (word == 0)) [
  | inl q ↦ rw q refl
  | inr q ↦ rw (q, ne_eqb (or_zero st) 4 (λ z. omega arith), ne_eqb (or_zero st) 5 (λ z. omega arith)) refl
]

-- the version of an aborted owner's locator is the old one
pub version_aborted : (word : ℕ) (st old : Option ℕ) → or_zero st ≡ 5 → 0 < or_zero (version_by word st old) →
    (word == 0 ≡ false) × (0 < or_zero old)
version_aborted word st old h p = elim (cases_Bool (word == 0)) [
  | inl q ↦ let z : 0 < 0 = rw q at p in absurd (omega arith)
  | inr q ↦ (q, rw (q, ne_eqb (or_zero st) 4 (λ z. omega arith), eq-eqb (or_zero st) 5 h) at p)
]

pub version_old : (word : ℕ) (st old : Option ℕ) → or_zero st ≡ 5 → word == 0 ≡ false → version_by word st old ≡ old
version_old word st old h q = rw (q, ne_eqb (or_zero st) 4 (λ z. omega arith), eq-eqb (or_zero st) 5 h) refl

pub some_of : (o : Option ℕ) → 0 < or_zero o → o ≡ Some (or_zero o)
some_of None h = absurd (omega arith)
some_of (Some n) h = refl

-- a status that is live is below that of a commit
pub live_below : (n : ℕ) → is_live n ≡ true → n < 4
live_below n q = grind (arith, nat_tests)

high_own : (s : Shape) (es : List Event) (e : Event) → Core s (e ∷ es) → (k : Kind) →
    AllowedAs k s (local s es e.caller) e → HighFits (local s es e.caller).resolution →
    HighFits (after k s (local s es e.caller) e).resolution
high_own s es e core LookObj a h = λ i. absurd (cc)
high_own s es e core LookOwner a h = λ i. high_of (local s es e.caller).resolution h i
high_own s es e core LookStatus a h = λ i.
    let known = high_of (local s es e.caller).resolution h i in
    let r = res (local s es e.caller) in
    let none = version_unknown r.word r.status r.old a.2.3 in absurd (omega arith)
high_own s es e core LookRank a h = λ i. high_of (local s es e.caller).resolution h i
high_own s es e core LookOld a h = λ i. again (high_of (local s es e.caller).resolution h i)
  where
    again : 0 < or_zero (version (res (local s es e.caller))) →
        0 < or_zero (version_by (res (local s es e.caller)).word (res (local s es e.caller)).status (Some e.found))
    again p =
        let l = local s es e.caller in
        let x = version_aborted (res l).word (res l).status (res l).old a.2.2 p in
        let old = (seen_res s es l.resolution (res_seen s es core.0 e.caller)).old (or_zero (res l).old)
        (some_of (res l).old x.1) in
        let found : e.found ≡ or_zero (res l).old = core.1.linked ∙ ap (at es) a.0 ∙ sym old.1 in
        rw (version_old (res l).word (res l).status (Some e.found) a.2.2 x.0) (omega arith)
high_own s es e core LookHigh a h = λ i. a.2.2
high_own s es e core LookNew a h = λ i. high_of (local s es e.caller).resolution h i
high_own s es e core Kill a h = λ i.
    let known = high_of (local s es e.caller).resolution h i in
    let r = res (local s es e.caller) in
    let live = live_below (or_zero r.status) a.2.3 in
    let none = version_unknown r.word r.status r.old live in absurd (omega arith)
high_own s es e core k a h = unlooked HighFits s (local s es e.caller) e k refl tt h

-- so in every core run
pub high_fits : (s : Shape) (es : List Event) → Core s es → (c : ℕ) → HighFits (local s es c).resolution
high_fits s [] core c = tt
high_fits s (e ∷ es) core c =
    callers s es e (λ c l. HighFits l.resolution)
    (high_own s es e core e.kind core.1.allowed (high_fits s es core.0 e.caller)) (λ c d. high_fits s es core.0 c) c

-- the value of a settled version is the same in every later run
pub value_later : (s : Shape) (start : List Val) (more q : List Event) (o v : ℕ) → Core s (more ++ q) →
    Settled s q v → (version_value s start (more ++ q) o v ≡ version_value s start q o v) × Settled s (more ++ q) v
value_later s start [] q o v core h = (refl, h)
value_later s start (e ∷ more) q o v core h =
    let ih = value_later s start more q o v core.0 h in
    (value_stays s start (more ++ q) e o v core ih.1 ∙ ih.0, settled_more s (more ++ q) e v core ih.1)

-- what a look at a part of a new value aims at and finds
look_high_may : (s : Shape) (l : LocalState) (e : Event) {k : Kind} → k ≡ LookHigh → AllowedAs k s l e →
    (e.place ≡ place s (HighWord (or_zero (version (res l)) - 1))) × (e.put ≡ e.found) × (0 < or_zero (version (res l)))
look_high_may s l e {k = LookHigh} q a = (a.0, a.1.1, a.2.2)
look_high_may s l e q a = absurd (cc)

look_new_may : (s : Shape) (l : LocalState) (e : Event) {k : Kind} → k ≡ LookNew → AllowedAs k s l e →
    (e.place ≡ place s (LowWord (or_zero (version (res l)) - 1))) × (e.put ≡ e.found) × (is_some (res l).high ≡ true)
look_new_may s l e {k = LookNew} q a = (a.0, a.1.1, a.2.2)
look_new_may s l e q a = absurd (cc)

-- the version that a caller looks at, where a locator has it, is settled
pub look_settled : (s : Shape) (es : List Event) (c : ℕ) → Core s es → 0 < or_zero (version (res (local s es c))) →
    Settled s es (or_zero (version (res (local s es c))))
look_settled s es c core p =
    named_settled (old_settled s es core)
    (res_named s es (local s es c).resolution (or_zero (version (res (local s es c)))) ((basic s es core).res c)
    (res_seen s es core c) (some_of (version (res (local s es c))) p))

-- what is found of a version is its value in every later run
pub found_stays : (s : Shape) (start : List Val) (more es : List Event) (e : Event) → Core s (more ++ e ∷ es) →
    IsFound (looked_at s start (more ++ e ∷ es) es e) e
found_stays s start more es e core = record {
  high = λ k.
      let x = look_high_may s (local s es e.caller) e k core_e.1.allowed in
      ap (λ (v : Val). v.high) (later x.2) ∙ put_at es e _ x.0 ∙ x.1;
  low = λ k.
      let x = look_new_may s (local s es e.caller) e k core_e.1.allowed in
      let known = high_of (local s es e.caller).resolution (high_fits s es core_e.0 e.caller) x.2 in
      ap (λ (v : Val). v.low) (later known) ∙ put_at es e _ x.0 ∙ x.1;
}
  where
    core_e : Core s (e ∷ es)
    core_e = core_past s more (e ∷ es) core

    later : 0 < or_zero (version (res (local s es e.caller))) →
        looked_at s start (more ++ e ∷ es) es e
        ≡ new_value s (e ∷ es) (or_zero (version (res (local s es e.caller))) - 1)
    later p =
        (value_later s start more (e ∷ es) (res (local s es e.caller)).object
        (or_zero (version (res (local s es e.caller)))) core
        (settled_more s es e (or_zero (version (res (local s es e.caller)))) core_e
        (look_settled s es e.caller core_e.0 p))).0
        ∙ rw (ne_eqb (or_zero (version (res (local s es e.caller)))) 0 (λ z. omega arith)) refl
