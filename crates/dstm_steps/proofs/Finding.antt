-- How what is found of an object grows.
use Rattle.std.proofs.Common.{◌≡◌, ℕ, ◌==◌, ◌∙◌, true, Some, refl, ap, sym, is_some, arith}
use Rattle.std.proofs.lemmas.Bool.{cond_both}
use Rattle.dstm_core.specs.declared.state.Resolution.{Resolution}
use Rattle.dstm_core.specs.Rules.{resolving}
use Rattle.dstm_core.specs.State.{LocalState, or_zero, res, version, is_resolved}
use Rattle.dstm_steps.specs.Finding.{StaysAt, IsFound}

pub stays_self : {l : LocalState} → StaysAt l l
stays_self = record { attempt = refl; object = refl; word = refl }

pub stays_then : {a b c : LocalState} → StaysAt a b → StaysAt b c → StaysAt a c
stays_then {c = c} p q = record {
  attempt = q.attempt
      ∙ ap (λ (l : LocalState). record l { resolution = c.resolution; pass = c.pass; checked = c.checked }) p.attempt;
  object = q.object ∙ p.object;
  word = q.word ∙ p.word;
}

-- something more was found out of the object
pub stays_resolving : {old new : LocalState} (r : Resolution) → new ≡ resolving old r → r.object ≡ (res old).object →
    r.word ≡ (res old).word → StaysAt old new
stays_resolving {old = old} r q object word = record {
  attempt = q ∙ ap (λ (l : LocalState). record old { resolution = l.resolution; pass = l.pass; checked = l.checked })
      (sym q);
  object = ap (λ l. (res l).object) q ∙ object;
  word = ap (λ l. (res l).word) q ∙ word;
}

-- the first value: nothing is looked at
pub found_first : {l : LocalState} {word : ℕ} → is_some l.resolution ≡ true → (res l).word ≡ word →
    version (res l) ≡ Some 0 → IsFound l (record { word = word; version = 0; low = 0; high = 0 })
found_first there same v = record {
  there = there;
  word = same;
  version_is = v;
  resolved = rw v refl;
  high_is = λ h. absurd (omega arith);
  low_is = λ h. absurd (omega arith);
}

-- the value of a version, as its parts are looked at
module _ (old : LocalState) {mid new : LocalState} {high low : ℕ} (p : mid ≡ resolving old (record (res old) { high = Some high }))
    (q : new ≡ resolving mid (record (res mid) { value = Some low })) where
  pub found_value : {word named : ℕ} → (res old).word ≡ word → version (res old) ≡ Some named →
      IsFound new (record { word = word; version = named; low = low; high = high })
  found_value same v = record {
    there = ap (λ (l : LocalState). is_some l.resolution) q;
    word = ap (λ l. (res l).word) q ∙ ap (λ l. (res l).word) p ∙ same;
    version_is = ap (λ l. version (res l)) q ∙ ap (λ l. version (res l)) p ∙ v;
    resolved = ap (λ l. is_resolved (res l)) q
        ∙ cond_both (or_zero (version (res mid)) == 0) (is_some (version (res mid))) true (λ x. x ≡ true)
        (λ _. rw (ap (λ l. version (res l)) p ∙ v) refl) (λ _. refl);
    high_is = λ _. ap (λ l. (res l).high) q ∙ ap (λ l. (res l).high) p;
    low_is = λ _. ap (λ l. (res l).value) q;
  }

  -- it keeps the attempt
  pub stays_value : StaysAt old new
  stays_value =
      stays_then (stays_resolving (record (res old) { high = Some high }) p refl refl)
      (stays_resolving (record (res mid) { value = Some low }) q refl refl)
