-- Both parts found of a resolution's version are its value in every later run.
use Rattle.std.proofs.Common.{◌++◌, ◌<◌, ◌∙◌, ◌∷◌, ◌≡◌, List, Some, [], ap, arith, is_some, refl, sym, ℕ}
use Rattle.dstm_core.proofs.Base.{AllowedAs, Core, Event, Val, after, at, local, ne_eqb, or_unresolved, or_zero, res, unresolved, version, version_by, version_value}
use Rattle.dstm_opacity.proofs.Base.{Begin, Kill, Kind, LookHigh, LookNew, LookObj, LookOld, LookOwner, LookRank, LookStatus, Resolution, Shape}
use Rattle.dstm_core.proofs.Pasts.{core_past}
use Rattle.dstm_core.proofs.Places.{put_at}
use Rattle.dstm_core.proofs.Static.{callers}
use Rattle.dstm_opacity.proofs.Found.{high_fits, high_of, live_below, look_settled, some_of, value_later, version_aborted, version_old, version_unknown}
use Rattle.dstm_opacity.proofs.Values.{value_stays}
use Rattle.dstm_opacity.proofs.Versions.{res_seen, seen_res}
use Rattle.dstm_core.proofs.Untouched.{unlooked}

-- each part that was found is that of the version's value
pub record FoundParts (s : Shape) (start : List Val) (es : List Event) (r : Resolution) : Type 0 where
  pub high : (n : ℕ) → r.high ≡ Some n → (version_value s start es r.object (or_zero (version r))).high ≡ n
  pub low : (n : ℕ) → r.value ≡ Some n →
      (0 < or_zero (version r)) × ((version_value s start es r.object (or_zero (version r))).low ≡ n)

nothing : (s : Shape) (start : List Val) (es : List Event) → FoundParts s start es unresolved
nothing s start es = record { high = λ n q. absurd (cc); low = λ n q. absurd (cc) }

-- what a caller has found stays so at an event
parts_more : {s : Shape} {start : List Val} {es : List Event} (e : Event) (c : ℕ) → Core s (e ∷ es) →
    FoundParts s start es (res (local s es c)) → FoundParts s start (e ∷ es) (res (local s es c))
parts_more {s = s} {start = start} {es = es} e c core h = record {
  high = λ n q.
      let some = high_of (local s es c).resolution (high_fits s es core.0 c) (ap is_some q) in
      ap (λ (v : Val). v.high) (stays some) ∙ h.high n q;
  low = λ n q. let x = h.low n q in (x.0, ap (λ (v : Val). v.low) (stays x.0) ∙ x.1);
}
  where
    stays : 0 < or_zero (version (res (local s es c))) →
        version_value s start (e ∷ es) (res (local s es c)).object (or_zero (version (res (local s es c))))
        ≡ version_value s start es (res (local s es c)).object (or_zero (version (res (local s es c))))
    stays p =
        value_stays s start es e (res (local s es c)).object (or_zero (version (res (local s es c)))) core
        (look_settled s es c core.0 p)

-- no part was found where no version is known
none_found : {s : Shape} {start : List Val} {es : List Event} (c : ℕ) (r : Resolution) → Core s es →
    or_zero (version (res (local s es c))) ≡ 0 → FoundParts s start es (res (local s es c)) →
    r.high ≡ (res (local s es c)).high → r.value ≡ (res (local s es c)).value →
    (new : List Event) → FoundParts s start new r
none_found {s = s} {es = es} c r core none h high low new = record {
  high = λ n q.
      let known = high_of (local s es c).resolution (high_fits s es core c) (ap is_some (sym high ∙ q)) in
      absurd (omega arith);
  low = λ n q. let known = (h.low n (sym low ∙ q)).0 in absurd (omega arith);
}

parts_own : {s : Shape} {start : List Val} {es : List Event} (e : Event) → Core s (e ∷ es) → (k : Kind) →
    AllowedAs k s (local s es e.caller) e → FoundParts s start es (res (local s es e.caller)) →
    FoundParts s start (e ∷ es) (res (local s es e.caller)) →
    FoundParts s start (e ∷ es) (or_unresolved (after k s (local s es e.caller) e).resolution)
parts_own {s = s} {start = start} {es = es} e core Begin a b h = nothing s start (e ∷ es)
parts_own e core LookObj a b h = record { high = λ n q. absurd (cc); low = λ n q. absurd (cc) }
parts_own e core LookOwner a b h = record { high = h.high; low = h.low }
parts_own {s = s} {es = es} e core LookStatus a b h =
    let r = res (local s es e.caller) in
    none_found e.caller _ core.0 (version_unknown r.word r.status r.old a.2.3) b refl refl (e ∷ es)
parts_own e core LookRank a b h = record { high = h.high; low = h.low }
parts_own {s = s} {start = start} {es = es} e core LookOld a b h = record {
  high = λ n q.
      let known = high_of (local s es e.caller).resolution (high_fits s es core.0 e.caller) (ap is_some q) in
      ap (λ v. (version_value s start (e ∷ es) (res (local s es e.caller)).object (or_zero v)).high) (same known)
      ∙ h.high n q;
  low = λ n q.
      let x = h.low n q in (
        let y = ap or_zero (same x.0) in let z = x.0 in omega arith,
        ap (λ v. (version_value s start (e ∷ es) (res (local s es e.caller)).object (or_zero v)).low) (same x.0)
            ∙ x.1,
      );
}
  where
    same : 0 < or_zero (version (res (local s es e.caller))) →
        version_by (res (local s es e.caller)).word (res (local s es e.caller)).status (Some e.found)
        ≡ version (res (local s es e.caller))
    same p =
        let l = local s es e.caller in
        let x = version_aborted (res l).word (res l).status (res l).old a.2.2 p in
        let was = some_of (res l).old x.1 in
        let old = (seen_res s es l.resolution (res_seen s es core.0 e.caller)).old (or_zero (res l).old) was in
        let found : e.found ≡ or_zero (res l).old = core.1.linked ∙ ap (at es) a.0 ∙ sym old.1 in
        version_old (res l).word (res l).status (Some e.found) a.2.2 x.0 ∙ ap Some found ∙ sym was
        ∙ sym (version_old (res l).word (res l).status (res l).old a.2.2 x.0)
parts_own {s = s} {es = es} e core LookHigh a b h = record {
  high = λ n q.
      rw (ne_eqb (or_zero (version (res (local s es e.caller)))) 0 (λ z. let p = a.2.2 in omega arith))
      (put_at es e _ a.0 ∙ a.1.1 ∙ cc);
  low = h.low;
}
parts_own {s = s} {es = es} e core LookNew a b h = record {
  high = h.high;
  low = λ n q.
      let known = high_of (local s es e.caller).resolution (high_fits s es core.0 e.caller) a.2.2 in (
        known,
        rw (ne_eqb (or_zero (version (res (local s es e.caller)))) 0 (λ z. omega arith))
            (put_at es e _ a.0 ∙ a.1.1 ∙ cc),
      );
}
parts_own {s = s} {es = es} e core Kill a b h =
    let r = res (local s es e.caller) in
    none_found e.caller _ core.0
    (version_unknown r.word r.status r.old (live_below (or_zero r.status) a.2.3)) b refl refl (e ∷ es)
parts_own {s = s} {start = start} {es = es} e core k a b h =
    unlooked (λ o. FoundParts s start (e ∷ es) (or_unresolved o)) s (local s es e.caller) e k refl
    (nothing s start (e ∷ es)) h

-- so in every core run
pub found_parts : (s : Shape) (start : List Val) (es : List Event) → Core s es → (c : ℕ) →
    FoundParts s start es (res (local s es c))
found_parts s start [] core c = nothing s start []
found_parts s start (e ∷ es) core c =
    callers s es e (λ c l. FoundParts s start (e ∷ es) (or_unresolved l.resolution))
    (let b = found_parts s start es core.0 e.caller in
    parts_own e core e.kind core.1.allowed b (parts_more e e.caller core b))
    (λ c _. parts_more e c core (found_parts s start es core.0 c)) c

by_parts : (v : Val) (low high : ℕ) → v.low ≡ low → v.high ≡ high → v ≡ record { low = low; high = high }
by_parts v low high p q =
    let P : ℕ → Val = λ n. record { low = n; high = v.high } in
    let Q : ℕ → Val = λ n. record { low = low; high = n } in ap P p ∙ ap Q q

-- where both parts of a version's value were found, they are its value in every later run
pub resolved_stays : (s : Shape) (start : List Val) (more es : List Event) (c low high : ℕ) →
    Core s (more ++ es) → (res (local s es c)).high ≡ Some high → (res (local s es c)).value ≡ Some low →
    version_value s start (more ++ es) (res (local s es c)).object (or_zero (version (res (local s es c))))
    ≡ record { low = low; high = high }
resolved_stays s start more es c low high core h l =
    let core_es = core_past s more es core in
    let parts = found_parts s start es core_es c in
    let r = res (local s es c) in
    (value_later s start more es r.object (or_zero (version r)) core
    (look_settled s es c core_es (parts.low low l).0)).0
    ∙ by_parts (version_value s start es r.object (or_zero (version r))) low high (parts.low low l).1
    (parts.high high h)
