-- What an attempt held before an open it holds after it.
use Rattle.std.proofs.Common.{◌++◌, ◌<◌, ◌∙◌, ◌≡◌, ◌≢◌, List, None, Option, Some, ap, refl, subst, sym, ℕ}
use Rattle.std.specs.Prelude.{option_map, IfSome}
use Rattle.dstm_engine.proofs.Base.{Again, Began, Core, Due, Event, Home, InTask, IsPastOf, LocalState, Outside, Shape, Steps, Task, Val, entry_of, events_of, local, now, value_at, value_in, version_value, view_of}
use Rattle.dstm_machines.proofs.Own.{own_later}
use Rattle.dstm_core.proofs.Pasts.{core_past}
use Rattle.dstm_opacity.proofs.Held.{held_is_seen, version_held}
use Rattle.dstm_opacity.proofs.Kept.{seen_stays}
use Rattle.dstm_words.specs.Seats.{state_by}
use Rattle.dstm_engine.proofs.Keeping.{DropsNone, goes_on_holding}
use Rattle.dstm_engine.specs.Attempts.{Admits}
use Rattle.dstm_engine.specs.Callers.{Called, held}

-- the value that a caller's attempt holds for an object, as a log tells
abbrev pub held_by : Shape → List Val → List Event → ℕ → ℕ → Option Val
held_by s start log c o = value_in (entry_of s start log (local s log c)).reads o

-- it is that of the version held
pub by_version : (s : Shape) (start : List Val) (log : List Event) (c o : ℕ) → Core s log →
    held_by s start log c o ≡ option_map (version_value s start log o) (version_held (local s log c) o)
by_version s start log c o core = held_is_seen s start log log c o core

module _ (s : Shape) (start : List Val) (old log : List Event) (c : ℕ) (core : Core s log) (past : IsPastOf old log)
    (few : c < s.callers) (live : (local s old c).phase ≢ Outside) where
  core_whole : Core s (past.later ++ old)
  core_whole = subst (Core s) (sym past.whole) core

  was_version : (o : ℕ) →
      held_by s start old c o ≡ option_map (version_value s start log o) (version_held (local s old c) o)
  was_version o =
      ap (λ ps. value_in ps o) (sym (seen_stays s start past.later old c core_whole few live))
      ∙ held_is_seen s start (past.later ++ old) old c o (core_past s past.later old core_whole)
      ∙ ap (λ xs. option_map (version_value s start xs o) (version_held (local s old c) o)) past.whole

  -- the same version has the same value
  pub same_held : (o : ℕ) → version_held (local s log c) o ≡ version_held (local s old c) o →
      held_by s start log c o ≡ held_by s start old c o
  same_held o same =
      by_version s start log c o core ∙ ap (option_map (version_value s start log o)) same ∙ sym (was_version o)

  -- and a version that is held has the same value in both logs
  pub version_stays : (o w : ℕ) → version_held (local s old c) o ≡ Some w →
      version_value s start log o w ≡ version_value s start old o w
  version_stays o w is =
      let here : Some (version_value s start log o w) ≡ Some (version_value s start old o w) =
      sym (was_version o ∙ ap (option_map (version_value s start log o)) is)
      ∙ by_version s start old c o (core_past s past.later old core_whole)
      ∙ ap (option_map (version_value s start old o)) is in cc

  module _ (es : List Event) (own : events_of c log ≡ es ++ events_of c old) (none : DropsNone es) where
    pub since : events_of c past.later ≡ es
    since = own_later c old log es past own

    -- what was held is held
    pub still_held : (o : ℕ) (v : Val) → held_by s start old c o ≡ Some v → held_by s start log c o ≡ Some v
    still_held o v is = by (version_held (local s old c) o) refl
      where
        by : (x : Option ℕ) → version_held (local s old c) o ≡ x → held_by s start log c o ≡ Some v
        by None q = absurd (let z : None ≡ Some v = sym (was_version o
            ∙ ap (option_map (version_value s start log o)) q) ∙ is in cc)
        by (Some w) q =
            by_version s start log c o core
            ∙ ap (option_map (version_value s start log o))
            (subst (λ xs. version_held (local s xs c) o ≡ Some w) past.whole
            (goes_on_holding s past.later old c o w core_whole (subst DropsNone (sym since) none) q) ∙ sym q)
            ∙ sym (was_version o) ∙ is

-- a map that has what is held then has what was held
pub narrows_by : {L : Type 0} (holds : L → List Val → Type 0) (k n : Called L) → n.home ≡ k.home →
    ((o : ℕ) (v : Val) → held k o ≡ Some v → held n o ≡ Some v) → (map : List Val) → Admits holds n map →
    Admits holds k map
narrows_by holds k n home still map a = record {
  length = a.length ∙ ap (λ (h : Home _). h.terms.shape.objects) home;
  lawful = subst (λ (h : Home _). holds h.terms.law.value map) home a.lawful;
  agrees = λ o. by o (held k o) refl;
}
  where
    by : (o : ℕ) (h : Option Val) → held k o ≡ h → IfSome h (λ v. value_at map o ≡ v)
    by o None q = tt
    by o (Some v) q = subst (λ (h : Option Val). IfSome h (λ x. value_at map o ≡ x)) (still o v q) (a.agrees o)

-- the value of a version that is held stays as a call goes on
pub version_goes : {L : Type 0} {holds : L → List Val → Type 0} {home : Home L} {task other : Task} {b : Began}
    {mid new : Steps L} {d f : Due} {a g : Option Again} (o w : ℕ) → InTask holds home task b mid d a →
    InTask holds home other b new f g → IsPastOf (view_of mid.seat).log (view_of new.seat).log →
    (now home mid).phase ≢ Outside → version_held (now home mid) o ≡ Some w →
    version_value home.terms.shape home.terms.start.value.items (view_of new.seat).log o w
    ≡ version_value home.terms.shape home.terms.start.value.items (view_of mid.seat).log o w
version_goes {home = home} {b = b} {mid = mid} {new = new} o w u x past live is =
    let s = home.terms.shape in
    let here : now home mid ≡ local s (view_of mid.seat).log b.number =
    ap (λ n. state_by s n (view_of mid.seat).log) u.number in
    version_stays s home.terms.start.value.items (view_of mid.seat).log (view_of new.seat).log b.number x.run.run.core past
    u.caller (subst (λ (l : LocalState). l.phase ≢ Outside) here live) o w (ap (λ l. version_held l o) (sym here) ∙ is)
