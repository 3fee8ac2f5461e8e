-- An open adds to an attempt at most one sight for each look at an object.
use Rattle.std.proofs.Common.{◌≡◌, ◌∙◌, ◌+◌, ◌≤◌, ◌++◌, ℕ, List, None, true, false, refl, sym, ap, subst, arith}
use Rattle.std.specs.Prelude.{Bool, IfErr, IsSome, IsTrue, OnOk, Option, Result, is_some}
use Rattle.std.proofs.lemmas.Bool.{cond_both}
use Rattle.dstm_engine.proofs.Base.{Again, Committing, Doing, Event, Home, IsPastOf, LocalState, Reading, Rechecking, Releasing, Shape, Val, Work, Writing, count_of, events_of, is_open, local}
use Rattle.dstm_machines.proofs.Own.{own_later}
use Rattle.dstm_engine.specs.Attempts.{completes_pass, is_look_object, is_look_self, looks, looks_at_object, sights}
use Rattle.dstm_engine.specs.Callers.{Called, begun_log, held, is_opened, shape_of, state}
use Rattle.dstm_engine.specs.Calls.{Performs, reading}
use Rattle.dstm_engine.specs.Transactions.{BeginsAnew, Leaves, Stays}
use Rattle.dstm_engine.proofs.LettingGo.{by_open}
use Rattle.dstm_engine.proofs.Opens.{none_of}
use Rattle.dstm_engine.proofs.Released.{no_self}
use Rattle.dstm_engine.proofs.BegunThere.{begun_there, count_later}
use Rattle.dstm_engine.proofs.FewSights.{beginning_looks, commit_looks, count_kinds, looks_more, none_looks, none_yet, open_looks, recheck_looks, sights_more}

-- no more sights were added than looks at an object
abbrev pub AddsFew : {L : Type 0} → (k n : Called L) → Type 0
AddsFew k n = sights n + looks k ≤ looks n + sights k

pub adds_none : {L : Type 0} {k n : Called L} → n ≡ k → AddsFew k n
adds_none {k = k} same = subst (AddsFew k) (sym same) (omega arith)

-- so there are no more since any count
pub few_still : {L : Type 0} (k n : Called L) → AddsFew k n → (s l : ℕ) → sights k + l ≤ looks k + s →
    sights n + l ≤ looks n + s
few_still k n adds s l few = omega arith

pub few_since : {L : Type 0} (k n : Called L) → sights k ≤ looks k → AddsFew k n → sights n ≤ looks n
few_since k n few adds = omega arith

-- ---- an attempt that goes on

module _ {L : Type 0} (k n : Called L) (home : n.home ≡ k.home) (number : n.number ≡ k.number) (past : IsPastOf k.log n.log) where
  -- as n has the table and the number
  there : (P : Home L → ℕ → Type 0) → P k.home k.number → P n.home n.number
  there P is = subst (λ (h : Home L). P h n.number) (sym home) (subst (P k.home) (sym number) is)

  module _ (attempt : begun_log n.number n.log ≡ begun_log k.number k.log) where
    same_begun : (local (shape_of n) k.log n.number).begun ≡ (state n).begun
    same_begun =
        begun_there (shape_of n) n.number k.log
        ∙ ap (λ (log : List Event). (local (shape_of n) log n.number).begun)
        (ap (λ (c : ℕ). begun_log c k.log) number ∙ sym attempt)
        ∙ sym (begun_there (shape_of n) n.number n.log)

    -- what k counts of it, by its number
    same_count : (test : Shape → LocalState → Event → Bool) →
        count_of test (shape_of k) k.log k.number (state k).begun ≡ count_of test (shape_of n) k.log n.number (state n).begun
    same_count test =
        there (λ h c. count_of test (shape_of k) k.log k.number (state k).begun
        ≡ count_of test h.terms.shape k.log c (local h.terms.shape k.log c).begun) refl
        ∙ ap (count_of test (shape_of n) k.log n.number) same_begun

    -- as n has seen it
    in_log : (P : List Event → Type 0) → P (past.later ++ k.log) → P n.log
    in_log P is = subst P past.whole is

    -- the looks stay
    pub looks_stay : looks k ≤ looks n
    looks_stay =
        subst (λ (i : ℕ). i ≤ looks n) (sym (same_count looks_at_object))
        (in_log (λ (log : List Event). count_of looks_at_object (shape_of n) k.log n.number (state n).begun
        ≤ count_of looks_at_object (shape_of n) log n.number (state n).begun)
        (count_later looks_at_object (shape_of n) past.later k.log n.number (state n).begun))

    -- a sight is a look at the own status
    sights_by : (events : List Event) → events_of k.number n.log ≡ events ++ events_of k.number k.log →
        sights n ≤ sights k + count_kinds is_look_self events
    sights_by events own =
        let s = shape_of n in
        let c = n.number in
        let i = (state n).begun in
        let later : events_of c past.later ≡ events =
        own_later c k.log n.log events past (subst (λ (x : ℕ). events_of x n.log ≡ events ++ events_of x k.log) (sym number) own) in
        let now : sights n ≤ count_of completes_pass s k.log c i + count_kinds is_look_self events =
        in_log (λ (log : List Event). count_of completes_pass s log c i ≤ count_of completes_pass s k.log c i + count_kinds is_look_self events)
        (subst (λ (es : List Event). count_of completes_pass s (past.later ++ k.log) c i
        ≤ count_of completes_pass s k.log c i + count_kinds is_look_self es) later (sights_more s c i past.later k.log)) in
        let before = same_count completes_pass in
        omega arith

    -- events that look at the own status no more often than at an object
    few_by : (events : List Event) → events_of k.number n.log ≡ events ++ events_of k.number k.log →
        count_kinds is_look_self events ≤ count_kinds is_look_object events → AddsFew k n
    few_by events own few =
        let s = shape_of n in
        let c = n.number in
        let i = (state n).begun in
        let later : events_of c past.later ≡ events =
        own_later c k.log n.log events past (subst (λ (x : ℕ). events_of x n.log ≡ events ++ events_of x k.log) (sym number) own) in
        let new : (local s (past.later ++ k.log) c).begun ≡ i = ap (λ (log : List Event). (local s log c).begun) past.whole in
        let sights_now = sights_by events own in
        let looks_now : count_of looks_at_object s k.log c i + count_kinds is_look_object events ≤ looks n =
        in_log (λ (log : List Event). count_of looks_at_object s k.log c i + count_kinds is_look_object events
        ≤ count_of looks_at_object s log c i)
        (subst (λ (es : List Event). count_of looks_at_object s k.log c i + count_kinds is_look_object es
        ≤ count_of looks_at_object s (past.later ++ k.log) c i) later (looks_more s c i past.later k.log same_begun new)) in
        let looks_then = same_count looks_at_object in
        omega arith

-- ---- opens

module _ {L : Type 0} (holds : L → List Val → Type 0) (k n : Called L)
    (attempt : begun_log n.number n.log ≡ begun_log k.number k.log) where
  opens_few : {w : Work} {a : Option Again} → is_open w ≡ true → Performs holds (Doing w) k n a → AddsFew k n
  opens_few {w = w} opens p =
      few_by k n p.same.0 p.same.1 p.seen attempt p.events p.own
      (open_looks w (shape_of k) (state k) k.generator p.events opens p.call.obeys)

  pub read_few : (o : ℕ) (r : Result Val Again) → (IsSome (held k o) → n ≡ k) →
      (held k o ≡ None → OnOk r (Stays holds (reading (shape_of k) o) k n)) →
      IfErr r (Leaves holds (reading (shape_of k) o) k n) → AddsFew k n
  read_few o r again stays leaves =
      by_open holds k n (reading (shape_of k) o) r (is_some (held k o)) again (λ no. stays (none_of (held k o) no)) leaves
      (AddsFew k n) (adds_none) (λ a. opens_few
      (cond_both (shape_of k).all_write (Writing o) (Reading o) (λ (w : Work). is_open w ≡ true) (λ _. refl) (λ _. refl)))

  pub write_few : (o : ℕ) (r : Result Val Again) → (IsTrue (is_opened k o) → n ≡ k) →
      (is_opened k o ≡ false → OnOk r (Stays holds (Writing o) k n)) → IfErr r (Leaves holds (Writing o) k n) → AddsFew k n
  write_few o r again stays leaves =
      by_open holds k n (Writing o) r (is_opened k o) again stays leaves (AddsFew k n) (adds_none) (λ a. opens_few refl)

-- neither does a release, which makes sure of nothing
pub release_few : {L : Type 0} {holds : L → List Val → Type 0} {k n : Called L} →
    begun_log n.number n.log ≡ begun_log k.number k.log → {o : ℕ} → Performs holds (Doing (Releasing o)) k n None →
    AddsFew k n
release_few {k = k} {n = n} attempt {o = o} p =
    let none = none_looks p.events (no_self o (shape_of k) (state k) k.generator p.events p.call.obeys).0 in
    few_by k n p.same.0 p.same.1 p.seen attempt p.events p.own (omega arith)

-- nor does a commit
pub commit_few : {L : Type 0} {holds : L → List Val → Type 0} {k n : Called L} {a : Option Again} →
    begun_log n.number n.log ≡ begun_log k.number k.log → {v : ℕ → Val} → Performs holds (Doing (Committing v)) k n a →
    AddsFew k n
commit_few {k = k} {n = n} attempt {v = v} p =
    let none = none_looks p.events (commit_looks v (shape_of k) (state k) k.generator p.events p.call.obeys) in
    few_by k n p.same.0 p.same.1 p.seen attempt p.events p.own (omega arith)

-- and a recheck adds one sight at most
pub recheck_one : {L : Type 0} {holds : L → List Val → Type 0} {k n : Called L} {a : Option Again} →
    begun_log n.number n.log ≡ begun_log k.number k.log → Performs holds (Doing Rechecking) k n a → sights n ≤ sights k + 1
recheck_one {k = k} {n = n} attempt p =
    let one = recheck_looks (shape_of k) (state k) k.generator p.events p.call.obeys in
    let more = sights_by k n p.same.0 p.same.1 p.seen attempt p.events p.own in
    omega arith

-- ---- an attempt that begins

pub begins_unsighted : {L : Type 0} (holds : L → List Val → Type 0) (k b : Called L) → BeginsAnew holds k b → sights b ≤ 0
begins_unsighted holds k b begins =
    let p = begins.steps in
    let s = shape_of b in
    let c = b.number in
    let i = (state b).begun in
    let later : events_of k.number p.seen.later ≡ p.events = own_later k.number k.log b.log p.events p.seen p.own in
    let none : count_kinds is_look_self (events_of c p.seen.later) ≡ 0 =
    ap (λ (x : ℕ). count_kinds is_look_self (events_of x p.seen.later)) p.same.1 ∙ ap (count_kinds is_look_self) later
    ∙ none_looks p.events (beginning_looks (shape_of k) k.fresh (state k) k.generator p.events p.call.obeys) in
    let before : (local s k.log c).begun + 1 ≡ i =
    there k b p.same.0 p.same.1 p.seen (λ h x. (local h.terms.shape k.log x).begun + 1 ≡ i) (sym begins.begun) in
    let zero = none_yet completes_pass s k.log c i (omega (arith, before)) in
    let most : sights b ≤ count_of completes_pass s k.log c i + count_kinds is_look_self (events_of c p.seen.later) =
    subst (λ (log : List Event). count_of completes_pass s log c i
    ≤ count_of completes_pass s k.log c i + count_kinds is_look_self (events_of c p.seen.later)) p.seen.whole
    (sights_more s c i p.seen.later k.log) in
    omega arith

pub begins_few : {L : Type 0} (holds : L → List Val → Type 0) (k b : Called L) → BeginsAnew holds k b → sights b ≤ looks b
begins_few holds k b begins = let none = begins_unsighted holds k b begins in omega arith
