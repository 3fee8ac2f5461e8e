-- A pass lies in one attempt, and what stands before the attempt's Begin stands before the pass.
use Rattle.std.proofs.Common.{◌++◌, ◌+◌, ◌<◌, ◌∙◌, ◌∷◌, ◌≡◌, ◌≤◌, ◌⊎◌, List, Some, [], ap, arith, false, inl, inr, refl, subst, sym, true, ℕ}
use Rattle.dstm_core.proofs.Base.{Core, Event, IsPastOf, LocalState, after, is_look_number, local, pass_place}
use Rattle.dstm_opacity.proofs.Base.{Check, Kind, LookNumber, Running, Shape}
use Rattle.dstm_core.proofs.Static.{begun_more, callers, local_own, static}
use Rattle.dstm_core.proofs.Statuses.{begun_up}
use Rattle.dstm_opacity.proofs.Passes.{PassHow, by_check, by_look, pass_how, place_keeps, place_new, place_other}
use Rattle.dstm_opacity.specs.Laws.{IsBeginOf}

-- two pasts of one log are one past of the other
pub pasts : (p q es : List Event) → IsPastOf p es → IsPastOf q es → IsPastOf p q ⊎ IsPastOf q p
pasts p q es a b = go a.later b.later (a.whole ∙ sym b.whole)
  where
    go : (xs ys : List Event) → xs ++ p ≡ ys ++ q → IsPastOf p q ⊎ IsPastOf q p
    go [] ys h = inr (record { later = ys; whole = sym h })
    go (x ∷ xs) [] h = inl (record { later = x ∷ xs; whole = h })
    go (x ∷ xs) (y ∷ ys) h = go xs ys (let k : xs ++ p ≡ ys ++ q = cc in k)

-- attempts begun stay begun
pub begun_later : (s : Shape) (more es : List Event) (c : ℕ) → (local s es c).begun ≤ (local s (more ++ es) c).begun
begun_later s [] es c = omega arith
begun_later s (e ∷ more) es c = let a = begun_later s more es c in let b = begun_more s (more ++ es) e c in
    omega arith

-- what stands before a caller's present attempt began is a past of each place in that attempt
pub before_attempt : (s : Shape) (es q b : List Event) (c : ℕ) → IsPastOf q es → IsPastOf b es →
    (local s b c).begun < (local s q c).begun → IsPastOf b q
before_attempt s es q b c p r less = elim (pasts b q es r p) [
  | inl x ↦ x
  | inr x ↦
      let y = subst (λ xs. (local s q c).begun ≤ (local s xs c).begun) x.whole (begun_later s x.later q c) in
      absurd (omega arith)
]

-- before a Begin of a caller fewer attempts of it had begun
pub begun_before : (s : Shape) (since between b : List Event) {e : Event} {c : ℕ} → IsBeginOf c e →
    (local s b c).begun < (local s (since ++ e ∷ (between ++ b)) c).begun
begun_before s since between b {e = e} {c = c} k =
    let early = begun_later s between b c in
    let late = begun_later s since (e ∷ (between ++ b)) c in
    let here : (local s (e ∷ (between ++ b)) c).begun ≡ (local s (between ++ b) c).begun + 1 =
    subst (λ n. (local s (e ∷ (between ++ b)) n).begun ≡ (local s (between ++ b) n).begun + 1) k.own
    (ap (λ (l : LocalState). l.begun) (local_own s (between ++ b) e)
    ∙ begun_up s (local s (between ++ b) e.caller) e k.kind) in
    omega arith

-- a pass lies in one attempt
pub pass_begun : (s : Shape) (es : List Event) → Core s es → (c n : ℕ) → (local s es c).phase ≡ Running →
    (local s es c).pass ≡ Some n → (local s (pass_place c es) c).begun ≡ (local s es c).begun
pass_begun s [] core c n r p = absurd (cc)
pass_begun s (e ∷ es) core c n r p =
    callers s es e (λ c l. l.phase ≡ Running → l.pass ≡ Some n → (local s (pass_place c (e ∷ es)) c).begun ≡ l.begun)
    (λ r p. at_own
    (pass_how s e.caller (local s es e.caller) e e.kind n (static s es core.0 e.caller) core.1.allowed r p)
    (pass_begun s es core.0 e.caller n))
    (λ c d r p. ap (λ xs. (local s xs c).begun) (place_other c es e d) ∙ pass_begun s es core.0 c n r p) c r p
  where
    same : (k : Kind) → (k ≡ LookNumber) ⊎ (k ≡ Check) →
        (after k s (local s es e.caller) e).begun ≡ (local s es e.caller).begun
    same LookNumber h = refl
    same Check h = refl
    same k (inl h) = absurd (cc)
    same k (inr h) = absurd (cc)

    look : (k : Kind) → k ≡ LookNumber → is_look_number k ≡ true
    look LookNumber h = refl
    look k h = absurd (cc)

    check : (k : Kind) → k ≡ Check → is_look_number k ≡ false
    check Check h = refl
    check k h = absurd (cc)

    at_own : PassHow (local s es e.caller) e e.kind n →
        ((local s es e.caller).phase ≡ Running → (local s es e.caller).pass ≡ Some n →
        (local s (pass_place e.caller es) e.caller).begun ≡ (local s es e.caller).begun) →
        (local s (pass_place e.caller (e ∷ es)) e.caller).begun ≡ (after e.kind s (local s es e.caller) e).begun
    at_own (by_look k r m) ih =
        ap (λ xs. (local s xs e.caller).begun) (place_new es e (look e.kind k)) ∙ sym (same e.kind (inl k))
    at_own (by_check k r m lt st) ih =
        ap (λ xs. (local s xs e.caller).begun) (place_keeps e.caller es e (check e.kind k)) ∙ ih r m
        ∙ sym (same e.kind (inr k))
