-- Whether an attempt has drawn, as its caller's state tells.
use Rattle.std.proofs.Common.{◌≡◌, ◌==◌, ◌<◌, ◌⊎◌, ◌∷◌, ◌+◌, ◌∙◌, ℕ, inl, inr, List, [], refl, ap, arith, sym, subst, true, false, Bool, Option, None, Some, is_some, ◌&&◌}
use Rattle.dstm_tl2.proofs.Base.{Event, LocalState, Run, Table, after, and_from, and_left, and_parts, and_right, cases_Bool, eq-eqb, eqb-true, is_draw, is_valid, local, ne_eqb, tl2, will_of}
use Rattle.dstm_tl2.specs.declared.kind.Kind.{Kind}
use Rattle.dstm_tl2.specs.declared.kind.Kind.TheVariants.{Draw, Sample}
use Rattle.dstm_machines.proofs.Own.{local_mine, local_others}
use Rattle.dstm_tl2.proofs.Foretelling.{valid_will}
use Rattle.dstm_tl2.proofs.Static.{valid_drawn}
use Rattle.dstm_tl2_order.specs.Ended.{HasCommitted, HasNoDraw, draws, draws_for, has_one}
use Rattle.dstm_tl2_order.proofs.Steps.{rests}
use Rattle.dstm_tl2_order.proofs.Ones.{none_later, one_here, one_more, one_weaker}

-- ---- a number that was drawn has its Draw

abbrev drew : ℕ → LocalState → Event → Bool
drew n l e = is_draw e.kind && (e.found == n)

-- what an own event leaves of the number drawn
data Drawn (l m : LocalState) (e : Event) (n : ℕ) : Type 0 where
  now : is_draw e.kind ≡ true → e.found ≡ n → m.begun ≡ l.begun → Drawn l m e n
  before : l.drawn ≡ Some n → m.begun ≡ l.begun → Drawn l m e n

drawn_by : (t : Table) (l : LocalState) (e : Event) (n : ℕ) {k : Kind} → e.kind ≡ k →
    (after k t l e).drawn ≡ Some n → Drawn l (after k t l e) e n
drawn_by t l e n {k = Sample} is drawn = absurd (cc)
drawn_by t l e n {k = (Draw w)} is drawn = now (ap is_draw is) (let same : e.found ≡ n = cc in same) refl
drawn_by t l e n {k = k} is drawn =
    let r = rests t l e k refl refl in before (sym r.drawn ∙ drawn) r.begun

pub drawn_stands : (t : Table) (es : List Event) (c n : ℕ) → (local t es c).drawn ≡ Some n →
    has_one (drew n) t es c (local t es c).begun ≡ true
drawn_stands t [] c n drawn = absurd (cc)
drawn_stands t (e ∷ es) c n drawn = go (cases_Bool (e.caller == c)) (drawn_stands t es c n)
  where
    go : (e.caller == c ≡ true) ⊎ (e.caller == c ≡ false) →
        ((local t es c).drawn ≡ Some n → has_one (drew n) t es c (local t es c).begun ≡ true) →
        has_one (drew n) t (e ∷ es) c (local t (e ∷ es) c).begun ≡ true
    go (inl q) ih =
        by (drawn_by t (local t es c) e n refl
        (ap (λ (l : LocalState). l.drawn) (sym (local_mine tl2 t es e c q)) ∙ drawn))
      where
        mine : (local t (e ∷ es) c).begun ≡ (after e.kind t (local t es c) e).begun
        mine = ap (λ (l : LocalState). l.begun) (local_mine tl2 t es e c q)

        by : Drawn (local t es c) (after e.kind t (local t es c) e) e n →
            has_one (drew n) t (e ∷ es) c (local t (e ∷ es) c).begun ≡ true
        by (now kind found same) =
            one_here (drew n) t e es c (local t (e ∷ es) c).begun q (sym (mine ∙ same))
            (and_from (is_draw e.kind) (e.found == n) kind (eq-eqb e.found n found))
        by (before was same) =
            one_more (drew n) t (e ∷ []) es c (local t (e ∷ es) c).begun
            (subst (λ i. has_one (drew n) t es c i ≡ true) (sym (mine ∙ same)) (ih was))
    go (inr q) ih =
        let other = local_others tl2 t es e c q in
        one_more (drew n) t (e ∷ []) es c (local t (e ∷ es) c).begun
        (subst (λ i. has_one (drew n) t es c i ≡ true) (ap (λ (l : LocalState). l.begun) (sym other))
        (ih (ap (λ (l : LocalState). l.drawn) (sym other) ∙ drawn)))

-- an attempt that is valid has committed
pub valid_commits : (t : Table) (es : List Event) (c : ℕ) → Run t es → is_valid (local t es c) ≡ true →
    HasCommitted t es c (local t es c).begun
valid_commits t es c run valid = by (local t es c).drawn refl (valid_drawn (local t es c) valid)
  where
    by : (d : Option ℕ) → (local t es c).drawn ≡ d → is_some d ≡ true → HasCommitted t es c (local t es c).begun
    by None is some = absurd (cc)
    by (Some n) is some =
        one_weaker (drew n) (draws_for t es) t es c (local t es c).begun (λ l e h.
        let parts = and_parts (is_draw e.kind) (e.found == n) h in
        and_from (is_draw e.kind) (will_of t es e.found) parts.0
        (subst (λ m. will_of t es m ≡ true) (sym (eqb-true e.found n parts.1)) (valid_will t es c n is valid)))
        (drawn_stands t es c n is)

-- ---- where nothing is drawn, there is no Draw

no_head : (t : Table) (e : Event) (es : List Event) (c i : ℕ) →
    ((e.caller == c) && (((local t es c).begun == i) && is_draw e.kind)) ≡ false → has_one draws t es c i ≡ false →
    has_one draws t (e ∷ es) c i ≡ false
no_head t e es c i head none = rw head none

-- what an own event tells where nothing is drawn after it
data Undrawn (l m : LocalState) (e : Event) : Type 0 where
  begins : m.begun ≡ l.begun + 1 → Undrawn l m e
  rest : is_draw e.kind ≡ false → l.drawn ≡ None → m.begun ≡ l.begun → Undrawn l m e

undrawn_by : (t : Table) (l : LocalState) (e : Event) {k : Kind} → e.kind ≡ k →
    (after k t l e).drawn ≡ None → Undrawn l (after k t l e) e
undrawn_by t l e {k = Sample} is none = begins refl
undrawn_by t l e {k = (Draw w)} is none = absurd (cc)
undrawn_by t l e {k = k} is none = let r = rests t l e k refl refl in rest (ap is_draw is) (sym r.drawn ∙ none) r.begun

pub undrawn_none : (t : Table) (es : List Event) (c : ℕ) → (local t es c).drawn ≡ None →
    HasNoDraw t es c (local t es c).begun
undrawn_none t [] c none = refl
undrawn_none t (e ∷ es) c none = go (cases_Bool (e.caller == c)) (undrawn_none t es c)
  where
    go : (e.caller == c ≡ true) ⊎ (e.caller == c ≡ false) →
        ((local t es c).drawn ≡ None → HasNoDraw t es c (local t es c).begun) →
        HasNoDraw t (e ∷ es) c (local t (e ∷ es) c).begun
    go (inl q) ih =
        by (undrawn_by t (local t es c) e refl
        (ap (λ (l : LocalState). l.drawn) (sym (local_mine tl2 t es e c q)) ∙ none))
      where
        mine : (local t (e ∷ es) c).begun ≡ (after e.kind t (local t es c) e).begun
        mine = ap (λ (l : LocalState). l.begun) (local_mine tl2 t es e c q)

        by : Undrawn (local t es c) (after e.kind t (local t es c) e) e →
            HasNoDraw t (e ∷ es) c (local t (e ∷ es) c).begun
        by (begins up) =
            let late : (local t es c).begun < (local t (e ∷ es) c).begun = omega (arith, mine, up) in
            no_head t e es c (local t (e ∷ es) c).begun
            (and_right (e.caller == c) (((local t es c).begun == (local t (e ∷ es) c).begun) && is_draw e.kind)
            (and_left ((local t es c).begun == (local t (e ∷ es) c).begun) (is_draw e.kind)
            (ne_eqb (local t es c).begun (local t (e ∷ es) c).begun (λ same. omega (arith, same, late)))))
            (none_later draws t es c (local t (e ∷ es) c).begun late)
        by (rest plain was same) =
            no_head t e es c (local t (e ∷ es) c).begun
            (and_right (e.caller == c) (((local t es c).begun == (local t (e ∷ es) c).begun) && is_draw e.kind)
            (and_right ((local t es c).begun == (local t (e ∷ es) c).begun) (is_draw e.kind) plain))
            (subst (λ i. HasNoDraw t es c i) (sym (mine ∙ same)) (ih was))
    go (inr q) ih =
        let other = local_others tl2 t es e c q in
        no_head t e es c (local t (e ∷ es) c).begun
        (and_left (e.caller == c) (((local t es c).begun == (local t (e ∷ es) c).begun) && is_draw e.kind) q)
        (subst (λ i. HasNoDraw t es c i) (ap (λ (l : LocalState). l.begun) (sym other))
        (ih (ap (λ (l : LocalState). l.drawn) (sym other) ∙ none)))
