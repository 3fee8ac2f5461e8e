-- Lists of pairs as partial functions by object: the reads and the writes of an entry.
use Rattle.std.proofs.Common.{◌≡◌, ◌≢◌, ℕ, List, [], ◌∷◌, refl, sym, ◌∙◌, ap, subst, inl, inr, slice_set, eq-eqb}
use Rattle.std.specs.Prelude.{Option, Some, None, IfSome, cond}
use Rattle.std.proofs.lemmas.Bool.{cases_eq, ne_eqb}
use Rattle.dstm_model.specs.declared.value.Val.{Val}
use Rattle.dstm_model.specs.Map.{value_at, with_writes, Agrees, IsUnnamed}
use Rattle.dstm_mem.specs.Memory.{with_set, value_in, AgreesWith, SetsOnly}
use Rattle.dstm_mem.proofs.WithSet.{with_set-nothing, with_set-set}

pub value_in-same : (p : ℕ × Val) (ps : List (ℕ × Val)) (o : ℕ) → p.0 ≡ o → value_in (p ∷ ps) o ≡ Some p.1
value_in-same p ps o same = ap (λ b. cond b (Some p.1) (value_in ps o)) (eq-eqb p.0 o same)

pub value_in-other : (p : ℕ × Val) (ps : List (ℕ × Val)) (o : ℕ) → p.0 ≢ o → value_in (p ∷ ps) o ≡ value_in ps o
value_in-other p ps o other = ap (λ b. cond b (Some p.1) (value_in ps o)) (ne_eqb p.0 o other)

pub value_in-unnamed : (ps : List (ℕ × Val)) (o : ℕ) → IsUnnamed o ps → value_in ps o ≡ None
value_in-unnamed [] o unnamed = refl
value_in-unnamed (p ∷ ps) o unnamed = value_in-other p ps o unnamed.0 ∙ value_in-unnamed ps o unnamed.1

-- a map with an entry's writes is the map with what they set
pub with_writes-with_set : (map : List Val) (writes : List (ℕ × Val)) →
    with_writes map writes ≡ with_set map (value_in writes)
with_writes-with_set map [] = sym (with_set-nothing map (value_in []) (λ o. refl))
with_writes-with_set map (w ∷ ws) =
    let sets : SetsOnly w.0 w.1 (value_in ws) (value_in (w ∷ ws)) = record {
      value = value_in-same w ws w.0 refl;
      others = λ o other. value_in-other w ws o (λ e. other (sym e));
    } in
    ap (λ x. slice_set x w.0 w.1) (with_writes-with_set map ws)
    ∙ sym (with_set-set map (value_in ws) (value_in (w ∷ ws)) w.0 w.1 sets)

-- the object has this value in the map, if there is one
abbrev HasIfSome : List Val → ℕ → Option Val → Type 0
HasIfSome map o held = IfSome held (λ v. value_at map o ≡ v)

-- a map that agrees with an entry's reads has every value that they hold
pub AgreesWith-of_agrees : (map : List Val) (reads : List (ℕ × Val)) → Agrees map reads → AgreesWith map (value_in reads)
AgreesWith-of_agrees map [] agrees o = tt
AgreesWith-of_agrees map (r ∷ rs) agrees o =
    elim (cases_eq r.0 o) [
      | inl same ↦
          subst (HasIfSome map o) (sym (value_in-same r rs o same)) (ap (value_at map) (sym same) ∙ agrees.0)
      | inr other ↦
          subst (HasIfSome map o) (sym (value_in-other r rs o other)) (AgreesWith-of_agrees map rs agrees.1 o)
    ]
