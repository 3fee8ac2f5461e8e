-- What a caller that goes on has of its table, under the law of the store.
use Rattle.std.proofs.Common.{◌≡◌, ◌∙◌, ◌≤◌, List, false, refl, sym, ap, subst, length}
use Rattle.dstm_model.specs.declared.value.Val.{Val}
use Rattle.dstm_model.specs.declared.layout.Layout.{Layout}
use Rattle.dstm_core.specs.declared.shape.Shape.{Shape}
use Rattle.dstm_options.specs.declared.options.Engine.{Engine}
use Rattle.dstm_options.specs.declared.options.Engine.TheVariants as engines
use Rattle.dstm_store.specs.declared.law.StoreLaw.{StoreLaw}
use Rattle.dstm_store.specs.Whole.{IsLawful}
use Rattle.dstm_tables.specs.Callers.{law_of, round_of}
use Rattle.dstm_tables.specs.Tells.{HasLocators, IsPast, start_of, writes_all}
use Rattle.dstm_tables.specs.declared.tables.Round.TheVariants.{Dstm, Tl2}
use Rattle.dstm_tables.proofs.Same.{law_is, law_past, law_same, start_same}
use Rattle.dstm_jobs.specs.Founders.{HasShape}
use Rattle.dstm_jobs.specs.Tables.{Caller, GoesOn, IsOf, IsRun, Round, layout_of}

-- what a table was told stays, under each engine
pub layout_past : (a b : Round) → IsPast a b → layout_of b ≡ layout_of a
layout_past a b past = ap (λ (law : StoreLaw). law.layout) (law_past a b past)

pub of_past : (engine : Engine) (a b : Round) → IsPast a b → IsOf engine a → IsOf engine b
of_past engines.Dstm (Dstm a) (Dstm b) past is = tt
of_past engines.Tl2 (Tl2 a) (Tl2 b) past is = tt
of_past engines.Dstm (Tl2 a) b past is = absurd is
of_past engines.Tl2 (Dstm a) b past is = absurd is
of_past engine a b past is = absurd past

-- of its shape
pub locators_told : (shape : Shape) (r : Round) → HasShape shape r → shape.objects ≤ shape.locators → HasLocators r
locators_told shape (Dstm r) is enough = subst (λ (s : Shape). s.objects ≤ s.locators) (sym is) enough
locators_told shape (Tl2 r) is enough = tt

pub writes_told : (shape : Shape) (r : Round) → HasShape shape r → shape.all_write ≡ false → writes_all r ≡ false
writes_told shape (Dstm r) is reads = ap (λ (s : Shape). s.all_write) is ∙ reads
writes_told shape (Tl2 r) is reads = refl

-- the layout of a caller is its table's
pub layout_is : (k : Caller) → layout_of (round_of k) ≡ (law_of k).layout
layout_is k = ap (λ (law : StoreLaw). law.layout) (law_is k)

-- ---- how many objects there are

lawful_start : (r : Round) → IsRun r → IsLawful (layout_of r) (start_of r)
lawful_start (Dstm r) run = run.lawful
lawful_start (Tl2 r) run = run.lawful

-- a map of the layout has as many as the first values
pub objects_of_law : (layout : Layout) (k n : Caller) (map : List Val) → (law_of k).layout ≡ layout → GoesOn k n →
    IsLawful layout map → length map ≡ length (start_of (round_of k))
objects_of_law layout k n map law on lawful =
    let same : layout_of (round_of n) ≡ layout =
    layout_is n ∙ ap (λ (l : StoreLaw). l.layout) (law_same k n on) ∙ law in
    let there : IsLawful layout (start_of (round_of n)) =
    subst (λ (l : Layout). IsLawful l (start_of (round_of n))) same (lawful_start (round_of n) on.rest.run) in
    lawful.1.objects ∙ sym there.1.objects ∙ ap (λ (values : List Val). length values) (start_same k n on)
