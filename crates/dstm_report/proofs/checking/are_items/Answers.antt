use Rattle.std.proofs.Common.{◌≡◌, List, Some, ap, sym, ◌∙◌}
use Rattle.std.proofs.lemmas.Bool.{ne_eqb, cond-false}
use Rattle.std.proofs.lemmas.Option.{same_Some}
use Rattle.std.proofs.lemmas.Slice.Eq.{slice_eq-Decides}
use Rattle.dstm_model.specs.declared.state.Item.{Item}
use Rattle.dstm_report.specs.Lawful.{declared_as}
use Rattle.dstm_report.proofs.Equality.{same_item}
use Rattle.dstm_report.proofs.checking.are_items.Goals as goal

pub returns-then-size-ne0 : goal.returns-then-size-ne0
returns-then-size-ne0 c =
    let items = c.in-Some.items in
    let held = c.args.held.now in
    let same =
    slice_eq-Decides same_item c.as_slice.result.now c.as_slice-then-size-ne0.result.now c.eq.result c.eq.ensures in
    let some : declared_as c.args.size held ≡ Some held =
    cond-false _ _ _ (ne_eqb c.args.size 0 c.if-size-ne0.true) in (
      λ yes.
          c.in-Some.is ∙ ap (λ (is : List Item). Some is)
          (sym c.as_slice.ensures ∙ same.0 yes ∙ c.as_slice-then-size-ne0.ensures) ∙ sym some,
      λ is.
          let inner : items ≡ held = same_Some items held (sym c.in-Some.is ∙ is ∙ some) in
          same.1 (c.as_slice.ensures ∙ inner ∙ sym c.as_slice-then-size-ne0.ensures),
    )
