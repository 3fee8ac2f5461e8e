use Rattle.std.proofs.Common.{◌≡◌, ℕ, List, [], ◌∷◌, ◌++◌, take, ap, sym, subst, ◌∙◌}
use Rattle.std.specs.List.{flat_map}
use Rattle.std.proofs.lemmas.List.{take_more, flat_map_more}
use Rattle.std.proofs.lemmas.List.Elements.{All-more}
use Rattle.dstm_model.specs.declared.reply.Reply.{Reply}
use Rattle.dstm_report.specs.declared.report.Row.{Row}
use Rattle.dstm_report.specs.Reading.{FitsRow}
use Rattle.dstm_report.specs.Text.{row_text}
use Rattle.dstm_report.proofs.rendering.with_rows.Goals as goal

-- a row with these replies
abbrev with_replies : Row → List Reply → Row
with_replies row replies = record row { replies = replies }

pub loop-row-preserved : goal.loop-row-preserved
loop-row-preserved c =
    let start = c.args.out.items in
    let rows = c.args.rows.now in
    let i = c.loop-row.row-index in
    let row = c.row-item.result in
    let told = c.put_row.ensures in
    let same : with_replies row c.as_slice.result.now ≡ row = ap (with_replies row) c.as_slice.ensures.value in
    let more = take_more rows i row c.loop-row-test.true
    ∙ ap (λ (r : Row). take i rows ++ r ∷ []) (sym c.row-item.is) in
    record {
      text = told.text
          ∙ ap (λ (r : Row). c.in_ok-out.out.items ++ row_text r) same
          ∙ ap (λ (text : List ℕ). text ++ row_text row) (c.in_ok-out.ensures.items ∙ c.loop-row.invariant.text)
          ∙ flat_map_more row_text start (take i rows) row
          ∙ ap (λ (rs : List Row). start ++ flat_map row_text rs) (sym more);
      fits = All-more FitsRow rows i row c.loop-row-test.true c.loop-row.invariant.fits
          (subst FitsRow (same ∙ c.row-item.is) told.fits);
    }
