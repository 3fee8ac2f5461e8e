use Rattle.std.proofs.Common.{◌≡◌, ◌++◌, ◌<◌, ◌∷◌, ◌∙◌, [], ℕ, List, ap, length, sym, subst, take}
use Rattle.std.specs.List.{All, flat_map}
use Rattle.std.proofs.lemmas.List.{flat_map_more}
use Rattle.std.proofs.lemmas.List.Elements.{All-push}
use Rattle.dstm_report.specs.declared.packed.Head.{Head}
use Rattle.dstm_report.specs.declared.report.Row.{Row}
use Rattle.dstm_report.specs.Packed.{unpacked}
use Rattle.dstm_report.specs.Reading.{FitsRow}
use Rattle.dstm_report.specs.Text.{row_text}
use Rattle.dstm_report.proofs.Unpacking.{row_there, unpacked_more}
use Rattle.dstm_report.proofs.packed.PackedRows.with_text.Goals as goal

-- the text of the rows and one more
one_more : (start : List ℕ) (rows : List Row) {told row : Row} {before then : List ℕ} {rows_then : List Row} → told ≡ row →
    rows_then ≡ rows ++ row ∷ [] → before ≡ start ++ flat_map row_text rows → then ≡ before ++ row_text told →
    then ≡ start ++ flat_map row_text rows_then
one_more start rows {row = row} {before = before} same more texts told =
    told ∙ ap (λ (r : Row). before ++ row_text r) same ∙ ap (λ (text : List ℕ). text ++ row_text row) texts
    ∙ flat_map_more row_text start rows row ∙ ap (λ (rs : List Row). start ++ flat_map row_text rs) (sym more)

pub loop-head-preserved : goal.loop-head-preserved
loop-head-preserved c =
    let replies = c.self.inside.replies.items in
    let heads = c.self.inside.heads.items in
    let i = c.loop-head.head-index in
    let rows : List Row = unpacked replies (take i heads) in
    let same = row_there i _ c.deref-head-items.ensures.value c.deref.ensures.value c.replies_of-replies.ensures.value in
    let within = subst (λ (hs : List Head). i < length hs) c.deref-head-items.ensures.value c.loop-head-test.true in
    let more = unpacked_more replies heads i _ within in
    let told = c.put_row.ensures in
    record {
      text = one_more c.args.out.items rows same more (c.in_ok-out.ensures.items ∙ c.loop-head.invariant.text) told.text;
      fits = subst (All FitsRow) (sym more)
          (All-push FitsRow rows _ c.loop-head.invariant.fits (subst FitsRow same told.fits));
    }
