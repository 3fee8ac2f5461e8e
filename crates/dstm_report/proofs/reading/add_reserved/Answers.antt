use Rattle.std.proofs.Common.{rules, ◌≡◌, ◌++◌, length, List, [], ◌∷◌, Some, slice_set, ap, sym, ◌∙◌}
use Rattle.std.proofs.Math.Seq.{set-append_seam}
use Rattle.std.specs.Option.{option_map}
use Rattle.dstm_report.specs.declared.report.Row.{Row}
use Rattle.dstm_report.proofs.reading.add_reserved.Goals as goal

pub returns-in-Some : goal.returns-in-Some
returns-in-Some c =
    let rows = c.args.rows.now.items in
    let last : c.len-last.result ≡ length rows = search rules in
    let put : slice_set c.push_reserved.new.self.items c.len-last.result c.fill.new.row ≡ rows ++ c.fill.new.row ∷ [] =
    rw (c.push_reserved.ensures.items, last) (set-append_seam rows c.blank.result [] c.fill.new.row) in
    ap (option_map (λ (more : Row). rows ++ more ∷ [])) c.in-Some.ensures ∙ ap (λ (all : List Row). Some all) (sym put)
