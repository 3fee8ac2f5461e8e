use Rattle.std.proofs.Common.{◌≡◌, ◌∙◌, ℕ, ◌+◌, ◌*◌, ap, arith, length}
use Rattle.dstm_cells.specs.declared.cell.Cell.{Cell}
use Rattle.dstm_structures.specs.declared.cells.Rows.{Rows}
use Rattle.dstm_structures.proofs.Placing.{makes}
use Rattle.dstm_structures.proofs.ordered.OrderedMap.new.Goals as goal

pub returns-clause-adds : goal.returns-clause-adds
returns-clause-adds g c =
    let made = c.in_ok-cells.ensures.made in
    let count : length c.in_ok-cells.cells.items ≡ 3 * c.args.capacity + 1 = c.in_ok-cells.ensures.count in
    makes g.V.Word.found _ (length c.in_ok-cells.cells.items) made.kept c.args.memory.now.values.items
    c.cells.new.self.values.items made.behind (ap (λ (x : ℕ × ℕ). x.0) made.is) (ap (λ (x : ℕ × ℕ). x.1) made.is)
    (ap (λ (x : Rows). x.first) c.of_cells.ensures ∙ c.number.ensures ∙ ap (λ (x : Cell (ℕ × ℕ)). x.object) c.index.ensures
    ∙ made.named 0 c.index.result.now (omega (arith, count)) ∙ omega arith)
    (count ∙ omega (arith, ap (λ (x : Rows). x.capacity) c.of_cells.ensures))
