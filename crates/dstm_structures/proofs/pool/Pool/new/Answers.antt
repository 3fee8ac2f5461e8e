use Rattle.std.proofs.Common.{◌≡◌, ◌∙◌, ℕ, ◌*◌, ◌<◌, ap, arith, length}
use Rattle.dstm_cells.specs.declared.cell.Cell.{Cell}
use Rattle.dstm_structures.proofs.Pools.{makes}
use Rattle.dstm_structures.proofs.pool.Pool.new.Goals as goal

pub returns-clause-adds : goal.returns-clause-adds
returns-clause-adds g c =
    let made = c.in_ok-cells.ensures.made in
    let some : 0 < c.args.capacity = omega (arith, c.if-capacity-eq0.false) in
    let count : length c.in_ok-cells.cells.items ≡ 2 * c.args.capacity = c.in_ok-cells.ensures.count in
    makes _ (length c.in_ok-cells.cells.items) made.kept c.args.memory.now.values.items
    c.cells.new.self.values.items made.behind (ap (λ (x : ℕ × ℕ). x.0) made.is)
    (c.number.ensures ∙ ap (λ (x : Cell (ℕ × ℕ)). x.object) c.index.ensures
    ∙ made.named 0 c.index.result.now (omega (arith, some, count)) ∙ omega arith) count
