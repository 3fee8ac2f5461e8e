use Rattle.std.proofs.Common.{rules, ◌≡◌, ℕ, None}
use Rattle.std.proofs.lemmas.Grind.{common_steps}
use Rattle.dstm_mem.specs.Flat.{written_in}
use Rattle.dstm_mem.proofs.WithSet.{with_set-nothing}
use Rattle.dstm_mem.proofs.flat.FlatMem.make.Goals as goal

pub returns-clause-untouched : goal.returns-clause-untouched
returns-clause-untouched c map =
    let unwritten : (p : ℕ) → written_in c.in_ok-notes.notes.items p ≡ None = search (rules, common_steps) in
    with_set-nothing map _ unwritten
