use Rattle.std.proofs.Common.{◌≡◌, false, codes, sym, arith}
use Rattle.std.specs.Str.{bytes_eq}
use Rattle.std.proofs.lemmas.Grind.{common_steps}
use Rattle.dstm_workload.proofs.Spellings.{none_longer, none_of_7_or_8, other_length}
use Rattle.dstm_workload.proofs.word.Word.spelled.Goals as goal

pub returns-in_default-62 : goal.returns-in_default-62
returns-in_default-62 c =
    let field = c.args.field.now in
    let balance : bytes_eq (codes "balance") field ≡ false = grind (arith, common_steps) in
    let workers : bytes_eq (codes "workers") field ≡ false = grind (arith, common_steps) in
    sym (none_of_7_or_8 field (omega arith) balance workers
    (other_length (codes "transfer") field (λ e. omega (arith, e))))

pub returns-in_default-70 : goal.returns-in_default-70
returns-in_default-70 c =
    let field = c.args.field.now in
    let transfer : bytes_eq (codes "transfer") field ≡ false = grind (arith, common_steps) in
    sym (none_of_7_or_8 field (omega arith) (other_length (codes "balance") field (λ e. omega (arith, e)))
    (other_length (codes "workers") field (λ e. omega (arith, e))) transfer)

pub returns-in_default-71 : goal.returns-in_default-71
returns-in_default-71 c = sym (none_longer c.args.field.now (omega arith))
