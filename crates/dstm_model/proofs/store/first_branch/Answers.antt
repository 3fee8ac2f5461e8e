use Rattle.std.proofs.Common.{ap, ◌∙◌, sym, ◌∷◌, ◌+◌, length, take, List, arith}
use Rattle.std.proofs.lemmas.List.{take_rest, take_all}
use Rattle.dstm_model.specs.declared.op.Op.{Op}
use Rattle.dstm_model.specs.Job.{branches_of}
use Rattle.dstm_model.proofs.Branches.{branches_at, branches_none}
use Rattle.dstm_model.proofs.store.first_branch.Goals as goal

pub returns-in-Some-clause-branches : goal.returns-in-Some-clause-branches
returns-in-Some-clause-branches c =
    let ops = c.args.ops.now in
    let at = c.in-Some.at in
    branches_at ops at (sym c.in-Some.ensures)
    ∙ ap (λ (rest : List Op). take at ops ∷ branches_of rest) (sym (take_rest ops (at + 1)))

pub returns-in-None-clause-branches : goal.returns-in-None-clause-branches
returns-in-None-clause-branches c = branches_none c.args.ops.now (sym c.in-None.ensures)

pub returns-in-None-clause-first : goal.returns-in-None-clause-first
returns-in-None-clause-first c = let ops = c.args.ops.now in (length ops, sym (take_all (length ops) ops (omega arith)))
