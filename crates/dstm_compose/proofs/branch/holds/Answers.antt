use Rattle.std.proofs.Common.{sym, ◌∙◌, ap, subst}
use Rattle.dstm_model.specs.Store.{apply}
use Rattle.dstm_model.specs.declared.op.Op.{Op}
use Rattle.dstm_mem.specs.Operates.{IsLook}
use Rattle.dstm_compose.specs.Compose.{shows}
use Rattle.dstm_compose.proofs.Branches.{shows-look, look_looks}
use Rattle.dstm_compose.proofs.branch.holds.Goals as goal

pub returns-clause-tells : goal.returns-clause-tells
returns-clause-tells g c map admitted store stands =
    let done = (c.in_ok-reply.ensures.applies.does map admitted store stands).0 in
    c.shows.ensures
    ∙ ap (shows c.args.cond) (done ∙ ap (λ (op : Op). (apply op store).reply) c.look_of-op.ensures)
    ∙ shows-look c.args.cond store

pub returns-clause-looks : goal.returns-clause-looks
returns-clause-looks g c =
    c.in_ok-reply.ensures.applies.quiet
    (subst (λ (op : Op). IsLook op c.in_ok-reply.reply) (sym c.look_of-op.ensures)
    (look_looks c.args.cond c.in_ok-reply.reply))
