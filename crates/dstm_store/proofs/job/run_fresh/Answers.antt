use Rattle.std.proofs.Common.{◌∙◌, List, subst, sym}
use Rattle.dstm_model.specs.declared.value.Val.{Val}
use Rattle.dstm_model.specs.declared.op.Op.{Op}
use Rattle.dstm_mem.specs.Memory.{with_set}
use Rattle.dstm_store.specs.Job.{DoesAll, IsForeign}
use Rattle.dstm_store.specs.Opens.{OnlyLooksAt, SetsIfOpened}
use Rattle.dstm_store.proofs.Bodies.{of-fresh}
use Rattle.dstm_store.proofs.job.run_fresh.Goals as goal

pub returns-clause-outside : goal.returns-clause-outside
returns-clause-outside g c o foreign =
    let layout = c.args.layout.now in
    let was = c.in_ok-replies.ensures.outside o
    (subst (λ (ops : List Op). IsForeign (record { layout = layout; ops = ops }) o) (sym c.as_slice.ensures.value) foreign) in
    (was.held ∙ c.requires.fresh.unread o, was.opened ∙ c.requires.fresh.unopened o)

pub returns-clause-right : goal.returns-clause-right
returns-clause-right g c map admitted =
    let layout = c.args.layout.now in
    let after = with_set map (g.M.Mem.written c.run_all.new.mem) in
    let replies = c.in_ok-replies.replies in
    subst (λ (ops : List Op). DoesAll (record { layout = layout; ops = ops }) map after replies)
    c.as_slice.ensures.value
    (of-fresh g.M.Mem c.args.mem.now map
    (λ (before : List Val). DoesAll (record { layout = layout; ops = c.as_slice.result.now }) before after replies)
    c.requires.fresh (c.in_ok-replies.ensures.does map admitted))

pub returns-clause-quiet : goal.returns-clause-quiet
returns-clause-quiet g c o looks =
    let layout = c.args.layout.now in
    let replies = c.in_ok-replies.replies in
    c.in_ok-replies.ensures.quiet o
    (subst (λ (ops : List Op). OnlyLooksAt (record { layout = layout; ops = ops }) replies o)
    (sym c.as_slice.ensures.value) looks)

pub returns-clause-marks : goal.returns-clause-marks
returns-clause-marks g c o sets =
    let layout = c.args.layout.now in
    let replies = c.in_ok-replies.replies in
    c.in_ok-replies.ensures.marks o
    (subst (λ (ops : List Op). SetsIfOpened (record { layout = layout; ops = ops }) replies o)
    (sym c.as_slice.ensures.value) sets)
