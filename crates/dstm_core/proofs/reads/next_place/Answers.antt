use Rattle.std.proofs.Common.{◌∙◌, ap, sym, slice_get}
use Rattle.dstm_core.proofs.Indices.{next_is, next_counts, first_given}
use Rattle.dstm_core.proofs.reads.next_place.Goals as goal

pub returns-clause-place : goal.returns-clause-place
returns-clause-place c =
    c.copied.ensures
    ∙ first_given _ _ _ c.next.ensures.steps
    ∙ ap (λ ks. slice_get ks 0) (c.range.ensures.between tt)
    ∙ sym (next_is c.args.cursor c.args.live.now.keys c.range.ensures.ordered)

pub returns-clause-count : goal.returns-clause-count
returns-clause-count c =
    next_counts c.args.cursor c.args.live.now.keys c.range.ensures.ordered (c.copied.ensures
    ∙ first_given _ _ _ c.next.ensures.steps
    ∙ ap (λ ks. slice_get ks 0) (c.range.ensures.between tt)
    ∙ sym (next_is c.args.cursor c.args.live.now.keys c.range.ensures.ordered))
