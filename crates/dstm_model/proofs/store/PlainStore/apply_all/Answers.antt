use Rattle.std.proofs.Common.{◌+◌, List, length, ap, sym, ◌∙◌}
use Rattle.std.proofs.lemmas.List.{length_push}
use Rattle.dstm_model.specs.declared.reply.Reply.{Reply}
use Rattle.dstm_model.proofs.Applying.{applied_more}
use Rattle.dstm_model.proofs.store.PlainStore.apply_all.Goals as goal

pub loop-op-preserved : goal.loop-op-preserved
loop-op-preserved c =
    let so_far = c.loop-op.invariant in
    let replies = c.loop-op.replies in
    let reply = c.in_ok-apply_in_branch.field-0 in
    let after = c.apply_in_branch.new.self in
    record {
      layout = c.in_ok-apply_in_branch.ensures.layout ∙ so_far.layout;
      count = ap length c.push.ensures ∙ length_push replies reply ∙ ap (λ n. n + 1) so_far.count;
      done = applied_more c.args.ops.now c.loop-op.op-index _ c.args.self.now c.loop-op.self after replies reply c.loop-op-test.true so_far.done c.in_ok-apply_in_branch.ensures.ok
          ∙ ap (λ (rs : List Reply). record { replies = rs; store = after }) (sym c.push.ensures);
    }
