use Rattle.std.proofs.Common.{◌++◌, ◌∙◌, ◌∷◌, ◌≡◌, List, [], ap, length, refl}
use Rattle.dstm_model.specs.declared.reply.Reply.{Reply}
use Rattle.dstm_report.specs.declared.packed.Head.{Head}
use Rattle.dstm_report.specs.declared.report.Row.{Row}
use Rattle.dstm_report.specs.Packed.{RowsAs, unpacked}
use Rattle.dstm_report.proofs.Unpacking.{row_with, unpacked_push}
use Rattle.dstm_report.proofs.packed.PackedRows.push.Goals as goal

pub returns : goal.returns
returns c =
    let heads = c.self.inside.heads.items in
    let replies = c.self.inside.replies.items in
    let more = c.args.replies.now in
    let head : Head = record {
      line = c.args.line;
      round = c.args.round;
      number = c.args.number;
      from = c.len-from.result;
      worker = c.args.worker;
      count = length c.args.replies.now;
    } in
    let from : head.from ≡ length replies = c.len-from.ensures ∙ c.self.inside.replies.ok.0 in
    let items : unpacked c.append.new.all.items c.push_reserved.new.self.items
    ≡ unpacked replies heads ++ row_with head more ∷ [] =
    ap (λ (rs : List Reply). unpacked rs c.push_reserved.new.self.items) c.append.ensures.items
    ∙ ap (unpacked (replies ++ more)) c.push_reserved.ensures.items
    ∙ unpacked_push replies more heads head c.self.invariant.within from refl in
    ap (λ (rows : List Row). record { items = rows; room = c.self.inside.room }) items
    ∙ ap (λ (rows : RowsAs). record rows { items = rows.items ++ row_with head more ∷ [] }) c.self.view_is
