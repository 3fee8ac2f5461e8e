use Rattle.std.proofs.Common.{◌-◌, List, ℕ, ◌∷◌, length, ap, sym, ◌∙◌, arith}
use Rattle.std.proofs.lemmas.List.{length_push}
use Rattle.dstm_model.specs.declared.reply.Reply.{Reply}
use Rattle.dstm_report.specs.Parser.{further_replies}
use Rattle.dstm_report.proofs.Onto.{onto, further_more}
use Rattle.dstm_report.proofs.reading.fill_replies.Goals as goal

pub loop-mark-preserved : goal.loop-mark-preserved
loop-mark-preserved c =
    let version = c.args.version in
    let done = c.loop-mark.replies in
    let reply = c.in_ok-reply-2.reply in
    let mark = c.in-Some.mark.now in
    let word = c.in_ok-next-2.field-0.now in
    let left = c.next-in-Some.new.self in
    let words = c.in-Some.ensures.some ∙ ap (λ (ws : List (List ℕ)). mark ∷ ws) c.in_ok-next-2.ensures.some in
    let count = ap length c.as_slice.ensures.value in
    record {
      read = ap (λ (d : List Reply). onto d (further_replies version (8 - length d) left)) c.push-in-Some.ensures
          ∙ further_more version done mark word left reply (omega (arith, count))
          (sym c.further_reply.ensures ∙ c.in_ok-reply-2.was)
          ∙ ap (λ (ws : List (List ℕ)). onto done (further_replies version (8 - length done) ws)) (sym words)
          ∙ c.loop-mark.invariant.read;
      few = omega (arith, count, length_push done reply, ap length c.push-in-Some.ensures);
    }
