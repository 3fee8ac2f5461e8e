use Rattle.std.proofs.Common.{◌+◌, ◌++◌, ◌∙◌, ◌∷◌, ◌≡◌, List, [], ap, length, length-append, ℕ}
use Rattle.std.specs.Prelude.{vec_capacity}
use Rattle.std.proofs.lemmas.List.{map-append}
use Rattle.dstm_model.specs.declared.reply.Reply.{Reply}
use Rattle.dstm_jobs.specs.declared.trying.Finished.{Finished}
use Rattle.dstm_crew.specs.declared.done.Mark.{Mark}
use Rattle.dstm_crew.specs.Done.{DoneAs, lines_of, told}
use Rattle.dstm_crew.proofs.Kept.{told_push}
use Rattle.dstm_crew.proofs.done.Done.push.Goals as goal

pub returns : goal.returns
returns c =
    let marks = c.self.inside.marks.items in
    let replies = c.self.inside.replies.items in
    let finished = c.args.finished.now in
    let more = finished.replies in
    let mark : Mark = record { number = finished.number; line = c.args.line; from = c.len-from.result; to = c.len.result } in
    let all : c.append.new.all.items ≡ replies ++ more =
    c.append.ensures.items ∙ ap (λ (rs : List Reply). replies ++ rs) c.as_slice.ensures.value in
    let from : mark.from ≡ length replies = c.len-from.ensures ∙ c.self.inside.replies.ok.0 in
    let to : mark.to ≡ length replies + length more =
    c.len.ensures ∙ c.append.new.all.ok.0 ∙ ap length all ∙ length-append replies more in
    let items : told c.append.new.all.items c.push_reserved.new.self.items ≡ told replies marks ++ finished ∷ [] =
    ap (λ (rs : List Reply). told rs c.push_reserved.new.self.items) all
    ∙ ap (told (replies ++ more)) c.push_reserved.ensures.items
    ∙ told_push replies more marks mark c.self.invariant.within from to in
    let lines : lines_of c.push_reserved.new.self.items ≡ lines_of marks ++ c.args.line ∷ [] =
    ap lines_of c.push_reserved.ensures.items ∙ map-append (λ (m : Mark). m.line) marks (mark ∷ []) in
    ap (λ (fs : List Finished). record {
      items = fs;
      lines = lines_of c.push_reserved.new.self.items;
      room = vec_capacity c.push_reserved.new.self;
    }) items
    ∙ ap (λ (ls : List ℕ). record {
      items = told replies marks ++ finished ∷ [];
      lines = ls;
      room = vec_capacity c.push_reserved.new.self;
    }) lines
    ∙ ap (λ (n : ℕ). record {
      items = told replies marks ++ finished ∷ [];
      lines = lines_of marks ++ c.args.line ∷ [];
      room = n;
    }) c.push_reserved.ensures.capacity
    ∙ ap (λ (done : DoneAs). record done {
      items = done.items ++ finished ∷ [];
      lines = done.lines ++ c.args.line ∷ [];
    }) c.self.view_is
