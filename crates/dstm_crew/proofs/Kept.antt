-- What a worker has done, with its replies one behind another.
use Rattle.std.proofs.Common.{◌+◌, ◌-◌, ◌++◌, ◌≤◌, ◌∙◌, ◌∷◌, ◌≡◌, List, [], ap, arith, drop, length, take}
use Prim.Native.Nat.{suc}
use Rattle.std.specs.Prelude.{All}
use Rattle.std.proofs.Math.Seq.{drop-append_seam}
use Rattle.std.proofs.lemmas.List.{drop-append-le, length-drop, take-append-le, take_all}
use Rattle.dstm_model.specs.declared.reply.Reply.{Reply}
use Rattle.dstm_jobs.specs.declared.trying.Finished.{Finished}
use Rattle.dstm_crew.specs.declared.done.Mark.{Mark}
use Rattle.dstm_crew.specs.Done.{IsWithin, told, told_by}

module _ (replies more : List Reply) where
  -- what stood there stands there still
  told_still : {mark : Mark} → IsWithin (length replies) mark → told_by (replies ++ more) mark ≡ told_by replies mark
  told_still {mark = mark} within =
      let size = length-drop mark.from replies in
      let short : mark.to - mark.from ≤ length (drop mark.from replies) =
      let order = within.in_order in let below = within.below in omega arith in
      ap (λ (rs : List Reply). record { number = mark.number; replies = rs })
      (ap (take (mark.to - mark.from)) (drop-append-le mark.from replies more (let order = within.in_order in let below = within.below in omega arith))
      ∙ take-append-le (mark.to - mark.from) (drop mark.from replies) more short)

  -- the last job's replies are those behind the others
  told_last : (mark : Mark) → mark.from ≡ length replies → mark.to ≡ length replies + length more →
      told_by (replies ++ more) mark ≡ record { number = mark.number; replies = more }
  told_last mark from to =
      ap (λ (rs : List Reply). record { number = mark.number; replies = rs })
      (ap (λ k. take (mark.to - k) (drop k (replies ++ more))) from
      ∙ ap (take (mark.to - length replies)) (drop-append_seam replies more)
      ∙ take_all (mark.to - length replies) more (omega arith))

  -- a job more
  pub told_push : (marks : List Mark) (mark : Mark) → All (IsWithin (length replies)) marks →
      mark.from ≡ length replies → mark.to ≡ length replies + length more → told (replies ++ more) (marks ++ mark ∷ [])
      ≡ told replies marks ++ record { number = mark.number; replies = more } ∷ []
  told_push [] mark within from to = ap (λ (f : Finished). f ∷ []) (told_last mark from to)
  told_push (m ∷ marks) mark within from to =
      ap (λ (f : Finished). f ∷ told (replies ++ more) (marks ++ mark ∷ [])) (told_still (within 0 m (omega arith)))
      ∙ ap (λ (fs : List Finished). told_by replies m ∷ fs)
      (told_push marks mark (λ k d lt. within (suc k) d (omega arith)) from to)
