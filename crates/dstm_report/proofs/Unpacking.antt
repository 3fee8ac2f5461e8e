-- Rows whose replies stand one behind another: what a row more leaves of the others.
use Rattle.std.proofs.Common.{◌+◌, ◌-◌, ◌++◌, ◌<◌, ◌∙◌, ◌∷◌, ◌≡◌, ℕ, List, [], ap, arith, drop, get_or, length, take}
use Prim.Native.Nat.{suc}
use Rattle.std.specs.Prelude.{All, slice_range}
use Rattle.std.proofs.Math.Seq.{drop-append_seam}
use Rattle.std.proofs.lemmas.List.{drop-append-le, length-drop, map-append, take-append-le, take_all, take_more}
use Rattle.dstm_model.specs.declared.reply.Reply.{Reply}
use Rattle.dstm_report.specs.declared.packed.Head.{Head}
use Rattle.dstm_report.specs.declared.report.Row.{Row}
use Rattle.dstm_report.specs.Packed.{IsWithin, unpacked, unpacked_by}

-- the row of a head with these replies
abbrev pub row_with : Head → List Reply → Row
row_with head replies =
    record { line = head.line; worker = head.worker; round = head.round; number = head.number; replies = replies }

module _ (replies more : List Reply) where
  -- what stood there stands there still
  unpacked_still : {head : Head} → IsWithin (length replies) head →
      unpacked_by (replies ++ more) head ≡ unpacked_by replies head
  unpacked_still {head = head} within =
      let below = within.below in
      let size = length-drop head.from replies in
      let count = head.from + head.count - head.from in
      ap (row_with head)
      (ap (take count) (drop-append-le head.from replies more (omega (arith, below)))
      ∙ take-append-le count (drop head.from replies) more (omega (arith, below, size)))

  -- the last row's replies are those behind the others
  unpacked_last : (head : Head) → head.from ≡ length replies → head.count ≡ length more →
      unpacked_by (replies ++ more) head ≡ row_with head more
  unpacked_last head from count =
      ap (row_with head)
      (ap (λ k. take (k + head.count - k) (drop k (replies ++ more))) from
      ∙ ap (take (length replies + head.count - length replies)) (drop-append_seam replies more)
      ∙ take_all (length replies + head.count - length replies) more (omega (arith, count)))

  -- a row more
  pub unpacked_push : (heads : List Head) (head : Head) → All (IsWithin (length replies)) heads →
      head.from ≡ length replies → head.count ≡ length more → unpacked (replies ++ more) (heads ++ head ∷ [])
      ≡ unpacked replies heads ++ row_with head more ∷ []
  unpacked_push [] head within from count = ap (λ (row : Row). row ∷ []) (unpacked_last head from count)
  unpacked_push (h ∷ heads) head within from count =
      ap (λ (row : Row). row ∷ unpacked (replies ++ more) (heads ++ head ∷ [])) (unpacked_still (within 0 h (omega arith)))
      ∙ ap (λ (rows : List Row). unpacked_by replies h ∷ rows)
      (unpacked_push heads head (λ k d lt. within (suc k) d (omega arith)) from count)

-- the rows of the first heads, and the next one
pub unpacked_more : (replies : List Reply) (heads : List Head) (i : ℕ) (d : Head) → i < length heads →
    unpacked replies (take (i + 1) heads) ≡ unpacked replies (take i heads) ++ unpacked_by replies (get_or heads i d) ∷ []
unpacked_more replies heads i d within =
    ap (unpacked replies) (take_more heads i d within) ∙ map-append (unpacked_by replies) (take i heads) (get_or heads i d ∷ [])

-- the row that stands at a place, where the same heads and replies were seen
pub row_there : {replies all rs : List Reply} {heads seen : List Head} (i : ℕ) (d : Head) → seen ≡ heads → all ≡ replies →
    rs ≡ slice_range all (get_or seen i d).from ((get_or seen i d).from + (get_or seen i d).count) →
    row_with (get_or seen i d) rs ≡ unpacked_by replies (get_or heads i d)
row_there {replies = replies} {all = all} {seen = seen} i d same_heads same_replies told =
    ap (row_with (get_or seen i d)) told ∙ ap (λ (rs : List Reply). unpacked_by rs (get_or seen i d)) same_replies
    ∙ ap (λ (hs : List Head). unpacked_by replies (get_or hs i d)) same_heads
