-- What a worker has done, and how it is kept.
use Rattle.std.specs.Prelude.{ℕ, ◌+◌, ◌*◌, ◌≤◌, List, length, map, All, slice_range, vec_capacity}
use Rattle.dstm_model.specs.declared.reply.Reply.{Reply}
use Rattle.dstm_jobs.specs.declared.trying.Finished.{Finished}
use Rattle.dstm_crew.specs.declared.done.Done.TheInside.{Inside}
use Rattle.dstm_crew.specs.declared.done.Mark.{Mark}

pub record DoneAs : Type 0 where
  pub items : List Finished  -- what was done, in order
  pub lines : List ℕ  -- where each job that was done stands
  pub room : ℕ  -- for how many jobs there is room

-- what the marks tell
abbrev pub told_by : List Reply → Mark → Finished
told_by replies mark = record { number = mark.number; replies = slice_range replies mark.from mark.to }

abbrev pub told : List Reply → List Mark → List Finished
told replies marks = map (told_by replies) marks

abbrev pub lines_of : List Mark → List ℕ
lines_of marks = map (λ mark. mark.line) marks

-- at most 8 replies, among the first so many
pub record IsWithin (all : ℕ) (mark : Mark) : Type 0 where
  pub in_order : mark.from ≤ mark.to
  pub few : mark.to ≤ mark.from + 8
  pub below : mark.to ≤ all

pub record IsKept (done : Inside) : Type 0 where
  pub within : All (IsWithin (length done.replies.items)) done.marks.items
  pub few : length done.replies.items ≤ 8 * length done.marks.items
  pub room : 8 * vec_capacity done.marks ≤ vec_capacity done.replies
