-- The words of a table: the name of each, its place, and which words a shape has.
use Rattle.std.specs.Prelude.{◌≡◌, ℕ, ◌+◌, ◌*◌, ◌<◌, ◌≤◌}
use Rattle.dstm_core.specs.declared.shape.Shape.{Shape}
use Rattle.dstm_core.specs.declared.status.Status.{Status}
use Rattle.dstm_core.specs.declared.status.Status.TheVariants as status

pub data Word : Type 0 where
  ObjectWord : (o : ℕ) → Word  -- 0, or the locator of object o, plus 1
  StatusWord : (a : ℕ) → Word  -- the code of the status of attempt a
  RankWord : (a : ℕ) → Word  -- the priority or the stamp of attempt a
  OwnerWord : (l : ℕ) → Word  -- the attempt that owns locator l
  OldWord : (l : ℕ) → Word  -- the old version of locator l
  LowWord : (l : ℕ) → Word  -- the low part of the new version of locator l
  HighWord : (l : ℕ) → Word  -- the high part of the new version of locator l
  CallersWord : Word  -- how many callers have enrolled
  NumbersWord : Word  -- how many numbers were drawn
  StampsWord : Word  -- how many stamps were drawn

-- the shape has this word
abbrev pub HasWord : Shape → Word → Type 0
HasWord shape (ObjectWord o) = o < shape.objects
HasWord shape (StatusWord a) = a < shape.callers * shape.attempts
HasWord shape (RankWord a) = a < shape.callers * shape.attempts
HasWord shape (OwnerWord l) = l < shape.callers * shape.locators
HasWord shape (OldWord l) = l < shape.callers * shape.locators
HasWord shape (LowWord l) = l < shape.callers * shape.locators
HasWord shape (HighWord l) = l < shape.callers * shape.locators
HasWord shape CallersWord = Unit {0}
HasWord shape NumbersWord = Unit {0}
HasWord shape StampsWord = Unit {0}

-- the place of a word
abbrev pub place : Shape → Word → ℕ
place shape (ObjectWord o) = o
place shape (StatusWord a) = shape.objects + a
place shape (RankWord a) = shape.objects + shape.callers * shape.attempts + a
place shape (OwnerWord l) = shape.objects + 2 * shape.callers * shape.attempts + l
place shape (OldWord l) =
    shape.objects + 2 * shape.callers * shape.attempts + shape.callers * shape.locators + l
place shape (LowWord l) =
    shape.objects + 2 * shape.callers * shape.attempts + 2 * shape.callers * shape.locators + l
place shape (HighWord l) =
    shape.objects + 2 * shape.callers * shape.attempts + 3 * shape.callers * shape.locators + l
place shape CallersWord =
    shape.objects + 2 * shape.callers * shape.attempts + 4 * shape.callers * shape.locators
place shape NumbersWord =
    shape.objects + 2 * shape.callers * shape.attempts + 4 * shape.callers * shape.locators + 1
place shape StampsWord =
    shape.objects + 2 * shape.callers * shape.attempts + 4 * shape.callers * shape.locators + 2

-- a place is that of the word, and the shape has the word
abbrev pub IsPlaceOf : Shape → Word → ℕ → Type 0
IsPlaceOf shape word at = (at ≡ place shape word) × HasWord shape word

-- how many words a table has
abbrev pub word_count : Shape → ℕ
word_count shape = shape.objects + shape.callers * (2 * shape.attempts + 4 * shape.locators) + 3

-- each number of a shape is in its range, and there are not too many words
pub record IsValid (shape : Shape) : Type 0 where
  pub objects : shape.objects ≤ 1048576
  pub some_caller : 1 ≤ shape.callers
  pub callers : shape.callers ≤ 64
  pub some_attempt : 1 ≤ shape.attempts
  pub attempts : shape.attempts ≤ 65536
  pub some_locators : shape.objects ≤ shape.locators
  pub locators : shape.locators ≤ 2097152
  pub words : word_count shape ≤ 268435456

-- the number by which a status word names a status
abbrev pub code_of : Status → ℕ
code_of status.Idle = 0
code_of status.Active = 1
code_of status.Waiting = 2
code_of status.Validating = 3
code_of status.Committed = 4
code_of status.Aborted = 5
