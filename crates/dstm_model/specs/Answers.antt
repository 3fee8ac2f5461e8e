-- Committed attempts of several callers, whatever machine they run on.
--
-- Committed attempts have the newest first. Histories have the oldest entry first.
use Rattle.std.specs.Prelude.{◌≡◌, ℕ, ◌<◌, ◌==◌, List, [], ◌∷◌, ◌++◌, filter, length}
use Rattle.dstm_model.specs.declared.value.Val.{Val}
use Rattle.dstm_model.specs.Map.{Agrees, Entry, state_after}

-- a committed attempt: its caller, the number that its Draw found, and its entry
pub record Committed : Type 0 where
  pub caller : ℕ
  pub number : ℕ
  pub entry : Entry

-- those of one caller
abbrev pub by_caller : ℕ → List Committed → List Committed
by_caller c attempts = filter (λ (attempt : Committed). attempt.caller == c) attempts

-- each number is below n
abbrev pub AreBelow : ℕ → List Committed → Type 0
AreBelow n [] = Unit {0}
AreBelow n (attempt ∷ attempts) = (attempt.number < n) × AreBelow n attempts

-- each number is greater than those of the attempts that stand after it in the list
abbrev pub NumbersFall : List Committed → Type 0
NumbersFall [] = Unit {0}
NumbersFall (attempt ∷ attempts) = AreBelow attempt.number attempts × NumbersFall attempts

-- attempts in the order of their numbers are told by what each caller's are
abbrev pub CallersTellAll : Type 0
CallersTellAll =
    (one other : List Committed) → NumbersFall one → NumbersFall other →
    ((c : ℕ) → by_caller c one ≡ by_caller c other) → one ≡ other

-- an attempt stands among some, with these after it and these before it
pub record Stands (attempt : Committed) (attempts : List Committed) : Type 0 where
  pub newer : List Committed
  pub older : List Committed
  pub is : attempts ≡ newer ++ attempt ∷ older

-- An entry stands in a history over n objects: it has read what those before it leave, and this is lawful.
pub record StandsIn (n : ℕ) (start : List Val) (holds : List Val → Type 0) (history : List Entry)
    (entry : Entry) :
    Type 0 where
  pub before : List Entry
  pub after : List Entry
  pub is : history ≡ before ++ entry ∷ after
  pub objects : length (state_after start before) ≡ n
  pub reads : Agrees (state_after start before) entry.reads
  pub lawful : holds start → holds (state_after start before)
