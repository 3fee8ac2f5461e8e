-- Private: a conflict with the live owner of an object.
use Rattle.std.specs.Prelude.{◌≡◌, ℕ, ◌+◌, ◌-◌, ◌*◌, ◌<◌, ◌≤◌, ◌==◌, ◌&&◌, ◌||◌, Bool, false, not, is_none, Some, None, List, if◌then◌else◌}
use Rattle.dstm_core.specs.declared.state.Phase.{Phase}
use Rattle.dstm_core.specs.declared.state.Phase.TheVariants.{Running}
use Rattle.dstm_core.specs.State.{LocalState, is_live, res}
use Rattle.dstm_model.specs.declared.value.Val.{Val}
use Rattle.dstm_words.specs.Seats.{Home}
use Rattle.dstm_order.specs.Efforts.{most_missed}
use Rattle.dstm_order.specs.Order.{has_ranks}
use Rattle.dstm_steps.specs.declared.steps.Steps.{Steps}
use Rattle.dstm_steps.specs.Finding.{StaysAt}
use Rattle.dstm_steps.specs.Under.{Began, IsRunning, Resolving, now}

-- an enemy that was found with this code is given way to no more
abbrev pub lets_go : ℕ → Bool
lets_go code = not (is_live code) || code == 2

-- how long a conflict can go on, where its owner was found with this code: by the exchanges that may fail and the
-- rounds that are left
abbrev pub patience_left : (missed round code : ℕ) → ℕ
patience_left missed round code =
    if is_live code then 4 * (64 - missed) + 2 * (1024 - round) + (if code == 2 then 1 else 2) else 0

-- the attempt is as it was, but for what was found out of the same object, with the same word, and the same rank of its
-- owner
pub record Keeps (old new : LocalState) : Type 0 where
  pub stays : StaysAt old new
  pub rank : (res new).rank ≡ (res old).rank

module _ {L : Type 0} where
  -- the rounds of a conflict, with the one whose turns are left
  abbrev pub rounds_of : Steps L → ℕ
  rounds_of steps = if steps.left == 0 then steps.round else steps.round + 1

  -- The attempt, which is in this phase, resolves an object whose word names a locator of this owner. The owner's
  -- status was found last to have this code, and its rank is known where there are ranks.
  pub record Meets (holds : L → List Val → Type 0) (home : Home L) (began : Began) (phase : Phase) (steps : Steps L)
      (owner code : ℕ) : Type 0 where
    pub under : Resolving holds home began steps
    pub in_phase : (now home steps).phase ≡ phase
    pub agreed : (now home steps).stale ≡ false
    pub uncommitted : (now home steps).committed ≡ false
    pub word : 0 < (res (now home steps)).word
    pub owner_is : (res (now home steps)).owner ≡ Some owner
    pub status : (res (now home steps)).status ≡ Some code
    pub rank : (has_ranks home.terms.shape.manager && is_none (res (now home steps)).rank) ≡ false
    pub old : (res (now home steps)).old ≡ None
    pub high : (res (now home steps)).high ≡ None
    pub value : (res (now home steps)).value ≡ None
    pub named : (0 < code) × (code ≤ 5)
    pub rounds : steps.round ≤ 1024
    pub waiting : phase ≡ Running → 0 < steps.left → steps.round < 1024
    pub tries : steps.missed < most_missed

  -- The attempt has begun to resolve an object, whose word is not 0; nothing more was found.
  pub record Starts (holds : L → List Val → Type 0) (home : Home L) (began : Began) (steps : Steps L) (word : ℕ) :
      Type 0 where
    pub under : Resolving holds home began steps
    pub running : IsRunning (now home steps)
    pub word_is : (res (now home steps)).word ≡ word
    pub some : 0 < word
    pub owner : (res (now home steps)).owner ≡ None
    pub status : (res (now home steps)).status ≡ None
    pub rank : (res (now home steps)).rank ≡ None
    pub old : (res (now home steps)).old ≡ None
    pub high : (res (now home steps)).high ≡ None
    pub value : (res (now home steps)).value ≡ None
    pub left : steps.left ≡ 0
    pub round : steps.round ≡ 0
    pub tries : steps.missed < most_missed

  -- It has found the owner of the locator that the word names, and that owner's status.
  pub record Encounters (holds : L → List Val → Type 0) (home : Home L) (began : Began) (steps : Steps L)
      (word owner code : ℕ) : Type 0 where
    pub under : Resolving holds home began steps
    pub running : IsRunning (now home steps)
    pub word_is : (res (now home steps)).word ≡ word
    pub some : 0 < word
    pub owner_is : (res (now home steps)).owner ≡ Some owner
    pub status : (res (now home steps)).status ≡ Some code
    pub rank : (res (now home steps)).rank ≡ None
    pub old : (res (now home steps)).old ≡ None
    pub high : (res (now home steps)).high ≡ None
    pub value : (res (now home steps)).value ≡ None
    pub named : (0 < code) × (code ≤ 5)
    pub left : steps.left ≡ 0
    pub round : steps.round ≡ 0
    pub tries : steps.missed < most_missed
