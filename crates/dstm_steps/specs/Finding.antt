-- What is found of an object.
use Rattle.std.specs.Prelude.{◌≡◌, ℕ, ◌<◌, ◌==◌, Bool, true, false, not, Option, None, Some, is_some}
use Rattle.dstm_core.specs.declared.state.Read.{Read}
use Rattle.dstm_core.specs.State.{LocalState, res, version, is_resolved}
use Rattle.dstm_steps.specs.declared.resolving.Found.{Found}

-- the attempt is as it was, but for what was found out of an object
abbrev pub KeepsAttempt : (old new : LocalState) → Type 0
KeepsAttempt old new = new ≡ record old { resolution = new.resolution; pass = new.pass; checked = new.checked }

-- it is so, and the object is the same, with the same word
pub record StaysAt (old new : LocalState) : Type 0 where
  pub attempt : KeepsAttempt old new
  pub object : (res new).object ≡ (res old).object
  pub word : (res new).word ≡ (res old).word

-- an object is resolved, and this was found: its word, the version that this stands for, and the value of that
pub record IsFound (state : LocalState) (found : Found) : Type 0 where
  pub there : is_some state.resolution ≡ true
  pub word : (res state).word ≡ found.word
  pub version_is : version (res state) ≡ Some found.version
  pub resolved : is_resolved (res state) ≡ true
  pub high_is : 0 < found.version → (res state).high ≡ Some found.high
  pub low_is : 0 < found.version → (res state).value ≡ Some found.low

-- the word of a recorded read
abbrev pub word_of : Option Read → Option ℕ
word_of None = None
word_of (Some read) = Some read.word

-- there is a recorded word, and it is another one
abbrev pub is_changed : Option ℕ → ℕ → Bool
is_changed None word = false
is_changed (Some read) word = not (read == word)
