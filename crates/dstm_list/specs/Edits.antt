-- What the calls on a region do to the keys that its objects hold.
use Rattle.std.specs.Prelude.{◌≡◌, ℕ, ◌==◌, if◌then◌else◌, List, length, Result}
use Rattle.dstm_model.specs.declared.value.Val.{Val}
use Rattle.dstm_model.specs.declared.reply.Reply.{Reply}
use Rattle.dstm_model.specs.declared.reply.Reply.TheVariants.{Yes, No, Full}
use Rattle.dstm_model.specs.Store.{has_key, with_key, without_key, yes_or_no}
use Rattle.dstm_mem.specs.declared.memory.Mem.{Ghosts}
use Rattle.dstm_mem.specs.Operates.{Operates}
use Rattle.dstm_region.specs.declared.region.Region.{Region}
use Rattle.dstm_region.specs.Region.{IsInside}
use Rattle.dstm_list.specs.List.{HasKeys}

-- a call on a list, which touches its region alone, and sets whatever it newly opens for writing
abbrev pub Calls : {S E A : Type 0} → Ghosts S E → Region → (A → Type 0) → (A → List Val → List Val → Type 0) →
    S → S → Result A E → Type 0
Calls M region IsQuiet Does old new result =
    Operates M (IsInside region) IsQuiet (λ a. Unit {0}) Does old new result

-- a reply, and the keys that a call leaves
pub record Adding : Type 0 where
  pub reply : Reply
  pub keys : List ℕ

-- a key is added to keys, of which there are at most n
abbrev pub adding : ℕ → ℕ → List ℕ → Adding
adding n key keys =
    if has_key key keys then record { reply = No; keys = keys }
    else if length keys == n then record { reply = Full; keys = keys }
    else record { reply = Yes; keys = with_key key keys }

-- whatever keys the map before holds, the reply is that of adding the key, and the map after holds the keys after
abbrev pub Adds : Region → ℕ → Reply → List Val → List Val → Type 0
Adds region key reply before after =
    (keys : List ℕ) → HasKeys region before keys →
    (reply ≡ (adding region.nodes key keys).reply) × HasKeys region after (adding region.nodes key keys).keys

-- the key was taken out, if it was there
abbrev pub TakesOut : Region → ℕ → Reply → List Val → List Val → Type 0
TakesOut region key reply before after =
    (keys : List ℕ) → HasKeys region before keys →
    (reply ≡ yes_or_no (has_key key keys)) × HasKeys region after (without_key key keys)

-- it was told whether the key is there
abbrev pub Tells : Region → ℕ → Reply → List Val → List Val → Type 0
Tells region key reply before after =
    (keys : List ℕ) → HasKeys region before keys → (reply ≡ yes_or_no (has_key key keys)) × HasKeys region after keys
