-- What the calls on a region do to the items that its objects hold.
use Rattle.std.specs.Prelude.{◌≡◌, ℕ, ◌<◌, ◌==◌, Bool, if◌then◌else◌, List, length, is_some}
use Rattle.dstm_model.specs.declared.value.Val.{Val}
use Rattle.dstm_model.specs.declared.reply.Reply.{Reply}
use Rattle.dstm_model.specs.declared.reply.Reply.TheVariants.{Yes, No, Full}
use Rattle.dstm_model.specs.Store.{value_of, with_item, without_item, yes_or_no}
use Rattle.dstm_region.specs.declared.region.Region.{Region}
use Rattle.dstm_tree.specs.Objects.{HasItems}

-- a reply, and the items that a call leaves
pub record Placing : Type 0 where
  pub reply : Reply
  pub items : List (ℕ × ℕ)

-- A key with a value is placed among the items, of which there are at most n. The value of a key that is there is
-- replaced only if it is to be.
abbrev pub placing : Bool → ℕ → ℕ → ℕ → List (ℕ × ℕ) → Placing
placing replaces n key value items =
    if is_some (value_of key items)
    then record { reply = No; items = if replaces then with_item key value items else items }
    else if length items == n then record { reply = Full; items = items }
    else record { reply = Yes; items = with_item key value items }

-- whatever items the map before holds, whose keys are below a limit as this one is, the reply is that of placing the
-- key, and the map after holds the items after
abbrev pub Puts : Region → Bool → ℕ → ℕ → Reply → List Val → List Val → Type 0
Puts region replaces key value reply before after =
    (limit : ℕ) (items : List (ℕ × ℕ)) → key < limit → HasItems limit region before items →
    (reply ≡ (placing replaces region.nodes key value items).reply)
    × HasItems limit region after (placing replaces region.nodes key value items).items

-- the key was taken out, if it was there
abbrev pub TakesOut : Region → ℕ → Reply → List Val → List Val → Type 0
TakesOut region key reply before after =
    (limit : ℕ) (items : List (ℕ × ℕ)) → HasItems limit region before items →
    (reply ≡ yes_or_no (is_some (value_of key items))) × HasItems limit region after (without_item key items)
