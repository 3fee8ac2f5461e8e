use Rattle.std.proofs.Common.{◌≡◌, Bool, true, false, List, ℕ, Option, Some, codes, refl, rules}
use Rattle.clap.specs.Values.{bool_text}
use Rattle.dstm_command.proofs.options.options_matched.Goals as goal

-- the flag that is read is the one that was found
flag_is : (b r : Bool) (one : Option (List ℕ)) → one ≡ Some (bool_text b) → (one ≡ Some (codes "true") → r ≡ true) →
    (one ≡ Some (codes "false") → r ≡ false) → r ≡ b
flag_is true r one is set unset = set is
flag_is false r one is set unset = unset is

pub returns : goal.returns
returns c = λ given holds.
    let engine = holds.value (codes "engine") refl in
    let manager = holds.value (codes "manager") refl in
    let seed = holds.value (codes "seed") refl in
    let all_write = flag_is _ _ _ (holds.flags (codes "all-write") refl) c.get_flag-all_write.ensures.value c.get_flag-all_write.ensures.other in
    let release = flag_is _ _ _ (holds.flags (codes "release") refl) c.get_flag-release.ensures.value c.get_flag-release.ensures.other in
    search rules
