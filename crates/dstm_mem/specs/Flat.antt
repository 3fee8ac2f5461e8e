-- What a memory of one thread has noted of each object.
use Rattle.std.specs.Prelude.{◌≡◌, ℕ, List, Option, IfSome, Bool, true, false, slice_index_or}
use Rattle.std.proofs.Common.{◌↔◌, refl, subst, sym}
use Rattle.std.specs.Bool.{then_some}
use Rattle.dstm_model.specs.declared.value.Val.{Val}
use Rattle.dstm_model.specs.Map.{value_at}
use Rattle.dstm_mem.specs.Memory.{AgreesWith}
use Rattle.dstm_mem.specs.declared.flat.Note.{Note}
use Rattle.dstm_mem.specs.declared.flat.TheConstants.{UNTOUCHED}

abbrev pub note_at : List Note → ℕ → Note
note_at notes o = slice_index_or notes o UNTOUCHED

-- the value of each object that was read
abbrev pub held_in : List Val → List Note → ℕ → Option Val
held_in values notes o = then_some (note_at notes o).is_read (value_at values o)

-- the value of each object that was set
abbrev pub written_in : List Note → ℕ → Option Val
written_in notes o = (note_at notes o).written

some_is : {T : Type 0} (b : Bool) (x : T) → IfSome (then_some b x) (λ y. x ≡ y)
some_is true x = refl
some_is false x = tt

pub held_in-agrees : (values : List Val) (notes : List Note) → AgreesWith values (held_in values notes)
held_in-agrees values notes o = some_is (note_at notes o).is_read (value_at values o)

-- the one map, and it has every value that is held
pub flat_admits : (values : List Val) (notes : List Note) (map : List Val) →
    (map ≡ values) ↔ ((map ≡ values) × AgreesWith map (held_in values notes))
flat_admits values notes map = (
  (λ same. (same, subst (λ m. AgreesWith m (held_in values notes)) (sym same) (held_in-agrees values notes))),
  (λ both. both.0),
)
