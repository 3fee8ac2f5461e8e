-- The maps that an attempt may start at.
use Rattle.std.specs.Prelude.{◌≡◌, ◌*◌}
use Rattle.dstm_tl2_steps.specs.declared.places.Places.TheInside.{Inside}

-- it has reckoned where the parts of a table of so many objects begin
pub record KnowsParts (p : Inside) : Type 0 where
  pub highs : p.highs ≡ 2 * p.objects
  pub callers : p.callers ≡ 3 * p.objects
