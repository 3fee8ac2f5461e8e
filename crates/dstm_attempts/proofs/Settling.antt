-- What an attempt that took effect has settled, by either engine.
use Rattle.std.proofs.Common.{ℕ, List, sym}
use base.Fml.{GName}
use Rattle.dstm_model.specs.declared.value.Val.{Val}
use Rattle.dstm_tables.specs.declared.tables.Caller.{Caller}
use Rattle.dstm_tables.specs.declared.tables.Caller.TheVariants.{Dstm, Tl2}
use Rattle.dstm_attempts.specs.Attempts.{AddsNothing, Begins, BeginsAnew, Keeps, MayBegin, Settles, TakesEffect, TakesUnder, seen}
use Rattle.dstm_attempts.proofs.ByDstm as by_dstm
use Rattle.dstm_attempts.proofs.ByTl2 as by_tl2
use Rattle.dstm_attempts.proofs.UnderWay.{apart, other_engine}

module _ {L : Type 0} (holds : L → List Val → Type 0) (name : GName) (is_right : List Val → List Val → Type 0) where
  by_engine : (k before began ended n : Caller L) (number : ℕ) → AddsNothing k before → BeginsAnew holds before began →
      Keeps began ended → TakesUnder holds ended n number →
      ((map : List Val) → MayBegin holds ended map → is_right map (seen ended map)) → Settles holds is_right k n number
  by_engine (Dstm k) (Dstm before) (Dstm began) (Dstm ended) (Dstm n) number same begins keeps takes right =
      by_dstm.settles_right holds name k before began ended n number same begins keeps takes is_right right
  by_engine (Tl2 k) (Tl2 before) (Tl2 began) (Tl2 ended) (Tl2 n) number same begins keeps takes right =
      by_tl2.settles_right holds name k before began ended n number same begins keeps takes is_right right
  by_engine (Dstm k) (Tl2 before) began ended n number same begins keeps takes right =
      absurd (apart k.home before.home (sym same.home))
  by_engine (Tl2 k) (Dstm before) began ended n number same begins keeps takes right =
      absurd (apart before.home k.home same.home)
  by_engine k (Dstm before) (Tl2 began) ended n number same begins keeps takes right = absurd begins
  by_engine k (Tl2 before) (Dstm began) ended n number same begins keeps takes right = absurd begins
  by_engine k before (Dstm began) (Tl2 ended) n number same begins keeps takes right =
      absurd (other_engine began ended (sym keeps))
  by_engine k before (Tl2 began) (Dstm ended) n number same begins keeps takes right =
      absurd (other_engine ended began keeps)
  by_engine k before began (Dstm ended) (Tl2 n) number same begins keeps takes right = absurd takes
  by_engine k before began (Tl2 ended) (Dstm n) number same begins keeps takes right = absurd takes

-- An attempt of a caller that had added nothing before it has taken effect: what is right for all values at which it may
-- have begun, and those that it leaves, is right in every run.
pub settles_right : {L : Type 0} (holds : L → List Val → Type 0) (name : GName) (k before began ended n : Caller L) →
    AddsNothing k before → Begins holds before began → Keeps began ended → (t : TakesEffect holds ended n)
    (is_right : List Val → List Val → Type 0) → ((map : List Val) → MayBegin holds ended map → is_right map (seen ended map)) →
    Settles holds is_right k n t.number
settles_right holds name k before began ended n same begins keeps t is_right right =
    by_engine holds name is_right k before began ended n t.number same begins.by_engine keeps t.takes right
