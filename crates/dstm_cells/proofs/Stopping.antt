-- Why a call on an object stops.
use Rattle.std.proofs.Common.{◌≡◌, ℕ, Bool, true, false, List, Ok, Err, ap}
use Rattle.std.specs.Prelude.{Result}
use Rattle.dstm_model.specs.declared.value.Val.{Val}
use Rattle.dstm_tables.specs.declared.tables.Caller.{Caller}
use Rattle.dstm_attempts.specs.declared.error.NotOpened.{NotOpened}
use Rattle.dstm_attempts.specs.declared.error.NotOpened.TheVariants.{Over, Foreign}
use Rattle.dstm_attempts.specs.Attempts as attempts
use Rattle.dstm_attempts.specs.Attempts.{IsNotOpened, goes_on, objects_of}
use Rattle.dstm_cells.specs.UnderWay.{Refuses, StopsChange, StopsLook, stop_by, stop_for}
use Rattle.dstm_cells.specs.declared.error.Stop.{Stop}
use Rattle.dstm_cells.specs.declared.error.Why.TheVariants.{Again}

-- a refusal, as a closure hands it out
told : {T U : Type 0} → Result T NotOpened → Result U Stop
told (Ok x) = Err (stop_by Again)
told (Err why) = Err (stop_for why)

module _ {L : Type 0} where
  -- where an attempt refuses an open, a transaction refuses the call
  pub refuses_why : {T U : Type 0} (k : Caller L) (o : ℕ) (why : NotOpened) → attempts.Refuses {T = T} k o (Err why) →
      Refuses {T = U} k o (Err (stop_for why))
  unfolding told
  refuses_why {T} {U} k o why refuses = record {
    over = λ is. ap (told {T = T} {U = U}) (refuses.over is);
    foreign = λ is out. ap (told {T = T} {U = U}) (refuses.foreign is out);
  }

  -- where an open was not refused, nothing is
  pub refuses_none : {T U : Type 0} (k : Caller L) (o : ℕ) (found : T) (answer : Result U Stop) →
      attempts.Refuses k o (Ok found) → Refuses k o answer
  refuses_none {T} k o found answer refuses = record {
    over = λ is. absurd (never Over (refuses.over is));
    foreign = λ is out. absurd (never Foreign (refuses.foreign is out));
  }
    where
      never : (why : NotOpened) → Ok found ≡ Err why → ⊥
      never why is = cc

  module _ (holds : L → List Val → Type 0) where
    pub stops_look : (o : ℕ) (k n : Caller L) (why : NotOpened) → IsNotOpened holds false o k n why →
        StopsLook holds o k n (stop_for why).why
    stops_look o k n Over not_opened = not_opened
    stops_look o k n Foreign not_opened = not_opened

    pub stops_change : (notes : Bool) (o : ℕ) (k n : Caller L) (why : NotOpened) → IsNotOpened holds true o k n why →
        StopsChange holds notes o k n (stop_for why).why
    stops_change notes o k n Over not_opened = not_opened
    stops_change notes o k n Foreign not_opened = not_opened
