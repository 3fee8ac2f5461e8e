-- What is known of the attempts that were to read all objects.
use Rattle.std.proofs.Common.{◌≡◌, ◌+◌, ◌<◌, ◌≤◌, ℕ, List, arith, false, subst, suc}
use Rattle.dstm_model.specs.declared.value.Val.{Val}
use Rattle.dstm_tables.specs.declared.tables.Caller.{Caller}
use Rattle.dstm_attempts.specs.Attempts.{Keeps, Opens, objects_of}
use Rattle.dstm_attempts.proofs.UnderWay.{adds_nothing, same_objects}
use Rattle.dstm_cells.specs.Attempts.{ReadsInTurn, StopsReading, WasDisturbed, WereDisturbed}
use Rattle.dstm_cells.specs.UnderWay.{StopsLook}
use Rattle.dstm_cells.specs.declared.error.Why.{Why}
use Rattle.dstm_cells.specs.declared.error.Why.TheVariants.{Again, Retry, Foreign, Memory}

module _ {L : Type 0} (holds : L → List Val → Type 0) where
  -- an object more was read
  pub one_more : (object : ℕ) (k m n : Caller L) → ReadsInTurn holds object k m → Opens holds false object m n →
      ReadsInTurn holds (object + 1) k n
  one_more object k m n before opens =
      let next : ReadsInTurn holds (suc object) k n = (m, before, opens) in
      let one : suc object ≡ object + 1 = omega arith in
      subst (λ o. ReadsInTurn holds o k n) one next

  -- a read that was refused is why the reading stops
  pub stops_reading : (object objects : ℕ) (k last n : Caller L) (why : Why) → ReadsInTurn holds object k last →
      Keeps k last → objects ≡ objects_of k → object < objects → StopsLook holds object last n why →
      StopsReading holds k n why
  stops_reading object objects k last n Again before keeps all below stops =
      record { object = object; last = last; before = before; over = stops }
  stops_reading object objects k last n Retry before keeps all below stops = absurd stops
  stops_reading object objects k last n Foreign before keeps all below stops =
      let same = same_objects k last (adds_nothing k last keeps).home in
      let past : objects_of last ≤ object = stops.why.0 in
      absurd (omega (arith, same, all, below, past))
  stops_reading object objects k last n Memory before keeps all below stops = absurd stops

  -- an attempt more was disturbed
  pub disturbed_once : (attempts : ℕ) (k m n : Caller L) → WereDisturbed holds attempts k m → WasDisturbed holds m n →
      WereDisturbed holds (attempts + 1) k n
  disturbed_once attempts k m n before once =
      let next : WereDisturbed holds (suc attempts) k n = (m, before, once) in
      let one : suc attempts ≡ attempts + 1 = omega arith in
      subst (λ count. WereDisturbed holds count k n) one next
