-- What a call leaves of an attempt, by either engine, where the engine tells what it holds and has set.
use Rattle.std.proofs.Common.{◌≡◌, ◌<◌, ℕ, List, ap, arith, length, refl}
use Rattle.std.specs.Option.{option_or}
use Rattle.std.specs.Prelude.{Option, Some}
use Rattle.dstm_model.specs.declared.value.Val.{Val}
use Rattle.dstm_mem.specs.Memory.{AgreesWith, SetsOnly, with_set}
use Rattle.dstm_mem.proofs.WithSet.{value_at-opened, with_set-set}
use Rattle.dstm_tables.specs.Callers.{law_of}
use Rattle.dstm_tables.specs.declared.tables.Caller.{Caller}
use Rattle.dstm_tables.specs.declared.tables.Caller.TheVariants.{Dstm, Tl2}
use Rattle.dstm_attempts.specs.Attempts.{Finds, MayBegin, Puts, SetsNothing, objects_of, written}

module _ {L : Type 0} (holds : L → List Val → Type 0) where
  -- values at which an attempt may have begun are so many, and lawful
  pub may_length : (k : Caller L) (map : List Val) → MayBegin holds k map → length map ≡ objects_of k
  may_length (Dstm k) map may = may.length
  may_length (Tl2 k) map may = may.length

  pub may_lawful : (k : Caller L) (map : List Val) → MayBegin holds k map → holds (law_of k) map
  may_lawful (Dstm k) map may = may.lawful
  may_lawful (Tl2 k) map may = may.lawful

  -- a caller that has set the same, and may have begun at no other values, sets nothing
  pub sets_nothing : (k n : Caller L) → written n ≡ written k →
      ((map : List Val) → MayBegin holds n map → MayBegin holds k map) → SetsNothing holds k n
  sets_nothing k n set narrows = record { narrows = narrows; same = λ map. ap (with_set map) set }

  -- what an open finds: what was last set, or else what is held
  pub finds : (k n : Caller L) (held : ℕ → Option Val) (o : ℕ) (v : Val) → written n ≡ written k → o < objects_of k →
      ((map : List Val) → MayBegin holds n map → MayBegin holds k map) →
      ((map : List Val) → MayBegin holds n map → AgreesWith map held) → Some v ≡ option_or (written n o) (held o) →
      Finds holds k n o v
  finds k n held o v set within narrows agrees value = record {
    value = λ map may.
        let size = may_length k map (narrows map may) in
        let inside : o < length map = omega (arith, size, within) in
        value_at-opened map (written n) (written n) held o v inside (agrees map may) (λ p. refl) value;
    narrows = narrows;
    same = λ map. ap (with_set map) set;
  }

  -- what a set leaves
  pub puts : (k n : Caller L) (o : ℕ) (v : Val) → ((map : List Val) → MayBegin holds n map → MayBegin holds k map) →
      SetsOnly o v (written k) (written n) → Puts holds k n o v
  puts k n o v narrows sets = record {
    narrows = narrows;
    puts = λ map. with_set-set map (written k) (written n) o v sets;
  }
