-- Private: attempts that make sure again that what they have read stands.
use Rattle.std.specs.Prelude.{◌≡◌, ℕ, ◌+◌, ◌<◌, ◌≤◌, true}
use Rattle.dstm_words.specs.Seats.{IsRunOf}
use Rattle.dstm_engine.specs.Attempts.{looks, sights}
use Rattle.dstm_engine.specs.Callers.{Called, entry, held, is_live, shape_of, start_of, state}
use Rattle.dstm_store.specs.declared.law.StoreLaw.{StoreLaw}
use Rattle.dstm_tables.specs.Attempts.{seen_last}
use Rattle.dstm_jobs.specs.Law.{keeps}

-- the newest sight of the attempt covers all that it holds
pub record SeesAll (k : Called StoreLaw) : Type 0 where
  pub run : IsRunOf keeps k.home.terms k.log
  pub covers : seen_last (shape_of k) (start_of k) k.log k.log k.number (state k).begun ≡ (entry k).reads

-- it has had so many sights more at most, and has looked at an object no less often
pub record RechecksAtMost (times : ℕ) (k n : Called StoreLaw) : Type 0 where
  pub sights : sights n ≤ sights k + times
  pub looks : looks k ≤ looks n

-- the attempt has had so many sights more, and holds what it held
pub record HasRechecked (times : ℕ) (k n : Called StoreLaw) : Type 0 where
  pub live : is_live n ≡ true
  pub held : (o : ℕ) → held n o ≡ held k o
  pub sights : sights n ≡ sights k + times
  pub looks : looks k ≤ looks n
  pub newest : 0 < times → SeesAll n
