-- What is kept of where the parts of a table begin.
use Rattle.std.specs.Prelude.{◌≡◌}
use Rattle.dstm_core.specs.Words.{place}
use Rattle.dstm_core.specs.Words.Word.{RankWord, OwnerWord, OldWord, LowWord, HighWord, NumbersWord}
use Rattle.dstm_steps.specs.declared.places.Places.TheInside.{Inside}

-- each part begins with its first word
pub record KnowsParts (p : Inside) : Type 0 where
  pub ranks : p.ranks ≡ place p.shape (RankWord 0)
  pub owners : p.owners ≡ place p.shape (OwnerWord 0)
  pub olds : p.olds ≡ place p.shape (OldWord 0)
  pub lows : p.lows ≡ place p.shape (LowWord 0)
  pub highs : p.highs ≡ place p.shape (HighWord 0)
  pub numbers : p.numbers ≡ place p.shape NumbersWord
