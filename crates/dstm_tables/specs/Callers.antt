-- What contracts see of a caller.
use Rattle.std.specs.Prelude.{◌≡◌, ℕ, false, List, []}
use Rattle.dstm_model.specs.declared.value.Val.{Val}
use Rattle.dstm_model.specs.Answers.{Committed}
use Rattle.dstm_engine.specs.Attempts as dstm_attempts
use Rattle.dstm_engine.specs.Callers as dstm
use Rattle.dstm_managers.specs.Choices.{started}
use Rattle.dstm_engine.specs.Makes.{Makes}
use Rattle.dstm_progress.specs.Lives.{TriesByShape}
use Rattle.dstm_order.specs.Retries.{is_new}
use Rattle.dstm_tl2_engine.specs.Attempts as tl2_attempts
use Rattle.dstm_tl2_engine.specs.Callers as tl2
use Rattle.dstm_tl2_engine.specs.Makes as tl2_makes
use Rattle.dstm_tl2_order.specs.Made.{LocksItsWrites}
use Rattle.dstm_tables.specs.declared.tables.Caller.{Caller}
use Rattle.dstm_tables.specs.declared.tables.Caller.TheVariants.{Dstm, Tl2}
use Rattle.dstm_tables.specs.declared.tables.Round.{Round}
use Rattle.dstm_tables.specs.declared.tables.Round.TheVariants as round
use Rattle.dstm_tables.specs.declared.tables.Table.{Table}
use Rattle.dstm_tables.specs.declared.tables.Table.TheVariants as table
use Rattle.dstm_tables.specs.Tells.{IsEnrolled, IsRun, begun_of, done_of, let_go_by}

module _ {L : Type 0} where
  -- its table, and what this was told
  abbrev pub home_of : Caller L → Table L
  home_of (Dstm k) = table.Dstm k.home
  home_of (Tl2 k) = table.Tl2 k.home

  abbrev pub law_of : Caller L → L
  law_of (Dstm k) = k.home.terms.law.value
  law_of (Tl2 k) = k.home.terms.law.value

  -- what it has seen
  abbrev pub round_of : Caller L → Round L
  round_of (Dstm k) = round.Dstm (record { terms = k.home.terms; log = k.log })
  round_of (Tl2 k) = round.Tl2 (record { terms = k.home.terms; log = k.log })

  abbrev pub number_of : Caller L → ℕ
  number_of (Dstm k) = k.number
  number_of (Tl2 k) = k.number

  -- it is between two attempts: under DSTM the last one is over, under TL2 nothing is locked
  abbrev pub IsOver : Caller L → Type 0
  IsOver (Dstm k) = dstm.is_live k ≡ false
  IsOver (Tl2 k) = (tl2.state k).holds ≡ []

  -- Under DSTM its next attempt is of a new transaction where none was begun, or the last one committed.
  abbrev pub BeginsRight : Caller L → Type 0
  BeginsRight (Dstm k) = k.fresh ≡ is_new (dstm.state k)
  BeginsRight (Tl2 k) = Unit {0}

  -- under DSTM its waits take the random words of this seed
  abbrev pub HasSeed : ℕ → Caller L → Type 0
  HasSeed seed (Dstm k) = k.generator ≡ (started k.home.terms.shape.manager seed).generator
  HasSeed seed (Tl2 k) = Unit {0}

  -- under DSTM as it was before its first event, with the generator of this seed
  abbrev pub at_first : ℕ → dstm.Called L → dstm.Called L
  at_first seed k = record k { log = []; generator = (started k.home.terms.shape.manager seed).generator }

  -- and under TL2
  abbrev pub tl2_first : tl2.TlCalled L → tl2.TlCalled L
  tl2_first k = record k { log = [] }

  -- It has come by calls: under DSTM each transaction again until it committed, as its table wants opens, from the generator of
  -- this seed on; under TL2 each locks no more than is written.
  abbrev pub CameByCalls : ℕ → Caller L → Type 0
  CameByCalls seed (Dstm k) = Makes (TriesByShape k.home.terms.shape) (at_first seed k) k
  CameByCalls seed (Tl2 k) = tl2_makes.Makes LocksItsWrites (tl2_first k) k

  abbrev pub done : Caller L → List Committed
  done k = done_of (round_of k) (number_of k)

  abbrev pub begun : Caller L → ℕ
  begun k = begun_of (round_of k) (number_of k)

  -- how many numbers it has drawn
  abbrev pub draws : Caller L → ℕ
  draws (Dstm k) = dstm_attempts.draws k
  draws (Tl2 k) = tl2_attempts.draws k

  -- how many reads it has let go so far
  abbrev pub let_go : Caller L → ℕ
  let_go k = let_go_by (round_of k) (number_of k)

  -- a caller between two attempts: its log is a run in which it has its number, and its attempts are over
  pub record AtRest (holds : L → List Val → Type 0) (k : Caller L) : Type 0 where
    pub run : IsRun holds (round_of k)
    pub enrolled : IsEnrolled (round_of k) (number_of k)
    pub over : IsOver k
    pub right : BeginsRight k
