-- Private: the workers of a parallel round and the founder of its table, from the first caller that it gives out to the last one
-- that it takes back.
use Rattle.std.specs.Prelude.{◌≡◌, ℕ, List, [], map, All}
use Rattle.dstm_words.specs.Seats.{AreApart}
use Rattle.dstm_workload.specs.declared.workload.Workload.{Workload}
use Rattle.dstm_options.specs.declared.options.Options.{Options}
use Rattle.dstm_jobs.specs.Tables.{AtRest, Caller, Founder, Round, Table}
use Rattle.dstm_tables.specs.Callers.{CameByCalls, begun, done, home_of, let_go, number_of, round_of}
use Rattle.dstm_tables.specs.Founders.{guests_of, home_there, numbers_of, out_of, seen_by}
use Rattle.dstm_tables.specs.Tells.{IsPast, SameOwn}
use Rattle.dstm_records.specs.Records.{seed_for}
use Rattle.dstm_crew.specs.declared.share.Share.{Share}
use Rattle.dstm_crew.specs.declared.worker.Worker.{Worker}
use Rattle.dstm_crew.specs.Shares.{IsShared}

-- the share that a worker has, as far as it has come
abbrev pub share_of : Worker → Share
share_of worker = record { worker = worker.number; places = worker.places; done = worker.done }

abbrev pub caller_number : Worker → ℕ
caller_number worker = number_of worker.caller

-- a caller of the table, between two attempts
pub record RestsAt (table : Table) (k : Caller) : Type 0 where
  pub home : home_of k ≡ table
  pub rest : AtRest k

-- a caller of the table that has done nothing yet
pub record IsNew (table : Table) (k : Caller) : Type 0 where
  pub rests : RestsAt table k
  pub none_begun : begun k ≡ 0
  pub none_done : done k ≡ []

-- the worker's caller has come by calls, from the generator of its seed on, and has let no read go
pub record HasCome (options : Options) (worker : Worker) : Type 0 where
  pub by_calls : CameByCalls (seed_for options worker.number) worker.caller
  pub none_let_go : let_go worker.caller ≡ 0

-- a worker of the table that has run its share, as its caller's log tells
pub record HasEnded (workload : Workload) (options : Options) (table : Table) (worker : Worker) : Type 0 where
  pub rests : RestsAt table worker.caller
  pub shared : IsShared workload options (round_of worker.caller) (share_of worker) (number_of worker.caller)

-- a longer log has all that a caller has seen, and no more events of the caller itself
pub record IsKnownBy (r : Round) (k : Caller) : Type 0 where
  pub past : IsPast (round_of k) r
  pub own : SameOwn (number_of k) (round_of k) r

-- The founder of a table has so many callers out, and no guests. It has taken back those of these workers, whose numbers
-- are apart, and knows what they have seen.
pub record HasBack (table : Table) (still_out : ℕ) (workers : List Worker) (f : Founder) : Type 0 where
  pub home : home_there f ≡ table
  pub guests : guests_of f ≡ 0
  pub out : out_of f ≡ still_out
  pub numbers : numbers_of f ≡ map caller_number workers
  pub apart : AreApart (numbers_of f)
  pub known : All (λ worker. IsKnownBy (seen_by f) worker.caller) workers
