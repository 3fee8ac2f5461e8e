use Rattle.std.proofs.Common.{◌≡◌, ◌∙◌, ◌+◌, ◌<◌, ℕ, Err, List, Ok, ap, arith, length, refl, rules, subst, sym}
use Rattle.std.specs.Prelude.{◌⊎◌, ◌↔◌, All, IfErr, OnOk, Result, slice_index_or}
use denote.Param.Send.{sendable}
use Rattle.std.proofs.Crossing.{crosses}
use Rattle.std.proofs.lemmas.Result.{on_ok_weaker}
use Rattle.dstm_tables.specs.Callers.{home_of}
use Rattle.dstm_tables.specs.Founders.{founded, made_of}
use Rattle.dstm_tables.specs.Tables.{callers_there}
use Rattle.dstm_tables.specs.declared.founding.Founder.{Founder}
use Rattle.dstm_cells.specs.declared.error.Failed.{Failed}
use Rattle.dstm_cells.specs.declared.error.Failed.TheVariants as failed
use Rattle.dstm_cells.specs.Cells.{LeavesUnread, Takes}
use Rattle.dstm_cells.specs.Runs.{AreAt, FailsFor, IsWorked, RanInTurn, TakesBackEach, TakesBackSeats, caller_at}
use Rattle.dstm_cells.specs.declared.memory.Seat.{Seat}
use Rattle.dstm_cells.proofs.Calling.{is_err}
use Rattle.dstm_cells.proofs.Running.{founded_none, given_out, lent_back, made_back, made_each, not_taken, ran_leaves, some_of, told, untaken, untaken_leaves}
use Rattle.dstm_cells.proofs.Sends.{attempt_send, seat_send, table_sync}
use Rattle.dstm_cells.proofs.memory.Memory.run_work.Given.{Over}
use Rattle.dstm_cells.proofs.memory.Memory.run_work.Goals.{After-how_all_ended-ended}
use Rattle.dstm_cells.proofs.memory.Memory.run_work.Goals as goal

pub for_each_mut-requires-send-T : goal.for_each_mut-requires-send-T
for_each_mut-requires-send-T g c κs within = search (seat_send, attempt_send, table_sync _ g.L.Law c.type_bounds.sync-L, crosses, sendable) depth 20

-- what a list is of
abbrev ElementOf : {A : Type 0} → List A → Type 0
ElementOf {A} xs = A

-- a seat of the run
abbrev SeatOf : (g : Over) → After-how_all_ended-ended g → Type 0
SeatOf g c = ElementOf c.for_each_mut.new.s

-- the threads have left a seat each
seats_left : (g : Over) (c : After-how_all_ended-ended g) →
    (c.deref.result.now ≡ c.for_each_mut.new.s) × (length c.deref.result.now ≡ c.args.threads)
seats_left g c =
    lent_back c.in_ok-seats.seats.items c.in_ok-seats.ensures.count c.deref.ensures.value (search rules) (search rules)

-- the work of each number was done on its seat
worked : (g : Over) (c : After-how_all_ended-ended g) (other : SeatOf g c) (number : ℕ) → number < c.args.threads →
    IsWorked (g.W.Work.ends c.args.work.now) (g.W.Work.does c.args.work.now) number
    (slice_index_or c.in_ok-seats.seats.items number other) (slice_index_or c.for_each_mut.new.s number other)
worked g c other number below =
    let is : (old new : SeatOf g c) → Type 0 =
    λ old new. IsWorked (g.W.Work.ends c.args.work.now) (g.W.Work.does c.args.work.now) number old new in
    let some : length c.deref_mut.result.now ≡ c.args.threads = ap length c.deref_mut.ensures.value ∙ c.in_ok-seats.ensures.count in
    let change = (c.for_each_mut.ensures number other (omega (arith, some, below))).1 in
    subst (is (slice_index_or c.in_ok-seats.seats.items number other)) change.left
    (subst (λ old. is old change.after_call.now)
    (change.argument_is ∙ ap (λ (xs : List _). slice_index_or xs number other) c.deref_mut.ensures.value) change.call)

-- and so it tells
tells : (g : Over) (c : After-how_all_ended-ended g) (other : SeatOf g c) (unread : Type 0) →
    OnOk c.how_all_ended-ended.result ((number : ℕ) → number < c.args.threads → g.W.Work.ends c.args.work.now number (Ok tt))
    × IfErr c.how_all_ended-ended.result (FailsFor (g.W.Work.ends c.args.work.now) unread c.args.threads)
tells g c other unread =
    told c.deref.result.now c.for_each_mut.new.s c.args.threads (seats_left g c) (g.W.Work.ends c.args.work.now) other
    (λ number below. (worked g c other number below).0)
    unread c.how_all_ended-ended.result c.how_all_ended-ended.ensures.well c.how_all_ended-ended.ensures.first

-- a seat
some_seat : (g : Over) (c : After-how_all_ended-ended g) → SeatOf g c
some_seat g c = some_of c.in_ok-seats.seats.items (omega (arith, c.in_ok-seats.ensures.count, c.in_ok-table.ensures.threads.0))

-- the parts that the threads have left are of the table
parts_left : (g : Over) (c : After-how_all_ended-ended g) (seats : List (SeatOf g c)) → seats ≡ c.for_each_mut.new.s →
    length seats ≡ c.args.threads → AreAt c.in_ok-table.table seats
parts_left g c seats is size number other below =
    let within : number < c.args.threads = omega (arith, size, below) in
    let new = c.in_ok-seats.ensures.new number other (omega (arith, c.in_ok-seats.ensures.count, within)) in
    subst (λ (xs : List (SeatOf g c)). home_of (caller_at xs other number) ≡ c.in_ok-table.table) (sym is)
    ((worked g c other number within).2 ∙ new.home)

pub retire_all-requires : goal.retire_all-requires
retire_all-requires g c =
    let left = lent_back c.in_ok-seats.seats.items c.in_ok-seats.ensures.count refl (search rules) (search rules) in
    record {
      table = search rules;
      parts = parts_left g (goal.at.retire_all-requires g c).After-how_all_ended-ended _ left.0 left.1;
    }

-- the parts that the threads have left were taken back by this founder
abbrev pub Taken : (g : Over) → After-how_all_ended-ended g → Founder g.row.L.Denot → Type 0
Taken g c back =
    (seats : List (SeatOf g c)) × (seats ≡ c.for_each_mut.new.s) × (length seats ≡ c.args.threads)
    × TakesBackSeats g.L.Law.holds c.seats.new.founder seats back

-- the run, step by step, of whatever came of the founder in the end
in_turn : (g : Over) (c : After-how_all_ended-ended g) (back : Founder g.row.L.Denot) → Taken g c back →
    (ended : Founder g.row.L.Denot → Founder g.row.L.Denot → Type 0) (last : Founder g.row.L.Denot) → ended back last →
    RanInTurn g.L.Law.holds c.args.self.now.engine c.args.self.now.law c.args.self.now.values.items c.args.threads (g.W.Work.does c.args.work.now) ended
in_turn g c back (seats, is, size, takes) ended last ends =
    let holds = g.L.Law.holds in
    let other = some_seat g c in
    let began = caller_at c.in_ok-seats.seats.items other in
    let out = c.seats.new.founder in
    record {
      table = c.in_ok-table.table;
      starts = c.in_ok-table.ensures.founds.starts;
      works = c.in_ok-table.ensures.engine;
      began = began;
      out = out;
      gives = given_out holds c.in_ok-table.table out began c.in_ok-table.ensures.founds.founder c.in_ok-seats.ensures.count
          (c.in_ok-seats.ensures.gives other);
      left = caller_at c.for_each_mut.new.s other;
      done = λ number below. (worked g c other number below).1;
      back = back;
      takes_back = subst (λ (xs : List (SeatOf g c)). TakesBackEach holds c.args.threads out (caller_at xs other) back) is
          (subst (λ n. TakesBackEach holds n out (caller_at seats other) back) size (takes other));
      last = last;
      ends = ends;
    }

-- the table has a caller left
has_room : (g : Over) (c : After-how_all_ended-ended g) (back : Founder g.row.L.Denot) → Taken g c back →
    made_of back ≡ callers_there c.in_ok-table.table → ⊥
unfolding in_turn
has_room g c back taken full =
    let holds = g.L.Law.holds in
    let ran = in_turn g c back taken (λ old new. Unit {0}) back tt in
    let same = made_back holds c.args.threads ran.out back ran.left ran.takes_back in
    let out = made_each holds c.args.threads (founded c.in_ok-table.table) ran.out ran.began ran.gives in
    let none = founded_none c.in_ok-table.table in
    let callers : callers_there c.in_ok-table.table ≡ c.args.threads + 1 = c.in_ok-table.ensures.callers in
    absurd (omega (arith, full, same, out, none, callers))

pub returns-clause-ended : goal.returns-clause-ended
returns-clause-ended g c =
    let after = (goal.at.returns-clause-ended g c).After-how_all_ended-ended in
    (tells g after (some_seat g after) (Unit {0})).0

pub returns-clause-fails : goal.returns-clause-fails
returns-clause-fails g c =
    let after = (goal.at.returns-clause-fails g c).After-how_all_ended-ended in
    (tells g after (some_seat g after) _).1

pub returns-clause-left : goal.returns-clause-left
returns-clause-left g c =
    let after = (goal.at.returns-clause-left g c).After-how_all_ended-ended in
    let left = lent_back c.in_ok-seats.seats.items c.in_ok-seats.ensures.count refl (search rules) (search rules) in
    ran_leaves c.deref.result.now _ _ c.how_all_ended-ended.result c.how_all_ended-ended.ensures.first
    (in_turn g after c.retire_all.new.founder (_, left.0, left.1, c.retire_all.ensures.takes)
    (λ back last. Takes g.L.Law.holds back last c.take.new.self.values.items) c.take.new.founder c.in_ok-take.ensures.takes)

-- why the values were not taken
cause : (g : Over) (c : After-how_all_ended-ended g) (back : Founder g.row.L.Denot) → Taken g c back → (why : Failed)
    (answer : Result (Unit {0}) Failed) → answer ≡ Err why →
    (answer ≡ Err failed.Threads ↔ made_of back ≡ callers_there c.in_ok-table.table) →
    (why ≡ failed.Threads) ⊎ (why ≡ failed.Memory) ⊎ (why ≡ failed.Unread) → (why ≡ failed.Memory) ⊎ (why ≡ failed.Unread)
cause g c back taken why answer is full fails =
    not_taken why fails (λ (threads : why ≡ failed.Threads). has_room g c back taken (full.0 (is ∙ ap Err threads)))

pub returns-in_err-take-clause-left : goal.returns-in_err-take-clause-left
returns-in_err-take-clause-left g c =
    let after = (goal.at.returns-in_err-take-clause-left g c).After-how_all_ended-ended in
    let left = lent_back c.in_ok-seats.seats.items c.in_ok-seats.ensures.count refl (search rules) (search rules) in
    let why = c.in_err-take.field-0.0 in
    untaken_leaves _ _ c.from_residual-in_err-take.result why c.from_residual-in_err-take.ensures.1
    (cause g after c.retire_all.new.founder (_, left.0, left.1, c.retire_all.ensures.takes) why c.take.result c.in_err-take.was
    c.take.ensures.full c.in_err-take.ensures.fails.1) c.in_err-take.ensures.fails.0

pub returns-in_err-take-clause-fails : goal.returns-in_err-take-clause-fails
returns-in_err-take-clause-fails g c =
    let after = (goal.at.returns-in_err-take-clause-fails g c).After-how_all_ended-ended in
    let left = lent_back c.in_ok-seats.seats.items c.in_ok-seats.ensures.count refl (search rules) (search rules) in
    let taken : Taken g after c.retire_all.new.founder = (_, left.0, left.1, c.retire_all.ensures.takes) in
    let why = c.in_err-take.field-0.0 in
    is_err c.from_residual-in_err-take.result why (FailsFor _ _ c.args.threads) c.from_residual-in_err-take.ensures.1
    (untaken _ _ c.args.threads why
    (cause g after c.retire_all.new.founder taken why c.take.result c.in_err-take.was c.take.ensures.full c.in_err-take.ensures.fails.1)
    (λ unread.
    in_turn g after c.retire_all.new.founder taken (LeavesUnread g.L.Law.holds) c.take.new.founder (c.in_err-take.ensures.unread (ap Err unread))))

pub returns-clause-threads : goal.returns-clause-threads
returns-clause-threads g c =
    on_ok_weaker c.how_all_ended-ended.result
    (λ (well : All (λ (seat : Seat _). seat.ended ≡ Ok tt) c.deref.result.now). c.in_ok-table.ensures.threads)
    c.how_all_ended-ended.ensures.well
