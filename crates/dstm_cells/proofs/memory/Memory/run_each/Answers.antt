use Rattle.std.proofs.Common.{◌≡◌, ◌∙◌, ◌<◌, ℕ, Err, List, Ok, ap, arith, length, subst}
use Rattle.std.specs.Prelude.{◌⊎◌, IfErr, IfOk, slice_index_or}
use denote.Param.Send.{sendable}
use Rattle.std.proofs.Crossing.{crosses}
use Rattle.std.proofs.lemmas.List.{length-map}
use Rattle.dstm_cells.specs.Attempts.{CouldNotRead}
use Rattle.dstm_cells.specs.Cells.{ReadsAmiss, ReadsBehind}
use Rattle.dstm_model.proofs.value.AnyLaw.TheSendSync as AnyLaw
use Rattle.dstm_model.specs.contracts.value.AnyLawLaw.TheImpl as TheLaw
use Rattle.dstm_cells.specs.Runs.{CalledFor, End, FailsFor, ends_of}
use Rattle.dstm_cells.specs.declared.error.GaveUp.TheVariants.{Spent}
use Rattle.dstm_cells.specs.declared.memory.Ended.{Ended}
use Rattle.dstm_cells.proofs.Calling.{is_err}
use Rattle.dstm_cells.proofs.Running.{CalledUpTo, count_each, each_called, each_leaves, has_run, no_end, not_read, tells_each, told_each, told_of, untaken, untaken_leaves}
use Rattle.dstm_cells.proofs.Sends.{attempt_send, seat_send, table_sync}
use Rattle.dstm_cells.proofs.memory.Memory.run_each.Given.{Over}
use Rattle.dstm_cells.proofs.memory.Memory.run_each.Goals.{After-all_answers}
use Rattle.dstm_cells.proofs.memory.Memory.run_each.Goals as goal

pub map_vec-requires-send-J : goal.map_vec-requires-send-J
map_vec-requires-send-J g c κs within = search (seat_send, attempt_send, table_sync, AnyLaw.the_sync, crosses, sendable) depth 20

-- as many have ended as there are threads
as_many : (g : Over) (c : After-all_answers g) → length c.in_ok-ends.ends.items ≡ c.args.threads
as_many g c =
    omega (arith, c.in_ok-ends.ends.ok.0, c.in_ok-ends.ensures.len, c.in_ok-seats.seats.ok.0, c.in_ok-seats.ensures.count)

-- how they have ended
abbrev ends_at : (g : Over) (c : After-all_answers g) → List (End g.row.T.Denot)
ends_at g c = ends_of c.in_ok-ends.ends.items

many_ends : (g : Over) (c : After-all_answers g) → length (ends_at g c) ≡ c.args.threads
many_ends g c = length-map c.in_ok-ends.ends.items (λ (ended : Ended _). ended.end) ∙ as_many g c

-- the closure was called with each number on a part of the table, and has ended so
called_on : (g : Over) (c : After-all_answers g) (number : ℕ) → number < c.args.threads →
    CalledUpTo g.F.Fn c.args.f TheLaw.holds-value.it c.in_ok-table.table number (slice_index_or (ends_at g c) number (Err Spent))
    (slice_index_or c.in_ok-ends.ends.items number no_end)
called_on g c =
    each_called g.F.Fn c.args.f TheLaw.holds-value.it c.in_ok-table.table c.in_ok-seats.seats.items c.in_ok-ends.ends.items
    c.args.threads c.in_ok-seats.ensures.count (as_many g c) c.in_ok-seats.ensures.new c.in_ok-seats.ensures.numbered
    (λ number within.
    let gives = (c.in_ok-ends.ensures.each number no_end within).1 in (gives.job, gives.job_is gives.job, gives.call.met))

-- what is known of the thread of a number that has ended so
abbrev called : (g : Over) (c : After-all_answers g) → ℕ → End g.row.T.Denot → Type 0
called g c = CalledFor TheLaw.holds-value.it g.F.Fn c.args.f c.args.self.now.engine c.args.self.now.law c.args.self.now.values.items

-- so it was called for each
ended : (g : Over) (c : After-all_answers g) (number : ℕ) → number < c.args.threads →
    called g c number (slice_index_or (ends_at g c) number (Err Spent))
ended g c number below = record {
  table = c.in_ok-table.table;
  starts = c.in_ok-table.ensures.founds.starts;
  works = c.in_ok-table.ensures.engine;
  on = (called_on g c number below).0;
}

-- and so it tells
tells : (g : Over) (c : After-all_answers g) (unread : Type 0) →
    IfOk c.all_answers.result (λ answers. (number : ℕ) (none : g.row.T.Denot) → number < c.args.threads →
    called g c number (Ok (slice_index_or answers.items number none)))
    × IfErr c.all_answers.result (FailsFor (called g c) unread c.args.threads)
tells g c unread =
    told_each (ends_at g c) c.args.threads (many_ends g c) (called g c) (Err Spent) (ended g c) unread
    c.all_answers.result (λ answers. answers.items) c.all_answers.ensures.well c.all_answers.ensures.first

pub returns-clause-called : goal.returns-clause-called
returns-clause-called g c = (tells g (goal.at.returns-clause-called g c).After-all_answers (Unit {0})).0

pub returns-clause-count : goal.returns-clause-count
returns-clause-count g c =
    let after = (goal.at.returns-clause-count g c).After-all_answers in
    count_each (ends_at g after) c.args.threads (many_ends g after)
    c.all_answers.result (λ answers. answers.items) c.all_answers.ensures.well

pub returns-clause-fails : goal.returns-clause-fails
returns-clause-fails g c = (tells g (goal.at.returns-clause-fails g c).After-all_answers _).1

pub returns-clause-left : goal.returns-clause-left
returns-clause-left g c =
    let after = (goal.at.returns-clause-left g c).After-all_answers in
    let ends = ends_at g after in
    each_leaves ends _ _ c.all_answers.result c.all_answers.ensures.first
    (record {
      ran = has_run g.F.Fn c.args.f TheLaw.holds-value.it c.part.new.founder c.in_ok-reader.reader.tx.attempts.caller
          c.in_ok-table.ensures.founds c.in_ok-table.ensures.engine c.in_ok-reader.ensures.enrols c.in_ok-ends.ends.items c.args.threads
          c.in_ok-table.ensures.callers (as_many g after) (called_on g after)
          (subst (λ (xs : List (Ended g.row.T.Denot)). ReadsBehind TheLaw.holds-value.it xs c.in_ok-reader.reader.tx.attempts.caller
          c.take_behind.new.self.values.items) c.deref.ensures.value c.in_ok-take_behind.ensures.reads);
      tells = tells_each ends c.args.threads (many_ends g after) (Err Spent) c.all_answers.result (λ answers. answers.items)
          c.all_answers.ensures.well c.all_answers.ensures.first;
    })

pub returns-in_err-take_behind-clause-left : goal.returns-in_err-take_behind-clause-left
returns-in_err-take_behind-clause-left g c =
    untaken_leaves _ _ c.from_residual-in_err-take_behind.result c.in_err-take_behind.field-0.0 c.from_residual-in_err-take_behind.ensures.1
    c.in_err-take_behind.ensures.fails.1 c.in_err-take_behind.ensures.fails.0

pub returns-in_err-take_behind-clause-fails : goal.returns-in_err-take_behind-clause-fails
returns-in_err-take_behind-clause-fails g c =
    let why = c.in_err-take_behind.field-0.0 in
    let holds = TheLaw.holds-value.it in
    let reader = c.in_ok-reader.reader.tx.attempts.caller in
    let seats = c.in_ok-seats.seats.items in
    let ends = c.in_ok-ends.ends.items in
    let many : length ends ≡ c.args.threads =
    omega (arith, c.in_ok-ends.ends.ok.0, c.in_ok-ends.ensures.len, c.in_ok-seats.seats.ok.0, c.in_ok-seats.ensures.count) in
    is_err c.from_residual-in_err-take_behind.result why (FailsFor _ _ c.args.threads) c.from_residual-in_err-take_behind.ensures.1
    (untaken _ _ c.args.threads why c.in_err-take_behind.ensures.fails.1 (λ unread.
    not_read g.F.Fn c.args.f holds c.part.new.founder reader c.in_ok-table.ensures.founds c.in_ok-table.ensures.engine
    c.in_ok-reader.ensures.enrols ends c.args.threads c.in_ok-table.ensures.callers many
    (each_called g.F.Fn c.args.f holds c.in_ok-table.table seats ends c.args.threads c.in_ok-seats.ensures.count many
    c.in_ok-seats.ensures.new c.in_ok-seats.ensures.numbered
    (λ number within.
    let gives = (c.in_ok-ends.ensures.each number no_end within).1 in (gives.job, gives.job_is gives.job, gives.call.met)))
    {last = c.take_behind.new.last.tx.attempts.caller}
    (subst (λ (xs : List (Ended g.row.T.Denot)). CouldNotRead holds 64 reader c.take_behind.new.last.tx.attempts.caller
    ⊎ ReadsAmiss holds xs reader) c.deref.ensures.value (c.in_err-take_behind.ensures.unread (ap Err unread)))))

pub returns-clause-threads : goal.returns-clause-threads
returns-clause-threads g c = told_of _ c.all_answers.result c.in_ok-table.ensures.threads
