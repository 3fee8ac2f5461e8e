use Rattle.std.proofs.Common.{◌≡◌, ◌∙◌, Err, List, Ok, ap, arith, length, rules, subst, sym, ⊎_elim}
use Rattle.dstm_tables.specs.Callers.{home_of}
use Rattle.dstm_tables.specs.Founders.{Enrols, made_of}
use Rattle.dstm_tables.specs.Tables.{callers_there}
use Rattle.dstm_cells.specs.declared.error.Failed.TheVariants as failed
use Rattle.dstm_cells.specs.declared.memory.Seat.{Seat}
use Rattle.dstm_cells.specs.declared.under_way.Attempt.{Attempt as Tx}
use Rattle.dstm_cells.specs.Runs.{AreNumbered, GivesOutEach, HaveNew, IsNew, caller_at}
use Rattle.dstm_cells.proofs.Calling.{is_err}
use Rattle.dstm_cells.proofs.Running.{each_push, in_turn_push, one_made}
use Rattle.dstm_cells.proofs.memory.Memory.seats.Goals as goal

pub returns-in_err-part-clause-fails : goal.returns-in_err-part-clause-fails
returns-in_err-part-clause-fails g c =
    let why = c.in_err-part.field-0.0 in
    let not_full : made_of c.loop-seed.founder ≡ callers_there c.args.table.now → ⊥ =
    λ full. absurd (omega (arith, full, c.loop-seed.invariant.made, c.requires.room, c.loop-seed-test.true)) in
    is_err c.from_residual-in_err-part.result why (λ w. w ≡ failed.Memory) c.from_residual-in_err-part.ensures.1
    (⊎_elim
    (λ (threads : why ≡ failed.Threads). absurd (not_full (c.part.ensures.full.0 (c.in_err-part.was ∙ ap Err threads))))
    (λ (memory : why ≡ failed.Memory). memory)
    c.in_err-part.ensures.fails)

pub loop-seed-preserved : goal.loop-seed-preserved
loop-seed-preserved g c =
    let before = c.loop-seed.invariant in
    let part = c.in_ok-part.ensures in
    let table = c.args.table.now in
    let k = c.with_turn.result.tx.attempts.caller in
    let there = ap (λ (tx : Tx _ _ _ _). tx.attempts.caller) (sym c.with_turn.ensures) in
    let enrols : Enrols g.L.Law.holds c.loop-seed.founder c.part.new.founder c.from.result k =
    subst (λ k. Enrols g.L.Law.holds c.loop-seed.founder c.part.new.founder c.from.result k) there part.enrols in
    let one_more = one_made g.L.Law.holds c.loop-seed.founder c.part.new.founder _ k enrols in
    let new : IsNew g.L.Law.holds table c.from.result k =
    record { home = subst (λ k. home_of k ≡ table) there part.home; enrols = (c.loop-seed.founder, c.part.new.founder, enrols) } in
    let seat : Seat _ = record { me = c.with_turn.result; number = c.loop-seed.seed; ended = Ok tt } in
    record {
      table = search rules;
      made = omega (arith, one_more, before.made);
      count = search rules;
      new = subst (HaveNew g.L.Law.holds table) (sym c.in_ok-push.ensures.items)
          (each_push (λ n (seat : Seat _). IsNew g.L.Law.holds table n seat.me.tx.attempts.caller) c.loop-seed.seats.items
          seat before.new
          (subst (λ n. IsNew g.L.Law.holds table n k) (c.from.ensures ∙ sym before.count) new));
      numbered = subst AreNumbered (sym c.in_ok-push.ensures.items)
          (each_push (λ n (seat : Seat _). seat.number ≡ n) c.loop-seed.seats.items seat before.numbered (sym before.count));
      gives = λ other.
          subst (λ (seats : List (Seat _)). GivesOutEach g.L.Law.holds (length seats) c.args.founder.now (caller_at seats other) c.part.new.founder)
          (sym c.in_ok-push.ensures.items)
          (in_turn_push (Enrols g.L.Law.holds) c.loop-seed.seats.items seat other c.args.founder.now c.loop-seed.founder c.part.new.founder
          (before.gives other)
          (subst (λ n. Enrols g.L.Law.holds c.loop-seed.founder c.part.new.founder n k)
          (c.from.ensures ∙ sym before.count) enrols));
    }
