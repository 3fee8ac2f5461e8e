use Rattle.std.proofs.Common.{◌-◌, ◌∙◌, List, ap, arith, length, length-append, refl, rules, subst, sym, take}
use Rattle.std.specs.Prelude.{All, Contains}
use Rattle.std.proofs.lemmas.List.{length-take-le}
use Rattle.std.proofs.lemmas.List.Elements.{All-contains_itself, All-get_or, All-take}
use Rattle.dstm_cells.specs.Alternatives.{HasSetBack, StopsUndoing, noting}
use Rattle.dstm_cells.specs.declared.under_way.Undo.{Undo}
use Rattle.dstm_cells.proofs.Calling.{if_err, is_err}
use Rattle.dstm_cells.proofs.Undoing.{back_to, last_noted, none_back, one_back, undoes_step}
use Rattle.dstm_cells.proofs.transaction.AttemptTransaction.undo_to.Goals as goal

pub returns-in_err-put-clause-stops : goal.returns-in_err-put-clause-stops
returns-in_err-put-clause-stops g c =
    is_err c.from_residual.result c.in_err-put.field-0.0
    (StopsUndoing g.L.Law.holds c.args.self.now.undos.items c.args.self.now.attempts.caller c.put.new.self.attempts.caller)
    c.from_residual.ensures.1
    (record {
      undo = c.index-undo.result.now;
      noted = subst (λ (u : Undo). Contains c.args.self.now.undos.items u) (sym c.index-undo.ensures)
          (All-get_or (Contains c.args.self.now.undos.items) c.loop-self.self.undos.items (c.len-last.result - 1) c.index-undo.result.now
          (omega (arith, c.len-last.ensures, c.len.ensures, c.loop-self-test.true)) c.loop-self.invariant.among);
      last = c.loop-self.self.attempts.caller;
      keeps = c.loop-self.invariant.keeps;
      before = take (c.len-last.result - 1) c.loop-self.self.undos.items;
      so_far = subst (λ (xs : List Undo). HasSetBack g.L.Law.holds c.args.self.now.undos.items xs c.args.self.now.attempts.caller
          c.loop-self.self.attempts.caller)
          (last_noted g.L.Law.holds c.loop-self.self.undos.items (c.len-last.result - 1) c.index-undo.result.now
          (omega (arith, c.len-last.ensures, c.len.ensures, c.loop-self-test.true)) c.index-undo.ensures) c.loop-self.invariant.back;
      stops = c.in_err-put.ensures.stops;
    })

pub returns-in_err-put-clause-some : goal.returns-in_err-put-clause-some
returns-in_err-put-clause-some g c =
    let so_far = c.loop-self.invariant.fewer in
    if_err c.from_residual.result (omega (arith, so_far, c.len.ensures, c.loop-self-test.true))

pub returns-in_err-put-clause-notes : goal.returns-in_err-put-clause-notes
returns-in_err-put-clause-notes g c = c.in_err-put.ensures.notes ∙ c.loop-self.invariant.notes

pub returns-clause-notes : goal.returns-clause-notes
returns-clause-notes g c = c.loop-self.invariant.notes

pub loop-self-init : goal.loop-self-init
loop-self-init g c = record {
  keeps = refl;
  notes = refl;
  fewer = omega arith;
  back = none_back g.L.Law.holds c.args.self.now.undos.items c.args.self.now.attempts.caller;
  among = All-contains_itself c.args.self.now.undos.items;
  undoes = λ first added was size. (added, record { is = was; narrows = λ map may. may; back = λ map may. refl });
}

pub loop-self-preserved : goal.loop-self-preserved
loop-self-preserved g c = record {
  keeps = search rules;
  notes = c.in_ok-put.ensures.notes ∙ c.loop-self.invariant.notes;
  fewer =
      let last = c.len-last.result - 1 in
      let was = ap (λ (xs : List Undo). length xs) (c.truncate.ensures.items ∙ ap (take last) c.in_ok-put.ensures.undos) in
      let size = length-take-le last c.loop-self.self.undos.items (omega (arith, c.len-last.ensures)) in
      let so_far = c.loop-self.invariant.fewer in
      omega (arith, was, size, so_far, c.len-last.ensures, c.len.ensures, c.loop-self-test.true);
  back = one_back g.L.Law.holds c.args.self.now.undos.items c.loop-self.self.undos.items _ (c.len-last.result - 1)
      c.index-undo.result.now c.args.self.now.attempts.caller c.loop-self.self.attempts.caller _ c.loop-self.invariant.back
      (omega (arith, c.len-last.ensures, c.len.ensures, c.loop-self-test.true)) c.index-undo.ensures
      (c.truncate.ensures.items ∙ ap (take (c.len-last.result - 1)) c.in_ok-put.ensures.undos) c.in_ok-put.ensures.once;
  among =
      let last = c.len-last.result - 1 in
      subst (λ (xs : List Undo). All (Contains c.args.self.now.undos.items) xs)
      (sym (c.truncate.ensures.items ∙ ap (take last) c.in_ok-put.ensures.undos))
      (All-take (Contains c.args.self.now.undos.items) last c.loop-self.self.undos.items c.loop-self.invariant.among);
  undoes = λ first added was size.
      let (left, so_far) = c.loop-self.invariant.undoes first added was size in
      let (had, exchanges) = c.in_ok-put.ensures.puts in
      undoes_step g.L.Law.holds first added left (c.len-last.result - 1) c.index-undo.result.now (noting c.args.self.now)
      (noting c.loop-self.self) _ had so_far (omega (arith, c.len-last.ensures, c.len.ensures, c.loop-self-test.true))
      (omega (arith, size, c.len-last.ensures, c.len.ensures, c.loop-self-test.true)) c.index-undo.ensures
      (c.truncate.ensures.items ∙ ap (take (c.len-last.result - 1)) c.in_ok-put.ensures.undos) exchanges;
}

pub returns-clause-back : goal.returns-clause-back
returns-clause-back g c first added was size =
    let (left, so_far) = c.loop-self.invariant.undoes first added was size in
    let behind = ap (λ (xs : List Undo). length xs) so_far.is ∙ length-append first left in
    back_to g.L.Law.holds c.args.self.now.undos.items c.loop-self.self.undos.items first added c.args.kept
    c.args.self.now.attempts.caller c.loop-self.self.attempts.caller c.loop-self.invariant.back was size
    (omega (arith, c.len.ensures, c.loop-self-test.false)) (omega (arith, behind, size))
