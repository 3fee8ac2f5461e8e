use Rattle.std.proofs.Common.{◌≡◌, ◌<◌, ◌∙◌, Err, ap, inl, inr, length, refl, subst}
use Rattle.std.specs.Prelude.{Result}
use Rattle.dstm_cells.specs.Alternatives.{Noting, StopsUndoing}
use Rattle.dstm_cells.specs.UnderWay.{attempt, stop_by}
use Rattle.dstm_cells.specs.declared.error.Stop.{Stop}
use Rattle.dstm_cells.specs.declared.error.Why.TheVariants.{Retry}
use Rattle.dstm_cells.proofs.Alternating.{First, called, leaves, left_notes, set_back, stays_read, stopped, undone}
use Rattle.dstm_cells.proofs.Calling.{err_is, once_at, once_kept}
use Rattle.dstm_cells.proofs.Undoing.{undone_notes}
use Rattle.dstm_cells.proofs.alternatives.or_else.Given.{Over}
use Rattle.dstm_cells.proofs.alternatives.or_else.Goals.{After-has_retried}
use Rattle.dstm_cells.proofs.alternatives.or_else.Goals as goal

-- the first alternative was called, and answered this
first_called : (g : Over) (c : After-has_retried g) (answer : Result g.row.R.Denot Stop) → c.first-answer.result ≡ answer →
    First g.X.Transaction.noting g.F.FnOnce c.args.first c.args.tx.now c.note-notes.new.self c.first-answer.new.arg2
    c.note-noted.new.self answer
first_called g c answer is = record {
  on = c.note-notes.ensures.notes;
  call = once_at g.F.FnOnce c.args.first _ _ _ _ c.first-answer.ensures is;
  before = c.note-notes.result;
  same = c.note-notes.ensures.before;
  off = c.note-noted.ensures.notes;
}

pub returns-then-not-has_retried-clause-keeps : goal.returns-then-not-has_retried-clause-keeps
returns-then-not-has_retried-clause-keeps g c first second =
    ap (λ (k : Noting _). attempt k.caller) c.note-noted.ensures.notes
    ∙ once_kept (λ x. (g.X.Transaction.noting x).caller) g.F.FnOnce c.args.first _ _ _ first c.first-answer.ensures
    ∙ ap (λ (k : Noting _). attempt k.caller) c.note-notes.ensures.notes

pub returns-then-not-has_retried-clause-notes : goal.returns-then-not-has_retried-clause-notes
returns-then-not-has_retried-clause-notes g c first second =
    let noting = g.X.Transaction.noting in
    let it = first_called g (goal.at.returns-then-not-has_retried-clause-notes g c).After-has_retried c.first-answer.result refl in
    left_notes noting g.F.FnOnce c.args.first g.X.Rule.Law.holds c.args.tx.now c.note-notes.new.self c.first-answer.new.arg2
    c.note-noted.new.self c.first-answer.result it first

pub returns-then-not-has_retried-clause-does : goal.returns-then-not-has_retried-clause-does
returns-then-not-has_retried-clause-does g c first =
    let noting = g.X.Transaction.noting in
    let it = first_called g (goal.at.returns-then-not-has_retried-clause-does g c).After-has_retried c.first-answer.result refl in
    inl (record {
      left = noting c.first-answer.new.arg2;
      called = called noting g.F.FnOnce c.args.first g.X.Rule.Law.holds c.args.tx.now c.note-notes.new.self c.first-answer.new.arg2
          c.note-noted.new.self c.first-answer.result it;
      goes_on = c.has_retried.ensures.goes_on c.if-not-has_retried.true;
      leaves = leaves noting g.F.FnOnce c.args.first g.X.Rule.Law.holds c.args.tx.now c.note-notes.new.self c.first-answer.new.arg2
          c.note-noted.new.self c.first-answer.result it;
    })

pub returns-in_err-undo_to-clause-keeps : goal.returns-in_err-undo_to-clause-keeps
returns-in_err-undo_to-clause-keeps g c first second =
    c.undo_to.ensures.keeps
    ∙ ap (λ (k : Noting _). attempt k.caller) c.note-noted.ensures.notes
    ∙ once_kept (λ x. (g.X.Transaction.noting x).caller) g.F.FnOnce c.args.first _ _ _ first c.first-answer.ensures
    ∙ ap (λ (k : Noting _). attempt k.caller) c.note-notes.ensures.notes

pub returns-in_err-undo_to-clause-notes : goal.returns-in_err-undo_to-clause-notes
returns-in_err-undo_to-clause-notes g c first second =
    let noting = g.X.Transaction.noting in
    let it = first_called g (goal.at.returns-in_err-undo_to-clause-notes g c).After-has_retried (Err (stop_by Retry)) (c.has_retried.ensures.retries c.if-not-has_retried.false) in
    stopped noting g.F.FnOnce c.args.first g.X.Rule.Law.holds c.args.tx.now c.note-notes.new.self c.first-answer.new.arg2
    c.note-noted.new.self (Err (stop_by Retry)) it first
    c.undo_to.new.self c.noted-kept.result c.noted-kept.ensures c.undo_to.ensures.keeps c.undo_to.ensures.notes c.in_err-undo_to.ensures.left

pub returns-in_err-undo_to-clause-does : goal.returns-in_err-undo_to-clause-does
returns-in_err-undo_to-clause-does g c first =
    let noting = g.X.Transaction.noting in
    let it = first_called g (goal.at.returns-in_err-undo_to-clause-does g c).After-has_retried (Err (stop_by Retry)) (c.has_retried.ensures.retries c.if-not-has_retried.false) in
    inr (inr (record {
      left = noting c.first-answer.new.arg2;
      retries = called noting g.F.FnOnce c.args.first g.X.Rule.Law.holds c.args.tx.now c.note-notes.new.self c.first-answer.new.arg2
          c.note-noted.new.self (Err (stop_by Retry)) it;
      noted = subst (λ (k : Noting _). length (noting c.args.tx.now).undos < length k.undos) it.off
          (subst (λ kept. kept < length (noting c.note-noted.new.self).undos) c.noted-kept.ensures
          c.in_err-undo_to.ensures.some);
      stop = c.in_err-undo_to.field-0.0;
      is = err_is c.from_residual.result _ c.from_residual.ensures.1;
      stops = subst (λ (k : Noting _). StopsUndoing g.X.Rule.Law.holds k.undos k.caller (noting c.undo_to.new.self).caller c.in_err-undo_to.field-0.0)
          it.off c.in_err-undo_to.ensures.stops;
    }))

pub returns-clause-keeps : goal.returns-clause-keeps
returns-clause-keeps g c first second =
    once_kept (λ x. (g.X.Transaction.noting x).caller) g.G.FnOnce c.args.second _ _ _ second c.second.ensures
    ∙ c.undo_to.ensures.keeps
    ∙ ap (λ (k : Noting _). attempt k.caller) c.note-noted.ensures.notes
    ∙ once_kept (λ x. (g.X.Transaction.noting x).caller) g.F.FnOnce c.args.first _ _ _ first c.first-answer.ensures
    ∙ ap (λ (k : Noting _). attempt k.caller) c.note-notes.ensures.notes

pub returns-clause-notes : goal.returns-clause-notes
returns-clause-notes g c first second k noted =
    let noting = g.X.Transaction.noting in
    let it = first_called g (goal.at.returns-clause-notes g c).After-has_retried (Err (stop_by Retry)) (c.has_retried.ensures.retries c.if-not-has_retried.false) in
    let back = undone noting g.F.FnOnce c.args.first g.X.Rule.Law.holds c.args.tx.now c.note-notes.new.self c.first-answer.new.arg2
    c.note-noted.new.self (Err (stop_by Retry)) it first
    c.undo_to.new.self c.noted-kept.result c.noted-kept.ensures c.undo_to.ensures.keeps c.undo_to.ensures.notes c.in_ok-undo_to.ensures.undone in
    second _ _ _ (once_at g.G.FnOnce c.args.second _ _ _ _ c.second.ensures refl) k
    (undone_notes g.X.Rule.Law.holds _ _ back k noted)

pub returns-clause-does : goal.returns-clause-does
returns-clause-does g c first =
    let noting = g.X.Transaction.noting in
    let it = first_called g (goal.at.returns-clause-does g c).After-has_retried (Err (stop_by Retry)) (c.has_retried.ensures.retries c.if-not-has_retried.false) in
    inr (inl (record {
      left = noting c.first-answer.new.arg2;
      retries = called noting g.F.FnOnce c.args.first g.X.Rule.Law.holds c.args.tx.now c.note-notes.new.self c.first-answer.new.arg2
          c.note-noted.new.self (Err (stop_by Retry)) it;
      between = noting c.undo_to.new.self;
      undone = undone noting g.F.FnOnce c.args.first g.X.Rule.Law.holds c.args.tx.now c.note-notes.new.self c.first-answer.new.arg2
          c.note-noted.new.self (Err (stop_by Retry)) it first
          c.undo_to.new.self c.noted-kept.result c.noted-kept.ensures c.undo_to.ensures.keeps c.undo_to.ensures.notes c.in_ok-undo_to.ensures.undone;
      back = set_back noting g.F.FnOnce c.args.first g.X.Rule.Law.holds c.args.tx.now c.note-notes.new.self c.first-answer.new.arg2
          c.note-noted.new.self (Err (stop_by Retry)) it first
          c.undo_to.new.self c.noted-kept.result c.noted-kept.ensures c.undo_to.ensures.keeps c.undo_to.ensures.notes c.in_ok-undo_to.ensures.back;
      stays = stays_read noting g.F.FnOnce c.args.first g.X.Rule.Law.holds c.args.tx.now c.note-notes.new.self c.first-answer.new.arg2
          c.note-noted.new.self (Err (stop_by Retry)) it first
          c.undo_to.new.self c.noted-kept.result c.noted-kept.ensures c.undo_to.ensures.keeps c.undo_to.ensures.notes c.in_ok-undo_to.ensures.undone;
      called = record {
        began = c.undo_to.new.self;
        at = refl;
        ended = c.second.new.arg2;
        returns = once_at g.G.FnOnce c.args.second _ _ _ _ c.second.ensures refl;
        leaves = refl;
      };
    }))
