use Rattle.std.proofs.Common.{◌∙◌, Ok, refl, subst, sym}
use Rattle.dstm_attempts.proofs.UnderWay.{exchanges, found_unset, may_still, opens_still, stood_still}
use Rattle.dstm_cells.specs.UnderWay.{Refuses, StopsChange, stop_by, stop_for}
use Rattle.dstm_cells.specs.declared.error.Why.TheVariants.{Memory}
use Rattle.dstm_cells.proofs.Calling.{err_is, is_err}
use Rattle.dstm_cells.proofs.Stopping.{refuses_none, refuses_why, stops_change}
use Rattle.dstm_cells.proofs.Undoing.{notes_nothing, notes_one}
use Rattle.dstm_cells.proofs.under_way.Attempt.change.Goals as goal

pub returns-in_err-value-clause-stops : goal.returns-in_err-value-clause-stops
returns-in_err-value-clause-stops g c =
    let why = c.in_err-value.field-0.0 in
    let k = c.args.self.now.attempts.caller in
    let n = c.write.new.self.caller in
    is_err c.from_residual.result (stop_for why) (λ stop. StopsChange g.L.Law.holds c.args.self.now.notes c.args.object k n stop.why)
    c.from_residual.ensures.1
    (stops_change g.L.Law.holds c.args.self.now.notes c.args.object k n why c.in_err-value.ensures.stops)

pub returns-in_err-value-clause-refuses : goal.returns-in_err-value-clause-refuses
returns-in_err-value-clause-refuses g c =
    let why = c.in_err-value.field-0.0 in
    let k = c.args.self.now.attempts.caller in
    subst (Refuses k c.args.object)
    (sym (err_is c.from_residual.result (stop_for why) c.from_residual.ensures.1))
    (refuses_why k c.args.object why c.in_err-value.ensures.refuses)

pub returns-in_err-value-clause-notes : goal.returns-in_err-value-clause-notes
returns-in_err-value-clause-notes g c =
    notes_nothing g.L.Law.holds _ _ c.in_err-value.ensures.keeps refl refl c.in_err-value.ensures.stops.unset

pub returns-in_err-note_undo-clause-stops : goal.returns-in_err-note_undo-clause-stops
returns-in_err-note_undo-clause-stops g c =
    let k = c.args.self.now.attempts.caller in
    let n = c.write.new.self.caller in
    is_err c.from_residual-in_err-note_undo.result (stop_by Memory)
    (λ stop. StopsChange g.L.Law.holds c.args.self.now.notes c.args.object k n stop.why) c.from_residual-in_err-note_undo.ensures.1 (
      c.in_err-note_undo.ensures.failed.0,
      c.in_ok-value.ensures.once,
      found_unset g.L.Law.holds k n c.args.object c.in_ok-value.value c.in_ok-value.ensures.finds,
    )

pub returns-in_err-note_undo-clause-refuses : goal.returns-in_err-note_undo-clause-refuses
returns-in_err-note_undo-clause-refuses g c =
    refuses_none c.args.self.now.attempts.caller c.args.object c.in_ok-value.value c.from_residual-in_err-note_undo.result
    c.in_ok-value.ensures.refuses

pub returns-in_err-note_undo-clause-notes : goal.returns-in_err-note_undo-clause-notes
returns-in_err-note_undo-clause-notes g c =
    notes_nothing g.L.Law.holds _ _ c.in_ok-value.ensures.keeps refl c.in_err-note_undo.ensures.failed.1
    (found_unset g.L.Law.holds c.args.self.now.attempts.caller c.write.new.self.caller c.args.object c.in_ok-value.value
    c.in_ok-value.ensures.finds)

pub returns-clause-refuses : goal.returns-clause-refuses
returns-clause-refuses g c =
    refuses_none c.args.self.now.attempts.caller c.args.object c.in_ok-value.value (Ok c.in_ok-value.value)
    c.in_ok-value.ensures.refuses

pub returns-clause-changes : goal.returns-clause-changes
returns-clause-changes g c = (
  c.f.result,
  c.f.ensures,
  exchanges g.L.Law.holds _ _ _ c.args.object c.in_ok-value.value c.f.result c.in_ok-value.ensures.finds c.set.ensures.puts,
)

pub returns-clause-notes : goal.returns-clause-notes
unfolding returns-clause-changes
returns-clause-notes g c =
    notes_one g.L.Law.holds _ _ c.args.object c.in_ok-value.value c.f.result
    (c.set.ensures.keeps ∙ c.in_ok-value.ensures.keeps) refl c.in_ok-note_undo.ensures.noted (returns-clause-changes g c).2

pub returns-clause-once : goal.returns-clause-once
returns-clause-once g c =
    opens_still g.L.Law.holds c.args.object _ _ _ c.in_ok-value.ensures.once c.set.ensures.still

pub returns-clause-together : goal.returns-clause-together
returns-clause-together g c = stood_still g.L.Law.holds _ _ c.set.ensures.still c.in_ok-value.ensures.together

pub returns-clause-may : goal.returns-clause-may
returns-clause-may g c =
    let (map, may) = c.in_ok-value.ensures.may in (map, may_still g.L.Law.holds _ _ c.set.ensures.still map may)
