use Rattle.std.proofs.Common.{◌≡◌, ◌++◌, ◌≤◌, All, Contains, List, length, vec_len}
use Rattle.dstm_cells.specs.Alternatives.{HasSetBack, Undoes, noting, settings}
use Rattle.dstm_cells.specs.UnderWay.{Keeps}
use Rattle.dstm_cells.specs.declared.under_way.Undo.{Undo}
use Rattle.dstm_cells.proofs.transaction.AttemptTransaction.undo_to.Given as goal

-- it stays the same attempt, and what is left of what was noted is still to be set back
abbrev pub invariant-loop-self : goal.invariant-loop-self
invariant-loop-self g l = record {
  keeps : Keeps l.fn.self.attempts.caller l.self.attempts.caller;
  notes : settings (noting l.self) ≡ settings (noting l.fn.self);
  fewer : length l.self.undos.items ≤ length l.fn.self.undos.items;
  back : HasSetBack g.L.Law.holds l.fn.self.undos.items l.self.undos.items l.fn.self.attempts.caller l.self.attempts.caller;
  among : All (Contains l.fn.self.undos.items) l.self.undos.items;
  undoes : (first added : List Undo) → l.fn.self.undos.items ≡ first ++ added → length first ≡ l.kept →
      (left : List Undo) × Undoes g.L.Law.holds first added left (noting l.fn.self) (noting l.self);
}

abbrev pub decreases-loop-self : goal.decreases-loop-self
decreases-loop-self g l = vec_len l.self.undos
