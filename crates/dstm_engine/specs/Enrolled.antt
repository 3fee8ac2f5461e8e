-- Private: what contracts see of a caller that has just drawn its number.
use Rattle.std.specs.Prelude.{ℕ, true, [], None}
use Rattle.atomic_table.specs.declared.shared.Seat.{Seat}
use Rattle.dstm_managers.specs.Choices.{DeciderState}
use Rattle.dstm_words.specs.declared.terms.Terms.{Terms}
use Rattle.dstm_words.specs.Seats.{View}
use Rattle.dstm_engine.specs.Callers.{Called}

abbrev pub enrolled_as : {L : Type 0} → Terms L → Seat ℕ (View L) → ℕ → DeciderState → Called L
enrolled_as terms seat number decider = record {
  home = record { table = seat.table_id; terms = terms };
  log = seat.me.0.log;
  number = number;
  generator = decider.generator;
  began = decider.generator;
  fresh = true;
  set = [];
  left = None;
}
