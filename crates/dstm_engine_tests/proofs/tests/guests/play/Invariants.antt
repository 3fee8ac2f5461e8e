use Rattle.dstm_engine_tests.specs.Guests.{IsGuest, IsTracked}
use Rattle.dstm_engine_tests.proofs.tests.guests.play.Given as goal

-- the rules know the guest's state
abbrev pub invariant-loop-row : goal.invariant-loop-row
invariant-loop-row l = record {
  guest : IsGuest l.fn.words l.seat;
  tracked : IsTracked l.fn.words l.seat l.local;
}
