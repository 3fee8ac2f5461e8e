use Rattle.std.proofs.Common.{◌≡◌, ℕ, List, take, true}
use Rattle.std.specs.Prelude.{All}
use Rattle.dstm_model.specs.declared.value.Val.{Val}
use Rattle.dstm_model.specs.Map.{value_at}
use Rattle.dstm_tables.specs.declared.tables.Caller.TheVariants.{Dstm}
use Rattle.dstm_attempts.specs.Attempts.{Flags, IsUntouched, Keeps, MayBegin}
use Rattle.dstm_attempts.specs.Waiting.{OpensFirst, OpensNoMore}
use Rattle.dstm_attempts.proofs.dstm.read_all.Given as goal

-- the attempt is under way, has set nothing, and found the values so far
abbrev pub invariant-loop-pair : goal.invariant-loop-pair
invariant-loop-pair g l = record {
  keeps : Keeps (Dstm l.fn.caller) (Dstm l.caller);
  going : l.going ≡ true;
  flags : Flags l.going (Dstm l.caller);
  untouched : IsUntouched (Dstm l.caller);
  may : (map : List Val) × MayBegin g.L.Law.holds (Dstm l.caller) map;
  found : (map : List Val) → MayBegin g.L.Law.holds (Dstm l.caller) map →
      All (λ (p : ℕ × Val). value_at map p.0 ≡ p.1) (take l.pair-index l.values);
  no_more : OpensNoMore l.fn.caller l.caller;
  reads : OpensFirst g.L.Law.holds l.pair-index l.values l.fn.caller l.caller;
}
