use Rattle.std.specs.Prelude.{Ok}
use Rattle.dstm_model.specs.Objects.{objects_of}
use Rattle.dstm_mem.specs.Operations.{IsReady, Leads}
use Rattle.dstm_store.specs.Whole.{StandsFor}
use Rattle.bench.specs.declared.scale.load.TheConstants.{LAYOUT}
use Rattle.bench.proofs.scale.shot.run_ops.Given as goal

-- the memory is ready for the next operation
abbrev pub invariant-loop-place : goal.invariant-loop-place
invariant-loop-place g l = record {
  leads : Leads g.M.Mem l.fn.mem l.mem (Ok (tt {0}));
  ready : IsReady g.M.Mem (objects_of LAYOUT) (StandsFor LAYOUT) l.mem;
}
