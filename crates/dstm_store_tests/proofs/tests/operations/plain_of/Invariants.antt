use Rattle.std.proofs.Common.{All}
use Rattle.dstm_model.specs.Layout.{FitsLayout}
use Rattle.dstm_model.specs.Store.{IsPlain}
use Rattle.dstm_store_tests.proofs.tests.operations.plain_of.Given as goal

abbrev pub invariant-loop-op : goal.invariant-loop-op
invariant-loop-op l = record {
  fits : All (FitsLayout l.layout) l.ops;
  plain : All IsPlain l.ops;
}
