use Rattle.std.proofs.Common.{◌≡◌, length, take}
use Rattle.dstm_model.specs.Job.{apply_all}
use Rattle.dstm_model.proofs.store.PlainStore.apply_all.Given as goal

abbrev pub invariant-loop-op : goal.invariant-loop-op
invariant-loop-op l = record {
  layout : l.self.layout ≡ l.fn.self.layout;
  count : length l.replies ≡ l.op-index;
  done : apply_all (take l.op-index l.ops) l.fn.self ≡ record { replies = l.replies; store = l.self };
}
