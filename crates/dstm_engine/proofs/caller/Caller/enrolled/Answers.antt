use Rattle.std.proofs.Common.{ap}
use Rattle.dstm_engine.proofs.Base.{LocalState, View}
use Rattle.dstm_engine.proofs.caller.Caller.enrolled.Goals as goal

pub make-requires : goal.make-requires
make-requires g c = record {
  unbegun = record {
    terms = c.args.terms;
    told = ap (λ (v : View _). v.terms) c.requires.view;
    number = c.args.number;
    caller = ap (λ (v : View _). v.number) c.requires.view;
    unbegun = ap (λ (s : LocalState). s.begun) c.requires.state;
  };
  undrawn = rw c.requires.view c.requires.undrawn;
}
