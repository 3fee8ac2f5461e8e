use Rattle.std.proofs.Common.{◌∙◌, ap, arith, filter, length}
use Rattle.dstm_engine.specs.Opened.{OpenedAs, with_set_slot}
use Rattle.dstm_steps.specs.Sorts.{is_kept}
use Rattle.dstm_engine.proofs.AtPlace.{at_place, is_set, stands}
use Rattle.dstm_engine.proofs.opened.Opened.set.Goals as goal

pub overflow_sub-place : goal.overflow_sub-place
overflow_sub-place c =
    let at = at_place c.self.inside c.self.invariant c.args.self.now c.self.view_is c.args.o c.requires.exists c.index.result.now
    c.index.ensures in
    let some = stands at c.requires.opened in
    omega (arith, some)

pub returns : goal.returns
returns c =
    let at = at_place c.self.inside c.self.invariant c.args.self.now c.self.view_is c.args.o c.requires.exists c.index.result.now
    c.index.ensures in
    let set = is_set at c.requires.opened c.args.v c.index_mut.result.now c.index_mut.ensures.value in
    ap (λ ws. record {
      objects = length c.self.inside.places.items;
      reads = filter is_kept c.self.inside.reads.items;
      writes = ws;
    }) set
    ∙ ap (λ (x : OpenedAs). record x { writes = with_set_slot c.args.o c.args.v x.writes }) c.self.view_is
