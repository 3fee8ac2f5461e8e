use Rattle.dstm_engine.proofs.AtPlace.{at_place, drop_places, drop_view, none_dropped}
use Rattle.dstm_engine.proofs.opened.Opened.drop_read.Goals as goal

pub returns-then-place-eq0 : goal.returns-then-place-eq0
returns-then-place-eq0 c =
    let at = at_place c.self.inside c.self.invariant c.args.self.now c.self.view_is c.args.o c.requires.exists c.index.result.now
    c.index.ensures in
    none_dropped at c.if-place-eq0.true

pub invariant_of-self : goal.invariant_of-self
invariant_of-self c =
    let at = at_place c.self.inside c.self.invariant c.args.self.now c.self.view_is c.args.o c.requires.exists c.index.result.now
    c.index.ensures in
    drop_places at c.if-place-eq0.false c.index_mut-2.result.now c.index_mut-2.ensures.value c.index_mut.result.now
    c.index_mut.ensures.value

pub returns : goal.returns
returns c =
    let at = at_place c.self.inside c.self.invariant c.args.self.now c.self.view_is c.args.o c.requires.exists c.index.result.now
    c.index.ensures in
    drop_view at c.if-place-eq0.false c.index_mut-2.result.now c.index_mut-2.ensures.value c.index_mut.result.now
