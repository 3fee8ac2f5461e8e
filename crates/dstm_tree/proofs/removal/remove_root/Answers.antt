use Rattle.dstm_tree.proofs.Base.{List, arith, ◌∙◌, ap, Val, child, Right}
use Rattle.dstm_tree.proofs.Removing.{go-below, subtree-within, remove-only, has-gap, remove-between}
use Rattle.dstm_tree.proofs.Search.{part_of, read_root}
use Rattle.dstm_tree.proofs.Stepping.{steps-as, steps-then}
use Rattle.dstm_tree.proofs.removal.remove_root.Goals as goal

pub returns-in-Some : goal.returns-in-Some
returns-in-Some g c =
    steps-as c.in_ok-cut.ensures (λ never. never) (λ before after does.
    remove-only c.in-Some.side c.args.depth c.args.node c.in_ok-cut.cut before after c.requires.ready.tree
    c.requires.some c.in-Some.ensures (c.child.ensures ∙ ap (λ s. child s c.args.node) c.other.ensures) does)

pub take_least-requires : goal.take_least-requires
take_least-requires g c =
    let M = g.M.Mem in
    let goes = λ (m : List Val) (a : M.Admits c.args.mem.now m).
    let (s, read) = c.requires.lawful m a in
    go-below Right c.requires.ready.tree read (λ e. omega (arith, c.requires.some)) s in
    let (map, admitted) = c.requires.ready.admits in
    record {
      some = omega (arith, c.in_default.ensures.1);
      within = subtree-within (goes map admitted);
      ready = c.requires.ready;
      lawful = goes;
    }

pub close-requires-clause-lawful : goal.close-requires-clause-lawful
unfolding part_of
close-requires-clause-lawful g c map admitted =
    let least = c.in_ok-least.ensures.steps in
    let (s, read) = c.requires.lawful map (least.leads.narrows map admitted) in
    let r = read_root Right c.requires.ready.tree read (λ e. omega (arith, c.requires.some)) s in
    has-gap c.with_child-parent.ensures r (least.does map admitted (part_of r)).loses.became

pub returns : goal.returns
returns g c =
    steps-as (steps-then c.in_ok-least.ensures.steps c.in_ok-cut-2.ensures) (λ never. absurd never) (λ before after h.
    remove-between c.args.depth c.args.node c.in_ok-least.least c.in_ok-cut-2.cut before h.mid after
    c.requires.ready.tree c.requires.some c.with_child-parent.ensures h.first h.second)
