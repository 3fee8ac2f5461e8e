use Rattle.dstm_tree.proofs.Base.{ℕ, ◌+◌, ◌-◌, ◌≤◌, arith, sym, subst, Ok, with_set, Steps, child}
use Rattle.dstm_tree.proofs.Search.{Reaches, reach-start, reach-none, reach-next, reach-found, search-end, search-past}
use Rattle.dstm_tree.proofs.Search.{search-within}
use Rattle.dstm_tree.proofs.Stepping.{steps-as, steps-then}
use Rattle.dstm_tree.proofs.find.get_in.Goals as goal

pub loop-step-init : goal.loop-step-init
loop-step-init g c = record {
  so_far = steps-as c.in_ok-at.ensures.steps (λ q. q)
      (λ before after. reach-start (omega arith));
  within = c.in_ok-at.ensures.within;
}

pub returns-then-at-eq0 : goal.returns-then-at-eq0
returns-then-at-eq0 g c =
    steps-as c.loop-step.invariant.so_far (λ q. q)
    (λ before after h. reach-none h (λ items s. search-end c.if-at-eq0.true s))

pub returns-then-key-node : goal.returns-then-key-node
returns-then-key-node g c =
    steps-as (steps-then c.loop-step.invariant.so_far c.in_ok-node.ensures.steps) (λ q. (q, q)) (λ before after h.
    reach-found c.requires.tree c.if-at-eq0.false c.if-key-node.true h.first h.second)

pub loop-step-preserved : goal.loop-step-preserved
loop-step-preserved g c =
    let M = g.M.Mem in
    let region = c.args.region in
    let next = child c.toward.result c.in_ok-node.node in
    let left = region.nodes - (c.loop-step._step + 1) in
    let so_far : Steps {A = ℕ} M region (λ at. Unit {0}) (Reaches region left c.args.key) c.args.mem.now
    c.read_node.new.mem (Ok next) =
    steps-as (steps-then c.loop-step.invariant.so_far c.in_ok-node.ensures.steps) (λ q. (q, q)) (λ before after h.
    reach-next c.toward.result c.requires.tree c.if-at-eq0.false c.toward.ensures (omega arith) h.first h.second) in
    let (map, admitted) = so_far.leads.admits in
    let (limit, (items, t)) = c.requires.lawful map (so_far.leads.narrows map admitted) in
    let within = search-within region (with_set map (M.written c.args.mem.now)) next left c.args.key items
    ((so_far.does map admitted).searches limit items t) in
    subst (λ (n : ℕ). record {
      so_far : Steps {A = ℕ} M region (λ at. Unit {0}) (Reaches region left c.args.key) c.args.mem.now
          c.read_node.new.mem (Ok n);
      within : n ≤ region.nodes;
    }) (sym c.child-at.ensures) (record { so_far = so_far; within = within })

pub returns : goal.returns
returns g c =
    steps-as c.loop-step.invariant.so_far (λ q. q)
    (λ before after h. reach-none h (λ items s. search-past (omega (arith, c.loop-step-test.false)) s))
