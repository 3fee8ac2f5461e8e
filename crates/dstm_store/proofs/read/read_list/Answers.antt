use Rattle.std.proofs.Common.{ℕ, ◌+◌, ◌<◌, List, arith, sym, ◌∙◌, ap, subst}
use Rattle.dstm_model.specs.Map.{value_at}
use Rattle.dstm_model.specs.Store.{Store}
use Rattle.dstm_model.specs.Objects.{list_begin}
use Rattle.dstm_list.specs.List.{key_of, next_of}
use Rattle.dstm_list.proofs.Lists.{no_keys}
use Rattle.dstm_store.specs.Whole.{StandsFor}
use Rattle.dstm_store.proofs.Walks.{Walk, walk-start, walk-next, walk-end, walk-all, walk-within}
use Rattle.dstm_store.proofs.read.read_list.Goals as goal

pub returns-then-layout-eq0 : goal.returns-then-layout-eq0
returns-then-layout-eq0 c store stands =
    c.new-keys.ensures.items ∙ sym (no_keys c.if-layout-eq0.true stands.list.holds)

pub loop-step-init : goal.loop-step-init
loop-step-init c =
    let layout = c.args.layout.now in
    let values = c.args.values.now in
    let at = c.of-at.result.next in
    let declared : 0 < layout.list = omega arith in
    let begun = λ (store : Store) (stands : StandsFor layout values store).
    walk-start layout values store at c.requires.valid declared stands.list c.of-at.ensures.next in
    record {
      within = walk-within (begun c.requires.lawful.0 c.requires.lawful.1);
      walk = λ store stands.
          subst (λ (keys : List ℕ). Walk (list_begin layout) layout.list values keys at 0 stands.list.holds.cells)
          (sym c.new-keys.ensures.items) (begun store stands);
    }

pub returns-then-at-eq0 : goal.returns-then-at-eq0
returns-then-at-eq0 c store stands =
    walk-end (c.loop-step.invariant.walk store stands) c.if-at-eq0.true ∙ sym stands.list.holds.keys

pub loop-step-preserved : goal.loop-step-preserved
loop-step-preserved c =
    let layout = c.args.layout.now in
    let values = c.args.values.now in
    let node = c.of-node.result in
    let object = ap (value_at values) c.node_object-object.ensures in
    let goes_on = λ (store : Store) (stands : StandsFor layout values store).
    walk-next (list_begin layout) layout.list values c.loop-step.keys.items c.loop-step.at c.loop-step._step
    stands.list.holds.cells node (omega (arith, c.requires.valid.list)) (c.loop-step.invariant.walk store stands)
    c.if-at-eq0.false (c.of-node.ensures.key ∙ ap key_of object) (c.of-node.ensures.next ∙ ap next_of object) in
    record {
      within = walk-within (goes_on c.requires.lawful.0 c.requires.lawful.1);
      walk = λ store stands.
          subst (λ (keys : List ℕ). Walk (list_begin layout) layout.list values keys node.next
          (c.loop-step._step + 1) stands.list.holds.cells)
          (sym c.in_ok-push.ensures.items) (goes_on store stands);
    }

pub returns : goal.returns
returns c store stands =
    walk-all (c.loop-step.invariant.walk store stands) (omega (arith, c.loop-step-test.false)) ∙ sym
    stands.list.holds.keys
