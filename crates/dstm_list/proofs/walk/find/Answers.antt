use Rattle.std.proofs.Common.{◌<◌, arith, sym, ◌∙◌, subst}
use Rattle.dstm_mem.proofs.Operating.{operates-as, operates-then}
use Rattle.dstm_region.specs.Region.{IsInside}
use Rattle.dstm_list.specs.Place.{Stands}
use Rattle.dstm_list.proofs.Steps.{left, head-of_list, node-of_list, next_within, stands-start, stands-on}
use Rattle.dstm_list.proofs.Steps.{place-next, place-end, left-less}
use Rattle.dstm_list.proofs.Walked.{next-seen, ready-walked}
use Rattle.dstm_list.proofs.walk.find.Goals as goal

pub loop-before-init : goal.loop-before-init
loop-before-init g c = record {
  walked = operates-as c.in_ok-before.ensures.looks (λ q. q) (λ q. q) (λ before after seen. record {
    same = seen.same;
    stands = λ held list.
        stands-start c.args.key c.in_ok-before.before c.requires.fits c.requires.fits.some list seen.key seen.next;
  });
  link = head-of_list c.args.region c.requires.fits.some;
}

pub look-requires-in-loop-before-clause-inside : goal.look-requires-in-loop-before-clause-inside
look-requires-in-loop-before-clause-inside g c =
    let walked = c.loop-before.invariant.walked in
    let region = c.args.region in
    let (map, admitted) = walked.leads.admits in
    let (held, list) = c.requires.ready.lawful map (walked.leads.narrows map admitted) in
    let within = next_within list ((walked.does map admitted).stands held list) in
    subst (IsInside region) (sym c.node_object_in-object.ensures)
    (node-of_list region c.loop-before.before.next c.requires.fits.some within)

pub returns-then-node-from : goal.returns-then-node-from
returns-then-node-from g c =
    let so_far = c.loop-before.invariant in
    let place = c.place_before.ensures in
    let walks = operates-as (operates-then so_far.walked c.in_ok-node.ensures.looks) (λ q. (q, q)) (λ q. (q, q))
    (λ before after h. record {
      same = h.second.same ∙ h.first.same;
      finds = λ held list.
          place-next c.in_ok-node.node c.place_before.result list (h.first.stands held list)
          (next-seen c.requires.fits c.loop-before-test.true c.node_object_in-object.ensures h list)
          place.link place.before place.node;
    }) in
    record {
      walks = walks;
      ready = ready-walked g.M.Mem c.args.region c.requires.ready
          (subst (IsInside c.args.region) (sym place.link) so_far.link) walks;
    }

pub loop-before-smaller : goal.loop-before-smaller
loop-before-smaller g c =
    let begin = c.args.region.first in
    let node = c.in_ok-node.node in
    let both = operates-then c.loop-before.invariant.walked c.in_ok-node.ensures.looks in
    let (map, admitted) = both.leads.admits in
    let (held, list) = c.requires.ready.lawful map (both.leads.narrows map admitted) in
    let h = both.does map admitted in
    let less : node.key < c.args.key = omega (arith, c.if-node-from.false, c.from.ensures) in
    subst (λ o. left begin c.args.key o node.key < left begin c.args.key c.loop-before.link c.loop-before.before.key)
    (sym c.node_object_in-object.ensures) (left-less node list (h.first.stands held list)
    (next-seen c.requires.fits c.loop-before-test.true c.node_object_in-object.ensures h list) less)

pub loop-before-preserved : goal.loop-before-preserved
loop-before-preserved g c =
    let region = c.args.region in
    let walked = c.loop-before.invariant.walked in
    let node = c.in_ok-node.node in
    let (some, allowed) = walked.leads.admits in
    let (some_store, some_list) = c.requires.ready.lawful some (walked.leads.narrows some allowed) in
    let within = next_within some_list ((walked.does some allowed).stands some_store some_list) in
    let less : node.key < c.args.key = omega (arith, c.if-node-from.false, c.from.ensures) in
    record {
      walked = operates-as (operates-then walked c.in_ok-node.ensures.looks) (λ q. (q, q)) (λ q. (q, q))
          (λ before after h. record {
            same = h.second.same ∙ h.first.same;
            stands = λ held list.
                subst (λ o. Stands region.first c.args.key o node list.cells) (sym c.node_object_in-object.ensures)
                (stands-on (h.first.stands held list)
                (next-seen c.requires.fits c.loop-before-test.true c.node_object_in-object.ensures h list) less);
          });
      link = subst (IsInside region) (sym c.node_object_in-object.ensures)
          (node-of_list region c.loop-before.before.next c.requires.fits.some within);
    }

pub returns : goal.returns
returns g c =
    let so_far = c.loop-before.invariant in
    let walks = operates-as so_far.walked (λ q. q) (λ q. q) (λ before after h. record {
      same = h.same;
      finds = λ held list. place-end list (h.stands held list) c.loop-before-test.false;
    }) in
    record { walks = walks; ready = ready-walked g.M.Mem c.args.region c.requires.ready so_far.link walks }
