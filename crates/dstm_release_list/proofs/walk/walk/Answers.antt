use Rattle.std.proofs.Common.{◌<◌, arith, sym, subst}
use Rattle.dstm_region.specs.Region.{IsInside}
use Rattle.dstm_list.proofs.Steps.{left, node-of_list, next_within, left-less, place-next, place-end}
use Rattle.dstm_list.proofs.Walked.{walks-by, ready-walked}
use Rattle.dstm_release_list.proofs.Walking.{Advanced, Laws, walking-on, stepped, stands-held, next-held, at-map}
use Rattle.dstm_release_list.proofs.Walking.{adds-next, adds-end}
use Rattle.dstm_release_list.proofs.walk.walk.Given as given
use Rattle.dstm_release_list.proofs.walk.walk.Goals.{After-let_go}
use Rattle.dstm_release_list.proofs.walk.walk.Goals as goal

laws : (g : given.Over) → Laws g.M.Mem g.M.Release.Began
laws g = record {
  sizes = g.met.M.Mem.admitted_length;
  agrees = g.met.M.Mem.admitted_agrees;
  exactly = g.met.M.Release.admits_exactly;
  stays = g.met.M.Release.began_stays;
}

-- the step of an iteration
gone_on : (g : given.Over) (c : After-let_go g) → Advanced g.M.Mem c.args.region c.args.key c.args.mem.now c.let_go.new.mem
    c.in_ok-head.head c.loop-last.behind c.loop-last.last c.in_ok-next.next
gone_on g c =
    stepped g.M.Mem c.args.mem.now c.args.region (laws g) c.requires.ready c.requires.fits c.requires.fits.some
    c.loop-last.invariant c.loop-last-test.true c.node_object_in.ensures c.in_ok-next.ensures.visits
    c.in_ok-next.ensures.leads c.in_ok-next.ensures.looks c.let_go.ensures.lets c.let_go.ensures.gone

pub visit-requires-in-loop-last-clause-exists : goal.visit-requires-in-loop-last-clause-exists
visit-requires-in-loop-last-clause-exists g c =
    let so_far = c.loop-last.invariant in
    let region = c.args.region in
    let leads = so_far.way.leads in
    let (map, admitted) = leads.admits in
    let (held, list) = c.requires.ready.lawful map (leads.narrows map admitted) in
    let at = at-map g.M.Mem c.args.mem.now region (laws g) c.requires.ready c.requires.fits c.requires.fits.some
    so_far.way admitted list in
    let stands = stands-held c.args.key c.in_ok-head.head at so_far.head_at so_far.last_seen so_far.anchored in
    let within = node-of_list region c.loop-last.last.node.next c.requires.fits.some (next_within list stands) in
    omega (arith, within, c.node_object_in.ensures, leads.objects, c.requires.ready.objects)

pub returns-then-next-from : goal.returns-then-next-from
returns-then-next-from g c =
    let so_far = c.loop-last.invariant in
    let step = gone_on g (goal.at.returns-then-next-from g c).After-let_go in
    let region = c.args.region in
    let last = c.loop-last.last in
    let next = c.in_ok-next.next in
    let place = c.place_before.ensures in
    let walks = walks-by g.M.Mem region c.args.key c.place_before.result step.stops.way.leads step.stops.way.looks
    step.stops.way.holds
    step.stops.way.opens (λ map admitted held list.
    let at = at-map g.M.Mem c.args.mem.now region (laws g) c.requires.ready c.requires.fits c.requires.fits.some
    step.stops.way admitted list in
    let stands = stands-held c.args.key c.in_ok-head.head at so_far.head_at step.stops.last_seen step.stops.anchored in
    place-next next.node c.place_before.result list stands
    (next-held last at stands step.stops.next_seen step.stops.next_at c.loop-last-test.true) place.link place.before
    place.node) in
    record {
      walks = walks;
      ready = ready-walked g.M.Mem region c.requires.ready (subst (IsInside region) (sym place.link) so_far.last_in)
          walks;
      adds = adds-next g.M.Mem c.args.mem.now region
          c.place_before.result step place.link place.before;
    }

pub loop-last-smaller : goal.loop-last-smaller
loop-last-smaller g c =
    let so_far = c.loop-last.invariant in
    let step = gone_on g (goal.at.loop-last-smaller g c).After-let_go in
    let last = c.loop-last.last in
    let next = c.in_ok-next.next in
    let begin = c.args.region.first in
    let (map, admitted) = step.stops.way.leads.admits in
    let (held, list) = c.requires.ready.lawful map (step.stops.way.leads.narrows map admitted) in
    let at = at-map g.M.Mem c.args.mem.now c.args.region (laws g) c.requires.ready c.requires.fits
    c.requires.fits.some step.stops.way admitted list in
    let stands = stands-held c.args.key c.in_ok-head.head at so_far.head_at step.stops.last_seen step.stops.anchored in
    let ahead = next-held last at stands step.stops.next_seen step.stops.next_at c.loop-last-test.true in
    let less : next.node.key < c.args.key = omega (arith, c.if-next-from.false, c.from.ensures) in
    subst (λ o. left begin c.args.key o next.node.key < left begin c.args.key last.object last.node.key)
    (sym step.stops.next_at) (left-less next.node list stands ahead less)

pub loop-last-preserved : goal.loop-last-preserved
loop-last-preserved g c =
    let so_far = c.loop-last.invariant in
    let step = gone_on g (goal.at.loop-last-preserved g c).After-let_go in
    let next = c.in_ok-next.next in
    let less : next.node.key < c.args.key = omega (arith, c.if-next-from.false, c.from.ensures) in
    walking-on g.M.Mem c.args.mem.now c.args.region c.unless_at-behind.result c.requires.fits.some so_far
    c.loop-last-test.true step
    less c.unless_at-behind.ensures.none c.unless_at-behind.ensures.some

pub returns : goal.returns
returns g c =
    let so_far = c.loop-last.invariant in
    let region = c.args.region in
    let way = so_far.way in
    let walks = walks-by g.M.Mem region c.args.key _ way.leads way.looks way.holds way.opens (λ map admitted held list.
    let at = at-map g.M.Mem c.args.mem.now region (laws g) c.requires.ready c.requires.fits c.requires.fits.some way
    admitted list in
    place-end list (stands-held c.args.key c.in_ok-head.head at so_far.head_at so_far.last_seen so_far.anchored)
    c.loop-last-test.false) in
    record {
      walks = walks;
      ready = ready-walked g.M.Mem region c.requires.ready so_far.last_in walks;
      adds = adds-end g.M.Mem c.args.mem.now region c.args.key c.in_ok-head.head c.loop-last.behind c.loop-last.last
          so_far;
    }
