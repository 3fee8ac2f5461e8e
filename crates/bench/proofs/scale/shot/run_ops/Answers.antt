use Rattle.std.proofs.Common.{◌∙◌, subst, sym}
use Rattle.dstm_mem.proofs.Operations.{leads-answers, leads-none, leads-then}
use Rattle.dstm_store.specs.Whole.{IsLawful}
use Rattle.bench.specs.declared.scale.load.TheConstants.{LAYOUT}
use Rattle.bench.proofs.scale.shot.run_ops.Goals as goal

pub loop-place-init : goal.loop-place-init
loop-place-init g c =
    let M = g.M.Mem in
    let fresh = c.requires.fresh in
    let (map, admitted) = fresh.admits in
    let (store, stands) = c.requires.lawful map admitted in
    record {
      leads = leads-none M c.args.mem.now tt fresh.admits fresh.live;
      ready = record {
        objects = sym (g.met.M.Mem.admitted_length c.args.mem.now map admitted) ∙ stands.objects;
        live = fresh.live;
        lawful = λ one may. subst (IsLawful LAYOUT) (sym (fresh.untouched one)) (c.requires.lawful one may);
      };
    }

pub loop-place-preserved : goal.loop-place-preserved
loop-place-preserved g c =
    let M = g.M.Mem in
    let so_far = c.loop-place.invariant in
    let ran = c.in_ok-_reply.ensures in
    let leads = ran.applies.leads in
    record {
      leads = leads-answers M (leads-then M so_far.leads leads);
      ready = record { objects = leads.objects ∙ so_far.ready.objects; live = leads.live; lawful = ran.lawful };
    }
