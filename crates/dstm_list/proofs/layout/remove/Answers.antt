use Rattle.dstm_list.proofs.Layouts.{starts, takes}
use Rattle.dstm_list.proofs.layout.remove.Goals as goal

pub remove_in-requires : goal.remove_in-requires
remove_in-requires g c = assumption (starts c.list_region.ensures c.requires.valid c.requires.fits.0 c.requires.ready)

pub returns : goal.returns
returns g c = let done = c.in_ok-reply.ensures in
    assumption (takes c.args.layout.now _ c.list_region.ensures c.requires.fits.0 done.applies done.few)
