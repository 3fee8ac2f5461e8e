use Rattle.dstm_list.proofs.Layouts.{starts, adds}
use Rattle.dstm_list.proofs.layout.insert.Goals as goal

pub insert_in-requires : goal.insert_in-requires
insert_in-requires g c = assumption (starts c.list_region.ensures c.requires.valid c.requires.fits.0 c.requires.ready)

pub returns : goal.returns
returns g c = let done = c.in_ok-reply.ensures in
    assumption (adds c.args.layout.now _ c.list_region.ensures c.requires.fits.0 done.applies done.few)
