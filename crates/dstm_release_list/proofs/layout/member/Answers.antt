use Rattle.dstm_list.proofs.Layouts.{starts, tells}
use Rattle.dstm_release_list.proofs.layout.member.Goals as goal

pub member_in-requires : goal.member_in-requires
member_in-requires g c = assumption (starts c.list_region.ensures c.requires.valid c.requires.fits.0 c.requires.ready)

pub returns-clause-applies : goal.returns-clause-applies
returns-clause-applies g c =
    tells c.args.layout.now _ c.list_region.ensures c.requires.fits.0 c.in_ok-reply.ensures.applies
