use Rattle.dstm_tl2_order.proofs.Disturbing as proofs
use Rattle.dstm_tl2_order.proofs.laws.answers_disturb.Goals as goal

pub returns : goal.returns
returns c = λ t c log before events again own attempt gives.
    proofs.answers_disturb t c log before events again own attempt gives
