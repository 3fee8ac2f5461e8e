use Rattle.std.proofs.Common.{false, rules}
use Rattle.dstm_model.specs.contracts.value.AnyLawLaw.TheImpl as TheLaw
use Rattle.dstm_c.proofs.Calling.{looks_at, names, names_none, within}
use Rattle.dstm_c.proofs.maps.dstmc_map_len.Goals as goal

pub returns-in_default : goal.returns-in_default
returns-in_default c = names_none _ _ _ _ _ _ _ c.in_default.ensures c.number.ensures.is

pub returns : goal.returns
returns c = names _ _ _ _ _ _ _ c.in-Some.map _ _ _ _ _ _ c.in-Some.ensures c.on-answer.ensures
    (λ t u called. within (TheLaw.holds-value).it _ _ false _ _ t u _
    (looks_at (TheLaw.holds-value).it _ _ _ _ (λ p q told post. record { goes = search rules; stops = search rules; does = search rules; together = search rules; may = search rules }) t.tx u.tx) called)
    c.tell_count.ensures
