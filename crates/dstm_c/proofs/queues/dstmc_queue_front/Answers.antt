use Rattle.std.proofs.Common.{false, rules}
use Rattle.dstm_model.specs.contracts.value.AnyLawLaw.TheImpl as TheLaw
use Rattle.dstm_structures.specs.Queues.{OpensToFront}
use Rattle.dstm_c.specs.Structures.{pair_of}
use Rattle.dstm_c.proofs.Calling.{looks_at, names, names_none, opens_at, within_opens}
use Rattle.dstm_c.proofs.queues.dstmc_queue_front.Goals as goal

pub returns-in_default : goal.returns-in_default
returns-in_default c = names_none _ _ _ _ _ _ _ c.in_default.ensures c.number.ensures.is

pub returns : goal.returns
returns c =
    let holds = (TheLaw.holds-value).it in
    let queue = c.in-Some.queue in
    names _ _ _ _ _ _ _ queue _ _ _ _ _ _ c.in-Some.ensures c.on-answer.ensures
    (λ t u called. within_opens holds _ _ false (OpensToFront pair_of queue holds) _ _ t u _
    (λ told call. (
      looks_at holds _ _ _ _ (λ p q told post. search rules)
          t.tx u.tx told call,
      opens_at holds _ _ (OpensToFront pair_of queue holds) (λ p q told post. search rules) t.tx u.tx told call,
    ))
    called)
    c.tell_value.ensures
