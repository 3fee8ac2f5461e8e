use Rattle.std.proofs.Common.{◌≡◌, ◌%◌, ℕ, rules, subst}
use Rattle.std.specs.Prelude.{IfOk}
use Rattle.dstm_model.specs.contracts.value.AnyLawLaw.TheImpl as TheLaw
use Rattle.dstm_structures.specs.Effects.{Does}
use Rattle.dstm_structures.specs.Pools.{OpensToTake, Takes, end_of}
use Rattle.dstm_c.specs.Structures.{pair_of}
use Rattle.dstm_c.proofs.Calling.{OpensAs, again_in, names, names_none, opens_at, sets_at, within_opens}
use Rattle.dstm_c.proofs.pools.dstmc_pool_take.Goals as goal

pub returns-in_default : goal.returns-in_default
returns-in_default c = names_none _ _ _ _ _ _ _ c.in_default.ensures c.number.ensures.is

pub returns : goal.returns
returns c =
    let pool = c.in-Some.pool in
    let k : ℕ = pool.cells.capacity in
    let same : c.place_in-start.result % k ≡ c.args.from % k =
    again_in c.args.from c.args.cells k c.place_in-start.result pool.cells.some c.in-Some.ensures.1 c.place_in-start.ensures in
    let holds = (TheLaw.holds-value).it in
    names _ _ _ _ _ _ _ pool _ _ _ _ _ _ c.in-Some.ensures c.on-answer.ensures
    (λ t u called. within_opens holds _ _ _ (OpensToTake pool holds (c.args.from % k)) _ _ t u _
    (λ told call. (
      sets_at holds _ _ _ _
          (λ p q told post. record {
            goes = search rules;
            stops = search rules;
            does =
                subst (λ (x : ℕ). IfOk told (λ a. Does holds (end_of pool) (Takes pool pair_of x (c.args.low, c.args.high) a)
                p.now.attempts.caller q.now.attempts.caller)) same (search rules);
            together = search rules;
            may = search rules;
          })
          t.tx u.tx told call,
      opens_at holds _ _ (OpensToTake pool holds (c.args.from % k))
          (λ p q told post.
          subst (λ (x : ℕ). IfOk told (λ a. OpensToTake pool holds x a p.now.attempts.caller q.now.attempts.caller)) same
          (search rules))
          t.tx u.tx told call,
    ))
    called)
    c.tell_cell.ensures
