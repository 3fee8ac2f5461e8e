use Rattle.std.proofs.Common.{refl, arith, inl}
use Rattle.dstm_steps.proofs.Ranged.{owner_fits, word_below, word_fits}
use Rattle.dstm_steps.proofs.steps.Steps.look_owner.Goals as goal

pub overflow_cast-locator : goal.overflow_cast-locator
overflow_cast-locator g c = let fits = word_fits c.requires.runs.under c.requires.runs.running c.requires.word in omega arith

pub owner-place-requires-clause-below : goal.owner-place-requires-clause-below
owner-place-requires-clause-below g c = word_below c.requires.runs.under c.requires.runs.running c.requires.word

pub overflow_cast-result : goal.overflow_cast-result
overflow_cast-result g c =
    let state = c.load.ensures.state in
    let fits = owner_fits c.load.ensures.under {owner = c.load.result} (inl (rw state c.requires.runs.running.phase))
    (rw state c.requires.runs.running.agreed) (rw state refl) (rw (state, c.requires.fresh) (omega arith)) in omega arith
