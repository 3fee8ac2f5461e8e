use Rattle.std.proofs.Common.{◌≡◌, subst}
use Rattle.dstm_model.specs.contracts.value.AnyLawLaw.TheImpl as TheLaw
use Rattle.dstm_handles.specs.Held.{ByPart, IsPart}
use Rattle.dstm_handles.specs.Threads.{GivesUp}
use Rattle.dstm_handles.specs.declared.code.Code.TheVariants.{Closed}
use Rattle.dstm_handles.specs.declared.held.Held.{Held}
use Rattle.dstm_c.proofs.Opening.{frees_part}
use Rattle.dstm_c.proofs.exports.dstmc_thread_free.Goals as goal

pub returns-else-is_memory : goal.returns-else-is_memory
returns-else-is_memory c =
    let code = c.abort-code.result in
    let last = c.abort-code.new.self in
    frees_part (TheLaw.holds-value).it _ _ c.in-Some.held.value last code _ c.in-Some.ensures.held
    (subst IsPart c.deref.ensures (c.is_memory.ensures.is_not c.if-is_memory.false))
    (subst (λ (h : Held). ByPart (λ old new. GivesUp (TheLaw.holds-value).it old new code) (code ≡ Closed) h last)
    c.deref_mut.ensures.value c.abort-code.ensures.gives_up)
    c.take.ensures.closed c.number-in-Some.ensures.is
