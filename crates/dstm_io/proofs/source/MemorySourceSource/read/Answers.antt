use Rattle.std.proofs.Common.{rules, sym, ap, ◌∙◌, subst, refl, Contains}
use Rattle.std.proofs.lemmas.List.{places}
use Rattle.dstm_io.specs.MemorySource.{SourceState}
use Rattle.dstm_io.proofs.Progress.{split_at_read}
use Rattle.dstm_io.proofs.source.MemorySourceSource.read.Goals as goal

pub returns-clause-taken : goal.returns-clause-taken
returns-clause-taken c =
    sym (ap (λ (source : SourceState). source.left) c.self.view_is)
    ∙ split_at_read _ c.copy_from_slice.new.self _ c.self.inside.position c.min-count.result
    (search (rules, places)) (search (rules, places))

pub returns-then-next_call_fails-clause-fails : goal.returns-then-next_call_fails-clause-fails
returns-then-next_call_fails-clause-fails c =
    let named = c.if-next_call_fails.ensures.named.0 refl in
    (λ _. subst (λ (source : SourceState). Contains source.fail_at source.calls) c.self.view_is named, λ _. refl)
