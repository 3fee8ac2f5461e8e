use Rattle.std.proofs.Common.{refl, ap, ◌∙◌, inl}
use Rattle.dstm_core.specs.declared.event.Kind.TheVariants.{PutHigh}
use Rattle.dstm_core.specs.Words.Word.{HighWord}
use Rattle.dstm_core.specs.Words.{place}
use Rattle.dstm_steps.proofs.Puts.{holds_put}
use Rattle.dstm_steps.proofs.Ranged.{in_word}
use Rattle.dstm_steps.proofs.Stepping.{past_went}
use Rattle.dstm_steps.proofs.steps.Steps.put_high.Goals as goal

pub high_cell-place-requires-clause-below : goal.high_cell-place-requires-clause-below
high_cell-place-requires-clause-below g c =
    rw c.requires.under.shape (rw c.requires.locator at (in_word c.requires.under PutHigh (λ q. absurd (cc))
    (c.requires.live.0, c.requires.live.1, c.requires.next.0, c.requires.next.1)))

pub returns-clause-puts : goal.returns-clause-puts
returns-clause-puts g c = record {
  past = past_went c.store.ensures.went.1;
  put = holds_put (HighWord c.args.locator) c.store.ensures.went.1 (inl refl)
      (c.high_cell-place.ensures ∙ ap (λ s. place s (HighWord c.args.locator)) c.requires.under.shape) refl;
  tries = rw c.store.ensures.rest c.requires.tries;
}
