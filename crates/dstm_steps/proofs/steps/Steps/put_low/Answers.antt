use Rattle.std.proofs.Common.{refl, ap, ◌∙◌, inr}
use Rattle.dstm_core.specs.declared.event.Kind.TheVariants.{PutNew}
use Rattle.dstm_core.specs.Words.Word.{LowWord}
use Rattle.dstm_core.specs.Words.{place}
use Rattle.dstm_steps.proofs.Puts.{holds_put}
use Rattle.dstm_steps.proofs.Ranged.{in_word}
use Rattle.dstm_steps.proofs.Stepping.{past_went}
use Rattle.dstm_steps.proofs.steps.Steps.put_low.Goals as goal

pub new_cell-place-requires-clause-below : goal.new_cell-place-requires-clause-below
new_cell-place-requires-clause-below g c =
    rw c.requires.under.shape (rw c.requires.locator at (in_word c.requires.under PutNew (λ q. absurd (cc))
    (c.requires.live.0, c.requires.live.1, c.requires.next.0, c.requires.next.1)))

pub returns-clause-puts : goal.returns-clause-puts
returns-clause-puts g c = record {
  past = past_went c.store.ensures.went.1;
  put = holds_put (LowWord c.args.locator) c.store.ensures.went.1 (inr refl)
      (c.new_cell-place.ensures ∙ ap (λ s. place s (LowWord c.args.locator)) c.requires.under.shape) refl;
  tries = rw c.store.ensures.rest c.requires.tries;
}
