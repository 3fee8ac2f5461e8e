use Rattle.std.proofs.Common.{◌+◌, ◌∙◌, ap, refl}
use Rattle.dstm_machines.specs.Traces.Access.{Store}
use Rattle.dstm_tl2_steps.proofs.Stepping.{went_on}
use Rattle.dstm_tl2_steps.proofs.steps.Steps.write_low.Goals as goal

pub returns : goal.returns
returns g c = record {
  went = (
    c.store.ensures.event.0,
    went_on (Store c.args.low) c.requires.under c.store.ensures.event.1 refl
        (c.low-place.ensures ∙ ap (λ n. n + c.args.o) c.requires.under.places) c.store.ensures.seat (refl, refl) refl refl refl,
  );
  rest = refl;
}
