use Rattle.std.proofs.Common.{◌+◌, ◌++◌, ◌*◌, ◌∙◌, ◌∷◌, ap, refl}
use Rattle.dstm_machines.specs.Traces.Access.{Load}
use Rattle.dstm_tl2.specs.declared.kind.Kind.TheVariants.{Sample}
use Rattle.dstm_seats.specs.Seats.{event_by}
use Rattle.dstm_tl2_words.specs.Seats.{number_or, view_of}
use Rattle.dstm_tl2_steps.specs.declared.steps.Steps.{Steps}
use Rattle.dstm_tl2_steps.proofs.Stepping.{number_of, went_by}
use Rattle.dstm_tl2_steps.proofs.steps.Steps.begin.Goals as goal

pub returns : goal.returns
returns g c =
    let old : Steps g.row.L.Denot = c.args.self.now in
    record {
      went = went_by Load c.requires.under c.load-self.ensures.event refl
          (c.clock-clock.ensures ∙ ap (λ n. 3 * n + 1) c.requires.under.places) c.load-self.ensures.seat refl refl refl;
      top = (
        c.load-self.ensures.event.log.0 ++ (view_of old.seat).log,
        c.load-self.ensures.event.log.1
            ∙ ap (λ number. event_by Load (number_or number c.load-self.result) Sample c.clock-clock.result c.load-self.result
            ∷ c.load-self.ensures.event.log.0 ++ (view_of old.seat).log) (number_of c.requires.under)
            ∙ ap (λ p. event_by Load g.B.InCall.began.number Sample p c.load-self.result
            ∷ c.load-self.ensures.event.log.0 ++ (view_of old.seat).log)
            (c.clock-clock.ensures ∙ ap (λ n. 3 * n + 1) c.requires.under.places),
      );
    }
