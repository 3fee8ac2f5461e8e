use Rattle.std.proofs.Common.{◌∙◌, ◌≡◌, ap, subst, sym, true}
use Rattle.dstm_engine.proofs.Base.{Work}
use Rattle.dstm_engine.proofs.Handing.{reading_all, reading_some}
use Rattle.dstm_engine.specs.Callers.{Called, shape_of}
use Rattle.dstm_engine.specs.Opens.{Opens, Stops}
use Rattle.dstm_engine.proofs.caller.Caller.first_kept.Goals as goal

pub returns-then-self-clause-opens : goal.returns-then-self-clause-opens
returns-then-self-clause-opens g c = λ live.
    subst (λ (w : Work). Opens g.L.Law.holds w c.args.o c.args.self.now c.write_kept.new.self c.write_kept.result)
    (reading_all (shape_of c.args.self.now) c.args.o
    (ap (λ (k : Called _). (shape_of k).all_write) (sym c.self.view_is) ∙ c.if-self.true))
    (c.write_kept.ensures.opens live)

pub returns-then-self-clause-unmarked : goal.returns-then-self-clause-unmarked
returns-then-self-clause-unmarked g c = λ live none.
    let all : (shape_of c.args.self.now).all_write ≡ true =
    ap (λ (k : Called _). (shape_of k).all_write) (sym c.self.view_is) ∙ c.if-self.true in absurd (cc)

pub returns-then-self-clause-stops : goal.returns-then-self-clause-stops
returns-then-self-clause-stops g c = λ dead.
    let s = c.write_kept.ensures.stops dead in (
      s.0,
      subst (λ (w : Work). Stops g.L.Law.holds w c.args.self.now c.write_kept.new.self s.0)
          (reading_all (shape_of c.args.self.now) c.args.o
          (ap (λ (k : Called _). (shape_of k).all_write) (sym c.self.view_is) ∙ c.if-self.true)) s.1,
    )

pub returns-else-self-clause-opens : goal.returns-else-self-clause-opens
returns-else-self-clause-opens g c = λ live.
    subst (λ (w : Work). Opens g.L.Law.holds w c.args.o c.args.self.now c.read_kept.new.self c.read_kept.result)
    (reading_some (shape_of c.args.self.now) c.args.o
    (ap (λ (k : Called _). (shape_of k).all_write) (sym c.self.view_is) ∙ c.if-self.false))
    (c.read_kept.ensures.opens live)

pub returns-else-self-clause-stops : goal.returns-else-self-clause-stops
returns-else-self-clause-stops g c = λ dead.
    let s = c.read_kept.ensures.stops dead in (
      s.0,
      subst (λ (w : Work). Stops g.L.Law.holds w c.args.self.now c.read_kept.new.self s.0)
          (reading_some (shape_of c.args.self.now) c.args.o
          (ap (λ (k : Called _). (shape_of k).all_write) (sym c.self.view_is) ∙ c.if-self.false)) s.1,
    )
