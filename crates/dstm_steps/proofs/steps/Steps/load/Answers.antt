use Rattle.std.proofs.Common.{ap, refl}
use Rattle.dstm_steps.specs.declared.steps.Steps.{Steps}
use Rattle.dstm_steps.specs.Under.{now}
use Rattle.dstm_steps.proofs.Stepping.{load_mirror, past_went}
use Rattle.dstm_steps.proofs.steps.Steps.load.Goals as goal

pub returns-clause-under : goal.returns-clause-under
returns-clause-under g c =
    let rest = c.look.ensures.rest in
    let m = c.requires.under.mirror in
    c.look.ensures.went.goes_on c.look.new.self refl (record {
      shape = ap (λ (s : Steps g.row.L.Denot). s.shape) rest;
      manager = ap (λ (s : Steps g.row.L.Denot). s.decider.manager) rest;
      mirror = load_mirror c.args.kind c.args.words.now.terms.shape c.look.new.self
          (now c.args.words.now c.args.self.now) _ c.requires.loads
          (record { own = rw rest m.own; installed = rw rest m.installed; rank = rw rest m.rank });
      effort = rw rest (c.requires.steady _);
    })

pub returns-clause-past : goal.returns-clause-past
returns-clause-past g c = past_went c.look.ensures.went
