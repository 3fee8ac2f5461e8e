use Rattle.std.proofs.Common.{◌≡◌, ◌∙◌, ◌+◌, ap, arith, length, rules, subst, sym}
use Rattle.std.proofs.lemmas.List.{length_push}
use Rattle.dstm_engine.specs.Companies.{AreNew, IsNew}
use Rattle.dstm_engine.proofs.Companies.{new_push}
use Rattle.dstm_engine.proofs.stm.Founder.callers.Goals as goal

pub loop-seed-preserved : goal.loop-seed-preserved
loop-seed-preserved g c =
    let before = c.loop-seed.invariant in
    let table = c.args.stm.now in
    let callers = c.loop-seed.callers.items in
    let one : length c.push_reserved.new.self.items ≡ length callers + 1 =
    ap length c.push_reserved.ensures.items ∙ length_push callers c.in-Ok.caller in
    record {
      callers = subst (AreNew g.L.Law.holds table) (sym c.push_reserved.ensures.items)
          (new_push callers before.callers
          (subst (λ n. IsNew g.L.Law.holds table n c.in-Ok.caller) (sym before.count) c.in-Ok.ensures.caller));
      out = record {
        home = c.in-Ok.ensures.out.home ∙ before.out.home;
        guests = c.in-Ok.ensures.out.guests ∙ before.out.guests;
        made = (let now = c.in-Ok.ensures.out.made in let then = before.out.made in omega (arith, one, now, then));
        out = (let now = c.in-Ok.ensures.out.out in let then = before.out.out in omega (arith, one, now, then));
      };
      count = (let then = before.count in omega (arith, one, then));
      room = search rules;
    }
