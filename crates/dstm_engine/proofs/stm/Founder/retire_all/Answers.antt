use Rattle.std.proofs.Common.{◌≡◌, ◌∙◌, ◌+◌, Some, ap, arith, length, refl}
use Rattle.std.proofs.lemmas.List.{length_push}
use Rattle.std.proofs.lemmas.List.Elements.{All-pop}
use Rattle.dstm_machines.proofs.Pasts.{past_past, past_self}
use Rattle.dstm_engine.specs.Companies.{IsOfTable}
use Rattle.dstm_engine.specs.Tables.{Founding}
use Rattle.dstm_engine.proofs.Companies.{all_retired, none_gone, one_is_gone, retired_seen}
use Rattle.dstm_engine.proofs.stm.Founder.retire_all.Goals as goal

pub loop-caller-init : goal.loop-caller-init
loop-caller-init g c = record {
  callers = c.requires.callers;
  table = c.requires.table;
  guests = refl;
  made = refl;
  past = past_self c.args.self.now.view.log;
  gone = none_gone c.args.self.now.view c.args.callers.items;
  left = c.requires.out;
  out = refl;
}

pub take_back-requires-clause-caller : goal.take_back-requires-clause-caller
take_back-requires-clause-caller g c =
    (All-pop (IsOfTable c.args.stm.now) c.loop-caller.callers.items c.pop.new.self.items (Some c.in-Some.caller)
    c.in-Some.ensures.items c.loop-caller.invariant.callers).1

pub loop-caller-preserved : goal.loop-caller-preserved
loop-caller-preserved g c =
    let before = c.loop-caller.invariant in
    let left = c.pop.new.self.items in
    let one : length c.loop-caller.callers.items ≡ length left + 1 =
    ap length c.in-Some.ensures.items ∙ length_push left c.in-Some.caller in
    let of_table = All-pop (IsOfTable c.args.stm.now) c.loop-caller.callers.items left (Some c.in-Some.caller)
    c.in-Some.ensures.items before.callers in
    let retired = c.take_back.ensures.retired in
    let now = c.loop-caller.self.view.log in
    let new = c.take_back.new.self.view.log in
    let taken : c.loop-caller.self.view.out ≡ c.take_back.new.self.view.out + 1 = c.take_back.ensures.out in
    record {
      callers = of_table.0;
      table = c.take_back.ensures.table;
      guests = c.take_back.ensures.guests ∙ before.guests;
      made = ap (λ (f : Founding _). f.made) retired.founder ∙ before.made;
      past = past_past c.args.self.now.view.log now new before.past retired.joined.past;
      gone =
          one_is_gone c.args.callers.items c.loop-caller.callers.items left c.in-Some.caller c.in-Some.ensures.items
          of_table.1 retired before.gone;
      left = omega (arith, one, taken, before.left);
      out = omega (arith, one, taken, before.out);
    }

pub returns-clause-retired : goal.returns-clause-retired
returns-clause-retired g c =
    all_retired c.loop-caller.self.view c.args.callers.items c.loop-caller.callers.items
    (omega (arith, c.loop-caller.callers.ok, c.in_default.ensures.cases)) c.loop-caller.invariant.gone

pub returns-clause-seen : goal.returns-clause-seen
returns-clause-seen g c =
    retired_seen c.loop-caller.self.view.log c.args.callers.items
    (all_retired c.loop-caller.self.view c.args.callers.items c.loop-caller.callers.items
    (omega (arith, c.loop-caller.callers.ok, c.in_default.ensures.cases)) c.loop-caller.invariant.gone)
