use Rattle.std.proofs.Common.{◌≡◌, ◌<◌, ◌+◌, refl, ap, subst, arith, inr, length}
use Rattle.dstm_core.specs.declared.event.Kind.TheVariants.{PutHigh}
use Rattle.dstm_core.specs.State.{LocalState}
use Rattle.dstm_steps.specs.Under.{now, work_of}
use Rattle.dstm_steps.specs.Writes.{ArePut, value_in}
use Rattle.dstm_steps.proofs.PutLoop.{NextPut, ready, next_put, numbered, lawful_put, puts_more, puts_all, value_of}
use Rattle.dstm_machines.proofs.Pasts.{past_past}
use Rattle.dstm_steps.proofs.Ranged.{few_locators, in_word}
use Rattle.dstm_steps.proofs.Stepping.{under_is}
use Rattle.dstm_steps.proofs.steps.Steps.put_values.Given.{Over}
use Rattle.dstm_steps.proofs.steps.Steps.put_values.Goals.{After-put_high, In-loop-i}
use Rattle.dstm_steps.proofs.steps.Steps.put_values.Goals as goal

-- the write whose value is put next, before its high part is put and after it
next_before : (g : Over) (c : In-loop-i g) →
    NextPut (now c.args.words.now c.loop-i.self) (value_in (work_of g.B.InCall.began.task)) (c.args.first + c.loop-i.i)
    (value_of c.args.writes.now c.loop-i.i)
next_before g c =
    next_put _ _ _ c.args.first c.args.writes.now c.loop-i.i c.requires.slots
    (numbered c.requires.can.under c.requires.can.first_is) c.requires.values c.loop-i.invariant.writes c.loop-i.invariant.written
    c.loop-i-test.true

next_between : (g : Over) (c : After-put_high g) →
    NextPut (now c.args.words.now c.put_high.new.self) (value_in (work_of g.B.InCall.began.task))
    (c.args.first + c.loop-i.i) (value_of c.args.writes.now c.loop-i.i)
next_between g c =
    let state = c.put_high.ensures.state in
    next_put _ _ _ c.args.first c.args.writes.now c.loop-i.i c.requires.slots
    (numbered c.requires.can.under c.requires.can.first_is) c.requires.values (rw state c.loop-i.invariant.writes)
    (rw state c.loop-i.invariant.written) c.loop-i-test.true

-- its locator is a small number
locator_fits : (g : Over) (c : In-loop-i g) → c.args.first + c.loop-i.i < 4294967296
locator_fits g c =
    let n = next_before g c in
    let few = few_locators c.args.words.now.terms.shape c.requires.can.under.run.valid in
    let below = rw n.locator_is at (in_word c.loop-i.invariant.under PutHigh (λ q. absurd (cc))
    (c.loop-i.invariant.phase, c.loop-i.invariant.agreed, n.left, c.loop-i.invariant.none)) in
    omega arith

pub overflow_cast-locator : goal.overflow_cast-locator
overflow_cast-locator g c = let fits = locator_fits g (goal.at.overflow_cast-locator g c).In-loop-i in omega arith

pub overflow_add-locator : goal.overflow_add-locator
overflow_add-locator g c = let fits = locator_fits g (goal.at.overflow_add-locator g c).In-loop-i in omega arith

pub put_high-requires-clause-under : goal.put_high-requires-clause-under
put_high-requires-clause-under g c =
    let n = next_before g (goal.at.put_high-requires-clause-under g c).In-loop-i in
    under_is c.loop-i.invariant.under (rw c.to_put-value.ensures (n.high c.loop-i.invariant.none)) refl

pub put_high-requires-clause-next : goal.put_high-requires-clause-next
put_high-requires-clause-next g c =
    ((next_before g (goal.at.put_high-requires-clause-next g c).In-loop-i).left, c.loop-i.invariant.none)

pub put_high-requires-clause-locator : goal.put_high-requires-clause-locator
put_high-requires-clause-locator g c =
    (next_before g (goal.at.put_high-requires-clause-locator g c).In-loop-i).locator_is

pub put_low-requires-clause-under : goal.put_low-requires-clause-under
put_low-requires-clause-under g c =
    let n = next_between g (goal.at.put_low-requires-clause-under g c).After-put_high in
    under_is c.put_high.ensures.under (rw c.to_put-value.ensures (n.low (rw c.put_high.ensures.state refl))) refl

pub put_low-requires-clause-next : goal.put_low-requires-clause-next
put_low-requires-clause-next g c = (
  (next_between g (goal.at.put_low-requires-clause-next g c).After-put_high).left,
  rw c.put_high.ensures.state refl,
)

pub put_low-requires-clause-locator : goal.put_low-requires-clause-locator
put_low-requires-clause-locator g c =
    (next_between g (goal.at.put_low-requires-clause-locator g c).After-put_high).locator_is

pub put_low-requires-clause-lawful : goal.put_low-requires-clause-lawful
put_low-requires-clause-lawful g c =
    let high = c.put_high.ensures in
    rw c.to_put-value.ensures
    (lawful_put c.loop-i.invariant c.requires.can.under high.under (λ q. let p = c.requires.can.running.phase in cc)
    c.requires.slots (numbered c.requires.can.under c.requires.can.first_is) c.requires.lawful high.puts.past high.state
    (rw c.to_put-value.ensures at high.puts.put))

pub loop-i-preserved : goal.loop-i-preserved
loop-i-preserved g c =
    let high = c.put_high.ensures in
    let low = c.put_low.ensures in
    let inv = c.loop-i.invariant in
    record {
      under = low.under;
      phase = inr (rw low.state refl);
      begun = λ q. absurd (let p = ap (λ (l : LocalState). l.phase) low.state in cc);
      agreed = rw (low.state, high.state) inv.agreed;
      uncommitted = rw (low.state, high.state) inv.uncommitted;
      reads = rw (low.state, high.state) inv.reads;
      writes = rw (low.state, high.state) inv.writes;
      last = rw (low.state, high.state) inv.last;
      written = rw (low.state, high.state) (ap (λ n. n + 1) inv.written);
      none = rw low.state refl;
      past = past_past _ _ _ inv.past (past_past _ _ _ high.puts.past low.puts.past);
      put = puts_more inv c.put_high.new.self c.put_low.new.self high.puts.past low.puts.past
          (rw c.to_put-value.ensures at high.puts.put) (rw c.to_put-value.ensures at low.puts.put);
      tries = low.puts.tries;
    }

pub returns-clause-under : goal.returns-clause-under
returns-clause-under g c =
    let inv = c.loop-i.invariant in
    under_is inv.under (puts_all inv c.requires.slots c.loop-i.auto.i-end c.loop-i-test.false) refl

pub returns-clause-put : goal.returns-clause-put
returns-clause-put g c =
    let i : c.loop-i.i ≡ length c.args.writes.now =
    (let a = c.loop-i.auto.i-end in let b = c.loop-i-test.false in omega arith) in
    subst (ArePut c.args.words.now c.loop-i.self c.args.first c.args.writes.now) i c.loop-i.invariant.put

pub returns-clause-ready : goal.returns-clause-ready
returns-clause-ready g c = ready c.loop-i.invariant c.requires.slots c.loop-i.auto.i-end c.loop-i-test.false
