use Rattle.std.proofs.Common.{◌≡◌, ◌⊎◌, ℕ, ◌+◌, ◌<◌, true, List, length, take, get_or, arith, sym, ◌∙◌, ap, subst, inl, inr}
use Rattle.std.specs.Prelude.{IsSome, Contains, sum_by}
use Rattle.std.proofs.lemmas.List.{length_push, take_all}
use Rattle.std.proofs.lemmas.List.{take_more}
use Rattle.std.proofs.lemmas.List.Sums.{sum_by_more}
use Rattle.std.proofs.lemmas.List.Elements.{All-get_or, Contains-push_cases}
use Rattle.dstm_model.specs.declared.op.Op.{Op}
use Rattle.dstm_model.specs.declared.op.Op.TheVariants.{Transfer, Total}
use Rattle.dstm_model.specs.declared.reply.Reply.{Reply}
use Rattle.dstm_mem.specs.Memory.{with_set}
use Rattle.dstm_mem.specs.Operates.{IsLook, SetsAll}
use Rattle.dstm_mem.proofs.Operating.{untouched-then}
use Rattle.dstm_mem.proofs.Operations.{leads-answers, leads-then}
use Rattle.dstm_store.specs.declared.job.JobTask.{JobTask}
use Rattle.dstm_store.specs.Concerns.{Concerns}
use Rattle.dstm_store.specs.Job.{DoesAll}
use Rattle.dstm_store.specs.Keeps.{is_of_list, most_kept, TouchesAtMost}
use Rattle.dstm_store.specs.Opens.{OnlyLooksAt, SetsIfOpened}
use Rattle.dstm_store.proofs.Few.{touches-then, holds-touched}
use Rattle.dstm_store.proofs.Jobs.{up_to, does-more, does-all}
use Rattle.dstm_store.proofs.Opens.{of-more, only_read-then, only_read-one, opened_to_set-then, opened_to_set-one}
use Rattle.dstm_store.proofs.Parts.{lawful-after}
use Rattle.dstm_store.proofs.job.run_all.Goals as goal

pub loop-op-preserved : goal.loop-op-preserved
loop-op-preserved g c =
    let so_far = c.loop-op.invariant in
    let ran = c.in_ok-reply.ensures in
    let M = g.M.Mem in
    let task : JobTask = record { layout = c.args.layout.now; ops = c.args.ops.now } in
    let i = c.loop-op.op-index in
    let some_op = Transfer 0 0 0 in
    let below : i < length task.ops = c.loop-op-test.true in
    let op = get_or task.ops i some_op in
    let replies = c.loop-op.replies in
    let reply = c.in_ok-reply.reply in
    record {
      count = ap length c.push.ensures ∙ length_push replies reply ∙ ap (λ n. n + 1) so_far.count;
      leads = leads-answers M (leads-then M so_far.leads ran.applies.leads);
      lawful = λ map admitted.
          lawful-after c.args.layout.now op _ _ reply
          (so_far.lawful map (ran.applies.leads.narrows map admitted)) (ran.applies.does map admitted);
      done = λ map admitted.
          let start = with_set map (M.written c.args.mem.now) in
          let before = with_set map (M.written c.loop-op.mem) in
          let after = with_set map (M.written c.run_in_branch.new.mem) in
          subst (λ (rs : List Reply). DoesAll (up_to (i + 1) task) start after rs) (sym c.push.ensures)
          (does-more task i some_op start before after replies reply below
          (so_far.done map (ran.applies.leads.narrows map admitted)) (ran.applies.does map admitted));
      audits = λ has a within.
          elim (Contains-push_cases (take i task.ops) op Total
          (subst (λ ops. Contains ops Total) (take_more task.ops i some_op below) has)) [
            | inl before ↦
                let held = so_far.audits before a within in
                subst IsSome (sym (ran.applies.leads.holds a held)) held
            | inr is ↦ ran.audits is a within
          ];
      few = λ lets reads all.
          let is = All-get_or (λ op. is_of_list op ≡ true) task.ops i some_op below all in
          let old = c.args.mem.now in
          let new = c.run_in_branch.new.mem in
          let so_many = sum_by most_kept (take i task.ops) in
          subst (λ n. TouchesAtMost n M old new) (sym (sum_by_more most_kept task.ops i some_op below))
          (touches-then M so_many (most_kept op) (so_far.few lets reads all)
          (ran.touches lets (ap M.all_write so_far.leads.place ∙ reads) is));
      outside = λ o foreign.
          untouched-then M (so_far.outside o foreign)
          (ran.applies.outside o
          (All-get_or (λ op. ¬ (Concerns c.args.layout.now op o)) task.ops i some_op below foreign));
      quiet = λ o looks.
          let Is : Op × Reply → Type 0 = λ ran. IsLook ran.0 ran.1 ⊎ ¬ (Concerns c.args.layout.now ran.0 o) in
          let each = of-more Is task.ops i some_op replies reply _ below so_far.count c.push.ensures looks in
          only_read-then M so_far.leads (so_far.quiet o each.0) (only_read-one M op reply ran.applies o each.1);
      marks = λ o sets.
          let Is : Op × Reply → Type 0 = λ ran. SetsAll ran.0 ran.1 ⊎ ¬ (Concerns c.args.layout.now ran.0 o) in
          let each = of-more Is task.ops i some_op replies reply _ below so_far.count c.push.ensures sets in
          opened_to_set-then M so_far.leads (so_far.marks o each.0) (opened_to_set-one M op reply ran.applies o each.1);
    }

pub returns-clause-few : goal.returns-clause-few
returns-clause-few g c lets fresh reads most keeps =
    let ops = c.args.ops.now in
    let all : length ops ≡ c.loop-op.op-index = omega arith in
    let whole = take_all c.loop-op.op-index ops (omega (arith, all)) in
    let so_many = sum_by most_kept (take c.loop-op.op-index ops) in
    holds-touched g.M.Mem so_many most fresh (omega (arith, ap (sum_by most_kept) whole, keeps.1))
    (c.loop-op.invariant.few lets reads keeps.0)

pub returns-clause-does : goal.returns-clause-does
returns-clause-does g c map admitted =
    let task : JobTask = record { layout = c.args.layout.now; ops = c.args.ops.now } in
    let all : length task.ops ≡ c.loop-op.op-index = omega arith in
    does-all task c.loop-op.op-index _ _ c.loop-op.replies (omega (arith, all))
    (c.loop-op.invariant.done map admitted)

-- the operations that are done at the end of the loop are all
all_done : (ops : List Op) (i : ℕ) → length ops ≡ i → (P : List Op → Type 0) → P ops → P (take i ops)
all_done ops i whole P holds = subst P (sym (take_all i ops (omega (arith, whole)))) holds

pub returns-clause-audits : goal.returns-clause-audits
returns-clause-audits g c o audits =
    let all : length c.args.ops.now ≡ c.loop-op.op-index = omega arith in
    c.loop-op.invariant.audits
    (all_done c.args.ops.now c.loop-op.op-index all (λ (ops : List Op). Contains ops Total) audits.0) o audits.1

pub returns-clause-quiet : goal.returns-clause-quiet
returns-clause-quiet g c o looks =
    let layout = c.args.layout.now in
    let all : length c.args.ops.now ≡ c.loop-op.op-index = omega arith in
    c.loop-op.invariant.quiet o
    (all_done c.args.ops.now c.loop-op.op-index all
    (λ (ops : List Op). OnlyLooksAt (record { layout = layout; ops = ops }) c.loop-op.replies o) looks)

pub returns-clause-marks : goal.returns-clause-marks
returns-clause-marks g c o sets =
    let layout = c.args.layout.now in
    let all : length c.args.ops.now ≡ c.loop-op.op-index = omega arith in
    c.loop-op.invariant.marks o
    (all_done c.args.ops.now c.loop-op.op-index all
    (λ (ops : List Op). SetsIfOpened (record { layout = layout; ops = ops }) c.loop-op.replies o) sets)
