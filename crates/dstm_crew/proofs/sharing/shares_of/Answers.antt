use Rattle.std.proofs.Common.{◌≡◌, ◌⊎◌, ◌+◌, ◌<◌, ℕ, suc, zero, eqb, false, true≢false, List, length, map, refl, ap, sym, subst, ◌∙◌, inl, inr, arith}
use Rattle.std.specs.List.{All, filter, range_with_len}
use Rattle.std.proofs.lemmas.Bool.{eqb-true}
use Rattle.dstm_workload.specs.declared.workload.Job.{Job}
use Rattle.dstm_report.specs.Turns.{job_at, jobs_of}
use Rattle.dstm_crew.specs.declared.share.Share.{Share}
use Rattle.dstm_crew.specs.Done.{DoneAs}
use Rattle.dstm_crew.specs.Shares.{AreShares, takes_part}
use Rattle.dstm_crew.proofs.Workers.{no_part_of, part_of, share_more, share_skip}
use Rattle.dstm_crew.proofs.sharing.shares_of.Goals as goal
use Rattle.dstm_crew.proofs.sharing.shares_of.Goals.{then-number-eq0+in_ok-done+in_ok-push, then-number-eq0-via-then-number-eq0, then-number-eq0-via-else-number-eq0+then-not-is_empty, else-number-eq0+else-not-is_empty}

not_empty : (len count : ℕ) → eqb len 0 ≡ false → len ≡ count → 0 < count
not_empty zero count is same = absurd (true≢false is)
not_empty (suc len) count is same = omega (arith, same)

pub loop-worker-preserved : goal.loop-worker-preserved
loop-worker-preserved c =
    let jobs : map (job_at c.args.workload.now.jobs) c.in_ok-places.places.items ≡ jobs_of c.loop-worker.worker c.args.turns.now.left =
    subst (λ (js : List Job). map (job_at js) c.in_ok-places.places.items ≡ jobs_of c.loop-worker.worker c.args.turns.now.left)
    c.requires c.in_ok-places.ensures.jobs in
    elim c.if-number-eq0.branch [
      | then-number-eq0+in_ok-done+in_ok-push w ↦
          let share : Share = record { worker = c.loop-worker.worker; places = c.in_ok-places.places; done = w.in_ok-done.done } in
          let some : (c.args.number ≡ 0) ⊎ (0 < length c.in_ok-places.places.items) = elim w.then-number-eq0.branch [
            | then-number-eq0-via-then-number-eq0 v ↦ inl v.if-number-eq0.true
            | then-number-eq0-via-else-number-eq0+then-not-is_empty v ↦ inr (not_empty c.in_ok-places.places.len (length c.in_ok-places.places.items) (sym v.is_empty.ensures ∙ v.if-not-is_empty.true)
                c.in_ok-places.places.ok.0)
          ] in
          subst (AreShares c.args.workload.now c.args.turns.now.left
          (filter (takes_part c.args.number c.args.turns.now.left) (range_with_len 0 (c.loop-worker.worker + 1))))
          (sym (ap (λ v. v.items) w.shares-is ∙ w.in_ok-push.ensures.items))
          (share_more c.args.number c.loop-worker.worker c.loop-worker.invariant
          (part_of c.args.workload.now c.args.number c.args.turns.now.left c.loop-worker.worker c.in_ok-places.places.items jobs some)
          refl (record {
            within = subst (λ (js : List Job). All (λ place. place < length js) c.in_ok-places.places.items) c.requires
                c.in_ok-places.ensures.within;
            empty = ap (λ (d : DoneAs). d.items) w.in_ok-done.ensures;
            no_lines = ap (λ (d : DoneAs). d.lines) w.in_ok-done.ensures;
            room = let cap = ap (λ (d : DoneAs). d.room) w.in_ok-done.ensures in
                let len = w.len.ensures in
                let ok = c.in_ok-places.places.ok.0 in
                omega (arith, cap, len, ok);
          }) jobs)
      | else-number-eq0+else-not-is_empty w ↦
          subst (AreShares c.args.workload.now c.args.turns.now.left
          (filter (takes_part c.args.number c.args.turns.now.left) (range_with_len 0 (c.loop-worker.worker + 1))))
          (sym (ap (λ v. v.items) w.shares-is)) (share_skip c.args.number c.loop-worker.worker c.loop-worker.invariant
          (no_part_of c.args.workload.now c.args.number c.args.turns.now.left c.loop-worker.worker c.in_ok-places.places.items jobs
          w.if-number-eq0.false (sym c.in_ok-places.places.ok.0 ∙ eqb-true c.in_ok-places.places.len 0 (sym w.is_empty.ensures ∙ w.if-not-is_empty.false))))
    ]
