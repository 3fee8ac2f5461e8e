use Rattle.std.proofs.Common.{◌≡◌, ◌∙◌, List, length, replicate, sym, ap, subst, arith}
use Rattle.std.proofs.lemmas.List.{length-map}
use Rattle.dstm_model.specs.declared.value.Val.{Val}
use Rattle.dstm_report.specs.Turns.{Turning}
use Rattle.dstm_crew.specs.declared.progress.Progress.{Progress}
use Rattle.dstm_crew.specs.declared.share.Share.{Share}
use Rattle.dstm_crew.specs.Collecting.{AreRunBy, CanCollect, HasCollected}
use Rattle.dstm_crew.specs.Shares.{WereRun, asked_of, workers_of}
use Rattle.dstm_crew.proofs.Stood.{can_collect, has_played, run_by}
use Rattle.dstm_crew.proofs.Workers.{workers_few, workers_some}
use Rattle.dstm_crew.proofs.playing.play_parallel.Given.{Over}
use Rattle.dstm_crew.proofs.playing.play_parallel.Goals.{In_ok-shares-2}
use Rattle.dstm_crew.proofs.playing.play_parallel.Goals as goal

pub run_shares-requires-clause-some : goal.run_shares-requires-clause-some
run_shares-requires-clause-some g c = λ _ _.
    let workload = c.args.play.now.workload.now in
    let p = c.args.progress.now in
    let some = workers_some c.args.number p.rows.items c.requires.can.begins.valid c.requires.can.begins.needed in
    let left = ap (λ (t : Turning). length (workers_of workload c.args.number t.left)) c.requires.can.turns in
    let same = ap length c.in_ok-shares.ensures.one_each in
    let n = length-map c.in_ok-shares.shares.items (λ (s : Share). s.worker) in
    omega (arith, some, left, same, n)

pub run_shares-requires-clause-few : goal.run_shares-requires-clause-few
run_shares-requires-clause-few g c = λ _ _.
    let workload = c.args.play.now.workload.now in
    let few = workers_few workload c.args.number c.args.progress.now.turns.left c.requires.can.begins.valid.workers in
    let same = ap length c.in_ok-shares.ensures.one_each in
    let n = length-map c.in_ok-shares.shares.items (λ (s : Share). s.worker) in
    omega (arith, few, same, n)

-- the shares were run on the values of before
ran : (g : Over) (c : In_ok-shares-2 g) → WereRun c.args.play.now.workload.now c.args.play.now.options.now c.args.number
    c.args.progress.now.values.items c.in_ok-shares-2.left.items c.in_ok-shares.shares.items c.in_ok-shares-2.shares.items
    c.in_ok-shares-2.ensures.run.0
ran g c =
    subst (λ (vs : List Val). WereRun c.args.play.now.workload.now c.args.play.now.options.now c.args.number vs
    c.in_ok-shares-2.left.items c.in_ok-shares.shares.items c.in_ok-shares-2.shares.items c.in_ok-shares-2.ensures.run.0)
    (ap (λ v. v.items) c.replace-values.ensures.value) c.in_ok-shares-2.ensures.run.1.1

-- as many shares come back as were run
as_many : (g : Over) (c : In_ok-shares-2 g) → c.in_ok-shares.shares.len ≡ length c.in_ok-shares-2.shares.items
as_many g c =
    c.in_ok-shares.shares.ok.0 ∙ sym (length-map c.in_ok-shares.shares.items asked_of)
    ∙ sym (ap length c.in_ok-shares-2.ensures.run.1.1.same) ∙ length-map c.in_ok-shares-2.shares.items asked_of

pub collect-requires-clause-next : goal.collect-requires-clause-next
collect-requires-clause-next g c =
    c.in_ok-next.ensures.items_if_clones_equal (λ y same. same)
    ∙ ap (λ n. replicate n 0) (c.len.ensures ∙ as_many g (goal.at.collect-requires-clause-next g c).In_ok-shares-2
    ∙ sym (ap length c.deref.ensures.value))

pub collect-requires-clause-numbers : goal.collect-requires-clause-numbers
collect-requires-clause-numbers g c =
    sym c.in_ok-numbers.numbers.ok.0
    ∙ (c.in_ok-numbers.ensures.len ∙ c.len-2.ensures) ∙ as_many g (goal.at.collect-requires-clause-numbers g c).In_ok-shares-2
    ∙ sym (ap length c.deref.ensures.value)

pub collect-requires-clause-can : goal.collect-requires-clause-can
collect-requires-clause-can g c =
    let workload = c.args.play.now.workload.now in
    let p = c.args.progress.now in
    let run = ran g (goal.at.collect-requires-clause-can g c).In_ok-shares-2 in
    subst (λ (ss : List Share). CanCollect workload ss p.rows.items p.turns) (sym c.deref.ensures.value)
    (can_collect workload c.args.play.now.options.now c.args.number p.rows.items p.values.items c.in_ok-shares-2.left.items
    p.turns c.in_ok-shares.shares.items c.in_ok-shares-2.shares.items c.in_ok-shares-2.ensures.run.0
    c.requires.can.begins c.requires.can.turns c.in_ok-shares.ensures run)

pub returns-clause-played : goal.returns-clause-played
returns-clause-played g c =
    let workload = c.args.play.now.workload.now in
    let options = c.args.play.now.options.now in
    let p = c.args.progress.now in
    let closed = c.in_ok-shares-2.ensures.run.0 in
    let before = c.in_ok-shares.shares.items in
    let shares = c.in_ok-shares-2.shares.items in
    let left = c.in_ok-shares-2.left.items in
    let run = ran g (goal.at.returns-clause-played g c).In_ok-shares-2 in
    let q : Progress = record {
      values = c.in_ok-shares-2.left;
      turns = c.collect.new.turns;
      rows = c.collect.new.rows;
      rounds = c.run_shares.new.rounds;
      zeros = c.run_shares.new.zeros;
    } in
    has_played p q c.requires.parallel c.requires.can.begins c.requires.can.turns c.in_ok-shares.ensures run
    (subst (λ (ss : List Share). HasCollected workload options c.args.number closed ss run.callers p.rows.items
    c.collect.new.rows.items c.collect.new.turns) c.deref.ensures.value
    (c.collect.ensures.collected options closed run.callers
    (subst (λ (ss : List Share). AreRunBy workload options closed ss run.callers) (sym c.deref.ensures.value)
    (run_by workload options c.args.number p.rows.items p.values.items left p.turns before shares closed run))))
    c.in_ok-shares-2.ensures.run.1.0
