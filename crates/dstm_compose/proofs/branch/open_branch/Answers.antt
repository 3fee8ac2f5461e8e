use Rattle.std.proofs.Common.{◌≤◌, List, length, option_copied, sym, ◌∙◌, ap, subst, Bor}
use Rattle.std.specs.Prelude.{Ok, Option, IfSome, All, Contains}
use Rattle.std.specs.List.{find}
use Rattle.dstm_model.specs.declared.value.Val.{Val}
use Rattle.dstm_model.specs.declared.op.Op.{Op}
use Rattle.dstm_model.specs.Job.{branches_left, is_open}
use Rattle.dstm_model.specs.Layout.{FitsLayout}
use Rattle.dstm_mem.proofs.Operations.{leads-answers, leads-then, only_reads-then, ready-reads}
use Rattle.dstm_mem.proofs.Operating.{untouched-then}
use Rattle.dstm_mem.proofs.WithSet.{with_set-same}
use Rattle.dstm_store.specs.Whole.{StandsFor}
use Rattle.dstm_compose.proofs.Branches.{AreOf, Contains-taken, found-open, found-later, later_fits, later_short, later_among}
use Rattle.dstm_compose.proofs.Branches.{awaited_of-branch, first-tried, later-tried}
use Rattle.dstm_compose.proofs.branch.open_branch.Goals as goal

pub is_open-requires-clause-ready : goal.is_open-requires-clause-ready
is_open-requires-clause-ready g c =
    let so_far = c.loop-rest.invariant in
    ready-reads g.M.Mem (Ok c.loop-rest.rest) c.requires.ready so_far.leads so_far.looks

pub returns-then-branch-clause-found : goal.returns-then-branch-clause-found
returns-then-branch-clause-found g c map admitted store stands =
    let M = g.M.Mem in
    let so_far = c.loop-rest.invariant in
    let told = c.in_ok-is_open.ensures in
    let same = with_set-same map (M.written c.args.mem.now) (M.written c.loop-rest.mem) so_far.looks.sets in
    let now = subst (λ (values : List Val). StandsFor c.args.layout.now values store) (sym same) stands in
    let branches = ap (λ (rest : Option (Bor (List Op))). branches_left (option_copied rest)) c.in-Some.is
    ∙ c.first_branch.ensures.branches in
    sym (found-open store _ _ _ branches (sym (told.tells map admitted store now) ∙ c.if-branch.true))
    ∙ so_far.found map (told.leads.narrows map admitted) store stands

pub loop-rest-preserved : goal.loop-rest-preserved
loop-rest-preserved g c =
    let M = g.M.Mem in
    let so_far = c.loop-rest.invariant in
    let told = c.in_ok-is_open.ensures in
    let ahead = c.first_branch.ensures in
    record {
      leads = leads-answers M (leads-then M so_far.leads told.leads);
      looks = only_reads-then M so_far.leads so_far.looks told.looks;
      found = λ map admitted store stands.
          let same = with_set-same map (M.written c.args.mem.now) (M.written c.loop-rest.mem) so_far.looks.sets in
          let now = subst (λ (values : List Val). StandsFor c.args.layout.now values store) (sym same) stands in
          let branches = ap (λ (rest : Option (Bor (List Op))). branches_left (option_copied rest)) c.in-Some.is
          ∙ ahead.branches in
          sym (found-later store _ _ _ branches (sym (told.tells map admitted store now) ∙ c.if-branch.false))
          ∙ so_far.found map (told.leads.narrows map admitted) store stands;
      fits = later_fits c.args.layout.now c.in-Some.ops.now c.first_branch.result.1
          (subst (λ (rest : Option (Bor (List Op))). IfSome rest (λ ops. All (FitsLayout c.args.layout.now) ops.now))
          c.in-Some.is so_far.fits) ahead.after;
      among = later_among c.args.ops.now c.in-Some.ops.now c.first_branch.result.1
          (subst (AreOf c.args.ops.now) c.in-Some.is so_far.among) ahead.after;
      awaited = λ o apart.
          untouched-then M (so_far.awaited o apart)
          (told.awaited o (λ awaits. apart
          (awaited_of-branch c.args.layout.now c.args.ops.now c.in-Some.ops.now c.first_branch.result.0.now o
          (subst (AreOf c.args.ops.now) c.in-Some.is so_far.among) ahead.first awaits)));
      tried = λ map admitted store stands branch has.
          let same = with_set-same map (M.written c.args.mem.now) (M.written c.loop-rest.mem) so_far.looks.sets in
          let now = subst (λ (values : List Val). StandsFor c.args.layout.now values store) (sym same) stands in
          let branches = ap (λ (rest : Option (Bor (List Op))). branches_left (option_copied rest)) c.in-Some.is
          ∙ ahead.branches in
          so_far.tried map (told.leads.narrows map admitted) store stands branch
          (later-tried store _ _ _ branches (sym (told.tells map admitted store now) ∙ c.if-branch.false) branch has);
      first = λ map admitted store stands o apart.
          let before = told.leads.narrows map admitted in
          let branches = ap (λ (rest : Option (Bor (List Op))). branches_left (option_copied rest)) c.in-Some.is
          ∙ ahead.branches in
          untouched-then M (so_far.first map before store stands o apart)
          (told.awaited o (λ awaits. apart
          (c.first_branch.result.0.now, so_far.tried map before store stands _ (first-tried store _ _ _ branches), awaits)));
      short = later_short (length c.args.ops.now) c.in-Some.ops.now c.first_branch.result.1
          (subst (λ (rest : Option (Bor (List Op))). IfSome rest (λ ops. length ops.now ≤ length c.args.ops.now))
          c.in-Some.is so_far.short) ahead.after;
    }

pub returns-clause-found : goal.returns-clause-found
returns-clause-found g c map admitted store stands =
    sym (ap (λ (rest : Option (Bor (List Op))). find (is_open store) (branches_left (option_copied rest)))
    c.in_default.is)
    ∙ c.loop-rest.invariant.found map admitted store stands

pub returns-then-branch-clause-awaited : goal.returns-then-branch-clause-awaited
returns-then-branch-clause-awaited g c o apart =
    let M = g.M.Mem in
    let so_far = c.loop-rest.invariant in
    untouched-then M (so_far.awaited o apart)
    (c.in_ok-is_open.ensures.awaited o (λ awaits. apart
    (awaited_of-branch c.args.layout.now c.args.ops.now c.in-Some.ops.now c.first_branch.result.0.now o
    (subst (AreOf c.args.ops.now) c.in-Some.is so_far.among) c.first_branch.ensures.first awaits)))

pub returns-then-branch-clause-among : goal.returns-then-branch-clause-among
returns-then-branch-clause-among g c x has =
    let left = subst (AreOf c.args.ops.now) c.in-Some.is c.loop-rest.invariant.among in
    let first = c.first_branch.ensures.first in
    left x (Contains-taken first.0 c.in-Some.ops.now x (subst (λ (l : List Op). Contains l x) first.1 has))

pub returns-then-branch-clause-first : goal.returns-then-branch-clause-first
returns-then-branch-clause-first g c map admitted store stands o apart =
    let M = g.M.Mem in
    let so_far = c.loop-rest.invariant in
    let told = c.in_ok-is_open.ensures in
    let before = told.leads.narrows map admitted in
    let branches = ap (λ (rest : Option (Bor (List Op))). branches_left (option_copied rest)) c.in-Some.is
    ∙ c.first_branch.ensures.branches in
    untouched-then M (so_far.first map before store stands o apart)
    (told.awaited o (λ awaits. apart
    (c.first_branch.result.0.now, so_far.tried map before store stands _ (first-tried store _ _ _ branches), awaits)))
