use Rattle.std.proofs.Common.{List, ℕ, sym, ◌∙◌, ap, subst, option_copied, Bor}
use Rattle.std.specs.Prelude.{◌≡◌, Ok, Option, Contains, IfSome, IsSomeAnd}
use Rattle.std.proofs.lemmas.List.Elements.{All-contains, All-contains_itself, All-weaker}
use Rattle.dstm_model.specs.declared.layout.Layout.{Layout}
use Rattle.dstm_model.specs.declared.value.Val.{Val}
use Rattle.dstm_model.specs.declared.op.Op.{Op}
use Rattle.dstm_model.specs.declared.op.Op.TheVariants.{Total}
use Rattle.dstm_model.specs.Job.{is_open, branches_of}
use Rattle.dstm_mem.specs.Memory.{with_set}
use Rattle.dstm_mem.proofs.Operating.{untouched-then}
use Rattle.dstm_mem.proofs.Operations.{ready-reads}
use Rattle.dstm_mem.proofs.WithSet.{with_set-same}
use Rattle.dstm_store.specs.Concerns.{Concerns}
use Rattle.dstm_store.specs.Job.{DoesAll, IsForeign}
use Rattle.dstm_store.specs.Opens.{OnlyLooksAt, SetsIfOpened}
use Rattle.dstm_store.proofs.Opens.{only_read-of_reads, only_read-then, opened_to_set-of_read, opened_to_set-then}
use Rattle.dstm_compose.specs.Compose as compose
use Rattle.dstm_compose.proofs.Branches.{Contains-found}
use Rattle.dstm_compose.proofs.Runs.{right-ran, right-blocked}
use Rattle.dstm_compose.proofs.body.run_job.Goals as goal

-- the branch that is taken asks for the total
abbrev AsksTotal : Option (List Op) → Type 0
AsksTotal taken = IsSomeAnd taken (λ branch. Contains branch Total)

-- the branch that was found is the one that is open, and none is open where none was found
found-open : (found taken : Option (Bor (List Op))) (due : Option (List Op)) → option_copied found ≡ due →
    found ≡ taken → due ≡ option_copied taken
found-open found taken due looked is = sym looked ∙ ap (λ (b : Option (Bor (List Op))). option_copied b) is

pub run_all-requires-clause-ready : goal.run_all-requires-clause-ready
run_all-requires-clause-ready g c =
    let found = c.in_ok-branch.ensures in
    ready-reads g.M.Mem (Ok c.in_ok-branch.field-0) c.requires.ready found.leads found.looks

pub returns-in_ok-replies-in-Some-clause-right : goal.returns-in_ok-replies-in-Some-clause-right
returns-in_ok-replies-in-Some-clause-right g c map admitted =
    let M = g.M.Mem in
    let layout = c.args.layout.now in
    let found = c.in_ok-branch.ensures in
    let ran = c.in_ok-replies-in-Some.ensures in
    let branch = c.in-Some.branch.now in
    let replies = c.in_ok-replies-in-Some.replies in
    let after = with_set map (M.written c.run_all.new.mem) in
    let same = with_set-same map (M.written c.args.mem.now) (M.written c.open_branch.new.mem) found.looks.sets in
    right-ran layout c.args.ops.now branch (with_set map (M.written c.args.mem.now)) after replies
    (λ store stands.
    sym (found-open _ _ _ (found.found map (ran.leads.narrows map admitted) store stands) c.in-Some.is))
    (subst (λ (before : List Val). DoesAll (record { layout = layout; ops = branch }) before after replies) same
    (ran.does map admitted))

pub returns-in_ok-replies-in-Some-clause-audits : goal.returns-in_ok-replies-in-Some-clause-audits
returns-in_ok-replies-in-Some-clause-audits g c o audits =
    let found = c.in_ok-branch.ensures in
    let ran = c.in_ok-replies-in-Some.ensures in
    let branch = c.in-Some.branch.now in
    let ops = c.args.ops.now in
    let (map, admitted) = found.leads.admits in
    let (store, stands) = c.requires.ready.lawful map (found.leads.narrows map admitted) in
    let taken = found-open _ _ _ (found.found map admitted store stands) c.in-Some.is in
    let among = Contains-found (is_open store) (branches_of ops) branch taken in
    ran.audits o (
      All-contains (λ (b : List Op). Contains b Total) (branches_of ops) branch audits.totals among,
      audits.within,
    )

pub returns-in_ok-replies-in-Some-clause-totals : goal.returns-in_ok-replies-in-Some-clause-totals
returns-in_ok-replies-in-Some-clause-totals g c map admitted store stands o audits =
    let found = c.in_ok-branch.ensures in
    let ran = c.in_ok-replies-in-Some.ensures in
    let taken = found-open _ _ _ (found.found map (ran.leads.narrows map admitted) store stands) c.in-Some.is in
    ran.audits o (subst AsksTotal taken audits.0, audits.1)

-- what no operation of the job is about no operation of the branch is about
foreign-in : (layout : Layout) (ops branch : List Op) (o : ℕ) → ((x : Op) → Contains branch x → Contains ops x) →
    compose.IsForeign (record { layout = layout; ops = ops }) o → IsForeign (record { layout = layout; ops = branch }) o
foreign-in layout ops branch o among foreign =
    All-weaker (Contains branch) (λ (op : Op). ¬ (Concerns layout op o))
    (λ op has. All-contains (λ (op : Op). ¬ (Concerns layout op o)) ops op foreign.unnamed (among op has)) branch
    (All-contains_itself branch)

pub returns-in_ok-replies-in-Some-clause-outside : goal.returns-in_ok-replies-in-Some-clause-outside
returns-in_ok-replies-in-Some-clause-outside g c o foreign =
    let found = c.in_ok-branch.ensures in
    let among = subst (λ (b : Option (Bor (List Op))). IfSome b (λ some. (x : Op) → Contains some.now x → Contains c.args.ops.now x))
    c.in-Some.is found.among in
    untouched-then g.M.Mem (found.awaited o foreign.unawaited)
    (c.in_ok-replies-in-Some.ensures.outside o
    (foreign-in c.args.layout.now c.args.ops.now c.in-Some.branch.now o among foreign))

pub returns-in-None-clause-outside : goal.returns-in-None-clause-outside
returns-in-None-clause-outside g c o foreign = c.in_ok-branch.ensures.awaited o foreign.unawaited

pub returns-in-None-clause-totals : goal.returns-in-None-clause-totals
returns-in-None-clause-totals g c map admitted store stands o audits =
    let found = c.in_ok-branch.ensures in
    let none = found-open _ _ _ (found.found map admitted store stands) c.in-None.is in
    absurd (subst AsksTotal none audits.0)

pub returns-in-None-clause-right : goal.returns-in-None-clause-right
returns-in-None-clause-right g c map admitted =
    let M = g.M.Mem in
    let found = c.in_ok-branch.ensures in
    right-blocked c.args.layout.now c.args.ops.now (with_set map (M.written c.args.mem.now))
    (with_set map (M.written c.open_branch.new.mem))
    (λ store stands. sym (found-open _ _ _ (found.found map admitted store stands) c.in-None.is))
    (with_set-same map (M.written c.args.mem.now) (M.written c.open_branch.new.mem) found.looks.sets)

pub returns-in-None-clause-lawful : goal.returns-in-None-clause-lawful
returns-in-None-clause-lawful g c map admitted =
    let found = c.in_ok-branch.ensures in
    (ready-reads g.M.Mem (Ok c.in_ok-branch.field-0) c.requires.ready found.leads found.looks).lawful map admitted

-- ---- what the branch that is taken sets and opens for writing

pub returns-in_ok-replies-in-Some-clause-quiet : goal.returns-in_ok-replies-in-Some-clause-quiet
returns-in_ok-replies-in-Some-clause-quiet g c map admitted store stands o looks =
    let M = g.M.Mem in
    let found = c.in_ok-branch.ensures in
    let ran = c.in_ok-replies-in-Some.ensures in
    let layout = c.args.layout.now in
    let replies = c.in_ok-replies-in-Some.replies in
    let taken = found-open _ _ _ (found.found map (ran.leads.narrows map admitted) store stands) c.in-Some.is in
    let Looks : Option (List Op) → Type 0 =
    λ b. IfSome b (λ branch. OnlyLooksAt (record { layout = layout; ops = branch }) replies o) in
    only_read-then M found.leads (only_read-of_reads M found.looks o) (ran.quiet o (subst Looks taken looks))

pub returns-in_ok-replies-in-Some-clause-marks : goal.returns-in_ok-replies-in-Some-clause-marks
returns-in_ok-replies-in-Some-clause-marks g c map admitted store stands o sets =
    let M = g.M.Mem in
    let found = c.in_ok-branch.ensures in
    let ran = c.in_ok-replies-in-Some.ensures in
    let layout = c.args.layout.now in
    let replies = c.in_ok-replies-in-Some.replies in
    let taken = found-open _ _ _ (found.found map (ran.leads.narrows map admitted) store stands) c.in-Some.is in
    let Sets : Option (List Op) → Type 0 =
    λ b. IfSome b (λ branch. SetsIfOpened (record { layout = layout; ops = branch }) replies o) in
    opened_to_set-then M found.leads (opened_to_set-of_read M (only_read-of_reads M found.looks o))
    (ran.marks o (subst Sets taken sets))

pub returns-in-None-clause-quiet : goal.returns-in-None-clause-quiet
returns-in-None-clause-quiet g c map admitted store stands o looks =
    only_read-of_reads g.M.Mem c.in_ok-branch.ensures.looks o

pub returns-in-None-clause-marks : goal.returns-in-None-clause-marks
returns-in-None-clause-marks g c map admitted store stands o sets =
    opened_to_set-of_read g.M.Mem (only_read-of_reads g.M.Mem c.in_ok-branch.ensures.looks o)
