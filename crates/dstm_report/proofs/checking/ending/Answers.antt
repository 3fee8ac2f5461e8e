use Rattle.std.proofs.Common.{◌≡◌, ap, sym, ◌∙◌, length, arith}
use Rattle.std.proofs.lemmas.Bool.{iff_false}
use Rattle.dstm_model.specs.declared.state.State.{State}
use Rattle.dstm_report.specs.Lawful.{declared_as, store_after}
use Rattle.dstm_model.specs.Store.{state_of}
use Rattle.dstm_report.specs.declared.report.Report.{Report}
use Rattle.dstm_workload.specs.declared.workload.Workload.{Workload}
use Rattle.dstm_report.proofs.LineByLine.{RowsGood, bad_bank, bad_list, bad_tree, bad_end}
use Rattle.dstm_report.proofs.checking.ending.Goals.{After-as_slice}
use Rattle.dstm_report.proofs.checking.ending.Goals as goal
use Rattle.dstm_report.proofs.checking.ending.Goals.{then-report-rows-via-then-report-rows}
use Rattle.dstm_report.proofs.checking.ending.Goals.{then-report-rows-via-else-report-rows+then-rows-jobs}

-- what the checks compare with, in the words of what they show
record Compares (workload : Workload) (report : Report) (state : State) : Type 0 where
  good : RowsGood workload report
  bank : declared_as workload.layout.accounts state.bank
      ≡ declared_as workload.layout.accounts (state_of (store_after workload report.rows)).bank
  list : declared_as workload.layout.list state.list
      ≡ declared_as workload.layout.list (state_of (store_after workload report.rows)).list
  tree : declared_as workload.layout.tree state.tree
      ≡ declared_as workload.layout.tree (state_of (store_after workload report.rows)).tree

compares : (c : After-as_slice) → Compares c.args.workload.now c.args.report.now c.args.state.now
compares c = record {
  good = record { version = c.requires.version; rows = c.requires.rows };
  bank = ap (λ (s : State). declared_as c.args.workload.now.layout.accounts s.bank) c.requires.state;
  list = ap (λ (s : State). declared_as c.args.workload.now.layout.list s.list) c.requires.state;
  tree = ap (λ (s : State). declared_as c.args.workload.now.layout.tree s.tree) c.requires.state;
}

pub returns-then-not-are_numbers : goal.returns-then-not-are_numbers
returns-then-not-are_numbers c =
    let k = compares (goal.at.returns-then-not-are_numbers c).After-as_slice in
    bad_bank _ k.good (λ is. iff_false c.are_numbers.ensures c.if-not-are_numbers.true (is ∙ sym k.bank))
    (omega (arith, ap length c.as_slice.ensures))

pub returns-then-not-are_numbers-2 : goal.returns-then-not-are_numbers-2
returns-then-not-are_numbers-2 c =
    let k = compares (goal.at.returns-then-not-are_numbers-2 c).After-as_slice in
    bad_list _ k.good (c.are_numbers.ensures.0 c.if-not-are_numbers.false ∙ k.bank)
    (λ is. iff_false c.are_numbers-2.ensures c.if-not-are_numbers-2.true (is ∙ sym k.list))
    (omega (arith, ap length c.as_slice.ensures, c.shown-line.ensures))

pub returns-then-not-are_items : goal.returns-then-not-are_items
returns-then-not-are_items c =
    let k = compares (goal.at.returns-then-not-are_items c).After-as_slice in
    bad_tree _ k.good (c.are_numbers.ensures.0 c.if-not-are_numbers.false ∙ k.bank)
    (c.are_numbers-2.ensures.0 c.if-not-are_numbers-2.false ∙ k.list)
    (λ is. iff_false c.are_items.ensures c.if-not-are_items.true (is ∙ sym k.tree))
    (omega (arith, ap length c.as_slice.ensures, c.shown-line.ensures, c.shown-line-2.ensures))

pub returns-then-report-rows : goal.returns-then-report-rows
returns-then-report-rows c =
    let k = compares (goal.at.returns-then-report-rows c).After-as_slice in
    let rows = ap length c.as_slice.ensures in
    let jobs = ap length c.as_slice-2.ensures in
    bad_end _ k.good (c.are_numbers.ensures.0 c.if-not-are_numbers.false ∙ k.bank)
    (c.are_numbers-2.ensures.0 c.if-not-are_numbers-2.false ∙ k.list)
    (c.are_items.ensures.0 c.if-not-are_items.false ∙ k.tree) (λ is. elim c.then-report-rows.branch [
      | then-report-rows-via-then-report-rows w ↦ w.if-report-rows.true (is.0 ∙ sym rows)
      | then-report-rows-via-else-report-rows+then-rows-jobs w ↦ w.if-rows-jobs.true (rows ∙ is.1 ∙ sym jobs)
    ]) (omega (arith, rows, c.shown-line.ensures, c.shown-line-2.ensures, c.shown-line-3.ensures))
