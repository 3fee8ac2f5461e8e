use Rattle.std.proofs.Common.{ap, sym, ◌∙◌}
use Rattle.std.proofs.lemmas.Bool.{and_parts}
use Rattle.std.specs.List.{list_all}
use Rattle.dstm_workload.specs.Entries.{are_printable, is_printable}
use Rattle.dstm_workload.proofs.ValidLaws.{so_far_valid}
use Rattle.dstm_workload.proofs.ReadLoop.{begun, kept_on}
use Rattle.dstm_workload.proofs.reading.entries.Goals as goal

pub loop-text-init : goal.loop-text-init
loop-text-init c = record {
  read = rw (c.nothing-known.ensures, c.new-jobs.ensures.items) (begun c.args.lines);
  clean = c.requires.clean;
}

pub entry-requires-clause-clean : goal.entry-requires-clause-clean
entry-requires-clause-clean c = λ clean.
    (and_parts (list_all is_printable c.in-Some.text.now) (are_printable c.next.new.self)
    (sym (ap are_printable c.in-Some.ensures.some) ∙ c.loop-text.invariant.clean clean)).0

pub loop-text-preserved : goal.loop-text-preserved
loop-text-preserved c =
    let before = rw c.in-Some.ensures.some at c.loop-text.invariant.read in
    record {
      read = kept_on before (rw c.in_ok-reserve.ensures.items at c.in-Ok.ensures);
      clean = λ clean.
          (and_parts (list_all is_printable c.in-Some.text.now) (are_printable c.next.new.self)
          (sym (ap are_printable c.in-Some.ensures.some) ∙ c.loop-text.invariant.clean clean)).1;
    }

pub returns-clause-valid : goal.returns-clause-valid
returns-clause-valid c = λ v versioned. so_far_valid c.loop-text.invariant.read.so_far versioned
