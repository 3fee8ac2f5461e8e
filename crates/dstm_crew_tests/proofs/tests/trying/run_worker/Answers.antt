use Rattle.std.proofs.Common.{◌≡◌, ◌∙◌, ◌<◌, All, List, ap, arith, length, refl, subst, sym}
use Rattle.dstm_store.specs.declared.law.StoreLaw.{StoreLaw}
use Rattle.dstm_tables.specs.Callers.{home_of, law_of}
use Rattle.dstm_tables.specs.Tables.{law_there}
use Rattle.dstm_tables.specs.declared.tables.Caller.TheVariants.{Dstm, Tl2}
use Rattle.dstm_jobs.specs.Tables.{Caller, Table}
use Rattle.dstm_workload.specs.declared.workload.Job.{Job}
use Rattle.dstm_crew.specs.Done.{DoneAs}
use Rattle.dstm_crew_tests.proofs.tests.trying.run_worker.Goals as goal

pub run-requires-clause-ready : goal.run-requires-clause-ready
run-requires-clause-ready c =
    let opened = c.in_ok-table.ensures in
    record {
      home = opened.home;
      law = opened.law;
      rest = opened.rest;
      none_begun = opened.begun;
      none_done = opened.done;
      within = subst (λ (jobs : List Job). All (λ place. place < length jobs) c.in_ok-places.places.items) c.as_slice.ensures
          c.in_ok-places.ensures;
      empty = ap (λ (d : DoneAs). d.items) c.in_ok-done.ensures;
      no_lines = ap (λ (d : DoneAs). d.lines) c.in_ok-done.ensures;
      room = let cap = ap (λ (d : DoneAs). d.room) c.in_ok-done.ensures in
          let len = c.len.ensures in
          let ok = c.in_ok-places.places.ok.0 in
          omega (arith, cap, len, ok);
    }

-- the law of a caller is its table's
law_at_home : (k : Caller) → law_there (home_of k) ≡ law_of k
law_at_home (Dstm k) = refl
law_at_home (Tl2 k) = refl

pub bank_of_table-requires-clause-law : goal.bank_of_table-requires-clause-law
bank_of_table-requires-clause-law c =
    let opened = c.in_ok-table.ensures in
    ap (λ (t : Table). (law_there t).layout) (sym opened.home)
    ∙ ap (λ (law : StoreLaw). law.layout) (law_at_home c.in_ok-table.caller) ∙ opened.law
