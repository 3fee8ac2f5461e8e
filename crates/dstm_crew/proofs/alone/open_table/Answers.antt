use Rattle.std.proofs.Common.{◌≡◌, ◌∙◌, ◌+◌, ◌&&◌, Bool, true, false, not, ap, arith, refl, subst, sym, true≢false}
use Rattle.std.specs.Prelude.{◌==◌}
use Rattle.dstm_tables.specs.Founders.{first_of}
use Rattle.dstm_jobs.proofs.Same.{locators_told, writes_told}
use Rattle.dstm_records.specs.Rounds.{locators_for}
use Rattle.dstm_records.proofs.Making.{is_made}
use Rattle.dstm_crew.proofs.alone.open_table.Goals as goal

pub returns-clause-opened : goal.returns-clause-opened
returns-clause-opened c =
    let workload = c.args.workload.now in
    let options = c.args.options.now in
    let table = c.in_ok-table.table in
    let shape = c.shape_for-shape.result in
    let sized = c.shape_for-shape.ensures in
    let told = c.in_ok-table.ensures.told in
    let founder = c.in_ok-table.ensures.founder in
    let gives = c.in_ok-caller.ensures in
    let reads : workload.version ≡ 3 → shape.all_write ≡ false = λ third.
    sized.all_write ∙ c.writes_all.ensures
    ∙ subst (λ v. (options.all_write && not (v == 3)) ≡ false) (sym third) (never options.all_write) in
    record {
      engine = told.of_engine;
      layout = told.layout;
      start = told.start;
      only = told.callers ∙ sized.callers;
      attempts = told.attempts ∙ sized.attempts;
      locators = locators_told shape (first_of table) told.of_shape
          (let l = sized.locators in let o = sized.objects in omega (arith, l, o));
      reads = λ third. writes_told shape (first_of table) told.of_shape (reads third);
      made = λ number alone.
          is_made options workload.version number c.args.waiting.count shape (first_of table)
          (record {
            attempts = sized.attempts;
            locators = sized.locators ∙ ap locators_for (sym sized.objects);
            manager = sized.manager;
            all_write = λ parallel. absurd (true≢false (sym parallel ∙ alone));
            alone_writes = λ _. sized.all_write ∙ c.writes_all.ensures;
          }) told.of_shape told.attempts;
      founded = gives.home_then ∙ founder.home;
      out = gives.out ∙ ap (λ n. n + 1) founder.none_out;
      guests = gives.guests ∙ founder.none_guests;
      home = gives.home;
      rest = gives.rest;
      none_begun = gives.none_begun;
      none_used = gives.none_used;
      none_let_go = gives.none_let_go;
      none_done = gives.none_done;
    }
  where
    never : (b : Bool) → (b && false) ≡ false
    never true = refl
    never false = refl
