use Rattle.std.proofs.Common.{◌≡◌, ◌∙◌, List, ap, length, map, rules, subst, sym}
use Rattle.std.specs.Prelude.{All}
use Rattle.std.proofs.lemmas.List.Elements.{All-weaker}
use Rattle.dstm_jobs.specs.Tables.{Founder}
use Rattle.dstm_tables.specs.Founders.{first_of, seen_by}
use Rattle.dstm_records.specs.Records.{IsDstmMade, IsMade}
use Rattle.dstm_records.specs.Rounds.{locators_for}
use Rattle.dstm_records.proofs.Making.{is_made}
use Rattle.dstm_crew.specs.declared.share.Share.{Share}
use Rattle.dstm_crew.specs.declared.worker.Worker.{Worker}
use Rattle.dstm_crew.specs.Seats.{HasBack, HasEnded, RestsAt, share_of}
use Rattle.dstm_crew.specs.Shares.{asked_of, most_places}
use Rattle.dstm_crew.specs.Workers.{IsReady}
use Rattle.dstm_crew.proofs.Closed.{Closes, was_made, were_run, written_back}
use Rattle.dstm_crew.proofs.Seating.{all_ready}
use Rattle.dstm_crew.proofs.running.run_shares.Goals as goal

pub run_all-requires-clause-ready : goal.run_all-requires-clause-ready
run_all-requires-clause-ready g c κs within =
    let workload = c.args.play.now.workload.now in
    let table = c.in_ok-table.table in
    let workers = c.in_ok-workers.workers.items in
    subst (All (IsReady workload table)) (sym c.deref_mut.ensures.value)
    (all_ready table workload workers c.in_ok-table.ensures.told.layout
    c.in_ok-workers.ensures.shares c.in_ok-workers.ensures.new c.requires.shares)

pub retire_all-requires-clause-rest : goal.retire_all-requires-clause-rest
retire_all-requires-clause-rest g c =
    let table = c.in_ok-table.table in
    let workers = c.in_ok-workers.workers.items in
    let new = c.run_all.new.workers in
    let P : Worker → Type 0 = λ worker. RestsAt table worker.caller in
    let count : c.in_ok-workers.workers.len ≡ length workers = search rules in
    let long : length new ≡ length workers = search rules in
    subst (All P) (sym (written_back c.in_ok-workers.workers.len new workers count long))
    (All-weaker (HasEnded c.args.play.now.workload.now c.args.play.now.options.now table) P (λ worker ended. ended.rests) new
    c.run_all.ensures.ended)

pub returns-clause-run : goal.returns-clause-run
returns-clause-run g c =
    let workload = c.args.play.now.workload.now in
    let options = c.args.play.now.options.now in
    let number = c.args.number in
    let values = c.args.values.items in
    let shares = c.args.shares.items in
    let shape = c.shape_for-shape.result in
    let table = c.in_ok-table.table in
    let f : Founder = c.retire_all.new.founder in
    let before = c.in_ok-workers.workers.items in
    let workers = c.run_all.new.workers in
    let sized = c.shape_for-shape.ensures in
    let told = c.in_ok-table.ensures.told in
    let count : c.in_ok-workers.workers.len ≡ length before = search rules in
    let long : length workers ≡ length before = search rules in
    let whole = written_back c.in_ok-workers.workers.len workers before count long in
    let taken : shares ≡ c.deref.result.now = sym c.deref.ensures.value in
    let made : IsMade options workload.version number (most_places shares) (first_of table) =
    is_made options workload.version number (most_places shares) shape (first_of table)
    (subst (λ (ss : List Share). IsDstmMade options workload.version number (most_places ss) shape) (sym taken)
    (was_made workload options number c.deref.result.now shape c.requires.parallel sized.attempts
    (sized.locators ∙ ap locators_for (sym sized.objects)) sized.manager sized.all_write)) told.of_shape told.attempts in
    let closes : Closes workload options number table f values c.close_behind-left.result.items shares c.in_ok-shares.shares.items before workers =
    record {
      engine = told.of_engine;
      layout = told.layout;
      start = told.start;
      objects = c.requires.lawful.1.objects;
      callers = told.callers ∙ sized.callers ∙ ap length (sym taken);
      made = made;
      were = c.in_ok-workers.ensures.shares;
      same = c.run_all.ensures.same ∙ ap (map (λ (worker : Worker). asked_of (share_of worker))) c.deref_mut.ensures.value;
      ended = c.run_all.ensures.ended;
      back = subst (λ (ws : List Worker). HasBack table 0 ws f) whole c.in_ok-shares.ensures.founder;
      are = c.in_ok-shares.ensures.shares ∙ ap (map share_of) whole;
      run = c.close_behind-left.ensures.run;
      left_is = c.close_behind-left.ensures.values;
    } in (
      seen_by f,
      (
        c.close_behind-left.ensures.kept,
        were_run workload options number table f values c.close_behind-left.result.items shares c.in_ok-shares.shares.items before workers
            closes,
      ),
    )
