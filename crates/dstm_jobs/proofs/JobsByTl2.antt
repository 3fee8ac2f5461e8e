-- What an attempt at a job leaves by TL2 that was given up.
use Rattle.std.proofs.Common.{◌≡◌, ◌∙◌, ◌+◌, ◌<◌, ◌++◌, ℕ, List, None, refl, sym, ap, subst, arith}
use base.Fml.{GName}
use Rattle.std.proofs.lemmas.Bool.{and_parts}
use Rattle.dstm_model.specs.declared.value.Val.{Val}
use Rattle.dstm_model.specs.declared.layout.Layout.{Layout}
use Rattle.dstm_model.specs.Map.{Agrees}
use Rattle.dstm_model.specs.Objects.{objects_of}
use Rattle.dstm_model.specs.Store.{Store}
use Rattle.dstm_store.specs.declared.law.StoreLaw.{StoreLaw}
use Rattle.dstm_store.specs.Whole.{StandsFor}
use Rattle.dstm_workload.specs.declared.workload.Job.{Job}
use Rattle.dstm_compose.specs.declared.body.Outcome.TheVariants.{Blocked}
use Rattle.dstm_compose.specs.Compose.{IsRight}
use Rattle.dstm_jobs.specs.declared.style.Style.TheVariants.{Branches}
use Rattle.dstm_mem.specs.Memory.{value_in, with_set}
use Rattle.dstm_mem.proofs.Pairs.{AgreesWith-of_agrees}
use Rattle.dstm_machines.specs.Traces.{IsPastOf}
use Rattle.dstm_machines.proofs.Attempts.{log_parts}
use Rattle.dstm_machines.proofs.Pasts.{past_past}
use Rattle.dstm_tl2.specs.Histories.{is_draw, is_sample, read_values, will_of}
use Rattle.dstm_tl2.specs.Runs.{local}
use Rattle.dstm_tl2.specs.Sharing.{IsRunOf}
use Rattle.dstm_tl2.specs.State.{LocalState}
use Rattle.dstm_tl2_words.specs.Seats.{Home}
use Rattle.dstm_tl2_steps.specs.Reads as reads
use Rattle.dstm_tl2_order.specs.Ended.{HasNoDraw, draws, draws_for, reads_of}
use Rattle.dstm_tl2_order.proofs.Draws.{undrawn_none}
use Rattle.dstm_tl2_order.proofs.Ones.{one_weaker}
use Rattle.dstm_tl2_order.proofs.WasRead.{reads_so_far}
use Rattle.dstm_tl2_engine.specs.Attempts.{Admits}
use Rattle.dstm_tl2_engine.specs.Callers.{TlCalled, begun_log, law_of, since_sample, state, table_of_caller, held, is_opened, written}
use Rattle.dstm_tl2_engine.specs.Transactions.{BeginsAnew, TxPlace, tx_place}
use Rattle.dstm_tl2_engine.specs.Calls.{IsTold}
use Rattle.dstm_tl2_engine.proofs.Begun.{begun_count}
use Rattle.dstm_tl2_engine.proofs.Living.{makes_both, makes_one, told_makes}
use Rattle.dstm_tl2_order.specs.Made.{LocksItsWrites}
use Rattle.dstm_tl2_order.specs.Tasks.Task.{Beginning}
use Rattle.dstm_tl2_engine.proofs.Made as made
use Rattle.dstm_tables.specs.declared.tables.Caller.TheVariants.{Tl2}
use Rattle.dstm_jobs.specs.Tables.{AtRest, OneMore}
use Rattle.dstm_jobs.specs.Jobs.{StoodAt}
use Rattle.dstm_jobs.specs.Law.{keeps}
use Rattle.dstm_jobs.proofs.Inside.{KeepsOutOf}
use Rattle.dstm_tables.proofs.ByTl2.{tl2_on}

-- ---- an attempt that is given up

module _ (k b t : TlCalled StoreLaw) (r q : GName) (h j : Home StoreLaw) (begins : BeginsAnew keeps k b)
    (place : tx_place r h t ≡ tx_place q j b) (rest : AtRest (Tl2 k)) (still : reads.AtRest (state t))
    (run : IsRunOf keeps t.home.terms t.log) (told : IsTold t) where
  home : t.home ≡ k.home
  home = made.home keeps k b t r q h j begins place

  number : t.number ≡ k.number
  number = made.number keeps k b t r q h j begins place

  there : b.log ≡ begun_log t.number t.log
  there = begins.at_begin ∙ sym (ap (λ (p : TxPlace StoreLaw). p.began) place)

  counted : (state t).begun ≡ (state k).begun + 1
  counted =
      begun_count (table_of_caller t) t.number t.log
      ∙ ap (λ xs. (local (table_of_caller t) xs t.number).begun) (sym there)
      ∙ ap (λ (x : Home StoreLaw). (state (record b { home = x; number = t.number })).begun)
      (ap (λ (p : TxPlace StoreLaw). p.home) place)
      ∙ ap (λ c. (state (record b { number = c })).begun) (ap (λ (p : TxPlace StoreLaw). p.number) place)
      ∙ ap (λ (l : LocalState). l.begun) begins.begun.1

  past : IsPastOf k.log t.log
  past =
      past_past k.log b.log t.log begins.steps.seen (record {
        later = since_sample t.number t.log;
        whole = ap (λ xs. since_sample t.number t.log ++ xs) there ∙ sym (log_parts is_sample t.number t.log);
      })

  pub one_more : OneMore (Tl2 k) (Tl2 t)
  one_more = record {
    on = tl2_on k t rest home number past (subst (λ (x : Home StoreLaw). IsRunOf keeps x.terms t.log) home run) still.untold.2
        (makes_both LocksItsWrites k b t (makes_one LocksItsWrites keeps Beginning k b None tt begins.steps)
        (told_makes b t (ap (λ (p : TxPlace StoreLaw). p.home) place) (ap (λ (p : TxPlace StoreLaw). p.number) place) there told));
    begun = counted;
  }

  -- no branch of the job was open
  pub stood_at : (rechecks : ℕ) (layout : Layout) (job : Job) → (law_of k).layout ≡ layout →
      ((map : List Val) → Admits keeps t map →
      IsRight (record { layout = layout; ops = job.ops }) map (with_set map (written t)) Blocked) →
      KeepsOutOf layout job.ops (held t) (is_opened t) → StoodAt Branches rechecks layout job (Tl2 k) (Tl2 t)
  stood_at rechecks layout job law right out = record {
    branches = refl;
    made = one_more;
    given_up = undrawn;
    uncommitted = λ committed.
        absurd (let drew = one_weaker (draws_for (table_of_caller t) t.log) draws (table_of_caller t) t.log t.number (state t).begun
        (λ l e h. (and_parts (is_draw e.kind) (will_of (table_of_caller t) t.log e.found) h).0) committed in
        let none = undrawn in cc);
    aborted = tt;
    blocked = λ map held stands agrees. (right map (admitted map held stands agrees)).blocked refl held stands;
    inside = λ o foreign.
        ap (λ (values : List (ℕ × Val)). value_in values o) (reads_so_far (table_of_caller t) t.log t.number begun) ∙ (out o foreign).0;
    unused = λ reads. refl;
    same_done = made.same_done keeps k b t r q h j begins place;
  }
    where
      undrawn : HasNoDraw (table_of_caller t) t.log t.number (state t).begun
      undrawn = undrawn_none (table_of_caller t) t.log t.number still.undrawn

      law_there : (law_of t).layout ≡ layout
      law_there = ap (λ (x : Home StoreLaw). x.terms.law.value.layout) home ∙ law

      begun : 0 < (state t).begun
      begun = omega (arith, counted)

      admitted : (map : List Val) (held : Store) → StandsFor layout map held →
          Agrees map (reads_of (table_of_caller t) t.log t.number (state t).begun) → Admits keeps t map
      admitted map held stands agrees = record {
        length = stands.objects ∙ sym (run.lawful.1.objects ∙ ap objects_of law_there);
        lawful = rw law_there (held, stands);
        agrees =
            AgreesWith-of_agrees map (read_values (state t).reads)
            (rw (← reads_so_far (table_of_caller t) t.log t.number begun) agrees);
      }
