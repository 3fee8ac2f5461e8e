-- What is known of a caller's attempts at jobs as it was taken back is so in the record of its table.
use Rattle.std.proofs.Common.{◌≡◌, ◌∙◌, ◌⊎◌, ◌<◌, ◌≤◌, ℕ, sym, subst, inl, inr, Option}
use Rattle.dstm_workload.specs.declared.workload.Job.{Job}
use Rattle.dstm_workload.specs.declared.workload.Workload.{Workload}
use Rattle.dstm_tables.specs.Laws.{StaysIn}
use Rattle.dstm_tables.specs.Tells.{HasCommitted, HasFewSights, IsPast, SameOwn, WasDisturbed, begun_of, callers_of}
use Rattle.dstm_tables.proofs.Closing.{stays_in}
use Rattle.dstm_jobs.specs.Answers.{AreOfSome, IsBlockedWith}
use Rattle.dstm_jobs.specs.Jobs.{HadToStop, NoneWasted, Waited, rechecks_in}
use Rattle.dstm_jobs.specs.Law.{keeps}
use Rattle.dstm_jobs.specs.Tables.{IsRun, Round}

module _ (workload : Workload) (job : Option Job) (a b : Round) (c : ℕ) (run : IsRun b) (inside : c < callers_of a)
    (past : IsPast a b) (own : SameOwn c a b) where
  stays : StaysIn a b c
  stays = stays_in keeps a b c run inside past own

  waited : (i : ℕ) → Waited workload job a c i → Waited workload job b c i
  waited i was = record {
    version = was.version;
    stood = record {
      given_up = stays.given_up 1024 i was.stood.given_up;
      blocked = subst (λ values. IsBlockedWith workload.layout values job) (sym (stays.saw i)) was.stood.blocked;
      inside = subst (λ values. AreOfSome workload.layout values job) (sym (stays.saw i)) was.stood.inside;
    };
  }

  -- no attempt of the caller was wasted
  pub none_at_close : NoneWasted workload job a c → NoneWasted workload job b c
  none_at_close none i some few =
      let before : i ≤ begun_of a c = subst (λ (n : ℕ). i ≤ n) stays.begun few in by before (none i some before)
    where
      by : i ≤ begun_of a c →
          (HasCommitted a c i × HasFewSights 0 a c i)
          ⊎ ((WasDisturbed a c i × HasFewSights (rechecks_in workload.version) a c i)
          ⊎ ((i ≡ begun_of a c) × Waited workload job a c i)) →
          (HasCommitted b c i × HasFewSights 0 b c i)
          ⊎ ((WasDisturbed b c i × HasFewSights (rechecks_in workload.version) b c i)
          ⊎ ((i ≡ begun_of b c) × Waited workload job b c i))
      by before (inl was) = inl (stays.committed i some before was.0, stays.sighted 0 i was.1)
      by before (inr (inl was)) = inr (inl (stays.disturbed i was.0, stays.sighted (rechecks_in workload.version) i was.1))
      by before (inr (inr was)) = inr (inr (was.0 ∙ sym stays.begun, waited i was.1))

  -- where a worker had to stop it had to
  pub stop_at_close : HadToStop workload job a c → HadToStop workload job b c
  stop_at_close (inl spent) = inl (stays.spent spent)
  stop_at_close (inr was) =
      inr (subst (λ (n : ℕ). (0 < n) × Waited workload job b c n) (sym stays.begun) (was.0, waited (begun_of a c) was.1))
