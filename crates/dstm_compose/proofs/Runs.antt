-- How a job with branches ends, once it is known which branch is the first open one.
use Rattle.std.proofs.Common.{◌≡◌, List, sym, ◌∙◌, ap, subst}
use Rattle.std.specs.Prelude.{Option, Some, None}
use Rattle.dstm_model.specs.declared.value.Val.{Val}
use Rattle.dstm_model.specs.declared.layout.Layout.{Layout}
use Rattle.dstm_model.specs.declared.op.Op.{Op}
use Rattle.dstm_model.specs.declared.reply.Reply.{Reply}
use Rattle.dstm_model.specs.Store.{Store}
use Rattle.dstm_model.specs.Job.{JobOutcome, apply_all, apply_job, open_branch, run_branch}
use Rattle.dstm_store.specs.Whole.{StandsFor}
use Rattle.dstm_store.specs.Job.{DoesAll}
use Rattle.dstm_compose.specs.declared.body.Outcome.TheVariants.{Ran, Blocked}
use Rattle.dstm_compose.specs.Compose.{IsRight, outcome_of, store_left}

-- this branch is the first open one in whatever store the map stands for
abbrev pub Takes : Layout → List Op → List Val → Option (List Op) → Type 0
Takes layout ops map branch =
    (store : Store) → StandsFor layout map store → branch ≡ open_branch ops store

pub right-ran : (layout : Layout) (ops branch : List Op) (before after : List Val) (replies : List Reply) →
    Takes layout ops before (Some branch) → DoesAll (record { layout = layout; ops = branch }) before after replies →
    IsRight (record { layout = layout; ops = ops }) before after (Ran replies)
right-ran layout ops branch before after replies takes does = record {
  does = λ store stands.
      let done = does store stands in
      let job : apply_job ops store ≡ Some (apply_all branch store) =
      ap (λ (b : Option (List Op)). run_branch b store) (sym (takes store stands)) in (
        ap Ran done.0 ∙ sym (ap outcome_of job),
        subst (λ (o : Option JobOutcome). StandsFor layout after (store_left store o)) (sym job) done.1,
      );
  blocked = λ e. absurd (cc e);
  unchanged = λ e. absurd (cc e);
}

pub right-blocked : (layout : Layout) (ops : List Op) (before after : List Val) → Takes layout ops before None →
    after ≡ before → IsRight (record { layout = layout; ops = ops }) before after Blocked
right-blocked layout ops before after takes same =
    let job = λ (store : Store) (stands : StandsFor layout before store).
    let none : apply_job ops store ≡ None =
    ap (λ (b : Option (List Op)). run_branch b store) (sym (takes store stands)) in none in
    record {
      does = λ store stands. (
        sym (ap outcome_of (job store stands)),
        subst (λ (o : Option JobOutcome). StandsFor layout after (store_left store o)) (sym (job store stands))
            (subst (λ (values : List Val). StandsFor layout values store) (sym same) stands),
      );
      blocked = λ _. job;
      unchanged = λ _. same;
    }
