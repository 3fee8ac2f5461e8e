-- What a body did on every lawful map is what its job does there.
use Rattle.std.proofs.Common.{◌≡◌, List, Option, Some, None}
use Rattle.std.specs.Prelude.{All, IsSomeAnd}
use Rattle.dstm_model.specs.declared.value.Val.{Val}
use Rattle.dstm_model.specs.declared.layout.Layout.{Layout}
use Rattle.dstm_model.specs.declared.op.Op.{Op}
use Rattle.dstm_model.specs.declared.reply.Reply.{Reply}
use Rattle.dstm_model.specs.Job.{JobOutcome, apply_job}
use Rattle.dstm_model.specs.Map.{Agrees, Entry, with_writes}
use Rattle.dstm_model.specs.Store.{IsPlain, Store}
use Rattle.dstm_store.specs.Job.{DoesAll}
use Rattle.dstm_store.specs.Whole.{IsLawful, StandsFor}
use Rattle.dstm_compose.specs.declared.body.Outcome.TheVariants.{Ran}
use Rattle.dstm_compose.specs.Compose.{IsRight, outcome_of, store_left}
use Rattle.dstm_jobs.specs.Answers.{IsAnsweredBy, StaysOut}
use Rattle.dstm_jobs.proofs.Plain.{plain_job}

-- what is right on every lawful map that agrees with the reads of an entry
abbrev pub IsRightFor : (is_right : List Val → List Val → Type 0) → Layout → Entry → Type 0
IsRightFor is_right layout entry =
    (map : List Val) → IsLawful layout map → Agrees map entry.reads → is_right map (with_writes map entry.writes)

module _ (layout : Layout) (ops : List Op) (replies : List Reply) (entry : Entry) where
  -- a body that ran the operations in order
  pub answered_plain : All IsPlain ops →
      IsRightFor (λ before after. DoesAll (record { layout = layout; ops = ops }) before after replies) layout entry →
      StaysOut layout ops entry → IsAnsweredBy layout ops replies entry
  answered_plain plain right inside = record {
    answers = λ map held stands agrees. rw (plain_job ops held plain) (right map (held, stands) agrees held stands);
    inside = inside;
  }

  -- a body that ran the first open branch
  pub answered_branch :
      IsRightFor (λ before after. IsRight (record { layout = layout; ops = ops }) before after (Ran replies)) layout entry →
      StaysOut layout ops entry → IsAnsweredBy layout ops replies entry
  answered_branch right inside = record {
    answers = λ map held stands agrees.
        let does = (right map (held, stands) agrees).does held stands in by map held (apply_job ops held) does.0 does.1;
    inside = inside;
  }
    where
      by : (map : List Val) (held : Store) (o : Option JobOutcome) → Ran replies ≡ outcome_of o →
          StandsFor layout (with_writes map entry.writes) (store_left held o) →
          IsSomeAnd o (λ outcome. (replies ≡ outcome.replies)
          × StandsFor layout (with_writes map entry.writes) outcome.store)
      by map held None is stands = absurd (cc is)
      by map held (Some outcome) is stands = (let same : replies ≡ outcome.replies = cc in same, stands)
