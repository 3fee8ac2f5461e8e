-- How a call goes on: what is due after its newest event.
use Rattle.std.proofs.Common.{◌≡◌, ◌≢◌, ℕ, List, [], ◌∷◌, true, false, Some, is_some, refl, ap, Option, Bool, not, length, ◌==◌, if◌then◌else◌}
use Rattle.dstm_model.specs.declared.value.Val.{Val}
use Rattle.dstm_tl2.specs.declared.kind.Kind.TheVariants.{Enrol, Sample}
use Rattle.dstm_tl2.specs.Rules.{Event}
use Rattle.dstm_tl2.specs.Sharing.{table_of}
use Rattle.dstm_tl2.specs.State.{Hold, LocalState}
use Rattle.dstm_tl2.specs.Words.{Table}
use Rattle.dstm_tl2_words.specs.Seats.{Home}
use Rattle.dstm_tl2_order.specs.declared.again.TlAgain.{TlAgain}
use Rattle.dstm_tl2_steps.specs.declared.steps.Steps.{Steps}
use Rattle.dstm_tl2_order.specs.Order.{due, has_sampled, in_giving_back, is_spent, next}
use Rattle.dstm_tl2_order.specs.Order.Due.{Done, FreeAs, Just, LookAt}
use Rattle.dstm_tl2_order.specs.Tasks.{Task, Work}
use Rattle.dstm_tl2_order.specs.Tasks.Task.{Enrolling, Beginning, Returning, Doing}
use Rattle.dstm_tl2_steps.specs.Under.{Began, Under, Went, answer_by, now}
use Rattle.dstm_tl2_steps.proofs.Stepping.{under_is}

-- giving back is never a look
gives_no_look : (holds : List Hold) (o : ℕ) (A : Type 0) → in_giving_back holds ≡ LookAt o → A
gives_no_look [] o A q = absurd (cc)
gives_no_look (hold ∷ holds) o A q = absurd (cc)

-- only a call on an attempt looks at an object
pub looks_in : (task : Task) (table : Table) (newest : Option Event) (state : LocalState) (o : ℕ) →
    due task table newest state ≡ LookAt o → (work : Work) × (task ≡ Doing work)
looks_in Enrolling table newest state o q = go (is_some state.number) q
  where
    go : (b : Bool) → (if b then Done else Just Enrol) ≡ LookAt o → (work : Work) × (Enrolling ≡ Doing work)
    go true q = absurd (cc)
    go false q = absurd (cc)
looks_in Beginning table newest state o q = go (has_sampled newest) (length state.holds == 0) (is_spent table state) q
  where
    go : (sampled none spent : Bool) →
        (if sampled then Done
        else if not none then in_giving_back state.holds else if spent then Done else Just Sample) ≡ LookAt o →
        (work : Work) × (Beginning ≡ Doing work)
    go true none spent q = absurd (cc)
    go false true true q = absurd (cc)
    go false true false q = absurd (cc)
    go false false spent q = gives_no_look state.holds o _ q
looks_in Returning table newest state o q = gives_no_look state.holds o _ q
looks_in (Doing work) table newest state o q = (work, refl)

-- a call that enrols gives nothing back
pub frees_in : (task : Task) (table : Table) (newest : Option Event) (state : LocalState) (o word : ℕ) →
    due task table newest state ≡ FreeAs o word → task ≢ Enrolling
frees_in Enrolling table newest state o word q = go (is_some state.number) q
  where
    go : (b : Bool) → (if b then Done else Just Enrol) ≡ FreeAs o word → Enrolling ≢ Enrolling
    go true q = absurd (cc)
    go false q = absurd (cc)
frees_in Beginning table newest state o word q = λ r. cc
frees_in Returning table newest state o word q = λ r. cc
frees_in (Doing work) table newest state o word q = λ r. cc

module _ {L : Type 0} {holds : L → List Val → Type 0} {home : Home L} {began : Began} where
  -- a call on an attempt goes on as the order of steps says
  pub goes_on : (work : Work) {old new : Steps L} {again : Option TlAgain} {event : Event} →
      began.task ≡ Doing work → Went holds home began old new again event →
      Under holds home began new (next event.kind event work (now home new)) (answer_by (now home old) event again)
  goes_on work {new = new} {event = event} task went =
      under_is went.goes_on (ap (λ task. due task (table_of home.terms) (Some event) (now home new)) task) refl
