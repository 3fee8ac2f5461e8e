-- What is known of a caller as it was taken back is so in the record of its table, where it makes no more events.
use Rattle.std.proofs.Common.{◌≡◌, ◌∙◌, ◌<◌, ℕ, List, refl, sym, ap, subst}
use Rattle.dstm_machines.specs.Traces.{IsPastOf, events_of}
use Rattle.dstm_machines.proofs.Own.{same_local}
use Rattle.dstm_core.specs.Events as core_events
use Rattle.dstm_core.specs.Runs as core
use Rattle.dstm_core.specs.State as core_state
use Rattle.dstm_opacity.proofs.Stays.{told_stays}
use Rattle.dstm_engine.specs.Makes.{count_let_go}
use Rattle.dstm_words.specs.declared.terms.Terms as core_terms
use Rattle.dstm_tl2.specs.Rules.{Event}
use Rattle.dstm_tl2.specs.Runs.{local, tl2}
use Rattle.dstm_tl2.specs.Sharing.{table_of}
use Rattle.dstm_tl2.specs.State.{LocalState}
use Rattle.dstm_tl2.specs.declared.terms.Terms as tl2_terms
use Rattle.dstm_tl2.proofs.Done.{same_done_by}
use Rattle.dstm_tl2_order.specs.Ended as ended
use Rattle.dstm_tl2_order.proofs.Ones.{committed_stays, disturbed_stays, one_same}
use Rattle.dstm_tl2_order.proofs.WasRead.{same_reads}
use Rattle.dstm_tables.specs.Tells.{IsPast, IsRun, IsSpent, SameOwn, callers_of, done_of, let_go_by}
use Rattle.dstm_tables.specs.declared.tables.Round.{Round}
use Rattle.dstm_tables.specs.declared.tables.Round.TheVariants.{Dstm, Tl2}
use Rattle.dstm_tables.proofs.ClosingByDstm as by_dstm
use Rattle.dstm_model.specs.declared.value.Val.{Val}
use Rattle.dstm_tables.specs.Laws.{StaysIn}
use Rattle.dstm_tables.specs.Attempts as attempts

module _ {L : Type 0} where
  -- ---- what a caller has committed

  dstm_done : (terms : core_terms.Terms L) (old new : List core_events.Event) (c : ℕ) → core.Core terms.shape new →
      IsPastOf old new → events_of c new ≡ events_of c old →
      done_of (Dstm (record { terms = terms; log = new })) c ≡ done_of (Dstm (record { terms = terms; log = old })) c
  dstm_done terms old new c run past own =
      let shape = terms.shape in
      let start = terms.start.value.items in
      rw (← past.whole) (told_stays shape start past.later old c (rw past.whole run) (ap (events_of c) past.whole ∙ own))

  pub done_at_close : (holds : L → List Val → Type 0) (a b : Round L) (c : ℕ) → IsRun holds b → IsPast a b → SameOwn c a b →
      done_of b c ≡ done_of a c
  done_at_close holds (Dstm a) (Dstm b) c run past own =
      rw past.0 (dstm_done a.terms a.log b.log c (rw (← past.0) run.run.core) past.1 own)
  done_at_close holds (Tl2 a) (Tl2 b) c run past own =
      subst (λ (t : tl2_terms.Terms L). done_of (Tl2 (record { terms = t; log = b.log })) c ≡ done_of (Tl2 a) c) (sym past.0)
      (same_done_by (table_of a.terms) b.log a.log c own)
  done_at_close holds a b c run past own = absurd past

  -- ---- a caller that is spent

  pub spent_at_close : (a b : Round L) (c : ℕ) → IsPast a b → SameOwn c a b → IsSpent a c → IsSpent b c
  spent_at_close (Dstm a) (Dstm b) c past own spent = rw (past.0, by_dstm.state_at_close a.terms.shape c a.log b.log own) spent
  spent_at_close (Tl2 a) (Tl2 b) c past own spent =
      rw past.0 (ap (λ (l : LocalState). l.begun) (same_local tl2 (table_of a.terms) b.log a.log c own) ∙ spent)
  spent_at_close a b c past own spent = absurd past

  -- ---- how many reads a caller has let go

  pub let_go_at_close : (a b : Round L) (c : ℕ) → SameOwn c a b → let_go_by b c ≡ let_go_by a c
  let_go_at_close (Dstm a) (Dstm b) c own = ap count_let_go own
  let_go_at_close (Tl2 a) (Tl2 b) c own = refl
  let_go_at_close a b c own = absurd own

  -- ---- all that is known of a caller

  dstm_stays : (terms : core_terms.Terms L) (old new : List core_events.Event) (c : ℕ) → core.Core terms.shape new →
      c < terms.shape.callers → IsPastOf old new → events_of c new ≡ events_of c old →
      StaysIn (Dstm (record { terms = terms; log = old })) (Dstm (record { terms = terms; log = new })) c
  dstm_stays terms old new c run inside past own =
      let shape = terms.shape in
      let start = terms.start.value.items in
      let same = by_dstm.state_at_close shape c old new own in
      record {
        done = dstm_done terms old new c run past own;
        begun = ap (λ (l : core_state.LocalState). l.begun) same;
        let_go = ap count_let_go own;
        spent = subst (attempts.IsSpent shape) (sym same);
        committed = by_dstm.committed shape start c old new run inside past own;
        disturbed = by_dstm.disturbed shape start c old new run inside past own;
        aborted = by_dstm.aborted shape start c old new run inside past own;
        given_up = by_dstm.given_up shape start c old new run inside past own;
        sighted = by_dstm.sighted shape start c old new run inside past own;
        saw = by_dstm.same_sight shape start c old new run inside past own;
        calls = λ seed was. record { calls = was.calls; own = own ∙ was.own; made = was.made };
      }

  tl2_stays : (terms : tl2_terms.Terms L) (old new : List Event) (c : ℕ) → IsPastOf old new → events_of c new ≡ events_of c old →
      StaysIn (Tl2 (record { terms = terms; log = old })) (Tl2 (record { terms = terms; log = new })) c
  tl2_stays terms old new c past own =
      let t = table_of terms in
      let same : local t new c ≡ local t old c = same_local tl2 t new old c own in
      record {
        done = same_done_by t new old c own;
        begun = ap (λ (l : LocalState). l.begun) same;
        let_go = refl;
        spent = λ spent. ap (λ (l : LocalState). l.begun) same ∙ spent;
        committed = λ i some few was. rw (← past.whole) (committed_stays t past.later old c i was);
        disturbed = λ i was. rw (← past.whole) (disturbed_stays t past.later old c i was);
        aborted = λ i some few was. tt;
        given_up = λ rechecks i was. one_same ended.draws t new old c i own ∙ was;
        sighted = λ more i few. tt;
        saw = λ i. same_reads t new old c i own;
        calls = λ seed was. record { calls = was.calls; own = own ∙ was.own; made = was.made };
      }

  pub stays_in : (holds : L → List Val → Type 0) (a b : Round L) (c : ℕ) → IsRun holds b → c < callers_of a → IsPast a b →
      SameOwn c a b → StaysIn a b c
  stays_in holds (Dstm a) (Dstm b) c run inside past own =
      subst (λ (t : core_terms.Terms L). StaysIn (Dstm a) (Dstm (record { terms = t; log = b.log })) c) (sym past.0)
      (dstm_stays a.terms a.log b.log c (subst (λ (t : core_terms.Terms L). core.Core t.shape b.log) past.0 run.run.core) inside
      past.1 own)
  stays_in holds (Tl2 a) (Tl2 b) c run inside past own =
      subst (λ (t : tl2_terms.Terms L). StaysIn (Tl2 a) (Tl2 (record { terms = t; log = b.log })) c) (sym past.0)
      (tl2_stays a.terms a.log b.log c past.1 own)
  stays_in holds a b c run inside past own = absurd past
