-- What is due on the way to a conflict.
use Rattle.std.proofs.Common.{◌≡◌, ◌≢◌, ◌⊎◌, ℕ, ◌<◌, ◌≤◌, ◌&&◌, Bool, true, false, None, Some, refl, ap, sym, arith, ◌∙◌, inl, inr, List}
use Rattle.std.specs.Prelude.{Option, Result, Ok, Err, OnOk}
use Rattle.std.proofs.lemmas.Bool.{cases_eq}
use Rattle.std.proofs.lemmas.Bool.Decides.{nat_tests}
use Rattle.dstm_core.specs.declared.event.Kind.TheVariants.{LookRank}
use Rattle.dstm_core.specs.declared.state.Phase.TheVariants.{Running}
use Rattle.dstm_core.specs.declared.state.Read.{Read}
use Rattle.dstm_core.specs.Rules.{after}
use Rattle.dstm_core.specs.declared.state.Resolution.{Resolution}
use Rattle.dstm_core.specs.State.{LocalState, res, is_live, is_other}
use Rattle.dstm_machines.specs.Traces.Access.{Load}
use Rattle.dstm_model.specs.declared.value.Val.{Val}
use Rattle.dstm_order.specs.Calls.{quit_cause}
use Rattle.dstm_order.specs.declared.again.Again.{Again}
use Rattle.dstm_order.specs.declared.again.Again.TheVariants.{Stale}
use Rattle.dstm_order.specs.Efforts.{Effort}
use Rattle.dstm_order.specs.Order.{Due, just, has_ranks}
use Rattle.dstm_order.specs.Tasks.{Task}
use Rattle.dstm_words.specs.Seats.{Home, view_of}
use Rattle.dstm_steps.specs.Conflicts.{Encounters, Meets}
use Rattle.dstm_steps.specs.declared.steps.Steps.{Steps}
use Rattle.dstm_steps.specs.Finding.{word_of, is_changed}
use Rattle.dstm_steps.specs.Under.{Began, InTask, Under, Resolving, made_by, now}
use Rattle.dstm_steps.proofs.Meeting.{version_live}
use Rattle.dstm_steps.proofs.Stepping.{here, under_is}
use Rattle.dstm_steps.proofs.Undrawn.{running_undrawn}

-- a code that is not live is that of a finished attempt
pub code_over : (code : ℕ) → (0 < code) × (code ≤ 5) → is_live code ≡ false → (code ≡ 4) ⊎ (code ≡ 5)
code_over code named over = go (cases_eq code 4)
  where
    go : (code ≡ 4) ⊎ (code ≢ 4) → (code ≡ 4) ⊎ (code ≡ 5)
    go (inl q) = inl q
    go (inr q) = inr (grind (arith, nat_tests))

-- an attempt that runs has drawn no number
pub undrawn : {L : Type 0} {task : Task} {holds : L → List Val → Type 0} {home : Home L} {b : Began} {steps : Steps L}
    {d : Due} {a : Option Again} → InTask holds home task b steps d a → (now home steps).phase ≡ Running →
    (now home steps).drawn ≡ None
undrawn {home = home} {b = b} {steps = steps} u p =
    ap (λ (l : LocalState). l.drawn) (here u)
    ∙ running_undrawn home.terms.shape (view_of steps.seat).log u.run.run.core b.number
    (sym (ap (λ (l : LocalState). l.phase) (here u)) ∙ p)

-- the word of a recorded read is another one
pub other_is : (word : ℕ) (read : Option Read) → is_other word read ≡ is_changed (word_of read) word
other_is word None = refl
other_is word (Some read) = refl

-- a fact of each answer that is no error, from another
pub on_ok : {T E P Q : Type 0} (r : Result T E) → (P → Q) → OnOk r P → OnOk r Q
on_ok (Ok v) f h = f h
on_ok (Err e) f h = tt

-- the object whose read was found stale as it was resolved
pub stale_found : (l : LocalState) (c : Effort) (object : ℕ) → l.stale ≡ true → l.pass ≡ None → l.drawn ≡ None →
    (res l).object ≡ object → quit_cause l c ≡ Stale object
stale_found l c object stale pass drawn same = rw (stale, pass, drawn, same) refl

-- a LookObj that found no read stale keeps the attempt
pub stays_object : (old new : LocalState) (found : Option Resolution) (changed : Bool) →
    new ≡ record old { resolution = found; stale = changed; pass = None; checked = 0 } → old.stale ≡ false →
    changed ≡ false → new ≡ record old { resolution = new.resolution; pass = new.pass; checked = new.checked }
stays_object old new found changed q agreed same =
    q ∙ rw (
      ap (λ (l : LocalState). l.resolution) q,
      ap (λ (l : LocalState). l.pass) q,
      ap (λ (l : LocalState). l.checked) q,
    ) (ap (λ b. record old { resolution = found; stale = b; pass = None; checked = 0 }) (same ∙ sym agreed))

module _ {L : Type 0} {holds : L → List Val → Type 0} {home : Home L} {b : Began} {old : Steps L} {word owner code : ℕ}
    (en : Encounters holds home b old word owner code) where
  -- where there are ranks that of a live owner is looked at
  pub rank_due : is_live code ≡ true → has_ranks home.terms.shape.manager ≡ true →
      Under holds home b old (just LookRank) None
  rank_due live ranks =
      under_is en.under (rw (
        en.running.phase,
        en.owner_is,
        en.status,
        version_live (res (now home old)).word code (res (now home old)).old (rw en.word_is en.some) live,
        live,
        ranks,
        en.rank,
      ) refl) refl

  -- under Polite the conflict begins at once
  pub meets_polite : has_ranks home.terms.shape.manager ≡ false → Meets holds home b Running old owner code
  meets_polite none = record {
    under = en.under;
    in_phase = en.running.phase;
    agreed = en.running.agreed;
    uncommitted = en.running.uncommitted;
    word = rw en.word_is en.some;
    owner_is = en.owner_is;
    status = en.status;
    rank = rw none refl;
    old = en.old;
    high = en.high;
    value = en.value;
    named = en.named;
    rounds = let r = en.round in omega arith;
    waiting = λ _ h. let l = en.left in omega arith;
    tries = en.tries;
  }

  -- else once the rank was found
  pub meets_ranked : {new : Steps L} {n : ℕ} →
      now home new ≡ after LookRank home.terms.shape (now home old) (made_by b Load LookRank 0 n) →
      Resolving holds home b new → new ≡ record old { seat = new.seat } → Meets holds home b Running new owner code
  meets_ranked state under rest = record {
    under = under;
    in_phase = ap (λ (l : LocalState). l.phase) state ∙ en.running.phase;
    agreed = ap (λ (l : LocalState). l.stale) state ∙ en.running.agreed;
    uncommitted = ap (λ (l : LocalState). l.committed) state ∙ en.running.uncommitted;
    word = rw (ap (λ l. (res l).word) state, en.word_is) en.some;
    owner_is = ap (λ l. (res l).owner) state ∙ en.owner_is;
    status = ap (λ l. (res l).status) state ∙ en.status;
    rank = rw (ap (λ l. (res l).rank) state) (no_rank (has_ranks home.terms.shape.manager));
    old = ap (λ l. (res l).old) state ∙ en.old;
    high = ap (λ l. (res l).high) state ∙ en.high;
    value = ap (λ l. (res l).value) state ∙ en.value;
    named = en.named;
    rounds = rw rest (let r = en.round in omega arith);
    waiting = rw rest (λ _ h. let l = en.left in omega arith);
    tries = rw rest en.tries;
  }
    where
      no_rank : (b : Bool) → (b && false) ≡ false
      no_rank true = refl
      no_rank false = refl
