-- To commit: what holds after the Draw, after the checks, and once all is unlocked.
use Rattle.std.proofs.Common.{◌≡◌, ◌∙◌, ℕ, List, refl, ap, sym, false, Option, Some, None, take, map}
use Rattle.dstm_model.specs.declared.value.Val.{Val}
use Rattle.dstm_machines.specs.Traces.Access.{Add}
use Rattle.dstm_tl2.specs.Rules.{new_hold}
use Rattle.dstm_tl2.specs.Sharing.{table_of}
use Rattle.dstm_tl2.specs.State.{LocalState, Read, recorded}
use Rattle.dstm_tl2.specs.Words.{Table}
use Rattle.dstm_tl2_words.specs.Seats.{Home}
use Rattle.dstm_tl2_order.specs.declared.again.TlAgain.{TlAgain}
use Rattle.dstm_tl2_steps.specs.declared.steps.Steps.{Steps}
use Rattle.dstm_tl2_steps.specs.Opened.{OpenedAs}
use Rattle.dstm_tl2_order.specs.Order.{draws, in_checking, in_giving_back}
use Rattle.dstm_tl2_order.specs.Order.Due.{Done, Just}
use Rattle.dstm_tl2_order.specs.Tasks.{Task, Work}
use Rattle.dstm_tl2_order.specs.Tasks.Task.{Doing}
use Rattle.dstm_tl2_steps.specs.Under.{Began, Lists, Under, Went, in_freeing, made_by, now, when_free}
use Rattle.dstm_tl2_steps.proofs.GivingBack.{freed_done}
use Rattle.dstm_tl2_steps.proofs.Going.{goes_on}
use Rattle.dstm_tl2_steps.proofs.WritingBack.{due_is, is_doing}

-- to give back is what a call on an attempt has to do that frees what it has locked
pub gives_frees : {task : Task} (work : Work) → task ≡ Doing work → (table : Table) (state : LocalState) →
    in_giving_back state.holds ≡ in_freeing task table state
gives_frees work q table state = freed_done state.holds ∙ ap (λ t. in_freeing t table state) (sym q)

pub free_ends : {task : Task} (work : Work) → task ≡ Doing work → (table : Table) (state : LocalState) →
    when_free task table state ≡ Done
free_ends work q table state = ap (λ t. when_free t table state) q

-- the locks of some writes, by the reads
holds_by : (old new : LocalState) (writes : List (ℕ × Val)) → new.reads ≡ old.reads →
    map (new_hold old) writes ≡ map (new_hold new) writes
holds_by old new writes q =
    ap (λ (reads : List Read). map (λ (w : ℕ × Val). record {
      object = w.0;
      word = recorded w.0 reads;
      value = w.1;
      low_put = false;
      high_put = false;
    }) writes) (sym q)

module _ {L : Type 0} {home : Home L} where
  -- the lists say as much after events that read, lock and unlock nothing
  lists_kept : {old : Steps L} (new : Steps L) {opened : OpenedAs} {n : ℕ} (m : ℕ) → Lists home old opened n → n ≡ m →
      (now home new).reads ≡ (now home old).reads → (now home new).holds ≡ (now home old).holds →
      Lists home new opened m
  lists_kept {old = old} new {opened = opened} m lists same reads held = record {
    objects = lists.objects;
    reads = lists.reads ∙ sym reads;
    held = rw (held, lists.held, same, holds_by (now home old) (now home new) (take m opened.writes) reads) refl;
  }

  pub lists_checked : {old : Steps L} (new : Steps L) {opened : OpenedAs} {n : ℕ} → Lists home old opened n →
      now home new ≡ record (now home old) { checked = (now home new).checked; failed = (now home new).failed } →
      Lists home new opened n
  lists_checked new {n = n} lists state =
      lists_kept new n lists refl (ap (λ (l : LocalState). l.reads) state) (ap (λ (l : LocalState). l.holds) state)

module _ {L : Type 0} {holds : L → List Val → Type 0} {home : Home L} {b : Began} {start : Steps L} (writes : List (ℕ × Val))
    (u : Under holds home b start (Just (draws writes)) None) where
  pub is_commit : (work : Work) × (b.task ≡ Doing work)
  is_commit = is_doing u refl

  -- the number is drawn
  drawn_state : {new : Steps L} {told : List (ℕ × Val)} (at number : ℕ) → told ≡ writes →
      Went holds home b start new None (made_by b Add (draws told) at number) → now home new ≡ record (now home start) {
        look = None;
        writes = Some writes;
        drawn = Some number;
        checked = 0;
      }
  drawn_state at number same w = rw (w.state, same) refl

  pub drawn_under : {new : Steps L} (told : List (ℕ × Val)) (at number : ℕ) →
      Went holds home b start new None (made_by b Add (draws told) at number) →
      Under holds home b new (in_checking (now home new)) None
  drawn_under told at number w = goes_on is_commit.0 is_commit.1 w

  pub drawn_lists : {new : Steps L} {told : List (ℕ × Val)} (at number : ℕ) → told ≡ writes →
      Went holds home b start new None (made_by b Add (draws told) at number) → {opened : OpenedAs} {n : ℕ} (m : ℕ) →
      Lists home start opened n → n ≡ m → Lists home new opened m
  drawn_lists {new = new} at number same w m lists q =
      let state = drawn_state at number same w in
      lists_kept new m lists q (ap (λ (l : LocalState). l.reads) state) (ap (λ (l : LocalState). l.holds) state)

  -- what is locked is to be given back
  pub bad_under : {steps : Steps L} {a : Option TlAgain} →
      Under holds home b steps (in_giving_back (now home steps).holds) a →
      Under holds home b steps (in_freeing b.task (table_of home.terms) (now home steps)) a
  bad_under {steps = steps} v = due_is v (gives_frees is_commit.0 is_commit.1 (table_of home.terms) (now home steps))

  -- it is
  pub bad_ends : {steps : Steps L} {a : Option TlAgain} →
      Under holds home b steps (when_free b.task (table_of home.terms) (now home steps)) a →
      Under holds home b steps Done a
  bad_ends {steps = steps} v = due_is v (free_ends is_commit.0 is_commit.1 (table_of home.terms) (now home steps))
