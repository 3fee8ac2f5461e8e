-- Locking what an attempt writes, in the order of opening.
use Rattle.std.proofs.Common.{◌≡◌, ◌≢◌, ◌∙◌, ℕ, ◌+◌, ◌<◌, ◌≤◌, List, true, Some, None, is_some, refl, sym, ap, subst, length, map, take, arith, Option, IfSome, IsSome, if◌then◌else◌, eq-eqb, ne_eqb}
use Rattle.dstm_model.specs.declared.value.Val.{Val}
use Rattle.dstm_machines.specs.Traces.Access.{Exchange}
use Rattle.dstm_tl2.specs.Failing.{is_locked}
use Rattle.dstm_tl2.specs.Rules.{new_hold}
use Rattle.dstm_tl2.specs.Sharing.{table_of}
use Rattle.dstm_tl2.specs.State.{LocalState, read_of, recorded}
use Rattle.dstm_mem.specs.Memory.{value_in}
use Rattle.dstm_tl2_words.specs.Seats.{Home}
use Rattle.dstm_tl2_order.specs.declared.again.TlAgain.{TlAgain}
use Rattle.dstm_tl2_order.specs.declared.again.TlAgain.TheVariants.{Locked, Changed}
use Rattle.dstm_tl2_steps.specs.declared.steps.Steps.{Steps}
use Rattle.dstm_tl2_steps.specs.Opened.{OpenedAs, read_slot, write_at}
use Rattle.dstm_tl2_order.specs.Order.{in_locking, locks, when_locked}
use Rattle.dstm_tl2_order.specs.Order.Due.{Done}
use Rattle.dstm_tl2_steps.specs.Reads.{AtRest, slot_read}
use Rattle.dstm_tl2_order.specs.Tasks.{Work}
use Rattle.dstm_tl2_order.specs.Tasks.Task.{Doing}
use Rattle.dstm_tl2_steps.specs.Under.{Began, HasLocked, Lists, Under, Went, in_freeing, made_by, now, when_free}
use Rattle.dstm_tl2_steps.proofs.Going.{goes_on}
use Rattle.dstm_tl2_steps.proofs.GivingBack.{freed_done}
use Rattle.dstm_tl2_steps.proofs.Stepping.{is_something, under_is}
use Rattle.dstm_tl2_steps.proofs.Slots.{is_written_at}
use Rattle.dstm_tl2_steps.proofs.Slotted.{slot_there, slot_word}

-- ---- the state of an attempt that locks

module _ {L : Type 0} (holds : L → List Val → Type 0) (home : Home L) (began : Began) where
  -- Since a state of the call so many objects were locked, and the next is to be locked.
  pub record Locks (start : Steps L) (writes : List (ℕ × Val)) (i : ℕ) (steps : Steps L) : Type 0 where
    pub has : HasLocked (now home start) writes i (now home steps)
    pub within : i ≤ length writes
    pub under : (work : Work) → began.task ≡ Doing work →
        Under holds home began steps (in_locking writes work (now home steps)) None

module _ {L : Type 0} {holds : L → List Val → Type 0} {home : Home L} {began : Began} where
  module _ {start old : Steps L} {opened : OpenedAs} {i : ℕ} (lists : Lists home start opened 0)
      (rest : AtRest (now home start)) (so_far : Locks holds home began start opened.writes i old) where
    -- the first writes are locked, so many
    pub lists_now : Lists home old opened i
    lists_now = record {
      objects = lists.objects;
      reads = lists.reads ∙ sym (ap (λ (state : LocalState). state.reads) so_far.has.same);
      held = ap (λ (state : LocalState). state.holds) so_far.has.same
          ∙ ap (λ (state : LocalState). map (new_hold state) (take i opened.writes)) (sym so_far.has.same);
    }

    module _ (left : i < length opened.writes) (work : Work) (task : began.task ≡ Doing work) where
      module _ {new : Steps L} (o word found : ℕ) {items : List (ℕ × Val)} (same_items : items ≡ opened.writes)
          (went_with : Went holds home began old new None
          (made_by began (Exchange word (word + 1)) (locks items) o found)) where
        went : Went holds home began old new None
            (made_by began (Exchange word (word + 1)) (locks opened.writes) o found)
        went = rw (← same_items) went_with

        -- it had another word, which ends the attempt
        lost_now : found ≢ word → now home new ≡ record (now home old) {
          look = None;
          writes = Some opened.writes;
          failed = true;
        }
        lost_now other = went.state ∙ rw (ne_eqb found word other) refl

        pub lost : found ≢ word → now home new ≡ record (now home start) {
          writes = Some opened.writes;
          locked = i;
          holds = map (new_hold (now home start)) (take i opened.writes);
          failed = true;
        }
        lost other = rw (lost_now other, so_far.has.same, rest.no_look) refl

        pub lost_under : {again : TlAgain} → found ≢ word →
            again ≡ (if is_locked found then Locked o else Changed o) →
            Under holds home began new (in_freeing began.task (table_of home.terms) (now home new)) (Some again)
        lost_under other is =
            let failed : (now home new).failed ≡ true = ap (λ (state : LocalState). state.failed) (lost_now other) in
            under_is (goes_on work task went) (rw failed (freed_done (now home new).holds
            ∙ ap (λ task. in_freeing task (table_of home.terms) (now home new)) (sym task)))
            (rw (ne_eqb found word other) (ap Some (sym is)))

        -- and ends the call
        pub lost_ends : (last : Steps L) {again : TlAgain} → found ≢ word →
            again ≡ (if is_locked found then Locked o else Changed o) → ((again : Option TlAgain) →
            Under holds home began new (in_freeing began.task (table_of home.terms) (now home new)) again →
            Under holds home began last (when_free began.task (table_of home.terms) (now home last)) again) →
            Under holds home began last Done (Some again)
        lost_ends last {again = again} other is frees =
            under_is (frees (Some again) (lost_under other is))
            (ap (λ task. when_free task (table_of home.terms) (now home last)) task) refl

        pub lost_lists : found ≢ word → Lists home new opened i
        lost_lists other = record {
          objects = lists.objects;
          reads = lists.reads ∙ sym (ap (λ (state : LocalState). state.reads) (lost other));
          held = ap (λ (state : LocalState). state.holds) (lost other)
              ∙ ap (λ (state : LocalState). map (new_hold state) (take i opened.writes)) (sym (lost other));
        }

    -- what an object to be written was read as
    module _ (read : (o : ℕ) → IsSome (value_in opened.writes o) → read_of o (now home start).reads ≢ None)
        (left : i < length opened.writes) (o : ℕ) (at : (write_at opened.writes i).0 ≡ o) where
      pub was_read : is_some (read_of o (now home old).reads) ≡ true
      was_read =
          let open_o : IsSome (value_in opened.writes o) =
          subst (λ o. IsSome (value_in opened.writes o)) at (is_written_at opened.writes i left) in
          rw so_far.has.same (is_something (read_of o (now home start).reads) (read o open_o))

      reads_now : map slot_read opened.reads ≡ (now home old).reads
      reads_now = lists.reads ∙ sym (ap (λ (state : LocalState). state.reads) so_far.has.same)

      pub has_slot : IsSome (read_slot opened.reads o)
      has_slot = slot_there opened.reads o (subst (λ rs. is_some (read_of o rs) ≡ true) (sym reads_now) was_read)

      pub has_word : (word : ℕ) → IfSome (read_slot opened.reads o) (λ slot. word ≡ slot.word) →
          recorded o (now home old).reads ≡ word
      has_word word is = sym (slot_word opened.reads o word has_slot is ∙ ap (recorded o) reads_now)

  -- all are locked
  module _ {start steps : Steps L} {writes : List (ℕ × Val)} {i : ℕ} (so_far : Locks holds home began start writes i steps)
      (all : length writes ≤ i) where
    pub locks_all : (i ≡ length writes) × HasLocked (now home start) writes (length writes) (now home steps)
    locks_all =
        let within = so_far.within in
        let count : i ≡ length writes = omega arith in
        (count, subst (λ n. HasLocked (now home start) writes n (now home steps)) count so_far.has)

    pub then_goes_on : (work : Work) → began.task ≡ Doing work → Under holds home began steps (when_locked work) None
    then_goes_on work task =
        let count : (now home steps).locked ≡ length writes =
        ap (λ (state : LocalState). state.locked) so_far.has.same ∙ locks_all.0 in
        under_is (so_far.under work task) (rw (eq-eqb (now home steps).locked (length writes) count) refl) refl
