-- A caller that opens no object for reading has recorded no read, at any time.
use Rattle.std.proofs.Common.{◌≡◌, ◌≢◌, ◌∙◌, ◌++◌, ◌∷◌, Bool, List, Option, None, [], ap, false, inl, inr, is_some, refl, subst, sym, true, ℕ}
use Rattle.dstm_core.proofs.Base.{AllowedAs, Event, LocalState, after, cond_both, events_of, first, is_one_of, is_outside}
use Rattle.dstm_core.proofs.Underway.{is_outside_now}
use Rattle.dstm_order.proofs.Base.{AreMade, Begin, Beginning, Call, Doing, Due, Effort, Enrol, Enrolling, IsCall, Kind, Lcg, Leaving, Obeys, Outside, Quit, Rank, Shape, Stamp, Task, Work, due, effort_of, events_in, generator_by, newest_of, state_after, state_by}
use Rattle.dstm_order.proofs.Rows.{beginning_by, is_due_of, kind_of_due}
use Rattle.dstm_machines.proofs.Own.{own_append}
use Rattle.dstm_progress.specs.Lives.{HasReadNothing, NothingIsStale, OpensNoneToRead}
use Rattle.dstm_progress.specs.Oldest.{IsNoReading}
use Rattle.dstm_progress.proofs.Calls.{nothing_due}
use Rattle.dstm_progress.proofs.Own.{AreAllowed, allowed_split, state_both}
use Rattle.dstm_progress.proofs.OwnEvents.{whole_allowed, whole_state}
use Rattle.dstm_progress.proofs.Writers.{Nothing, call_nothing, begins_call, call_reads, no_reading}

-- between two calls: nothing is read, and an attempt that is under way has no object resolved
record Between (l : LocalState) : Type 0 where
  reads : l.reads ≡ []
  agreed : l.stale ≡ false
  number : l.phase ≢ Outside → is_some l.number ≡ true
  clear : l.phase ≢ Outside → l.resolution ≡ None

unread : {l : LocalState} → Between l → HasReadNothing l
unread b = record { reads = b.reads; agreed = b.agreed }

-- at each of some own events
abbrev AllUnread : Shape → LocalState → List Event → Type 0
AllUnread s l [] = HasReadNothing l
AllUnread s l (e ∷ es) = AllUnread s l es × HasReadNothing (state_after s l (e ∷ es))

-- where nothing was read before either
unread_both : (s : Shape) (l : LocalState) (xs ys : List Event) → AllUnread s (state_after s l ys) xs → AllUnread s l ys →
    AllUnread s l (xs ++ ys)
unread_both s l [] ys new old = old
unread_both s l (x ∷ xs) ys new old =
    (unread_both s l xs ys new.0 old, subst HasReadNothing (sym (state_both s l (x ∷ xs) ys)) new.1)

-- and at each moment before
unread_then : (s : Shape) (l : LocalState) (newer older : List Event) → AllUnread s l (newer ++ older) →
    HasReadNothing (state_after s l older)
unread_then s l [] [] all = all
unread_then s l [] (e ∷ older) all = all.1
unread_then s l (e ∷ newer) older all = unread_then s l newer older all.0

-- ---- calls that open nothing

-- the kinds of event by which a caller enrols, and an attempt begins or is given up
abbrev is_around : Kind → Bool
is_around = is_one_of (Enrol ∷ Stamp ∷ Rank ∷ Begin ∷ Quit ∷ [])

around : (s : Shape) (l : LocalState) (e : Event) (k : Kind) → is_around k ≡ true → AllowedAs k s l e → Between l →
    Between (after k s l e)
around s l e Enrol is a b = record { reads = b.reads; agreed = b.agreed; number = λ i. refl; clear = b.clear }
around s l e Stamp is a b = record { reads = b.reads; agreed = b.agreed; number = b.number; clear = b.clear }
around s l e Rank is a b = record { reads = b.reads; agreed = b.agreed; number = b.number; clear = b.clear }
around s l e Begin is a b = record { reads = refl; agreed = refl; number = λ i. a.2.1; clear = λ i. refl }
around s l e Quit is a b =
    record { reads = b.reads; agreed = b.agreed; number = λ i. absurd (i refl); clear = λ i. absurd (i refl) }
around s l e k is a b = absurd (cc)

abbrev IsAround : Due → Type 0
IsAround d = is_due_of is_around d ≡ true

enrolling_around : (s : Shape) (o : Option Event) (l : LocalState) (f : Effort) → IsAround (due Enrolling s o l f)
enrolling_around s o l f = cond_both (is_some l.number) _ _ IsAround (λ _. refl) (λ _. refl)

beginning_around : (fresh : Bool) (s : Shape) (o : Option Event) (l : LocalState) (f : Effort) →
    IsAround (due (Beginning fresh) s o l f)
beginning_around fresh s o l f = beginning_by IsAround s fresh o l refl refl (λ _ _. refl) (λ _. refl) refl

leaving_around : (s : Shape) (o : Option Event) (l : LocalState) (f : Effort) → IsAround (due Leaving s o l f)
leaving_around s o l f = cond_both (is_outside l.phase) _ _ IsAround (λ _. refl) (λ _. refl)

-- nothing was read in a call, and nothing is between it and the next one
record Unread (s : Shape) (l : LocalState) (es : List Event) : Type 0 where
  all : AllUnread s l es
  end : Between (state_after s l es)

module _ (s : Shape) (l : LocalState) (g : Lcg) (before : Between l) where
  around_unread : (t : Task) → ((o : Option Event) (m : LocalState) (f : Effort) → IsAround (due t s o m f)) →
      (es : List Event) → AreAllowed s l es → Obeys t s l g es → Unread s l es
  around_unread t is [] a h = record { all = unread before; end = before }
  around_unread t is (e ∷ es) a h =
      let so_far = around_unread t is es a.0 h.0 in
      let m = state_after s l es in
      let f = effort_of s l g es in
      let kind = kind_of_due is_around (due t s (newest_of es) m f) e h.1 (is (newest_of es) m f) in
      let now : Between (state_after s l (e ∷ es)) = around s m e e.kind kind a.1 so_far.end in
      record { all = (so_far.all, unread now); end = now }

  -- ---- calls on an attempt

  -- where none is under way such a call does nothing
  none_outside : (w : Work) (es : List Event) → Obeys (Doing w) s l g es → l.phase ≡ Outside → es ≡ []
  none_outside w [] h out = refl
  none_outside w (e ∷ es) h out =
      let none = none_outside w es h.0 out in
      let there : (state_after s l es).phase ≡ Outside = ap (λ (xs : List Event). (state_after s l xs).phase) none ∙ out in
      absurd (nothing_due w s (newest_of es) (state_after s l es) (effort_of s l g es) e there h.1)

  begun : l.phase ≢ Outside → Nothing l
  begun inside =
      record { reads = before.reads; agreed = before.agreed; number = before.number inside; clear = before.clear }

  doing_all : (w : Work) (es : List Event) → IsNoReading w → AreAllowed s l es → Obeys (Doing w) s l g es →
      l.phase ≢ Outside → AllUnread s l es
  doing_all w [] without a h inside = unread before
  doing_all w (e ∷ es) without a h inside =
      let now = call_reads s g (e ∷ es) (no_reading w without) a h (begins_call (begun inside)) in
      (doing_all w es without a.0 h.0 inside, record { reads = now.reads; agreed = now.agreed })

  doing_unread : (w : Work) (es : List Event) → IsNoReading w → AreAllowed s l es → IsCall (Doing w) s l g es → Unread s l es
  doing_unread w es without a call = elim (is_outside_now l.phase) [
    | inl out ↦
        subst (Unread s l) (sym (none_outside w es call.obeys out)) (record { all = unread before; end = before })
    | inr inside ↦
        let end = call_nothing without a call (begun inside) in record {
          all = doing_all w es without a call.obeys inside;
          end = record { reads = end.reads; agreed = end.agreed; number = λ i. end.number; clear = end.clear };
        }
  ]

  call_unread : (t : Task) (es : List Event) → OpensNoneToRead l t → AreAllowed s l es → IsCall t s l g es → Unread s l es
  call_unread Enrolling es without a call = around_unread Enrolling (enrolling_around s) es a call.obeys
  call_unread (Beginning fresh) es without a call = around_unread (Beginning fresh) (beginning_around fresh s) es a call.obeys
  call_unread Leaving es without a call = around_unread Leaving (leaving_around s) es a call.obeys
  call_unread (Doing w) es without a call = doing_unread w es without a call

-- ---- in a run

calls_unread : (s : Shape) (l : LocalState) (g : Lcg) (cs : List Call) → Between l → AreMade s l g OpensNoneToRead cs →
    AreAllowed s l (events_in cs) → Unread s l (events_in cs)
calls_unread s l g [] start m a = record { all = unread start; end = start }
calls_unread s l g (c ∷ cs) start m a =
    let parts = allowed_split s l c.events (events_in cs) a in
    let old = calls_unread s l g cs start m.0 parts.1 in
    let new = call_unread s (state_by s l g cs) (generator_by s l g cs) old.end c.task c.events m.1 parts.0 m.2 in record {
      all = unread_both s l c.events (events_in cs) new.all old.all;
      end = subst Between (sym (state_both s l c.events (events_in cs))) new.end;
    }

at_first : Between first
at_first = record { reads = refl; agreed = refl; number = λ i. absurd (i refl); clear = λ i. refl }

pub nothing_is_stale : NothingIsStale
nothing_is_stale s g log c core by later before is =
    let allowed = subst (AreAllowed s first) by.own (whole_allowed s c log core) in
    let all : AllUnread s first (events_of c log) =
    subst (AllUnread s first) (sym by.own) (calls_unread s first g by.calls at_first by.made allowed).all in
    let parts : events_of c log ≡ events_of c later ++ events_of c before = ap (events_of c) is ∙ own_append c later before in
    subst HasReadNothing (sym (whole_state s c before))
    (unread_then s first (events_of c later) (events_of c before) (subst (AllUnread s first) parts all))
