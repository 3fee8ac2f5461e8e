-- Retries keep their rank.
use Rattle.std.proofs.Common.{◌≡◌, ◌≢◌, ◌⊎◌, ◌∙◌, ◌++◌, ◌∷◌, ◌==◌, ◌&&◌, Bool, List, [], true, false, ap, inl, inr, refl, subst, sym, not, ℕ, Option, if◌then◌else◌}
use Rattle.dstm_core.proofs.Base.{AllowedAs, Each, Event, LocalState, after, and_parts, cases_Bool, cond_both, eq-eqb, events_of, first, is_outside, local}
use Rattle.dstm_order.proofs.Base.{AreMade, Begin, Beginning, Call, Doing, Done, Due, Enrol, Enrolling, IsDue, KeepsRank, Kind, Lcg, Leaving, Obeys, Outside, Quit, Rank, Shape, Stamp, Step, Task, TriesAgain, Work, effort_of, events_in, generator_by, has_begun, has_stamps, in_beginning, is_begin, is_new, just, newest_of, rises, state_after, state_by}
use Rattle.dstm_order.proofs.Beginnings.{none_after}
use Rattle.dstm_order.proofs.Rows.{beginning_by}
use Rattle.dstm_machines.proofs.Own.{own_first, own_other}
use Rattle.dstm_progress.proofs.OwnEvents.{whole_allowed, whole_state}
use Rattle.dstm_progress.proofs.Own.{AreAllowed, allowed_split, state_both}
use Rattle.dstm_progress.proofs.Calls.{nothing_due}
use Rattle.dstm_progress.specs.Lives.{RetriesKeep}

-- each of some own events keeps the rank
abbrev AllKeep : Shape → LocalState → List Event → Type 0
AllKeep s l [] = Unit {0}
AllKeep s l (e ∷ es) = AllKeep s l es × KeepsRank (state_after s l es) e

keep_both : (s : Shape) (l : LocalState) (xs ys : List Event) → AllKeep s (state_after s l ys) xs → AllKeep s l ys →
    AllKeep s l (xs ++ ys)
keep_both s l [] ys new old = old
keep_both s l (x ∷ xs) ys new old =
    (keep_both s l xs ys new.0 old, subst (λ m. KeepsRank m x) (sym (state_both s l xs ys)) new.1)

-- an event of another kind
other_kind : {k : Kind} (l : LocalState) (e : Event) → e.kind ≡ k → k ≢ Stamp → k ≢ Rank → KeepsRank l e
other_kind l e is stamp rank = record {
  stamp = λ q. absurd (stamp (sym is ∙ q));
  rank = λ q out again. absurd (rank (sym is ∙ q));
}

no_both : (b f : Bool) → f ≡ false → (b && f) ≡ false
no_both true f q = q
no_both false f q = refl

same_rank : (b f : Bool) (n : ℕ) → f ≡ false → (if b && f then 0 else n) ≡ n
same_rank b f n q = rw (no_both b f q) refl

-- ---- what is due as an attempt begins

module _ (s : Shape) (fresh : Bool) (l : LocalState) (e : Event) (is : fresh ≡ is_new l) where
  abbrev Kept : Due → Type 0
  Kept d = IsDue d e → KeepsRank l e

  done_kept : Kept Done
  done_kept h = absurd h

  quit_kept : Kept (just Quit)
  quit_kept h = other_kind l e h.0 (λ q. absurd (cc)) (λ q. absurd (cc))

  begin_kept : Kept (just Begin)
  begin_kept h = other_kind l e h.0 (λ q. absurd (cc)) (λ q. absurd (cc))

  stamp_kept : (has_stamps s.manager && fresh && not l.stamped) ≡ true → Kept (just Stamp)
  stamp_kept q h = record {
    stamp = λ _. sym is ∙ (and_parts (has_stamps s.manager) fresh (and_parts (has_stamps s.manager && fresh) (not l.stamped) q).0).1;
    rank = λ r out again. absurd (let other : Stamp ≡ Rank = sym h.0 ∙ r in cc);
  }

  rank_kept : Kept (Step Rank (if rises s.manager && fresh then 0 else l.rank))
  rank_kept h = record {
    stamp = λ r. absurd (let other : Rank ≡ Stamp = sym h.0 ∙ r in cc);
    rank = λ r out again. h.1 ∙ same_rank (rises s.manager) fresh l.rank (is ∙ again);
  }

  beginning_kept : (o : Option Event) → Kept (in_beginning s fresh o l)
  beginning_kept o = beginning_by Kept s fresh o l done_kept quit_kept (λ _. stamp_kept) (λ _. rank_kept) begin_kept

-- no event of it but the Begin changes whether the transaction is new
module _ (s : Shape) (fresh : Bool) (l : LocalState) (e : Event) where
  abbrev Same : Due → Type 0
  Same d = IsDue d e → is_begin e.kind ≡ false → is_new (after e.kind s l e) ≡ is_new l

  quit_same : Same (just Quit)
  quit_same h not_yet = subst (λ k. is_new (after k s l e) ≡ is_new l) (sym h.0) refl

  stamp_same : Same (just Stamp)
  stamp_same h not_yet = subst (λ k. is_new (after k s l e) ≡ is_new l) (sym h.0) refl

  rank_same : (n : ℕ) → Same (Step Rank n)
  rank_same n h not_yet = subst (λ k. is_new (after k s l e) ≡ is_new l) (sym h.0) refl

  begin_same : Same (just Begin)
  begin_same h not_yet = absurd (let no_way : true ≡ false = sym (ap is_begin h.0) ∙ not_yet in cc)

  beginning_same : (o : Option Event) → Same (in_beginning s fresh o l)
  beginning_same o = beginning_by Same s fresh o l (λ h not_yet. absurd h) quit_same (λ _ _. stamp_same)
      (λ _. rank_same _) begin_same

-- behind the Begin nothing is due
pub not_begun : (o : Option Event) (s : Shape) (fresh : Bool) (l : LocalState) (e : Event) →
    IsDue (in_beginning s fresh o l) e → has_begun o ≡ false
not_begun = none_after

-- ---- the calls

module _ (s : Shape) (l : LocalState) (g : Lcg) where
  pub still_new : (fresh : Bool) (es : List Event) → Obeys (Beginning fresh) s l g es →
      has_begun (newest_of es) ≡ false → is_new (state_after s l es) ≡ is_new l
  still_new fresh [] h not_yet = refl
  still_new fresh (e ∷ es) h not_yet =
      beginning_same s fresh (state_after s l es) e (newest_of es) h.1 not_yet
      ∙ still_new fresh es h.0 (not_begun (newest_of es) s fresh (state_after s l es) e h.1)

  begins_keep : (fresh : Bool) (es : List Event) → fresh ≡ is_new l → Obeys (Beginning fresh) s l g es → AllKeep s l es
  begins_keep fresh [] same h = tt
  begins_keep fresh (e ∷ es) is h = (
    begins_keep fresh es is h.0,
    beginning_kept s fresh (state_after s l es) e
        (is ∙ sym (still_new fresh es h.0 (not_begun (newest_of es) s fresh (state_after s l es) e h.1)))
        (newest_of es) h.1,
  )

  does_keep : (w : Work) (es : List Event) → AreAllowed s l es → Obeys (Doing w) s l g es → AllKeep s l es
  does_keep w [] a h = tt
  does_keep w (e ∷ es) a h = (
    does_keep w es a.0 h.0,
    record {
      stamp = λ q.
          absurd (under (let x : AllowedAs Stamp s (state_after s l es) e =
          subst (λ k. AllowedAs k s (state_after s l es) e) q a.1 in x.2.0));
      rank = λ q out again. absurd (under out);
    },
  )
    where
      under : (state_after s l es).phase ≡ Outside → ⊥
      under out = nothing_due w s (newest_of es) (state_after s l es) (effort_of s l g es) e out h.1

  leave_keeps : (es : List Event) → Obeys Leaving s l g es → AllKeep s l es
  leave_keeps [] h = tt
  leave_keeps (e ∷ es) h = (
    leave_keeps es h.0,
    cond_both (is_outside (state_after s l es).phase) Done (just Quit)
        (λ d. IsDue d e → KeepsRank (state_after s l es) e) (λ _ x. absurd x)
        (λ _ x. other_kind (state_after s l es) e x.0 (λ q. absurd (cc)) (λ q. absurd (cc))) h.1,
  )

  enrol_keeps : (es : List Event) → Obeys Enrolling s l g es → AllKeep s l es
  enrol_keeps [] h = tt
  enrol_keeps (e ∷ es) h = (
    enrol_keeps es h.0,
    cond_both _ Done (just Enrol)
        (λ d. IsDue d e → KeepsRank (state_after s l es) e) (λ _ x. absurd x)
        (λ _ x. other_kind (state_after s l es) e x.0 (λ q. absurd (cc)) (λ q. absurd (cc))) h.1,
  )

  call_keeps : (t : Task) (es : List Event) → TriesAgain l t → AreAllowed s l es → Obeys t s l g es → AllKeep s l es
  call_keeps Enrolling es may a h = enrol_keeps es h
  call_keeps (Beginning fresh) es may a h = begins_keep fresh es may h
  call_keeps Leaving es may a h = leave_keeps es h
  call_keeps (Doing w) es may a h = does_keep w es a h

calls_keep : (s : Shape) (l : LocalState) (g : Lcg) (cs : List Call) → AreMade s l g TriesAgain cs →
    AreAllowed s l (events_in cs) → AllKeep s l (events_in cs)
calls_keep s l g [] m a = tt
calls_keep s l g (c ∷ cs) m a =
    let both = allowed_split s l c.events (events_in cs) a in
    keep_both s l c.events (events_in cs)
    (call_keeps s (state_by s l g cs) (generator_by s l g cs) c.task c.events m.1 both.0 m.2.obeys)
    (calls_keep s l g cs m.0 both.1)

-- ---- in a log

abbrev KeepsAll : Shape → ℕ → List Event → Type 0
KeepsAll s c log = Each (λ (event : Event) before. event.caller ≡ c → KeepsRank (local s before c) event) log

log_keeps : (s : Shape) (c : ℕ) (log : List Event) → AllKeep s first (events_of c log) → KeepsAll s c log
log_keeps s c [] h = tt
log_keeps s c (e ∷ es) h = by (λ own. log_keeps s c es own) (cases_Bool (e.caller == c))
  where
    by : (AllKeep s first (events_of c es) → KeepsAll s c es) → (e.caller == c ≡ true) ⊎ (e.caller == c ≡ false) →
        KeepsAll s c (e ∷ es)
    by ih (inl q) =
        let own : AllKeep s first (e ∷ events_of c es) = subst (AllKeep s first) (own_first e es c q) h in
        (ih own.0, λ here. subst (λ l. KeepsRank l e) (sym (whole_state s c es)) own.1)
    by ih (inr q) = (
      ih (subst (AllKeep s first) (own_other e es c q) h),
      λ here. absurd (let no_way : true ≡ false = sym (eq-eqb e.caller c here) ∙ q in cc),
    )

pub retries_keep : RetriesKeep
retries_keep s g log c core by =
    log_keeps s c log (subst (AllKeep s first) (sym by.own)
    (calls_keep s first g by.calls by.made (subst (AreAllowed s first) by.own (whole_allowed s c log core))))
