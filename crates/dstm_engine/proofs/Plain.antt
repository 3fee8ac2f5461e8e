-- Calls that open nothing, and let nothing go: a recheck, and a commit.
use Rattle.std.proofs.Common.{◌==◌, ◌||◌, ◌∙◌, ◌∷◌, ◌≡◌, Bool, List, None, Option, Some, [], ap, false, refl, sym, true}
use Rattle.std.proofs.lemmas.Bool.{cond_both}
use Rattle.dstm_engine.proofs.Base.{Check, Commit, Committing, Doing, Done, Draw, Due, Effort, Event, IsDue, Kind, Lcg, LocalState, LookNumber, LookSelf, MAX_MISSED, Manager, Obeys, PutHigh, PutNew, Quit, Rank, Read, Rechecking, Resolution, Shape, Step, Work, after, at_first, due, due_after, effort_after, effort_of, given, is_outside, is_resolved, keep_resolved, newest_of, next, next_or_first, no_effort, record_resolved, rises, state_after, when_passed, when_put}
use Rattle.dstm_core.specs.declared.event.Kind.TheVariants.{Validating as ToValidating}
use Rattle.dstm_order.proofs.Rows.{checks_by, checking_by, pass_by, putting_by}

-- kinds that change nothing of what is open
abbrev pub is_plain : Work → Kind → Bool
is_plain w LookNumber = true
is_plain w Check = true
is_plain w LookSelf = true
is_plain w PutHigh = true
is_plain w PutNew = true
is_plain w ToValidating = true
is_plain w Draw = true
is_plain w Commit = true
is_plain w Quit = true
is_plain (Committing value) Rank = true
is_plain w kind = false

-- such a call is made of such events
abbrev pub is_closed : Work → Bool
is_closed Rechecking = true
is_closed (Committing value) = true
is_closed work = false

abbrev IsPlainDue : Work → Due → Type 0
IsPlainDue w (Step kind operand) = is_plain w kind ≡ true
IsPlainDue w Done = Unit {0}

put_due : (w : Work) (l : LocalState) → is_closed w ≡ true → IsPlainDue w (when_put w l)
put_due (Committing v) l h = putting_by (IsPlainDue (Committing v)) v l refl (λ n. refl) (λ n. refl)
put_due w l h = tt

first_due : (w : Work) (l : LocalState) → is_closed w ≡ true → IsPlainDue w (at_first w l)
first_due (Committing v) l h = putting_by (IsPlainDue (Committing v)) v l refl (λ n. refl) (λ n. refl)
first_due Rechecking l h = refl
first_due w l h = absurd (cc)

passed_due : (w : Work) (m : Manager) (l : LocalState) → is_closed w ≡ true → IsPlainDue w (when_passed w m l)
passed_due Rechecking m l h = tt
passed_due (Committing v) m l h = cond_both (rises m) _ _ (IsPlainDue (Committing v)) (λ _. refl) (λ _. tt)
passed_due w m l h = absurd (cc)

next_due : (k : Kind) (e : Event) (w : Work) (m : Manager) (l : LocalState) (f : Effort) → is_closed w ≡ true →
    is_plain w k ≡ true → IsPlainDue w (next k e w m l f)
next_due LookNumber e w m l f h p = pass_by (IsPlainDue w) l refl refl
next_due Check e w m l f h p = checks_by (IsPlainDue w) l.phase l refl refl refl
next_due LookSelf e w m l f h p = passed_due w m l h
next_due Rank e (Committing v) m l f h p = tt
next_due PutHigh e w m l f h p = put_due w l h
next_due PutNew e w m l f h p = put_due w l h
next_due ToValidating e w m l f h p = refl
next_due Draw e w m l f h p = checking_by (IsPlainDue w) l refl refl
next_due Commit e w m l f h p = tt
next_due Quit e w m l f h p = tt
next_due k e w m l f h p = absurd (cc)

abbrev pub IsPlainNewest : Work → Option Event → Type 0
IsPlainNewest w None = Unit {0}
IsPlainNewest w (Some e) = is_plain w e.kind ≡ true

plain_due : (w : Work) (s : Shape) (o : Option Event) (l : LocalState) (f : Effort) → is_closed w ≡ true →
    IsPlainNewest w o → IsPlainDue w (due (Doing w) s o l f)
plain_due w s o l f h p =
    cond_both (is_outside l.phase) _ _ (IsPlainDue w) (λ _. tt) (λ _.
    cond_both (l.stale || (f.missed == MAX_MISSED)) _ _ (IsPlainDue w) (λ _. refl) (λ _. goes o p))
  where
    goes : (o : Option Event) → IsPlainNewest w o → IsPlainDue w (next_or_first o w s.manager l f)
    goes None p = first_due w l h
    goes (Some e) p = next_due e.kind e w s.manager l f h p

due_kind : (w : Work) (d : Due) (e : Event) → IsPlainDue w d → IsDue d e → is_plain w e.kind ≡ true
due_kind w (Step k n) e p h = ap (is_plain w) h.0 ∙ p
due_kind w Done e p h = absurd h

-- each event of the call is of such a kind
abbrev pub ArePlain : Work → List Event → Type 0
ArePlain w [] = Unit {0}
ArePlain w (e ∷ es) = (is_plain w e.kind ≡ true) × ArePlain w es

pub newest_plain : (w : Work) (es : List Event) → ArePlain w es → IsPlainNewest w (newest_of es)
newest_plain w [] h = tt
newest_plain w (e ∷ es) h = h.0

pub are_plain : (w : Work) (s : Shape) (l : LocalState) (g : Lcg) (es : List Event) → is_closed w ≡ true →
    Obeys (Doing w) s l g es → ArePlain w es
are_plain w s l g [] c h = tt
are_plain w s l g (e ∷ es) c h =
    let ih = are_plain w s l g es c h.0 in (
      due_kind w (due_after (Doing w) s l g es) e
          (plain_due w s (newest_of es) (state_after s l es) (effort_of s l g es) c (newest_plain w es ih)) h.1,
      ih,
    )

-- it takes no random word
plain_effort : (w : Work) (k : Kind) (m : Manager) (l : LocalState) (f : Effort) (e : Event) → is_plain w k ≡ true →
    effort_after k m l f e ≡ f
plain_effort w LookNumber m l f e h = refl
plain_effort w Check m l f e h = refl
plain_effort w LookSelf m l f e h = refl
plain_effort (Committing v) Rank m l f e h = refl
plain_effort w PutHigh m l f e h = refl
plain_effort w PutNew m l f e h = refl
plain_effort w ToValidating m l f e h = refl
plain_effort w Draw m l f e h = refl
plain_effort w Commit m l f e h = refl
plain_effort w Quit m l f e h = refl
plain_effort w k m l f e h = absurd (cc)

pub plain_still : (w : Work) (s : Shape) (l : LocalState) (g : Lcg) (es : List Event) → ArePlain w es →
    effort_of s l g es ≡ no_effort g
plain_still w s l g [] h = refl
plain_still w s l g (e ∷ es) h =
    plain_effort w e.kind s.manager (state_after s l es) (effort_of s l g es) e h.0 ∙ plain_still w s l g es h.1

-- and keeps what is open
pub record SameOpened (old new : LocalState) : Type 0 where
  pub reads : new.reads ≡ old.reads
  pub writes : new.writes ≡ old.writes
  pub recorded : record_resolved new.resolution new.reads ≡ new.reads

kept_recorded : (r : Option Resolution) {rs : List Read} → record_resolved r rs ≡ rs →
    record_resolved (keep_resolved r) rs ≡ rs
kept_recorded None h = refl
kept_recorded (Some r) {rs = rs} h =
    cond_both (is_resolved r) (Some r) None (λ (x : Option Resolution). record_resolved x rs ≡ rs) (λ _. h) (λ _. refl)

same_phase : {old l : LocalState} (m : LocalState) → SameOpened old l → m.reads ≡ l.reads → m.writes ≡ l.writes →
    m.resolution ≡ l.resolution → SameOpened old m
same_phase {l = l} m h r w res = record {
  reads = r ∙ h.reads;
  writes = w ∙ h.writes;
  recorded = ap (λ x. record_resolved x m.reads) res ∙ ap (record_resolved l.resolution) r ∙ h.recorded ∙ sym r;
}

plain_opened : (w : Work) (s : Shape) {old l : LocalState} (e : Event) (k : Kind) → is_plain w k ≡ true → SameOpened
    old l → SameOpened old (after k s l e)
plain_opened w s {l = l} e LookNumber p h = record {
  reads = h.recorded ∙ h.reads;
  writes = h.writes;
  recorded =
      ap (record_resolved (keep_resolved l.resolution)) h.recorded ∙ kept_recorded l.resolution h.recorded
      ∙ sym h.recorded;
}
plain_opened w s e Check p h = same_phase _ h refl refl refl
plain_opened w s {old = old} {l = l} e LookSelf p h =
    cond_both (e.found == given l.phase) _ _ (SameOpened old) (λ _. same_phase _ h refl refl refl)
    (λ _. same_phase _ h refl refl refl)
plain_opened (Committing v) s e Rank p h = same_phase _ h refl refl refl
plain_opened w s e PutHigh p h = same_phase _ h refl refl refl
plain_opened w s e PutNew p h = same_phase _ h refl refl refl
plain_opened w s {old = old} e ToValidating p h =
    cond_both (e.found == 1) _ _ (SameOpened old) (λ _. same_phase _ h refl refl refl)
    (λ _. same_phase _ h refl refl refl)
plain_opened w s e Draw p h = same_phase _ h refl refl refl
plain_opened w s e Commit p h = same_phase _ h refl refl refl
plain_opened w s e Quit p h = same_phase _ h refl refl refl
plain_opened w s e k p h = absurd (cc)

pub same_opened : (w : Work) (s : Shape) (l : LocalState) (es : List Event) → ArePlain w es →
    record_resolved l.resolution l.reads ≡ l.reads → SameOpened l (state_after s l es)
same_opened w s l [] h r = record { reads = refl; writes = refl; recorded = r }
same_opened w s l (e ∷ es) h r = plain_opened w s e e.kind h.0 (same_opened w s l es h.1 r)
