-- A recheck that has not left its attempt, and what a log tells of the values that are held.
use Rattle.std.proofs.Common.{◌++◌, ◌<◌, ◌==◌, ◌∙◌, ◌∷◌, ◌≡◌, ◌≢◌, List, None, Some, [], ap, append_assoc, arith, false, inl, inr, length, refl, subst, sym, true, ℕ}
use Rattle.std.proofs.lemmas.List.{append_cancel_right}
use Rattle.std.specs.Prelude.{IfSome, ◌||◌}
use Rattle.std.proofs.lemmas.Bool.{cases_Bool, cond_both, eq-eqb, eqb-true}
use Rattle.dstm_core.proofs.Static.{local_own}
use Rattle.dstm_core.specs.declared.event.Kind.TheVariants.{Validating as ToValidating}
use Rattle.dstm_opacity.proofs.Kept.{seen_stays}
use Rattle.dstm_progress.proofs.Own.{newest_own}
use Rattle.dstm_progress.proofs.OwnEvents.{after_own}
use Rattle.std.specs.Prelude.{◌+◌, if◌then◌else◌}
use Rattle.std.proofs.Common.{length-append}
use Rattle.std.proofs.lemmas.List.Elements.{filter-append}
use Rattle.dstm_engine.proofs.Base.{Check, Commit, Core, Doing, Done, Draw, Effort, Event, IsDue, Kind, Lcg, LocalState, LookNumber, LookSelf, MAX_MISSED, Obeys, Outside, PutHigh, PutNew, Quit, Read, Rechecking, Running, Shape, Val, after, count_of, due, due_after, effort_of, entry_of, events_of, given, is_outside, just, local, newest_of, next, old_values, read_values, seen, state_after, value_in}
use Rattle.dstm_progress.proofs.StaleReads.{not_quit}
use Rattle.dstm_progress.proofs.Calls.{nothing_due}
use Rattle.dstm_engine.specs.Attempts.{SightAt, Sighted, completes_pass, is_look_self}
use Rattle.dstm_engine.specs.Callers.{Called, shape_of, start_of, state}
use Rattle.dstm_engine.proofs.Plain.{are_plain, is_plain}

-- ---- values that are held stay

same_parts : {A : Type 0} → (xs ys us vs : List A) → xs ++ us ≡ ys ++ vs → length xs ≡ length ys →
    (xs ≡ ys) × (us ≡ vs)
same_parts [] [] us vs h n = (refl, h)
same_parts (x ∷ xs) (y ∷ ys) us vs h n =
    let head : x ≡ y = cc in let tail : xs ++ us ≡ ys ++ vs = cc in
    let ih = same_parts xs ys us vs tail (omega arith) in
    (ap (λ z. z ∷ xs) head ∙ ap (λ zs. y ∷ zs) ih.0, ih.1)
same_parts [] (y ∷ ys) us vs h n = absurd (omega arith)
same_parts (x ∷ xs) [] us vs h n = absurd (omega arith)

values_length : (s : Shape) (start : List Val) (run : List Event) (rs : List Read) →
    length (read_values s start run rs) ≡ length rs
values_length s start run [] = refl
values_length s start run (r ∷ rs) = let ih = values_length s start run rs in omega arith

-- what a live attempt holds has the same values in every later run
pub held_stay : (s : Shape) (start : List Val) (more es : List Event) (c : ℕ) → Core s (more ++ es) → c < s.callers →
    (local s es c).phase ≢ Outside →
    (read_values s start (more ++ es) (local s es c).reads ≡ read_values s start es (local s es c).reads)
    × (old_values s start (more ++ es) (local s es c).writes ≡ old_values s start es (local s es c).writes)
held_stay s start more es c core few live =
    same_parts (read_values s start (more ++ es) (local s es c).reads) (read_values s start es (local s es c).reads)
    (old_values s start (more ++ es) (local s es c).writes) (old_values s start es (local s es c).writes)
    (seen_stays s start more es c core few live)
    (values_length s start (more ++ es) (local s es c).reads ∙ sym (values_length s start es (local s es c).reads))

-- ---- a recheck that has not left its attempt ends with a sight

-- the state after an event that completes a pass, or is of another kind of a recheck
pub look_self : (s : Shape) (l : LocalState) (e : Event) (k : Kind) → is_plain Rechecking k ≡ true →
    (after k s l e).phase ≡ Running → (after k s l e).pass ≡ None → (after k s l e).checked ≡ 0 →
    (k ≡ LookSelf) × (e.found ≡ given l.phase)
look_self s l e LookSelf p run none zero = (
  refl,
  elim (cases_Bool (e.found == given l.phase)) [
    | inl q ↦ eqb-true e.found (given l.phase) q
    | inr q ↦ absurd (let z : Outside ≡ Running = rw q at run in cc)
  ],
)
look_self s l e LookNumber p run none zero = absurd (cc)
look_self s l e Check p run none zero = absurd (omega arith)
look_self s l e PutHigh p run none zero = absurd (cc)
look_self s l e PutNew p run none zero = absurd (cc)
look_self s l e ToValidating p run none zero = absurd (elim (cases_Bool (e.found == 1)) [
  | inl q ↦ let z = rw q at run in cc
  | inr q ↦ let z = rw q at run in cc
])
look_self s l e Draw p run none zero = absurd (cc)
look_self s l e Commit p run none zero = absurd (cc)
look_self s l e Quit p run none zero = absurd (cc)
look_self s l e k p run none zero = absurd (cc)

-- what a completed pass keeps
pub sight_keeps : (s : Shape) (l : LocalState) (e : Event) (k : Kind) → k ≡ LookSelf →
    ((after k s l e).reads ≡ l.reads) × ((after k s l e).writes ≡ l.writes) × ((after k s l e).begun ≡ l.begun)
sight_keeps s l e LookSelf q =
    cond_both (e.found == given l.phase) _ _
    (λ (m : LocalState). (m.reads ≡ l.reads) × (m.writes ≡ l.writes) × (m.begun ≡ l.begun)) (λ _. (refl, refl, refl))
    (λ _. (refl, refl, refl))
sight_keeps s l e k q = absurd (cc)

-- the newest event of a log is a sight of its caller's attempt, which covers what this holds
pub record EndsInSight (s : Shape) (start : List Val) (c : ℕ) (events : List Event) : Type 0 where
  pub place : SightAt s events c (local s events c).begun
  pub open place use *
  pub is : events ≡ sight ∷ before
  pub covers : (entry_of s start events (local s events c)).reads ≡ seen s start events before c

-- a sight in a log stands in one that has gone on
abbrev pub in_later : {s : Shape} {old log : List Event} {c i j : ℕ} (later : List Event) → log ≡ later ++ old → i ≡ j →
    SightAt s old c i → SightAt s log c j
in_later later goes same x = record {
  later = later ++ x.later;
  sight = x.sight;
  before = x.before;
  log = goes ∙ ap (λ xs. later ++ xs) x.log ∙ sym (append_assoc later x.later (x.sight ∷ x.before));
  is_one = x.is_one;
  caller = x.caller;
  attempt = x.attempt ∙ same;
}

-- a log whose newest event is a LookSelf that found the status given last
pub ends_in_sight : (s : Shape) (start : List Val) (c : ℕ) {log : List Event} (before : List Event) (e : Event) → log
    ≡ e ∷ before →
    e.caller ≡ c → e.kind ≡ LookSelf → e.found ≡ given (local s before c).phase → EndsInSight s start c log
ends_in_sight s start c {log = log} before e is own kind found =
    let l = local s before e.caller in
    let keeps = sight_keeps s l e e.kind kind in
    let now : local s log c ≡ after e.kind s l e =
    ap (λ xs. local s xs c) is ∙ ap (local s (e ∷ before)) (sym own) ∙ local_own s before e in
    let was : l ≡ local s before c = ap (local s before) own in
    record {
      place = record {
        later = [];
        sight = e;
        before = before;
        log = is;
        is_one = record { kind = kind; found = found ∙ ap (λ n. given (local s before n).phase) (sym own) };
        caller = own;
        attempt = sym (ap (λ (m : LocalState). m.begun) now ∙ keeps.2 ∙ ap (λ (m : LocalState). m.begun) was);
      };
      is = is;
      covers = rw (now, keeps.0, keeps.1, was) refl;
    }

pub head_own : (c : ℕ) {log : List Event} (es before : List Event) (e : Event) → log ≡ e ∷ before → events_of c log ≡ e
    ∷ es → (e.caller ≡ c) × (events_of c before ≡ es)
head_own c es before e is own = elim (cases_Bool (e.caller == c)) [
  | inl q ↦ (eqb-true e.caller c q, (let z : e ∷ events_of c before ≡ e ∷ es = rw q at told in cc))
  | inr q ↦
      absurd (let n = newest_own c (e ∷ before) e es told in
      let z : e.caller ≡ c = n.own in let y = eq-eqb e.caller c z in cc)
]
  where
    told : events_of c (e ∷ before) ≡ e ∷ es
    told = ap (events_of c) (sym is) ∙ own

-- a recheck of an attempt that runs begins with an event
pub begins_pass : (s : Shape) (l : LocalState) (g : Lcg) → l.phase ≡ Running →
    due_after (Doing Rechecking) s l g [] ≡ Done → ⊥
begins_pass s l g run done =
    let z = rw run at done in
    cond_both (l.stale || (0 == MAX_MISSED)) (just Quit) (just LookNumber) (λ d. d ≡ Done → ⊥) (λ _ q. cc) (λ _ q. cc) z

pub recheck_sights : (s : Shape) (start : List Val) (c : ℕ) (log old : List Event) (g : Lcg) (es : List Event) →
    Obeys (Doing Rechecking) s (local s old c) g es → due_after (Doing Rechecking) s (local s old c) g es ≡ Done →
    IfSome (newest_of es) (λ event. (before : List Event) × (log ≡ event ∷ before)) →
    events_of c log ≡ es ++ events_of c old →
    (state_after s (local s old c) es).phase ≡ Running → (state_after s (local s old c) es).pass ≡ None →
    (state_after s (local s old c) es).checked ≡ 0 → EndsInSight s start c log
recheck_sights s start c log old g [] obeys done top own run none zero =
    absurd (begins_pass s (local s old c) g run done)
recheck_sights s start c log old g (e ∷ es) obeys done top own run none zero =
    let l = local s old c in
    let plain = are_plain Rechecking s l g (e ∷ es) refl obeys in
    let at_self = look_self s (state_after s l es) e e.kind plain.0 run none zero in
    let head = head_own c (es ++ events_of c old) top.0 e top.1 own in
    ends_in_sight s start c top.0 e top.1 head.0 at_self.0
    (at_self.1 ∙ ap (λ (m : LocalState). given m.phase) (sym (after_own s c top.0 old es head.1)))

pub sighted_of : {L : Type 0} (k : Called L) → EndsInSight (shape_of k) (start_of k) k.number k.log → Sighted k
sighted_of k x = record {
  place = x.place;
  newest = ap (λ xs. count_of completes_pass (shape_of k) xs k.number (state k).begun) x.is;
  covers = λ o v is. ap (λ ps. value_in ps o) (sym x.covers) ∙ is;
}

-- ---- which is one sight more

abbrev pub NoSelf : List Event → Type 0
NoSelf [] = Unit {0}
NoSelf (e ∷ es) = (is_look_self e.kind ≡ false) × NoSelf es

self_kind : (k : Kind) → is_look_self k ≡ true → k ≡ LookSelf
self_kind LookSelf h = refl
self_kind k h = absurd (cc)

-- after a LookSelf only a Quit may be due
only_quit : (s : Shape) (x e : Event) (l : LocalState) (f : Effort) → x.kind ≡ LookSelf →
    IsDue (due (Doing Rechecking) s (Some x) l f) e → e.kind ≡ Quit
only_quit s x e l f q =
    cond_both (is_outside l.phase) Done
    (if l.stale || (f.missed == MAX_MISSED) then just Quit else next x.kind x Rechecking s.manager l f)
    (λ d. IsDue d e → e.kind ≡ Quit) (λ _ h. absurd h) (λ _.
    cond_both (l.stale || (f.missed == MAX_MISSED)) (just Quit) (next x.kind x Rechecking s.manager l f)
    (λ d. IsDue d e → e.kind ≡ Quit) (λ _ h. h.0)
    (λ _ h. absurd (subst (λ k. IsDue (next k x Rechecking s.manager l f) e) q h)))

-- so a recheck has one LookSelf at most
pub one_self : (s : Shape) (l : LocalState) (g : Lcg) (e : Event) (es : List Event) →
    Obeys (Doing Rechecking) s l g (e ∷ es) → (state_after s l (e ∷ es)).phase ≢ Outside → NoSelf es
one_self s l g e [] h live = tt
one_self s l g e (x ∷ xs) h live =
    let m = state_after s l (x ∷ xs) in
    let f = effort_of s l g (x ∷ xs) in
    let inside : m.phase ≢ Outside = λ z. nothing_due Rechecking s (Some x) m f e z h.1 in (
      elim (cases_Bool (is_look_self x.kind)) [
        | inl q ↦ absurd (not_quit s m e e.kind live (only_quit s x e m f (self_kind x.kind q) h.1))
        | inr q ↦ q
      ],
      one_self s l g x xs h.0 inside,
    )

-- events without a LookSelf count nothing
pub none_counted : (s : Shape) (c i : ℕ) (later before : List Event) → NoSelf (events_of c later) →
    count_of completes_pass s (later ++ before) c i ≡ count_of completes_pass s before c i
none_counted s c i [] before h = refl
none_counted s c i (e ∷ later) before h =
    let ih = none_counted s c i later before in
    elim (cases_Bool (e.caller == c)) [
      | inl q ↦
          let all : NoSelf (e ∷ events_of c later) = rw q at h in
          elim (cases_Bool ((local s (later ++ before) c).begun == i)) [
            | inl b ↦ rw (q, b, all.0) (ih all.1)
            | inr b ↦ rw (q, b) (ih all.1)
          ]
      | inr q ↦ rw q (ih (rw q at h))
    ]

-- a log that goes on with a call of one sight has one more
pub one_more_sight : {s : Shape} {start : List Val} {c : ℕ} {log : List Event} (before later : List Event) (e : Event)
    (es : List Event) → EndsInSight s start c log → later ++ before ≡ log →
    events_of c log ≡ (e ∷ es) ++ events_of c before → NoSelf es → count_of completes_pass s log c (local s log c).begun
    ≡ count_of completes_pass s before c (local s log c).begun + 1
one_more_sight {c = c} before [] e es x whole own none =
    absurd (let n = ap length own in let m = ap (λ xs. length (events_of c xs)) whole in
    let a = length-append (e ∷ es) (events_of c before) in omega arith)
one_more_sight {s = s} {start = start} {c = c} {log = log} before (y ∷ later) e es x whole own none =
    let i = (local s log c).begun in
    let head : y ∷ (later ++ before) ≡ x.sight ∷ x.before = whole ∙ x.is in
    let rest : later ++ before ≡ x.before = cc in
    let at_head = head_own c (es ++ events_of c before) x.before x.sight x.is (own_head x.sight x.before x.is) in
    let own_rest : events_of c later ≡ es = append_cancel_right (events_of c later) es (events_of c before)
    (sym (filter-append (λ (z : Event). z.caller == c) later before) ∙ ap (events_of c) rest ∙ at_head.1) in
    let count : count_of completes_pass s x.before c i ≡ count_of completes_pass s before c i =
    ap (λ xs. count_of completes_pass s xs c i) (sym rest)
    ∙ none_counted s c i later before (subst NoSelf (sym own_rest) none) in
    ap (λ xs. count_of completes_pass s xs c i) x.is ∙ counted x i refl ∙ ap (λ n. n + 1) count
  where
    own_head : (d : Event) (ds : List Event) → log ≡ d ∷ ds → events_of c log ≡ d ∷ (es ++ events_of c before)
    own_head d ds is = elim (cases_Bool (d.caller == c)) [
      | inl q ↦
          let now : events_of c log ≡ d ∷ events_of c ds = ap (events_of c) is ∙ rw q refl in
          let same : d ∷ events_of c ds ≡ e ∷ (es ++ events_of c before) = sym now ∙ own in
          let h : d ≡ e = cc in own ∙ ap (λ z. z ∷ (es ++ events_of c before)) (sym h)
      | inr q ↦
          absurd (let z = x.caller in let w : d ∷ ds ≡ x.sight ∷ x.before = sym is ∙ x.is in
          let v : d ≡ x.sight = cc in let y = eq-eqb d.caller c (ap (λ (e : Event). e.caller) v ∙ z) in cc)
    ]

    counted : (x : EndsInSight s start c log) (i : ℕ) → (local s log c).begun ≡ i →
        count_of completes_pass s (x.sight ∷ x.before) c i ≡ count_of completes_pass s x.before c i + 1
    counted x i is =
        let own = eq-eqb x.sight.caller c x.caller in
        let begun = eq-eqb (local s x.before c).begun i (x.attempt ∙ is) in
        let found = eq-eqb x.sight.found (given (local s x.before c).phase)
        (x.is_one.found ∙ ap (λ n. given (local s x.before n).phase) x.caller) in
        let kind : is_look_self x.sight.kind ≡ true = ap is_look_self x.is_one.kind in
        rw (own, begun, kind, found) refl
