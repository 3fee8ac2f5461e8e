-- A commit puts the values that it was given.
use Rattle.std.proofs.Common.{◌++◌, ◌+◌, ◌<◌, ◌==◌, ◌||◌, ◌∙◌, ◌∷◌, ◌≡◌, ◌≢◌, ◌≤◌, ◌⊎◌, List, None, Option, Some, [], ap, append_assoc, arith, cond, false, inl, inr, length, map, refl, slice_get, subst, suc, sym, true, ℕ}
use Rattle.std.specs.Prelude.{is_some}
use Rattle.std.proofs.lemmas.Bool.{cases_Bool, cases_lt, cond_both, eqb-true}
use Rattle.dstm_engine.proofs.Base.{AllowedAs, Check, Commit, Committing, Core, Doing, Done, Draw, Drawn, Due, Effort, Event, HighWord, IsDue, Kind, Lcg, LocalState, LookNumber, LookSelf, LowWord, MAX_MISSED, Manager, Obeys, PutHigh, PutNew, Putting, Quit, Rank, Running, Shape, Step, Val, Validating, Write, after, at, due, due_after, effort_of, events_of, given, in_putting, is_outside, local, new_value, new_values, newest_of, next, next_or_first, next_write, or_write, place, rises, state_after, value_in, write_of}
use Rattle.dstm_core.specs.declared.event.Kind.TheVariants.{Validating as ToValidating}
use Rattle.dstm_opacity.proofs.Kept.{put_stays}
use Rattle.dstm_order.proofs.Rows.{checking_by, checks_by, pass_by}
use Rattle.dstm_progress.proofs.Own.{AreAllowed, newest_own}
use Rattle.dstm_engine.proofs.Plain.{ArePlain, IsPlainNewest, is_plain, newest_plain}

-- ---- each Put that is due has its value

abbrev PutsRight : (ℕ → Val) → LocalState → Due → Type 0
PutsRight v l (Step PutHigh n) = n ≡ (v (next_write l).object).high
PutsRight v l (Step PutNew n) = n ≡ (v (next_write l).object).low
PutsRight v l (Step k n) = Unit {0}
PutsRight v l Done = Unit {0}

putting_right : (v : ℕ → Val) (l : LocalState) → PutsRight v l (in_putting v l)
putting_right v l =
    cond_both (l.written == length l.writes) _ _ (PutsRight v l) (λ _. tt) (λ _.
    cond_both l.high_put _ _ (PutsRight v l) (λ _. refl) (λ _. refl))

next_right : (v : ℕ → Val) (k : Kind) (e : Event) (m : Manager) (l : LocalState) (f : Effort) →
    is_plain (Committing v) k ≡ true → PutsRight v l (next k e (Committing v) m l f)
next_right v LookNumber e m l f p = pass_by (PutsRight v l) l tt tt
next_right v Check e m l f p = checks_by (PutsRight v l) l.phase l tt tt tt
next_right v LookSelf e m l f p = cond_both (rises m) _ _ (PutsRight v l) (λ _. tt) (λ _. tt)
next_right v Rank e m l f p = tt
next_right v PutHigh e m l f p = putting_right v l
next_right v PutNew e m l f p = putting_right v l
next_right v ToValidating e m l f p = tt
next_right v Draw e m l f p = checking_by (PutsRight v l) l tt tt
next_right v Commit e m l f p = tt
next_right v Quit e m l f p = tt
next_right v k e m l f p = absurd (cc)

due_right : (v : ℕ → Val) (s : Shape) (o : Option Event) (l : LocalState) (f : Effort) →
    IsPlainNewest (Committing v) o → PutsRight v l (due (Doing (Committing v)) s o l f)
due_right v s o l f p =
    cond_both (is_outside l.phase) _ _ (PutsRight v l) (λ _. tt) (λ _.
    cond_both (l.stale || (f.missed == MAX_MISSED)) _ _ (PutsRight v l) (λ _. tt) (λ _. goes o p))
  where
    goes : (o : Option Event) → IsPlainNewest (Committing v) o →
        PutsRight v l (next_or_first o (Committing v) s.manager l f)
    goes None p = putting_right v l
    goes (Some e) p = next_right v e.kind e s.manager l f p

high_right : (v : ℕ → Val) (l : LocalState) (d : Due) (e : Event) → PutsRight v l d → IsDue d e → e.kind ≡ PutHigh →
    e.put ≡ (v (next_write l).object).high
high_right v l (Step PutHigh n) e r h k = h.1 ∙ r
high_right v l (Step q n) e r h k = absurd (let z = h.0 in cc)
high_right v l Done e r h k = absurd h

low_right : (v : ℕ → Val) (l : LocalState) (d : Due) (e : Event) → PutsRight v l d → IsDue d e → e.kind ≡ PutNew →
    e.put ≡ (v (next_write l).object).low
low_right v l (Step PutNew n) e r h k = h.1 ∙ r
low_right v l (Step q n) e r h k = absurd (let z = h.0 in cc)
low_right v l Done e r h k = absurd h

-- ---- what is put by some events

-- an event of this kind has put a number at a place
record HasPut (k : Kind) (at_place put : ℕ) (es : List Event) : Type 0 where
  later : List Event
  event : Event
  before : List Event
  whole : es ≡ later ++ event ∷ before
  is : (event.kind ≡ k) × (event.place ≡ at_place) × (event.put ≡ put)

-- the newest event has, or an earlier one
put_here : {k : Kind} {p n : ℕ} (e : Event) (es : List Event) → e.kind ≡ k → e.place ≡ p → e.put ≡ n → HasPut k p n (e ∷ es)
put_here e es kind place put = record { later = []; event = e; before = es; whole = refl; is = (kind, place, put) }

put_more : {k : Kind} {p n : ℕ} (e : Event) {es : List Event} → HasPut k p n es → HasPut k p n (e ∷ es)
put_more e h =
    record { later = e ∷ h.later; event = h.event; before = h.before; whole = ap (λ xs. e ∷ xs) h.whole; is = h.is }

-- an attempt that validates, or has committed, has put all its values
record IsReady (l : LocalState) : Type 0 where
  few : l.written ≤ length l.writes
  ready : (l.phase ≡ Validating) ⊎ ((l.phase ≡ Drawn) ⊎ (l.committed ≡ true)) → l.written ≡ length l.writes

same_ready : {l : LocalState} (m : LocalState) → m.written ≡ l.written → m.writes ≡ l.writes →
    ((m.phase ≡ Validating) ⊎ ((m.phase ≡ Drawn) ⊎ (m.committed ≡ true)) →
    (l.phase ≡ Validating) ⊎ ((l.phase ≡ Drawn) ⊎ (l.committed ≡ true))) → IsReady l → IsReady m
same_ready m w ws was r = record {
  few = let x = r.few in let y = ap length ws in omega arith;
  ready = λ z. w ∙ r.ready (was z) ∙ sym (ap length ws);
}

gone_ready : {l : LocalState} (m : LocalState) → m.written ≡ l.written → m.writes ≡ l.writes → m.phase ≢ Validating →
    m.phase ≢ Drawn → m.committed ≡ l.committed → IsReady l → IsReady m
gone_ready {l = l} m w ws p q c r = same_ready m w ws was r
  where
    was : (m.phase ≡ Validating) ⊎ ((m.phase ≡ Drawn) ⊎ (m.committed ≡ true)) →
        (l.phase ≡ Validating) ⊎ ((l.phase ≡ Drawn) ⊎ (l.committed ≡ true))
    was (inl x) = absurd (p x)
    was (inr (inl x)) = absurd (q x)
    was (inr (inr x)) = inr (inr (sym c ∙ x))

validates : (l : LocalState) → l.written ≤ length l.writes →
    ((l.phase ≡ Running) × (l.writes ≡ [])) ⊎ ((l.phase ≡ Putting) × (l.written ≡ length l.writes)) →
    l.written ≡ length l.writes
validates l few (inl x) = let y = ap length x.1 in omega arith
validates l few (inr x) = x.1

ready_step : (v : ℕ → Val) (s : Shape) {l : LocalState} (e : Event) (k : Kind) → is_plain (Committing v) k ≡ true →
    AllowedAs k s l e → IsReady l → IsReady (after k s l e)
ready_step v s e LookNumber p a r = same_ready _ refl refl (λ z. z) r
ready_step v s e Check p a r = same_ready _ refl refl (λ z. z) r
ready_step v s e Rank p a r = same_ready _ refl refl (λ z. z) r
ready_step v s {l = l} e LookSelf p a r =
    cond_both (e.found == given l.phase) _ _ IsReady (λ _. same_ready _ refl refl (λ z. z) r)
    (λ _. gone_ready _ refl refl (λ z. cc) (λ z. cc) refl r)
ready_step v s e PutHigh p a r = gone_ready _ refl refl (λ z. cc) (λ z. cc) refl r
ready_step v s {l = l} e PutNew p a r = record { few = let x = a.2.2 in omega arith; ready = ready }
  where
    ready : ((after PutNew s l e).phase ≡ Validating) ⊎ (((after PutNew s l e).phase ≡ Drawn)
        ⊎ ((after PutNew s l e).committed ≡ true)) → (after PutNew s l e).written ≡ length (after PutNew s l e).writes
    ready (inl x) = absurd (cc)
    ready (inr (inl x)) = absurd (cc)
    ready (inr (inr x)) = absurd (let y = r.ready (inr (inr x)) in let z = a.2.2 in omega arith)
ready_step v s {l = l} e ToValidating p a r =
    cond_both (e.found == 1) _ _ IsReady (λ _. record { few = r.few; ready = λ z. validates l r.few a.2.0 })
    (λ _. gone_ready _ refl refl (λ z. cc) (λ z. cc) refl r)
ready_step v s e Draw p a r = record { few = r.few; ready = λ z. r.ready (inl a.2.0) }
ready_step v s e Commit p a r = record { few = r.few; ready = λ z. r.ready (inr (inl a.2.0)) }
ready_step v s e Quit p a r = gone_ready _ refl refl (λ z. cc) (λ z. cc) refl r
ready_step v s e k p a r = absurd (cc)

abbrev nth : List Write → ℕ → Write
nth ws j = or_write (slice_get ws j)

module _ (v : ℕ → Val) (s : Shape) (ws : List Write) where
  -- the first values are put, and the high part of the next one where this is so
  record ArePutBy (l : LocalState) (es : List Event) : Type 0 where
    low : (j : ℕ) → j < l.written → HasPut PutNew (place s (LowWord (nth ws j).locator)) (v (nth ws j).object).low es
    high : (j : ℕ) → j < l.written → HasPut PutHigh (place s (HighWord (nth ws j).locator)) (v (nth ws j).object).high es
    half : l.high_put ≡ true →
        HasPut PutHigh (place s (HighWord (nth ws l.written).locator)) (v (nth ws l.written).object).high es
    same : l.writes ≡ ws
    is_ready : IsReady l

  stay_put : {l m : LocalState} (e : Event) {es : List Event} → m.written ≡ l.written → m.high_put ≡ l.high_put →
      m.writes ≡ l.writes → IsReady m → ArePutBy l es → ArePutBy m (e ∷ es)
  stay_put e {es = es} w h q r x = record {
    low = λ j lt. put_more e (x.low j (subst (λ n. j < n) w lt));
    high = λ j lt. put_more e (x.high j (subst (λ n. j < n) w lt));
    half = λ z. subst (λ n. HasPut PutHigh (place s (HighWord (nth ws n).locator)) (v (nth ws n).object).high (e ∷ es))
        (sym w) (put_more e (x.half (sym h ∙ z)));
    same = q ∙ x.same;
    is_ready = r;
  }

  next_is : (l : LocalState) → l.writes ≡ ws → next_write l ≡ nth ws l.written
  next_is l same = ap (λ xs. or_write (slice_get xs l.written)) same

  put_step : (l : LocalState) (e : Event) (es : List Event) (k : Kind) → e.kind ≡ k →
      is_plain (Committing v) k ≡ true → AllowedAs k s l e →
      (k ≡ PutHigh → e.put ≡ (v (next_write l).object).high) → (k ≡ PutNew → e.put ≡ (v (next_write l).object).low) →
      ArePutBy l es → ArePutBy (after k s l e) (e ∷ es)
  put_step l e es PutHigh is p a hi lo x = record {
    low = λ j lt. put_more e (x.low j lt);
    high = λ j lt. put_more e (x.high j lt);
    half = λ z. put_here e es is (a.0 ∙ ap (λ (w : Write). place s (HighWord w.locator)) (next_is l x.same))
        (hi refl ∙ ap (λ (w : Write). (v w.object).high) (next_is l x.same));
    same = x.same;
    is_ready = ready_step v s e PutHigh p a x.is_ready;
  }
  put_step l e es PutNew is p a hi lo x = record {
    low = λ j lt. lows j (cases_lt j l.written) lt;
    high = λ j lt. highs j (cases_lt j l.written) lt;
    half = λ z. absurd (cc);
    same = x.same;
    is_ready = ready_step v s e PutNew p a x.is_ready;
  }
    where
      lows : (j : ℕ) → (j < l.written) ⊎ (l.written ≤ j) → j < l.written + 1 →
          HasPut PutNew (place s (LowWord (nth ws j).locator)) (v (nth ws j).object).low (e ∷ es)
      lows j (inl lt) up = put_more e (x.low j lt)
      lows j (inr ge) up =
          let at_j : l.written ≡ j = omega arith in
          let w : next_write l ≡ nth ws j = next_is l x.same ∙ ap (nth ws) at_j in
          put_here e es is (a.0 ∙ ap (λ (w : Write). place s (LowWord w.locator)) w)
          (lo refl ∙ ap (λ (w : Write). (v w.object).low) w)

      highs : (j : ℕ) → (j < l.written) ⊎ (l.written ≤ j) → j < l.written + 1 →
          HasPut PutHigh (place s (HighWord (nth ws j).locator)) (v (nth ws j).object).high (e ∷ es)
      highs j (inl lt) up = put_more e (x.high j lt)
      highs j (inr ge) up =
          let at_j : l.written ≡ j = omega arith in
          subst (λ n. HasPut PutHigh (place s (HighWord (nth ws n).locator)) (v (nth ws n).object).high (e ∷ es)) at_j
          (put_more e (x.half a.2.3))
  put_step l e es LookNumber is p a hi lo x = stay_put e refl refl refl (ready_step v s e LookNumber p a x.is_ready) x
  put_step l e es Check is p a hi lo x = stay_put e refl refl refl (ready_step v s e Check p a x.is_ready) x
  put_step l e es Rank is p a hi lo x = stay_put e refl refl refl (ready_step v s e Rank p a x.is_ready) x
  put_step l e es LookSelf is p a hi lo x = elim (cases_Bool (e.found == given l.phase)) [
    | inl q ↦ stay_put e (rw q refl) (rw q refl) (rw q refl) (ready_step v s e LookSelf p a x.is_ready) x
    | inr q ↦ stay_put e (rw q refl) (rw q refl) (rw q refl) (ready_step v s e LookSelf p a x.is_ready) x
  ]
  put_step l e es ToValidating is p a hi lo x = elim (cases_Bool (e.found == 1)) [
    | inl q ↦ stay_put e (rw q refl) (rw q refl) (rw q refl) (ready_step v s e ToValidating p a x.is_ready) x
    | inr q ↦ stay_put e (rw q refl) (rw q refl) (rw q refl) (ready_step v s e ToValidating p a x.is_ready) x
  ]
  put_step l e es Draw is p a hi lo x = stay_put e refl refl refl (ready_step v s e Draw p a x.is_ready) x
  put_step l e es Commit is p a hi lo x = stay_put e refl refl refl (ready_step v s e Commit p a x.is_ready) x
  put_step l e es Quit is p a hi lo x = stay_put e refl refl refl (ready_step v s e Quit p a x.is_ready) x
  put_step l e es k is p a hi lo x = absurd (cc)

  put_all : {l : LocalState} (g : Lcg) (es : List Event) → AreAllowed s l es → Obeys (Doing (Committing v)) s l g es →
      ArePlain (Committing v) es → ArePutBy l [] → ArePutBy (state_after s l es) es
  put_all g [] a h p x = x
  put_all {l = l} g (e ∷ es) a h p x =
      let m = state_after s l es in
      let right = due_right v s (newest_of es) m (effort_of s l g es) (newest_plain (Committing v) es p.1) in
      put_step m e es e.kind refl p.0 a.1
      (λ q. high_right v m (due_after (Doing (Committing v)) s l g es) e right h.1 q)
      (λ q. low_right v m (due_after (Doing (Committing v)) s l g es) e right h.1 q) (put_all g es a.0 h.0 p.1 x)

-- ---- what stands in a log

own_at : (c : ℕ) (log later before : List Event) (d : Event) → events_of c log ≡ later ++ d ∷ before →
    (more : List Event) × (rest : List Event) × (log ≡ more ++ d ∷ rest)
own_at c log [] before d h = let n = newest_own c log d before h in (n.later, n.before, n.run)
own_at c log (x ∷ later) before d h =
    let n = newest_own c log x (later ++ d ∷ before) h in
    let r = own_at c n.before later before d n.rest in
    (n.later ++ x ∷ r.0, r.1, n.run ∙ ap (λ xs. n.later ++ x ∷ xs) r.2 ∙ sym (append_assoc n.later (x ∷ r.0) (d ∷ r.1)))

-- what was put by a caller's own event stays
put_stands : (s : Shape) (c : ℕ) (log : List Event) {es : List Event} (rest : List Event) {k : Kind} {p n : ℕ} → Core s
    log → events_of c log ≡ es ++ rest → (k ≡ PutHigh) ⊎ (k ≡ PutNew) → HasPut k p n es → at log p ≡ n
put_stands s c log rest {k = k} core own kind x =
    let d = x.event in
    let here = own_at c log x.later (x.before ++ rest) d
    (own ∙ ap (λ xs. xs ++ rest) x.whole ∙ append_assoc x.later (d ∷ x.before) rest) in
    ap (at log) (sym x.is.1) ∙ ap (λ xs. at xs d.place) here.2
    ∙ put_stays s here.0 here.1 d (subst (Core s) here.2 core) (either kind) ∙ x.is.2
  where
    either : (k ≡ PutHigh) ⊎ (k ≡ PutNew) → (x.event.kind ≡ PutHigh) ⊎ (x.event.kind ≡ PutNew)
    either (inl q) = inl (x.is.0 ∙ q)
    either (inr q) = inr (x.is.0 ∙ q)

abbrev pub given_values : (ℕ → Val) → List Write → List (ℕ × Val)
given_values v ws = map (λ (w : Write). (w.object, v w.object)) ws

all_values : (s : Shape) (v : ℕ → Val) (log : List Event) (ws : List Write) →
    ((j : ℕ) → j < length ws → new_value s log (nth ws j).locator ≡ v (nth ws j).object) →
    new_values s log ws ≡ given_values v ws
all_values s v log [] h = refl
all_values s v log (w ∷ ws) h = rw (h 0 (omega arith), all_values s v log ws (λ j lt. h (suc j) (omega arith))) refl

same_val : (a b : Val) → a.low ≡ b.low → a.high ≡ b.high → a ≡ b
same_val a b l h = ap (λ x. record a { low = x }) l ∙ ap (λ x. record b { high = x }) h

-- the new values of an attempt that has committed are those that its commit was given
pub commit_puts : (s : Shape) (c : ℕ) (v : ℕ → Val) (log old : List Event) (g : Lcg) (es : List Event) → Core s log →
    events_of c log ≡ es ++ events_of c old → AreAllowed s (local s old c) es →
    Obeys (Doing (Committing v)) s (local s old c) g es → ArePlain (Committing v) es →
    (local s old c).phase ≡ Running → (local s old c).committed ≡ false → (local s old c).written ≡ 0 →
    (local s old c).high_put ≡ false → (state_after s (local s old c) es).committed ≡ true →
    new_values s log (local s old c).writes ≡ given_values v (local s old c).writes
commit_puts s c v log old g es core own allowed obeys plain runs undone none half committed =
    let l = local s old c in
    let ws = l.writes in
    let all = put_all v s ws g es allowed obeys plain (record {
      low = λ j lt. absurd (omega arith);
      high = λ j lt. absurd (omega arith);
      half = λ z. absurd (cc);
      same = refl;
      is_ready = record { few = omega arith; ready = λ z. absurd (before z) };
    }) in
    let count : (state_after s l es).written ≡ length ws =
    all.is_ready.ready (inr (inr committed)) ∙ ap length all.same in
    all_values s v log ws (λ j lt.
    let there : j < (state_after s l es).written = omega arith in
    same_val (new_value s log (nth ws j).locator) (v (nth ws j).object)
    (put_stands s c log (events_of c old) core own (inr refl) (all.low j there))
    (put_stands s c log (events_of c old) core own (inl refl) (all.high j there)))
  where
    before : ((local s old c).phase ≡ Validating) ⊎ (((local s old c).phase ≡ Drawn)
        ⊎ ((local s old c).committed ≡ true)) → ⊥
    before (inl x) = cc
    before (inr (inl x)) = cc
    before (inr (inr x)) = cc

-- the value given for an object
pub given_in : (v : ℕ → Val) (ws : List Write) (o : ℕ) →
    value_in (given_values v ws) o ≡ cond (is_some (write_of o ws)) (Some (v o)) None
given_in v [] o = refl
given_in v (w ∷ ws) o = elim (cases_Bool (w.object == o)) [
  | inl q ↦ rw q (ap (λ n. Some (v n)) (eqb-true w.object o q))
  | inr q ↦ rw q (given_in v ws o)
]
