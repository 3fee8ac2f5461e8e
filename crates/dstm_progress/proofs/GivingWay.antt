-- Giving way: where a look at the enemy is due, or the Quit after the last one, all looks since the Pause found the
-- enemy live and not waiting.
use Rattle.std.proofs.Common.{⊎_elim, ◌+◌, ◌++◌, ◌-◌, ◌==◌, ◌&&◌, ◌||◌, ◌∙◌, ◌∷◌, ◌≡◌, ◌≢◌, ◌≤◌, ◌⊎◌, Bool, List, Some, [], add-one, ap, arith, false, inl, inr, is_some, length, not, refl, subst, sym, true, ℕ}
use Rattle.dstm_core.proofs.Base.{AllowedAs, Event, LocalState, StatusWord, after, cases_Bool, cond_both, eqb-false, is_live, not-false, or_parts, or_zero, place, res}
use Rattle.dstm_order.proofs.Base.{Check, Committing, Doing, Drawn, Due, Effort, Enrol, Greedy, Kind, Lcg, LookStatus, Manager, Obeys, Outside, Pause, Paused, PutHigh, Putting, Quit, Rank, Reading, Rechecking, Releasing, Resolution, Resume, Running, Shape, Step, ToValidating, Work, Writing, at_first, effort_after, effort_of, enemy_code, in_giving_way, in_resolving, is_paused, just, most_patience, newest_of, next, next_or_first, state_after, when_resolved}
use Rattle.dstm_order.proofs.Rows.{putting_by}
use Rattle.dstm_progress.proofs.Alone.{live_some}
use Rattle.dstm_progress.proofs.Oldest.{paused_how}
use Rattle.dstm_progress.proofs.Own.{AreAllowed}
use Rattle.dstm_progress.specs.Causes.{AllAt, AllPass, gives_way, is_look_status}
use Rattle.dstm_progress.proofs.Sound.{Sound, sound_after}
use Rattle.dstm_progress.proofs.StaleReads.{went}

-- ---- the rows of giving way

-- a look at the enemy is due, or a Quit
abbrev pub waits : Due → Bool
waits (Step LookStatus n) = true
waits (Step Quit n) = true
waits d = false

first_waits : (w : Work) (l : LocalState) → waits (at_first w l) ≡ false
first_waits (Reading o) l = refl
first_waits (Writing o) l = refl
first_waits (Releasing o) l = refl
first_waits Rechecking l = refl
first_waits (Committing v) l = putting_by (λ d. waits d ≡ false) v l refl (λ n. refl) (λ n. refl)

row_paused : (m : Manager) (l : LocalState) (f : Effort) (d : Due) → l.phase ≡ Paused →
    in_resolving m l f d ≡ in_giving_way l f
row_paused m l f d q = rw q refl

-- where one of these is due, the enemy is live and does not wait; and which, the turns left say
pub record Row (l : LocalState) (f : Effort) (d : Due) : Type 0 where
  pub live : is_live (enemy_code l) ≡ true
  pub awake : (enemy_code l == 2) ≡ false
  pub turns : ((f.left == 0 ≡ true) × (just Quit ≡ d)) ⊎ ((f.left == 0 ≡ false) × (just LookStatus ≡ d))

pub row_of : (l : LocalState) (f : Effort) {d : Due} → in_giving_way l f ≡ d → waits d ≡ true → Row l f d
row_of l f {d = d} q h =
    go (cases_Bool (not (is_live (enemy_code l)) || (enemy_code l == 2))) (cases_Bool (f.left == 0))
  where
    go : (not (is_live (enemy_code l)) || (enemy_code l == 2) ≡ true)
        ⊎ (not (is_live (enemy_code l)) || (enemy_code l == 2) ≡ false) →
        (f.left == 0 ≡ true) ⊎ (f.left == 0 ≡ false) → Row l f d
    go (inl x) y = absurd (let z : just Resume ≡ d = rw x at q in let u = ap waits z in cc)
    go (inr x) (inl y) = let p = or_parts (not (is_live (enemy_code l))) (enemy_code l == 2) x in record {
      live = not-false (is_live (enemy_code l)) p.0;
      awake = p.1;
      turns = inl (y, rw (x, y) at q);
    }
    go (inr x) (inr y) = let p = or_parts (not (is_live (enemy_code l))) (enemy_code l == 2) x in record {
      live = not-false (is_live (enemy_code l)) p.0;
      awake = p.1;
      turns = inr (y, rw (x, y) at q);
    }

-- ---- one event

pub record Pauses (s : Shape) (l : LocalState) : Type 0 where
  pub greedy : s.manager ≡ Greedy
  pub older : or_zero (res l).rank ≤ l.rank
  pub live : is_live (or_zero (res l).status) ≡ true

pause_may : (s : Shape) (l : LocalState) (e : Event) {k : Kind} → k ≡ Pause → AllowedAs k s l e → Pauses s l
pause_may s l e {k = Pause} q a = record { greedy = a.2.2; older = a.2.5; live = a.2.6 }
pause_may s l e q a = absurd (cc)

pause_res : (s : Shape) (l : LocalState) (e : Event) {k : Kind} → k ≡ Pause → res (after k s l e) ≡ res l
pause_res s l e {k = Pause} q = cond_both (e.found == 1) _ _ (λ (m : LocalState). res m ≡ res l) (λ _. refl) (λ _. refl)
pause_res s l e q = absurd (cc)

pause_left : (m : Manager) (l : LocalState) (f : Effort) (e : Event) {k : Kind} → k ≡ Pause →
    (effort_after k m l f e).left ≡ most_patience
pause_left m l f e {k = Pause} q = refl
pause_left m l f e q = absurd (cc)

-- while it gives way an attempt only looks at its enemy
look_only : (s : Shape) (l : LocalState) (e : Event) (k : Kind) → AllowedAs k s l e → is_some l.number ≡ true →
    l.phase ≡ Paused → (after k s l e).phase ≡ Paused → k ≡ LookStatus
look_only s l e LookStatus a n was now = refl
look_only s l e Enrol a n was now = absurd (let x = ap is_some a.2 in cc)
look_only s l e Quit a n was now = absurd (cc)
look_only s l e Resume a n was now =
    absurd (cond_both (e.found == 2) _ _ (λ (m : LocalState). m.phase ≡ Paused → ⊥) (λ _ q. cc) (λ _ q. cc) now)
look_only s l e Rank a n was now = absurd (let x = rw was at a.2 in x)
look_only s l e Check a n was now =
    absurd (⊎_elim (λ (x : (l.phase ≡ Running) × (is_some l.pass ≡ true)). let y = x.0 in cc)
    (λ (x : l.phase ≡ Drawn). cc) a.2.0)
look_only s l e PutHigh a n was now = absurd (cc)
look_only s l e ToValidating a n was now =
    absurd (⊎_elim (λ (x : (l.phase ≡ Running) × (l.writes ≡ [])). let y = x.0 in cc)
    (λ (x : (l.phase ≡ Putting) × (l.written ≡ length l.writes)). let y = x.0 in cc) a.2.0)
look_only s l e k a n was now = absurd (let x = a.2.0 in cc)

pub record Looks (s : Shape) (l : LocalState) (e : Event) (k : Kind) : Type 0 where
  pub at : e.place ≡ place s (StatusWord (or_zero (res l).owner))
  pub owner : (res (after k s l e)).owner ≡ (res l).owner
  pub status : (res (after k s l e)).status ≡ Some e.found

look_how : (s : Shape) (l : LocalState) (e : Event) {k : Kind} → k ≡ LookStatus → AllowedAs k s l e → Looks s l e k
look_how s l e {k = LookStatus} q a = record { at = a.0; owner = refl; status = refl }
look_how s l e q a = absurd (cc)

look_left : (m : Manager) (l : LocalState) (f : Effort) (e : Event) {k : Kind} → k ≡ LookStatus →
    l.phase ≡ Paused → is_some (res l).status ≡ true → (effort_after k m l f e).left ≡ f.left - 1
look_left m l f e {k = LookStatus} q p h = rw (h, p) refl
look_left m l f e q p h = absurd (cc)

-- ---- back to the Pause

pub record GaveWay (w : Work) (s : Shape) (l : LocalState) (g : Lcg) (es : List Event) : Type 0 where
  pub looks : List Event
  pub pause : Event
  pub before : List Event
  pub whole : es ≡ looks ++ pause ∷ before
  pub pauses : pause.kind ≡ Pause
  pub why : Pauses s (state_after s l before)
  pub row : next_or_first (newest_of es) w s.manager (state_after s l es) (effort_of s l g es)
      ≡ in_giving_way (state_after s l es) (effort_of s l g es)
  pub owner : (res (state_after s l es)).owner ≡ (res (state_after s l before)).owner
  pub status : is_some (res (state_after s l es)).status ≡ true
  pub places : AllAt (place s (StatusWord (or_zero (res (state_after s l before)).owner))) looks
  pub count : (effort_of s l g es).left + length looks ≡ most_patience
  pub all : AllPass gives_way s l looks (pause ∷ before)

-- the Pause itself
gave_first : (w : Work) (s : Shape) (l : LocalState) (g : Lcg) (e : Event) (es : List Event) → e.kind ≡ Pause →
    AllowedAs e.kind s (state_after s l es) e → (state_after s l (e ∷ es)).phase ≡ Paused → GaveWay w s l g (e ∷ es)
gave_first w s l g e es q a p =
    let old = state_after s l es in
    let new = state_after s l (e ∷ es) in
    let f = effort_of s l g (e ∷ es) in
    let same = pause_res s old e q in
    record {
      looks = [];
      pause = e;
      before = es;
      whole = refl;
      pauses = q;
      why = pause_may s old e q a;
      row = ap (λ k. next k e w s.manager new f) q ∙ row_paused s.manager new f (when_resolved w) p;
      owner = ap (λ (r : Resolution). r.owner) same;
      status =
          ap (λ (r : Resolution). is_some r.status) same
          ∙ ap is_some (live_some (res old).status (pause_may s old e q a).live);
      places = tt;
      count = let x = pause_left s.manager old (effort_of s l g es) e q in omega arith;
      all = tt;
    }

all_four : (a b c d : Bool) → a ≡ true → b ≡ true → c ≡ true → d ≡ false → (a && b && (c && not d)) ≡ true
all_four a b c d p q r t = rw (p, q, r, t) refl

-- one look more, after which the wait goes on
gave_more : {w : Work} {s : Shape} {l : LocalState} {g : Lcg} (e : Event) {es : List Event} → GaveWay w s l g es →
    e.kind ≡ LookStatus → AllowedAs e.kind s (state_after s l es) e → (state_after s l es).phase ≡ Paused →
    (state_after s l (e ∷ es)).phase ≡ Paused → (effort_of s l g es).left ≢ 0 →
    is_live (enemy_code (state_after s l (e ∷ es))) ≡ true →
    (enemy_code (state_after s l (e ∷ es)) == 2) ≡ false → GaveWay w s l g (e ∷ es)
gave_more {w = w} {s = s} {l = l} {g = g} e {es = es} r q a was now more live awake =
    let old = state_after s l es in
    let new = state_after s l (e ∷ es) in
    let f = effort_of s l g (e ∷ es) in
    let h = look_how s old e q a in
    let code : enemy_code new ≡ e.found = ap or_zero h.status in
    let gives : gives_way s old e ≡ true =
    all_four (is_paused old.phase) (is_look_status e.kind) (is_live e.found) (e.found == 2) (ap is_paused was)
    (ap is_look_status q) (sym (ap is_live code) ∙ live) (sym (ap (λ n. n == 2) code) ∙ awake) in
    record {
      looks = e ∷ r.looks;
      pause = r.pause;
      before = r.before;
      whole = ap (λ xs. e ∷ xs) r.whole;
      pauses = r.pauses;
      why = r.why;
      row = ap (λ k. next k e w s.manager new f) q ∙ row_paused s.manager new f (when_resolved w) now;
      owner = h.owner ∙ r.owner;
      status = ap is_some h.status;
      places = (h.at ∙ ap (λ o. place s (StatusWord (or_zero o))) r.owner, r.places);
      count =
          let x = look_left s.manager old (effort_of s l g es) e q was r.status in
          let y = add-one (length r.looks) in let z = r.count in omega arith;
      all = (r.all, subst (λ xs. gives_way s (state_after s l xs) e ≡ true) r.whole gives);
    }

-- where a look is due turns are left
turns_left : (f : Effort) (n : ℕ) →
    ((f.left == 0 ≡ true) × (just Quit ≡ Step LookStatus n))
    ⊎ ((f.left == 0 ≡ false) × (just LookStatus ≡ Step LookStatus n)) → f.left ≢ 0
turns_left f n (inl x) = absurd (let y = x.1 in cc)
turns_left f n (inr x) = eqb-false f.left 0 x.0

pub way_back : (w : Work) (s : Shape) (l : LocalState) (g : Lcg) (es : List Event) {d : Due} →
    Obeys (Doing w) s l g es → AreAllowed s l es → Sound l → (state_after s l es).phase ≡ Paused →
    next_or_first (newest_of es) w s.manager (state_after s l es) (effort_of s l g es) ≡ d → waits d ≡ true →
    GaveWay w s l g es
way_back w s l g [] o a h p q v = absurd (let x = first_waits w l in let y = ap waits q in cc)
way_back w s l g (e ∷ es) {d = d} o a h p q v =
    go (λ d was. way_back w s l g es o.0 a.0 h was) (paused_how s old e e.kind a.1 p)
  where
    old : LocalState
    old = state_after s l es

    new : LocalState
    new = state_after s l (e ∷ es)

    Back : Type 0
    Back = (d : Due) → (state_after s l es).phase ≡ Paused →
        next_or_first (newest_of es) w s.manager (state_after s l es) (effort_of s l g es) ≡ d → waits d ≡ true →
        GaveWay w s l g es

    look : Back → (state_after s l es).phase ≡ Paused → GaveWay w s l g (e ∷ es)
    look back was =
        let sound = sound_after s l es a.0 h in
        let in_way : old.phase ≢ Outside = λ z. let x : Paused ≡ Outside = sym was ∙ z in cc in
        let k = look_only s old e e.kind a.1 (sound.number (sound.begun in_way)) was p in
        let on = went w s l g e es o (λ z. let x : Paused ≡ Outside = sym p ∙ z in cc) in
        let table = on.1.table ∙ ap (λ k. Step k on.0) k in
        let r = back (Step LookStatus on.0) was table refl in
        let row = row_of old (effort_of s l g es) (sym r.row ∙ table) refl in
        let here : in_giving_way new (effort_of s l g (e ∷ es)) ≡ d =
        sym (ap (λ k. next k e w s.manager new (effort_of s l g (e ∷ es))) k
        ∙ row_paused s.manager new (effort_of s l g (e ∷ es)) (when_resolved w) p) ∙ q in
        let last = row_of new (effort_of s l g (e ∷ es)) here v in
        gave_more e r k a.1 was p (turns_left (effort_of s l g es) on.0 row.turns) last.live last.awake

    go : Back → (e.kind ≡ Pause) ⊎ ((state_after s l es).phase ≡ Paused) → GaveWay w s l g (e ∷ es)
    go back (inl k) = gave_first w s l g e es k a.1 p
    go back (inr was) = look back was
