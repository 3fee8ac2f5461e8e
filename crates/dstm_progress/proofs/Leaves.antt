-- How an attempt is left: by an event at its own status, which it finds or makes finished.
use Rattle.std.proofs.Common.{◌==◌, ◌∙◌, ◌≡◌, ◌≢◌, ◌⊎◌, [], ap, cond, false, inl, inr, length, refl, subst, true, ℕ}
use Rattle.dstm_core.proofs.Base.{AllowedAs, Event, LocalState, StatusWord, after, cases_Bool, cond_both, eq-eqb, given, own_attempt, place}
use Rattle.dstm_order.proofs.Base.{Begin, Commit, Draw, Install, Kind, LookSelf, Outside, Pause, Paused, PutHigh, PutNew, Putting, Quit, Resume, Running, Shape, ToValidating, Validating}
use Rattle.dstm_progress.specs.Causes.{is_at_own}

-- it commits, or it is aborted: it quits, or finds that another has aborted it
pub data LeftHow (s : Shape) (l : LocalState) (e : Event) (k : Kind) : Type 0 where
  by_commit : (after k s l e).committed ≡ true → e.put ≡ 4 → LeftHow s l e k
  by_quit : k ≡ Quit → (after k s l e).committed ≡ false → e.put ≡ 5 → LeftHow s l e k
  by_other : is_at_own k ≡ true → e.found ≡ 5 → (after k s l e).committed ≡ false → e.put ≡ 5 → LeftHow s l e k

pub record Left (s : Shape) (l : LocalState) (e : Event) (k : Kind) : Type 0 where
  pub at : e.place ≡ place s (StatusWord (own_attempt s l))
  pub same : own_attempt s (after k s l e) ≡ own_attempt s l
  pub how : LeftHow s l e k

-- a word that is not the one given was aborted
aborted : (e : Event) (g : ℕ) → (e.found == g) ≡ false → (e.found ≡ g) ⊎ (e.found ≡ 5) → e.found ≡ 5
aborted e g q (inl x) = absurd (let y = eq-eqb e.found g x in cc)
aborted e g q (inr x) = x

-- an attempt that another one has aborted is left at its own status
by_another : (s : Shape) (l : LocalState) (e : Event) (k : Kind) → e.place ≡ place s (StatusWord (own_attempt s l)) →
    is_at_own k ≡ true → own_attempt s (after k s l e) ≡ own_attempt s l → e.found ≡ 5 →
    (after k s l e).committed ≡ false → e.put ≡ 5 → Left s l e k
by_another s l e k at own same five n put = record { at = at; same = same; how = by_other own five n put }

-- an exchange by which an attempt is left, though not by the status that it puts
by_exchange : (s : Shape) (l : LocalState) (e : Event) (k : Kind) (expected value : ℕ) →
    e.place ≡ place s (StatusWord (own_attempt s l)) → is_at_own k ≡ true → given l.phase ≡ expected →
    ((e.found == expected) ≡ true → ⊥) → (e.found ≡ given l.phase) ⊎ (e.found ≡ 5) →
    ((e.found == expected) ≡ false → own_attempt s (after k s l e) ≡ own_attempt s l) →
    ((e.found == expected) ≡ false → (after k s l e).committed ≡ false) →
    e.put ≡ cond (e.found == expected) value e.found → Left s l e k
by_exchange s l e k expected value at own same other found keeps none put = elim (cases_Bool (e.found == expected)) [
  | inl q ↦ absurd (other q)
  | inr q ↦
      let five = aborted e expected q (subst (λ g. (e.found ≡ g) ⊎ (e.found ≡ 5)) same found) in
      by_another s l e k at own (keeps q) five (none q) (put ∙ rw q five)
]

pub left_how : (s : Shape) (l : LocalState) (e : Event) (k : Kind) → AllowedAs k s l e → l.phase ≢ Outside →
    l.committed ≡ false → (after k s l e).phase ≡ Outside →
    (e.place ≡ place s (StatusWord (own_attempt s l)) → (e.found ≡ given l.phase) ⊎ (e.found ≡ 5)) → Left s l e k
left_how s l e Begin a i n o f = absurd (cc)
left_how s l e PutHigh a i n o f = absurd (cc)
left_how s l e PutNew a i n o f = absurd (cc)
left_how s l e Draw a i n o f = absurd (cc)
left_how s l e Install a i n o f = absurd (i
    (cond_both (e.found == e.expected) _ _ (λ (m : LocalState). m.phase ≡ Outside → l.phase ≡ Outside) (λ _ q. q)
    (λ _ q. q) o))
left_how s l e LookSelf a i n o f = go (cases_Bool (e.found == given l.phase))
  where
    go : (e.found == given l.phase ≡ true) ⊎ (e.found == given l.phase ≡ false) → Left s l e LookSelf
    go (inl q) = absurd (i (rw q at o))
    go (inr q) = let five = aborted e (given l.phase) q (f a.0) in
        by_another s l e LookSelf a.0 refl (rw q refl) five (rw q n) (a.1.1 ∙ five)
left_how s l e ToValidating a i n o f =
    by_exchange s l e ToValidating 1 3 a.0 refl (was a.2.0) (λ q. let x : Validating ≡ Outside = rw q at o in cc) (f a.0)
    (λ q. rw q refl) (λ q. rw q n) a.1.1
  where
    was : ((l.phase ≡ Running) × (l.writes ≡ [])) ⊎ ((l.phase ≡ Putting) × (l.written ≡ length l.writes)) →
        given l.phase ≡ 1
    was (inl x) = ap given x.0
    was (inr x) = ap given x.0
left_how s l e Commit a i n o f = go (cases_Bool (e.found == 3))
  where
    go : (e.found == 3 ≡ true) ⊎ (e.found == 3 ≡ false) → Left s l e Commit
    go (inl q) = record { at = a.0; same = refl; how = by_commit q (a.1.1 ∙ rw q refl) }
    go (inr q) = let five = aborted e 3 q (rw (ap given a.2.0) at f a.0) in
        by_another s l e Commit a.0 refl refl five q (a.1.1 ∙ rw q five)
left_how s l e Quit a i n o f = go (cases_Bool (e.found == given l.phase))
  where
    go : (e.found == given l.phase ≡ true) ⊎ (e.found == given l.phase ≡ false) → Left s l e Quit
    go (inl q) = record { at = a.0; same = refl; how = by_quit refl n (a.1.1 ∙ rw q refl) }
    go (inr q) = let five = aborted e (given l.phase) q (f a.0) in
        record { at = a.0; same = refl; how = by_quit refl n (a.1.1 ∙ rw q five) }
left_how s l e Pause a i n o f =
    by_exchange s l e Pause 1 2 a.0 refl (ap given a.2.0) (λ q. let x : Paused ≡ Outside = rw q at o in cc) (f a.0)
    (λ q. rw q refl) (λ q. rw q n) a.1.1
left_how s l e Resume a i n o f =
    by_exchange s l e Resume 2 1 a.0 refl (ap given a.2.0) (λ q. let x : Running ≡ Outside = rw q at o in cc) (f a.0)
    (λ q. rw q refl) (λ q. rw q n) a.1.1
left_how s l e k a i n o f = absurd (i o)
