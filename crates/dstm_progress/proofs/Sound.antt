-- What holds of a caller's state at every moment: where its attempt has drawn, and that it has not committed.
use Rattle.std.proofs.Common.{◌<◌, ◌==◌, ◌∙◌, ◌≡◌, ◌≢◌, ◌⊎◌, Bool, List, Option, None, [], ◌++◌, ◌∷◌, ap, arith, false, inl, inr, is_some, length, refl, subst, sym, true, ℕ}
use Rattle.dstm_core.proofs.Base.{AllowedAs, Core, Event, LocalState, after, cond_both, events_of, first, given, leave, local}
use Rattle.dstm_order.proofs.Base.{Begin, Commit, Draw, Drawn, Enrol, Install, Kind, LookSelf, Outside, Pause, Paused, Phase, PutHigh, PutNew, Putting, Quit, Resume, Running, Shape, ToValidating, Validating, state_after}
use Rattle.dstm_progress.proofs.Own.{AreAllowed}
use Rattle.dstm_progress.proofs.OwnEvents.{allowed_before, whole_allowed, whole_state}
use Rattle.dstm_core.proofs.Enrolment.{number_kept}

-- an attempt has a number drawn once it is in the phase Drawn, and before that none
abbrev pub DrawnIn : Phase → Option ℕ → Type 0
DrawnIn Outside d = Unit {0}
DrawnIn Drawn d = is_some d ≡ true
DrawnIn p d = d ≡ None

pub record SoundBy (p : Phase) (n : Option ℕ) (b : ℕ) (d : Option ℕ) (committed : Bool) : Type 0 where
  pub drawn : DrawnIn p d
  pub goes : p ≢ Outside → committed ≡ false
  pub number : 0 < b → is_some n ≡ true
  pub begun : p ≢ Outside → 0 < b

abbrev pub Sound : LocalState → Type 0
Sound l = SoundBy l.phase l.number l.begun l.drawn l.committed

left : (l : LocalState) → Sound l → Sound (leave l)
left l h = record {
  drawn = tt;
  goes = λ z. absurd (z refl);
  number = h.number;
  begun = λ z. absurd (z refl);
}

-- the phase changes within an attempt
entered : (l : LocalState) (p : Phase) {q : Phase} → Sound l → l.phase ≡ q → q ≢ Outside → DrawnIn p l.drawn →
    SoundBy p l.number l.begun l.drawn l.committed
entered l p h is i d = record {
  drawn = d;
  goes = λ _. h.goes (λ z. i (sym is ∙ z));
  number = h.number;
  begun = λ _. h.begun (λ z. i (sym is ∙ z));
}

-- the number drawn, in this phase
pub drawn_in : (l : LocalState) {q : Phase} → Sound l → l.phase ≡ q → DrawnIn q l.drawn
drawn_in l h is = subst (λ p. DrawnIn p l.drawn) is h.drawn

sound_step : (s : Shape) (l : LocalState) (e : Event) (k : Kind) → AllowedAs k s l e → Sound l → Sound (after k s l e)
sound_step s l e Enrol a h =
    record { drawn = h.drawn; goes = h.goes; number = λ _. refl; begun = h.begun }
sound_step s l e Begin a h =
    record { drawn = refl; goes = λ _. refl; number = λ _. a.2.1; begun = λ _. omega arith }
sound_step s l e Install a h = cond_both (e.found == e.expected) _ _ Sound (λ _. h) (λ _. h)
sound_step s l e LookSelf a h = cond_both (e.found == given l.phase) _ _ Sound (λ _. h) (λ _. left l h)
sound_step s l e PutHigh a h = go a.2.0
  where
    go : (l.phase ≡ Running) ⊎ (l.phase ≡ Putting) → SoundBy Putting l.number l.begun l.drawn l.committed
    go (inl q) = entered l Putting h q (λ z. cc) (drawn_in l h q)
    go (inr q) = entered l Putting h q (λ z. cc) (drawn_in l h q)
sound_step s l e PutNew a h = entered l Putting h a.2.0 (λ z. cc) (drawn_in l h a.2.0)
sound_step s l e ToValidating a h = cond_both (e.found == 1) _ _ Sound (λ _. go a.2.0) (λ _. left l h)
  where
    go : ((l.phase ≡ Running) × (l.writes ≡ [])) ⊎ ((l.phase ≡ Putting) × (l.written ≡ length l.writes)) →
        SoundBy Validating l.number l.begun l.drawn l.committed
    go (inl q) = entered l Validating h q.0 (λ z. cc) (drawn_in l h q.0)
    go (inr q) = entered l Validating h q.0 (λ z. cc) (drawn_in l h q.0)
sound_step s l e Draw a h = record {
  drawn = refl;
  goes = λ _. h.goes (λ z. let x = a.2.0 in cc);
  number = h.number;
  begun = λ _. h.begun (λ z. let x = a.2.0 in cc);
}
sound_step s l e Commit a h = record {
  drawn = tt;
  goes = λ z. absurd (z refl);
  number = h.number;
  begun = λ z. absurd (z refl);
}
sound_step s l e Quit a h = left l h
sound_step s l e Pause a h =
    cond_both (e.found == 1) _ _ Sound (λ _. entered l Paused h a.2.0 (λ z. cc) (drawn_in l h a.2.0)) (λ _. left l h)
sound_step s l e Resume a h =
    cond_both (e.found == 2) _ _ Sound (λ _. entered l Running h a.2.0 (λ z. cc) (drawn_in l h a.2.0)) (λ _. left l h)
sound_step s l e k a h = h

pub sound_after : (s : Shape) (l : LocalState) (es : List Event) → AreAllowed s l es → Sound l →
    Sound (state_after s l es)
sound_after s l [] a h = h
sound_after s l (e ∷ es) a h = sound_step s (state_after s l es) e e.kind a.1 (sound_after s l es a.0 h)

sound_first : Sound first
sound_first = record {
  drawn = tt;
  goes = λ z. absurd (z refl);
  number = λ z. absurd (omega arith);
  begun = λ z. absurd (z refl);
}

-- each caller's state, in a core run
pub sound : (s : Shape) (run : List Event) → Core s run → (c : ℕ) → Sound (local s run c)
sound s run core c =
    subst Sound (sym (whole_state s c run))
    (sound_after s first (events_of c run) (whole_allowed s c run core) sound_first)

-- and that from which a call began
pub sound_before : (s : Shape) (c : ℕ) (run before events : List Event) → Core s run →
    events_of c run ≡ events ++ events_of c before → Sound (local s before c)
sound_before s c run before events core own =
    subst Sound (sym (whole_state s c before))
    (sound_after s first (events_of c before) (allowed_before s c run before events core own) sound_first)

-- ---- a caller keeps its number

number_step : (s : Shape) (l : LocalState) (e : Event) (k : Kind) → AllowedAs k s l e → is_some l.number ≡ true →
    (after k s l e).number ≡ l.number
number_step s l e Enrol a h = absurd (let x = ap is_some a.2 in cc)
number_step s l e k a h = number_kept s l e k (λ q. cc)

pub number_stays : (s : Shape) (l : LocalState) (es : List Event) → AreAllowed s l es → is_some l.number ≡ true →
    (state_after s l es).number ≡ l.number
number_stays s l [] a h = refl
number_stays s l (e ∷ es) a h =
    let ih = number_stays s l es a.0 h in
    number_step s (state_after s l es) e e.kind a.1 (ap is_some ih ∙ h) ∙ ih
