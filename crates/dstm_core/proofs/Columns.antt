-- What an event does to the words, by the kinds of words.
use Rattle.std.proofs.Common.{◌≡◌, ◌≢◌, ◌+◌, ◌-◌, ◌*◌, ◌/◌, ◌%◌, ◌<◌, ◌==◌, ◌⊎◌, ◌∷◌, ◌∙◌, ℕ, inl, inr, List, [], refl, ap, arith, sym, cond, Some, length, subst}
use Rattle.std.proofs.Math.Nat.{mul-add-div_right, div-eq_of_lt}
use Rattle.std.proofs.lemmas.Nat.{mod-mul-add, mul-add-lt}
use Rattle.dstm_core.proofs.Base.{AllowedAs, Begin, CallersWord, Commit, Core, Draw, Enrol, Event, Fits, HasWord, HighWord, Install, Kill, Kind, LocalState, LowWord, NumbersWord, ObjectWord, OldWord, Outside, OwnerWord, Pause, Phase, PutHigh, PutNew, PutOld, PutOwner, Putting, Quit, Rank, RankWord, Resume, Running, Shape, Stamp, StampsWord, StatusWord, ToValidating, Word, at, cases_eq, given, local, nat_tests, next_attempt, next_locator, next_write, or_zero, own_attempt, place, rank_of, res, target, word}
use Rattle.dstm_core.proofs.Places.{same_place, kept, put_at}
use Rattle.dstm_core.proofs.Static.{static, Static, running, begun_more, installed_more}

-- numbers of a caller: the i-th of caller c is c * n + i
pub caller_of : (c n i : ℕ) → i < n → (c * n + i) / n ≡ c
caller_of c n i h =
    let pos : 0 < n = omega arith in mul-add-div_right pos c i ∙ omega (arith, div-eq_of_lt h)

pub index_of : (c n i : ℕ) → i < n → (c * n + i) % n ≡ i
index_of c n i h = mod-mul-add c n i h

pub in_table : (c n i k : ℕ) → c < k → i < n → c * n + i < k * n
in_table c n i k p q = omega (arith, mul-add-lt c n i k p q)

-- locator m is used
pub record Used (s : Shape) (es : List Event) (m : ℕ) : Type 0 where
  pub below : m < s.callers * s.locators
  pub used : m % s.locators < (local s es (m / s.locators)).installed

-- attempt a has begun
pub record Begun (s : Shape) (es : List Event) (a : ℕ) : Type 0 where
  pub below : a < s.callers * s.attempts
  pub begun : a % s.attempts < (local s es (a / s.attempts)).begun

pub used_more : {s : Shape} {es : List Event} (e : Event) {m : ℕ} → Used s es m → Used s (e ∷ es) m
used_more {s = s} {es = es} e {m = m} u = record {
  below = u.below;
  used = let before = u.used in let more = installed_more s es e (m / s.locators) in omega arith;
}

pub begun_still : {s : Shape} {es : List Event} (e : Event) {m : ℕ} → Begun s es m → Begun s (e ∷ es) m
begun_still {s = s} {es = es} e {m = m} u = record {
  below = u.below;
  begun = let before = u.begun in let more = begun_more s es e (m / s.attempts) in omega arith;
}

-- the own attempt and the first unused locator lie in the shape
pub own_in : (s : Shape) (c : ℕ) (l : LocalState) → Static s c l → c < s.callers → l.phase ≢ Outside →
    own_attempt s l < s.callers * s.attempts
own_in s c l t b h =
    let run : (l.number ≡ Some c) × (0 < l.begun) = running s c l t h in
    let num : or_zero l.number ≡ c = ap or_zero run.0 in
    let x = t.begun in rw num (in_table c s.attempts (l.begun - 1) s.callers b (omega arith))

pub next_locator_in : (s : Shape) (c : ℕ) (l : LocalState) → Static s c l → c < s.callers → l.phase ≢ Outside →
    l.installed < s.locators → next_locator s l < s.callers * s.locators
next_locator_in s c l t b h i =
    let run : (l.number ≡ Some c) × (0 < l.begun) = running s c l t h in
    let num : or_zero l.number ≡ c = ap or_zero run.0 in
    rw num (in_table c s.locators l.installed s.callers b i)

-- an allowed event at the place of a word of the shape is aimed at this word
pub aimed : (s : Shape) (l : LocalState) (e : Event) (w : Word) → AllowedAs e.kind s l e → HasWord s w →
    e.place ≡ place s w → target e.kind s l e ≡ w
aimed s l e w a h p = same_place s (target e.kind s l e) w a.3 h (sym a.0 ∙ p)

-- a step that a core run takes, with what is known of its caller
pub record Step (s : Shape) (es : List Event) (e : Event) : Type 0 where
  pub fits : Fits s es e
  pub own : Static s e.caller (local s es e.caller)

pub step : (s : Shape) (es : List Event) (e : Event) → Core s (e ∷ es) → Step s es e
step s es e core = record { fits = core.1; own = static s es core.0 e.caller }

-- the event leaves a word as it was
abbrev pub Same : Shape → List Event → Event → Word → Type 0
Same s es e w = word s (e ∷ es) w ≡ word s es w

-- ---- which event may change a word, and how

-- a successful Install changes the word of an object
pub record InstallsIn (s : Shape) (l : LocalState) (e : Event) (o : ℕ) : Type 0 where
  pub kind : e.kind ≡ Install
  pub object : o ≡ (res l).object
  pub found : e.found ≡ (res l).word
  pub expected : e.expected ≡ (res l).word
  pub put : e.put ≡ next_locator s l + 1

-- a status changes as its attempt begins, as the attempt moves it, and as another attempt aborts it
pub record Begins (s : Shape) (l : LocalState) (e : Event) (a : ℕ) : Type 0 where
  pub kind : e.kind ≡ Begin
  pub attempt : a ≡ next_attempt s l
  pub put : e.put ≡ 1

-- what a status is moved to, by the kind of event
abbrev MovedTo : Event → Type 0
MovedTo e = ((e.kind ≡ ToValidating) × (e.put ≡ 3)) ⊎ ((e.kind ≡ Commit) × (e.put ≡ 4))
    ⊎ ((e.kind ≡ Quit) × (e.put ≡ 5)) ⊎ ((e.kind ≡ Pause) × (e.put ≡ 2)) ⊎ ((e.kind ≡ Resume) × (e.put ≡ 1))

pub record Moves (s : Shape) (l : LocalState) (e : Event) (a : ℕ) : Type 0 where
  pub attempt : a ≡ own_attempt s l
  pub inside : l.phase ≢ Outside
  pub found : e.found ≡ given l.phase
  pub how : MovedTo e

pub record Kills (s : Shape) (l : LocalState) (e : Event) (a : ℕ) : Type 0 where
  pub kind : e.kind ≡ Kill
  pub attempt : a ≡ or_zero (res l).owner
  pub found : (0 < e.found) × (e.found < 4)
  pub put : e.put ≡ 5

pub data StatusMove (s : Shape) (l : LocalState) (e : Event) (a : ℕ) : Type 0 where
  begins : Begins s l e a → StatusMove s l e a
  moves : Moves s l e a → StatusMove s l e a
  kills : Kills s l e a → StatusMove s l e a

-- a rank and a word of a locator change at one kind of event, which aims at the number m
pub record Aims (e : Event) (k : Kind) (n m : ℕ) : Type 0 where
  pub kind : e.kind ≡ k
  pub number : n ≡ m

-- a count rises by 1 at one kind of event
abbrev Counts : Event → Kind → Type 0
Counts e k = (e.kind ≡ k) × (e.put ≡ e.found + 1)

-- what an event is that changes a word
abbrev pub ChangeOf : Word → Shape → LocalState → Event → Type 0
ChangeOf CallersWord s l e = Counts e Enrol
ChangeOf NumbersWord s l e = Counts e Draw
ChangeOf StampsWord s l e = Counts e Stamp
ChangeOf (ObjectWord o) s l e = InstallsIn s l e o
ChangeOf (StatusWord a) s l e = StatusMove s l e a
ChangeOf (RankWord a) s l e = Aims e Rank a (rank_of l.phase s l)
ChangeOf (OwnerWord m) s l e = Aims e PutOwner m (next_locator s l)
ChangeOf (OldWord m) s l e = Aims e PutOld m (next_locator s l)
ChangeOf (LowWord m) s l e = Aims e PutNew m (next_write l).locator
ChangeOf (HighWord m) s l e = Aims e PutHigh m (next_write l).locator

pub exchanged : (found expected value put : ℕ) → put ≡ cond (found == expected) value found →
    (put ≡ found) ⊎ ((found ≡ expected) × (put ≡ value))
exchanged found expected value put h = grind (arith, nat_tests)

told : {A B C : Type 0} → (B → C) → A ⊎ B → A ⊎ C
told f (inl x) = inl x
told f (inr y) = inr (f y)

-- an attempt moves its status out of a phase
moved : (s : Shape) (l : LocalState) (e : Event) {p : Phase} (value : ℕ) → l.phase ≡ p → p ≢ Outside →
    e.put ≡ cond (e.found == given p) value e.found →
    (e.put ≡ value → MovedTo e) → (e.put ≡ e.found) ⊎ StatusMove s l e (own_attempt s l)
moved s l e {p = p} value q out h how =
    told (λ x. moves (record {
      attempt = refl;
      inside = λ z. out (sym q ∙ z);
      found = x.0 ∙ ap given (sym q);
      how = how x.1;
    })) (exchanged e.found (given p) value e.put h)

-- an event leaves what it found, or changes the word that it aims at in this way
change_of : (s : Shape) (l : LocalState) (e : Event) {k : Kind} → e.kind ≡ k → AllowedAs k s l e →
    (e.put ≡ e.found) ⊎ ChangeOf (target k s l e) s l e
change_of s l e {k = Enrol} q a = inr (q, a.1.1)
change_of s l e {k = Stamp} q a = inr (q, a.1.1)
change_of s l e {k = Draw} q a = inr (q, a.1.1)
change_of s l e {k = Rank} q a = inr (record { kind = q; number = refl })
change_of s l e {k = PutOwner} q a = inr (record { kind = q; number = refl })
change_of s l e {k = PutOld} q a = inr (record { kind = q; number = refl })
change_of s l e {k = PutHigh} q a = inr (record { kind = q; number = refl })
change_of s l e {k = PutNew} q a = inr (record { kind = q; number = refl })
change_of s l e {k = Install} q a =
    told (λ x. record { kind = q; object = refl; found = x.0; expected = a.1.0; put = x.1 })
    (exchanged e.found (res l).word (next_locator s l + 1) e.put a.1.1)
change_of s l e {k = Begin} q a = inr (begins (record { kind = q; attempt = refl; put = a.1.1 }))
change_of s l e {k = ToValidating} q a = go a.2.0
  where
    go : ((l.phase ≡ Running) × (l.writes ≡ [])) ⊎ ((l.phase ≡ Putting) × (l.written ≡ length l.writes)) →
        (e.put ≡ e.found) ⊎ StatusMove s l e (own_attempt s l)
    go (inl y) = moved s l e 3 y.0 (λ z. cc) a.1.1 (λ v. inl (q, v))
    go (inr y) = moved s l e 3 y.0 (λ z. cc) a.1.1 (λ v. inl (q, v))
change_of s l e {k = Commit} q a = moved s l e 4 a.2.0 (λ z. cc) a.1.1 (λ v. inr (inl (q, v)))
change_of s l e {k = Quit} q a = moved s l e 5 refl a.2 a.1.1 (λ v. inr (inr (inl (q, v))))
change_of s l e {k = Pause} q a = moved s l e 2 a.2.0 (λ z. cc) a.1.1 (λ v. inr (inr (inr (inl (q, v)))))
change_of s l e {k = Resume} q a = moved s l e 1 a.2.0 (λ z. cc) a.1.1 (λ v. inr (inr (inr (inr (q, v)))))
change_of s l e {k = Kill} q a =
    told (λ x. kills (record {
      kind = q;
      attempt = refl;
      found = let y = a.2.3 in grind (arith, nat_tests);
      put = x.1;
    })) (exchanged e.found (or_zero (res l).status) 5 e.put a.1.1)
change_of s l e q a = inl a.1.1

-- the event changes a word
pub record Changed (s : Shape) (es : List Event) (e : Event) (w : Word) : Type 0 where
  pub how : ChangeOf w s (local s es e.caller) e
  pub now : word s (e ∷ es) w ≡ e.put
  pub was : word s es w ≡ e.found

pub change : {s : Shape} {es : List Event} {e : Event} (w : Word) → Step s es e → HasWord s w →
    Same s es e w ⊎ Changed s es e w
change {s = s} {es = es} {e = e} w p h =
    go (cases_eq e.place (place s w)) (change_of s (local s es e.caller) e refl p.fits.allowed)
  where
    go : (e.place ≡ place s w) ⊎ (e.place ≡ place s w → ⊥) →
        (e.put ≡ e.found) ⊎ ChangeOf (target e.kind s (local s es e.caller) e) s (local s es e.caller) e →
        Same s es e w ⊎ Changed s es e w
    go (inr x) y = inl (kept es e (place s w) p.fits.linked (λ q. absurd (x q)))
    go (inl x) (inl y) = inl (kept es e (place s w) p.fits.linked (λ _. y))
    go (inl x) (inr y) = inr (record {
      how = subst (λ (w : Word). ChangeOf w s (local s es e.caller) e)
          (aimed s (local s es e.caller) e w p.fits.allowed h x) y;
      now = put_at es e (place s w) x;
      was = ap (at es) (sym x) ∙ sym p.fits.linked;
    })

-- a word stays at an event that is none of those that change it
pub stays : {s : Shape} {es : List Event} {e : Event} (w : Word) → Step s es e → HasWord s w →
    (ChangeOf w s (local s es e.caller) e → ⊥) → Same s es e w
stays {s = s} {es = es} {e = e} w p h not = elim (change w p h) [ inl x ↦ x | inr x ↦ absurd (not x.how) ]

-- ---- the words of objects, and the counts

pub record Installed (s : Shape) (es : List Event) (e : Event) (o : ℕ) : Type 0 where
  pub how : InstallsIn s (local s es e.caller) e o
  pub now : at (e ∷ es) o ≡ next_locator s (local s es e.caller) + 1
  pub was : at es o ≡ (res (local s es e.caller)).word

pub objects : {s : Shape} {es : List Event} {e : Event} (o : ℕ) → Step s es e → o < s.objects →
    (at (e ∷ es) o ≡ at es o) ⊎ Installed s es e o
objects o p h =
    told (λ x. record { how = x.how; now = x.now ∙ x.how.put; was = x.was ∙ x.how.found }) (change (ObjectWord o) p h)

-- a count rises by 1 at the events of its kind, and stays at every other event
counted : {s : Shape} {es : List Event} {e : Event} (w : Word) (k : Kind) → Step s es e → HasWord s w →
    (ChangeOf w s (local s es e.caller) e → Counts e k) →
    Same s es e w ⊎ ((e.kind ≡ k) × (word s (e ∷ es) w ≡ word s es w + 1))
counted w k p h counts =
    told (λ x. let y = counts x.how in (y.0, x.now ∙ y.1 ∙ ap (λ n. n + 1) (sym x.was))) (change w p h)

pub numbers : {s : Shape} {es : List Event} {e : Event} → Step s es e →
    Same s es e NumbersWord ⊎ ((e.kind ≡ Draw) × (word s (e ∷ es) NumbersWord ≡ word s es NumbersWord + 1))
numbers p = counted NumbersWord Draw p tt (λ h. h)

pub stamps : {s : Shape} {es : List Event} {e : Event} → Step s es e →
    Same s es e StampsWord ⊎ ((e.kind ≡ Stamp) × (word s (e ∷ es) StampsWord ≡ word s es StampsWord + 1))
stamps p = counted StampsWord Stamp p tt (λ h. h)

pub enrolled : {s : Shape} {es : List Event} {e : Event} → Step s es e →
    Same s es e CallersWord ⊎ ((e.kind ≡ Enrol) × (word s (e ∷ es) CallersWord ≡ word s es CallersWord + 1))
enrolled p = counted CallersWord Enrol p tt (λ h. h)
