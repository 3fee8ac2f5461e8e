-- What holds of a caller's state, whatever the others do.
use Rattle.std.proofs.Common.{Bool, ◌≡◌, ◌≢◌, ◌+◌, ◌-◌, ◌*◌, ◌<◌, ◌≤◌, ◌==◌, ◌⊎◌, ◌∷◌, ◌++◌, ℕ, inl, inr, List, [], refl, ap, arith, true, Option, Some, None, is_some, suc, zero, length, subst, length-append, slice_get}
use Rattle.dstm_core.proofs.Base.{AllowedAs, Begin, Commit, Core, Draw, Drawn, Enrol, Event, Install, Kill, Kind, LocalState, LookHigh, LookNew, LookNumber, LookObj, LookOld, LookOwner, LookRank, LookSelf, LookStatus, Outside, Pause, Paused, Phase, PutHigh, PutNew, PutOld, PutOwner, Quit, Release, Resolution, Resume, Running, Shape, ToValidating, Validating, Write, after, cond_both, eq-eqb, eqb-true, given, install, leave, local, nat_tests, next_locator, or_unresolved, or_write, or_zero, res, version}
use Rattle.dstm_core.specs.Runs.{core as machine}
use Rattle.dstm_machines.proofs.Runs as runs
use Rattle.dstm_core.proofs.Untouched.{unlooked}

-- a resolution is of an object of the shape
abbrev pub InShape : Shape → Option Resolution → Type 0
InShape s None = Unit {0}
InShape s (Some r) = r.object < s.objects

-- locators one after the other
abbrev pub Numbered : ℕ → List Write → Type 0
Numbered n [] = Unit {0}
Numbered n (w ∷ ws) = (w.locator ≡ n) × Numbered (n + 1) ws

numbered-snoc : (n : ℕ) (ws : List Write) (w : Write) → Numbered n ws → w.locator ≡ n + length ws →
    Numbered n (ws ++ w ∷ [])
numbered-snoc n [] w h e = (omega arith, tt)
numbered-snoc n (v ∷ ws) w h e = (h.0, numbered-snoc (n + 1) ws w h.1 (omega arith))

pub numbered-get : (n : ℕ) (ws : List Write) (i : ℕ) → Numbered n ws → i < length ws →
    (or_write (slice_get ws i)).locator ≡ n + i
numbered-get n [] i h l = absurd (omega arith)
numbered-get n (w ∷ ws) zero h l = omega arith
numbered-get n (w ∷ ws) (suc i) h l = omega (arith, numbered-get (n + 1) ws i h.1 (omega arith))

pub length-snoc : (ws : List Write) (w : Write) → length (ws ++ w ∷ []) ≡ length ws + 1
length-snoc ws w = omega (arith, length-append {A = Write} ws (w ∷ []))

-- the caller has its number, and has begun an attempt
abbrev pub Inside : ℕ → Option ℕ → ℕ → Type 0
Inside c number begun = (number ≡ Some c) × (0 < begun)

-- of a caller's number, its phase, and the attempts that it has begun
pub record Who (s : Shape) (c : ℕ) (n : Option ℕ) (p : Phase) (b : ℕ) : Type 0 where
  pub number : (n ≡ None) ⊎ (n ≡ Some c)
  pub active : (p ≡ Outside) ⊎ Inside c n b
  pub begun : b ≤ s.attempts

-- of the locators that it has installed, and what the first unused one holds
pub record Holds (s : Shape) (i : ℕ) (o d : Option ℕ) : Type 0 where
  pub installed : i ≤ s.locators
  pub held : is_some o ≡ true → i < s.locators
  pub held_old : is_some d ≡ true → i < s.locators

-- of its writes, how many are put, and whether the next one's high part is
pub record Puts (s : Shape) (c i : ℕ) (ws : List Write) (k : ℕ) (h : Bool) : Type 0 where
  pub count : length ws ≤ i
  pub written : k ≤ length ws
  pub high : h ≡ true → k < length ws
  pub numbered : Numbered (c * s.locators + (i - length ws)) ws

-- of all parts of its state: a record over them, so that an event leaves it where it leaves them
pub record StaticBy (s : Shape) (c : ℕ) (n : Option ℕ) (p : Phase) (b i : ℕ) (r : Option Resolution)
    (o d : Option ℕ) (ws : List Write) (k : ℕ) (h : Bool) : Type 0 where
  pub who : Who s c n p b
  pub open who use *
  pub object : InShape s r
  pub holds : Holds s i o d
  pub open holds use *
  pub puts : Puts s c i ws k h
  pub open puts use *

-- what holds of a caller's state alone
abbrev pub Static : Shape → ℕ → LocalState → Type 0
Static s c l = StaticBy s c l.number l.phase l.begun l.installed l.resolution
    l.held_owner l.held_old l.writes l.written l.high_put

pub res-in_shape : (s : Shape) (l : LocalState) → InShape s l.resolution → is_some l.resolution ≡ true →
    (res l).object < s.objects
res-in_shape s l h i = go l.resolution h i
  where
    go : (r : Option Resolution) → InShape s r → is_some r ≡ true → (or_unresolved r).object < s.objects
    go None h i = absurd (cc)
    go (Some r) h i = h

-- the guard of a look at a resolution says that there is one
pub has_owner : (r : Option Resolution) → is_some (or_unresolved r).owner ≡ true → is_some r ≡ true
has_owner None h = h
has_owner (Some r) h = refl

pub has_word : (r : Option Resolution) → 0 < (or_unresolved r).word → is_some r ≡ true
has_word None h = absurd (omega arith)
has_word (Some r) h = refl

pub has_status : (r : Option Resolution) (n : ℕ) → or_zero (or_unresolved r).status ≡ suc n → is_some r ≡ true
has_status None n h = absurd (cc)
has_status (Some r) n h = refl

pub has_high : (r : Option Resolution) → is_some (or_unresolved r).high ≡ true → is_some r ≡ true
has_high None h = h
has_high (Some r) h = refl

pub has_version : (r : Option Resolution) → 0 < or_zero (version (or_unresolved r)) → is_some r ≡ true
has_version None h = absurd (omega arith)
has_version (Some r) h = refl

pub running : (s : Shape) (c : ℕ) (l : LocalState) → Static s c l → l.phase ≢ Outside → Inside c l.number l.begun
running s c l t h = go t.active
  where
    go : (l.phase ≡ Outside) ⊎ Inside c l.number l.begun → Inside c l.number l.begun
    go (inl e) = absurd (h e)
    go (inr x) = x

-- the same state in another phase
in_phase : (s : Shape) (c : ℕ) (l : LocalState) (p : Phase) → Static s c l →
    (p ≡ Outside) ⊎ Inside c l.number l.begun → Static s c (record l { phase = p })
in_phase s c l p t h = record {
  who = record { number = t.number; active = h; begun = t.begun };
  object = t.object;
  holds = t.holds;
  puts = t.puts;
}

left : (s : Shape) (c : ℕ) (l : LocalState) → Static s c l → Static s c (leave l)
left s c l t = in_phase s c l Outside t (inl refl)

entered : (s : Shape) (c : ℕ) (l : LocalState) (p : Phase) → Static s c l → l.phase ≢ Outside →
    Static s c (record l { phase = p })
entered s c l p t h = in_phase s c l p t (inr (running s c l t h))

-- the same state with another resolution
with_resolution : (s : Shape) (c : ℕ) (l : LocalState) (r : Option Resolution) → Static s c l → InShape s r →
    Static s c (record l { resolution = r })
with_resolution s c l r t h = record { who = t.who; object = h; holds = t.holds; puts = t.puts }

-- more was found out of the object that is being resolved
looked : (s : Shape) (c : ℕ) (l : LocalState) (r : Resolution) → Static s c l → is_some l.resolution ≡ true →
    r.object ≡ (res l).object → Static s c (record l { resolution = Some r })
looked s c l r t h same = with_resolution s c l (Some r) t (rw same (res-in_shape s l t.object h))

installs : (s : Shape) (c : ℕ) (l : LocalState) (e : Event) → Static s c l → AllowedAs Install s l e →
    Static s c (install s l)
installs s c l e t a =
    let below : l.installed < s.locators = t.held (ap is_some a.2.4) in
    let w : Write =
    record { object = (res l).object; locator = next_locator s l; old = or_zero (version (res l)) } in
    let long : length (l.writes ++ w ∷ []) ≡ length l.writes + 1 = length-snoc l.writes w in
    let inside : Inside c l.number l.begun = running s c l t (λ h. cc) in
    let number : or_zero l.number ≡ c = ap or_zero inside.0 in
    let count = t.count in
    let base : c * s.locators + (l.installed + 1 - length (l.writes ++ w ∷ []))
    ≡ c * s.locators + (l.installed - length l.writes) = rw long (omega arith) in
    let own : or_zero l.number * s.locators + l.installed ≡ c * s.locators + l.installed =
    ap (λ n. n * s.locators + l.installed) number in
    record {
      who = t.who;
      object = tt;
      holds = record { installed = omega arith; held = λ h. absurd (cc); held_old = λ h. absurd (cc) };
      puts = record {
        count = rw long (omega arith);
        written = let written = t.written in rw long (omega arith);
        high = λ h. let high = t.high h in rw long (omega arith);
        numbered = rw base (numbered-snoc _ l.writes w t.numbered (omega arith));
      };
    }

pub static_step : (s : Shape) (c : ℕ) (l : LocalState) (e : Event) (k : Kind) → Static s c l →
    (k ≡ Enrol → e.found ≡ c) → AllowedAs k s l e → Static s c (after k s l e)
static_step s c l e Enrol t n a = record {
  who = record { number = inr (ap Some (n refl)); active = grind (arith); begun = t.begun };
  object = t.object;
  holds = t.holds;
  puts = t.puts;
}
static_step s c l e Begin t n a = record {
  who = record { number = t.number; active = inr (grind (arith), omega arith); begun = omega arith };
  object = tt;
  holds = t.holds;
  puts = record { count = omega arith; written = omega arith; high = λ h. absurd (cc); numbered = tt };
}
static_step s c l e LookObj t n a = with_resolution s c l _ t a.3
static_step s c l e LookOwner t n a = looked s c l _ t (has_word l.resolution a.2.2) refl
static_step s c l e LookStatus t n a = looked s c l _ t (has_owner l.resolution a.2.2) refl
static_step s c l e LookRank t n a = looked s c l _ t (has_owner l.resolution a.2.2) refl
static_step s c l e LookOld t n a = looked s c l _ t (has_status l.resolution 4 a.2.2) refl
static_step s c l e LookHigh t n a = looked s c l _ t (has_version l.resolution a.2.2) refl
static_step s c l e LookNew t n a = looked s c l _ t (has_high l.resolution a.2.2) refl
static_step s c l e Kill t n a = looked s c l _ t (has_owner l.resolution a.2.2) refl
static_step s c l e PutOwner t n a = record {
  who = t.who;
  object = t.object;
  holds = record { installed = t.installed; held = λ _. a.2.2; held_old = t.held_old };
  puts = t.puts;
}
static_step s c l e PutOld t n a = record {
  who = t.who;
  object = t.object;
  holds = record { installed = t.installed; held = t.held; held_old = λ _. t.held (ap is_some a.2.4) };
  puts = t.puts;
}
static_step s c l e Install t n a =
    cond_both (e.found == e.expected) _ _ (Static s c) (λ _. installs s c l e t a)
    (λ _. with_resolution s c l None t tt)
static_step s c l e LookNumber t n a = with_resolution s c l _ t (unlooked (InShape s) s l e LookNumber refl tt t.object)
static_step s c l e LookSelf t n a = cond_both (e.found == given l.phase) _ _ (Static s c) (λ _. t) (λ _. left s c l t)
static_step s c l e Release t n a = with_resolution s c l None t tt
static_step s c l e PutHigh t n a = record {
  who = record { number = t.number; active = inr (running s c l t (λ h. grind arith)); begun = t.begun };
  object = t.object;
  holds = t.holds;
  puts = record { count = t.count; written = t.written; high = λ _. a.2.2; numbered = t.numbered };
}
static_step s c l e PutNew t n a = record {
  who = record { number = t.number; active = inr (running s c l t (λ h. grind arith)); begun = t.begun };
  object = t.object;
  holds = t.holds;
  puts = record { count = t.count; written = omega arith; high = λ h. absurd (cc); numbered = t.numbered };
}
static_step s c l e ToValidating t n a = cond_both (e.found == 1) _ _ (Static s c)
    (λ _. entered s c l Validating t (λ h. grind arith)) (λ _. left s c l t)
static_step s c l e Draw t n a = entered s c l Drawn t (λ h. cc)
static_step s c l e Commit t n a = left s c l t
static_step s c l e Quit t n a = left s c l t
static_step s c l e Pause t n a =
    cond_both (e.found == 1) _ _ (Static s c) (λ _. entered s c l Paused t (λ h. cc)) (λ _. left s c l t)
static_step s c l e Resume t n a =
    cond_both (e.found == 2) _ _ (Static s c) (λ _. entered s c l Running t (λ h. cc)) (λ _. left s c l t)
static_step s c l e k t n a = t

-- each caller's state, in a core run
pub static : (s : Shape) (es : List Event) → Core s es → (c : ℕ) → Static s c (local s es c)
static s [] core c = record {
  who = record { number = inl refl; active = inl refl; begun = omega arith };
  object = tt;
  holds = record { installed = omega arith; held = λ h. absurd (cc); held_old = λ h. absurd (cc) };
  puts = record { count = omega arith; written = omega arith; high = λ h. absurd (cc); numbered = tt };
}
static s (e ∷ es) core c = cond_both (e.caller == c) _ _ (Static s c)
    (λ same. let P : ℕ → Type 0 = λ n. Static s n (after e.kind s (local s es n) e) in
    subst P (eqb-true e.caller c same)
    (static_step s e.caller (local s es e.caller) e e.kind (static s es core.0 e.caller)
    core.1.enrolled core.1.allowed)) (λ _. static s es core.0 c)

-- attempts and locators are only ever added
pub begun_step : (s : Shape) (l : LocalState) (e : Event) (k : Kind) → l.begun ≤ (after k s l e).begun
begun_step s l e k = grind (arith, nat_tests)

pub installed_step : (s : Shape) (l : LocalState) (e : Event) (k : Kind) → l.installed ≤ (after k s l e).installed
installed_step s l e k = grind (arith, nat_tests)

pub begun_more : (s : Shape) (es : List Event) (e : Event) (c : ℕ) → (local s es c).begun ≤ (local s (e ∷ es) c).begun
begun_more s es e c =
    cond_both (e.caller == c) _ _ (λ (m : LocalState). (local s es c).begun ≤ m.begun)
    (λ _. begun_step s (local s es c) e e.kind) (λ _. omega arith)

pub installed_more : (s : Shape) (es : List Event) (e : Event) (c : ℕ) →
    (local s es c).installed ≤ (local s (e ∷ es) c).installed
installed_more s es e c =
    cond_both (e.caller == c) _ _ (λ (m : LocalState). (local s es c).installed ≤ m.installed)
    (λ _. installed_step s (local s es c) e e.kind) (λ _. omega arith)

-- the caller's own state after its event, and that of another
pub local_own : (s : Shape) (es : List Event) (e : Event) →
    local s (e ∷ es) e.caller ≡ after e.kind s (local s es e.caller) e
local_own = runs.local_own machine

pub local_other : (s : Shape) (es : List Event) (e : Event) (c : ℕ) → e.caller ≢ c → local s (e ∷ es) c ≡ local s es c
local_other = runs.local_other machine

-- a fact of each caller's state, from that of the caller that steps and those of the others
pub callers : (s : Shape) (es : List Event) (e : Event) (P : ℕ → LocalState → Type 0) →
    P e.caller (after e.kind s (local s es e.caller) e) → ((c : ℕ) → e.caller ≢ c → P c (local s es c)) →
    (c : ℕ) → P c (local s (e ∷ es) c)
callers = runs.callers machine

-- the locators installed grow at a successful Install alone
pub installed_how : (s : Shape) (l : LocalState) (e : Event) (k : Kind) →
    ((after k s l e).installed ≡ l.installed)
    ⊎ ((k ≡ Install) × (e.found ≡ e.expected) × ((after k s l e).installed ≡ l.installed + 1))
installed_how s l e k = grind (arith, nat_tests)

-- what the first unused locator holds was put by this event, or is what it held
abbrev pub HeldHow : Shape → LocalState → Event → Kind → Kind → Option ℕ → ℕ → Type 0
HeldHow s l e k put held a = ((after k s l e).installed ≡ l.installed)
    × (((k ≡ put) × (e.put ≡ a)) ⊎ ((k ≢ put) × (held ≡ Some a)))

pub held_how : (s : Shape) (l : LocalState) (e : Event) (k : Kind) (a : ℕ) →
    (after k s l e).held_owner ≡ Some a → HeldHow s l e k PutOwner l.held_owner a
held_how s l e PutOwner a q = (refl, inl (refl, cc))
held_how s l e k a q = (grind (arith, nat_tests), inr ((λ z. cc), grind (arith, nat_tests)))

pub held_old_how : (s : Shape) (l : LocalState) (e : Event) (k : Kind) (a : ℕ) →
    (after k s l e).held_old ≡ Some a → HeldHow s l e k PutOld l.held_old a
held_old_how s l e PutOld a q = (refl, inl (refl, cc))
held_old_how s l e k a q = (grind (arith, nat_tests), inr ((λ z. cc), grind (arith, nat_tests)))

pub installed_up : (s : Shape) (l : LocalState) (e : Event) {k : Kind} → k ≡ Install → e.found ≡ e.expected →
    (after k s l e).installed ≡ l.installed + 1
installed_up s l e {k = Install} q h = rw (eq-eqb e.found e.expected h)
installed_up s l e q h = absurd (cc)
