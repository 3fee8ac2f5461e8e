-- Each new word of a locator is stored at most once.
use Rattle.std.proofs.Common.{not, ◌&&◌, ◌≡◌, ◌≢◌, ◌+◌, ◌-◌, ◌*◌, ◌/◌, ◌%◌, ◌<◌, ◌≤◌, ◌==◌, ◌⊎◌, ◌∷◌, ◌++◌, ◌∙◌, ℕ, inl, inr, List, [], refl, ap, arith, sym, Bool, true, false, length, length-append, subst}
use Rattle.dstm_core.proofs.Base.{AllowedAs, Begin, Commit, Core, Draw, Event, HighWord, Install, Kind, LocalState, LookSelf, LowWord, Outside, Pause, Phase, PutHigh, PutNew, Quit, Resume, Shape, ToValidating, Word, Write, access, after, and_parts, cases_Bool, eqb-true, given, is_load, local, next_locator, or_zero, place, put_count, res, target, version}
use Rattle.dstm_core.proofs.Static.{numbered-get, Static, static, local_own, callers}
use Rattle.dstm_core.proofs.Columns.{aimed, caller_of, index_of}
use Rattle.dstm_core.proofs.Pasts.{core_past}

-- ---- how many of a caller's locators can be put no more

abbrev pub one_if : Bool → ℕ
one_if true = 1
one_if false = 0

-- outside of attempts all that are installed; in one those before its writes, those put, and what a high part that was
-- put counts for
abbrev pub count_by : (Bool → ℕ) → Phase → LocalState → ℕ
count_by extra Outside l = l.installed
count_by extra p l = l.installed - length l.writes + l.written + extra l.high_put

abbrev pub counted : (Bool → ℕ) → LocalState → ℕ
counted extra l = count_by extra l.phase l

-- where a count of each caller's locators rises with each put, from the locator put, no locator is put twice
pub record Puts (s : Shape) (es : List Event) (e : Event) (f : LocalState → ℕ) (w : ℕ → Word) : Type 0 where
  pub place : e.place ≡ place s (w (e.caller * s.locators + f (local s es e.caller)))
  pub up : f (after e.kind s (local s es e.caller) e) ≡ f (local s es e.caller) + 1
  pub below : f (local s es e.caller) < s.locators

-- a high part that was put counts for one at most
module _ (extra : Bool → ℕ) (small : (b : Bool) → extra b ≤ one_if b) where
  in_attempt : (p : Phase) (l : LocalState) → p ≢ Outside →
      count_by extra p l ≡ l.installed - length l.writes + l.written + extra l.high_put
  in_attempt Outside l h = absurd (h refl)
  in_attempt p l h = refl

  count_le : (s : Shape) (c : ℕ) (p : Phase) (l : LocalState) → Static s c l → count_by extra p l ≤ l.installed
  count_le s c p l t = go p (cases_Bool l.high_put)
    where
      go : (p : Phase) → (l.high_put ≡ true) ⊎ (l.high_put ≡ false) → count_by extra p l ≤ l.installed
      go Outside h = omega arith
      go p (inl h) = let a = t.count in let b = t.high h in let x = small l.high_put in
          let o : one_if l.high_put ≡ 1 = ap one_if h in omega arith
      go p (inr h) = let a = t.count in let b = t.written in let x = small l.high_put in
          let o : one_if l.high_put ≡ 0 = ap one_if h in omega arith

  -- the same state in another phase
  count_out : (s : Shape) (c : ℕ) (l m : LocalState) → Static s c l → m.installed ≡ l.installed →
      m.phase ≡ Outside → counted extra l ≤ counted extra m
  count_out s c l m t i q = let a = count_le s c l.phase l t in
      let b : counted extra m ≡ m.installed = ap (λ p. count_by extra p m) q in omega arith

  count_on : (l m : LocalState) → l.phase ≢ Outside → m.phase ≢ Outside → m.installed ≡ l.installed →
      m.writes ≡ l.writes → m.written ≡ l.written → m.high_put ≡ l.high_put → counted extra l ≤ counted extra m
  count_on l m p q i w n h = let a = in_attempt l.phase l p in let b = in_attempt m.phase m q in
      let x = ap length w in let y = ap extra h in omega arith

  count_same : (l m : LocalState) → m.phase ≡ l.phase → m.installed ≡ l.installed → m.writes ≡ l.writes →
      m.written ≡ l.written → m.high_put ≡ l.high_put → counted extra l ≤ counted extra m
  count_same l m p i w n h = go l.phase refl
    where
      go : (x : Phase) → l.phase ≡ x → counted extra l ≤ counted extra m
      go Outside q = let a : counted extra l ≡ l.installed = ap (λ y. count_by extra y l) q in
          let b : counted extra m ≡ m.installed = ap (λ y. count_by extra y m) (p ∙ q) in omega arith
      go x q = count_on l m (λ z. cc) (λ z. cc) i w n h

  count_more : (l m : LocalState) (w : Write) → l.phase ≢ Outside → length l.writes ≤ l.installed →
      m.phase ≡ l.phase → m.installed ≡ l.installed + 1 → m.writes ≡ l.writes ++ w ∷ [] → m.written ≡ l.written →
      m.high_put ≡ l.high_put → counted extra l ≤ counted extra m
  count_more l m w p c q i ws n h = let a = in_attempt l.phase l p in
      let b = in_attempt m.phase m (λ z. p (sym q ∙ z)) in let x = ap length ws in let y = ap extra h in
      omega (arith, length-append {A = Write} l.writes (w ∷ []))

  count_step : (s : Shape) (c : ℕ) (l : LocalState) (e : Event) (k : Kind) → Static s c l → AllowedAs k s l e →
      counted extra l ≤ counted extra (after k s l e)
  count_step s c l e Begin t a = let x : counted extra l ≡ l.installed = ap (λ p. count_by extra p l) a.2.0 in
      omega arith
  count_step s c l e Install t a = elim (cases_Bool (e.found == e.expected)) [
    | inl q ↦
        count_more l (after Install s l e)
        (record { object = (res l).object; locator = next_locator s l; old = or_zero (version (res l)) })
        (λ z. let i = a.2.0 in cc) t.count (rw q refl) (rw q refl) (rw q refl) (rw q refl) (rw q refl)
    | inr q ↦
        count_on l (after Install s l e) (λ z. let i = a.2.0 in cc) (rw q (λ z. let i = a.2.0 in cc)) (rw q refl)
        (rw q refl) (rw q refl) (rw q refl)
  ]
  count_step s c l e LookSelf t a = elim (cases_Bool (e.found == given l.phase)) [
    | inl q ↦
        count_on l (after LookSelf s l e) (λ z. let i = a.2.0 in cc) (rw q (λ z. let i = a.2.0 in cc))
        (rw q refl) (rw q refl) (rw q refl) (rw q refl)
    | inr q ↦ count_out s c l (after LookSelf s l e) t (rw q refl) (rw q refl)
  ]
  count_step s c l e ToValidating t a = elim (cases_Bool (e.found == 1)) [
    | inl q ↦
        count_on l (after ToValidating s l e) (λ z. let i = a.2.0 in grind arith) (rw q (λ z. cc)) (rw q refl)
        (rw q refl) (rw q refl) (rw q refl)
    | inr q ↦ count_out s c l (after ToValidating s l e) t (rw q refl) (rw q refl)
  ]
  count_step s c l e Pause t a = elim (cases_Bool (e.found == 1)) [
    | inl q ↦
        count_on l (after Pause s l e) (λ z. let i = a.2.0 in cc) (rw q (λ z. cc)) (rw q refl) (rw q refl)
        (rw q refl) (rw q refl)
    | inr q ↦ count_out s c l (after Pause s l e) t (rw q refl) (rw q refl)
  ]
  count_step s c l e Resume t a = elim (cases_Bool (e.found == 2)) [
    | inl q ↦
        count_on l (after Resume s l e) (λ z. let i = a.2.0 in cc) (rw q (λ z. cc)) (rw q refl) (rw q refl)
        (rw q refl) (rw q refl)
    | inr q ↦ count_out s c l (after Resume s l e) t (rw q refl) (rw q refl)
  ]
  count_step s c l e PutNew t a = let x = in_attempt l.phase l (λ z. let i = a.2.0 in cc) in
      let y = small l.high_put in let z : one_if l.high_put ≡ 1 = ap one_if a.2.3 in omega arith
  count_step s c l e PutHigh t a = let x = in_attempt l.phase l (λ z. let i = a.2.0 in grind arith) in
      let y = small l.high_put in let z : one_if l.high_put ≡ 0 = ap one_if a.2.3 in omega arith
  count_step s c l e Draw t a = count_on l (after Draw s l e) (λ z. let i = a.2.0 in cc) (λ z. cc) refl refl refl refl
  count_step s c l e Commit t a = count_out s c l (after Commit s l e) t refl refl
  count_step s c l e Quit t a = count_out s c l (after Quit s l e) t refl refl
  count_step s c l e k t a = count_same l (after k s l e) refl refl refl refl refl

  count_later : (s : Shape) (more es : List Event) (c : ℕ) → Core s (more ++ es) →
      counted extra (local s es c) ≤ counted extra (local s (more ++ es) c)
  count_later s [] es c core = omega arith
  count_later s (e ∷ more) es c core = let a = count_later s more es c core.0 in
      let b = callers s (more ++ es) e (λ c l. counted extra (local s (more ++ es) c) ≤ counted extra l)
      (count_step s e.caller (local s (more ++ es) e.caller) e e.kind
      (static s (more ++ es) core.0 e.caller) core.1.allowed) (λ c _. omega arith) c in omega arith

  put_apart : {s : Shape} (more : List Event) {es : List Event} {e d : Event} {w : ℕ → Word} →
      ((m n : ℕ) → place s (w m) ≡ place s (w n) → m ≡ n) → Core s (more ++ d ∷ es) →
      Puts s (more ++ d ∷ es) e (counted extra) w → Puts s es d (counted extra) w → e.place ≢ d.place
  put_apart {s = s} more {es = es} {e = e} {d = d} same core y x q =
      let m : e.caller * s.locators + counted extra (local s (more ++ d ∷ es) e.caller)
      ≡ d.caller * s.locators + counted extra (local s es d.caller) =
      same (e.caller * s.locators + counted extra (local s (more ++ d ∷ es) e.caller))
      (d.caller * s.locators + counted extra (local s es d.caller)) (sym y.place ∙ q ∙ x.place) in
      let c : e.caller ≡ d.caller = sym (caller_of e.caller s.locators _ y.below) ∙ ap (λ n. n / s.locators) m
      ∙ caller_of d.caller s.locators _ x.below in
      let i : counted extra (local s (more ++ d ∷ es) e.caller) ≡ counted extra (local s es d.caller) =
      sym (index_of e.caller s.locators _ y.below) ∙ ap (λ n. n % s.locators) m
      ∙ index_of d.caller s.locators _ x.below in
      let up = count_later s more (d ∷ es) d.caller core in
      let own : counted extra (local s (d ∷ es) d.caller) ≡ counted extra (after d.kind s (local s es d.caller) d) =
      ap (counted extra) (local_own s es d) in
      let at : counted extra (local s (more ++ d ∷ es) e.caller)
      ≡ counted extra (local s (more ++ d ∷ es) d.caller) = ap (λ n. counted extra (local s (more ++ d ∷ es) n)) c in
      let one = x.up in omega arith

-- ---- the low and the high new words

-- One of the two words of a new value: its puts are of one kind, and after each the locator put can be put no more.
record Part (extra : Bool → ℕ) (puts : Kind) (w : ℕ → Word) : Type 0 where
  pub small : (b : Bool) → extra b ≤ one_if b
  pub same : (s : Shape) (m n : ℕ) → place s (w m) ≡ place s (w n) → m ≡ n
  -- the first locator that can be put is put
  pub settles :
      (s : Shape) (c : ℕ) (l : LocalState) (e : Event) → Static s c l → AllowedAs puts s l e →
      (e.place ≡ place s (w (c * s.locators + counted extra l)))
      × (counted extra (after puts s l e) ≡ counted extra l + 1) × (counted extra l < s.locators)
  -- no other kind puts it
  pub only : (s : Shape) (l : LocalState) (e : Event) (m : ℕ) (k : Kind) → target k s l e ≡ w m →
      not (is_load (access k s l e)) ≡ true → k ≡ puts

-- a high part that was put does not count for the low one
abbrev no_more : Bool → ℕ
no_more put = 0

low_part : Part no_more PutNew LowWord
low_part = record {
  small = λ b. omega arith;
  same = λ s m n h. omega arith;
  settles = λ s c l e t a. let lt = a.2.2 in
      let x = in_attempt no_more (λ b. omega arith) l.phase l (λ z. let i = a.2.0 in cc) in
      let n = numbered-get _ l.writes l.written t.numbered lt in let y = t.count in let z = t.installed in
      (a.0 ∙ ap (λ m. place s (LowWord m)) (omega arith), omega arith, omega arith);
  only = λ s l e m k q h. grind arith;
}

high_part : Part one_if PutHigh HighWord
high_part = record {
  small = λ b. omega arith;
  same = λ s m n h. omega arith;
  settles = λ s c l e t a. let lt = a.2.2 in
      let x = in_attempt one_if (λ b. omega arith) l.phase l (λ z. let i = a.2.0 in grind arith) in
      let o : one_if l.high_put ≡ 0 = ap one_if a.2.3 in
      let n = numbered-get _ l.writes l.written t.numbered lt in let y = t.count in let z = t.installed in
      (a.0 ∙ ap (λ m. place s (HighWord m)) (omega arith), omega arith, omega arith);
  only = λ s l e m k q h. grind arith;
}

module _ {extra : Bool → ℕ} {k : Kind} {w : ℕ → Word} (part : Part extra k w) (s : Shape) where
  part_puts : (es : List Event) (e : Event) → Core s (e ∷ es) → e.kind ≡ k → Puts s es e (counted extra) w
  part_puts es e core is =
      let l = local s es e.caller in
      let x = part.settles s e.caller l e (static s es core.0 e.caller)
      (subst (λ k. AllowedAs k s l e) is core.1.allowed) in
      record { place = x.0; up = ap (λ k. counted extra (after k s l e)) is ∙ x.1; below = x.2 }

  part_word_once : (more es : List Event) (e d : Event) → Core s (e ∷ (more ++ d ∷ es)) → e.kind ≡ k → d.kind ≡ k →
      e.place ≢ d.place
  part_word_once more es e d core is was =
      put_apart extra part.small more (part.same s) core.0 (part_puts (more ++ d ∷ es) e core is)
      (part_puts es d (core_past s more (d ∷ es) core.0) was)

-- a locator's low new word is stored at most once
pub new_word_once : (s : Shape) (more es : List Event) (e d : Event) → Core s (e ∷ (more ++ d ∷ es)) →
    e.kind ≡ PutNew → d.kind ≡ PutNew → e.place ≢ d.place
new_word_once s more es e d core is was = part_word_once low_part s more es e d core is was

-- and so is its high one
pub high_word_once : (s : Shape) (more es : List Event) (e d : Event) → Core s (e ∷ (more ++ d ∷ es)) →
    e.kind ≡ PutHigh → d.kind ≡ PutHigh → e.place ≢ d.place
high_word_once s more es e d core is was = part_word_once high_part s more es e d core is was

-- ---- how often a new word is put

abbrev pub is_put : Shape → List Event → Event → Word → Bool
is_put s es e w = not (is_load (access e.kind s (local s es e.caller) e)) && (e.place == place s w)

put_parts : (s : Shape) (es : List Event) (e : Event) (w : Word) → is_put s es e w ≡ true →
    (not (is_load (access e.kind s (local s es e.caller) e)) ≡ true) × (e.place ≡ place s w)
put_parts s es e w h =
    let parts = and_parts (not (is_load (access e.kind s (local s es e.caller) e))) (e.place == place s w) h in
    (parts.0, eqb-true e.place (place s w) parts.1)

-- locator m was put at most once, and not at all if the count has not come to it
pub record Once (s : Shape) (es : List Event) (f : LocalState → ℕ) (w : ℕ → Word) (m : ℕ) : Type 0 where
  pub once : put_count s es (w m) ≤ 1
  pub not_yet : f (local s es (m / s.locators)) ≤ m % s.locators → put_count s es (w m) ≡ 0

once_step : {s : Shape} {es : List Event} (e : Event) {f : LocalState → ℕ} {w : ℕ → Word} {m : ℕ} →
    ((m n : ℕ) → place s (w m) ≡ place s (w n) → m ≡ n) → ((c : ℕ) → f (local s es c) ≤ f (local s (e ∷ es) c)) →
    (is_put s es e (w m) ≡ true → Puts s es e f w) → Once s es f w m → Once s (e ∷ es) f w m
once_step {s = s} {es = es} e {f = f} {w = w} {m = m} same grows puts ih = elim (cases_Bool (is_put s es e (w m))) [
  | inl q ↦ put q (puts q)
  | inr q ↦
      let count : put_count s (e ∷ es) (w m) ≡ put_count s es (w m) = rw q refl in
      let before = ih.once in
      record {
        once = omega arith;
        not_yet = λ h. let more = grows (m / s.locators) in count ∙ ih.not_yet (omega arith);
      }
]
  where
    put : is_put s es e (w m) ≡ true → Puts s es e f w → Once s (e ∷ es) f w m
    put q p =
        let here : e.place ≡ place s (w m) = (put_parts s es e (w m) q).1 in
        let number : m ≡ e.caller * s.locators + f (local s es e.caller) =
        same m (e.caller * s.locators + f (local s es e.caller)) (sym here ∙ p.place) in
        let caller : m / s.locators ≡ e.caller =
        ap (λ n. n / s.locators) number ∙ caller_of e.caller s.locators (f (local s es e.caller)) p.below in
        let index : m % s.locators ≡ f (local s es e.caller) =
        ap (λ n. n % s.locators) number ∙ index_of e.caller s.locators (f (local s es e.caller)) p.below in
        let before : f (local s es (m / s.locators)) ≡ f (local s es e.caller) = ap (λ c. f (local s es c)) caller in
        let none : put_count s es (w m) ≡ 0 = ih.not_yet (omega arith) in
        let after : f (local s (e ∷ es) (m / s.locators)) ≡ f (local s es e.caller) + 1 =
        ap (λ c. f (local s (e ∷ es) c)) caller ∙ ap f (local_own s es e) ∙ p.up in
        let count : put_count s (e ∷ es) (w m) ≡ put_count s es (w m) + 1 = rw q refl in
        record { once = omega arith; not_yet = λ h. absurd (omega arith) }

part_once : {extra : Bool → ℕ} {k : Kind} {w : ℕ → Word} → Part extra k w → (s : Shape) (es : List Event) (m : ℕ) →
    ((l : LocalState) (e : Event) → AllowedAs e.kind s l e → e.place ≡ place s (w m) → target e.kind s l e ≡ w m) →
    Core s es → Once s es (counted extra) w m
part_once part s [] m aims core = record { once = omega arith; not_yet = λ _. refl }
part_once {extra = extra} {w = w} part s (e ∷ es) m aims core =
    once_step e (part.same s) (λ c. count_later extra part.small s (e ∷ []) es c core) puts
    (part_once part s es m aims core.0)
  where
    puts : is_put s es e (w m) ≡ true → Puts s es e (counted extra) w
    puts q =
        let l = local s es e.caller in let is = put_parts s es e (w m) q in
        part_puts part s es e core (part.only s l e m e.kind (aims l e core.1.allowed is.1) is.0)

pub low_once : (s : Shape) (es : List Event) (m : ℕ) → Core s es → m < s.callers * s.locators →
    Once s es (counted no_more) LowWord m
low_once s es m core b = part_once low_part s es m (λ l e a q. aimed s l e (LowWord m) a b q) core

pub high_once : (s : Shape) (es : List Event) (m : ℕ) → Core s es → m < s.callers * s.locators →
    Once s es (counted one_if) HighWord m
high_once s es m core b = part_once high_part s es m (λ l e a q. aimed s l e (HighWord m) a b q) core
