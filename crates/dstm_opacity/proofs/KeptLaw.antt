-- An attempt that has put all its values keeps the law.
use Rattle.std.proofs.Common.{◌+◌, ◌<◌, ◌==◌, ◌∙◌, ◌∷◌, ◌≡◌, ◌≢◌, ◌⊎◌, List, Some, [], arith, false, inl, inr, is_some, length, refl, subst, sym, true, ℕ}
use Rattle.dstm_core.proofs.Base.{AllowedAs, Core, Event, KeepsLaw, Lawful, LocalState, MayRank, Val, after, cases_Bool, cond_both, entry_of, given, local, own_attempt}
use Rattle.dstm_opacity.proofs.Base.{Begin, Check, Commit, Draw, Drawn, Enrol, Install, Kind, LookSelf, LookStatus, Outside, Pause, Paused, Phase, PutHigh, PutNew, Putting, Quit, Rank, Resume, Running, Shape, Stamp, ToValidating, Validating}
use Rattle.dstm_core.proofs.Static.{Static, callers, static}
use Rattle.dstm_core.proofs.Statuses.{own_differs}
use Rattle.dstm_opacity.proofs.Recorded.{reads}
use Rattle.dstm_opacity.proofs.Values.{entry_stays, kept_from, put_new_owner, puts_value}
use Rattle.dstm_opacity.proofs.Written.{written}

-- where an attempt has put all its values
abbrev pub AllPut : LocalState → Type 0
AllPut l = ((l.phase ≡ Putting) × (l.written ≡ length l.writes)) ⊎ ((l.phase ≡ Validating) ⊎ (l.phase ≡ Drawn))

-- an attempt that has put all its values has no writes, or its entry keeps the law
abbrev pub LawOk : Shape → List Val → (List Val → Type 0) → List Event → LocalState → Type 0
LawOk s start holds es l = AllPut l → (l.writes ≡ []) ⊎ KeepsLaw holds s.objects (entry_of s start es l)

data LawHow (s : Shape) (l : LocalState) (e : Event) (k : Kind) : Type 0 where
  at_last : k ≡ PutNew → l.written + 1 ≡ length l.writes → (after k s l e).reads ≡ l.reads →
      (after k s l e).writes ≡ l.writes → LawHow s l e k
  at_no_write : (after k s l e).writes ≡ [] → LawHow s l e k
  at_later : AllPut l → (after k s l e).reads ≡ l.reads → (after k s l e).writes ≡ l.writes →
      puts_value k ≡ false → LawHow s l e k

all_put_out : (l : LocalState) → AllPut l → l.phase ≢ Outside
all_put_out l (inl x) = λ z. let y = x.0 in cc
all_put_out l (inr (inl x)) = λ z. cc
all_put_out l (inr (inr x)) = λ z. cc

not_running : (l : LocalState) → AllPut l → l.phase ≡ Running → ⊥
not_running l (inl x) z = let y = x.0 in cc
not_running l (inr (inl x)) z = cc
not_running l (inr (inr x)) z = cc

not_paused : (l : LocalState) → AllPut l → l.phase ≡ Paused → ⊥
not_paused l (inl x) z = let y = x.0 in cc
not_paused l (inr (inl x)) z = cc
not_paused l (inr (inr x)) z = cc

law_how : (s : Shape) (c : ℕ) (l : LocalState) (e : Event) (k : Kind) → Static s c l → AllowedAs k s l e →
    AllPut (after k s l e) → LawHow s l e k
unfolding puts_value
law_how s c l e Enrol t a h = absurd (go t.active)
  where
    go : (l.phase ≡ Outside) ⊎ ((l.number ≡ Some c) × (0 < l.begun)) → ⊥
    go (inl x) = all_put_out (after Enrol s l e) h x
    go (inr x) = let y = x.0 in let z = a.2 in cc
law_how s c l e Begin t a h = absurd (not_running (after Begin s l e) h refl)
law_how s c l e Install t a h =
    absurd (not_running (after Install s l e) h
    (cond_both (e.found == e.expected) _ _ (λ (m : LocalState). m.phase ≡ Running) (λ _. a.2.0) (λ _. a.2.0)))
law_how s c l e LookSelf t a h = absurd (go (cases_Bool (e.found == given l.phase)))
  where
    go : (e.found == given l.phase ≡ true) ⊎ (e.found == given l.phase ≡ false) → ⊥
    go (inl q) = not_running (after LookSelf s l e) h (rw q a.2.0)
    go (inr q) = all_put_out (after LookSelf s l e) h (rw q refl)
law_how s c l e Check t a h = go a.2.0
  where
    go : ((l.phase ≡ Running) × (is_some l.pass ≡ true)) ⊎ (l.phase ≡ Drawn) → LawHow s l e Check
    go (inl x) = absurd (not_running (after Check s l e) h x.0)
    go (inr x) = at_later (inr (inr x)) refl refl refl
law_how s c l e PutNew t a h = go h
  where
    go : AllPut (after PutNew s l e) → LawHow s l e PutNew
    go (inl x) = at_last refl x.1 refl refl
    go (inr (inl x)) = absurd (cc)
    go (inr (inr x)) = absurd (cc)
law_how s c l e ToValidating t a h = go a.2.0 (cases_Bool (e.found == 1))
  where
    go : ((l.phase ≡ Running) × (l.writes ≡ [])) ⊎ ((l.phase ≡ Putting) × (l.written ≡ length l.writes)) →
        (e.found == 1 ≡ true) ⊎ (e.found == 1 ≡ false) → LawHow s l e ToValidating
    go (inl x) (inl q) = at_no_write (rw q x.1)
    go (inl x) (inr q) = at_no_write (rw q x.1)
    go (inr x) (inl q) = at_later (inl x) (rw q refl) (rw q refl) refl
    go (inr x) (inr q) = at_later (inl x) (rw q refl) (rw q refl) refl
law_how s c l e Draw t a h = at_later (inr (inl a.2.0)) refl refl refl
law_how s c l e Commit t a h = absurd (all_put_out (after Commit s l e) h refl)
law_how s c l e Quit t a h = absurd (all_put_out (after Quit s l e) h refl)
law_how s c l e LookStatus t a h = go a.2.0
  where
    go : (l.phase ≡ Running) ⊎ (l.phase ≡ Paused) → LawHow s l e LookStatus
    go (inl x) = absurd (not_running (after LookStatus s l e) h x)
    go (inr x) = absurd (not_paused (after LookStatus s l e) h x)
law_how s c l e Stamp t a h = absurd (all_put_out (after Stamp s l e) h a.2.0)
law_how s c l e Rank t a h = go l.phase refl a.2
  where
    go : (p : Phase) → l.phase ≡ p → MayRank p s l e.put → LawHow s l e Rank
    go Outside q m = absurd (all_put_out (after Rank s l e) h q)
    go Running q m = absurd (not_running (after Rank s l e) h q)
    go p q m = absurd m
law_how s c l e Pause t a h = absurd (go (cases_Bool (e.found == 1)))
  where
    go : (e.found == 1 ≡ true) ⊎ (e.found == 1 ≡ false) → ⊥
    go (inl q) = not_paused (after Pause s l e) h (rw q refl)
    go (inr q) = all_put_out (after Pause s l e) h (rw q refl)
law_how s c l e Resume t a h = absurd (go (cases_Bool (e.found == 2)))
  where
    go : (e.found == 2 ≡ true) ⊎ (e.found == 2 ≡ false) → ⊥
    go (inl q) = not_running (after Resume s l e) h (rw q refl)
    go (inr q) = all_put_out (after Resume s l e) h (rw q refl)
law_how s c l e PutHigh t a h = absurd (go h)
  where
    go : AllPut (after PutHigh s l e) → ⊥
    go (inl x) = let lt = a.2.2 in let y = x.1 in omega arith
    go (inr (inl x)) = cc
    go (inr (inr x)) = cc
law_how s c l e k t a h = absurd (not_running (after k s l e) h a.2.0)

-- an entry is by the reads and the writes alone
pub entry_same : (s : Shape) (start : List Val) (es : List Event) (l m : LocalState) → m.reads ≡ l.reads →
    m.writes ≡ l.writes → entry_of s start es m ≡ entry_of s start es l
entry_same s start es l m r w = rw (r, w) refl

law_own : {s : Shape} (start : List Val) (holds : List Val → Type 0) (es : List Event) {e : Event} →
    Core s (e ∷ es) → Lawful s start holds (e ∷ es) → LawOk s start holds es (local s es e.caller) →
    LawHow s (local s es e.caller) e e.kind → ((after e.kind s (local s es e.caller) e).writes ≡ [])
    ⊎ KeepsLaw holds s.objects (entry_of s start (e ∷ es) (after e.kind s (local s es e.caller) e))
law_own {s = s} start holds es {e = e} core law ih (at_last k w r q) =
    inr (subst (KeepsLaw holds s.objects)
    (sym (entry_same s start (e ∷ es) (local s es e.caller) (after e.kind s (local s es e.caller) e) r q)) (law.1 k w))
law_own start holds es core law ih (at_no_write q) = inl q
law_own {s = s} start holds es {e = e} core law ih (at_later p r q n) = elim (ih p) [
  | inl x ↦ inl (q ∙ x)
  | inr x ↦
      inr (subst (KeepsLaw holds s.objects)
      (sym (entry_same s start (e ∷ es) (local s es e.caller) (after e.kind s (local s es e.caller) e) r q
      ∙ entry_stays s start es e (own_attempt s (local s es e.caller)) (local s es e.caller) core
      (reads s es core.0 e.caller) (kept_from s es (own_attempt s (local s es e.caller)) (local s es e.caller).writes
      (written s es core.0 e.caller core.1.caller out)) (λ k. absurd (cc)))) x)
]
  where
    out : (local s es e.caller).phase ≢ Outside
    out = all_put_out (local s es e.caller) p

-- each attempt of a lawful run does
pub law_ok : (s : Shape) (start : List Val) (holds : List Val → Type 0) (es : List Event) → Core s es →
    Lawful s start holds es → (c : ℕ) → c < s.callers → LawOk s start holds es (local s es c)
law_ok s start holds [] core law c lt p = inl refl
law_ok s start holds (e ∷ es) core law c lt p =
    callers s es e
    (λ c l. c < s.callers → AllPut l → (l.writes ≡ []) ⊎ KeepsLaw holds s.objects (entry_of s start (e ∷ es) l))
    (λ lt p. law_own start holds es core law (law_ok s start holds es core.0 law.0 e.caller lt)
    (law_how s e.caller (local s es e.caller) e e.kind (static s es core.0 e.caller) core.1.allowed p))
    (λ c d lt p. other c d lt p (law_ok s start holds es core.0 law.0 c lt p)) c lt p
  where
    other : (c : ℕ) → e.caller ≢ c → c < s.callers → AllPut (local s es c) →
        ((local s es c).writes ≡ []) ⊎ KeepsLaw holds s.objects (entry_of s start es (local s es c)) →
        ((local s es c).writes ≡ []) ⊎ KeepsLaw holds s.objects (entry_of s start (e ∷ es) (local s es c))
    other c d lt p (inl x) = inl x
    other c d lt p (inr x) = let out = all_put_out (local s es c) p in
        inr (subst (KeepsLaw holds s.objects)
        (sym (entry_stays s start es e (own_attempt s (local s es c)) (local s es c) core (reads s es core.0 c)
        (kept_from s es (own_attempt s (local s es c)) (local s es c).writes (written s es core.0 c lt out)) (λ k z. d
        (own_differs s e.caller c (local s es e.caller) (local s es c) (static s es core.0 e.caller)
        (static s es core.0 c) core.1.caller lt (put_new_owner s es e core k).0 out z)))) x)
