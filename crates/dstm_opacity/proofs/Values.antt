-- The values of settled versions stay, and with them the entries of attempts that have drawn.
use Rattle.std.proofs.Common.{◌++◌, ◌-◌, ◌<◌, ◌==◌, ◌∙◌, ◌∷◌, ◌≡◌, ◌≢◌, ◌⊎◌, Bool, List, [], ap, arith, false, inl, inr, length, refl, slice_get, subst, suc, sym, true, zero, ℕ}
use Rattle.dstm_core.proofs.Base.{AllowedAs, Core, Event, HighWord, LocalState, LowWord, OldWord, OwnerWord, StatusWord, Val, cases_Bool, drawn, entry_of, eqb-false, given, local, new_value, new_values, next_write, old_values, or_write, own_attempt, read_values, version_value, word}
use Rattle.dstm_opacity.proofs.Base.{Kind, Outside, Phase, PutHigh, PutNew, Putting, Read, Running, Shape, Write}
use Rattle.dstm_core.proofs.Basic.{old_stays, owner_stays}
use Rattle.dstm_core.proofs.Columns.{Used, stays, step, used_more}
use Rattle.dstm_core.proofs.Statuses.{own_status}
use Rattle.dstm_opacity.proofs.Draws.{drawn_more, drawn_phase, is_drawn}
use Rattle.dstm_opacity.proofs.Recorded.{ReadsNamed, named_settled, old_settled, reads_more}
use Rattle.dstm_opacity.proofs.Versions.{Settled, status_of}
use Rattle.dstm_opacity.proofs.Written.{WriteOk, WritesOk, written}

-- kinds that put a new word
unfoldable pub puts_value : Kind → Bool
puts_value PutNew = true
puts_value PutHigh = true
puts_value k = false

-- the new words of a locator whose owner has committed stay
low_stays : {s : Shape} {es : List Event} (e : Event) {m : ℕ} → Core s (e ∷ es) → Used s es m →
    (puts_value e.kind ≡ true → m ≡ (next_write (local s es e.caller)).locator → ⊥) →
    new_value s (e ∷ es) m ≡ new_value s es m
unfolding puts_value
low_stays {s = s} {es = es} e {m = m} core u h =
    let a = stays (LowWord m) (step s es e core) u.below (λ x. h (ap puts_value x.kind) x.number) in
    let b = stays (HighWord m) (step s es e core) u.below (λ x. h (ap puts_value x.kind) x.number) in cc

-- where a part of a new value may be put
pub put_new_may : (s : Shape) (l : LocalState) (e : Event) (k : Kind) → puts_value k ≡ true →
    AllowedAs k s l e → ((l.phase ≡ Running) ⊎ (l.phase ≡ Putting)) × (l.written < length l.writes)
unfolding puts_value
put_new_may s l e PutNew q a = (inr a.2.0, a.2.2)
put_new_may s l e PutHigh q a = (a.2.0, a.2.2)
put_new_may s l e k q a = absurd (cc)

-- the attempt is active then
pub put_new_out : (p : Phase) → (p ≡ Running) ⊎ (p ≡ Putting) → (p ≢ Outside) × (given p ≡ 1)
put_new_out p (inl q) = ((λ z. cc), ap given q)
put_new_out p (inr q) = ((λ z. cc), ap given q)

writes_at : (s : Shape) (es : List Event) (own : ℕ) (ws : List Write) (i : ℕ) → WritesOk s es own ws →
    i < length ws → WriteOk s es own (or_write (slice_get ws i))
writes_at s es own [] i h lt = absurd (omega arith)
writes_at s es own (w ∷ ws) zero h lt = h.0
writes_at s es own (w ∷ ws) (suc i) h lt = writes_at s es own ws i h.1 (omega arith)

-- the locator that a PutNew writes is owned by the caller's attempt
pub put_new_owner : (s : Shape) (es : List Event) (e : Event) → Core s (e ∷ es) → puts_value e.kind ≡ true →
    ((local s es e.caller).phase ≢ Outside) × (given (local s es e.caller).phase ≡ 1)
    × (word s es (OwnerWord (next_write (local s es e.caller)).locator) ≡ own_attempt s (local s es e.caller))
put_new_owner s es e core k = let may = put_new_may s (local s es e.caller) e e.kind k core.1.allowed in
    let o = put_new_out (local s es e.caller).phase may.0 in (
      o.0,
      o.1,
      (writes_at s es (own_attempt s (local s es e.caller)) (local s es e.caller).writes
          (local s es e.caller).written (written s es core.0 e.caller core.1.caller o.0) may.1).owner,
    )

committed_low : (s : Shape) (es : List Event) (e : Event) (v : ℕ) → Core s (e ∷ es) → Settled s es v → 0 < v →
    new_value s (e ∷ es) (v - 1) ≡ new_value s es (v - 1)
committed_low s es e v core (inl z) p = absurd (omega arith)
committed_low s es e v core (inr z) p = low_stays e core z.1 (λ k q. go k (put_new_owner s es e core k) q)
  where
    go : puts_value e.kind ≡ true →
        ((local s es e.caller).phase ≢ Outside) × (given (local s es e.caller).phase ≡ 1)
        × (word s es (OwnerWord (next_write (local s es e.caller)).locator) ≡ own_attempt s
        (local s es e.caller)) → v - 1 ≡ (next_write (local s es e.caller)).locator → ⊥
    go k o q = elim (own_status s es core.0 e.caller core.1.caller o.0) [
      | inl y ↦ let a = z.2 in let b = o.1 in let c = is in omega arith
      | inr y ↦ let a = z.2 in let c = is in omega arith
    ]
      where
        is : status_of s es v ≡ word s es (StatusWord (own_attempt s (local s es e.caller)))
        is = ap (λ n. word s es (StatusWord n)) (ap (λ m. word s es (OwnerWord m)) q ∙ o.2)

-- so the value of a settled version stays
pub value_stays : (s : Shape) (start : List Val) (es : List Event) (e : Event) (o v : ℕ) → Core s (e ∷ es) →
    Settled s es v → version_value s start (e ∷ es) o v ≡ version_value s start es o v
value_stays s start es e o v core h = elim (cases_Bool (v == 0)) [
  | inl q ↦ rw q refl
  | inr q ↦ rw q (committed_low s es e v core h (let n = eqb-false v 0 q in omega arith))
]

-- the values read stay
pub read_values_stay : (s : Shape) (start : List Val) (es : List Event) (e : Event) (rs : List Read) →
    Core s (e ∷ es) → ReadsNamed s es rs → read_values s start (e ∷ es) rs ≡ read_values s start es rs
read_values_stay s start es e [] core h = refl
read_values_stay s start es e (r ∷ rs) core h =
    let v = value_stays s start es e r.object r.version core
    (named_settled (old_settled s es core.0) h.1) in let t = read_values_stay s start es e rs core h.2 in cc

-- what stays of a write for good
pub record WriteKept (s : Shape) (es : List Event) (own : ℕ) (w : Write) : Type 0 where
  pub used : Used s es w.locator
  pub owner : word s es (OwnerWord w.locator) ≡ own
  pub old : word s es (OldWord w.locator) ≡ w.old

-- the same of each of some writes
abbrev pub WritesKept : Shape → List Event → ℕ → List Write → Type 0
WritesKept s es own [] = Unit {0}
WritesKept s es own (w ∷ ws) = WriteKept s es own w × WritesKept s es own ws

-- it holds of an attempt under way
pub kept_from : (s : Shape) (es : List Event) (own : ℕ) (ws : List Write) → WritesOk s es own ws →
    WritesKept s es own ws
kept_from s es own [] h = tt
kept_from s es own (w ∷ ws) h =
    (record { used = h.0.used; owner = h.0.owner; old = h.0.old }, kept_from s es own ws h.1)

-- and it stays
pub kept_more : (s : Shape) (es : List Event) (e : Event) (own : ℕ) (ws : List Write) → Core s (e ∷ es) →
    WritesKept s es own ws → WritesKept s (e ∷ es) own ws
kept_more s es e own [] core h = tt
kept_more s es e own (w ∷ ws) core h = (
  record {
    used = used_more e h.0.used;
    owner = owner_stays s es e w.locator
        (step s es e core) h.0.used ∙ h.0.owner;
    old = old_stays s es e w.locator (step s es e core) h.0.used ∙ h.0.old;
  },
  kept_more s es e own ws core h.1,
)

-- the values replaced stay
pub old_values_stay : (s : Shape) (start : List Val) (es : List Event) (e : Event) (own : ℕ) (ws : List Write) →
    Core s (e ∷ es) → WritesKept s es own ws → old_values s start (e ∷ es) ws ≡ old_values s start es ws
old_values_stay s start es e own [] core h = refl
old_values_stay s start es e own (w ∷ ws) core h = let z = old_settled s es core.0 w.locator h.0.used in
    let v = value_stays s start es e w.object w.old core (subst (Settled s es) h.0.old z) in
    let t = old_values_stay s start es e own ws core h.1 in cc

new_values_stay : (s : Shape) (es : List Event) (e : Event) (own : ℕ) (ws : List Write) → Core s (e ∷ es) →
    WritesKept s es own ws → (puts_value e.kind ≡ true → own_attempt s (local s es e.caller) ≢ own) →
    new_values s (e ∷ es) ws ≡ new_values s es ws
new_values_stay s es e own [] core h d = refl
new_values_stay s es e own (w ∷ ws) core h d =
    let v = low_stays e core h.0.used (λ k q. d k
    (sym (put_new_owner s es e core k).2 ∙ ap (λ m. word s es (OwnerWord m)) (sym q) ∙ h.0.owner)) in
    let t = new_values_stay s es e own ws core h.1 d in cc

-- an entry stays over an event that puts none of its values
pub entry_stays : (s : Shape) (start : List Val) (es : List Event) (e : Event) (own : ℕ) (l : LocalState) →
    Core s (e ∷ es) → ReadsNamed s es l.reads → WritesKept s es own l.writes →
    (puts_value e.kind ≡ true → own_attempt s (local s es e.caller) ≢ own) →
    entry_of s start (e ∷ es) l ≡ entry_of s start es l
entry_stays s start es e own l core r w d = let a = read_values_stay s start es e l.reads core r in
    let b = old_values_stay s start es e own l.writes core w in
    let c = new_values_stay s es e own l.writes core w d in cc

-- an attempt that has drawn puts nothing more, so its entry is the same in every later log
pub entry_later : (s : Shape) (start : List Val) (q more : List Event) (own : ℕ) (l : LocalState) →
    Core s (more ++ q) → drawn s q own ≡ true → ReadsNamed s q l.reads → WritesKept s q own l.writes →
    (entry_of s start (more ++ q) l ≡ entry_of s start q l) × (drawn s (more ++ q) own ≡ true)
    × ReadsNamed s (more ++ q) l.reads × WritesKept s (more ++ q) own l.writes
unfolding is_drawn
entry_later s start q [] own l core d r w = (refl, d, r, w)
entry_later s start q (e ∷ more) own l core d r w = let ih = entry_later s start q more own l core.0 d r w in (
  entry_stays s start (more ++ q) e own l core ih.2 ih.3 (λ k z. undrawn k z ih.1) ∙ ih.0,
  drawn_more s (more ++ q) e own ih.1,
  reads_more s (more ++ q) e l.reads core ih.2,
  kept_more s (more ++ q) e own l.writes core ih.3,
)
  where
    phase_of : (p : Phase) → (p ≡ Running) ⊎ (p ≡ Putting) → is_drawn p ≡ false
    phase_of p (inl y) = ap is_drawn y
    phase_of p (inr y) = ap is_drawn y

    undrawn : puts_value e.kind ≡ true → own_attempt s (local s (more ++ q) e.caller) ≡ own →
        drawn s (more ++ q) own ≡ true → ⊥
    undrawn k z y = let may = put_new_may s (local s (more ++ q) e.caller) e e.kind k core.1.allowed in
        let a = drawn_phase s (more ++ q) core.0 e.caller core.1.caller
        (put_new_out (local s (more ++ q) e.caller).phase may.0).0 in
        let b = phase_of (local s (more ++ q) e.caller).phase may.0 in
        let c : drawn s (more ++ q) own ≡ false = ap (drawn s (more ++ q)) (sym z) ∙ a ∙ b in cc
