-- The version that is current after the draws of the attempts that commit is the one that the word stands
-- for.
use Rattle.std.proofs.Common.{◌&&◌, ◌*◌, ◌+◌, ◌-◌, ◌<◌, ◌==◌, ◌∙◌, ◌∷◌, ◌≡◌, ◌≢◌, ◌⊎◌, Bool, List, None, Option, Some, [], ap, arith, false, if◌then◌else◌, inl, inr, refl, sym, true, ℕ}
use Rattle.dstm_core.proofs.Base.{Core, Event, OldWord, OwnerWord, StatusWord, and_parts, at, cases_Bool, cond_both, drawn, is_draw, local, ne_eqb, next_locator, own_attempt, res, word, write_of}
use Rattle.dstm_opacity.proofs.Base.{Install, Kind, Outside, Shape, Write}
use Rattle.dstm_core.proofs.Basic.{Names, basic, install_may, old_stays, owner_stays}
use Rattle.dstm_core.proofs.Columns.{Installed, objects, own_in, step}
use Rattle.dstm_core.proofs.Static.{static}
use Rattle.dstm_core.proofs.Statuses.{finished_step}
use Rattle.dstm_opacity.proofs.Draws.{committed_drawn, draw_may, drawn_phase, drawn_same, drawn_yes, is_drawn}
use Rattle.dstm_opacity.proofs.Mine.{meant_mine, mine, write_of-object, write_of-ok}
use Rattle.dstm_opacity.proofs.Recorded.{replaces}
use Rattle.dstm_opacity.proofs.Versions.{Named, by_abort, by_commit, by_zero, meant, meant_by, new_version, owner_of, version_at}
use Rattle.dstm_opacity.proofs.Written.{WriteOk, WritesOk, write_new, written}

-- which attempts commit, in a run that goes on from here
pub record Foretells (s : Shape) (will : ℕ → Bool) (es : List Event) : Type 0 where
  pub yes : (a : ℕ) → a < s.callers * s.attempts → word s es (StatusWord a) ≡ 4 → will a ≡ true
  pub none : (a : ℕ) → a < s.callers * s.attempts → word s es (StatusWord a) ≡ 5 → will a ≡ false

-- what foretells a run foretells its pasts
pub foretells_past : {s : Shape} {will : ℕ → Bool} (es : List Event) (e : Event) → Core s (e ∷ es) →
    Foretells s will (e ∷ es) → Foretells s will es
foretells_past {s = s} es e core f = record {
  yes = λ a lt h. f.yes a lt (finished_step s es e a core lt (omega arith) ∙ h);
  none = λ a lt h. f.none a lt (finished_step s es e a core lt (omega arith) ∙ h);
}

-- a version that a word names for good is the one that the word stands for
pub named_meant : {s : Shape} {will : ℕ → Bool} {es : List Event} {x v : ℕ} → Core s es → Foretells s will es →
    Named s es x v → meant s will es x ≡ v
named_meant core f (by_zero p q) = rw (p, q) refl
named_meant {s = s} {es = es} {x = x} core f (by_commit p u st q) =
    let b = ((basic s es core).owner (x - 1) u).begun.below in
    rw (
      ne_eqb x 0 (λ z. omega arith),
      f.yes (owner_of s es x) b st,
      committed_drawn s es core (owner_of s es x) b st,
      q,
    ) refl
named_meant {s = s} {es = es} {x = x} core f (by_abort p u st q) =
    let b = ((basic s es core).owner (x - 1) u).begun.below in
    rw (ne_eqb x 0 (λ z. omega arith), f.none (owner_of s es x) b st, q) refl

-- the same at two moments, where nothing that it reads has changed
pub meant_same : (s : Shape) (will : ℕ → Bool) (es : List Event) (e : Event) (x : ℕ) → Core s (e ∷ es) →
    Names s es x → (0 < x → will (owner_of s es x) ≡ true →
    drawn s (e ∷ es) (owner_of s es x) ≡ drawn s es (owner_of s es x)) → meant s will (e ∷ es) x ≡ meant s will es x
meant_same s will es e x core (inl n) h = rw n refl
meant_same s will es e x core (inr n) h = let o = owner_stays s es e (x - 1) (step s es e core) n.1 in
    let d = old_stays s es e (x - 1) (step s es e core) n.1 in
    ap (λ n. meant_by x (will n) (drawn s (e ∷ es) n) (word s (e ∷ es) (OldWord (x - 1)))) o
    ∙ drawn_part (will (owner_of s es x)) (word s (e ∷ es) (OldWord (x - 1))) (h n.0)
    ∙ ap (λ m. meant_by x (will (owner_of s es x)) (drawn s es (owner_of s es x)) m) d
  where
    drawn_part : (w : Bool) (m : ℕ) → (w ≡ true → drawn s (e ∷ es) (owner_of s es x) ≡ drawn s es (owner_of s es x)) →
        meant_by x w (drawn s (e ∷ es) (owner_of s es x)) m ≡ meant_by x w (drawn s es (owner_of s es x)) m
    drawn_part true m k = ap (λ b. meant_by x true b m) (k refl)
    drawn_part false m k = refl

-- a word whose owner is under way and has not drawn
pub meant_undrawn : (s : Shape) (will : ℕ → Bool) (es : List Event) (m : ℕ) →
    drawn s es (word s es (OwnerWord m)) ≡ false → meant s will es (m + 1) ≡ word s es (OldWord m)
meant_undrawn s will es m h = let less : m + 1 - 1 ≡ m = omega arith in
    ap (λ n. meant_by (m + 1) (will (word s es (OwnerWord n))) (drawn s es (word s es (OwnerWord n)))
    (word s es (OldWord n))) less
    ∙ ap (λ b. meant_by (m + 1) (will (word s es (OwnerWord m))) b (word s es (OldWord m))) h
    ∙ off (will (word s es (OwnerWord m))) (m + 1 == 0) (ne_eqb (m + 1) 0 (λ q. omega arith))
  where
    off : (w b : Bool) → b ≡ false →
        (if b then 0 else if w && false then m + 1 else word s es (OldWord m)) ≡ word s es (OldWord m)
    off true b q = rw q refl
    off false b q = rw q refl

-- a word whose owner commits and has drawn
pub meant_drawn : (s : Shape) (will : ℕ → Bool) (es : List Event) (m a : ℕ) → word s es (OwnerWord m) ≡ a →
    will a ≡ true → drawn s es a ≡ true → meant s will es (m + 1) ≡ m + 1
meant_drawn s will es m a q w d = let less : m + 1 - 1 ≡ m = omega arith in
    ap (λ n. meant_by (m + 1) (will (word s es (OwnerWord n))) (drawn s es (word s es (OwnerWord n)))
    (word s es (OldWord n))) less
    ∙ ap (λ n. meant_by (m + 1) (will n) (drawn s es n) (word s es (OldWord m))) q
    ∙ rw (ne_eqb (m + 1) 0 (λ q. omega arith), w, d) refl

-- the version that is current after an event that is no draw
pub version_quiet : (s : Shape) (will : ℕ → Bool) (es : List Event) (e : Event) (o : ℕ) →
    (is_draw e.kind ≡ true → will (own_attempt s (local s es e.caller)) ≡ true → ⊥) →
    version_at s will (e ∷ es) o ≡ version_at s will es o
version_quiet s will es e o h =
    cond_both (is_draw e.kind && will (own_attempt s (local s es e.caller))) _ (version_at s will es o)
    (λ n. n ≡ version_at s will es o)
    (λ q. let two = and_parts (is_draw e.kind) (will (own_attempt s (local s es e.caller))) q in
    absurd (h two.0 two.1)) (λ _. refl)

-- after the draw of an attempt that commits its writes are current
pub version_drawn : (s : Shape) (will : ℕ → Bool) (es : List Event) (e : Event) (o : ℕ) →
    is_draw e.kind ≡ true → will (own_attempt s (local s es e.caller)) ≡ true →
    version_at s will (e ∷ es) o ≡ new_version (write_of o (local s es e.caller).writes) (version_at s will es o)
version_drawn s will es e o d w = rw (d, w) refl

draw_not_install : {k : Kind} → is_draw k ≡ true → k ≡ Install → ⊥
draw_not_install {k = Install} d q = absurd (cc)
draw_not_install d q = absurd (cc)

current_step : {s : Shape} {will : ℕ → Bool} {es : List Event} (e : Event) → Core s (e ∷ es) →
    Foretells s will (e ∷ es) → (o : ℕ) → o < s.objects → Foretells s will es →
    version_at s will es o ≡ meant s will es (at es o) →
    version_at s will (e ∷ es) o ≡ meant s will (e ∷ es) (at (e ∷ es) o)
unfolding is_drawn
current_step {s = s} {will = will} {es = es} e core f o lt past ih =
    go (objects o (step s es e core) lt) (cases_Bool (is_draw e.kind))
    (cases_Bool (will (own_attempt s (local s es e.caller))))
  where
    -- the word stays, and no attempt that commits draws
    still : (at (e ∷ es) o ≡ at es o) →
        (is_draw e.kind ≡ true → will (own_attempt s (local s es e.caller)) ≡ true → ⊥) →
        version_at s will (e ∷ es) o ≡ meant s will (e ∷ es) (at (e ∷ es) o)
    still x n =
        version_quiet s will es e o n ∙ ih
        ∙ sym (meant_same s will es e (at es o) core ((basic s es core.0).object o lt)
        (λ p w. drawn_same s es e (owner_of s es (at es o)) (λ d q. n d (ap will q ∙ w))))
        ∙ ap (meant s will (e ∷ es)) (sym x)

    -- an Install puts a word whose old version is the current one
    put : Installed s es e o → version_at s will (e ∷ es) o ≡ meant s will (e ∷ es) (at (e ∷ es) o)
    put i = let ok = i.how.found ∙ sym i.how.expected in
        let r = replaces s es e core i.how.kind ok in
        let w = write_new s es e core i.how.kind ok in
        let may = install_may s (local s es e.caller) e i.how.kind core.1.allowed in
        let out : (local s es e.caller).phase ≢ Outside = λ z. let j = may.0 in cc in
        let none : drawn s (e ∷ es)
        (word s (e ∷ es) (OwnerWord (next_locator s (local s es e.caller)))) ≡ false = ap (drawn s (e ∷ es)) w.owner
        ∙ drawn_same s es e (own_attempt s (local s es e.caller)) (λ d q. draw_not_install d i.how.kind)
        ∙ drawn_phase s es core.0 e.caller core.1.caller out ∙ ap is_drawn may.0 in
        let v : meant s will es (res (local s es e.caller)).word ≡ word s es (OldWord (e.put - 1)) =
        named_meant core.0 past r.named in
        version_quiet s will es e o (λ d z. draw_not_install d i.how.kind) ∙ ih
        ∙ ap (meant s will es) i.was ∙ v ∙ r.old ∙ sym w.old
        ∙ sym (meant_undrawn s will (e ∷ es) (next_locator s (local s es e.caller)) none)
        ∙ ap (meant s will (e ∷ es)) (sym i.now)

    -- an attempt that commits draws
    draws : (at (e ∷ es) o ≡ at es o) → is_draw e.kind ≡ true → will (own_attempt s (local s es e.caller)) ≡ true →
        version_at s will (e ∷ es) o ≡ meant s will (e ∷ es) (at (e ∷ es) o)
    draws x d w = by_write (write_of o (local s es e.caller).writes) refl
      where
        out : (local s es e.caller).phase ≢ Outside
        out = λ z. let v = draw_may s (local s es e.caller) e e.kind d core.1.allowed in cc

        ok : WritesOk s es (own_attempt s (local s es e.caller)) (local s es e.caller).writes
        ok = written s es core.0 e.caller core.1.caller out

        at_word : (v : Write) → v.object ≡ o → WriteOk s es (own_attempt s (local s es e.caller)) v →
            (word s es (StatusWord (own_attempt s (local s es e.caller))) ≡ 5)
            ⊎ (at es v.object ≡ v.locator + 1) → v.locator + 1 ≡ meant s will (e ∷ es) (at (e ∷ es) o)
        at_word v q k (inl z) =
            let n = past.none (own_attempt s (local s es e.caller))
            (own_in s e.caller (local s es e.caller) (static s es core.0 e.caller) core.1.caller out) z in
            absurd (cc)
        at_word v q k (inr z) = let y : at (e ∷ es) o ≡ v.locator + 1 = x ∙ ap (at es) (sym q) ∙ z in
            sym (meant_drawn s will (e ∷ es) v.locator (own_attempt s (local s es e.caller))
            (owner_stays s es e v.locator (step s es e core) k.used ∙ k.owner) w (drawn_yes s es e d))
            ∙ ap (meant s will (e ∷ es)) (sym y)

        by_write : (m : Option Write) → write_of o (local s es e.caller).writes ≡ m →
            version_at s will (e ∷ es) o ≡ meant s will (e ∷ es) (at (e ∷ es) o)
        by_write None q =
            version_drawn s will es e o d w ∙ ap (λ m. new_version m (version_at s will es o)) q ∙ ih
            ∙ sym (meant_same s will es e (at es o) core ((basic s es core.0).object o lt)
            (λ p y. drawn_same s es e (owner_of s es (at es o)) (λ _ z. let i = meant_mine s es (local s es e.caller) o
            (mine s es core.0 e.caller core.1.caller out) lt p (sym z) in cc)))
            ∙ ap (meant s will (e ∷ es)) (sym x)
        by_write (Some v) q =
            let k = write_of-ok s es (own_attempt s (local s es e.caller)) o (local s es e.caller).writes v ok q in
            version_drawn s will es e o d w ∙ ap (λ m. new_version m (version_at s will es o)) q
            ∙ at_word v (write_of-object o (local s es e.caller).writes v q) k k.here

    go : (at (e ∷ es) o ≡ at es o) ⊎ Installed s es e o → (is_draw e.kind ≡ true) ⊎ (is_draw e.kind ≡ false) →
        (will (own_attempt s (local s es e.caller)) ≡ true) ⊎ (will (own_attempt s (local s es e.caller)) ≡ false) →
        version_at s will (e ∷ es) o ≡ meant s will (e ∷ es) (at (e ∷ es) o)
    go (inr i) d w = put i
    go (inl x) (inl d) (inl w) = draws x d w
    go (inl x) (inl d) (inr w) = still x (λ _ z. cc)
    go (inl x) (inr d) w = still x (λ z _. cc)

-- a word of an object stands for the version that is current
pub current : {s : Shape} {will : ℕ → Bool} {es : List Event} → Core s es → Foretells s will es → (o : ℕ) →
    o < s.objects → version_at s will es o ≡ meant s will es (at es o)
current {es = []} core f o lt = refl
current {es = (e ∷ es)} core f o lt =
    current_step e core f o lt (foretells_past es e core f) (current core.0 (foretells_past es e core f) o lt)
