-- The state after the entries of a history has the values of the current versions.
use Rattle.std.proofs.Common.{◌&&◌, ◌++◌, ◌+◌, ◌<◌, ◌==◌, ◌∙◌, ◌∷◌, ◌≡◌, ◌≢◌, ◌⊎◌, Bool, List, None, Option, Some, [], ap, arith, false, get_or-set_other, get_or-set_same, inl, inr, length, refl, slice_get, suc, sym, true, ℕ}
use Rattle.dstm_core.proofs.Base.{Agrees, Core, Event, LocalState, StatusWord, Val, at, cases_Bool, cases_eq, cond_both, drawn, drop_read, entry_of, eq-eqb, history, is_draw, local, ne_eqb, new_value, new_values, old_values, or_read, own_attempt, read_values, value_at, version_value, with_writes, word, write_of}
use Rattle.dstm_opacity.proofs.Base.{Read, Shape, Write}
use Rattle.dstm_model.proofs.Entries.{with_length}
use Rattle.dstm_machines.proofs.Orders.{map_after, state_length}
use Rattle.dstm_opacity.proofs.Current.{Foretells, current, meant_undrawn}
use Rattle.dstm_opacity.proofs.Recorded.{ReadsNamed}
use Rattle.dstm_opacity.proofs.Versions.{meant, version_at}
use Rattle.dstm_opacity.proofs.Written.{WritesOk}

written_value : Shape → List Event → Option Write → Val → Val
written_value s run None d = d
written_value s run (Some w) d = new_value s run w.locator

with_index : (s : Shape) (run : List Event) (ws : List Write) (m : List Val) (o : ℕ) → o < length m →
    value_at (with_writes m (new_values s run ws)) o ≡ written_value s run (write_of o ws) (value_at m o)
unfolding written_value
with_index s run [] m o h = refl
with_index s run (w ∷ ws) m o h = go (cases_eq w.object o) (with_index s run ws m o h)
  where
    long : o < length (with_writes m (new_values s run ws))
    long = rw (with_length (new_values s run ws) m) h

    go : (w.object ≡ o) ⊎ (w.object ≡ o → ⊥) →
        value_at (with_writes m (new_values s run ws)) o ≡ written_value s run (write_of o ws) (value_at m o) →
        value_at (with_writes m (new_values s run (w ∷ ws))) o ≡ written_value s run (write_of o (w ∷ ws))
        (value_at m o)
    go (inl q) ih = rw (q, eq-eqb o o refl, get_or-set_same, long) refl
    go (inr q) ih = let apart : o ≢ w.object = λ z. q (sym z) in rw (ne_eqb w.object o q, get_or-set_other) ih

-- the value of the current version is that of the state
pub state_value : (s : Shape) (start : List Val) (will : ℕ → Bool) (run es : List Event) (o : ℕ) → o < length start →
    value_at (map_after start (history s start will run es)) o ≡ version_value s start run o (version_at s will es o)
unfolding written_value
state_value s start will run [] o h = refl
state_value s start will run (e ∷ es) o h =
    go (cases_Bool (is_draw e.kind && will (own_attempt s (local s es e.caller))))
    (state_value s start will run es o h) (write_of o (local s es e.caller).writes) refl
  where
    long : o < length (map_after start (history s start will run es))
    long = rw (state_length (history s start will run es) start) h

    go : (is_draw e.kind && will (own_attempt s (local s es e.caller)) ≡ true)
        ⊎ (is_draw e.kind && will (own_attempt s (local s es e.caller)) ≡ false) →
        value_at (map_after start (history s start will run es)) o ≡ version_value s start run o
        (version_at s will es o) → (m : Option Write) → write_of o (local s es e.caller).writes ≡ m →
        value_at (map_after start (history s start will run (e ∷ es))) o ≡ version_value s start run o
        (version_at s will (e ∷ es) o)
    go (inl q) ih None w =
        rw q (with_index s run (local s es e.caller).writes
        (map_after start (history s start will run es)) o long ∙ rw w ih)
    go (inl q) ih (Some v) w =
        rw q (with_index s run (local s es e.caller).writes (map_after start (history s start will run es)) o long
        ∙ rw w (rw (ne_eqb (v.locator + 1) 0 (λ z. omega arith)) (ap (new_value s run) (omega arith))))
    go (inr q) ih m w = rw q ih

-- a read is of the version that is current
abbrev pub Cur : Shape → (ℕ → Bool) → List Event → Read → Type 0
Cur s will q r = version_at s will q r.object ≡ r.version

-- each of some reads is
abbrev pub Agreed : Shape → (ℕ → Bool) → List Event → List Read → Type 0
Agreed s will es [] = Unit {0}
Agreed s will es (r ∷ rs) = Cur s will es r × Agreed s will es rs

-- current reads without one of them
pub agreed_drop : (s : Shape) (will : ℕ → Bool) (es : List Event) (o : ℕ) (rs : List Read) →
    Agreed s will es rs → Agreed s will es (drop_read o rs)
agreed_drop s will es o [] h = tt
agreed_drop s will es o (r ∷ rs) h =
    cond_both (r.object == o) rs (r ∷ drop_read o rs) (Agreed s will es) (λ _. h.1)
    (λ _. (h.0, agreed_drop s will es o rs h.1))

-- and with one more
pub agreed_snoc : (s : Shape) (will : ℕ → Bool) (es : List Event) (rs : List Read) (r : Read) →
    Agreed s will es rs → Cur s will es r → Agreed s will es (rs ++ r ∷ [])
agreed_snoc s will es [] r h k = (k, tt)
agreed_snoc s will es (q ∷ rs) r h k = (h.0, agreed_snoc s will es rs r h.1 k)

-- reads that are current one by one
pub agreed_by_index : (s : Shape) (will : ℕ → Bool) (es : List Event) (rs : List Read) →
    ((i : ℕ) → i < length rs → Cur s will es (or_read (slice_get rs i))) → Agreed s will es rs
agreed_by_index s will es [] h = tt
agreed_by_index s will es (r ∷ rs) h =
    (h 0 (omega arith), agreed_by_index s will es rs (λ i lt. h (suc i) (omega arith)))

-- the old versions of some writes are current
abbrev pub AgreedOld : Shape → (ℕ → Bool) → List Event → List Write → Type 0
AgreedOld s will es [] = Unit {0}
AgreedOld s will es (w ∷ ws) = (version_at s will es w.object ≡ w.old) × AgreedOld s will es ws

agrees-append : (m : List Val) (xs ys : List (ℕ × Val)) → Agrees m xs → Agrees m ys → Agrees m (xs ++ ys)
agrees-append m [] ys h k = k
agrees-append m (x ∷ xs) ys h k = (h.0, agrees-append m xs ys h.1 k)

agrees_reads : (s : Shape) (start : List Val) (will : ℕ → Bool) (run es q : List Event) (rs : List Read) →
    length start ≡ s.objects → ReadsNamed s q rs → Agreed s will es rs →
    Agrees (map_after start (history s start will run es)) (read_values s start run rs)
agrees_reads s start will run es q [] l n h = tt
agrees_reads s start will run es q (r ∷ rs) l n h = let b = n.0 in (
  state_value s start will run es r.object (omega arith) ∙ ap (version_value s start run r.object) h.0,
  agrees_reads s start will run es q rs l n.2 h.1,
)

agrees_old : (s : Shape) (start : List Val) (will : ℕ → Bool) (run es q : List Event) (own : ℕ)
    (ws : List Write) → length start ≡ s.objects → WritesOk s q own ws → AgreedOld s will es ws →
    Agrees (map_after start (history s start will run es)) (old_values s start run ws)
agrees_old s start will run es q own [] l n h = tt
agrees_old s start will run es q own (w ∷ ws) l n h = let b = n.0.object in (
  state_value s start will run es w.object (omega arith) ∙ ap (version_value s start run w.object) h.0,
  agrees_old s start will run es q own ws l n.1 h.1,
)

-- what is read agrees with the state, where each version is the current one
pub agrees_state : (s : Shape) (start : List Val) (will : ℕ → Bool) (run es q : List Event) (own : ℕ) (l : LocalState) →
    length start ≡ s.objects → ReadsNamed s q l.reads → WritesOk s q own l.writes → Agreed s will es l.reads →
    AgreedOld s will es l.writes → Agrees (map_after start (history s start will run es)) (entry_of s start run l).reads
agrees_state s start will run es q own l n r w a b =
    agrees-append _ _ _ (agrees_reads s start will run es q l.reads n r a)
    (agrees_old s start will run es q own l.writes n w b)

-- the old versions of the objects written are current until the draw
pub old_current : {s : Shape} {will : ℕ → Bool} {es : List Event} (own : ℕ) (ws : List Write) → Core s es →
    Foretells s will es → drawn s es own ≡ false → (word s es (StatusWord own) ≡ 5 → ⊥) → WritesOk s es own ws →
    AgreedOld s will es ws
old_current own [] core f d live k = tt
old_current {s = s} {will = will} {es = es} own (w ∷ ws) core f d live k =
    (go k.0.here, old_current own ws core f d live k.1)
  where
    go : (word s es (StatusWord own) ≡ 5) ⊎ (at es w.object ≡ w.locator + 1) → version_at s will es w.object ≡ w.old
    go (inl x) = absurd (live x)
    go (inr x) =
        current core f w.object k.0.object ∙ ap (meant s will es) x
        ∙ meant_undrawn s will es w.locator (ap (drawn s es) k.0.owner ∙ d) ∙ k.0.old
