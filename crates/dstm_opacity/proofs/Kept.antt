-- What an attempt has put and seen stays in every later run.
use Rattle.std.proofs.Common.{◌*◌, ◌++◌, ◌<◌, ◌∙◌, ◌∷◌, ◌≡◌, ◌≢◌, ◌⊎◌, List, [], ap, inl, inr, refl, subst, sym, true, ℕ}
use Rattle.dstm_core.proofs.Base.{HighWord, LowWord, AllowedAs, Core, Event, HasWord, LocalState, Val, Word, at, entry_of, is_draw, local, next_write, old_values, own_attempt, place, read_values, seen}
use Rattle.dstm_opacity.proofs.Base.{Draw, Kind, Outside, PutHigh, PutNew, Shape}
use Rattle.dstm_core.proofs.Columns.{Aims, ChangeOf, stays, step}
use Rattle.dstm_core.proofs.Places.{put_at}
use Rattle.dstm_core.proofs.Pasts.{core_past}
use Rattle.dstm_core.proofs.Stores.{high_word_once, new_word_once}
use Rattle.dstm_opacity.proofs.Draws.{draw_may, drawn_yes}
use Rattle.dstm_opacity.proofs.Recorded.{ReadsNamed, reads, reads_more}
use Rattle.dstm_opacity.proofs.Values.{WritesKept, entry_later, kept_from, kept_more, old_values_stay, read_values_stay}
use Rattle.dstm_opacity.proofs.Written.{written}

-- a kind that puts a part of new values, at the caller's next write, and each at most once
record PutsPart (s : Shape) (w : ℕ → Word) (k : Kind) : Type 0 where
  pub has : (m : ℕ) → m < s.callers * s.locators → HasWord s (w m)
  pub change : (l : LocalState) (e : Event) (m : ℕ) → ChangeOf (w m) s l e → Aims e k m (next_write l).locator
  pub aim : (l : LocalState) (e : Event) → AllowedAs k s l e →
      (e.place ≡ place s (w (next_write l).locator)) × ((next_write l).locator < s.callers * s.locators)
  pub once : (more es : List Event) (e d : Event) → Core s (e ∷ (more ++ d ∷ es)) → e.kind ≡ k → d.kind ≡ k →
      e.place ≢ d.place

-- so what was put stays
part_stays : {s : Shape} {w : ℕ → Word} {k : Kind} → PutsPart s w k → (more es : List Event) (d : Event) →
    Core s (more ++ d ∷ es) → d.kind ≡ k → at (more ++ d ∷ es) d.place ≡ d.put
part_stays part [] es d core q = put_at es d d.place refl
part_stays {s = s} {w = w} {k = k} part (e ∷ more) es d core q =
    ap (at (e ∷ (more ++ d ∷ es))) (aim es d q (core_past s more (d ∷ es) core.0).1.allowed).0
    ∙ stays (w (next_write (local s es d.caller)).locator) (step s (more ++ d ∷ es) e core)
    (part.has _ (aim es d q (core_past s more (d ∷ es) core.0).1.allowed).1) apart
    ∙ ap (at (more ++ d ∷ es)) (sym (aim es d q (core_past s more (d ∷ es) core.0).1.allowed).0)
    ∙ part_stays part more es d core.0 q
  where
    aim : (es : List Event) (d : Event) → d.kind ≡ k → AllowedAs d.kind s (local s es d.caller) d →
        (d.place ≡ place s (w (next_write (local s es d.caller)).locator))
        × ((next_write (local s es d.caller)).locator < s.callers * s.locators)
    aim es d q a = part.aim (local s es d.caller) d (subst (λ (k : Kind). AllowedAs k s (local s es d.caller) d) q a)

    apart : ChangeOf (w (next_write (local s es d.caller)).locator) s (local s (more ++ d ∷ es) e.caller) e → ⊥
    apart h = let x = part.change (local s (more ++ d ∷ es) e.caller) e _ h in
        part.once more es e d core x.kind q
        ((aim (more ++ d ∷ es) e x.kind core.1.allowed).0 ∙ ap (λ n. place s (w n)) (sym x.number)
        ∙ sym (aim es d q (core_past s more (d ∷ es) core.0).1.allowed).0)

-- of either part
pub put_stays : (s : Shape) (more es : List Event) (d : Event) → Core s (more ++ d ∷ es) →
    (d.kind ≡ PutHigh) ⊎ (d.kind ≡ PutNew) → at (more ++ d ∷ es) d.place ≡ d.put
put_stays s more es d core (inl k) = part_stays {s = s} {w = HighWord} {k = PutHigh}
    (record { has = λ m b. b; change = λ l e m h. h; aim = λ l e a. (a.0, a.3); once = high_word_once s })
    more es d core k
put_stays s more es d core (inr k) = part_stays {s = s} {w = LowWord} {k = PutNew}
    (record { has = λ m b. b; change = λ l e m h. h; aim = λ l e a. (a.0, a.3); once = new_word_once s })
    more es d core k

-- the values of what was read and replaced
seen_later : (s : Shape) (start : List Val) (more q : List Event) (own : ℕ) (l : LocalState) →
    Core s (more ++ q) → ReadsNamed s q l.reads → WritesKept s q own l.writes →
    (read_values s start (more ++ q) l.reads ≡ read_values s start q l.reads)
    × (old_values s start (more ++ q) l.writes ≡ old_values s start q l.writes)
    × ReadsNamed s (more ++ q) l.reads × WritesKept s (more ++ q) own l.writes
seen_later s start [] q own l core r w = (refl, refl, r, w)
seen_later s start (e ∷ more) q own l core r w =
    let ih = seen_later s start more q own l core.0 r w in (
      read_values_stay s start (more ++ q) e l.reads core ih.2 ∙ ih.0,
      old_values_stay s start (more ++ q) e own l.writes core ih.3 ∙ ih.1,
      reads_more s (more ++ q) e l.reads core ih.2,
      kept_more s (more ++ q) e own l.writes core ih.3,
    )

-- what was seen, in the order in which an entry has it
pub seen_stays : (s : Shape) (start : List Val) (more es : List Event) (c : ℕ) → Core s (more ++ es) →
    c < s.callers → (local s es c).phase ≢ Outside → seen s start (more ++ es) es c ≡ seen s start es es c
seen_stays s start more es c core lt out =
    let core_es = core_past s more es core in let own = own_attempt s (local s es c) in
    let x = seen_later s start more es own (local s es c) core (reads s es core_es c)
    (kept_from s es own (local s es c).writes (written s es core_es c lt out)) in
    ap (λ xs. xs ++ old_values s start (more ++ es) (local s es c).writes) x.0
    ∙ ap (λ xs. read_values s start es (local s es c).reads ++ xs) x.1

-- the entry of an attempt that has drawn
pub drawn_entry_stays : (s : Shape) (start : List Val) (more es : List Event) (d : Event) →
    Core s (more ++ d ∷ es) → d.kind ≡ Draw →
    entry_of s start (more ++ d ∷ es) (local s es d.caller) ≡ entry_of s start (d ∷ es) (local s es d.caller)
drawn_entry_stays s start more es d core k =
    (entry_later s start (d ∷ es) more (own_attempt s (local s es d.caller)) (local s es d.caller) core
    (drawn_yes s es d draws) (reads_more s es d (local s es d.caller).reads core_d (reads s es core_d.0 d.caller))
    (kept_more s es d (own_attempt s (local s es d.caller)) (local s es d.caller).writes core_d
    (kept_from s es (own_attempt s (local s es d.caller)) (local s es d.caller).writes
    (written s es core_d.0 d.caller core_d.1.caller out)))).0
  where
    core_d : Core s (d ∷ es)
    core_d = core_past s more (d ∷ es) core

    draws : is_draw d.kind ≡ true
    draws = ap is_draw k

    out : (local s es d.caller).phase ≢ Outside
    out = λ z. let v = draw_may s (local s es d.caller) d d.kind (ap is_draw k) core_d.1.allowed in cc
