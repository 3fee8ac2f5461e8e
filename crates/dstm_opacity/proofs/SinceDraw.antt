-- What an attempt has shown since its draw: where it commits, all that it read was current at the draw.
use Rattle.std.proofs.Common.{◌*◌, ◌++◌, ◌<◌, ◌∙◌, ◌∷◌, ◌≡◌, ◌⊎◌, Bool, List, Some, [], ap, append_assoc, arith, false, inl, inr, length, refl, slice_get, subst, sym, true, ℕ}
use Rattle.dstm_core.proofs.Base.{AllowedAs, Core, Event, IsPastOf, LocalState, MayRank, NumbersWord, StatusWord, after, at, cases_eq, eq-eqb, given, is_draw, local, or_read, own_attempt, place, will_of, word}
use Rattle.dstm_opacity.proofs.Base.{Check, Commit, Draw, Drawn, Enrol, Kind, LookStatus, PutHigh, Quit, Rank, Shape, Stamp, ToValidating}
use Rattle.dstm_core.proofs.Columns.{exchanged, own_in}
use Rattle.dstm_core.proofs.Places.{put_at}
use Rattle.dstm_core.proofs.Static.{Static, local_other, local_own, static}
use Rattle.dstm_core.proofs.Pasts.{core_past}
use Rattle.dstm_core.proofs.Statuses.{OwnStatus, finished_step, own_status}
use Rattle.dstm_opacity.proofs.Current.{Foretells, foretells_past}
use Rattle.dstm_opacity.proofs.Draws.{draw_may}
use Rattle.dstm_opacity.proofs.Passes.{AfterCheck, check_after, check_more, passes}
use Rattle.dstm_opacity.proofs.Recorded.{ReadsNamed, reads}
use Rattle.dstm_opacity.proofs.Sights.{foretold, will_is}
use Rattle.dstm_opacity.proofs.States.{Agreed, Cur, agreed_by_index}

-- what a caller that has drawn has shown since its draw at q
record SinceDraw (s : Shape) (will : ℕ → Bool) (q : List Event) (c : ℕ) (l : LocalState) : Type 0 where
  phase : l.phase ≡ Drawn
  own : own_attempt s l ≡ own_attempt s (local s q c)
  reads : l.reads ≡ (local s q c).reads
  checked : l.stale ≡ false → (i : ℕ) → i < l.checked → Cur s will q (or_read (slice_get l.reads i))
  same : l.last_pass ≡ l.drawn → Agreed s will q (local s q c).reads

-- after its draw an attempt is still drawn, or has shown all, or is aborted
data DrawState (s : Shape) (will : ℕ → Bool) (q : List Event) (c : ℕ) (es : List Event) : Type 0 where
  since : SinceDraw s will q c (local s es c) → DrawState s will q c es
  shown : Agreed s will q (local s q c).reads → DrawState s will q c es
  dead : word s es (StatusWord (own_attempt s (local s q c))) ≡ 5 → DrawState s will q c es

-- what an attempt that has drawn may do
pub drawn_may : (s : Shape) (c : ℕ) (l : LocalState) (e : Event) (k : Kind) → Static s c l → l.phase ≡ Drawn →
    AllowedAs k s l e → (k ≡ Check) ⊎ ((k ≡ Commit) ⊎ (k ≡ Quit))
drawn_may s c l e Check t p a = inl refl
drawn_may s c l e Commit t p a = inr (inl refl)
drawn_may s c l e Quit t p a = inr (inr refl)
drawn_may s c l e Enrol t p a = absurd (let x = t.active in grind arith)
drawn_may s c l e PutHigh t p a = absurd (grind arith)
drawn_may s c l e LookStatus t p a = absurd (grind arith)
drawn_may s c l e Rank t p a = absurd (subst (λ x. MayRank x s l e.put) p a.2)
drawn_may s c l e Stamp t p a = absurd (let y = a.2.0 in cc)
drawn_may s c l e ToValidating t p a = absurd (grind arith)
drawn_may s c l e k t p a = absurd (cc)

commit_needs : (s : Shape) (l : LocalState) (e : Event) {k : Kind} → k ≡ Commit → AllowedAs k s l e →
    (l.stale ≡ false) × ((l.checked ≡ length l.reads) ⊎ (l.last_pass ≡ l.drawn))
commit_needs s l e {k = Commit} q a = (a.2.1, a.2.2)
commit_needs s l e q a = absurd (cc)

check_needs : (s : Shape) (l : LocalState) (e : Event) {k : Kind} → k ≡ Check → AllowedAs k s l e →
    (l.stale ≡ false) × (l.checked < length l.reads)
check_needs s l e {k = Check} q a = (a.2.1, a.2.2)
check_needs s l e q a = absurd (cc)

quit_puts : (s : Shape) (l : LocalState) (e : Event) {k : Kind} → k ≡ Quit → AllowedAs k s l e →
    (e.place ≡ place s (StatusWord (own_attempt s l))) × (e.found ≡ given l.phase → e.put ≡ 5)
    × ((e.put ≡ 5) ⊎ (e.put ≡ e.found))
quit_puts s l e {k = Quit} q a = (
  a.0,
  (λ h. a.1.1 ∙ rw (eq-eqb e.found (given l.phase) h) refl),
  go (exchanged e.found (given l.phase) 5 e.put a.1.1),
)
  where
    go : (e.put ≡ e.found) ⊎ ((e.found ≡ given l.phase) × (e.put ≡ 5)) → (e.put ≡ 5) ⊎ (e.put ≡ e.found)
    go (inl x) = inr x
    go (inr x) = inl x.1
quit_puts s l e q a = absurd (cc)

draw_after : (s : Shape) (l : LocalState) (e : Event) (k : Kind) → is_draw k ≡ true → AllowedAs k s l e →
    ((after k s l e).phase ≡ Drawn) × (own_attempt s (after k s l e) ≡ own_attempt s l)
    × ((after k s l e).reads ≡ l.reads) × ((after k s l e).checked ≡ 0)
    × ((after k s l e).last_pass ≡ l.last_pass) × ((after k s l e).drawn ≡ Some e.found)
    × (e.place ≡ place s NumbersWord)
draw_after s l e Draw q a = (refl, refl, refl, refl, refl, refl, a.0)
draw_after s l e k q a = absurd (cc)

draw_begins : {s : Shape} {will : ℕ → Bool} {q : List Event} (d : Event) → Core s (d ∷ q) → Foretells s will q →
    is_draw d.kind ≡ true → SinceDraw s will q d.caller (after d.kind s (local s q d.caller) d)
draw_begins {s = s} {q = q} d core f k = let x = draw_after s (local s q d.caller) d d.kind k core.1.allowed in
    record {
      phase = x.0;
      own = x.1;
      reads = x.2;
      checked = λ _ i lt. absurd (let y = x.3 in omega arith);
      same = λ z. (passes core.0 f d.caller).0.reads (word s q NumbersWord)
          (sym x.4 ∙ z ∙ x.5 ∙ ap Some (core.1.linked ∙ ap (at q) x.6)) refl;
    }

draw_own : {s : Shape} {will : ℕ → Bool} {q : List Event} (es : List Event) (e : Event) → IsPastOf q es →
    Core s (e ∷ es) → Foretells s will (e ∷ es) → own_attempt s (local s q e.caller) < s.callers * s.attempts →
    ReadsNamed s q (local s q e.caller).reads → SinceDraw s will q e.caller (local s es e.caller) →
    (e.kind ≡ Check) ⊎ ((e.kind ≡ Commit) ⊎ (e.kind ≡ Quit)) → DrawState s will q e.caller (e ∷ es)
draw_own {s = s} {will = will} {q = q} es e p core f inn named d (inr (inl k)) =
    shown (rw (← d.reads) (go (commit_needs s (local s es e.caller) e k core.1.allowed)))
  where
    go : ((local s es e.caller).stale ≡ false)
        × (((local s es e.caller).checked ≡ length (local s es e.caller).reads)
        ⊎ ((local s es e.caller).last_pass ≡ (local s es e.caller).drawn)) → Agreed s will q (local s es e.caller).reads
    go x = how x.0 x.1
      where
        how : (local s es e.caller).stale ≡ false →
            ((local s es e.caller).checked ≡ length (local s es e.caller).reads)
            ⊎ ((local s es e.caller).last_pass ≡ (local s es e.caller).drawn) →
            Agreed s will q (local s es e.caller).reads
        how st (inl y) = agreed_by_index s will q (local s es e.caller).reads (λ i lt. d.checked st i (omega arith))
        how st (inr y) = rw d.reads (d.same y)
draw_own {s = s} {q = q} es e p core f inn named d (inr (inr k)) =
    dead (go (quit_puts s (local s es e.caller) e k core.1.allowed))
  where
    status_now : e.place ≡ place s (StatusWord (own_attempt s (local s es e.caller))) →
        word s (e ∷ es) (StatusWord (own_attempt s (local s q e.caller))) ≡ e.put
    status_now z = rw (← d.own) (put_at es e _ z)

    go : (e.place ≡ place s (StatusWord (own_attempt s (local s es e.caller))))
        × (e.found ≡ given (local s es e.caller).phase → e.put ≡ 5) × ((e.put ≡ 5) ⊎ (e.put ≡ e.found)) →
        word s (e ∷ es) (StatusWord (own_attempt s (local s q e.caller))) ≡ 5
    go x = status_now x.0 ∙ how x.2 (own_status s es core.0 e.caller core.1.caller (λ z. let y = d.phase in cc))
      where
        was : e.found ≡ word s es (StatusWord (own_attempt s (local s es e.caller)))
        was = core.1.linked ∙ ap (at es) x.0

        how : (e.put ≡ 5) ⊎ (e.put ≡ e.found) →
            (word s es (StatusWord (own_attempt s (local s es e.caller))) ≡ given (local s es e.caller).phase)
            ⊎ (word s es (StatusWord (own_attempt s (local s es e.caller))) ≡ 5) → e.put ≡ 5
        how (inl y) z = y
        how (inr y) (inr z) = y ∙ was ∙ z
        how (inr y) (inl z) = x.1 (was ∙ z)
draw_own {s = s} {will = will} {q = q} es e p core f inn named d (inl k) =
    since (rw (local_own s es e) (go (check_after s (local s es e.caller) e k core.1.allowed)))
  where
    go : AfterCheck s (local s es e.caller) e e.kind →
        SinceDraw s will q e.caller (after e.kind s (local s es e.caller) e)
    go x = record {
      phase = x.10 ∙ d.phase;
      own = x.6 ∙ d.own;
      reads = x.2 ∙ d.reads;
      checked = λ ns i y. rw x.2
          (check_more q es e p core f (local s es e.caller) named_now st.1 (d.checked st.0) x.3 (sym x.1 ∙ ns) i
          (rw x.0 at y));
      same = λ z. d.same (sym x.7 ∙ z ∙ x.11);
    }
      where
        st : ((local s es e.caller).stale ≡ false)
            × ((local s es e.caller).checked < length (local s es e.caller).reads)
        st = check_needs s (local s es e.caller) e k core.1.allowed

        named_now : ReadsNamed s q (local s es e.caller).reads
        named_now = rw d.reads named

draw_step : {s : Shape} {will : ℕ → Bool} {q : List Event} {c : ℕ} {es : List Event} (e : Event) → IsPastOf q es →
    Core s (e ∷ es) → Foretells s will (e ∷ es) → c < s.callers → own_attempt s (local s q c) < s.callers * s.attempts →
    ReadsNamed s q (local s q c).reads → DrawState s will q c es → DrawState s will q c (e ∷ es)
draw_step e p core f lt inn named (shown a) = shown a
draw_step {s = s} {q = q} {c = c} {es = es} e p core f lt inn named (dead z) =
    dead (finished_step s es e (own_attempt s (local s q c)) core inn (omega arith) ∙ z)
draw_step {s = s} {will = will} {q = q} {c = c} {es = es} e p core f lt inn named (since d) = go (cases_eq e.caller c)
  where
    by_kind : e.caller ≡ c → (e.kind ≡ Check) ⊎ ((e.kind ≡ Commit) ⊎ (e.kind ≡ Quit)) →
        SinceDraw s will q e.caller (local s es e.caller) → DrawState s will q e.caller (e ∷ es)
    by_kind same k d =
        draw_own es e p core f (subst (λ n. own_attempt s (local s q n) < s.callers * s.attempts) (sym same) inn)
        (subst (λ n. ReadsNamed s q (local s q n).reads) (sym same) named) d k

    go : (e.caller ≡ c) ⊎ (e.caller ≡ c → ⊥) → DrawState s will q c (e ∷ es)
    go (inl h) =
        subst (λ n. DrawState s will q n (e ∷ es)) h (by_kind h
        (drawn_may s e.caller (local s es e.caller) e e.kind (static s es core.0 e.caller)
        (subst (λ n. (local s es n).phase ≡ Drawn) (sym h) d.phase) core.1.allowed)
        (subst (λ n. SinceDraw s will q n (local s es n)) (sym h) d))
    go (inr h) = since (rw (local_other s es e c h) d)

draw_later : {s : Shape} {will : ℕ → Bool} (q : List Event) (d : Event) (more : List Event) → Core s (more ++ d ∷ q) →
    Foretells s will (more ++ d ∷ q) → is_draw d.kind ≡ true → DrawState s will q d.caller (more ++ d ∷ q)
draw_later {s = s} q d [] core f k = since (rw (local_own s q d) (draw_begins d core (foretells_past q d core f) k))
draw_later {s = s} q d (e ∷ more) core f k = let core_d = core_past s more (d ∷ q) core.0 in
    let v = draw_may s (local s q d.caller) d d.kind k core_d.1.allowed in
    draw_step e (record { later = more ++ d ∷ []; whole = append_assoc more (d ∷ []) q }) core f core_d.1.caller
    (own_in s d.caller (local s q d.caller) (static s q core_d.0 d.caller) core_d.1.caller (λ z. cc))
    (reads s q core_d.0 d.caller) (draw_later q d more core.0 (foretells_past (more ++ d ∷ q) e core f) k)

-- an attempt that commits has read what was current at its draw
pub draw_agreed : (s : Shape) (q : List Event) (d : Event) (more : List Event) → Core s (more ++ d ∷ q) →
    is_draw d.kind ≡ true → will_of s (more ++ d ∷ q) (own_attempt s (local s q d.caller)) ≡ true →
    Agreed s (will_of s (more ++ d ∷ q)) q (local s q d.caller).reads
draw_agreed s q d more core k w = go (draw_later q d more core (foretold s (more ++ d ∷ q)) k)
  where
    done : word s (more ++ d ∷ q) (StatusWord (own_attempt s (local s q d.caller))) ≡ 4
    done = will_is s (more ++ d ∷ q) (own_attempt s (local s q d.caller)) w

    open_end : SinceDraw s (will_of s (more ++ d ∷ q)) q d.caller (local s (more ++ d ∷ q) d.caller) →
        OwnStatus s (more ++ d ∷ q) (local s (more ++ d ∷ q) d.caller) → ⊥
    open_end x (inl z) = let g : given (local s (more ++ d ∷ q) d.caller).phase ≡ 3 = ap given x.phase in
        let y = ap (λ a. word s (more ++ d ∷ q) (StatusWord a)) x.own in let e' = done in omega arith
    open_end x (inr z) = let y = ap (λ a. word s (more ++ d ∷ q) (StatusWord a)) x.own in let e' = done in
        omega arith

    go : DrawState s (will_of s (more ++ d ∷ q)) q d.caller (more ++ d ∷ q) →
        Agreed s (will_of s (more ++ d ∷ q)) q (local s q d.caller).reads
    go (shown a) = a
    go (dead z) = let e' = done in absurd (omega arith)
    go (since x) =
        absurd (open_end x (own_status s (more ++ d ∷ q) core d.caller (core_past s more (d ∷ q) core).1.caller
        (λ z. let y = x.phase in cc)))
