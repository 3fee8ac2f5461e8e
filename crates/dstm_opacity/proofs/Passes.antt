-- What a pass has shown: the reads that it covers were current at its place.
use Rattle.std.proofs.Common.{◌&&◌, ◌+◌, ◌<◌, ◌==◌, ◌∙◌, ◌∷◌, ◌≡◌, ◌≢◌, ◌≤◌, ◌⊎◌, Bool, List, None, Some, [], ap, arith, false, inl, inr, length, not, refl, slice_get, subst, suc, sym, true, zero, ℕ}
use Rattle.dstm_core.proofs.Base.{AllowedAs, Core, Event, IsPastOf, LocalState, NumbersWord, after, and_parts, at, cases_Bool, cases_lt, cond_both, eq-eqb, eqb-true, given, is_draw, is_look_number, keep_resolved, local, ne_eqb, next_read, not-false, or_read, own_attempt, pass_place, place, record_resolved, word}
use Rattle.dstm_opacity.proofs.Base.{Check, Commit, Draw, Enrol, Install, Kind, LookNumber, LookSelf, Outside, Pause, Paused, PutNew, Quit, Read, Resume, Running, Shape, Stamp, ToValidating, Validating}
use Rattle.dstm_core.proofs.Basic.{Names, ResBasic, basic}
use Rattle.dstm_core.proofs.Static.{Static, callers, static}
use Rattle.dstm_opacity.proofs.Current.{Foretells, current, foretells_past, named_meant}
use Rattle.dstm_opacity.proofs.Draws.{drawn_phase, is_drawn}
use Rattle.dstm_opacity.proofs.LastPass.{LastOk, PassHas, PassOk, agreed_record, kept_recorded, last_other, last_own}
use Rattle.dstm_core.proofs.Pasts.{core_before}
use Rattle.dstm_opacity.proofs.Numbers.{foretells_before, no_return_past, pass_past}
use Rattle.dstm_opacity.proofs.Recorded.{ReadsNamed, reads, reads_record}
use Rattle.dstm_opacity.proofs.States.{Cur}
use Rattle.dstm_opacity.proofs.Versions.{Named, ResSeen, by_abort, by_commit, by_zero, meant, res_seen}
use Rattle.dstm_opacity.proofs.Written.{written}

-- how a pass comes to be begun
pub data PassHow (l : LocalState) (e : Event) (k : Kind) (n : ℕ) : Type 0 where
  by_look : k ≡ LookNumber → l.phase ≡ Running → e.found ≡ n → PassHow l e k n
  by_check : k ≡ Check → l.phase ≡ Running → l.pass ≡ Some n → l.checked < length l.reads → l.stale ≡ false →
      PassHow l e k n

-- a pass is begun by a LookNumber, and kept by a Check
pub pass_how : (s : Shape) (c : ℕ) (l : LocalState) (e : Event) (k : Kind) (n : ℕ) → Static s c l →
    AllowedAs k s l e → (after k s l e).phase ≡ Running → (after k s l e).pass ≡ Some n → PassHow l e k n
pass_how s c l e Enrol n t a r p = absurd (let x = t.active in grind arith)
pass_how s c l e LookNumber n t a r p = by_look refl a.2.0 (cc)
pass_how s c l e Check n t a r p = by_check refl r p a.2.2 a.2.1
pass_how s c l e Install n t a r p = absurd (go (cases_Bool (e.found == e.expected)))
  where
    go : (e.found == e.expected ≡ true) ⊎ (e.found == e.expected ≡ false) → ⊥
    go (inl z) = let y : None ≡ Some n = rw z at p in cc
    go (inr z) = let y : None ≡ Some n = rw z at p in cc
pass_how s c l e LookSelf n t a r p = absurd (go (cases_Bool (e.found == given l.phase)))
  where
    go : (e.found == given l.phase ≡ true) ⊎ (e.found == given l.phase ≡ false) → ⊥
    go (inl z) = let y : None ≡ Some n = rw z at p in cc
    go (inr z) = let y : Outside ≡ Running = rw z at r in cc
pass_how s c l e ToValidating n t a r p = absurd (go (cases_Bool (e.found == 1)))
  where
    go : (e.found == 1 ≡ true) ⊎ (e.found == 1 ≡ false) → ⊥
    go (inl z) = let y : Validating ≡ Running = rw z at r in cc
    go (inr z) = let y : Outside ≡ Running = rw z at r in cc
pass_how s c l e Pause n t a r p = absurd (go (cases_Bool (e.found == 1)))
  where
    go : (e.found == 1 ≡ true) ⊎ (e.found == 1 ≡ false) → ⊥
    go (inl z) = let y : Paused ≡ Running = rw z at r in cc
    go (inr z) = let y : Outside ≡ Running = rw z at r in cc
pass_how s c l e Resume n t a r p = absurd (go (cases_Bool (e.found == 2)))
  where
    go : (e.found == 2 ≡ true) ⊎ (e.found == 2 ≡ false) → ⊥
    go (inl z) = let y : None ≡ Some n = rw z at p in cc
    go (inr z) = let y : Outside ≡ Running = rw z at r in cc
pass_how s c l e Stamp n t a r p = absurd (let y = a.2.0 in cc)
pass_how s c l e PutNew n t a r p = absurd (cc)
pass_how s c l e Draw n t a r p = absurd (cc)
pass_how s c l e Commit n t a r p = absurd (cc)
pass_how s c l e Quit n t a r p = absurd (cc)
pass_how s c l e k n t a r p = absurd (cc)

-- a word that names a version is a word of an object
pub named_names : {s : Shape} {es : List Event} {x v : ℕ} → Named s es x v → Names s es x
named_names (by_zero p q) = inl p
named_names (by_commit p u st q) = inr (p, u)
named_names (by_abort p u st q) = inr (p, u)

-- one of the reads
pub reads_at : (s : Shape) (es : List Event) (rs : List Read) (i : ℕ) → ReadsNamed s es rs → i < length rs →
    ((or_read (slice_get rs i)).object < s.objects)
    × Named s es (or_read (slice_get rs i)).word (or_read (slice_get rs i)).version
reads_at s es [] i h lt = absurd (omega arith)
reads_at s es (r ∷ rs) zero h lt = (h.0, h.1)
reads_at s es (r ∷ rs) (suc i) h lt = reads_at s es rs i h.2 (omega arith)

-- a check that finds the recorded word shows that the version was current at q
pub check_shows : {s : Shape} {will : ℕ → Bool} {q es : List Event} (r : Read) → IsPastOf q es → Core s es →
    Foretells s will es → r.object < s.objects → Named s q r.word r.version → at es r.object ≡ r.word → Cur s will q r
check_shows {s = s} {will = will} {q = q} {es = es} r p core f b n w = let core_q = core_before s q es p core in
    let f_q = foretells_before q p core f in
    let back : at q r.object ≡ r.word = no_return_past s q es r.object r.word p core b (named_names n) w in
    current core_q f_q r.object b ∙ ap (meant s will q) back
    ∙ named_meant core_q f_q n

-- so it does for one read more than were checked
pub check_more : {s : Shape} {will : ℕ → Bool} (q es : List Event) (e : Event) → IsPastOf q es → Core s (e ∷ es) →
    Foretells s will (e ∷ es) → (l : LocalState) → ReadsNamed s q l.reads → l.checked < length l.reads →
    ((i : ℕ) → i < l.checked → Cur s will q (or_read (slice_get l.reads i))) →
    e.place ≡ (next_read l).object → not (e.found == (next_read l).word) ≡ false → (i : ℕ) → i < l.checked + 1 →
    Cur s will q (or_read (slice_get l.reads i))
check_more {s = s} {will = will} q es e p core f l named lt checked place ns i y = go (cases_lt i l.checked)
  where
    one : Cur s will q (next_read l)
    one = let at_r = reads_at s q l.reads l.checked named lt in
        check_shows (next_read l) p core.0 (foretells_past es e core f) at_r.0 at_r.1
        (sym (ap (at es) place) ∙ sym core.1.linked ∙ eqb-true e.found (next_read l).word (not-false _ ns))

    go : (i < l.checked) ⊎ (l.checked ≤ i) → Cur s will q (or_read (slice_get l.reads i))
    go (inl z) = checked i z
    go (inr z) = let same : l.checked ≡ i = omega arith in
        subst (λ j. Cur s will q (or_read (slice_get l.reads j))) same one

-- what a Check leaves of its caller's state
abbrev pub AfterCheck : Shape → LocalState → Event → Kind → Type 0
AfterCheck s l e k =
    ((after k s l e).checked ≡ l.checked + 1) × ((after k s l e).stale ≡ not (e.found == (next_read l).word))
    × ((after k s l e).reads ≡ l.reads) × (e.place ≡ (next_read l).object)
    × ((after k s l e).resolution ≡ l.resolution) × ((after k s l e).writes ≡ l.writes)
    × (own_attempt s (after k s l e) ≡ own_attempt s l) × ((after k s l e).last_pass ≡ l.last_pass)
    × (is_look_number k ≡ false) × (is_draw k ≡ false) × ((after k s l e).phase ≡ l.phase)
    × ((after k s l e).drawn ≡ l.drawn)

pub check_after : (s : Shape) (l : LocalState) (e : Event) {k : Kind} → k ≡ Check → AllowedAs k s l e →
    AfterCheck s l e k
check_after s l e {k = Check} q a = (refl, refl, refl, a.0, refl, refl, refl, refl, refl, refl, refl, refl)
check_after s l e q a = absurd (cc)

look_after : (s : Shape) (l : LocalState) (e : Event) {k : Kind} → k ≡ LookNumber → AllowedAs k s l e →
    ((after k s l e).checked ≡ 0) × ((after k s l e).reads ≡ record_resolved l.resolution l.reads)
    × (e.place ≡ place s NumbersWord) × ((after k s l e).resolution ≡ keep_resolved l.resolution)
    × ((after k s l e).writes ≡ l.writes) × (own_attempt s (after k s l e) ≡ own_attempt s l)
    × ((after k s l e).last_pass ≡ l.last_pass) × (is_look_number k ≡ true)
look_after s l e {k = LookNumber} q a = (refl, refl, a.0, refl, refl, refl, refl, refl)
look_after s l e q a = absurd (cc)

-- events that are no LookNumber keep the place of a pass
pub place_keeps : (c : ℕ) (es : List Event) (e : Event) → is_look_number e.kind ≡ false →
    pass_place c (e ∷ es) ≡ pass_place c es
place_keeps c es e h =
    cond_both ((e.caller == c) && is_look_number e.kind) es (pass_place c es) (λ q. q ≡ pass_place c es)
    (λ z. let two = and_parts (e.caller == c) (is_look_number e.kind) z in let y = two.1 in absurd (cc)) (λ _. refl)

-- a LookNumber makes it the present place
pub place_new : (es : List Event) (e : Event) → is_look_number e.kind ≡ true → pass_place e.caller (e ∷ es) ≡ es
place_new es e h = rw (eq-eqb e.caller e.caller refl, h) refl

pass_own : {s : Shape} {will : ℕ → Bool} {es : List Event} {e : Event} → Core s (e ∷ es) →
    Foretells s will (e ∷ es) → LastOk s will es (local s es e.caller) →
    PassOk s will es e.caller (local s es e.caller) → {n : ℕ} → PassHow (local s es e.caller) e e.kind n →
    PassHas s will (pass_place e.caller (e ∷ es)) (after e.kind s (local s es e.caller) e) n
unfolding is_drawn
pass_own {s = s} {will = will} {es = es} {e = e} core f h p {n = n} (by_look k r m) = rw (place_new es e x.7) (record {
  number = sym (ap (at es) x.2) ∙ sym core.1.linked ∙ m;
  named = rw x.1
      (reads_record s es l.resolution l.reads (static s es core.0 e.caller).object basics known
      (reads s es core.0 e.caller));
  checked = λ _ i lt. absurd (let y = x.0 in omega arith);
  same = λ q. let q' = sym x.6 ∙ q in
      let m' : n ≡ word s es NumbersWord = sym m ∙ core.1.linked ∙ ap (at es) x.2 in
      rw x.1 (agreed_record core.0 past l.resolution l.reads basics known (h.reads n q' m') (h.res n q' m'));
  recorded = λ r q y. kept_recorded l.resolution l.reads r (sym x.3 ∙ q) (rw x.1 at y);
  writes = rw (x.5, x.4) (written s es core.0 e.caller core.1.caller out);
  undrawn = rw x.5 (drawn_phase s es core.0 e.caller core.1.caller out ∙ ap is_drawn r);
})
  where
    l : LocalState
    l = local s es e.caller

    x : ((after e.kind s (local s es e.caller) e).checked ≡ 0)
        × ((after e.kind s (local s es e.caller) e).reads ≡ record_resolved (local s es e.caller).resolution
        (local s es e.caller).reads) × (e.place ≡ place s NumbersWord)
        × ((after e.kind s (local s es e.caller) e).resolution ≡ keep_resolved (local s es e.caller).resolution)
        × ((after e.kind s (local s es e.caller) e).writes ≡ (local s es e.caller).writes)
        × (own_attempt s (after e.kind s (local s es e.caller) e) ≡ own_attempt s (local s es e.caller))
        × ((after e.kind s (local s es e.caller) e).last_pass ≡ (local s es e.caller).last_pass)
        × (is_look_number e.kind ≡ true)
    x = look_after s (local s es e.caller) e k core.1.allowed

    basics : ResBasic s es (local s es e.caller).resolution
    basics = (basic s es core.0).res e.caller

    known : ResSeen s es (local s es e.caller).resolution
    known = res_seen s es core.0 e.caller

    past : Foretells s will es
    past = foretells_past es e core f

    out : (local s es e.caller).phase ≢ Outside
    out = λ z. cc
pass_own {s = s} {will = will} {es = es} {e = e} core f h p {n = n} (by_check k r m lt st) =
    go (check_after s (local s es e.caller) e k core.1.allowed) (p n r m)
  where
    go : AfterCheck s (local s es e.caller) e e.kind → PassHas s will (pass_place e.caller es) (local s es e.caller) n →
        PassHas s will (pass_place e.caller (e ∷ es)) (after e.kind s (local s es e.caller) e) n
    go x has = rw (place_keeps e.caller es e x.8) (record {
      number = has.number;
      named = rw x.2 has.named;
      checked = λ ns i y. rw x.2
          (check_more (pass_place e.caller es) es e (pass_past e.caller es) core f (local s es e.caller)
          has.named lt (has.checked st) x.3 (sym x.1 ∙ ns) i (rw x.0 at y));
      same = λ q. rw x.2 (has.same (sym x.7 ∙ q));
      recorded = λ r q y. has.recorded r (sym x.4 ∙ q) (rw x.2 at y);
      writes = rw (x.6, x.5) has.writes;
      undrawn = rw x.6 has.undrawn;
    })

-- another caller's event keeps it
pub place_other : (c : ℕ) (es : List Event) (e : Event) → e.caller ≢ c → pass_place c (e ∷ es) ≡ pass_place c es
place_other c es e d = rw (ne_eqb e.caller c d) refl

-- both facts hold of each caller
pub passes : {s : Shape} {will : ℕ → Bool} {es : List Event} → Core s es → Foretells s will es → (c : ℕ) →
    LastOk s will es (local s es c) × PassOk s will es c (local s es c)
passes {es = []} core f c = (
  record { bound = λ n q. absurd (cc); reads = λ n q m. absurd (cc); res = λ n q m. absurd (cc) },
  (λ n r q. absurd (cc)),
)
passes {s = s} {will = will} {es = (e ∷ es)} core f c =
    callers s es e (λ c l. LastOk s will (e ∷ es) l × PassOk s will (e ∷ es) c l)
    (let ih = passes core.0 (foretells_past es e core f) e.caller in (
      last_own e core f ih.0 ih.1,
      (λ n r q. pass_own core f ih.0 ih.1
          (pass_how s e.caller (local s es e.caller) e e.kind n (static s es core.0 e.caller) core.1.allowed r q)),
    )) (λ c d. let ih = passes core.0 (foretells_past es e core f) c in (
      last_other e c core ih.0,
      (λ n r q. subst (λ xs. PassHas s will xs (local s es c) n) (sym (place_other c es e d))
          (ih.1 n r q)),
    )) c
