-- An attempt that begins as the oldest is the oldest as long as it is under way; it never waits, and nobody aborts
-- it.
use Rattle.std.proofs.Common.{◌++◌, ◌+◌, ◌-◌, ◌/◌, ◌<◌, ◌==◌, ◌∙◌, ◌∷◌, ◌≡◌, ◌≢◌, ◌≤◌, ◌⊎◌, List, Option, None, Some, [], ap, arith, cond, false, inl, inr, is_some, refl, sym, true, ℕ}
use Rattle.dstm_core.proofs.Base.{AllowedAs, Core, Event, LocalState, MayKill, RankWord, StampsWord, StatusWord, after, at, cases_eq, given, is_live, local, nat_tests, or_unresolved, or_zero, own_attempt, place, res, word, write_of}
use Rattle.dstm_order.proofs.Base.{Begin, Drawn, Greedy, Kill, Kind, LookHigh, LookNew, LookObj, LookOld, LookOwner, LookRank, LookStatus, Manager, Outside, Pause, Paused, Phase, Putting, Resolution, Running, Shape, Validating}
use Rattle.dstm_core.proofs.Basic.{Names, ResBasic, basic, owner_stays, res_known}
use Rattle.dstm_core.proofs.Columns.{Kills, Step, step}
use Rattle.dstm_core.proofs.Places.{put_at}
use Rattle.dstm_core.proofs.Static.{begun_more, callers, local_other, local_own, static}
use Rattle.dstm_core.proofs.Pasts.{core_past}
use Rattle.dstm_core.proofs.Statuses.{begin_may, begin_put, phase_how}
use Rattle.dstm_opacity.proofs.Mine.{meant_mine, mine}
use Rattle.dstm_opacity.proofs.Versions.{owner_of, status_of}
use Rattle.dstm_progress.specs.Oldest.{IsOldest, OldestSafe}
use Rattle.dstm_core.proofs.Stamps.{StampHow, at_begin as stamp_begin, at_enrol, at_other, at_rank, at_stamp, own_rank, rank_may, stamp_how, stamp_may, standing}
use Rattle.dstm_core.proofs.Underway.{goes_on, not_begin, own_same, status_or_killed}
use Rattle.dstm_progress.proofs.Ranks.{found_rank, owner_known, owner_rank_stays, rank_found, rank_of_owner}
use Rattle.dstm_core.proofs.Begun.{begun_how}
use Rattle.dstm_core.proofs.Underway.{live_under_way}
use Rattle.dstm_opacity.proofs.Found.{live_below}
use Rattle.dstm_opacity.proofs.Begins.{begun_later}
use Rattle.dstm_core.proofs.Absent.{some_zero}
use Rattle.dstm_core.proofs.Untouched.{unlooked}

-- ---- the oldest stays the oldest

-- a caller that has an attempt under way keeps its stamp
pub under_way_keeps : {s : Shape} {l : LocalState} {e : Event} {k : Kind} → s.manager ≡ Greedy →
    AllowedAs k s l e → StampHow s l e k → l.phase ≢ Outside → (after k s l e).phase ≢ Outside →
    ((after k s l e).stands ≡ l.stands) × ((after k s l e).rank ≡ l.rank)
under_way_keeps g a (at_enrol q n rd st rk ph) h i = (st, rk)
under_way_keeps {s = s} {l = l} {e = e} g a (at_stamp q rd st rk ph) h i = absurd (h (stamp_may s l e q a).0)
under_way_keeps {s = s} {l = l} {e = e} g a (at_rank q rd st rk ph n b) h i = absurd (h (rank_may s l e q g a).outside)
under_way_keeps {s = s} {l = l} {e = e} g a (stamp_begin q r rd st rk) h i = absurd (h (begin_may s l e q a).0)
under_way_keeps g a (at_other b r t rd rk n be st inside out) h i = ((inside i).1, rk)

-- a stamp of another caller that stands after its event stood before, or is newer than all that were drawn
pub stood : {s : Shape} {es : List Event} {e : Event} → s.manager ≡ Greedy → Step s es e →
    (after e.kind s (local s es e.caller) e).stands ≡ true →
    (((local s es e.caller).stands ≡ true) × ((after e.kind s (local s es e.caller) e).rank ≡
    (local s es e.caller).rank))
    ⊎ ((after e.kind s (local s es e.caller) e).rank ≡ word s es StampsWord)
stood {s = s} {es = es} {e = e} g p h = go (stamp_how s (local s es e.caller) e e.kind p.fits.allowed)
  where
    go : StampHow s (local s es e.caller) e e.kind →
        (((local s es e.caller).stands ≡ true) × ((after e.kind s (local s es e.caller) e).rank ≡
        (local s es e.caller).rank))
        ⊎ ((after e.kind s (local s es e.caller) e).rank ≡ word s es StampsWord)
    go (at_enrol q n rd st rk ph) = inl (sym st ∙ h, rk)
    go (at_stamp q rd st rk ph) =
        inr (rk ∙ p.fits.linked ∙ ap (at es) (stamp_may s (local s es e.caller) e q p.fits.allowed).1)
    go (at_rank q rd st rk ph n b) = inl (sym st ∙ h, rk ∙ (rank_may s (local s es e.caller) e q g p.fits.allowed).put)
    go (stamp_begin q r rd st rk) = inl (sym st ∙ h, rk)
    go (at_other b r t rd rk n be st inside out) = inl (st h, rk)

-- the oldest stays so while its attempt is under way
pub oldest_step : {s : Shape} {es : List Event} (e : Event) {c : ℕ} → s.manager ≡ Greedy → Core s (e ∷ es) →
    (local s es c).phase ≢ Outside → (local s (e ∷ es) c).phase ≢ Outside → IsOldest s es c → IsOldest s (e ∷ es) c
oldest_step {s = s} {es = es} e {c = c} g core h i o = go (cases_eq e.caller c)
  where
    p : Step s es e
    p = step s es e core

    go : (e.caller ≡ c) ⊎ (e.caller ≡ c → ⊥) → IsOldest s (e ∷ es) c
    go (inl q) = record {
      live = ap (λ (l : LocalState). l.stands) now ∙ keep.0 ∙ ap (λ (l : LocalState). l.stands) was ∙ o.live;
      least = λ d b n st. let x = o.least d b n (ap (λ (l : LocalState). l.stands) (sym (others d n)) ∙ st) in
          rw (others d n, now, keep.1, was) x;
    }
      where
        now : local s (e ∷ es) c ≡ after e.kind s (local s es e.caller) e
        now = ap (local s (e ∷ es)) (sym q) ∙ local_own s es e

        was : local s es e.caller ≡ local s es c
        was = ap (local s es) q

        others : (d : ℕ) → d ≢ c → local s (e ∷ es) d ≡ local s es d
        others d n = local_other s es e d (λ z. n (sym z ∙ q))

        keep : ((after e.kind s (local s es e.caller) e).stands ≡ (local s es e.caller).stands)
            × ((after e.kind s (local s es e.caller) e).rank ≡ (local s es e.caller).rank)
        keep = under_way_keeps g core.1.allowed
            (stamp_how s (local s es e.caller) e e.kind core.1.allowed)
            (λ z. h (ap (λ (l : LocalState). l.phase) (sym was) ∙ z))
            (λ z. i (ap (λ (l : LocalState). l.phase) now ∙ z))
    go (inr n) = record {
      live = ap (λ (l : LocalState). l.stands) same ∙ o.live;
      least = λ d b m st. rw same (least d b m st (cases_eq e.caller d));
    }
      where
        same : local s (e ∷ es) c ≡ local s es c
        same = local_other s es e c n

        own : (d : ℕ) → d < s.callers → d ≢ c → e.caller ≡ d →
            (((local s es e.caller).stands ≡ true)
            × ((after e.kind s (local s es e.caller) e).rank ≡ (local s es e.caller).rank))
            ⊎ ((after e.kind s (local s es e.caller) e).rank ≡ word s es StampsWord) →
            (local s es c).rank < (after e.kind s (local s es e.caller) e).rank
        own d b m q (inl x) = let y = o.least e.caller core.1.caller n x.0 in let z = x.1 in omega arith
        own d b m q (inr x) = let y = (standing s es g core.0 c).drawn o.live in omega arith

        least : (d : ℕ) → d < s.callers → d ≢ c → (local s (e ∷ es) d).stands ≡ true →
            (e.caller ≡ d) ⊎ (e.caller ≡ d → ⊥) → (local s es c).rank < (local s (e ∷ es) d).rank
        least d b m st (inl q) =
            let now : local s (e ∷ es) d ≡ after e.kind s (local s es e.caller) e =
            ap (local s (e ∷ es)) (sym q) ∙ local_own s es e in
            rw now (own d b m q (stood g p (ap (λ (l : LocalState). l.stands) (sym now) ∙ st)))
        least d b m st (inr q) =
            let now : local s (e ∷ es) d ≡ local s es d = local_other s es e d q in
            rw now (o.least d b m (ap (λ (l : LocalState). l.stands) (sym now) ∙ st))

-- ---- what the oldest finds of its enemies

-- of a resolution of an attempt: the owner found is another attempt, and where it was found live it is younger
abbrev pub IsElder : Shape → List Event → (rank own : ℕ) → Option Resolution → Type 0
IsElder s es rank own None = Unit {0}
IsElder s es rank own (Some r) =
    (0 < r.word → owner_of s es r.word ≢ own)
    × (is_live (or_zero r.status) ≡ true → (0 < r.word) × (rank < rank_of_owner s es r.word))

-- the same of a resolution that there may be
elder_of : (s : Shape) (es : List Event) (rank own : ℕ) (r : Option Resolution) → IsElder s es rank own r →
    IsElder s es rank own (Some (or_unresolved r))
elder_of s es rank own None h = ((λ p. absurd (omega arith)), (λ q. absurd (cc)))
elder_of s es rank own (Some r) h = h

pub owner_same : (s : Shape) (es : List Event) (e : Event) (x : ℕ) → Core s (e ∷ es) → Names s es x → 0 < x →
    owner_of s (e ∷ es) x ≡ owner_of s es x
owner_same s es e x core (inl z) h = absurd (omega arith)
owner_same s es e x core (inr z) h = owner_stays s es e (x - 1) (step s es e core) z.1

elder_more : (s : Shape) (es : List Event) (e : Event) (rank own : ℕ) (r : Option Resolution) →
    s.manager ≡ Greedy → Core s (e ∷ es) → ResBasic s es r → IsElder s es rank own r → IsElder s (e ∷ es) rank own r
elder_more s es e rank own None g core b h = tt
elder_more s es e rank own (Some r) g core b h = (
  (λ p q. h.0 p (sym (owner_same s es e r.word core b.0 p) ∙ q)),
  (λ q. let x = h.1 q in (x.0, rw (owner_rank_stays s es e r.word g core b.0 x.0) x.1)),
)

-- the owner of an object that is not written is another attempt
pub looked_apart : (s : Shape) (es : List Event) (c o : ℕ) → Core s es → c < s.callers → o < s.objects →
    (local s es c).phase ≢ Outside → write_of o (local s es c).writes ≡ None → 0 < at es o →
    owner_of s es (at es o) ≢ own_attempt s (local s es c)
looked_apart s es c o core b lt h n pos q = absurd
    (let x = meant_mine s es (local s es c) o (mine s es core c b h) lt pos q in
    let y : is_some (write_of o (local s es c).writes) ≡ false = ap is_some n in cc)

-- what is known of an attempt that began as the oldest and is under way
pub record Safe (s : Shape) (es : List Event) (c : ℕ) : Type 0 where
  pub oldest : IsOldest s es c
  pub elder : IsElder s es (local s es c).rank (own_attempt s (local s es c)) (local s es c).resolution
  pub awake : (local s es c).phase ≢ Paused
  pub status : word s es (StatusWord (own_attempt s (local s es c))) ≡ given (local s es c).phase

-- an owner that is found live is younger
younger : {s : Shape} {es : List Event} {c : ℕ} (x : ℕ) → s.manager ≡ Greedy → Core s es → c < s.callers →
    IsOldest s es c → Names s es x → 0 < x → owner_of s es x ≢ own_attempt s (local s es c) →
    status_of s es x < 4 → (local s es c).rank < rank_of_owner s es x
younger x g core b o (inl z) pos apart live = absurd (omega arith)
younger {s = s} {es = es} {c = c} x g core b o (inr z) pos apart live =
    let owner = (basic s es core).owner (x - 1) z.1 in
    let way = live_under_way core owner.begun live in
    let d = owner_of s es x / s.attempts in
    let st = (standing s es g core d).inside way.0 in
    let other : d ≢ c = λ q. apart (sym way.1 ∙ ap (λ n. own_attempt s (local s es n)) q) in
    let less = o.least d way.2 other st in
    let here : rank_of_owner s es x ≡ (local s es d).rank =
    ap (λ a. word s es (RankWord a)) (sym way.1) ∙ own_rank s es (λ q. cc) core d way.2 way.0 in
    rw here less

kill_put : (found expected put : ℕ) → put ≡ cond (found == expected) 5 found → (put ≡ 5) ⊎ (put ≡ found)
kill_put found expected put h = grind (arith, nat_tests)

-- the owner whose status it just found is younger, where it was found unfinished
elder_met : {s : Shape} {es : List Event} (e : Event) → s.manager ≡ Greedy → Core s (e ∷ es) → Safe s es e.caller →
    is_some (res (local s es e.caller)).owner ≡ true →
    e.place ≡ place s (StatusWord (or_zero (res (local s es e.caller)).owner)) → e.found < 4 →
    (0 < (res (local s es e.caller)).word)
    × ((local s es e.caller).rank < rank_of_owner s (e ∷ es) (res (local s es e.caller)).word)
elder_met {s = s} {es = es} e g core f met here live =
    let l = local s es e.caller in
    let known = elder_of s es l.rank (own_attempt s l) l.resolution f.elder in
    let r = res_known s es l.resolution ((basic s es core.0).res e.caller) in
    let o = owner_known s es (res l).word (res l).owner r.1 met in
    let w : status_of s es (res l).word ≡ e.found =
    ap (λ m. word s es (StatusWord m)) (sym o.1) ∙ ap (at es) (sym here) ∙ sym core.1.linked in (
      o.0,
      rw (owner_rank_stays s es e (res l).word g core r.0 o.0)
          (younger (res l).word g core.0 core.1.caller f.oldest r.0 o.0 (known.0 o.0) (omega arith)),
    )

-- the oldest finds its enemies younger
elder_own : {s : Shape} {es : List Event} (e : Event) → s.manager ≡ Greedy → Core s (e ∷ es) →
    Safe s es e.caller → (k : Kind) → k ≢ Begin → AllowedAs k s (local s es e.caller) e →
    (local s es e.caller).phase ≢ Outside →
    IsElder s (e ∷ es) (local s es e.caller).rank (own_attempt s (local s es e.caller))
    (local s es e.caller).resolution →
    IsElder s (e ∷ es) (local s es e.caller).rank (own_attempt s (local s es e.caller))
    (after k s (local s es e.caller) e).resolution
elder_own e g core f Begin n a i h = absurd (n refl)
elder_own {s = s} {es = es} e g core f LookObj n a i h = (
  (λ pos q. let found = core.1.linked in
      let named = (basic s es core.0).object e.place a.3 in
      let pos' : 0 < at es e.place = omega arith in
      looked_apart s es e.caller e.place core.0 core.1.caller a.3 i a.2.2 pos'
      (sym (owner_same s es e (at es e.place) core named pos') ∙ ap (owner_of s (e ∷ es)) (sym found) ∙ q)),
  (λ q. absurd (cc)),
)
elder_own {s = s} {es = es} e g core f LookStatus n a i h = let l = local s es e.caller in (
  (elder_of s (e ∷ es) l.rank (own_attempt s l) l.resolution h).0,
  (λ q. elder_met e g core f a.2.2 a.0 (live_below e.found q)),
)
elder_own {s = s} {es = es} e g core f Kill n a i h = let l = local s es e.caller in (
  (elder_of s (e ∷ es) l.rank (own_attempt s l) l.resolution h).0,
  (λ q. elder_met e g core f a.2.2 a.0
      (go (live_below e.put q) (kill_put e.found (or_zero (res l).status) e.put a.1.1))),
)
  where
    go : e.put < 4 → (e.put ≡ 5) ⊎ (e.put ≡ e.found) → e.found < 4
    go y (inl z) = absurd (omega arith)
    go y (inr z) = omega arith
elder_own {s = s} {es = es} e g core f LookOwner n a i h = elder_of s (e ∷ es) _ _ (local s es e.caller).resolution h
elder_own {s = s} {es = es} e g core f LookRank n a i h = elder_of s (e ∷ es) _ _ (local s es e.caller).resolution h
elder_own {s = s} {es = es} e g core f LookOld n a i h = elder_of s (e ∷ es) _ _ (local s es e.caller).resolution h
elder_own {s = s} {es = es} e g core f LookHigh n a i h = elder_of s (e ∷ es) _ _ (local s es e.caller).resolution h
elder_own {s = s} {es = es} e g core f LookNew n a i h = elder_of s (e ∷ es) _ _ (local s es e.caller).resolution h
elder_own {s = s} {es = es} e g core f k n a i h =
    unlooked (IsElder s (e ∷ es) (local s es e.caller).rank (own_attempt s (local s es e.caller))) s
    (local s es e.caller) e k refl tt h

-- ---- it never waits

pub paused_how : (s : Shape) (l : LocalState) (e : Event) (k : Kind) → AllowedAs k s l e →
    (after k s l e).phase ≡ Paused → (k ≡ Pause) ⊎ (l.phase ≡ Paused)
paused_how s l e k a h = grind (arith, nat_tests)

pause_may : (s : Shape) (l : LocalState) (e : Event) {k : Kind} → k ≡ Pause → AllowedAs k s l e →
    (is_some (res l).rank ≡ true) × (or_zero (res l).rank ≤ l.rank) × (is_live (or_zero (res l).status) ≡ true)
pause_may s l e {k = Pause} q a = (a.2.4, a.2.5, a.2.6)
pause_may s l e q a = absurd (cc)

no_pause : {s : Shape} {es : List Event} (e : Event) → s.manager ≡ Greedy → Core s (e ∷ es) →
    Safe s es e.caller → e.kind ≡ Pause → ⊥
no_pause {s = s} {es = es} e g core f k =
    let l = local s es e.caller in
    let may = pause_may s l e k core.1.allowed in
    let known = (elder_of s es l.rank (own_attempt s l) l.resolution f.elder).1 may.2 in
    let found = found_rank s es l.resolution (rank_found s es g core.0 e.caller) (or_zero (res l).rank)
    (some_zero (res l).rank may.0) in
    let x = known.1 in let y = found.1 in let z = may.1 in omega arith

-- ---- nobody aborts it

kill_may : (s : Shape) (l : LocalState) (e : Event) {k : Kind} → k ≡ Kill → s.manager ≡ Greedy →
    AllowedAs k s l e → (l.phase ≡ Running) × (is_some (res l).owner ≡ true) × (is_some (res l).rank ≡ true)
    × ((l.rank < or_zero (res l).rank) ⊎ (or_zero (res l).status ≡ 2))
    × (e.put ≡ cond (e.found == or_zero (res l).status) 5 e.found)
kill_may s l e {k = Kill} q g a = go s.manager g a.2.4
  where
    go : (m : Manager) → m ≡ Greedy → MayKill m l (res l) →
        (l.phase ≡ Running) × (is_some (res l).owner ≡ true) × (is_some (res l).rank ≡ true)
        × ((l.rank < or_zero (res l).rank) ⊎ (or_zero (res l).status ≡ 2))
        × (e.put ≡ cond (e.found == or_zero (res l).status) 5 e.found)
    go Greedy q h = (a.2.0, a.2.2, h.0, h.1, a.1.1)
    go m q h = absurd (cc)
kill_may s l e q g a = absurd (cc)

killed_found : (found expected put : ℕ) → put ≡ cond (found == expected) 5 found → put ≡ 5 → found < 4 →
    found ≡ expected
killed_found found expected put h p l = grind (arith, nat_tests)

given_waiting : (p : Phase) → given p ≡ 2 → p ≡ Paused
given_waiting Paused h = refl
given_waiting Outside h = absurd (omega arith)
given_waiting Running h = absurd (omega arith)
given_waiting Putting h = absurd (omega arith)
given_waiting Validating h = absurd (omega arith)
given_waiting Drawn h = absurd (omega arith)

no_kill : {s : Shape} {es : List Event} {e : Event} {c : ℕ} → s.manager ≡ Greedy → Core s (e ∷ es) → c < s.callers →
    (local s es c).phase ≢ Outside → Safe s es c → Kills s (local s es e.caller) e (own_attempt s (local s es c)) →
    word s es (StatusWord (own_attempt s (local s es c))) ≡ e.found → ⊥
no_kill {s = s} {es = es} {e = e} {c = c} g core b i f k was = go may.3 (cases_eq e.caller c)
  where
    l : LocalState
    l = local s es e.caller

    may : ((local s es e.caller).phase ≡ Running) × (is_some (res (local s es e.caller)).owner ≡ true)
        × (is_some (res (local s es e.caller)).rank ≡ true)
        × (((local s es e.caller).rank < or_zero (res (local s es e.caller)).rank)
        ⊎ (or_zero (res (local s es e.caller)).status ≡ 2))
        × (e.put ≡ cond (e.found == or_zero (res (local s es e.caller)).status) 5 e.found)
    may = kill_may s (local s es e.caller) e k.kind g core.1.allowed

    expected : e.found ≡ or_zero (res (local s es e.caller)).status
    expected = killed_found e.found (or_zero (res (local s es e.caller)).status) e.put may.4 k.put k.found.1

    rank : or_zero (res (local s es e.caller)).rank ≡ (local s es c).rank
    rank = let r = res_known s es (local s es e.caller).resolution ((basic s es core.0).res e.caller) in
        let o = owner_known s es (res (local s es e.caller)).word (res (local s es e.caller)).owner r.1 may.1 in
        let n = found_rank s es (local s es e.caller).resolution (rank_found s es g core.0 e.caller)
        (or_zero (res (local s es e.caller)).rank) (some_zero (res (local s es e.caller)).rank may.2) in
        n.1 ∙ ap (λ a. word s es (RankWord a)) (sym o.1 ∙ sym k.attempt) ∙ own_rank s es (λ q. cc) core.0 c b i

    go : ((local s es e.caller).rank < or_zero (res (local s es e.caller)).rank)
        ⊎ (or_zero (res (local s es e.caller)).status ≡ 2) → (e.caller ≡ c) ⊎ (e.caller ≡ c → ⊥) → ⊥
    go (inr w) d = f.awake (given_waiting (local s es c).phase (sym f.status ∙ was ∙ expected ∙ w))
    go (inl less) (inl q) = let x = rank in let y = ap (λ n. (local s es n).rank) q in omega arith
    go (inl less) (inr d) =
        let st = (standing s es g core.0 e.caller).inside (λ z. let y = may.0 in cc) in
        let x = rank in let y = f.oldest.least e.caller core.1.caller d st in omega arith

-- ---- what began as the oldest stays safe

safe_elder : {s : Shape} {es : List Event} (e : Event) {c : ℕ} → s.manager ≡ Greedy → Core s (e ∷ es) →
    c < s.callers → (local s es c).phase ≢ Outside → (local s (e ∷ es) c).phase ≢ Outside → Safe s es c →
    IsElder s (e ∷ es) (local s es c).rank (own_attempt s (local s es c)) (local s (e ∷ es) c).resolution
safe_elder {s = s} {es = es} e {c = c} g core b h i f = callers s es e
    (λ c l. (local s es c).phase ≢ Outside → Safe s es c →
    IsElder s (e ∷ es) (local s es c).rank (own_attempt s (local s es c)) l.resolution)
    (λ h f. elder_own e g core f e.kind (not_begin s es e core h) core.1.allowed h (more e.caller f))
    (λ c d h f. more c f) c h f
  where
    more : (c : ℕ) → Safe s es c →
        IsElder s (e ∷ es) (local s es c).rank (own_attempt s (local s es c)) (local s es c).resolution
    more c f = elder_more s es e (local s es c).rank (own_attempt s (local s es c))
        (local s es c).resolution g core ((basic s es core.0).res c) f.elder

safe_awake : {s : Shape} {es : List Event} (e : Event) {c : ℕ} → s.manager ≡ Greedy → Core s (e ∷ es) →
    Safe s es c → (local s (e ∷ es) c).phase ≢ Paused
safe_awake {s = s} {es = es} e {c = c} g core f = callers s es e (λ c l. Safe s es c → l.phase ≢ Paused)
    (λ f q. go f (paused_how s (local s es e.caller) e e.kind core.1.allowed q)) (λ c d f. f.awake) c f
  where
    go : Safe s es e.caller → (e.kind ≡ Pause) ⊎ ((local s es e.caller).phase ≡ Paused) → ⊥
    go f (inl k) = no_pause e g core f k
    go f (inr p) = f.awake p

safe_rank : (s : Shape) (es : List Event) (e : Event) (c : ℕ) → s.manager ≡ Greedy → Core s (e ∷ es) →
    (local s es c).phase ≢ Outside → (local s (e ∷ es) c).phase ≢ Outside →
    (local s (e ∷ es) c).rank ≡ (local s es c).rank
safe_rank s es e c g core h i = callers s es e
    (λ c l. (local s es c).phase ≢ Outside → l.phase ≢ Outside → l.rank ≡ (local s es c).rank)
    (λ h i. (under_way_keeps g core.1.allowed
    (stamp_how s (local s es e.caller) e e.kind core.1.allowed) h i).1) (λ c d h i. refl) c h i

pub safe_step : {s : Shape} {es : List Event} (e : Event) {c : ℕ} → s.manager ≡ Greedy → Core s (e ∷ es) →
    c < s.callers → (local s es c).phase ≢ Outside → (local s (e ∷ es) c).phase ≢ Outside → Safe s es c →
    Safe s (e ∷ es) c
safe_step {s = s} {es = es} e {c = c} g core b h i f = record {
  oldest = oldest_step e g core h i f.oldest;
  elder = rw (safe_rank s es e c g core h i, own_same s es e c core b h i) (safe_elder e g core b h i f);
  awake = safe_awake e g core f;
  status = go (status_or_killed s es e c core b h i f.status);
}
  where
    go : (word s (e ∷ es) (StatusWord (own_attempt s (local s (e ∷ es) c))) ≡ given (local s (e ∷ es) c).phase)
        ⊎ (Kills s (local s es e.caller) e (own_attempt s (local s es c))
        × (word s es (StatusWord (own_attempt s (local s es c))) ≡ e.found)) →
        word s (e ∷ es) (StatusWord (own_attempt s (local s (e ∷ es) c))) ≡ given (local s (e ∷ es) c).phase
    go (inl x) = x
    go (inr x) = absurd (no_kill g core b h f x.0 x.1)

-- the state after a Begin
after_begin : (s : Shape) (l : LocalState) (e : Event) {k : Kind} → k ≡ Begin →
    ((after k s l e).resolution ≡ None) × ((after k s l e).phase ≡ Running)
after_begin s l e {k = Begin} q = (refl, refl)
after_begin s l e q = absurd (cc)

begins_safe : {s : Shape} (es : List Event) (e : Event) → s.manager ≡ Greedy → Core s (e ∷ es) →
    e.kind ≡ Begin → IsOldest s (e ∷ es) e.caller → Safe s (e ∷ es) e.caller
begins_safe {s = s} es e g core k o =
    let l = local s es e.caller in
    let now = local_own s es e in
    let new = after_begin s l e k in
    let put = begin_put s l e k core.1.allowed in
    let here : (local s (e ∷ es) e.caller).phase ≡ Running = ap (λ (m : LocalState). m.phase) now ∙ new.1 in
    let clear : (local s (e ∷ es) e.caller).resolution ≡ None = ap (λ (m : LocalState). m.resolution) now
    ∙ new.0 in
    record {
      oldest = o;
      elder = rw clear tt;
      awake = λ q. let x = here in cc;
      status = ap (λ (m : LocalState). word s (e ∷ es) (StatusWord (own_attempt s m))) now
          ∙ ap (λ a. word s (e ∷ es) (StatusWord a)) put.3 ∙ put_at es e _ put.0 ∙ put.1
          ∙ sym (ap given here);
    }

-- while no later attempt of the caller began, the attempt was under way before each event after which it is
still_under_way : (s : Shape) (es : List Event) (e : Event) (c n : ℕ) → Core s (e ∷ es) →
    n ≤ (local s es c).begun → (local s (e ∷ es) c).begun ≡ n → (local s (e ∷ es) c).phase ≢ Outside →
    ((local s es c).begun ≡ n) × ((local s es c).phase ≢ Outside)
still_under_way s es e c n core lt q i = (
  let x = begun_more s es e c in omega arith,
  callers s es e
      (λ c l. n ≤ (local s es c).begun → l.begun ≡ n → l.phase ≢ Outside → (local s es c).phase ≢ Outside)
      (λ lt q i. go lt q i (begun_how s (local s es e.caller) e e.kind)) (λ c d lt q i. i) c lt q i,
)
  where
    go : n ≤ (local s es e.caller).begun → (after e.kind s (local s es e.caller) e).begun ≡ n →
        (after e.kind s (local s es e.caller) e).phase ≢ Outside →
        ((e.kind ≡ Begin) × ((after e.kind s (local s es e.caller) e).begun ≡ (local s es e.caller).begun + 1))
        ⊎ ((e.kind ≢ Begin) × ((after e.kind s (local s es e.caller) e).begun ≡ (local s es e.caller).begun)) →
        (local s es e.caller).phase ≢ Outside
    go lt q i (inl x) = absurd (let y = x.1 in omega arith)
    go lt q i (inr x) = (goes_on core.1.allowed x.0
        (phase_how s e.caller (local s es e.caller) e e.kind (static s es core.0 e.caller) core.1.allowed i)).0

-- an attempt that began as the oldest is safe as long as it is under way
pub stays_safe : {s : Shape} (later : List Event) (begin : Event) (before : List Event) → s.manager ≡ Greedy →
    Core s (later ++ begin ∷ before) → begin.kind ≡ Begin → IsOldest s (begin ∷ before) begin.caller →
    (local s (later ++ begin ∷ before) begin.caller).begun ≡ (local s (begin ∷ before) begin.caller).begun →
    (local s (later ++ begin ∷ before) begin.caller).phase ≢ Outside → Safe s (later ++ begin ∷ before) begin.caller
stays_safe [] begin before g core k o n i = begins_safe before begin g core k o
stays_safe {s = s} (e ∷ later) begin before g core k o n i =
    let c = begin.caller in
    let es = later ++ begin ∷ before in
    let was = still_under_way s es e c (local s (begin ∷ before) c).begun core (begun_later s later
    (begin ∷ before) c) n i in
    safe_step e g core (core_past s (e ∷ later) (begin ∷ before) core).1.caller was.1 i
    (stays_safe later begin before g core.0 k o was.0 was.1)

pub oldest_is_safe : OldestSafe
oldest_is_safe = λ s later begin before core g k o n i. let f =
    stays_safe later begin before g core k o n i in
    record { awake = f.awake; status = f.status }
