-- Stamps and ranks: how a caller's state changes in what is about its stamp, which stamps stand, and what the rank
-- words hold.
use Rattle.std.proofs.Common.{◌*◌, ◌+◌, ◌-◌, ◌/◌, ◌<◌, ◌∙◌, ◌∷◌, ◌≡◌, ◌≢◌, ◌≤◌, ◌⊎◌, List, None, [], ap, arith, false, inl, inr, is_some, refl, sym, true, ℕ}
use Rattle.dstm_core.proofs.Base.{AllowedAs, Begin, Commit, Core, Enrol, Event, Greedy, Karma, Kind, LocalState, MayRank, Outside, Phase, Polite, Polka, Rank, RankWord, Running, Shape, Stamp, StampsWord, after, is_outside, local, nat_tests, own_attempt, place, rank_of, word}
use Rattle.dstm_core.proofs.Basic.{own_place}
use Rattle.dstm_core.proofs.Columns.{Aims, Same, Step, caller_of, in_table, stamps, stays, step}
use Rattle.dstm_core.proofs.Places.{put_at}
use Rattle.dstm_core.proofs.Static.{callers, running, static}
use Rattle.dstm_core.proofs.Statuses.{begun_up, next_number}

-- ---- Greedy's own kinds

-- under Greedy a Rank comes before Begin, and stores the stamp that stands
pub record StoresStamp (s : Shape) (l : LocalState) (e : Event) : Type 0 where
  pub outside : l.phase ≡ Outside
  pub number : is_some l.number ≡ true
  pub begun : l.begun < s.attempts
  pub put : e.put ≡ l.rank
  pub stands : l.stands ≡ true

rank_by_phase : (s : Shape) (l : LocalState) (e : Event) {p : Phase} → s.manager ≡ Greedy → l.phase ≡ p →
    MayRank p s l e.put → StoresStamp s l e
rank_by_phase s l e {p = Outside} g q h = go h.2
  where
    go : (((s.manager ≡ Karma) ⊎ (s.manager ≡ Polka)) × ((e.put ≡ 0)
        ⊎ ((l.committed ≡ false) × (e.put ≡ l.rank))))
        ⊎ ((s.manager ≡ Greedy) × (e.put ≡ l.rank) × (l.stands ≡ true)) → StoresStamp s l e
    go (inl x) = absurd (rises x.0)
      where
        rises : (s.manager ≡ Karma) ⊎ (s.manager ≡ Polka) → ⊥
        rises (inl k) = cc
        rises (inr k) = cc
    go (inr x) = record { outside = q; number = h.0; begun = h.1; put = x.1; stands = x.2 }
rank_by_phase s l e {p = Running} g q h = absurd (rises h.1)
  where
    rises : (s.manager ≡ Karma) ⊎ (s.manager ≡ Polka) → ⊥
    rises (inl k) = cc
    rises (inr k) = cc
rank_by_phase s l e g q h = absurd h

pub rank_may : (s : Shape) (l : LocalState) (e : Event) {k : Kind} → k ≡ Rank → s.manager ≡ Greedy →
    AllowedAs k s l e → StoresStamp s l e
rank_may s l e {k = Rank} q g a = rank_by_phase s l e g refl a.2
rank_may s l e q g a = absurd (cc)

pub stamp_greedy : (s : Shape) (l : LocalState) (e : Event) {k : Kind} → k ≡ Stamp → AllowedAs k s l e →
    s.manager ≡ Greedy
stamp_greedy s l e {k = Stamp} q a = a.2.2
stamp_greedy s l e q a = absurd (cc)

pub stamp_may : (s : Shape) (l : LocalState) (e : Event) {k : Kind} → k ≡ Stamp → AllowedAs k s l e →
    (l.phase ≡ Outside) × (e.place ≡ place s StampsWord) × (e.put ≡ e.found + 1)
stamp_may s l e {k = Stamp} q a = (a.2.0, a.0, a.1.1)
stamp_may s l e q a = absurd (cc)

-- how the part of a caller's state changes that is about its stamp
pub data StampHow (s : Shape) (l : LocalState) (e : Event) (k : Kind) : Type 0 where
  at_enrol : k ≡ Enrol → l.number ≡ None → (after k s l e).ranked ≡ l.ranked → (after k s l e).stands ≡ l.stands →
      (after k s l e).rank ≡ l.rank → (after k s l e).phase ≡ l.phase → StampHow s l e k
  at_stamp : k ≡ Stamp → (after k s l e).ranked ≡ false → (after k s l e).stands ≡ true →
      (after k s l e).rank ≡ e.found → (after k s l e).phase ≡ l.phase → StampHow s l e k
  at_rank : k ≡ Rank → (after k s l e).ranked ≡ is_outside l.phase → (after k s l e).stands ≡ l.stands →
      (after k s l e).rank ≡ e.put → (after k s l e).phase ≡ l.phase → (after k s l e).number ≡ l.number →
      (after k s l e).begun ≡ l.begun → StampHow s l e k
  at_begin : k ≡ Begin → (l.ranked ≡ true) ⊎ (s.manager ≡ Polite) → (after k s l e).ranked ≡ false →
      (after k s l e).stands ≡ l.stands → (after k s l e).rank ≡ l.rank → StampHow s l e k
  at_other : k ≢ Begin → k ≢ Rank → k ≢ Stamp → (after k s l e).ranked ≡ l.ranked →
      (after k s l e).rank ≡ l.rank → (after k s l e).number ≡ l.number → (after k s l e).begun ≡ l.begun →
      ((after k s l e).stands ≡ true → l.stands ≡ true) →
      ((after k s l e).phase ≢ Outside → (l.phase ≢ Outside) × ((after k s l e).stands ≡ l.stands)) →
      (l.phase ≡ Outside → ((after k s l e).phase ≡ Outside) × ((after k s l e).stands ≡ l.stands)) → StampHow s l e k

-- who is outside an attempt stays there, but at a Begin
stays_outside : (s : Shape) (l : LocalState) (e : Event) (k : Kind) → AllowedAs k s l e → k ≢ Begin →
    l.phase ≡ Outside → (after k s l e).phase ≡ Outside
stays_outside s l e k a b q = grind (arith, nat_tests)

-- the state of a kind that touches none of it, in the same phase
unstamped : (s : Shape) (l : LocalState) (e : Event) (k : Kind) → k ≢ Begin → k ≢ Rank → k ≢ Stamp →
    (after k s l e).ranked ≡ l.ranked → (after k s l e).rank ≡ l.rank → (after k s l e).number ≡ l.number →
    (after k s l e).begun ≡ l.begun → (after k s l e).stands ≡ l.stands →
    ((after k s l e).phase ≢ Outside → l.phase ≢ Outside) → (l.phase ≡ Outside → (after k s l e).phase ≡ Outside) →
    StampHow s l e k
unstamped s l e k b r t rd rk n g st inside out =
    at_other b r t rd rk n g (λ q. sym st ∙ q) (λ h. (inside h, st)) (λ h. (out h, st))

pub stamp_how : (s : Shape) (l : LocalState) (e : Event) (k : Kind) → AllowedAs k s l e → StampHow s l e k
stamp_how s l e Enrol a = at_enrol refl a.2 refl refl refl refl
stamp_how s l e Stamp a = at_stamp refl refl refl refl refl
stamp_how s l e Rank a = at_rank refl refl refl refl refl refl refl
stamp_how s l e Begin a = at_begin refl (go a.2.3) refl refl refl
  where
    go : (s.manager ≡ Polite) ⊎ (l.ranked ≡ true) → (l.ranked ≡ true) ⊎ (s.manager ≡ Polite)
    go (inl x) = inr x
    go (inr x) = inl x
stamp_how s l e Commit a = at_other (λ q. cc) (λ q. cc) (λ q. cc) refl refl refl refl
    (λ q. grind (arith, nat_tests)) (λ h. absurd (h refl)) (λ q. absurd (let z = a.2.0 in cc))
stamp_how s l e k a = unstamped s l e k (λ q. cc) (λ q. cc) (λ q. cc) (grind (arith, nat_tests))
    (grind (arith, nat_tests)) (grind (arith, nat_tests)) (grind (arith, nat_tests)) (grind (arith, nat_tests))
    (λ h z. h (stays_outside s l e k a (λ q. cc) z)) (stays_outside s l e k a (λ q. cc))

-- ---- stamps that stand

-- the number of stamps drawn never falls
pub stamps_rise : {s : Shape} {es : List Event} {e : Event} → Step s es e →
    word s es StampsWord ≤ word s (e ∷ es) StampsWord
stamps_rise {s = s} {es = es} {e = e} p = elim (stamps p) [ inl x ↦ omega arith | inr x ↦ let y = x.1 in omega arith ]

-- an attempt under way has a stamp that stands, and so has one whose rank was put; each such stamp was drawn
pub record Standing (s : Shape) (es : List Event) (l : LocalState) : Type 0 where
  pub inside : l.phase ≢ Outside → l.stands ≡ true
  pub ranked : l.ranked ≡ true → (l.stands ≡ true) × (l.phase ≡ Outside) × (is_some l.number ≡ true)
      × (l.begun < s.attempts)
  pub drawn : l.stands ≡ true → l.rank < word s es StampsWord

standing_more : {s : Shape} {es : List Event} {e : Event} {l : LocalState} → Step s es e → Standing s es l →
    Standing s (e ∷ es) l
standing_more p h = record {
  inside = h.inside;
  ranked = h.ranked;
  drawn = λ q. let x = h.drawn q in let y = stamps_rise p in omega arith;
}

standing_own : {s : Shape} {es : List Event} {e : Event} → s.manager ≡ Greedy → Step s es e →
    StampHow s (local s es e.caller) e e.kind → Standing s es (local s es e.caller) →
    Standing s (e ∷ es) (after e.kind s (local s es e.caller) e)
standing_own g p (at_enrol k n rd st rk ph) h = record {
  inside = λ q. st ∙ h.inside (λ z. q (ph ∙ z));
  ranked = λ q. absurd (let x = (h.ranked (sym rd ∙ q)).2 in let y = ap is_some n in cc);
  drawn = λ q. let x = h.drawn (sym st ∙ q) in let y = stamps_rise p in omega arith;
}
standing_own {s = s} {es = es} {e = e} g p (at_stamp k rd st rk ph) h =
    let may = stamp_may s (local s es e.caller) e k p.fits.allowed in record {
      inside = λ q. st;
      ranked = λ q. absurd (cc);
      drawn = λ q. let x = put_at es e _ may.1 in let y = may.2 in omega arith;
    }
standing_own {s = s} {es = es} {e = e} g p (at_rank k rd st rk ph n b) h =
    let may = rank_may s (local s es e.caller) e k g p.fits.allowed in record {
      inside = λ q. st ∙ may.stands;
      ranked = λ q. (st ∙ may.stands, ph ∙ may.outside, ap is_some n ∙ may.number, rw b may.begun);
      drawn = λ q. let x = h.drawn may.stands in let z = may.put in let y = stamps_rise p in omega arith;
    }
standing_own {s = s} {es = es} {e = e} g p (at_begin k r rd st rk) h = record {
  inside = λ q. st ∙ (h.ranked (go r)).0;
  ranked = λ q. absurd (cc);
  drawn = λ q. let x = h.drawn (sym st ∙ q) in let y = stamps_rise p in omega arith;
}
  where
    go : ((local s es e.caller).ranked ≡ true) ⊎ (s.manager ≡ Polite) → (local s es e.caller).ranked ≡ true
    go (inl x) = x
    go (inr x) = absurd (cc)
standing_own g p (at_other b r t rd rk n be st inside out) h = record {
  inside = λ q. (inside q).1 ∙ h.inside (inside q).0;
  ranked = λ q. let x = h.ranked (sym rd ∙ q) in let o = out x.1 in
      (o.1 ∙ x.0, o.0, ap is_some n ∙ x.2, rw be x.3);
  drawn = λ q. let x = h.drawn (st q) in let y = stamps_rise p in omega arith;
}

pub standing : (s : Shape) (es : List Event) → s.manager ≡ Greedy → Core s es → (c : ℕ) → Standing s es (local s es c)
standing s [] g core c = record {
  inside = λ q. absurd (q refl);
  ranked = λ q. absurd (cc);
  drawn = λ q. absurd (cc);
}
standing s (e ∷ es) g core c = let p = step s es e core in
    callers s es e (λ c l. Standing s (e ∷ es) l)
    (standing_own g p (stamp_how s (local s es e.caller) e e.kind core.1.allowed) (standing s es g core.0 e.caller))
    (λ c _. standing_more p (standing s es g core.0 c)) c

-- ---- what the rank words hold

-- a caller whose first unused attempt has its rank
pub record Ready (s : Shape) (l : LocalState) : Type 0 where
  pub outside : l.phase ≡ Outside
  pub number : is_some l.number ≡ true
  pub begun : l.begun < s.attempts

-- a Rank comes before Begin, or in a running attempt
abbrev RankWhere : Shape → LocalState → Type 0
RankWhere s l = Ready s l ⊎ (l.phase ≡ Running)

rank_in : (s : Shape) (l : LocalState) (n : ℕ) {p : Phase} → l.phase ≡ p → MayRank p s l n → RankWhere s l
rank_in s l n {p = Outside} q h = inl (record { outside = q; number = h.0; begun = h.1 })
rank_in s l n {p = Running} q h = inr q
rank_in s l n q h = absurd h

rank_where : (s : Shape) (l : LocalState) (e : Event) {k : Kind} → k ≡ Rank → AllowedAs k s l e →
    RankWhere s l × (e.place ≡ place s (RankWord (rank_of l.phase s l)))
rank_where s l e {k = Rank} q a = (rank_in s l e.put refl a.2, a.0)
rank_where s l e q a = absurd (cc)

outside_is : (p : Phase) → is_outside p ≡ true → p ≡ Outside
outside_is Outside q = refl
outside_is p q = absurd (cc)

pub ready : (s : Shape) (es : List Event) → Core s es → (c : ℕ) → (local s es c).ranked ≡ true → Ready s (local s es c)
ready s [] core c q = absurd (cc)
ready s (e ∷ es) core c q =
    callers s es e (λ c l. l.ranked ≡ true → Ready s l)
    (own (stamp_how s (local s es e.caller) e e.kind core.1.allowed) (ready s es core.0 e.caller))
    (λ c _. ready s es core.0 c) c q
  where
    own : StampHow s (local s es e.caller) e e.kind →
        ((local s es e.caller).ranked ≡ true → Ready s (local s es e.caller)) →
        (after e.kind s (local s es e.caller) e).ranked ≡ true → Ready s (after e.kind s (local s es e.caller) e)
    own (at_enrol k n rd st rk ph) h q = absurd (let x = (h (sym rd ∙ q)).number in let y = ap is_some n in cc)
    own (at_stamp k rd st rk ph) h q = absurd (cc)
    own (at_rank k rd st rk ph n b) h q = at_place (rank_where s (local s es e.caller) e k core.1.allowed).0
      where
        at_place : RankWhere s (local s es e.caller) → Ready s (after e.kind s (local s es e.caller) e)
        at_place (inl x) = record {
          outside = ph ∙ x.outside;
          number = ap is_some n ∙ x.number;
          begun = rw b x.begun;
        }
        at_place (inr x) = absurd (let y = outside_is (local s es e.caller).phase (sym rd ∙ q) in cc)
    own (at_begin k r rd st rk) h q = absurd (cc)
    own (at_other b r t rd rk n be st inside out) h q =
        let x = h (sym rd ∙ q) in
        record { outside = (out x.outside).0; number = ap is_some n ∙ x.number; begun = rw be x.begun }

-- a Rank is of an attempt of its caller
rank_owner : {s : Shape} {es : List Event} {e : Event} {a : ℕ} → Step s es e →
    Aims e Rank a (rank_of (local s es e.caller).phase s (local s es e.caller)) → a / s.attempts ≡ e.caller
rank_owner {s = s} {es = es} {e = e} {a = a} p r = go (rank_where s (local s es e.caller) e r.kind p.fits.allowed).0
  where
    go : RankWhere s (local s es e.caller) → a / s.attempts ≡ e.caller
    go (inl x) =
        let is : a ≡ e.caller * s.attempts + (local s es e.caller).begun =
        r.number ∙ ap (λ q. rank_of q s (local s es e.caller)) x.outside
        ∙ next_number s e.caller (local s es e.caller) p.own x.number in
        ap (λ n. n / s.attempts) is ∙ caller_of e.caller s.attempts (local s es e.caller).begun x.begun
    go (inr x) =
        ap (λ n. n / s.attempts) (r.number ∙ ap (λ q. rank_of q s (local s es e.caller)) x)
        ∙ (own_place s e.caller (local s es e.caller) p.own p.fits.caller (λ z. cc)).1

-- the ranks of a caller's attempts stay at an event of another, and at one of another kind
rank_stays : {s : Shape} {es : List Event} {e : Event} (c i : ℕ) → Step s es e → c < s.callers →
    i < s.attempts → (e.caller ≢ c) ⊎ (e.kind ≢ Rank) → Same s es e (RankWord (c * s.attempts + i))
rank_stays {s = s} {es = es} {e = e} c i p b lt d =
    stays (RankWord (c * s.attempts + i)) p (in_table c s.attempts i s.callers b lt) (λ r. go r d)
  where
    go : Aims e Rank (c * s.attempts + i) (rank_of (local s es e.caller).phase s (local s es e.caller)) →
        (e.caller ≢ c) ⊎ (e.kind ≢ Rank) → ⊥
    go r (inl d) = d (sym (rank_owner p r) ∙ caller_of c s.attempts i lt)
    go r (inr d) = d r.kind

-- the rank word of an attempt under way holds its rank, and so does that of an attempt whose rank was put
pub record Stored (s : Shape) (es : List Event) (c : ℕ) (l : LocalState) : Type 0 where
  pub first : l.ranked ≡ true → word s es (RankWord (c * s.attempts + l.begun)) ≡ l.rank
  pub own : l.phase ≢ Outside → word s es (RankWord (c * s.attempts + (l.begun - 1))) ≡ l.rank

-- those of the first unused attempt and of the last one stay
stored_stays : {s : Shape} {es : List Event} (e : Event) {c : ℕ} → Core s (e ∷ es) → c < s.callers →
    (e.caller ≢ c) ⊎ (e.kind ≢ Rank) → Stored s es c (local s es c) → Stored s (e ∷ es) c (local s es c)
stored_stays {s = s} {es = es} e {c = c} core b d h = record {
  first = λ q.
      rank_stays c (local s es c).begun (step s es e core) b (ready s es core.0 c q).begun d ∙ h.first q;
  own = λ q.
      let t = static s es core.0 c in let x = t.begun in let y = (running s c (local s es c) t q).1 in
      rank_stays c ((local s es c).begun - 1) (step s es e core) b (omega arith) d ∙ h.own q;
}

stored_own : {s : Shape} {es : List Event} {e : Event} → s.manager ≢ Polite → Core s (e ∷ es) →
    StampHow s (local s es e.caller) e e.kind → Stored s es e.caller (local s es e.caller) →
    Stored s (e ∷ es) e.caller (after e.kind s (local s es e.caller) e)
stored_own {s = s} {es = es} {e = e} g core (at_enrol k n rd st rk ph) h = record {
  first = λ q.
      absurd (let x = (ready s es core.0 e.caller (sym rd ∙ q)).number in let y = ap is_some n in cc);
  own = λ q.
      absurd (let x = (running s e.caller (local s es e.caller) (static s es core.0 e.caller)
      (λ z. q (ph ∙ z))).0 in cc);
}
stored_own {s = s} {es = es} {e = e} g core (at_stamp k rd st rk ph) h =
    let may = stamp_may s (local s es e.caller) e k core.1.allowed in
    record { first = λ q. absurd (cc); own = λ q. absurd (q (ph ∙ may.0)) }
stored_own {s = s} {es = es} {e = e} g core (at_rank k rd st rk ph n b) h = record {
  first = λ q.
      let out = outside_is (local s es e.caller).phase (sym rd ∙ q) in
      rw (b, rk) (put_at es e _ (may.1 ∙ ap (λ q. place s (RankWord (rank_of q s (local s es e.caller)))) out
      ∙ ap (λ a. place s (RankWord a)) (next_number s e.caller (local s es e.caller) (static s es core.0 e.caller)
      (at_first out may.0))));
  own = λ q.
      let in_it : (local s es e.caller).phase ≢ Outside = λ z. q (ph ∙ z) in
      rw (b, rk) (put_at es e _
      (may.1 ∙ ap (λ q. place s (RankWord (rank_of q s (local s es e.caller)))) (at_own in_it may.0)
      ∙ ap (λ a. place s (RankWord a)) (own_place s e.caller (local s es e.caller) (static s es core.0 e.caller)
      core.1.caller in_it).0));
}
  where
    may : RankWhere s (local s es e.caller)
        × (e.place ≡ place s (RankWord (rank_of (local s es e.caller).phase s (local s es e.caller))))
    may = rank_where s (local s es e.caller) e k core.1.allowed

    at_first : (local s es e.caller).phase ≡ Outside → RankWhere s (local s es e.caller) →
        is_some (local s es e.caller).number ≡ true
    at_first out (inl x) = x.number
    at_first out (inr x) = absurd (cc)

    at_own : (local s es e.caller).phase ≢ Outside → RankWhere s (local s es e.caller) →
        (local s es e.caller).phase ≡ Running
    at_own i (inl x) = absurd (i x.outside)
    at_own i (inr x) = x
stored_own {s = s} {es = es} {e = e} g core (at_begin k r rd st rk) h = record {
  first = λ q. absurd (cc);
  own = λ q.
      let n : (after e.kind s (local s es e.caller) e).begun - 1 ≡ (local s es e.caller).begun =
      let up = begun_up s (local s es e.caller) e k in omega arith in
      rw (n, rk) ((stored_stays e core core.1.caller (inr (λ z. cc)) h).first (go r));
}
  where
    go : ((local s es e.caller).ranked ≡ true) ⊎ (s.manager ≡ Polite) → (local s es e.caller).ranked ≡ true
    go (inl x) = x
    go (inr x) = absurd (g x)
stored_own {e = e} g core (at_other b r t rd rk n be st inside out) h =
    let now = stored_stays e core core.1.caller (inr r) h in record {
      first = λ q. rw (be, rk) (now.first (sym rd ∙ q));
      own = λ q. rw (be, rk) (now.own (inside q).0);
    }

pub stored : (s : Shape) (es : List Event) → s.manager ≢ Polite → Core s es → (c : ℕ) → c < s.callers →
    Stored s es c (local s es c)
stored s [] g core c b = record { first = λ q. absurd (cc); own = λ q. absurd (q refl) }
stored s (e ∷ es) g core c b =
    callers s es e (λ c l. c < s.callers → Stored s (e ∷ es) c l)
    (λ b. stored_own g core (stamp_how s (local s es e.caller) e e.kind core.1.allowed)
    (stored s es g core.0 e.caller b)) (λ c d b. stored_stays e core b (inl d) (stored s es g core.0 c b)) c b

-- the rank word of an attempt under way holds its caller's rank
pub own_rank : (s : Shape) (es : List Event) → s.manager ≢ Polite → Core s es → (c : ℕ) → c < s.callers →
    (local s es c).phase ≢ Outside → word s es (RankWord (own_attempt s (local s es c))) ≡ (local s es c).rank
own_rank s es g core c b h =
    rw (own_place s c (local s es c) (static s es core c) b h).0 ((stored s es g core c b).own h)
