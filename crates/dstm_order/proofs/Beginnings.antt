-- Calls that begin an attempt: the stamps that they draw and the ranks that they store.
use Rattle.std.proofs.Common.{◌&&◌, ◌∙◌, ◌∷◌, ◌≡◌, ◌⊎◌, Bool, List, Option, [], ap, false, inl, inr, not, refl, subst, sym, true, ℕ, if◌then◌else◌}
use Rattle.dstm_core.proofs.Base.{Event, LocalState, after, and_parts, cases_Bool, cond_both, is_outside}
use Rattle.dstm_order.proofs.Base.{Begin, Beginning, Done, Due, Greedy, IsDue, Karma, Kind, Lcg, Manager, Obeys, Polite, Polka, Quit, Rank, Shape, Stamp, has_begun, has_ranks, has_stamps, in_beginning, is_begin, is_spent, newest_of, rises, state_after}
use Rattle.dstm_order.specs.Beginnings.{BeginsAgain, BeginsNew, EveryNewTransactionBeginsAnew, EveryRetryKeepsItsRank, IsClear, ranks_of, stamps_of, with_rank, with_stamp}

-- ---- how far a call has come before its Begin

-- With the rank that its caller had: nothing was drawn or stored yet; or a stamp was drawn; or a rank stored without a
-- stamp; or both.
data Stage (m : Manager) (fresh : Bool) (rank : ℕ) (stamps ranks : List ℕ) (l : LocalState) : Type 0 where
  clear : stamps ≡ [] → ranks ≡ [] → IsClear l → l.rank ≡ rank → Stage m fresh rank stamps ranks l
  drawn : (has_stamps m && fresh) ≡ true → stamps ≡ l.rank ∷ [] → ranks ≡ [] → l.stamped ≡ true →
      l.ranked ≡ false → Stage m fresh rank stamps ranks l
  stored : (has_stamps m && fresh) ≡ false → stamps ≡ [] → ranks ≡ l.rank ∷ [] →
      l.rank ≡ (if rises m && fresh then 0 else rank) → has_ranks m ≡ true → l.ranked ≡ true →
      Stage m fresh rank stamps ranks l
  both : (has_stamps m && fresh) ≡ true → stamps ≡ l.rank ∷ [] → ranks ≡ l.rank ∷ [] → has_ranks m ≡ true →
      l.stamped ≡ true → l.ranked ≡ true → Stage m fresh rank stamps ranks l

-- it keeps where neither the rank nor what was drawn or stored changes
kept_at : {m : Manager} {fresh : Bool} {rank : ℕ} {stamps ranks : List ℕ} {l : LocalState} (n : LocalState) →
    n.rank ≡ l.rank → n.stamped ≡ l.stamped → n.ranked ≡ l.ranked → Stage m fresh rank stamps ranks l →
    Stage m fresh rank stamps ranks n
kept_at n r s k (clear a b c d) = clear a b (record { no_stamp = s ∙ c.no_stamp; no_rank = k ∙ c.no_rank }) (r ∙ d)
kept_at n r s k (drawn a b c d e) = drawn a (b ∙ ap (λ n. n ∷ []) (sym r)) c (s ∙ d) (k ∙ e)
kept_at n r s k (stored a b c d e f) = stored a b (c ∙ ap (λ n. n ∷ []) (sym r)) (r ∙ d) e (k ∙ f)
kept_at n r s k (both a b c d e f) =
    both a (b ∙ ap (λ n. n ∷ []) (sym r)) (c ∙ ap (λ n. n ∷ []) (sym r)) d (s ∙ e) (k ∙ f)

not_true : (b c : Bool) → (b && not c) ≡ true → c ≡ true → ⊥
not_true b true h q = absurd (let x = (and_parts b false h).1 in cc)
not_true b false h q = absurd (cc)

not_false : (b c : Bool) → (b && not c) ≡ false → c ≡ false → b ≡ false
not_false true false h q = absurd (cc)
not_false false c h q = refl
not_false true true h q = absurd (cc)

apart : (b : Bool) → b ≡ true → b ≡ false → ⊥
apart true p q = cc
apart false p q = cc

-- stamps and rising ranks are of different managers
no_rise : (m : Manager) (fresh : Bool) → (has_stamps m && fresh) ≡ true → (rises m && fresh) ≡ false
no_rise Polite fresh h = refl
no_rise Karma fresh h = absurd (cc)
no_rise Polka fresh h = absurd (cc)
no_rise Greedy fresh h = refl

module _ (s : Shape) (fresh : Bool) (rank : ℕ) (stamps ranks : List ℕ) (l : LocalState) (e : Event) where
  abbrev Before : Type 0
  Before = Stage s.manager fresh rank stamps ranks l

  abbrev After : Kind → Type 0
  After k = Stage s.manager fresh rank (with_stamp k e.found stamps) (with_rank k e.put ranks) (after k s l e)

  stamp_at : (has_stamps s.manager && fresh && not l.stamped) ≡ true → Before → After Stamp
  stamp_at q (clear a b c d) =
      drawn (and_parts (has_stamps s.manager && fresh) (not l.stamped) q).0 (ap (λ xs. e.found ∷ xs) a) b refl refl
  stamp_at q (drawn a b c d f) = absurd (not_true (has_stamps s.manager && fresh) l.stamped q d)
  stamp_at q (stored a b c d f g) = absurd (apart _ (and_parts (has_stamps s.manager && fresh) (not l.stamped) q).0 a)
  stamp_at q (both a b c d f g) = absurd (not_true (has_stamps s.manager && fresh) l.stamped q f)

  rank_at : is_outside l.phase ≡ true → (has_stamps s.manager && fresh && not l.stamped) ≡ false →
      (has_ranks s.manager && not l.ranked) ≡ true →
      e.put ≡ (if rises s.manager && fresh then 0 else l.rank) → Before → After Rank
  rank_at out p q is (clear a b c d) =
      stored (not_false (has_stamps s.manager && fresh) l.stamped p c.no_stamp) a (ap (λ xs. e.put ∷ xs) b)
      (is ∙ ap (λ n. if rises s.manager && fresh then 0 else n) d)
      (and_parts (has_ranks s.manager) (not l.ranked) q).0 out
  rank_at out p q is (drawn a b c d f) =
      let same : e.put ≡ l.rank = is ∙ kept (no_rise s.manager fresh a) in
      both a (b ∙ ap (λ n. n ∷ []) (sym same)) (ap (λ xs. e.put ∷ xs) c)
      (and_parts (has_ranks s.manager) (not l.ranked) q).0 d out
    where
      kept : (rises s.manager && fresh) ≡ false → (if rises s.manager && fresh then 0 else l.rank) ≡ l.rank
      kept z = rw z refl
  rank_at out p q is (stored a b c d f g) = absurd (not_true (has_ranks s.manager) l.ranked q g)
  rank_at out p q is (both a b c d f g) = absurd (not_true (has_ranks s.manager) l.ranked q g)

  -- where a Begin is due
  abbrev MayBegin : Type 0
  MayBegin =
      ((has_stamps s.manager && fresh && not l.stamped) ≡ false) × ((has_ranks s.manager && not l.ranked) ≡ false)

  -- the Begin is due, or the event brings the call further
  abbrev Goes : Type 0
  Goes = ((e.kind ≡ Begin) × MayBegin) ⊎ ((is_begin e.kind ≡ false) × After e.kind)

  abbrev P : Due → Type 0
  P d = IsDue d e → Goes

  further : {k : Kind} → e.kind ≡ k → is_begin k ≡ false → After k → Goes
  further is other here = inr (ap is_begin is ∙ other, subst After (sym is) here)

  goes : (n : Option Event) → Before → P (in_beginning s fresh n l)
  goes n h =
      cond_both (has_begun n) _ _ P (λ _ z. absurd z) (λ _. cond_both (not (is_outside l.phase)) _ _ P
      (λ _ z. further z.0 refl (kept_at (after Quit s l e) refl refl refl h)) (λ out.
      cond_both (is_spent s l) _ _ P (λ _ z. absurd z) (λ _.
      cond_both (has_stamps s.manager && fresh && not l.stamped) _ _ P (λ q z. further z.0 refl (stamp_at q h)) (λ p.
      cond_both (has_ranks s.manager && not l.ranked) _ _ P
      (λ q z. further z.0 refl (rank_at (outside (is_outside l.phase) out) p q z.1 h)) (λ q z. inl (z.0, (p, q)))))))
    where
      outside : (b : Bool) → not b ≡ false → b ≡ true
      outside true q = refl
      outside false q = absurd (cc)

-- behind a Begin nothing is due
pub none_after : (o : Option Event) (s : Shape) (fresh : Bool) (l : LocalState) (e : Event) →
    IsDue (in_beginning s fresh o l) e → has_begun o ≡ false
none_after o s fresh l e h =
    elim (cases_Bool (has_begun o)) [ inl q ↦ absurd (let x : IsDue Done e = rw q at h in x) | inr q ↦ q ]

module _ (s : Shape) (fresh : Bool) (l : LocalState) (g : Lcg) (is : IsClear l) where
  abbrev Come : List Event → Type 0
  Come es = Stage s.manager fresh l.rank (stamps_of es) (ranks_of es) (state_after s l es)

  -- before its Begin
  comes : (es : List Event) → Obeys (Beginning fresh) s l g es → has_begun (newest_of es) ≡ false → Come es
  comes [] h n = clear refl refl is refl
  comes (e ∷ es) h n =
      by (goes s fresh l.rank (stamps_of es) (ranks_of es) (state_after s l es) e (newest_of es)
      (comes es h.0 (none_after (newest_of es) s fresh (state_after s l es) e h.1)) h.1)
    where
      by : Goes s fresh l.rank (stamps_of es) (ranks_of es) (state_after s l es) e → Come (e ∷ es)
      by (inl x) = absurd (apart (is_begin e.kind) (ap is_begin x.0) n)
      by (inr x) = x.1

  -- and at it
  record Begun (e : Event) (es : List Event) : Type 0 where
    pub kind : e.kind ≡ Begin
    pub may : MayBegin s fresh l.rank (stamps_of es) (ranks_of es) (state_after s l es) e
    pub come : Come es

  begun : (e : Event) (es : List Event) → Obeys (Beginning fresh) s l g (e ∷ es) → is_begin e.kind ≡ true → Begun e es
  begun e es h k = by (goes s fresh l.rank (stamps_of es) (ranks_of es) (state_after s l es) e (newest_of es) come h.1)
    where
      come : Come es
      come = comes es h.0 (none_after (newest_of es) s fresh (state_after s l es) e h.1)

      by : Goes s fresh l.rank (stamps_of es) (ranks_of es) (state_after s l es) e → Begun e es
      by (inl x) = record { kind = x.0; may = x.1; come = come }
      by (inr x) = absurd (apart (is_begin e.kind) k x.0)

-- ---- the same transaction

no_and : (b : Bool) → (b && false) ≡ false
no_and true = refl
no_and false = refl

old_rank : (b : Bool) (rank : ℕ) → (if b && false then 0 else rank) ≡ rank
old_rank true rank = refl
old_rank false rank = refl

-- no stamp, and the rank stays
again_kept : {m : Manager} {rank : ℕ} {stamps ranks : List ℕ} {l : LocalState} → Stage m false rank stamps ranks l →
    (stamps ≡ []) × (l.rank ≡ rank)
again_kept (clear a b c d) = (a, d)
again_kept {m = m} (drawn a b c d e) = absurd (apart _ a (no_and (has_stamps m)))
again_kept {m = m} {rank = rank} (stored a b c d e f) = (b, d ∙ old_rank (rises m) rank)
again_kept {m = m} (both a b c d e f) = absurd (apart _ a (no_and (has_stamps m)))

again_ranked : {m : Manager} {rank : ℕ} {stamps ranks : List ℕ} {l : LocalState} → has_ranks m ≡ true →
    (has_ranks m && not l.ranked) ≡ false → Stage m false rank stamps ranks l → (stamps ≡ []) × (ranks ≡ rank ∷ [])
again_ranked {m = m} {l = l} h q (clear a b c d) =
    absurd (apart (has_ranks m) h (not_false (has_ranks m) l.ranked q c.no_rank))
again_ranked {m = m} h q (drawn a b c d e) = absurd (apart _ a (no_and (has_stamps m)))
again_ranked {m = m} {rank = rank} h q (stored a b c d e f) = (b, c ∙ ap (λ n. n ∷ []) (d ∙ old_rank (rises m) rank))
again_ranked {m = m} h q (both a b c d e f) = absurd (apart _ a (no_and (has_stamps m)))

again_at : {m : Manager} {rank : ℕ} {stamps ranks : List ℕ} {l : LocalState} →
    (has_ranks m && not l.ranked) ≡ false → Stage m false rank stamps ranks l → BeginsAgain m rank stamps ranks
again_at {m = Polite} q (clear a b c d) = (a, b)
again_at {m = Polite} q (drawn a b c d e) = absurd (cc)
again_at {m = Polite} q (stored a b c d e f) = absurd (cc)
again_at {m = Polite} q (both a b c d e f) = absurd (cc)
again_at {m = Karma} q h = again_ranked refl q h
again_at {m = Polka} q h = again_ranked refl q h
again_at {m = Greedy} q h = again_ranked refl q h

pub retry_keeps : EveryRetryKeepsItsRank
retry_keeps s l g [] is h = (refl, refl, λ q. absurd (cc))
retry_keeps s l g (e ∷ es) is h = elim (cases_Bool (is_begin e.kind)) [
  | inl k ↦
      let b = begun s false l g is e es h k in
      let kept = again_kept b.come in
      subst (λ k. (with_stamp k e.found (stamps_of es) ≡ []) × ((after k s (state_after s l es) e).rank ≡ l.rank)
      × (is_begin k ≡ true →
      BeginsAgain s.manager l.rank (with_stamp k e.found (stamps_of es)) (with_rank k e.put (ranks_of es))))
      (sym b.kind) (kept.0, kept.1, λ _. again_at b.may.1 b.come)
  | inr n ↦
      let kept = again_kept (comes s false l g is (e ∷ es) h n) in
      (kept.0, kept.1, λ q. absurd (apart (is_begin e.kind) q n))
]

-- ---- a new transaction

new_rising : {m : Manager} {rank : ℕ} {stamps ranks : List ℕ} {l : LocalState} → has_ranks m ≡ true →
    rises m ≡ true → has_stamps m ≡ false → (has_ranks m && not l.ranked) ≡ false →
    Stage m true rank stamps ranks l → (stamps ≡ []) × (ranks ≡ 0 ∷ []) × (l.rank ≡ 0)
new_rising {m = m} {l = l} h r s q (clear a b c d) =
    absurd (apart (has_ranks m) h (not_false (has_ranks m) l.ranked q c.no_rank))
new_rising {m = m} h r s q (drawn a b c d e) = absurd (apart (has_stamps m) (and_parts (has_stamps m) true a).0 s)
new_rising {l = l} h r s q (stored a b c d e f) =
    let zero : l.rank ≡ 0 = rw r at d in (b, c ∙ ap (λ n. n ∷ []) zero, zero)
new_rising {m = m} h r s q (both a b c d e f) = absurd (apart (has_stamps m) (and_parts (has_stamps m) true a).0 s)

new_at : {m : Manager} {rank : ℕ} {stamps ranks : List ℕ} {l : LocalState} →
    (has_stamps m && true && not l.stamped) ≡ false → (has_ranks m && not l.ranked) ≡ false →
    Stage m true rank stamps ranks l → BeginsNew m l.rank stamps ranks
new_at {m = Polite} p q (clear a b c d) = (a, b)
new_at {m = Polite} p q (drawn a b c d e) = absurd (cc)
new_at {m = Polite} p q (stored a b c d e f) = absurd (cc)
new_at {m = Polite} p q (both a b c d e f) = absurd (cc)
new_at {m = Karma} p q h = new_rising refl refl refl q h
new_at {m = Polka} p q h = new_rising refl refl refl q h
new_at {m = Greedy} {l = l} p q (clear a b c d) =
    absurd (let x : true ≡ false = not_false true l.stamped p c.no_stamp in cc)
new_at {m = Greedy} {l = l} p q (drawn a b c d e) = absurd (let x : true ≡ false = not_false true l.ranked q e in cc)
new_at {m = Greedy} p q (stored a b c d e f) = absurd (cc)
new_at {m = Greedy} p q (both a b c d e f) = (b, c)

pub new_begins : EveryNewTransactionBeginsAnew
new_begins s l g [] is h k = absurd (cc)
new_begins s l g (e ∷ es) is h k =
    let b = begun s true l g is e es h k in
    subst (λ k. BeginsNew s.manager (after k s (state_after s l es) e).rank (with_stamp k e.found (stamps_of es))
    (with_rank k e.put (ranks_of es))) (sym b.kind) (new_at b.may.0 b.may.1 b.come)
