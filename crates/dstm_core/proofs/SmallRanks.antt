-- Ranks are small under the managers where they rise.
use Rattle.std.proofs.Common.{◌*◌, ◌<◌, ◌∙◌, ◌∷◌, ◌≡◌, ◌≤◌, ◌⊎◌, List, Option, None, Some, [], ap, arith, refl, false, inl, inr, true, ℕ}
use Rattle.dstm_core.proofs.Base.{AllowedAs, Core, Event, Greedy, Kill, Kind, LocalState, LookHigh, LookNew, LookObj, LookOld, LookOwner, LookRank, LookStatus, MAX_RANK, MayRank, Outside, Phase, Rank, RankWord, Resolution, Rises, Running, Shape, after, at, local, or_unresolved, or_zero, res, word}
use Rattle.dstm_core.proofs.Columns.{Changed, Same, change, step}
use Rattle.dstm_core.proofs.Stamps.{StampHow, at_begin, at_enrol, at_other, at_rank, at_stamp, stamp_greedy, stamp_how}
use Rattle.dstm_core.proofs.Static.{callers}
use Rattle.dstm_core.proofs.Untouched.{unlooked}

-- a rank that was found is small
abbrev pub FoundSmall : Option Resolution → Type 0
FoundSmall None = Unit {0}
FoundSmall (Some r) = or_zero r.rank ≤ MAX_RANK

-- all ranks of a run are
pub record AreSmall (s : Shape) (es : List Event) : Type 0 where
  pub words : (a : ℕ) → a < s.callers * s.attempts → word s es (RankWord a) ≤ MAX_RANK
  pub own : (c : ℕ) → (local s es c).rank ≤ MAX_RANK
  pub found : (c : ℕ) → FoundSmall (local s es c).resolution

greedy_not : (s : Shape) → Rises s.manager → s.manager ≡ Greedy → ⊥
greedy_not s (inl k) q = cc
greedy_not s (inr k) q = cc

-- what a Rank stores is small
rank_put : (s : Shape) (l : LocalState) (e : Event) (p : Phase) → Rises s.manager → l.rank ≤ MAX_RANK →
    MayRank p s l e.put → e.put ≤ MAX_RANK
rank_put s l e Outside g h a = go a.2
  where
    go : (Rises s.manager × ((e.put ≡ 0) ⊎ ((l.committed ≡ false) × (e.put ≡ l.rank))))
        ⊎ ((s.manager ≡ Greedy) × (e.put ≡ l.rank) × (l.stands ≡ true)) → e.put ≤ MAX_RANK
    go (inl x) = first x.1
      where
        first : (e.put ≡ 0) ⊎ ((l.committed ≡ false) × (e.put ≡ l.rank)) → e.put ≤ MAX_RANK
        first (inl y) = omega arith
        first (inr y) = let z = y.1 in omega arith
    go (inr x) = absurd (greedy_not s g x.0)
rank_put s l e Running g h a = let x = a.3 in omega arith
rank_put s l e p g h a = absurd a

rank_stored : (s : Shape) (l : LocalState) (e : Event) {k : Kind} → k ≡ Rank → Rises s.manager →
    l.rank ≤ MAX_RANK → AllowedAs k s l e → e.put ≤ MAX_RANK
rank_stored s l e {k = Rank} q g h a = rank_put s l e l.phase g h a.2
rank_stored s l e q g h a = absurd (cc)

own_small : {s : Shape} {l : LocalState} {e : Event} {k : Kind} → Rises s.manager → AllowedAs k s l e →
    l.rank ≤ MAX_RANK → StampHow s l e k → (after k s l e).rank ≤ MAX_RANK
own_small g a h (at_enrol q n rd st rk ph) = rw rk h
own_small {s = s} {l = l} {e = e} g a h (at_stamp q rd st rk ph) = absurd (greedy_not s g (stamp_greedy s l e q a))
own_small {s = s} {l = l} {e = e} g a h (at_rank q rd st rk ph n b) = rw rk (rank_stored s l e q g h a)
own_small g a h (at_begin q r rd st rk) = rw rk h
own_small g a h (at_other b r t rd rk n be st inside out) = rw rk h

small_res : (r : Option Resolution) → FoundSmall r → or_zero (or_unresolved r).rank ≤ MAX_RANK
small_res None h = omega arith
small_res (Some r) h = h

found_small : (s : Shape) (es : List Event) (l : LocalState) (e : Event) (k : Kind) → AllowedAs k s l e →
    e.found ≡ at es e.place → ((a : ℕ) → a < s.callers * s.attempts → word s es (RankWord a) ≤ MAX_RANK) →
    FoundSmall l.resolution → FoundSmall (after k s l e).resolution
found_small s es l e LookObj a f w h = omega arith
found_small s es l e LookOwner a f w h = small_res l.resolution h
found_small s es l e LookStatus a f w h = small_res l.resolution h
found_small s es l e LookRank a f w h =
    let x = w (or_zero (res l).owner) a.3 in let y : e.found ≡ word s es (RankWord (or_zero (res l).owner)) =
    f ∙ ap (at es) a.0 in rw y x
found_small s es l e LookOld a f w h = small_res l.resolution h
found_small s es l e LookHigh a f w h = small_res l.resolution h
found_small s es l e LookNew a f w h = small_res l.resolution h
found_small s es l e Kill a f w h = small_res l.resolution h
found_small s es l e k a f w h = unlooked FoundSmall s l e k refl tt h

pub are_small : (s : Shape) (es : List Event) → Rises s.manager → Core s es → AreSmall s es
are_small s [] g core = record { words = λ a b. omega arith; own = λ c. omega arith; found = λ c. tt }
are_small s (e ∷ es) g core = next (are_small s es g core.0)
  where
    next : AreSmall s es → AreSmall s (e ∷ es)
    next h = record {
      words = λ a b. words a b (change (RankWord a) (step s es e core) b);
      own = callers s es e (λ c l. l.rank ≤ MAX_RANK)
          (own_small g core.1.allowed (h.own e.caller)
          (stamp_how s (local s es e.caller) e e.kind core.1.allowed)) (λ c _. h.own c);
      found = callers s es e (λ c l. FoundSmall l.resolution)
          (found_small s es (local s es e.caller) e e.kind core.1.allowed core.1.linked h.words (h.found e.caller))
          (λ c _. h.found c);
    }
      where
        words : (a : ℕ) → a < s.callers * s.attempts → Same s es e (RankWord a) ⊎ Changed s es e (RankWord a) →
            word s (e ∷ es) (RankWord a) ≤ MAX_RANK
        words a b (inl x) = let y = h.words a b in omega arith
        words a b (inr x) =
            let y = rank_stored s (local s es e.caller) e x.how.kind g (h.own e.caller) core.1.allowed in
            let z = x.now in omega arith

-- a rank that a caller has found is small
pub found_small_rank : (s : Shape) (es : List Event) → Rises s.manager → Core s es → (c : ℕ) →
    or_zero (res (local s es c)).rank ≤ MAX_RANK
found_small_rank s es g core c = small_res (local s es c).resolution ((are_small s es g core).found c)
