-- What became of an attempt stays so in a longer log, under each engine.
use Rattle.std.proofs.Common.{◌≡◌, ◌∙◌, ◌⊎◌, ◌<◌, ◌≤◌, ℕ, List, refl, ap, subst, inl, inr, not}
use Rattle.dstm_machines.proofs.Pasts.{past_past, past_self}
use Rattle.dstm_engine.proofs.AddingUp.{makes_both, makes_none}
use Rattle.dstm_core.specs.declared.shape.Shape.{Shape}
use Rattle.dstm_engine.specs.Callers.{shape_of}
use Rattle.dstm_engine.specs.Makes.{Makes}
use Rattle.dstm_progress.specs.Lives.{TriesByShape}
use Rattle.dstm_tables.proofs.StayingByDstm as staying
use Rattle.dstm_words.specs.declared.terms.Terms as core_terms
use Rattle.dstm_tl2.specs.Rules.{Event}
use Rattle.dstm_tl2.specs.Sharing.{table_of}
use Rattle.dstm_tl2.specs.Words.{Table as Tl2Table}
use Rattle.dstm_tl2.specs.declared.terms.Terms as tl2_terms
use Rattle.dstm_tl2_order.specs.Ended as ended
use Rattle.dstm_tl2_order.proofs.Ones.{committed_stays, disturbed_stays}
use Rattle.dstm_tl2_order.specs.Made.{LocksItsWrites}
use Rattle.dstm_tl2_engine.proofs.Living as living
use Rattle.dstm_tl2_engine.specs.Callers.{TlCalled}
use Rattle.dstm_tables.specs.declared.tables.Caller.{Caller}
use Rattle.dstm_tables.specs.declared.tables.Caller.TheVariants.{Dstm, Tl2}
use Rattle.dstm_tables.specs.declared.tables.Round.{Round}
use Rattle.dstm_tables.specs.declared.tables.Round.TheVariants as round
use Rattle.dstm_tables.specs.Callers.{AtRest, begun, number_of, round_of}
use Rattle.dstm_tables.specs.Tries.{WasNotWasted, GoesOn, WentByCalls}
use Rattle.dstm_tables.specs.Tells.{HasFewSights, IsPast, SameOwn, WasGivenUpAfter, WasSighted, attempts_of, lets_go}
use Rattle.dstm_tables.proofs.ByTl2.{begun_le}
use Rattle.dstm_model.specs.declared.value.Val.{Val}

module _ {L : Type 0} where
  -- ---- logs that go on

  past_refl : (r : Round L) → IsPast r r
  past_refl (round.Dstm r) = (refl, past_self r.log)
  past_refl (round.Tl2 r) = (refl, past_self r.log)

  pub past_trans : (a b c : Round L) → IsPast a b → IsPast b c → IsPast a c
  past_trans (round.Dstm a) (round.Dstm b) (round.Dstm c) one two =
      (two.0 ∙ one.0, past_past a.log b.log c.log one.1 two.1)
  past_trans (round.Tl2 a) (round.Tl2 b) (round.Tl2 c) one two = (two.0 ∙ one.0, past_past a.log b.log c.log one.1 two.1)
  past_trans (round.Dstm a) (round.Dstm b) (round.Tl2 c) one two = absurd two
  past_trans (round.Tl2 a) (round.Tl2 b) (round.Dstm c) one two = absurd two
  past_trans a b c one two = absurd one

  pub own_trans : (c : ℕ) (a b d : Round L) → SameOwn c a b → SameOwn c b d → SameOwn c a d
  own_trans c (round.Dstm a) (round.Dstm b) (round.Dstm d) one two = two ∙ one
  own_trans c (round.Tl2 a) (round.Tl2 b) (round.Tl2 d) one two = two ∙ one
  own_trans c (round.Dstm a) (round.Dstm b) (round.Tl2 d) one two = absurd two
  own_trans c (round.Tl2 a) (round.Tl2 b) (round.Dstm d) one two = absurd two
  own_trans c a b d one two = absurd one

  calls_none : (k : Caller L) → WentByCalls k k
  calls_none (Dstm k) = makes_none (TriesByShape (shape_of k)) k
  calls_none (Tl2 k) = living.makes_none LocksItsWrites k

  calls_both : (k n m : Caller L) → WentByCalls k n → WentByCalls n m → WentByCalls k m
  calls_both (Dstm k) (Dstm n) (Dstm m) one two =
      makes_both (TriesByShape (shape_of k)) k n m one
      (subst (λ (s : Shape). Makes (TriesByShape s) n m) (ap (λ h. h.terms.shape) one.same.0) two)
  calls_both (Tl2 k) (Tl2 n) (Tl2 m) one two = living.makes_both LocksItsWrites k n m one two
  calls_both (Dstm k) (Dstm n) (Tl2 m) one two = absurd two
  calls_both (Tl2 k) (Tl2 n) (Dstm m) one two = absurd two
  calls_both k n m one two = absurd one

  -- an attempt that was given up was made sure of so many times more at most
  pub few_given : (rechecks : ℕ) (r : Round L) (c i : ℕ) → WasGivenUpAfter rechecks r c i → HasFewSights rechecks r c i
  few_given rechecks (round.Dstm r) c i was = was.no_more
  few_given rechecks (round.Tl2 r) c i was = tt

  -- ---- what a table was told stays

  pub attempts_past : (a b : Round L) → IsPast a b → attempts_of b ≡ attempts_of a
  attempts_past (round.Dstm a) (round.Dstm b) past = ap (λ (t : core_terms.Terms L). t.shape.attempts) past.0
  attempts_past (round.Tl2 a) (round.Tl2 b) past = ap (λ (t : tl2_terms.Terms L). t.attempts) past.0
  attempts_past a b past = absurd past

  pub lets_go_past : (a b : Round L) → IsPast a b → lets_go b ≡ lets_go a
  lets_go_past (round.Dstm a) (round.Dstm b) past = ap (λ (t : core_terms.Terms L). not t.shape.all_write) past.0
  lets_go_past (round.Tl2 a) (round.Tl2 b) past = refl
  lets_go_past a b past = absurd past

  module _ {holds : L → List Val → Type 0} where
    pub goes_nowhere : (k : Caller L) → AtRest holds k → GoesOn holds k k
    goes_nowhere k rest =
        record { home = refl; number = refl; seen = past_refl (round_of k); calls = calls_none k; rest = rest }

    pub goes_on : (k n m : Caller L) → GoesOn holds k n → GoesOn holds n m → GoesOn holds k m
    goes_on k n m first second = record {
      home = second.home ∙ first.home;
      number = second.number ∙ first.number;
      seen = past_trans (round_of k) (round_of n) (round_of m) first.seen second.seen;
      calls = calls_both k n m first.calls second.calls;
      rest = second.rest;
    }

    -- ---- what a table was told stays

    pub same_attempts : (k n : Caller L) → GoesOn holds k n → attempts_of (round_of n) ≡ attempts_of (round_of k)
    same_attempts k n on = attempts_past (round_of k) (round_of n) on.seen

    pub same_lets_go : (k n : Caller L) → GoesOn holds k n → lets_go (round_of n) ≡ lets_go (round_of k)
    same_lets_go k n on = lets_go_past (round_of k) (round_of n) on.seen

    -- ---- a caller between two attempts has begun no more than there are

    pub few_begun : (k : Caller L) → AtRest holds k → begun k ≤ attempts_of (round_of k)
    few_begun (Dstm k) rest = (staying.in_range k rest).1
    few_begun (Tl2 k) rest = begun_le (table_of k.home.terms) k.log rest.run.run.run k.number

    -- ---- what became of its attempts stays so

    tl2_later : (rechecks : ℕ) (k n : TlCalled L) (i : ℕ) → GoesOn holds (Tl2 k) (Tl2 n) → WasNotWasted rechecks (Tl2 k) i →
        WasNotWasted rechecks (Tl2 n) i
    tl2_later rechecks k n i on was =
        by (there (λ t c. (ended.HasCommitted t k.log c i × Unit {0})
        ⊎ (ended.Disturbed t k.log c i × Unit {0} × Unit {0})) was)
      where
        -- as this log tells, on the table as n has it
        there : (P : Tl2Table → ℕ → Type 0) → P (table_of k.home.terms) k.number → P (table_of n.home.terms) n.number
        there P is = rw (on.seen.0, on.number) is

        by : (ended.HasCommitted (table_of n.home.terms) k.log n.number i × Unit {0})
            ⊎ (ended.Disturbed (table_of n.home.terms) k.log n.number i × Unit {0} × Unit {0}) → WasNotWasted rechecks (Tl2 n) i
        by (inl committed) =
            inl (
              subst (λ (log : List Event). ended.HasCommitted (table_of n.home.terms) log n.number i) on.seen.1.whole
                  (committed_stays (table_of n.home.terms) on.seen.1.later k.log n.number i committed.0),
              tt,
            )
        by (inr disturbed) =
            inr (
              subst (λ (log : List Event). ended.Disturbed (table_of n.home.terms) log n.number i) on.seen.1.whole
                  (disturbed_stays (table_of n.home.terms) on.seen.1.later k.log n.number i disturbed.0),
              tt,
              tt,
            )

    pub was_later : (rechecks : ℕ) (k n : Caller L) (i : ℕ) → GoesOn holds k n → 0 < i → i ≤ attempts_of (round_of k) →
        WasNotWasted rechecks k i → WasNotWasted rechecks n i
    was_later rechecks (Dstm k) (Dstm n) i on some few was = staying.was_later k n i on some few rechecks was
    was_later rechecks (Tl2 k) (Tl2 n) i on some few was = tl2_later rechecks k n i on was
    was_later rechecks k n i on some few was = absurd on.seen

    -- how often it was made sure of stays too
    pub sighted_later : (rechecks : ℕ) (k n : Caller L) (i : ℕ) → GoesOn holds k n → 0 < i → i ≤ attempts_of (round_of k) →
        WasSighted rechecks (round_of k) (number_of k) i → WasSighted rechecks (round_of n) (number_of n) i
    sighted_later rechecks (Dstm k) (Dstm n) i on some few was = staying.sighted_later k n i on some few rechecks was
    sighted_later rechecks (Tl2 k) (Tl2 n) i on some few was = inr (tt, tt)
    sighted_later rechecks k n i on some few was = absurd on.seen
