-- What a transaction that a closure makes has done.
use Rattle.std.specs.Prelude.{◌≡◌, ◌⊎◌, ℕ, zero, suc, Bool, true, List, Result, Ok, Err}
use denote.Ref.{MutBor}
use Rattle.std.specs.Fn.{CalledAtMut, FnOnceReturnsAtMut, Mut, Once}
use Rattle.dstm_model.specs.declared.value.Val.{Val}
use Rattle.dstm_tables.specs.declared.tables.Caller.{Caller}
use Rattle.dstm_attempts.specs.Attempts.{Begins, BeginsNone, IsLost, IsSpent, begun, renewed}
use Rattle.dstm_cells.specs.declared.error.GaveUp.{GaveUp}
use Rattle.dstm_cells.specs.declared.error.GaveUp.TheVariants.{Spent}
use Rattle.dstm_cells.specs.declared.error.Stop.{Stop}
use Rattle.dstm_cells.specs.Attempts.{FollowsAndLeaves, IsLeft, StaysFor, WithinLooks}
use Rattle.dstm_cells.specs.UnderWay.{AddsNothing, IsUntouched, Keeps, LeavesLawful, TakesEffect}

-- each call of the closure keeps how often its transaction looks where it retries
abbrev pub KeepsPatience : {X F R : Type 0} (patience : X → ℕ) →
    Mut F (MutBor X × Unit {0}) (Result R Stop × (MutBor X × Unit {0})) → Type 0
KeepsPatience {X} {F} {R} patience g =
    (f n : F) (old new : X) (answer : Result R Stop) → CalledAtMut g f old answer n new → patience new ≡ patience old

module _ {X L F R : Type 0} (caller : X → Caller L) where
  -- an alternative leaves the transaction that it was given, and no other one in its place
  abbrev pub KeepsOnce : Once F (MutBor X × Unit {0}) (Result R Stop × (MutBor X × Unit {0})) → F → Type 0
  KeepsOnce g f =
      (old new : X) (answer : Result R Stop) → FnOnceReturnsAtMut g f old answer new → Keeps (caller old) (caller new)

  module _ (g : Mut F (MutBor X × Unit {0}) (Result R Stop × (MutBor X × Unit {0}))) where
    -- each call of the closure leaves the transaction that it was given, and no other one in its place
    abbrev pub KeepsEach : Type 0
    KeepsEach =
        (f n : F) (old new : X) (answer : Result R Stop) → CalledAtMut g f old answer n new →
        Keeps (caller old) (caller new)

    module _ (holds : L → List Val → Type 0) where
      -- each answer of the closure, called on an attempt that has set nothing, leaves lawful values
      abbrev pub IsLawful : Type 0
      IsLawful =
          (f n : F) (old new : X) (answer : R) → CalledAtMut g f old (Ok answer) n new → IsUntouched (caller old) →
          LeavesLawful holds (caller new)

      -- each answer that commits does, where some do
      abbrev pub IsLawfulWhere : (commits : R → Bool) → Type 0
      IsLawfulWhere commits =
          (f n : F) (old new : X) (answer : R) → commits answer ≡ true → CalledAtMut g f old (Ok answer) n new →
          IsUntouched (caller old) → LeavesLawful holds (caller new)

      -- the closure was called on an attempt that had just begun, and answered this; it left the attempt that it was given
      pub record CalledFrom (k : Caller L) (f : F) (answer : Result R Stop) (after : F) : Type 0 where
        pub began : X
        pub begins : Begins holds k (caller began)
        pub ended : X
        pub call : CalledAtMut g f began answer after ended
        pub keeps : Keeps (caller began) (caller ended)

      module _ (patience : X → ℕ) where
        -- what an attempt has left on which the closure has answered this, where a further one is made: it did not commit; or the
        -- closure stopped it, and what was to be waited for has come
        abbrev pub TriesOn : Result R Stop → X → Caller L → Type 0
        TriesOn (Ok answer) ended n = Keeps (caller ended) n × IsLost holds (caller ended) n
        TriesOn (Err stop) ended n =
            StaysFor stop.why (caller ended) n × FollowsAndLeaves holds (patience ended) (caller ended) stop.why n (Ok tt)

        -- AN ATTEMPT CAME TO NOTHING, and a further one is made: what the closure has become, and the caller
        pub record CameToNothing (k : Caller L) (f : F) (n : Caller L) (after : F) : Type 0 where
          pub answer : Result R Stop
          pub on : CalledFrom k f answer after
          pub next : TriesOn answer on.ended n

        -- SO MANY ATTEMPTS CAME TO NOTHING, one after the other, and nothing else was done
        abbrev pub Tries : ℕ → Caller L → F → Caller L → F → Type 0
        Tries zero k f n after = (n ≡ k) × (after ≡ f)
        Tries (suc count) k f n after =
            (m : Caller L) × (between : F) × Tries count k f m between × CameToNothing m between n after

        -- All attempts of a transaction so far came to nothing. The first of them began it, and none has committed.
        pub record TriedInVain (k : Caller L) (f : F) (n : Caller L) (after : F) : Type 0 where
          pub count : ℕ
          pub tries : Tries count (renewed k) f n after
          pub nothing : AddsNothing k n

        -- this closure's transaction came to an attempt on which it answered this, and all before it came to nothing
        pub record CalledAnew (k : Caller L) (f : F) (answer : Result R Stop) : Type 0 where
          pub before : Caller L
          pub reached : F
          pub tried : TriedInVain k f before reached
          pub after : F
          pub on : CalledFrom before reached answer after

        -- ONE ATTEMPT TOOK EFFECT, and nothing else: the closure answered this on it; what was read and set then is what the
        -- caller has committed, beside what it had committed before.
        pub record TookEffect (k : Caller L) (f : F) (n : Caller L) (answer : R) : Type 0 where
          pub last : CalledAnew k f (Ok answer)
          pub takes : TakesEffect holds (caller last.on.ended) n

        -- IT WAS LOOKED: the closure answered this on an attempt that was under way until it was left, and nothing took effect
        pub record Viewed (k : Caller L) (f : F) (n : Caller L) (answer : R) : Type 0 where
          pub last : CalledAnew k f (Ok answer)
          pub left : IsLeft holds true (caller last.on.ended) n
          pub nothing : AddsNothing k n

        -- THE CLOSURE STOPPED ITS ATTEMPT, and that is why there is no further one.
        pub record WasStopped (k : Caller L) (f : F) (n : Caller L) (why : GaveUp) : Type 0 where
          pub stop : Stop
          pub last : CalledAnew k f (Err stop)
          pub follows : FollowsAndLeaves holds (patience last.on.ended) (caller last.on.ended) stop.why n (Err why)
          pub leaves : StaysFor stop.why (caller last.on.ended) n

        -- NO ATTEMPT IS LEFT, or no locator: all that were made came to nothing, and none was begun behind them
        pub record WasSpent (k : Caller L) (f : F) (n : Caller L) : Type 0 where
          pub before : Caller L
          pub reached : F
          pub tried : TriedInVain k f before reached
          pub none : begun n ≡ begun before
          pub unbegun : (n ≡ before) ⊎ BeginsNone holds before n
          pub spent : IsSpent n

        -- WHY A TRANSACTION DID NOT TAKE EFFECT: the caller has no attempt left, or no locator; or the closure stopped its
        -- attempt.
        abbrev pub GaveUpFor : Caller L → F → Caller L → GaveUp → Type 0
        GaveUpFor k f n why = ((why ≡ Spent) × WasSpent k f n) ⊎ WasStopped k f n why

        -- the same, where the rest between looks may end a wait before as many were made as the thread was told
        pub record WasStoppedResting (tires : Bool) (k : Caller L) (f : F) (n : Caller L) (why : GaveUp) : Type 0 where
          pub stop : Stop
          pub last : CalledAnew k f (Err stop)
          pub follows : WithinLooks tires (patience last.on.ended)
              (λ looks. FollowsAndLeaves holds looks (caller last.on.ended) stop.why n (Err why))
          pub leaves : StaysFor stop.why (caller last.on.ended) n

        abbrev pub GaveUpResting : (tires : Bool) → Caller L → F → Caller L → GaveUp → Type 0
        GaveUpResting tires k f n why = ((why ≡ Spent) × WasSpent k f n) ⊎ WasStoppedResting tires k f n why
