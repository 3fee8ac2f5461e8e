-- How many attempts a caller has and has begun.
use Rattle.std.proofs.Common.{◌+◌, ◌∙◌, ◌≡◌, ap, arith, false, inl, refl, sym, true, Bool, ℕ, List}
use Rattle.dstm_model.specs.declared.value.Val.{Val}
use Rattle.dstm_tl2_engine.specs.Callers.{TlCalled}
use Rattle.dstm_tables.specs.Callers.{home_of}
use Rattle.dstm_tables.specs.Tables.{attempts_there}
use Rattle.dstm_tables.specs.declared.tables.Caller.{Caller}
use Rattle.dstm_tables.specs.declared.tables.Caller.TheVariants.{Dstm, Tl2}
use Rattle.dstm_tables.specs.declared.tables.Table.TheVariants as table
use Rattle.dstm_attempts.specs.Attempts.{AddsNothing, Begins, IsClosed, IsLost, IsQuit, Keeps, TakesEffect, attempts_of, begun, renewed}
use Rattle.dstm_attempts.proofs.UnderWay.{adds_nothing, begins_none, lost_quit, nothing_twice, takes_quit}

module _ {L : Type 0} where
  attempts_are : (k : Caller L) → attempts_of k ≡ attempts_there (home_of k)
  attempts_are (Dstm k) = refl
  attempts_are (Tl2 k) = refl

  -- callers of one table have the same number of attempts
  pub same_attempts : (k n : Caller L) → home_of n ≡ home_of k → attempts_of n ≡ attempts_of k
  same_attempts k n home = attempts_are n ∙ ap attempts_there home ∙ sym (attempts_are k)

  -- a new transaction adds nothing, and stays with the same table
  pub renewed_nothing : (k : Caller L) → AddsNothing k (renewed k)
  renewed_nothing (Dstm k) = record { home = refl; number = refl; done = refl }
  renewed_nothing (Tl2 k) = record { home = refl; number = refl; done = refl }

  -- a caller that begins an attempt more, of which nothing comes, has begun one more and has committed nothing more
  pub begun_in_vain : (holds : L → List Val → Type 0) (first k began n : Caller L) (earlier : ℕ) →
      AddsNothing first k × (begun k ≡ begun first + earlier) → Begins holds k began → Keeps began n →
      AddsNothing first n × (begun n ≡ begun first + (earlier + 1))
  begun_in_vain holds first k began n earlier so_far begins same =
      let none = begins_none began n same in (
        nothing_twice first began n (nothing_twice first k began so_far.0 begins.nothing) (adds_nothing began n same),
        omega (arith, so_far.1, begins.begun, none),
      )

  module _ (holds : L → List Val → Type 0) where
    -- an attempt that takes effect stays with its table
    pub takes_home : (k n : Caller L) → TakesEffect holds k n → home_of n ≡ home_of k
    takes_home (Dstm k) (Dstm n) taken = ap (λ h. table.Dstm h) taken.takes.home
    takes_home (Tl2 k) (Tl2 n) taken = ap (λ (m : TlCalled L). table.Tl2 m.home) taken.takes.kept
    takes_home (Dstm k) (Tl2 n) taken = absurd taken.takes
    takes_home (Tl2 k) (Dstm n) taken = absurd taken.takes

    -- a commit stays with its table, and leaves no attempt live, whether it takes effect or not
    pub ended_home : (k n : Caller L) (takes : Bool) → (takes ≡ true → TakesEffect holds k n) → (takes ≡ false → Keeps k n) →
        home_of n ≡ home_of k
    ended_home k n true took keeps = takes_home k n (took refl)
    ended_home k n false took keeps = (adds_nothing k n (keeps refl)).home

    pub ended_quit : (k n : Caller L) (takes : Bool) → (takes ≡ true → TakesEffect holds k n) →
        (takes ≡ false → IsLost holds k n) → IsQuit n
    ended_quit k n true took lost = takes_quit holds k n (took refl)
    ended_quit k n false took lost = lost_quit holds k n (lost refl)

    -- an attempt that is over is lost as it is
    pub closed_lost : (k : Caller L) → IsClosed k → IsLost holds k k
    closed_lost (Dstm k) closed = inl (closed, refl)
    closed_lost (Tl2 k) closed = inl (closed, refl)
