-- What a caller has added, and what an open and a set leave of an attempt, by either engine.
use Rattle.std.proofs.Common.{◌≡◌, ◌≤◌, ◌<◌, ◌∙◌, ℕ, List, ap, arith, length, refl, slice_set, true, subst, sym}
use Rattle.std.proofs.lemmas.List.{ext_get_or}
use Rattle.dstm_model.specs.declared.value.Val.{Val}
use Rattle.dstm_model.specs.Map.{no_value, value_at}
use Rattle.dstm_order.specs.Tasks.Work.{Committing, Writing}
use Rattle.dstm_words.specs.Seats as core
use Rattle.dstm_engine.specs.Callers.{Called, new_value}
use Rattle.dstm_tl2_words.specs.Seats as tl2
use Rattle.dstm_tl2_engine.specs.Callers.{TlCalled}
use Rattle.dstm_tables.specs.Callers.{begun, home_of, law_of}
use Rattle.dstm_tables.specs.Tables.{law_there, objects_there}
use Rattle.dstm_tables.specs.declared.tables.Caller.{Caller}
use Rattle.dstm_tables.specs.declared.tables.Caller.TheVariants.{Dstm, Tl2}
use Rattle.dstm_tables.specs.declared.tables.Table.TheVariants as table
use Rattle.dstm_attempts.specs.Attempts.{AddsNothing, Attempt, Exchanges, Finds, IsLost, IsQuit, IsSpent, IsStill, Keeps, MayBegin, Opens, Puts, SetsNothing, StoodTogether, TakesEffect, attempt, attempts_of, objects_of, renewed}
use Rattle.dstm_attempts.specs.Waiting.{RenewsNothing}
use Rattle.dstm_attempts.proofs.ByDstm as by_dstm
pub use Rattle.dstm_attempts.proofs.Leaving.{may_lawful, may_length}
use Rattle.dstm_attempts.proofs.ByTl2 as by_tl2

module _ {L : Type 0} where
  -- a table is of one engine
  pub apart : (h : core.Home L) (j : tl2.Home L) → table.Dstm h ≡ table.Tl2 j → ⊥
  apart h j is = cc

  -- so an attempt that stays the same stays by its engine
  pub other_engine : (k : Called L) (n : TlCalled L) → attempt (Dstm k) ≡ attempt (Tl2 n) → ⊥
  other_engine k n same = apart k.home n.home (ap (λ (a : Attempt L). a.home) same)

  -- one whose attempt stays the same adds nothing
  pub adds_nothing : (k n : Caller L) → Keeps k n → AddsNothing k n
  adds_nothing k n same = record {
    home = ap (λ (a : Attempt L). a.home) same;
    number = ap (λ (a : Attempt L). a.number) same;
    done = ap (λ (a : Attempt L). a.done) same;
  }

  pub nothing_twice : (k m n : Caller L) → AddsNothing k m → AddsNothing m n → AddsNothing k n
  nothing_twice k m n first second = record {
    home = second.home ∙ first.home;
    number = second.number ∙ first.number;
    done = second.done ∙ first.done;
  }

  -- ---- whether its next attempt begins a new transaction

  pub renews_kept : (k n : Caller L) → Keeps k n → RenewsNothing k n
  renews_kept (Dstm k) (Dstm n) same = λ was. by_dstm.fresh_kept k n same ∙ was
  renews_kept (Tl2 k) (Tl2 n) same = tt
  renews_kept (Dstm k) (Tl2 n) same = absurd (other_engine k n (sym same))
  renews_kept (Tl2 k) (Dstm n) same = absurd (other_engine n k same)

  pub renews_twice : (k m n : Caller L) → RenewsNothing k m → RenewsNothing m n → RenewsNothing k n
  renews_twice (Dstm k) (Dstm m) (Dstm n) first second = λ was. second (first was)
  renews_twice (Tl2 k) (Tl2 m) (Tl2 n) first second = tt
  renews_twice (Dstm k) (Dstm m) (Tl2 n) first second = absurd second
  renews_twice (Tl2 k) (Tl2 m) (Dstm n) first second = absurd second
  renews_twice (Dstm k) (Tl2 m) n first second = absurd first
  renews_twice (Tl2 k) (Dstm m) n first second = absurd first

  -- ---- its table

  -- the law of a caller is its table's
  law_is : (k : Caller L) → law_of k ≡ law_there (home_of k)
  law_is (Dstm k) = refl
  law_is (Tl2 k) = refl

  -- callers of one table have the same objects
  pub same_objects : (k n : Caller L) → home_of n ≡ home_of k → objects_of n ≡ objects_of k
  same_objects k n same = ap objects_there same

  -- and the same law
  pub same_law : (k n : Caller L) → home_of n ≡ home_of k → law_of n ≡ law_of k
  same_law k n same = law_is n ∙ ap law_there same ∙ sym (law_is k)

  -- ---- how many attempts it has begun

  -- one whose attempt stays the same begins none
  pub begins_none : (k n : Caller L) → Keeps k n → begun n ≡ begun k
  begins_none (Dstm k) (Dstm n) same = by_dstm.begins_none k n same
  begins_none (Tl2 k) (Tl2 n) same = by_tl2.begins_none k n same
  begins_none (Dstm k) (Tl2 n) same = absurd (other_engine k n (sym same))
  begins_none (Tl2 k) (Dstm n) same = absurd (other_engine n k same)

  -- one that has begun as many attempts as it has is spent
  pub spent_at : (k : Caller L) (attempts : ℕ) → attempts ≡ attempts_of k → attempts ≤ begun k → IsSpent k
  spent_at (Dstm k) attempts all begun = by_dstm.spent_at k attempts all begun
  spent_at (Tl2 k) attempts all begun = by_tl2.spent_at k attempts all begun

  -- the first attempt of a new transaction is still to begin
  pub renewed_quit : (k : Caller L) → IsQuit k → IsQuit (renewed k)
  renewed_quit (Dstm k) quit = record { over = quit.over }
  renewed_quit (Tl2 k) quit = tt

  module _ (holds : L → List Val → Type 0) where
    -- what is found sets nothing
    pub found_unset : (k n : Caller L) (o : ℕ) (v : Val) → Finds holds k n o v → SetsNothing holds k n
    found_unset k n o v found = record { narrows = found.narrows; same = found.same }

    -- an object was found, and then set
    pub exchanges : (k m n : Caller L) (o : ℕ) (had v : Val) → Finds holds k m o had → Puts holds m n o v →
        Exchanges holds k n o had v
    exchanges k m n o had v found put = record {
      value = λ map may.
          ap (λ (xs : List Val). value_at xs o) (sym (found.same map)) ∙ found.value map (put.narrows map may);
      puts = record {
        narrows = λ map may. found.narrows map (put.narrows map may);
        puts = λ map. put.puts map ∙ ap (λ (xs : List Val). slice_set xs o v) (found.same map);
      };
    }

    -- an object was opened for writing, and then set: it was opened once, what was read stood together, and the attempt may
    -- have begun at the same values
    pub opens_still : (o : ℕ) (k m n : Caller L) → Opens holds true o k m → IsStill m n → Opens holds true o k n
    opens_still o (Dstm k) (Dstm m) (Dstm n) opens still = by_dstm.opens_still holds (Writing o) k m n opens still
    opens_still o (Tl2 k) (Tl2 m) (Tl2 n) opens still = by_tl2.opens_still holds o k m n opens still
    opens_still o (Dstm k) (Tl2 m) n opens still = absurd opens
    opens_still o (Tl2 k) (Dstm m) n opens still = absurd opens
    opens_still o k (Dstm m) (Tl2 n) opens still = absurd still
    opens_still o k (Tl2 m) (Dstm n) opens still = absurd still

    pub stood_still : (m n : Caller L) → IsStill m n → StoodTogether holds m → StoodTogether holds n
    stood_still (Dstm m) (Dstm n) still stood = by_dstm.stood_still holds m n still stood
    stood_still (Tl2 m) (Tl2 n) still stood = by_tl2.stood_still holds m n still stood
    stood_still (Dstm m) (Tl2 n) still stood = absurd still
    stood_still (Tl2 m) (Dstm n) still stood = absurd still

    pub may_still : (m n : Caller L) → IsStill m n → (map : List Val) → MayBegin holds m map → MayBegin holds n map
    may_still (Dstm m) (Dstm n) still map may = by_dstm.may_still holds m n still map may
    may_still (Tl2 m) (Tl2 n) still map may = by_tl2.may_still holds m n still map may
    may_still (Dstm m) (Tl2 n) still map may = absurd still
    may_still (Tl2 m) (Dstm n) still map may = absurd still

    -- a commit that did not take effect leaves no attempt that is live
    pub lost_quit : (k n : Caller L) → IsLost holds k n → IsQuit n
    lost_quit (Dstm k) (Dstm n) lost = by_dstm.over_quit holds (Committing (new_value k)) k n lost
    lost_quit (Tl2 k) (Tl2 n) lost = tt
    lost_quit (Dstm k) (Tl2 n) lost = absurd lost
    lost_quit (Tl2 k) (Dstm n) lost = absurd lost

    -- and neither does one that has
    pub takes_quit : (k n : Caller L) → TakesEffect holds k n → IsQuit n
    takes_quit (Dstm k) (Dstm n) taken = record { over = taken.takes.commits.over }
    takes_quit (Tl2 k) (Tl2 n) taken = tt
    takes_quit (Dstm k) (Tl2 n) taken = absurd taken.takes
    takes_quit (Tl2 k) (Dstm n) taken = absurd taken.takes

    -- values that are those of a map at which the attempt may have begun, for each object, are this map
    pub all_values : (k n : Caller L) (values map : List Val) (o objects : ℕ) → Keeps k n → objects ≡ objects_of k →
        o ≡ objects → length values ≡ o → MayBegin holds n map →
        ((p : ℕ) → p < o → value_at values p ≡ value_at map p) → map ≡ values
    all_values k n values map o objects same all end size may each =
        let objects_same = same_objects k n (adds_nothing k n same).home in
        sym
        (ext_get_or no_value values map (size ∙ end ∙ all ∙ sym objects_same ∙ sym (may_length holds n map may))
        (λ i within. each i (omega (arith, size, within))))

    -- and lawful
    pub all_lawful : (k n : Caller L) (values map : List Val) → Keeps k n → map ≡ values → MayBegin holds n map →
        holds (law_of k) values
    all_lawful k n values map same is may =
        subst (λ (l : L). holds l values) (same_law k n (adds_nothing k n same).home)
        (subst (holds (law_of n)) is (may_lawful holds n map may))
