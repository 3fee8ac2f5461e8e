-- What a call on an attempt by TL2 leaves of it.
use Rattle.std.proofs.Common.{◌≡◌, ◌∙◌, ◌∷◌, ◌⊎◌, ◌<◌, ◌≤◌, ℕ, List, ap, arith, false, inl, inr, length, refl, subst, sym, true}
use Rattle.std.specs.Prelude.{IsTrue, None, Some, nat_lt, not}
use Rattle.std.proofs.lemmas.Bool.Decides.{nat_tests}
use base.Fml.{GName}
use Rattle.dstm_model.specs.Answers.{Committed}
use Rattle.dstm_model.specs.declared.value.Val.{Val}
use Rattle.dstm_mem.specs.Memory.{SetsOnly, value_in}
use Rattle.dstm_tl2.specs.Rules.{Event}
use Rattle.dstm_tl2.specs.Runs.{local}
use Rattle.dstm_tl2.specs.Sharing.{table_of}
use Rattle.dstm_tl2_words.specs.Seats.{Home}
use Rattle.dstm_tl2_order.specs.Tasks.Work.{Opening}
use Rattle.dstm_tl2_engine.specs.Attempts.{Settles, done}
use Rattle.dstm_tl2_engine.specs.Callers.{TlCalled, begun_log, handed, held, objects_of, state, table_of_caller, written}
use Rattle.dstm_tl2_engine.specs.Transactions.{BeginsAnew, Stays, TxPlace}
use Rattle.dstm_tl2_engine.proofs.Begun.{begun_count}
use Rattle.dstm_tl2_engine.proofs.Made.{set_admits, settled}
use Rattle.dstm_tables.specs.Callers.{begun}
use Rattle.dstm_tables.specs.declared.tables.Caller.TheVariants.{Tl2}
use Rattle.dstm_tables.specs.declared.tables.Table.{Table}
use Rattle.dstm_tables.specs.declared.tables.Table.TheVariants as table
use Rattle.dstm_attempts.specs.Attempts.{AddsNothing, Attempt, Began, Finds, IsSpent, Keeps, MayBegin, Puts, seen}
use Rattle.dstm_attempts.specs.Attempts.Began.{ByDstm, ByTl2}
use Rattle.dstm_attempts.proofs.Leaving as left
use Rattle.dstm_attempts.specs.Tl2.{IsStill, Opens, StoodTogether, TakesEffect}

abbrev log_in : List Event → Began → List Event
log_in other (ByDstm b) = other
log_in other (ByTl2 log) = log

module _ {L : Type 0} where
  abbrev home_in : Home L → Table L → Home L
  home_in other (table.Dstm h) = other
  home_in other (table.Tl2 h) = h

  -- one whose attempt stays the same begins none
  pub begins_none : (k n : TlCalled L) → Keeps (Tl2 k) (Tl2 n) → begun (Tl2 n) ≡ begun (Tl2 k)
  begins_none k n same =
      begun_count (table_of_caller n) n.number n.log
      ∙ ap (λ (a : Attempt L).
      (local (table_of (home_in k.home a.home).terms) (log_in (begun_log k.number k.log) a.began) a.number).begun) same
      ∙ sym (begun_count (table_of_caller k) k.number k.log)

  -- one that has begun as many attempts as it has is spent
  pub spent_at : (k : TlCalled L) (attempts : ℕ) → attempts ≡ (table_of_caller k).attempts → attempts ≤ (state k).begun →
      IsSpent (Tl2 k)
  spent_at k attempts all many =
      let none : nat_lt (state k).begun (table_of_caller k).attempts ≡ false = grind (arith, nat_tests) in
      subst (λ b. not b ≡ true) (sym none) refl

  module _ (holds : L → List Val → Type 0) where
    -- what an open finds
    pub finds : (k n : TlCalled L) (o : ℕ) (v : Val) → n.set ≡ k.set → o < objects_of k →
        ((map : List Val) → MayBegin holds (Tl2 n) map → MayBegin holds (Tl2 k) map) → Some v ≡ handed n o →
        Finds holds (Tl2 k) (Tl2 n) o v
    finds k n o v set within narrows value =
        left.finds holds (Tl2 k) (Tl2 n) (held n) o v (ap value_in set) within narrows (λ map may. may.agrees) value

    -- what a set leaves
    pub puts : (k n : TlCalled L) (o : ℕ) (v : Val) → n ≡ record k { writes = n.writes; set = n.set } →
        SetsOnly o v (written k) (written n) → Puts holds (Tl2 k) (Tl2 n) o v
    puts k n o v kept sets =
        left.puts holds (Tl2 k) (Tl2 n) o v (λ map may. (set_admits holds k {n = n} kept map).0 may) sets

    -- ---- a set makes no step

    -- an object that was opened for writing was opened, where another thing was set then
    pub opens_still : (o : ℕ) (k m n : TlCalled L) → Opens holds true o k m → IsStill m n → Opens holds true o k n
    opens_still o k m n (opens, marks) still = (
      at_end opens,
      record {
        kept = λ p was. subst IsTrue (sym (still.opened p)) (marks.kept p was);
        others = λ p other. still.opened p ∙ marks.others p other;
      },
    )
      where
        at_end : ((m ≡ record k { writes = m.writes; set = m.set }) ⊎ Stays holds (Opening o) k m) →
            (n ≡ record k { writes = n.writes; set = n.set }) ⊎ Stays holds (Opening o) k n
        at_end (inl same) =
            inl (still.same ∙ ap (λ (x : TlCalled L). record x { writes = n.writes; set = n.set }) same)
        at_end (inr stays) =
            inr (subst (Stays holds (Opening o) k) (sym still.same) (record {
              steps = record { acts = stays.steps.acts; same = stays.steps.same };
              attempt = stays.attempt;
            }))

    -- what it has read still stood together
    pub stood_still : (m n : TlCalled L) → IsStill m n → StoodTogether holds m → StoodTogether holds n
    stood_still m n still stood = subst (StoodTogether holds) (sym still.same) (record { seen = stood.seen })

    -- and it may have begun at the same values
    pub may_still : (m n : TlCalled L) → IsStill m n → (map : List Val) → MayBegin holds (Tl2 m) map →
        MayBegin holds (Tl2 n) map
    may_still m n still map may = (set_admits holds m {n = n} still.same map).1 may

    -- which attempt it is, in the engine's words
    abbrev place_of : GName → Home L → TlCalled L → Attempt L → TxPlace L
    place_of name table k a = record {
      reference = name;
      table = table;
      home = home_in k.home a.home;
      number = a.number;
      began = log_in (begun_log k.number k.log) a.began;
      done = a.done;
    }

    -- what an attempt has committed, a caller has committed that had added nothing before it
    settles_from : (k before n : TlCalled L) (is_right : List Val → List Val → Type 0) (number : ℕ) →
        AddsNothing (Tl2 k) (Tl2 before) → Settles holds is_right before n number → Settles holds is_right k n number
    settles_from k before n is_right number same s = record {
      entry = s.entry;
      done =
          s.done
          ∙ ap (λ c. record { caller = c; number = number; entry = s.entry } ∷ done before) same.number
          ∙ ap (λ (xs : List Committed). record { caller = k.number; number = number; entry = s.entry } ∷ xs) same.done;
      right = λ map size lawful agrees.
          s.right map (size ∙ ap (λ (h : Home L). length h.terms.start.value.items) (at_home same))
          (subst (λ (h : Home L). holds h.terms.law.value map) (at_home same) lawful) agrees;
      in_runs = s.in_runs;
    }
      where
        at_home : AddsNothing (Tl2 k) (Tl2 before) → k.home ≡ before.home
        at_home it = sym (ap (home_in k.home) it.home)

    -- An attempt of a caller that had added nothing before it has taken effect: what is right for all values at which it may
    -- have begun, and those that it leaves, is right in every run.
    pub settles_right : (name : GName) (k before began ended n : TlCalled L) (number : ℕ) →
        AddsNothing (Tl2 k) (Tl2 before) → BeginsAnew holds before began → Keeps (Tl2 began) (Tl2 ended) →
        TakesEffect holds ended n number → (is_right : List Val → List Val → Type 0) →
        ((map : List Val) → MayBegin holds (Tl2 ended) map → is_right map (seen (Tl2 ended) map)) →
        Settles holds is_right k n number
    settles_right name k before began ended n number same begins keeps t is_right right =
        settles_from k before n is_right number same
        (settled holds before began ended name name before.home before.home begins (ap (place_of name before.home began) keeps)
        is_right n number None t.kept t.run t.commits right)
