-- What a call on an attempt by DSTM leaves of it.
use Rattle.std.proofs.Common.{◌≡◌, ◌∙◌, ◌∷◌, ◌<◌, ◌+◌, ◌≤◌, ℕ, Bool, List, ap, arith, false, inl, inr, refl, subst, sym, true}
use Rattle.std.specs.Prelude.{◌||◌, None, Some, nat_lt, not}
use Rattle.std.proofs.lemmas.Bool.Decides.{nat_tests}
use base.Fml.{GName}
use Rattle.dstm_model.specs.Answers.{Committed}
use Rattle.dstm_model.specs.declared.value.Val.{Val}
use Rattle.dstm_core.specs.Runs.{local}
use Rattle.dstm_words.specs.Seats.{Home}
use Rattle.dstm_mem.specs.Memory.{SetsOnly, value_in}
use Rattle.dstm_order.specs.Tasks.{Work}
use Rattle.dstm_order.specs.Tasks.Task.{Leaving}
use Rattle.dstm_order.specs.declared.again.Again.{Again}
use Rattle.dstm_progress.proofs.Beginnings.{leaving}
use Rattle.dstm_engine.proofs.BegunThere.{begun_there}
use Rattle.dstm_engine.proofs.Made.{set_admits, settled}
use Rattle.dstm_engine.specs.Attempts.{Settles, Sighted, done}
use Rattle.dstm_engine.specs.Callers.{Called, handed, held, is_live, is_running, shape_of, state, written}
use Rattle.dstm_engine.specs.Calls.{Performs}
use Rattle.dstm_engine.specs.Transactions.{BeginsAnew, Leaves, Stays, TxPlace}
use Rattle.dstm_tables.specs.Callers.{begun}
use Rattle.dstm_tables.specs.declared.tables.Caller.TheVariants.{Dstm}
use Rattle.dstm_tables.specs.declared.tables.Table.{Table}
use Rattle.dstm_tables.specs.declared.tables.Table.TheVariants as table
use Rattle.dstm_attempts.specs.Attempts.{AddsNothing, Attempt, Began, Finds, IsNotOpened, IsSpent, Keeps, MayBegin, Puts, seen}
use Rattle.dstm_attempts.specs.Attempts.Began.{ByDstm, ByTl2}
use Rattle.dstm_attempts.proofs.Leaving as left
use Rattle.dstm_attempts.proofs.Leaving.{sets_nothing}
use Rattle.dstm_attempts.specs.Dstm.{Beginning, IsOver, IsQuit, IsStill, Opens, TakesEffect, beginning, opening}
use Rattle.dstm_attempts.specs.declared.error.NotOpened.TheVariants.{Over}

abbrev beginning_in : Beginning → Began → Beginning
beginning_in other (ByDstm b) = b
beginning_in other (ByTl2 log) = other

module _ {L : Type 0} where
  abbrev pub home_in : Home L → Table L → Home L
  home_in other (table.Dstm h) = h
  home_in other (table.Tl2 h) = other

  -- one whose attempt stays the same begins none
  pub begins_none : (k n : Called L) → Keeps (Dstm k) (Dstm n) → begun (Dstm n) ≡ begun (Dstm k)
  begins_none k n same =
      begun_there (shape_of n) n.number n.log
      ∙ ap (λ (a : Attempt L).
      (local (home_in k.home a.home).terms.shape (beginning_in (beginning k) a.began).log a.number).begun) same
      ∙ sym (begun_there (shape_of k) k.number k.log)

  -- and begins a new transaction next where it did before
  pub fresh_kept : (k n : Called L) → Keeps (Dstm k) (Dstm n) → n.fresh ≡ k.fresh
  fresh_kept k n same = ap (λ (a : Attempt L). (beginning_in (beginning k) a.began).fresh) same

  -- a call that is to end an attempt leaves none live
  pub quit : (holds : L → List Val → Type 0) (k n : Called L) → Performs holds Leaving k n None → IsQuit n
  quit holds k n p =
      let ended = leaving (shape_of k) k.number k.generator p.events k.log n.log (record {
        core = p.run.run.core;
        own = p.own;
        call = p.call;
      }) in
      record {
        over =
            ap (λ (h : Home L). is_running (local h.terms.shape n.log n.number).phase) p.same.0
            ∙ ap (λ c. is_running (local (shape_of k) n.log c).phase) p.same.1
            ∙ ap is_running ended.0;
      }

  -- one that has begun as many attempts as it has is spent
  pub spent_at : (k : Called L) (attempts : ℕ) → attempts ≡ (shape_of k).attempts → attempts ≤ (state k).begun →
      IsSpent (Dstm k)
  spent_at k attempts all begun =
      let none : nat_lt (state k).begun (shape_of k).attempts ≡ false = grind (arith, nat_tests) in
      subst (λ b. (not b || nat_lt (shape_of k).locators ((state k).installed + (shape_of k).objects)) ≡ true) (sym none) refl

  module _ (holds : L → List Val → Type 0) where
    -- an open has left the attempt
    pub not_opened_left : (writes : Bool) (o : ℕ) (k n : Called L) (cause : Again) →
        Leaves holds (opening (shape_of k) writes o) k n cause → is_live n ≡ false → n.set ≡ k.set →
        ((map : List Val) → MayBegin holds (Dstm n) map → MayBegin holds (Dstm k) map) →
        IsNotOpened holds writes o (Dstm k) (Dstm n) Over
    not_opened_left writes o k n cause leaves live set narrows = record {
      why = (live, inr (cause, leaves));
      unset = sets_nothing holds (Dstm k) (Dstm n) (ap value_in set) narrows;
    }

    -- what an open finds
    pub finds : (k n : Called L) (o : ℕ) (v : Val) → n.set ≡ k.set → o < (shape_of k).objects →
        ((map : List Val) → MayBegin holds (Dstm n) map → MayBegin holds (Dstm k) map) → Some v ≡ handed n o →
        Finds holds (Dstm k) (Dstm n) o v
    finds k n o v set within narrows value =
        left.finds holds (Dstm k) (Dstm n) (held n) o v (ap value_in set) within narrows (λ map may. may.agrees) value

    -- what a set leaves
    pub puts : (k n : Called L) (o : ℕ) (v : Val) → n ≡ record k { set = n.set } → SetsOnly o v (written k) (written n) →
        Puts holds (Dstm k) (Dstm n) o v
    puts k n o v kept sets =
        left.puts holds (Dstm k) (Dstm n) o v (λ map may. (set_admits holds k n kept map).0 may) sets

    -- an attempt that is over is not live
    pub over_quit : (work : Work) (k n : Called L) → IsOver holds work k n → IsQuit n
    over_quit work k n (inl (over, same)) = record { over = ap is_live same ∙ over }
    over_quit work k n (inr (cause, leaves)) = record { over = leaves.left.over }

    -- ---- a set makes no step

    -- an object that was opened was opened, where another thing was set then
    pub opens_still : (work : Work) (k m n : Called L) → Opens holds work k m → IsStill m n → Opens holds work k n
    opens_still work k m n (inl same) still = inl (still ∙ ap (λ (x : Called L). record x { set = n.set }) same)
    opens_still work k m n (inr stays) still =
        inr (subst (Stays holds work k) (sym still) (record {
          steps = record { acts = stays.steps.acts; same = stays.steps.same };
          missed = stays.missed;
        }))

    -- what it has read still stood together
    pub stood_still : (m n : Called L) → IsStill m n → Sighted m → Sighted n
    stood_still m n still s =
        subst Sighted (sym still) (record { place = s.place; newest = s.newest; covers = s.covers })

    -- and it may have begun at the same values
    pub may_still : (m n : Called L) → IsStill m n → (map : List Val) → MayBegin holds (Dstm m) map →
        MayBegin holds (Dstm n) map
    may_still m n still map may = (set_admits holds m n still map).1 may

    -- which attempt it is, in the engine's words
    abbrev place_of : GName → Home L → Called L → Attempt L → TxPlace L
    place_of name table k a = record {
      reference = name;
      table = table;
      home = home_in k.home a.home;
      number = a.number;
      began = (beginning_in (beginning k) a.began).log;
      generator = (beginning_in (beginning k) a.began).generator;
      fresh = (beginning_in (beginning k) a.began).fresh;
      done = a.done;
    }

    -- what an attempt has committed, a caller has committed that had added nothing before it
    settles_from : (k before n : Called L) (is_right : List Val → List Val → Type 0) (number : ℕ) →
        AddsNothing (Dstm k) (Dstm before) → Settles holds is_right before n number → Settles holds is_right k n number
    settles_from k before n is_right number same s = record {
      entry = s.entry;
      done =
          s.done
          ∙ ap (λ c. record { caller = c; number = number; entry = s.entry } ∷ done before) same.number
          ∙ ap (λ (xs : List Committed). record { caller = k.number; number = number; entry = s.entry } ∷ xs) same.done;
      right = λ map size lawful agrees.
          s.right map (size ∙ ap (λ (h : Home L). h.terms.shape.objects) (at_home same))
          (subst (λ (h : Home L). holds h.terms.law.value map) (at_home same) lawful) agrees;
      in_runs = s.in_runs;
    }
      where
        at_home : AddsNothing (Dstm k) (Dstm before) → k.home ≡ before.home
        at_home it = sym (ap (home_in k.home) it.home)

    -- An attempt of a caller that had added nothing before it has taken effect: what is right for all values at which it may
    -- have begun, and those that it leaves, is right in every run.
    pub settles_right : (name : GName) (k before began ended n : Called L) (number : ℕ) →
        AddsNothing (Dstm k) (Dstm before) → BeginsAnew holds before began → Keeps (Dstm began) (Dstm ended) →
        TakesEffect holds ended n number → (is_right : List Val → List Val → Type 0) →
        ((map : List Val) → MayBegin holds (Dstm ended) map → is_right map (seen (Dstm ended) map)) →
        Settles holds is_right k n number
    settles_right name k before began ended n number same begins keeps t is_right right =
        settles_from k before n is_right number same
        (settled holds before began ended name name before.home before.home begins (ap (place_of name before.home began) keeps)
        is_right n number t.home t.run t.commits right)
