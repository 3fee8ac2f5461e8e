-- What follows for a closure whose transaction took effect.
use Rattle.std.proofs.Common.{ℕ, List}
use Rattle.std.specs.Prelude.{Result}
use denote.Ref.{MutBor}
use Rattle.std.specs.Fn.{Mut}
use Rattle.dstm_model.specs.declared.value.Val.{Val}
use Rattle.dstm_tables.specs.declared.tables.Caller.{Caller}
use Rattle.dstm_attempts.specs.Attempts.{MayBegin, Settles, seen}
use Rattle.dstm_attempts.proofs.Settling.{settles_right}
use Rattle.dstm_cells.specs.declared.error.Stop.{Stop}
use Rattle.dstm_cells.specs.Closures.{TookEffect}

module _ {X L F R : Type 0} (caller : X → Caller L)
    (g : Mut F (MutBor X × Unit {0}) (Result R Stop × (MutBor X × Unit {0}))) (holds : L → List Val → Type 0) (patience : X → ℕ) where
  -- THE ANSWER IS RIGHT IN EVERY RUN: where the answer is right for all values at which the attempt may have begun, and
  -- those that it leaves, it is right for the values before and after it in the order of all transactions, and the
  -- caller has committed this one alone.
  pub answers_right : (k n : Caller L) (f : F) (answer : R) (t : TookEffect caller g holds patience k f n answer)
      (is_right : List Val → List Val → Type 0) →
      ((map : List Val) → MayBegin holds (caller t.last.on.ended) map → is_right map (seen (caller t.last.on.ended) map)) →
      Settles holds is_right k n t.takes.number
  answers_right k n f answer t is_right right =
      settles_right holds t.last.on.call.shown.ghost_name k t.last.before (caller t.last.on.began) (caller t.last.on.ended) n
      t.last.tried.nothing t.last.on.begins t.last.on.keeps t.takes is_right right
