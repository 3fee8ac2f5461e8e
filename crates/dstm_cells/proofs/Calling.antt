-- What is known of a closure's calls.
use Rattle.std.proofs.Common.{◌≡◌, List, ap, refl, subst, sym}
use Rattle.std.specs.Prelude.{Result, IfErr, IfOk, IsErrAnd, Ok, Err}
use denote.Ref.{MutBor}
use Rattle.std.specs.Fn.{Called, CalledAtMut, FnOnceReturnsAtMut, Mut, Once}
use Rattle.dstm_model.specs.declared.value.Val.{Val}
use Rattle.dstm_tables.specs.declared.tables.Caller.{Caller}
use Rattle.dstm_attempts.specs.Attempts.{Begins}
use Rattle.dstm_cells.specs.declared.error.Stop.{Stop}
use Rattle.dstm_cells.specs.Closures.{CalledFrom, KeepsEach, KeepsOnce}
use Rattle.dstm_cells.specs.UnderWay.{Keeps}

module _ {X F R : Type 0} where
  -- a call of an alternative
  pub once_kept : {L : Type 0} (caller : X → Caller L)
      (g : Once F (MutBor X × Unit {0}) (Result R Stop × (MutBor X × Unit {0}))) (f : F) (p q : MutBor X)
      (answer : Result R Stop) → KeepsOnce caller g f → g.post f (p, tt) (answer, (q, tt)) →
      Keeps (caller p.now) (caller q.now)
  once_kept caller g f p q answer keeps met =
      keeps p.now q.now answer (record { shown = p; shows = refl; left = q; met = met; leaves = refl })

  abbrev pub once_at : (g : Once F (MutBor X × Unit {0}) (Result R Stop × (MutBor X × Unit {0}))) (f : F) (p q : MutBor X)
      (found answer : Result R Stop) → g.post f (p, tt) (found, (q, tt)) → found ≡ answer →
      FnOnceReturnsAtMut g f p.now answer q.now
  once_at g f p q found answer met is = record {
    shown = p;
    shows = refl;
    left = q;
    met = subst (λ r. g.post f (p, tt) (r, (q, tt))) is met;
    leaves = refl;
  }

  -- a call of a closure
  pub called_at : (g : Mut F (MutBor X × Unit {0}) (Result R Stop × (MutBor X × Unit {0}))) (f n : F) (p q : MutBor X)
      (answer : Result R Stop) → Called g f (p, tt) (answer, (q, tt)) n → CalledAtMut g f p.now answer n q.now
  called_at g f n p q answer called = record { shown = p; shows = refl; left = q; called = called; leaves = refl }

  -- a call of a closure on an attempt that had just begun
  abbrev pub called_from : {L : Type 0} (caller : X → Caller L)
      (g : Mut F (MutBor X × Unit {0}) (Result R Stop × (MutBor X × Unit {0}))) (holds : L → List Val → Type 0)
      (k : Caller L) (f n : F) (p q : MutBor X) (found answer : Result R Stop) → Begins holds k (caller p.now) →
      KeepsEach caller g → Called g f (p, tt) (found, (q, tt)) n → found ≡ answer → CalledFrom caller g holds k f answer n
  called_from caller g holds k f n p q found answer begins keeps called is = record {
    began = p.now;
    begins = begins;
    ended = q.now;
    call = subst (λ r. CalledAtMut g f p.now r n q.now) is (called_at g f n p q found called);
    keeps = keeps f n p.now q.now found (called_at g f n p q found called);
  }

-- what holds of an answer where something is so
pub where_so : {R E C : Type 0} (answer : Result R E) (P : R → Type 0) → C → IfOk answer (λ r. C → P r) → IfOk answer P
where_so (Ok r) P so holds = holds so
where_so (Err e) P so holds = tt

-- what holds whatever an error is
pub if_err : {R E X : Type 0} (answer : Result R E) → X → IfErr answer (λ _. X)
if_err (Ok r) x = tt
if_err (Err e) x = x

-- what holds of an error that is known
pub is_err : {R E : Type 0} (answer : Result R E) (why : E) (P : E → Type 0) → IsErrAnd answer (λ e. e ≡ why) → P why →
    IfErr answer P
is_err (Ok r) why P is p = tt
is_err (Err e) why P is p = subst P (sym is) p

pub err_is : {R E : Type 0} (answer : Result R E) (why : E) → IsErrAnd answer (λ e. e ≡ why) → answer ≡ Err why
err_is (Ok r) why is = absurd is
err_is (Err e) why is = ap Err is

-- what follows from an answer, whichever it is, and holds of an error
pub either_way : {R E X : Type 0} (answer : Result R E) (P : R → Type 0) → IfOk answer P → ((r : R) → P r → X) →
    IfErr answer (λ _. X) → X
either_way (Ok r) P holds follows fails = follows r holds
either_way (Err e) P holds follows fails = fails
