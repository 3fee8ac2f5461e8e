-- Operations one after the other, and with other answers.
use Rattle.std.proofs.Common.{◌≡◌, ◌≢◌, ℕ, refl, ◌∙◌}
use Rattle.std.specs.Prelude.{List, Ok, Err, IsTrue}
use Rattle.dstm_model.specs.declared.value.Val.{Val}
use Rattle.dstm_mem.specs.declared.memory.Mem.{Ghosts}
use Rattle.dstm_mem.specs.Memory.{HoldsAlso, MarksAtMost, SetsOnly, with_set}
use Rattle.dstm_mem.specs.Operates.{IsUntouched, Operates}
use Rattle.dstm_mem.proofs.Operations.{leads-none, leads-answers, leads-then, leads-ended, only_reads-none, only_reads-then}
use Rattle.dstm_mem.proofs.Operations.{opens_to_set-none, opens_to_set-then}

-- one relation of maps after the other
pub record Through (First Second : List Val → List Val → Type 0) (before after : List Val) : Type 0 where
  pub mid : List Val
  pub first : First before mid
  pub second : Second mid after

module _ {S E : Type 0} (M : Ghosts S E) where
  pub untouched-none : (old : S) (o : ℕ) → IsUntouched M o old old
  untouched-none old o = record { written = refl; held = refl; opened = refl }

  pub untouched-then : {old mid new : S} {o : ℕ} → IsUntouched M o old mid → IsUntouched M o mid new →
      IsUntouched M o old new
  untouched-then one two = record {
    written = two.written ∙ one.written;
    held = two.held ∙ one.held;
    opened = two.opened ∙ one.opened;
  }

  -- an open touches no object but its own
  pub untouched-opened : {old new : S} {object : ℕ} → ((p : ℕ) → M.written new p ≡ M.written old p) →
      HoldsAlso object (M.held old) (M.held new) → MarksAtMost object (M.is_opened old) (M.is_opened new) → (o : ℕ) →
      o ≢ object → IsUntouched M o old new
  untouched-opened written held opened o other =
      record { written = written o; held = held.others o other; opened = opened.others o other }

  -- nor does a set
  pub untouched-set : {old new : S} {object : ℕ} {value : Val} →
      SetsOnly object value (M.written old) (M.written new) → ((p : ℕ) → M.held new p ≡ M.held old p) →
      ((p : ℕ) → M.is_opened new p ≡ M.is_opened old p) → (o : ℕ) → o ≢ object → IsUntouched M o old new
  untouched-set written held opened o other =
      record { written = written.others o other; held = held o; opened = opened o }

module _ {S E : Type 0} {M : Ghosts S E} {In : ℕ → Type 0} where
  -- no operation
  pub operates-none : {A : Type 0} {Q T : A → Type 0} {R : A → List Val → List Val → Type 0} {old : S} {x : A} →
      ((map : List Val) × M.Admits old map) → IsTrue (M.is_live old) → ((before : List Val) → R x before before) →
      Operates M In Q T R old old (Ok x)
  operates-none {old = old} {x = x} admits live does = record {
    leads = leads-none M old x admits live;
    outside = λ o out. untouched-none M old o;
    marks = λ t. opens_to_set-none M old;
    quiet = λ q. only_reads-none M old;
    does = λ map admitted. does (with_set map (M.written old));
  }

  -- the same operation with another answer, which says less
  pub operates-as : {A B : Type 0} {Q T : A → Type 0} {Q' T' : B → Type 0} {R : A → List Val → List Val → Type 0}
      {R' : B → List Val → List Val → Type 0} {old new : S} {x : A} {y : B} → Operates M In Q T R old new (Ok x) →
      (Q' y → Q x) → (T' y → T x) → ((before after : List Val) → R x before after → R' y before after) →
      Operates M In Q' T' R' old new (Ok y)
  operates-as {old = old} {new = new} done quiet marks does = record {
    leads = leads-answers M done.leads;
    outside = done.outside;
    marks = λ t. done.marks (marks t);
    quiet = λ q. done.quiet (quiet q);
    does = λ map admitted. does (with_set map (M.written old)) (with_set map (M.written new)) (done.does map admitted);
  }

  -- one operation after the other
  pub operates-then : {A B : Type 0} {Q T : A → Type 0} {Q' T' : B → Type 0} {R : A → List Val → List Val → Type 0}
      {R' : B → List Val → List Val → Type 0} {old mid new : S} {x : A} {y : B} → Operates M In Q T R old mid (Ok x) →
      Operates M In Q' T' R' mid new (Ok y) →
      Operates M In (λ b. Q x × Q' b) (λ b. T x × T' b) (λ b. Through (R x) (R' b)) old new (Ok y)
  operates-then {mid = mid} one two = record {
    leads = leads-then M one.leads two.leads;
    outside = λ o out. untouched-then M (one.outside o out) (two.outside o out);
    marks = λ t. opens_to_set-then M one.leads (one.marks t.0) (two.marks t.1);
    quiet = λ q. only_reads-then M one.leads (one.quiet q.0) (two.quiet q.1);
    does = λ map admitted. record {
      mid = with_set map (M.written mid);
      first = one.does map (two.leads.narrows map admitted);
      second = two.does map admitted;
    };
  }

  -- the second gives up
  pub operates-ended : {A B C : Type 0} {Q T : A → Type 0} {Q' T' : B → Type 0} {Q'' T'' : C → Type 0}
      {R : A → List Val → List Val → Type 0} {R' : B → List Val → List Val → Type 0}
      {R'' : C → List Val → List Val → Type 0} {old mid new : S} {x : A} {e : E} → Operates M In Q T R old mid (Ok x) →
      Operates M In Q' T' R' mid new (Err e) → Operates M In Q'' T'' R'' old new (Err e)
  operates-ended one two = record {
    leads = leads-ended M one.leads two.leads;
    outside = tt;
    marks = tt;
    quiet = tt;
    does = tt;
  }
