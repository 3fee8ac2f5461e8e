-- How a transaction begins.
use Rattle.std.proofs.Common.{◌≡◌, ◌⊎◌, Bool, List, true, false, ap, inl, inr, refl, subst, sym}
use Rattle.std.proofs.lemmas.Bool.{cases_Bool}
use Rattle.std.specs.Prelude.{if◌then◌else◌}
use Rattle.dstm_model.specs.declared.value.AnyLaw.{AnyLaw}
use Rattle.dstm_model.specs.declared.value.Val.{Val}
use Rattle.dstm_tables.specs.Callers.{home_of}
use Rattle.dstm_tables.specs.Tables.{objects_there}
use Rattle.dstm_tables.specs.declared.tables.Caller.{Caller}
use Rattle.dstm_tables.specs.declared.tables.Caller.TheVariants.{Dstm, Tl2}
use Rattle.dstm_attempts.specs.Attempts.{AddsNothing, goes_on, objects_of, renewed}
use Rattle.dstm_attempts.proofs.UnderWay.{nothing_twice}
use Rattle.dstm_handles.specs.Threads.{BeginsOr, HasBegun, HasNoneLeft, MayCall, starting}
use Rattle.dstm_handles.specs.declared.code.Code.{Code}
use Rattle.dstm_handles.specs.declared.code.Code.TheVariants.{Done, Open, Spent}
use Rattle.dstm_handles.specs.declared.thread.Thread.{Thread}

pub not_both : (b : Bool) → b ≡ true → b ≡ false → ⊥
not_both b is is_not = cc

-- ---- how a transaction begins

pub starting_new : (t : Thread) → t.begun ≡ false → renewed t.tx.attempts.caller ≡ starting t
starting_new t is = sym (ap (λ (b : Bool). if b then t.tx.attempts.caller else renewed t.tx.attempts.caller) is)

pub starting_on : (t : Thread) → t.begun ≡ true → t.tx.attempts.caller ≡ starting t
starting_on t is = sym (ap (λ (b : Bool). if b then t.tx.attempts.caller else renewed t.tx.attempts.caller) is)

-- the first attempt of a new transaction is one of the same caller
pub renewed_adds : (k : Caller AnyLaw) → AddsNothing k (renewed k)
renewed_adds (Dstm k) = record { home = refl; number = refl; done = refl }
renewed_adds (Tl2 k) = record { home = refl; number = refl; done = refl }

pub starting_adds : (t : Thread) → AddsNothing t.tx.attempts.caller (starting t)
starting_adds t =
    elim (cases_Bool t.begun) [
      | inl is ↦
          subst (AddsNothing t.tx.attempts.caller) (starting_on t is) (record { home = refl; number = refl; done = refl })
      | inr is ↦ subst (AddsNothing t.tx.attempts.caller) (starting_new t is) (renewed_adds t.tx.attempts.caller)
    ]

-- a caller has the objects of its table
pub objects_are : (k : Caller AnyLaw) → objects_of k ≡ objects_there (home_of k)
objects_are (Dstm k) = refl
objects_are (Tl2 k) = refl

-- where no transaction is under way none goes on
pub never_begun : (t : Thread) → t.begun ≡ false → MayCall t → goes_on t.tx.attempts.caller ≡ true → ⊥
never_begun t none may goes = not_both t.begun may.begun none

-- an attempt that begins, of a transaction that may not go on as it is
pub begins_from : (holds : AnyLaw → List Val → Type 0) (t new : Thread) (k : Caller AnyLaw) (code : Code) → k ≡ starting t →
    (MayCall t → goes_on t.tx.attempts.caller ≡ true → ⊥) → (code ≡ Done) ⊎ (code ≡ Spent) →
    (code ≡ Done → HasBegun holds k new) → (code ≡ Spent → HasNoneLeft holds k new) → AddsNothing k new.tx.attempts.caller →
    BeginsOr holds t new code
begins_from holds t new k code is over tells begins spent nothing = record {
  tells = elim tells [ inl done ↦ inl done | inr none ↦ inr (inl none) ];
  begins = λ done. subst (λ (k : Caller AnyLaw). HasBegun holds k new) is (begins done);
  spent = λ none. subst (λ (k : Caller AnyLaw). HasNoneLeft holds k new) is (spent none);
  live = λ is_open. absurd (elim tells [
    | inl done ↦ done_open is_open done
    | inr none ↦ none_open is_open none
  ]);
  under_way = λ may goes. absurd (over may goes);
  nothing = nothing_twice t.tx.attempts.caller (starting t) new.tx.attempts.caller (starting_adds t)
      (subst (λ (k : Caller AnyLaw). AddsNothing k new.tx.attempts.caller) is nothing);
}
  where
    done_open : code ≡ Open → code ≡ Done → ⊥
    done_open is_open done = cc

    none_open : code ≡ Open → code ≡ Spent → ⊥
    none_open is_open none = cc
