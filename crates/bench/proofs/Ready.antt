-- Callers stay ready.
use Rattle.std.proofs.Common.{◌≡◌, ◌∙◌, ℕ, List, Result, Ok, Err, ap, refl, sym}
use Rattle.std.specs.Prelude.{Bool, IfErr, IfOk, Option}
use Rattle.bench.specs.Ready.{IsReady}
use Rattle.dstm_model.specs.declared.value.Val.{Val}
use Rattle.dstm_tables.specs.Callers.{home_of, law_of}
use Rattle.dstm_tables.specs.Founders.{GivesOut, founded, home_there, made_of}
use Rattle.dstm_tables.specs.Tables.{law_there}
use Rattle.dstm_tables.specs.Tries.{Did, EndsBy, GoesOn}
use Rattle.dstm_tables.specs.declared.attempting.Ended.{Ended}
use Rattle.dstm_tables.specs.declared.attempting.Ended.TheVariants.{Again, Spent}
use Rattle.dstm_tables.specs.declared.founding.Founder.{Founder}
use Rattle.dstm_tables.specs.declared.tables.Caller.{Caller}
use Rattle.dstm_tables.specs.declared.tables.Caller.TheVariants as caller
use Rattle.dstm_tables.specs.declared.tables.Table.{Table}
use Rattle.dstm_tables.specs.declared.tables.Table.TheVariants.{Dstm, Tl2}

module _ {L : Type 0} where
  -- the founder of a new table is that of this table
  pub founded_home : (t : Table L) → home_there (founded t) ≡ t
  founded_home (Dstm h) = refl
  founded_home (Tl2 h) = refl

  -- and has made no caller
  pub founded_none : (t : Table L) → made_of (founded t) ≡ 0
  founded_none (Dstm h) = refl
  founded_none (Tl2 h) = refl

  -- the law of a caller is its table's
  law_is : (k : Caller L) → law_of k ≡ law_there (home_of k)
  law_is (caller.Dstm k) = refl
  law_is (caller.Tl2 k) = refl

  module _ {holds : L → List Val → Type 0} where
    -- one that was just given out is ready
    pub ready_first : {t : Table L} {law : L} {f g : Founder L} {seed : ℕ} {k : Caller L} → law_there t ≡ law →
        GivesOut holds t f g seed k → IsReady holds t law k
    ready_first {k = k} under given = record {
      home = given.home;
      law = law_is k ∙ ap law_there given.home ∙ under;
      rest = given.rest;
    }

    -- and stays so by attempts
    pub ready_on : {t : Table L} {law : L} {k n : Caller L} → IsReady holds t law k → GoesOn holds k n → IsReady holds t law n
    ready_on {k = k} {n = n} ready on = record {
      home = on.home ∙ ready.home;
      law = law_is n ∙ ap law_there on.home ∙ sym (law_is k) ∙ ready.law;
      rest = on.rest;
    }

    -- it goes on however an attempt ends
    pub on_either : (is_right : List Val → List Val → Type 0) (leaves : (ℕ → Option Val) → (ℕ → Bool) → Type 0)
        (k n : Caller L) (r : Result ℕ Ended) → IfOk r (Did holds is_right leaves k n) → IfErr r (EndsBy holds k n) →
        GoesOn holds k n
    on_either is_right leaves k n (Ok number) did ends = did.made.on
    on_either is_right leaves k n (Err Again) did ends = ends.made.on
    on_either is_right leaves k n (Err Spent) did ends = ends.on
