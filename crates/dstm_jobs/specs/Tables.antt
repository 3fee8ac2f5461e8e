-- Tables of either engine under the law of the store, and their callers.
use Rattle.std.specs.Prelude.{ℕ, Bool, List, Option}
use Rattle.dstm_model.specs.declared.value.Val.{Val}
use Rattle.dstm_model.specs.declared.layout.Layout.{Layout}
use Rattle.dstm_options.specs.declared.options.Engine.{Engine}
use Rattle.dstm_options.specs.declared.options.Engine.TheVariants as engine
use Rattle.dstm_store.specs.declared.law.StoreLaw.{StoreLaw}
use Rattle.dstm_tables.specs.Callers as callers
use Rattle.dstm_tables.specs.Founders as founders
use Rattle.dstm_tables.specs.Tells as tells
use Rattle.dstm_tables.specs.Tells.{law_told}
use Rattle.dstm_tables.specs.Tries as tries
use Rattle.dstm_tables.specs.declared.founding.Founder as founder
use Rattle.dstm_tables.specs.declared.tables.Caller as caller
use Rattle.dstm_tables.specs.declared.tables.Round as round
use Rattle.dstm_tables.specs.declared.tables.Round.TheVariants.{Dstm, Tl2}
use Rattle.dstm_tables.specs.declared.tables.Table as table
use Rattle.dstm_jobs.specs.Law.{keeps}

abbrev pub Table : Type 0
Table = table.Table StoreLaw

abbrev pub Founder : Type 0
Founder = founder.Founder StoreLaw

abbrev pub Caller : Type 0
Caller = caller.Caller StoreLaw

abbrev pub Round : Type 0
Round = round.Round StoreLaw

-- ---- what is known of a table

-- it is a table of this engine
abbrev pub IsOf : Engine → Round → Type 0
IsOf engine.Dstm (Dstm r) = Unit {0}
IsOf engine.Tl2 (Tl2 r) = Unit {0}
IsOf e r = ⊥

abbrev pub layout_of : Round → Layout
layout_of r = (law_told r).layout

abbrev pub IsRun : Round → Type 0
IsRun r = tells.IsRun keeps r

-- ---- callers

abbrev pub AtRest : Caller → Type 0
AtRest k = callers.AtRest keeps k

abbrev pub GivesOut : Table → (f g : Founder) → (seed : ℕ) → Caller → Type 0
GivesOut t f g seed k = founders.GivesOut keeps t f g seed k

-- ---- what attempts leave

abbrev pub GoesOn : (k n : Caller) → Type 0
GoesOn k n = tries.GoesOn keeps k n

abbrev pub OneMore : (k n : Caller) → Type 0
OneMore k n = tries.OneMore keeps k n

abbrev pub Did : (is_right : List Val → List Val → Type 0) → (leaves : (ℕ → Option Val) → (ℕ → Bool) → Type 0) →
    (k n : Caller) → (number : ℕ) → Type 0
Did is_right leaves k n number = tries.Did keeps is_right leaves k n number

abbrev pub WasKept : (rechecks : ℕ) → (k n : Caller) → Type 0
WasKept rechecks k n = tries.WasKept keeps rechecks k n

abbrev pub IsSpentFrom : (k n : Caller) → Type 0
IsSpentFrom k n = tries.IsSpentFrom keeps k n
