-- Callers of tables that are timed.
use Rattle.std.specs.Prelude.{◌≡◌, List, length}
use Rattle.bench.specs.declared.scale.load.TheConstants.{LAYOUT}
use Rattle.dstm_mem.specs.declared.size.OfSize.{OfSize}
use Rattle.dstm_model.specs.declared.value.Val.{Val}
use Rattle.dstm_store.specs.declared.law.StoreLaw.{StoreLaw}
use Rattle.dstm_store.specs.Whole.{IsLawful}
use Rattle.dstm_tables.specs.Callers.{AtRest, home_of, law_of}
use Rattle.dstm_tables.specs.declared.tables.Caller.{Caller}
use Rattle.dstm_tables.specs.declared.tables.Table.{Table}

-- a caller is one of the table, which is under this law, and is between two attempts
pub record IsReady {L : Type 0} (holds : L → List Val → Type 0) (table : Table L) (rule : L) (k : Caller L) : Type 0 where
  pub home : home_of k ≡ table
  pub law : law_of k ≡ rule
  pub rest : AtRest holds k

-- one of a table of so many objects
abbrev pub IsReadyOn : Table OfSize → OfSize → Caller OfSize → Type 0
IsReadyOn table law k = IsReady (λ size map. length map ≡ size.objects) table law k

-- one of a table with the store of all loads
abbrev pub IsSeated : Table StoreLaw → Caller StoreLaw → Type 0
IsSeated table k = IsReady (λ law map. IsLawful law.layout map) table (record { layout = LAYOUT }) k
