-- The law of the store, as a table of either engine keeps it.
use Rattle.std.specs.Prelude.{List}
use Rattle.dstm_model.specs.declared.value.Val.{Val}
use Rattle.dstm_store.specs.declared.law.StoreLaw.{StoreLaw}
use Rattle.dstm_store.specs.Whole.{IsLawful}

-- the values stand for a store
abbrev pub keeps : StoreLaw → List Val → Type 0
keeps law map = IsLawful law.layout map
