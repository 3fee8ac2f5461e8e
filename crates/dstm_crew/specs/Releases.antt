-- Private: when walks along the list let reads go.
use Rattle.std.specs.Prelude.{◌&&◌, Bool, true, false, not}
use Rattle.dstm_options.specs.declared.options.Engine.{Engine}
use Rattle.dstm_options.specs.declared.options.Engine.TheVariants.{Dstm, Tl2}
use Rattle.dstm_options.specs.declared.options.Options.{Options}

abbrev pub is_dstm : Engine → Bool
is_dstm Dstm = true
is_dstm Tl2 = false

-- under DSTM, where the options ask for it and reads stay reads
abbrev pub releases : Options → Bool
releases options = is_dstm options.engine && (options.release && not options.all_write)
