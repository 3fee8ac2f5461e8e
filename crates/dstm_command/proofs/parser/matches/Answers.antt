use Rattle.clap.proofs.WalkLemmas.{both}
use Rattle.dstm_command.proofs.parser.matches.Goals as goal

-- a command without rules between its arguments is simple
pub returns-in-Ok-clause-ok : goal.returns-in-Ok-clause-ok
returns-in-Ok-clause-ok c = (c.in-Ok.ensures.matches (both _ _ c.requires).0).0
