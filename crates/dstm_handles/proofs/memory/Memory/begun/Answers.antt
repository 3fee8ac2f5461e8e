use Rattle.std.proofs.Common.{subst, sym}
use Rattle.dstm_model.specs.contracts.value.AnyLawLaw.TheImpl as TheLaw
use Rattle.dstm_model.specs.declared.value.AnyLaw.{AnyLaw}
use Rattle.dstm_tables.specs.Founders.{Enrols, founded}
use Rattle.dstm_tables.specs.declared.tables.Table.{Table}
use Rattle.dstm_handles.specs.Memories.{StartsWith, table_at}
use Rattle.dstm_handles.specs.declared.thread.Thread.{Thread}
use Rattle.dstm_handles.proofs.memory.Memory.begun.Goals as goal

pub returns-clause-starts : goal.returns-clause-starts
returns-clause-starts c =
    subst (StartsWith c.args.self.now.values.items) (sym c.in_ok-part.ensures.part) c.in_ok-home.ensures.starts

pub returns-clause-enrols : goal.returns-clause-enrols
returns-clause-enrols c =
    let holds = TheLaw.holds-value.it in
    let home = c.in_ok-home.home in
    let new = c.part.new.self in (
      home.founder,
      subst (λ (table : Table AnyLaw). Enrols holds (founded table) home.founder 0 new.last.tx.attempts.caller) (sym c.part.ensures.table)
          (subst (λ (last : Thread). Enrols holds (founded (table_at home)) home.founder 0 last.tx.attempts.caller) (sym c.part.ensures.own)
          c.in_ok-home.ensures.own),
      c.in_ok-part.ensures.enrols,
    )
