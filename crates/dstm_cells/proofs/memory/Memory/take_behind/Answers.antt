use Rattle.std.proofs.Common.{◌≤◌, ◌+◌, ◌∙◌, ap, inl, inr, subst, sym}
use Rattle.std.specs.Prelude.{slice_index_or}
use Rattle.dstm_attempts.specs.Attempts.{above}
use Rattle.dstm_tables.specs.Callers.{draws}
use Rattle.dstm_cells.specs.Cells.{ComesTooEarly, drawn_by}
use Rattle.dstm_cells.proofs.memory.Memory.take_behind.Goals.{then-not-are_before-via-then-not-are_before, then-not-are_before-via-else-not-are_before+then-not-have_drawn_all}
use Rattle.dstm_cells.proofs.memory.Memory.take_behind.Goals as goal

pub returns-clause-reads : goal.returns-clause-reads
returns-clause-reads g c =
    let (reads, is, last) = c.in_ok-values.ensures.reads in
    record {
      reads = reads;
      behind = λ k other within.
          subst (λ number. above (slice_index_or c.args.ends.now k other).newest ≤ number) (sym is)
          (c.are_before.ensures.before c.if-not-are_before.false k other within);
      all = ap (λ k. drawn_by c.args.ends.now + draws k) last
          ∙ ap (λ own. drawn_by c.args.ends.now + own) (sym c.draws.ensures)
          ∙ c.have_drawn_all.ensures.all c.if-not-have_drawn_all.false ∙ ap (λ number. number + 1) (sym is);
    }

pub returns-then-not-are_before-clause-unread : goal.returns-then-not-are_before-clause-unread
returns-then-not-are_before-clause-unread g c failed =
    let (reads, is, last) = c.in_ok-values.ensures.reads in
    inr (record {
      values = c.in_ok-values.values.items;
      reads = reads;
      amiss = elim c.then-not-are_before.branch [
        | then-not-are_before-via-then-not-are_before w ↦
            inl (subst (ComesTooEarly c.args.ends.now) (sym is) (c.are_before.ensures.early w.if-not-are_before.true))
        | then-not-are_before-via-else-not-are_before+then-not-have_drawn_all w ↦
            inr (λ all. w.have_drawn_all.ensures.missing w.if-not-have_drawn_all.true
            (ap (λ own. drawn_by c.args.ends.now + own) w.draws.ensures ∙ ap (λ k. drawn_by c.args.ends.now + draws k) (sym last)
            ∙ all ∙ ap (λ number. number + 1) is))
      ];
    })
