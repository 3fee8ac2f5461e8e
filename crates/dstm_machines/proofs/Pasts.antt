-- The pasts of a trace.
use Rattle.std.proofs.Common.{List, [], ◌∷◌, ◌++◌, refl, ap, ◌∙◌, append_assoc, subst, sym}
use Rattle.dstm_machines.specs.declared.event.Event.{Event}
use Rattle.dstm_machines.specs.Machines.{Machine, Run}
use Rattle.dstm_machines.specs.Traces.{IsPastOf}
use Rattle.dstm_machines.proofs.Runs.{run_past}

module _ {K : Type 0} where
  pub past_self : (trace : List (Event K)) → IsPastOf trace trace
  past_self trace = record { later = []; whole = refl }

  -- a past stays one
  pub past_more : (before trace : List (Event K)) (e : Event K) → IsPastOf before trace →
      IsPastOf before (e ∷ trace)
  past_more before trace e p = record { later = e ∷ p.later; whole = ap (λ xs. e ∷ xs) p.whole }

  -- a past of a past is one
  pub past_past : (first before trace : List (Event K)) → IsPastOf first before → IsPastOf before trace →
      IsPastOf first trace
  past_past first before trace p q = record {
    later = q.later ++ p.later;
    whole = append_assoc q.later p.later first ∙ ap (λ xs. q.later ++ xs) p.whole ∙ q.whole;
  }

  -- no events are a past of every trace
  pub past_all : (trace : List (Event K)) → IsPastOf [] trace
  past_all [] = past_self []
  past_all (e ∷ trace) = past_more [] trace e (past_all trace)

-- a past of a run is one
pub run_before : {K T S : Type 0} (machine : Machine K T S) (table : T) (before trace : List (Event K)) →
    IsPastOf before trace → Run machine table trace → Run machine table before
run_before machine table before trace p run =
    run_past machine table p.later before (subst (Run machine table) (sym p.whole) run)
