use Rattle.std.proofs.Common.{◌≡◌, ◌∙◌, ◌++◌, ◌∷◌, List, [], ap, append_assoc, arith, length, subst, sym}
use Rattle.std.proofs.lemmas.List.{length-append, length_push}
use Rattle.std.specs.Prelude.{slice_index_or}
use Rattle.std.specs.Vec.Iter.{into_iter_items}
use Rattle.dstm_tables.specs.Callers.{home_of}
use Rattle.dstm_tables.specs.Founders.{Retires}
use Rattle.dstm_cells.specs.Runs.{caller_at}
use Rattle.dstm_cells.specs.declared.memory.Seat.{Seat}
use Rattle.dstm_cells.proofs.Running.{at_length, in_turn_next}
use Rattle.dstm_cells.proofs.memory.Memory.retire_all.Goals as goal

pub retire-requires : goal.retire-requires
retire-requires g c =
    let yielded = c.loop-seat.yielded in
    let seat : Seat _ = c.in-Some.seat in
    let rest = into_iter_items c.next.new.self in
    let are : yielded ++ seat ∷ rest ≡ c.args.seats.items =
    subst (λ (ss : List (Seat _)). yielded ++ ss ≡ c.args.seats.items) c.in-Some.ensures.steps.0 c.loop-seat.invariant.rest in
    let all = ap (λ (ss : List (Seat _)). length ss) are in
    let more = length-append yielded (seat ∷ rest) in
    record {
      table = c.loop-seat.invariant.table;
      part = subst (λ (s : Seat _). home_of s.me.tx.attempts.caller ≡ c.args.table.now)
          (ap (λ (ss : List (Seat _)). slice_index_or ss (length yielded) seat) (sym are) ∙ at_length yielded rest seat seat)
          (c.requires.parts (length yielded) seat (omega (arith, all, more)));
    }

pub loop-seat-preserved : goal.loop-seat-preserved
loop-seat-preserved g c =
    let before = c.loop-seat.invariant in
    let yielded = c.loop-seat.yielded in
    let seat : Seat _ = c.in-Some.seat in
    let rest = into_iter_items c.next.new.self in
    let are : yielded ++ seat ∷ rest ≡ c.args.seats.items =
    subst (λ (ss : List (Seat _)). yielded ++ ss ≡ c.args.seats.items) c.in-Some.ensures.steps.0 before.rest in
    record {
      rest = append_assoc yielded (seat ∷ []) rest ∙ are;
      table = c.retire.ensures.table;
      takes = λ other.
          let here : caller_at c.args.seats.items other (length yielded) ≡ seat.me.tx.attempts.caller =
          ap (λ (ss : List (Seat _)). caller_at ss other (length yielded)) (sym are)
          ∙ ap (λ (s : Seat _). s.me.tx.attempts.caller) (at_length yielded rest seat other) in
          in_turn_next (λ old new number k. Retires g.L.Law.holds old new k) (length yielded) (length (yielded ++ seat ∷ [])) c.args.founder.now
          c.loop-seat.founder c.retire.new.founder (caller_at c.args.seats.items other) (before.takes other)
          (subst (Retires g.L.Law.holds c.loop-seat.founder c.retire.new.founder) (sym here) c.retire.ensures.retired)
          (length_push yielded seat);
    }
