-- Callers that have come by calls.
use Rattle.std.proofs.Common.{◌≡◌, ◌∙◌, ◌++◌, ℕ, List, [], refl, sym, ap, subst, append-nil}
use Rattle.rand_pcg.specs.Lcg.{Lcg}
use Rattle.dstm_core.specs.Events.{Event}
use Rattle.dstm_core.specs.State.{LocalState, first}
use Rattle.dstm_core.specs.Traces.{events_of}
use Rattle.dstm_core.specs.declared.shape.Shape.{Shape}
use Rattle.dstm_progress.proofs.OwnEvents.{whole_state}
use Rattle.dstm_managers.specs.Choices.{started}
use Rattle.dstm_order.specs.Calls.{state_after}
use Rattle.dstm_order.specs.Made.{AreMade, events_in}
use Rattle.dstm_words.specs.Seats.{Home}
use Rattle.dstm_engine.proofs.AddingUp.{makes_both}
use Rattle.dstm_engine.specs.Callers.{Called, shape_of, state}
use Rattle.dstm_engine.specs.Makes.{Makes}
use Rattle.dstm_progress.specs.Lives.{TriesByShape}
use Rattle.dstm_machines.proofs.Own as machine
use Rattle.dstm_tl2.specs.Rules as tl2_rules
use Rattle.dstm_tl2.specs.Runs as tl2_runs
use Rattle.dstm_tl2.specs.State as tl2_state
use Rattle.dstm_tl2_order.specs.Made as tl2_made
use Rattle.dstm_tl2_order.specs.Made.{LocksItsWrites}
use Rattle.dstm_tl2_engine.proofs.Living as living
use Rattle.dstm_tl2_engine.specs.Callers as called
use Rattle.dstm_tl2_engine.specs.Callers.{TlCalled, table_of_caller}
use Rattle.dstm_tl2_engine.specs.Makes as tl2
use Rattle.dstm_tables.specs.declared.tables.Caller.{Caller}
use Rattle.dstm_tables.specs.declared.tables.Caller.TheVariants.{Dstm, Tl2}
use Rattle.dstm_tables.specs.declared.tables.Round.{Round}
use Rattle.dstm_tables.specs.declared.tables.Round.TheVariants as round
use Rattle.dstm_tables.specs.Callers.{CameByCalls, at_first, number_of, round_of, tl2_first}
use Rattle.dstm_tables.specs.Tells.{ByCalls, IsPast, SameOwn}
use Rattle.dstm_tables.specs.Tries.{GoesOn}
use Rattle.dstm_model.specs.declared.value.Val.{Val}

module _ {L : Type 0} where
  -- from a caller that had made nothing, with the generator of a seed
  pub from_first : (seed : ℕ) (u n : Called L) → events_of u.number u.log ≡ [] →
      u.generator ≡ (started (shape_of u).manager seed).generator → Makes (TriesByShape (shape_of u)) u n →
      Makes (TriesByShape (shape_of n)) (at_first seed n) n
  from_first seed u n none seeded m = record {
    calls = m.calls;
    own = m.own ∙ ap (λ (es : List Event). events_in m.calls ++ es) none;
    made = subst Made (sym shape)
        (subst (λ (g : Lcg). AreMade (shape_of u) first g (TriesByShape (shape_of u)) m.calls) seeded
        (subst (λ (l : LocalState). AreMade (shape_of u) l u.generator (TriesByShape (shape_of u)) m.calls) new m.made));
    generator = rw (m.generator, new, seeded, ← shape) refl;
    same = (refl, refl);
  }
    where
      Made : Shape → Type 0
      Made s = AreMade s first (started s.manager seed).generator (TriesByShape s) m.calls

      shape : shape_of n ≡ shape_of u
      shape = ap (λ (h : Home L). h.terms.shape) m.same.0

      new : state u ≡ first
      new = whole_state (shape_of u) u.number u.log ∙ ap (state_after (shape_of u) first) none

  -- the same by TL2
  pub tl2_from_first : (u n : TlCalled L) → events_of u.number u.log ≡ [] → tl2.Makes LocksItsWrites u n →
      tl2.Makes LocksItsWrites (tl2_first n) n
  tl2_from_first u n none m = record {
    calls = m.calls;
    own = m.own ∙ ap (λ (es : List tl2_rules.Event). tl2_made.events_in m.calls ++ es) none;
    made = rw (table, ← new) m.made;
    same = (refl, refl);
  }
    where
      table : table_of_caller n ≡ table_of_caller u
      table = ap (λ h. table_of_caller (record u { home = h })) m.same.0

      new : called.state u ≡ tl2_state.first
      new = rw (machine.whole_state tl2_runs.tl2 (table_of_caller u) u.number u.log, none) refl

  -- a caller that goes on
  pub came_on : {holds : L → List Val → Type 0} (seed : ℕ) (k n : Caller L) → GoesOn holds k n → CameByCalls seed k → CameByCalls seed n
  came_on seed (Dstm k) (Dstm n) on came =
      from_first seed (at_first seed k) n refl refl (makes_both (TriesByShape (shape_of k)) (at_first seed k) k n came on.calls)
  came_on seed (Tl2 k) (Tl2 n) on came =
      tl2_from_first (tl2_first k) n refl (living.makes_both LocksItsWrites (tl2_first k) k n came on.calls)
  came_on seed k n on came = absurd on.seen

  -- as its own log tells
  pub by_calls : (seed : ℕ) (k : Caller L) → CameByCalls seed k → ByCalls seed (round_of k) (number_of k)
  by_calls seed (Dstm k) came =
      record { calls = came.calls; own = came.own ∙ append-nil (events_in came.calls); made = came.made }
  by_calls seed (Tl2 k) came =
      record { calls = came.calls; own = came.own ∙ append-nil (tl2_made.events_in came.calls); made = came.made }

  -- and as a longer log tells, in which it made no more events
  pub calls_at_close : (seed : ℕ) (a b : Round L) (c : ℕ) → IsPast a b → SameOwn c a b → ByCalls seed a c → ByCalls seed b c
  calls_at_close seed (round.Dstm a) (round.Dstm b) c past own was =
      rw past.0 (record { calls = was.calls; own = own ∙ was.own; made = was.made })
  calls_at_close seed (round.Tl2 a) (round.Tl2 b) c past own was =
      rw past.0 (record { calls = was.calls; own = own ∙ was.own; made = was.made })
  calls_at_close seed a b c past own was = absurd past
