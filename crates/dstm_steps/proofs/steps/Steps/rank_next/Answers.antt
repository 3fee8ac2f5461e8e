use Rattle.std.proofs.Common.{◌∙◌, refl, ap}
use Rattle.dstm_core.specs.declared.event.Kind.TheVariants.{Rank}
use Rattle.dstm_core.specs.Words.{place}
use Rattle.dstm_core.specs.Words.Word.{RankWord}
use Rattle.dstm_machines.specs.Traces.Access.{Store}
use Rattle.dstm_steps.proofs.Stepping.{may_make, took}
use Rattle.dstm_steps.proofs.Unused.{next_in_shape}
use Rattle.dstm_steps.proofs.steps.Steps.rank_next.Goals as goal

pub rank-place-requires-clause-below : goal.rank-place-requires-clause-below
rank-place-requires-clause-below g c =
    next_in_shape c.requires.under c.requires.next c.requires.number c.requires.unused

pub store-requires-clause-allowed : goal.store-requires-clause-allowed
store-requires-clause-allowed g c =
    let at = c.rank-place.ensures ∙ ap (λ s. place s (RankWord c.args.next)) c.requires.under.shape in
    may_make c.requires.under (Store c.args.rank) Rank c.rank-place.result (λ q. absurd (cc)) (record {
      place = rw (c.requires.outside, c.requires.next) at;
      access = refl;
      may = rw c.requires.outside (c.requires.number, c.requires.unused, c.requires.may);
    })

pub returns-clause-state : goal.returns-clause-state
returns-clause-state g c =
    let went = took c.requires.under {new = record c.args.self.now { seat = c.store.new.self; rank = c.args.rank }}
    (Store c.args.rank) c.store.ensures.event.1 c.store.ensures.seat (refl, refl) in
    rw (went.state, c.requires.outside) refl

pub returns-clause-under : goal.returns-clause-under
returns-clause-under g c =
    let m = c.requires.under.mirror in
    let went = took c.requires.under {new = record c.args.self.now { seat = c.store.new.self; rank = c.args.rank }}
    (Store c.args.rank) c.store.ensures.event.1 c.store.ensures.seat (refl, refl) in
    went.goes_on _ refl (record {
      shape = refl;
      manager = refl;
      mirror = record { own = m.own; installed = m.installed; rank = refl };
      effort = refl;
    })
