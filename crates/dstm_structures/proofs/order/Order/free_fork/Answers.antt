use Rattle.std.proofs.Common.{arith}
use Rattle.dstm_structures.specs.Effects.{goes-again, goes-still}
use Rattle.dstm_structures.proofs.Doing.{does-as, does-still, then-read}
use Rattle.dstm_structures.proofs.Tipping.{fork_found, fork_passed, forks_end, forks_start}
use Rattle.dstm_structures.proofs.order.Order.free_fork.Goals as goal

pub loop-passed-init : goal.loop-passed-init
loop-passed-init g c = (
  goes-still,
  does-still (λ values. forks_start c.args.self.cells c.args.home values),
  λ m. m,
  λ m. m,
)

pub returns-then-held-eq0-clause-seeks : goal.returns-then-held-eq0-clause-seeks
returns-then-held-eq0-clause-seeks g c =
    then-read c.loop-passed.invariant.0.keeps c.loop-passed.invariant.1 c.in_ok-held.ensures.gets
    (λ before mid after size p reads. fork_found c.args.self.cells c.args.home c.loop-passed.passed
    c.behind-cell.result c.fork_at.result.object c.in_ok-held.held before mid after
    c.behind-cell.ensures.behind c.fork_at.ensures p reads c.if-held-eq0.true)

pub loop-passed-preserved : goal.loop-passed-preserved
loop-passed-preserved g c = (
  goes-again c.loop-passed.invariant.0 (record { keeps = c.in_ok-held.ensures.keeps; notes = c.in_ok-held.ensures.notes }),
  then-read c.loop-passed.invariant.0.keeps c.loop-passed.invariant.1 c.in_ok-held.ensures.gets
      (λ before mid after size p reads. fork_passed c.args.self.cells c.args.home c.loop-passed.passed
      c.behind-cell.result c.fork_at.result.object c.in_ok-held.held before mid after
      c.behind-cell.ensures.behind c.fork_at.ensures p reads (λ e. c.if-held-eq0.false e)),
  λ m. c.in_ok-held.ensures.may,
  λ m. c.in_ok-held.ensures.together,
)

pub returns-clause-seeks : goal.returns-clause-seeks
returns-clause-seeks g c =
    does-as c.loop-passed.invariant.1
    (λ before after size. forks_end c.args.self.cells c.args.home c.loop-passed.passed before after c.requires (omega (arith, c.loop-passed-test.false)))

pub returns-then-held-eq0-clause-may : goal.returns-then-held-eq0-clause-may
returns-then-held-eq0-clause-may g c m = c.in_ok-held.ensures.may

pub returns-then-held-eq0-clause-together : goal.returns-then-held-eq0-clause-together
returns-then-held-eq0-clause-together g c m = c.in_ok-held.ensures.together
