use Rattle.std.specs.Prelude.{Result}
use Rattle.std.proofs.Common.{◌≡◌, ◌≤◌, ◌∙◌, ap, arith, inl, inr, of_calls, refl, subst, suc, sym, zero}
use Rattle.std.specs.Fn.{CalledAtMut}
use Rattle.dstm_tables.specs.declared.tables.Caller.{Caller}
use Rattle.dstm_attempts.specs.Attempts.{AddsNothing, IsQuit, attempt, attempts_of, begun}
use Rattle.dstm_cells.specs.Attempts.{IsLeft, StaysFor}
use Rattle.dstm_cells.specs.Closures.{CalledAnew, KeepsEach, TriesOn}
use Rattle.dstm_cells.specs.declared.error.Stop.{Stop}
use Rattle.dstm_cells.specs.declared.thread.Part.{Part}
use Rattle.dstm_attempts.proofs.UnderWay.{adds_nothing, begins_none, nothing_twice, renewed_quit, spent_at}
use Rattle.dstm_cells.proofs.Calling.{called_at, called_from, if_err, is_err}
use Rattle.dstm_cells.proofs.Resting.{goes_on_within}
use Rattle.dstm_cells.proofs.Spending.{renewed_nothing, same_attempts}
use Rattle.dstm_cells.proofs.Waiting.{kept_nothing, stop_nothing}
use Rattle.dstm_cells.proofs.thread.Part.make.Given.{Over}
use Rattle.dstm_cells.proofs.thread.Part.make.Goals as goal
use Rattle.dstm_cells.proofs.thread.Part.make.Goals.{After-f, in-Ok+else-end, in-Err+in_ok-leave-in-Err}

pub end-requires : goal.end-requires
end-requires g c =
    let call = called_at g.F.FnMut c.loop-number.f c.f.new.self _ _ _ c.f.ensures in
    record {
      lawful = λ commits.
          c.requires.lawful c.loop-number.f c.f.new.self c.begin.new.self c.f.new.arg2 _ (sym c.commits.ensures ∙ commits)
          (subst (λ r. CalledAtMut g.F.FnMut c.loop-number.f c.begin.new.self r c.f.new.self c.f.new.arg2) c.in-Ok.is call)
          c.in_ok-begin.ensures.begins.untouched;
    }

-- the closure was called on an attempt that had begun, and all before it came to nothing
abbrev reached : (g : Over) (c : After-f g) → KeepsEach g.X.Transaction.caller g.F.FnMut → (answer : Result g.row.R.Denot Stop) → c.f.result ≡ answer →
    CalledAnew g.X.Transaction.caller g.F.FnMut g.X.Rule.Law.holds g.X.Transaction.patience
    (g.X.Transaction.caller c.args.self.now.tx) c.args.f answer
reached g c keeps answer is = record {
  before = g.X.Transaction.caller c.loop-number.self.tx;
  reached = c.loop-number.f;
  tried = (c.loop-number.invariant.1 keeps).0;
  after = c.f.new.self;
  on = called_from g.X.Transaction.caller g.F.FnMut _ _ c.loop-number.f c.f.new.self _ _ _ _ c.in_ok-begin.ensures.begins keeps
      c.f.ensures is;
}

-- the closure was called on an attempt, and nothing was committed before
called_nothing : (g : Over) (c : After-f g) → KeepsEach g.X.Transaction.caller g.F.FnMut →
    AddsNothing (g.X.Transaction.caller c.args.self.now.tx) (g.X.Transaction.caller c.f.new.arg2)
called_nothing g c keeps =
    let caller = g.X.Transaction.caller in
    let call = called_at g.F.FnMut c.loop-number.f c.f.new.self _ _ _ c.f.ensures in
    nothing_twice (caller c.args.self.now.tx) (caller c.loop-number.self.tx) (caller c.f.new.arg2)
    (c.loop-number.invariant.1 keeps).0.nothing
    (nothing_twice (caller c.loop-number.self.tx) (caller c.begin.new.self) (caller c.f.new.arg2) c.begin.ensures.nothing
    (adds_nothing (caller c.begin.new.self) (caller c.f.new.arg2) (keeps _ _ _ _ _ call)))

pub returns-then-end-clause-took : goal.returns-then-end-clause-took
returns-then-end-clause-took g c keeps commits = record {
  last = reached g (goal.at.returns-then-end-clause-took g c).After-f keeps _ c.in-Ok.is;
  takes = c.end.ensures.takes (c.commits.ensures ∙ commits) c.if-end.true;
}

pub returns-then-end-clause-left : goal.returns-then-end-clause-left
returns-then-end-clause-left g c keeps commits =
    let after = (goal.at.returns-then-end-clause-left g c).After-f in
    let left = c.end.ensures.leaves (c.commits.ensures ∙ commits) in
    record {
      last = reached g after keeps _ c.in-Ok.is;
      left = subst (λ live. IsLeft g.X.Rule.Law.holds live (g.X.Transaction.caller c.f.new.arg2) (g.X.Transaction.caller c.end.new.tx)) c.if-end.true left;
      nothing = nothing_twice (g.X.Transaction.caller c.args.self.now.tx) (g.X.Transaction.caller c.f.new.arg2) _
          (called_nothing g after keeps) (adds_nothing (g.X.Transaction.caller c.f.new.arg2) _ left.keeps);
    }

pub returns-in_err-leave-in-Err-clause-nothing : goal.returns-in_err-leave-in-Err-clause-nothing
returns-in_err-leave-in-Err-clause-nothing g c keeps =
    let caller = g.X.Transaction.caller in
    if_err c.from_residual-in_err-leave-in-Err.result
    (nothing_twice (caller c.args.self.now.tx) (caller c.f.new.arg2) (caller c.leave.new.self)
    (called_nothing g (goal.at.returns-in_err-leave-in-Err-clause-nothing g c).After-f keeps)
    (stop_nothing c.in-Err.stop.why (caller c.f.new.arg2) (caller c.leave.new.self) c.leave.ensures.stays).0)

pub returns-in_err-leave-in-Err-clause-why : goal.returns-in_err-leave-in-Err-clause-why
returns-in_err-leave-in-Err-clause-why g c keeps =
    let why = c.in_err-leave-in-Err.field-0.0 in
    is_err c.from_residual-in_err-leave-in-Err.result why _ c.from_residual-in_err-leave-in-Err.ensures.1
    (inr (record {
      stop = c.in-Err.stop;
      last = reached g (goal.at.returns-in_err-leave-in-Err-clause-why g c).After-f keeps _ c.in-Err.is;
      follows = rw c.in_err-leave-in-Err.was at c.leave.ensures.follows;
      leaves = c.leave.ensures.stays;
    }))

pub returns-in_err-begin-clause-nothing : goal.returns-in_err-begin-clause-nothing
returns-in_err-begin-clause-nothing g c keeps =
    if_err c.from_residual.result
    (nothing_twice (g.X.Transaction.caller c.args.self.now.tx) (g.X.Transaction.caller c.loop-number.self.tx)
    (g.X.Transaction.caller c.begin.new.self) (c.loop-number.invariant.1 keeps).0.nothing c.begin.ensures.nothing)

pub returns-clause-nothing : goal.returns-clause-nothing
returns-clause-nothing g c keeps = (c.loop-number.invariant.1 keeps).0.nothing

pub returns-clause-why : goal.returns-clause-why
returns-clause-why g c keeps =
    let caller = g.X.Transaction.caller in
    let first = caller c.args.self.now.tx in
    let (tried, begun) = c.loop-number.invariant.1 keeps in
    inl (
      refl,
      record {
        before = caller c.loop-number.self.tx;
        reached = c.loop-number.f;
        tried = tried;
        none = refl;
        unbegun = inl refl;
        spent = spent_at (caller c.loop-number.self.tx) c.attempts-number-end.result
            (c.attempts-number-end.ensures ∙ ap (λ (k : Caller _). attempts_of k) c.renew.ensures.caller ∙ same_attempts first _ (renewed_nothing first).home
            ∙ sym (same_attempts first (caller c.loop-number.self.tx) tried.nothing.home))
            (omega (arith, begun, c.loop-number-test.false));
      },
    )

pub returns-in_err-begin-clause-why : goal.returns-in_err-begin-clause-why
returns-in_err-begin-clause-why g c keeps =
    let why = c.in_err-begin.field-0.0 in
    is_err c.from_residual.result why _ c.from_residual.ensures.1
    (inl (
      c.in_err-begin.ensures.spent.0,
      record {
        before = g.X.Transaction.caller c.loop-number.self.tx;
        reached = c.loop-number.f;
        tried = (c.loop-number.invariant.1 keeps).0;
        none = c.in_err-begin.ensures.none;
        unbegun = inr c.in_err-begin.ensures.unbegun;
        spent = c.in_err-begin.ensures.spent.1;
      },
    ))

pub returns-then-end-clause-home : goal.returns-then-end-clause-home
returns-then-end-clause-home g c keeps =
    c.end.ensures.home ∙ (called_nothing g (goal.at.returns-then-end-clause-home g c).After-f keeps).home

pub returns-in_err-leave-in-Err-clause-home : goal.returns-in_err-leave-in-Err-clause-home
returns-in_err-leave-in-Err-clause-home g c keeps =
    let caller = g.X.Transaction.caller in
    (stop_nothing c.in-Err.stop.why (caller c.f.new.arg2) (caller c.leave.new.self) c.leave.ensures.stays).0.home
    ∙ (called_nothing g (goal.at.returns-in_err-leave-in-Err-clause-home g c).After-f keeps).home

pub returns-in_err-begin-clause-home : goal.returns-in_err-begin-clause-home
returns-in_err-begin-clause-home g c keeps = c.begin.ensures.nothing.home ∙ (c.loop-number.invariant.1 keeps).0.nothing.home

pub returns-clause-home : goal.returns-clause-home
returns-clause-home g c keeps = (c.loop-number.invariant.1 keeps).0.nothing.home

pub returns-then-end-clause-quit : goal.returns-then-end-clause-quit
returns-then-end-clause-quit g c quit = c.end.ensures.quit

pub returns-in_err-leave-in-Err-clause-quit : goal.returns-in_err-leave-in-Err-clause-quit
returns-in_err-leave-in-Err-clause-quit g c quit = c.leave.ensures.quit

pub returns-in_err-begin-clause-quit : goal.returns-in_err-begin-clause-quit
returns-in_err-begin-clause-quit g c quit = c.in_err-begin.ensures.quit

pub returns-clause-quit : goal.returns-clause-quit
returns-clause-quit g c = c.loop-number.invariant.2

pub returns-then-end-clause-patience : goal.returns-then-end-clause-patience
returns-then-end-clause-patience g c keeps =
    c.end.ensures.patience ∙ keeps _ _ _ _ _ (called_at g.F.FnMut c.loop-number.f c.f.new.self _ _ _ c.f.ensures)
    ∙ c.begin.ensures.patience ∙ c.loop-number.invariant.3 keeps

pub returns-in_err-leave-in-Err-clause-patience : goal.returns-in_err-leave-in-Err-clause-patience
returns-in_err-leave-in-Err-clause-patience g c keeps =
    c.leave.ensures.patience ∙ keeps _ _ _ _ _ (called_at g.F.FnMut c.loop-number.f c.f.new.self _ _ _ c.f.ensures)
    ∙ c.begin.ensures.patience ∙ c.loop-number.invariant.3 keeps

pub returns-in_err-begin-clause-patience : goal.returns-in_err-begin-clause-patience
returns-in_err-begin-clause-patience g c keeps = c.begin.ensures.patience ∙ c.loop-number.invariant.3 keeps

pub returns-clause-patience : goal.returns-clause-patience
returns-clause-patience g c = c.loop-number.invariant.3

pub loop-number-init : goal.loop-number-init
loop-number-init g c = (
  search of_calls,
  λ keeps. (
    record {
      count = zero;
      tries = (c.renew.ensures.caller, refl);
      nothing = subst (λ (k : Caller _). AddsNothing (g.X.Transaction.caller c.args.self.now.tx) k) (sym c.renew.ensures.caller)
          (renewed_nothing (g.X.Transaction.caller c.args.self.now.tx));
    },
    omega arith,
  ),
  λ quit. subst IsQuit (sym c.renew.ensures.caller) (renewed_quit (g.X.Transaction.caller c.args.self.now.tx) quit),
  λ keeps. c.renew.ensures.patience,
)

pub loop-number-preserved : goal.loop-number-preserved
loop-number-preserved g c = (
  search of_calls,
  λ keeps.
      let caller = g.X.Transaction.caller in
      let call = called_at g.F.FnMut c.loop-number.f c.f.new.self _ _ _ c.f.ensures in
      let called = keeps _ _ _ _ _ call in
      let (tried, begun_so_far) = c.loop-number.invariant.1 keeps in
      let began =
      nothing_twice (caller c.args.self.now.tx) (caller c.loop-number.self.tx) (caller c.begin.new.self)
      tried.nothing c.begin.ensures.nothing in
      let after = caller c.f.new.arg2 in
      let next : TriesOn caller g.F.FnMut g.X.Rule.Law.holds g.X.Transaction.patience c.f.result c.f.new.arg2 (caller c.match-f.self.tx) =
      elim c.match-f.branch [
        | in-Ok+else-end w ↦
            subst (λ (p : Part _). TriesOn caller g.F.FnMut g.X.Rule.Law.holds g.X.Transaction.patience c.f.result c.f.new.arg2 (caller p.tx)) (sym w.self-is)
            (subst (λ r. TriesOn caller g.F.FnMut g.X.Rule.Law.holds g.X.Transaction.patience r c.f.new.arg2 (caller w.end.new.tx)) (sym w.in-Ok.is)
            (w.end.ensures.keeps w.if-end.false, w.end.ensures.lost w.if-end.false))
        | in-Err+in_ok-leave-in-Err w ↦
            subst (λ (p : Part _). TriesOn caller g.F.FnMut g.X.Rule.Law.holds g.X.Transaction.patience c.f.result c.f.new.arg2 (caller p.tx)) (sym w.self-is)
            (subst (λ r. TriesOn caller g.F.FnMut g.X.Rule.Law.holds g.X.Transaction.patience r c.f.new.arg2 (caller w.leave.new.self)) (sym w.in-Err.is) (
              w.leave.ensures.stays,
              goes_on_within g.X.Rule.Law.holds g.S.Rest.tires (g.X.Transaction.patience c.f.new.arg2) w.in-Err.stop.why
                  after (caller w.leave.new.self) (rw w.in_ok-leave-in-Err.was at w.leave.ensures.follows),
            ))
      ] in
      let left : AddsNothing after (caller c.match-f.self.tx) × (begun after ≤ begun (caller c.match-f.self.tx)) =
      elim c.match-f.branch [
        | in-Ok+else-end w ↦
            kept_nothing after (caller c.match-f.self.tx)
            (ap (λ (p : Part _). attempt (caller p.tx)) w.self-is ∙ w.end.ensures.keeps w.if-end.false)
        | in-Err+in_ok-leave-in-Err w ↦
            stop_nothing w.in-Err.stop.why after (caller c.match-f.self.tx)
            (subst (λ (p : Part _). StaysFor w.in-Err.stop.why after (caller p.tx)) (sym w.self-is) w.leave.ensures.stays)
      ] in
      let same = begins_none (caller c.begin.new.self) after called in
      let one_more = c.in_ok-begin.ensures.begins.begun in
      let no_less = left.1 in (
        record {
          count = suc tried.count;
          tries = (
            caller c.loop-number.self.tx,
            c.loop-number.f,
            tried.tries,
            record {
              answer = c.f.result;
              on = called_from caller g.F.FnMut _ _ c.loop-number.f c.f.new.self _ _ _ _ c.in_ok-begin.ensures.begins keeps c.f.ensures refl;
              next = next;
            },
          );
          nothing = nothing_twice (caller c.args.self.now.tx) after (caller c.match-f.self.tx)
              (nothing_twice (caller c.args.self.now.tx) (caller c.begin.new.self) after began
              (adds_nothing (caller c.begin.new.self) after called)) left.0;
        },
        omega (arith, one_more, begun_so_far, same, no_less),
      ),
  λ quit.
      let caller = g.X.Transaction.caller in
      elim c.match-f.branch [
        | in-Ok+else-end w ↦
            subst (λ (p : Part _). IsQuit (caller p.tx)) (sym w.self-is) w.end.ensures.quit
        | in-Err+in_ok-leave-in-Err w ↦
            subst (λ (p : Part _). IsQuit (caller p.tx)) (sym w.self-is) w.leave.ensures.quit
      ],
  λ keeps.
      let patience = g.X.Transaction.patience in
      let call = called_at g.F.FnMut c.loop-number.f c.f.new.self _ _ _ c.f.ensures in
      let before = keeps _ _ _ _ _ call ∙ c.begin.ensures.patience ∙ c.loop-number.invariant.3 keeps in
      elim c.match-f.branch [
        | in-Ok+else-end w ↦ ap (λ (p : Part _). patience p.tx) w.self-is ∙ w.end.ensures.patience ∙ before
        | in-Err+in_ok-leave-in-Err w ↦ ap (λ (p : Part _). patience p.tx) w.self-is ∙ w.leave.ensures.patience ∙ before
      ],
)
