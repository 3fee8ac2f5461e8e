use Rattle.std.proofs.Common.{◌∙◌, ◌≡◌, List, Ok, Err, ap, false, refl, subst, sym, ℕ, Some}
use Rattle.std.specs.Prelude.{IfErr, IsSome, IsTrue, OnOk, Result}
use Rattle.dstm_model.specs.declared.value.Val.{Val}
use Rattle.dstm_mem.proofs.InTheEnd.{in_the_end}
use Rattle.dstm_engine.specs.Attempts.{Admits}
use Rattle.dstm_engine.specs.Callers.{is_live, live_held, live_opened, shape_of, written}
use Rattle.dstm_engine.specs.Transactions.{tx_place}
use Rattle.dstm_engine.specs.declared.tx.Tx.{Tx}
use Rattle.dstm_store.specs.declared.law.StoreLaw.{StoreLaw}
use Rattle.dstm_jobs.specs.Law.{keeps}
use Rattle.dstm_jobs.proofs.dstm.run.Goals.{After-tx-1}
use Rattle.dstm_jobs.proofs.dstm.run.Goals as goal

-- The attempt ends as the body left it, since the opener has the reference that it was made with.

same : (c : After-tx-1) → c.tx-1.given.0 ≡ c.run.new.mem.tx.now
same c =
    in_the_end (λ (x : Tx StoreLaw). x ≡ c.run.new.mem.tx.now) _ _ c.tx-1.given.0 c.run.new.mem.tx.now (assumption c)
    (sym (ap (λ p. p.1) c.run.ensures.leads.place)) refl

in_case : {T E X Y : Type 0} (r : Result T E) → (X → Y) → OnOk r X → OnOk r Y
in_case (Ok v) f is = f is
in_case (Err e) f is = tt

pub returns-clause-lawful : goal.returns-clause-lawful
returns-clause-lawful c =
    let is = same (goal.at.returns-clause-lawful c).After-tx-1 in
    rw is c.run.ensures.lawful

pub returns-clause-right : goal.returns-clause-right
returns-clause-right c =
    let is = same (goal.at.returns-clause-right c).After-tx-1 in
    rw is c.run.ensures.right

pub returns-clause-leads : goal.returns-clause-leads
returns-clause-leads c =
    let leads = c.run.ensures.leads in
    let k = c.args.tx.now.caller.now in
    let is = same (goal.at.returns-clause-leads c).After-tx-1 in
    record {
      place = ap (λ (x : Tx StoreLaw). tx_place x.caller.ghost_name x.stm.now x.caller.now) is ∙ ap (λ p. p.0.0) leads.place;
      objects = ap (λ (x : Tx StoreLaw). (shape_of x.caller.now).objects) is ∙ leads.objects;
      narrows = λ map a. leads.narrows map (subst (λ (x : Tx StoreLaw). Admits keeps x.caller.now map) is a);
      admits = subst (λ (x : Tx StoreLaw). OnOk c.run.result ((map : List Val) × Admits keeps x.caller.now map)) (sym is)
          leads.admits;
      live = subst (λ (x : Tx StoreLaw). OnOk c.run.result (IsTrue (is_live x.caller.now))) (sym is) leads.live;
      holds = subst (λ (x : Tx StoreLaw). OnOk c.run.result
          ((o : ℕ) → IsSome (live_held k o) → live_held x.caller.now o ≡ live_held k o)) (sym is) leads.holds;
      ended = subst (λ (x : Tx StoreLaw). IfErr c.run.result (λ e.
          (is_live x.caller.now ≡ false) × (x.caller.now.left ≡ Some e))) (sym is) leads.ended;
    }

pub returns-clause-outside : goal.returns-clause-outside
returns-clause-outside c =
    let is = same (goal.at.returns-clause-outside c).After-tx-1 in
    rw is (in_case c.run.result (λ leaves. leaves.1) c.run.ensures.leaves)

pub returns-clause-looks : goal.returns-clause-looks
returns-clause-looks c =
    let is = same (goal.at.returns-clause-looks c).After-tx-1 in
    in_case c.run.result (λ looks blocked. record {
      sets = λ o. ap (λ (x : Tx StoreLaw). written x.caller.now o) is ∙ (looks blocked).sets o;
      opens = λ reads o. ap (λ (x : Tx StoreLaw). live_opened x.caller.now o) is ∙ (looks blocked).opens reads o;
    }) c.run.ensures.looks
