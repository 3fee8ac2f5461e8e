use Rattle.std.proofs.Common.{◌≡◌, ap, refl, sym}
use Rattle.dstm_mem.proofs.InTheEnd.{in_the_end}
use Rattle.dstm_engine.specs.declared.tx.Tx.{Tx}
use Rattle.dstm_engine.proofs.opener.run_by.Goals as goal

-- The attempt ends as the body left it, since the opener has the reference that it was made with.

pub returns-clause-leads : goal.returns-clause-leads
returns-clause-leads g c =
    let leads = c.run.ensures.leads in
    let n = c.run.new.on.tx.now in
    let is : c.tx-1.given.0 ≡ n =
    in_the_end (λ (x : Tx _). x ≡ n) _ _ c.tx-1.given.0 n (assumption c) (sym (ap (λ p. p.1) leads.place)) refl in
    let place = ap (λ p. p.0.0) leads.place in
    rw is (assumption (place, leads))

pub returns-clause-most : goal.returns-clause-most
returns-clause-most g c =
    let n = c.run.new.on.tx.now in
    let is : c.tx-1.given.0 ≡ n =
    in_the_end (λ (x : Tx _). x ≡ n) _ _ c.tx-1.given.0 n (assumption c) (sym (ap (λ p. p.1) c.run.ensures.leads.place)) refl in
    rw is c.run.ensures.few
