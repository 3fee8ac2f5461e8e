use Rattle.std.proofs.Common.{arith, refl, rules, subst, inl, inr}
use Rattle.dstm_model.specs.declared.op.Op.TheVariants.{Transfer, Balance, Total, Insert, Remove, Member, Put, Get}
use Rattle.dstm_model.specs.declared.op.Which.TheVariants as which
use Rattle.dstm_model.specs.Layout.{FitsLayout}
use Rattle.dstm_store.proofs.Parts.{by-bank, by-list, by-tree}
use Rattle.dstm_store.proofs.run.run_with.Goals as goal

pub returns-in-Transfer-clause-applies : goal.returns-in-Transfer-clause-applies
returns-in-Transfer-clause-applies g c =
    let a = c.in-Transfer in
    let fits = subst (FitsLayout c.args.layout.now) a.is c.requires.fits in
    by-bank g.M.Mem c.args.layout.now (Transfer a.source a.target a.amount) a.is refl
    (λ o named. elim named [
      | inl source ↦ omega (arith, source, fits.0)
      | inr target ↦ omega (arith, target, fits.1)
    ])
    c.transfer.ensures.applies

pub returns-in-Balance-clause-applies : goal.returns-in-Balance-clause-applies
returns-in-Balance-clause-applies g c =
    let a = c.in-Balance in
    let fits = subst (FitsLayout c.args.layout.now) a.is c.requires.fits in
    by-bank g.M.Mem c.args.layout.now (Balance a.account) a.is refl (λ o same. omega (arith, same, fits))
    c.balance.ensures

pub returns-in-Total-clause-applies : goal.returns-in-Total-clause-applies
returns-in-Total-clause-applies g c =
    by-bank g.M.Mem c.args.layout.now Total c.in-Total.is refl (λ o inside. inside) c.total.ensures.applies

pub returns-in-Insert-List-default-clause-applies : goal.returns-in-Insert-List-default-clause-applies
returns-in-Insert-List-default-clause-applies g c =
    let a = c.in-Insert-List-default in
    by-list g.M.Mem c.args.layout.now (Insert which.List a.key) (search (rules, a.is, a.which-is)) refl
    (λ o inside. inside) c.insert.ensures.applies

pub returns-in-Remove-List-default-clause-applies : goal.returns-in-Remove-List-default-clause-applies
returns-in-Remove-List-default-clause-applies g c =
    let a = c.in-Remove-List-default in
    by-list g.M.Mem c.args.layout.now (Remove which.List a.key) (search (rules, a.is, a.which-is)) refl
    (λ o inside. inside) c.remove.ensures.applies

pub returns-in-Member-List-default-clause-applies : goal.returns-in-Member-List-default-clause-applies
returns-in-Member-List-default-clause-applies g c =
    let a = c.in-Member-List-default in
    by-list g.M.Mem c.args.layout.now (Member which.List a.key) (search (rules, a.is, a.which-is)) refl
    (λ o inside. inside) c.member.ensures.applies

pub returns-in-Insert-Tree-default-clause-applies : goal.returns-in-Insert-Tree-default-clause-applies
returns-in-Insert-Tree-default-clause-applies g c =
    let a = c.in-Insert-Tree-default in
    by-tree g.M.Mem c.args.layout.now (Insert which.Tree a.key) (search (rules, a.is, a.which-is)) refl
    (λ fits. fits.0) (λ o inside. inside) c.requires.fits c.insert-in-Insert-Tree-default.ensures

pub returns-in-Remove-Tree-default-clause-applies : goal.returns-in-Remove-Tree-default-clause-applies
returns-in-Remove-Tree-default-clause-applies g c =
    let a = c.in-Remove-Tree-default in
    by-tree g.M.Mem c.args.layout.now (Remove which.Tree a.key) (search (rules, a.is, a.which-is)) refl
    (λ fits. fits.0) (λ o inside. inside) c.requires.fits c.remove-in-Remove-Tree-default.ensures

pub returns-in-Member-Tree-default-clause-applies : goal.returns-in-Member-Tree-default-clause-applies
returns-in-Member-Tree-default-clause-applies g c =
    let a = c.in-Member-Tree-default in
    by-tree g.M.Mem c.args.layout.now (Member which.Tree a.key) (search (rules, a.is, a.which-is)) refl
    (λ fits. fits.0) (λ o inside. inside) c.requires.fits c.member-in-Member-Tree-default.ensures

pub returns-in-Put-clause-applies : goal.returns-in-Put-clause-applies
returns-in-Put-clause-applies g c =
    let a = c.in-Put in
    by-tree g.M.Mem c.args.layout.now (Put a.key a.value) a.is refl (λ fits. fits.0) (λ o inside. inside)
    c.requires.fits c.put.ensures

pub returns-in-Get-clause-applies : goal.returns-in-Get-clause-applies
returns-in-Get-clause-applies g c =
    let a = c.in-Get in
    by-tree g.M.Mem c.args.layout.now (Get a.key) a.is refl (λ fits. fits.0) (λ o inside. inside)
    c.requires.fits c.get.ensures
