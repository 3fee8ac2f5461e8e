use Rattle.std.proofs.Common.{◌≢◌, ℕ, ◌+◌, ◌<◌, List, w64, rules, arith, sym, ◌∙◌, ap, subst, inl, inr}
use Rattle.std.specs.Prelude.{IsSome}
use Rattle.std.proofs.Math.Facts.{Fits-of_lt}
use Rattle.std.proofs.lemmas.Bool.{cases_eq}
use Rattle.dstm_model.specs.declared.op.Op.TheVariants.{Total}
use Rattle.dstm_model.specs.declared.reply.Reply.TheVariants.{Number}
use Rattle.dstm_model.specs.declared.value.Val.{Val}
use Rattle.dstm_model.specs.Objects.{IsBank, Does}
use Rattle.dstm_mem.specs.Memory.{with_set}
use Rattle.dstm_mem.proofs.Operations.{opens_to_set-of_reads}
use Rattle.dstm_mem.proofs.WithSet.{with_set-same}
use Rattle.dstm_bank.proofs.Accounts.{HasAccount, has-opened, sum_first-more, sum_first-fits, does-total}
use Rattle.dstm_bank.proofs.total.Goals as goal
use Rattle.dstm_bank.proofs.total.Goals.{In_ok-sum}
use Rattle.dstm_bank.proofs.total.Given.{Over}

-- the account whose balance is added
counted : (g : Over) (c : In_ok-sum g) (map : List Val) → g.M.Mem.Admits c.open_read.new.self map →
    HasAccount c.args.layout.now (with_set map (g.M.Mem.written c.args.mem.now)) c.loop-account.account c.in_ok-sum.field-0
counted g c map admitted =
    has-opened c.loop-account-test.true
    (c.in_ok-sum.ensures.unchanged map
    ∙ with_set-same map (g.M.Mem.written c.args.mem.now) _ c.loop-account.invariant.looks.sets)
    (c.in_ok-sum.ensures.found map admitted)

pub overflow_add-sum : goal.overflow_add-sum
overflow_add-sum g c =
    let so_far = c.loop-account.invariant in
    let (map, admitted) = c.in_ok-sum.ensures.admits in
    let in_loop = c.in_ok-sum.ensures.narrows map admitted in
    let (store, bank) = c.requires.ready.lawful map (so_far.narrows map in_loop) in
    let fits =
    sum_first-fits c.requires.valid bank (counted g (goal.at.overflow_add-sum g c).In_ok-sum map admitted) in
    Fits-of_lt {w = w64} (omega (arith, fits, so_far.sums map in_loop store bank))

pub loop-account-preserved : goal.loop-account-preserved
loop-account-preserved g c =
    let M = g.M.Mem in
    let layout = c.args.layout.now in
    let mem = c.open_read.new.self in
    let so_far = c.loop-account.invariant in
    let opened = c.in_ok-sum.ensures in
    let account = c.loop-account.account in
    let below = c.loop-account-test.true in
    let other_than : (p : ℕ) → ¬ (p < layout.accounts) → p ≢ account =
    λ p out e. out (subst (λ n. n < layout.accounts) (sym e) below) in
    record {
      live = opened.live;
      place = opened.place ∙ so_far.place;
      objects = opened.objects ∙ so_far.objects;
      narrows = λ map admitted. so_far.narrows map (opened.narrows map admitted);
      admits = λ _. opened.admits;
      audits = λ a within. elim (cases_eq a account) [
        | inl same ↦ subst (λ x. IsSome (M.held mem x)) (sym same) opened.held.held
        | inr other ↦ subst IsSome (sym (opened.held.others a other)) (so_far.audits a (omega (arith, within, other)))
      ];
      holds = λ p some.
          let same = so_far.holds p some in
          opened.held.kept p (subst IsSome (sym same) some) ∙ same;
      looks = record {
        sets = λ p. opened.written p ∙ so_far.looks.sets p;
        opens = λ off p. opened.unmarked (ap M.all_write so_far.place ∙ off) p ∙ so_far.looks.opens off p;
      };
      outside = λ p out.
          let before = so_far.outside p out in
          record {
            written = opened.written p ∙ before.written;
            held = opened.held.others p (other_than p out) ∙ before.held;
            opened = opened.opened.others p (other_than p out) ∙ before.opened;
          };
      sums = λ map admitted store bank.
          let has = counted g (goal.at.loop-account-preserved g c).In_ok-sum map admitted in
          ap (λ n. n + c.in_ok-sum.field-0.low) (so_far.sums map (opened.narrows map admitted) store bank)
          ∙ sym (sum_first-more bank has);
    }

pub returns-clause-applies : goal.returns-clause-applies
returns-clause-applies g c =
    let M = g.M.Mem in
    let layout = c.args.layout.now in
    let so_far = c.loop-account.invariant in
    let old = M.written c.args.mem.now in
    record {
      leads = search rules;
      outside = so_far.outside;
      marks = λ _. opens_to_set-of_reads M so_far.looks;
      quiet = λ _. so_far.looks;
      does = λ map admitted.
          let before = with_set map old in
          subst (λ after. Does (IsBank layout) Total before after (Number c.loop-account.sum))
          (sym (with_set-same map old (M.written c.loop-account.mem) so_far.looks.sets))
          (does-total layout before c.loop-account.account c.loop-account.sum c.loop-account-test.false
          (so_far.sums map admitted));
    }
