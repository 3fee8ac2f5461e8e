use Rattle.std.proofs.Common.{◌+◌, ◌-◌, w64, slice_set, rules, arith, sym, ◌∙◌, ap, subst, inl, inr}
use Rattle.std.proofs.Math.Facts.{Fits-of_lt}
use Rattle.dstm_model.specs.declared.op.Op.TheVariants.{Transfer}
use Rattle.dstm_model.specs.declared.reply.Reply.{Reply}
use Rattle.dstm_model.specs.declared.reply.Reply.TheVariants.{Moved}
use Rattle.dstm_model.specs.Objects.{IsBank, Does, plain}
use Rattle.dstm_mem.specs.Memory.{with_set}
use Rattle.dstm_mem.proofs.Operations.{opens_to_set-of_reads}
use Rattle.dstm_mem.proofs.Operating.{untouched-opened}
use Rattle.dstm_mem.proofs.WithSet.{length-with_set}
use Rattle.dstm_bank.proofs.Accounts.{has-opened, does-poor, does-self, does-moved, paid_fits}
use Rattle.dstm_bank.proofs.transfer.Goals as goal
use Rattle.dstm_bank.proofs.transfer.Goals.{then-balance-amount, else-balance-amount}

-- an account that pays itself
pub returns-then-source-target-clause-applies : goal.returns-then-source-target-clause-applies
returns-then-source-target-clause-applies g c =
    let layout = c.args.layout.now in
    let opened = c.in_ok-balance.ensures in
    record {
      leads = search rules;
      outside = λ o out. untouched-opened g.M.Mem opened.written opened.held opened.opened o (λ e. out (inl e));
      marks = λ _. opens_to_set-of_reads g.M.Mem (search rules);
      quiet = λ _. search rules;
      does = λ map admitted.
          let before = with_set map (g.M.Mem.written c.args.mem.now) in
          let op = Transfer c.args.source c.args.target c.args.amount in
          let source = has-opened c.requires.fits.0 (opened.unchanged map) (opened.found map admitted) in
          let does = λ (reply : Reply). Does (IsBank layout) op before before reply in
          let replies = elim c.if-balance-amount.branch as (λ _. does c.if-balance-amount.result) [
            | then-balance-amount w ↦
                subst does (sym w.result-is) (does-poor c.args.target c.args.amount source w.if-balance-amount.true)
            | else-balance-amount w ↦
                subst does (sym w.result-is)
                (does-self c.args.target c.args.amount source w.if-balance-amount.false c.if-source-target.true)
          ] in
          subst (λ after. Does (IsBank layout) op before after c.if-balance-amount.result)
          (sym (opened.unchanged map)) replies;
    }

-- a source that cannot pay
pub overflow_add-more : goal.overflow_add-more
overflow_add-more g c =
    let one = c.in_ok-from.ensures in
    let two = c.in_ok-to.ensures in
    let (map, in_two) = two.admits in
    let in_one = two.narrows map in_two in
    let source = has-opened c.requires.fits.0 (one.unchanged map) (one.found map in_one) in
    let target =
    has-opened c.requires.fits.1 (two.unchanged map ∙ one.unchanged map) (two.found map in_two) in
    let (store, bank) = c.requires.ready.lawful map (one.narrows map in_one) in
    let fits = paid_fits c.args.amount c.requires.valid bank source target c.if-source-target.false
    c.if-from-amount.false in
    Fits-of_lt {w = w64} fits

pub returns-clause-applies : goal.returns-clause-applies
returns-clause-applies g c =
    let M = g.M.Mem in
    let laws = g.met.M.Mem in
    let layout = c.args.layout.now in
    let start = c.args.mem.now in
    let one = c.in_ok-from.ensures in
    let two = c.in_ok-to.ensures in
    let three = c.set.ensures in
    let four = c.set-2.ensures in
    record {
      leads = search rules;
      outside = λ o out. record {
        written = four.written.others o (λ e. out (inr e)) ∙ three.written.others o (λ e. out (inl e))
            ∙ two.written o ∙ one.written o;
        held = four.held o ∙ three.held o ∙ two.held.others o (λ e. out (inr e))
            ∙ one.held.others o (λ e. out (inl e));
        opened = four.opened o ∙ three.opened o ∙ two.opened.others o (λ e. out (inr e))
            ∙ one.opened.others o (λ e. out (inl e));
      };
      marks = search rules;
      quiet = λ itself. absurd (c.if-source-target.false itself);
      does = λ map admitted.
          let in_two = (three.admits map).0 ((four.admits map).0 admitted) in
          let in_one = two.narrows map in_two in
          let in_start = one.narrows map in_one in
          let before = with_set map (M.written start) in
          let same = two.unchanged map ∙ one.unchanged map in
          let size = laws.admitted_length start map in_start in
          let source = has-opened c.requires.fits.0 (one.unchanged map) (one.found map in_one) in
          let target = has-opened c.requires.fits.1 same (two.found map in_two) in
          let less = plain (c.in_ok-from.field-0.low - c.args.amount) in
          let more = plain (c.in_ok-to.field-0.low + c.args.amount) in
          let paid = three.puts map ∙ ap (λ x. slice_set x c.args.source less) same in
          let after = four.puts map ∙ ap (λ x. slice_set x c.args.target more) paid in
          subst (λ x. Does (IsBank layout) (Transfer c.args.source c.args.target c.args.amount) before x Moved)
          (sym after)
          (does-moved c.args.amount
          (omega (arith, size, c.requires.ready.objects, length-with_set map (M.written start)))
          source target c.if-source-target.false c.if-from-amount.false);
    }
