use Rattle.std.proofs.Common.{◌≡◌, ◌∙◌, ◌&&◌, ℕ, Bool, Ok, Err, ap, sym, true}
use Rattle.std.specs.Prelude.{OnOk, Result}
use Rattle.dstm_engine.proofs.Base.{Again, Val}
use Rattle.dstm_engine.proofs.Handing.{finds}
use Rattle.dstm_engine.specs.Callers.{Called, is_live, is_opened, live_opened}
use Rattle.dstm_engine.specs.Transactions.{TxPlace, is_ok}
use Rattle.dstm_engine.proofs.LettingGo.{read_keeps, same_both}
use Rattle.dstm_engine.proofs.Looked.{few_still, read_few}
use Rattle.dstm_engine.proofs.opener.OpenerMem.open_read.Goals as goal

pub returns-clause-place : goal.returns-clause-place
returns-clause-place g c =
    ap (λ (x : TxPlace _ × ℕ). (x, c.args.self.now.tx.ghost_name)) (same_both _ _ c.open_read.ensures.place
    (ap g.K.TellsLetGo.told (read_keeps g.L.Law.holds c.args.self.now.tx.now.caller.now c.open_read.new.self.caller.now c.args.o c.open_read.result
    c.open_read.ensures.again c.open_read.ensures.stays c.open_read.ensures.leaves)))

-- in an attempt that is live what is open for writing is told as it is
unmarked_live : {L : Type 0} (A : Type 0) (k n : Called L) (r : Result Val Again) → is_live k ≡ true → is_live n ≡ is_ok r →
    OnOk r (A → (p : ℕ) → is_opened n p ≡ is_opened k p) → OnOk r (A → (p : ℕ) → live_opened n p ≡ live_opened k p)
unmarked_live A k n (Ok v) was now same = λ a p.
    ap (λ (b : Bool). b && is_opened n p) now ∙ same a p ∙ sym (ap (λ (b : Bool). b && is_opened k p) was)
unmarked_live A k n (Err again) was now same = tt

pub returns-clause-unmarked : goal.returns-clause-unmarked
returns-clause-unmarked g c =
    unmarked_live _ c.args.self.now.tx.now.caller.now c.open_read.new.self.caller.now c.open_read.result c.requires.live
    c.open_read.ensures.live c.open_read.ensures.unmarked

pub returns-clause-found : goal.returns-clause-found
returns-clause-found g c =
    finds g.L.Law.holds c.args.self.now.tx.now.caller.now c.open_read.result c.open_read.ensures.kept
    c.args.o c.requires.exists c.open_read.ensures.value

pub invariant_of-self : goal.invariant_of-self
invariant_of-self g c =
    record {
      few =
          few_still c.args.self.now.tx.now.caller.now c.open_read.new.self.caller.now
          (read_few g.L.Law.holds c.args.self.now.tx.now.caller.now c.open_read.new.self.caller.now
          (ap (λ (p : TxPlace _). p.began) c.open_read.ensures.place) c.args.o c.open_read.result
          c.open_read.ensures.again c.open_read.ensures.stays c.open_read.ensures.leaves)
          g.C.Counted.sights g.C.Counted.looks c.args.self.now.few;
    }
