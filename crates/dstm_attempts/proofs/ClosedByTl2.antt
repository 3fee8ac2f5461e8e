-- When no attempt of a caller by TL2 is under way.
use Rattle.std.proofs.Common.{◌≡◌, ◌∙◌, ◌&&◌, ℕ, Bool, true, false, not, List, ap, inr, refl}
use Rattle.dstm_model.specs.declared.value.Val.{Val}
use Rattle.dstm_mem.specs.Memory.{value_in}
use Rattle.dstm_tl2.specs.State.{LocalState}
use Rattle.dstm_tl2_order.specs.Order.{is_spent}
use Rattle.dstm_tl2_order.specs.Tasks.Work.{Opening}
use Rattle.dstm_tl2_order.specs.declared.again.TlAgain.{TlAgain}
use Rattle.dstm_tl2_engine.specs.Callers.{TlCalled, is_live, is_resting, state, table_of_caller}
use Rattle.dstm_tl2_engine.specs.Tables.{Enrols, TlFounding}
use Rattle.dstm_tl2_engine.specs.Transactions.{Leaves}
use Rattle.dstm_tables.specs.declared.tables.Caller.TheVariants.{Tl2}
use Rattle.dstm_attempts.specs.declared.error.NotOpened.TheVariants.{Over}
use Rattle.dstm_attempts.specs.Attempts.{IsClosed, IsNotOpened, MayBegin}
use Rattle.dstm_attempts.specs.Tl2.{is_under_way}
use Rattle.dstm_attempts.proofs.Leaving.{sets_nothing}

module _ {L : Type 0} where
  -- where none is under way
  shut : (k : TlCalled L) → is_under_way k ≡ false → IsClosed (Tl2 k)
  shut k closed = ap (λ b. b && not (is_spent (table_of_caller k) (state k))) closed

  module _ (holds : L → List Val → Type 0) where
    -- an open has left the attempt
    pub not_opened_left : (writes : Bool) (o : ℕ) (k n : TlCalled L) (cause : TlAgain) → Leaves holds (Opening o) k n cause →
        is_live n ≡ false → n.set ≡ k.set →
        ((map : List Val) → MayBegin holds (Tl2 n) map → MayBegin holds (Tl2 k) map) →
        IsNotOpened holds writes o (Tl2 k) (Tl2 n) Over
    not_opened_left writes o k n cause leaves live set narrows = record {
      why = (shut n (ap (λ b. b && is_resting (state n)) live), inr (cause, leaves));
      unset = sets_nothing holds (Tl2 k) (Tl2 n) (ap value_in set) narrows;
    }

    -- a caller that was just given out has none under way
    pub enrolled_by_tl2 : (f g : TlFounding L) (k : TlCalled L) → Enrols holds f g k → IsClosed (Tl2 k)
    enrolled_by_tl2 f g k enrols =
        shut k (ap (λ (l : LocalState). is_live k && is_resting l) enrols.state ∙ no_more (is_live k))
      where
        no_more : (b : Bool) → (b && false) ≡ false
        no_more true = refl
        no_more false = refl
