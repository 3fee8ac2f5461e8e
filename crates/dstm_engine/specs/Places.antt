-- The maps that an attempt may start at.
use Rattle.std.specs.Prelude.{◌≡◌, ◌↔◌, ℕ, Bool, true, false, None, IfSome, List, if◌then◌else◌, length}
use Rattle.std.proofs.Common.{ap, subst, sym, ◌∙◌}
use base.Fml.{GName}
use Rattle.dstm_model.specs.declared.value.Val.{Val}
use Rattle.dstm_mem.specs.Memory.{AgreesWith}
use Rattle.dstm_words.specs.Seats.{Home}
use Rattle.dstm_engine.specs.Attempts.{Admits}
use Rattle.dstm_engine.specs.Callers.{Called, held, is_live, law_of, live_held, shape_of}
use Rattle.dstm_model.specs.Map.{value_at}
use Rattle.dstm_engine.specs.Transactions.{TxPlace, tx_place}

-- a map that agrees with what is held agrees with what is held while the attempt is live
pub live_agrees : {L : Type 0} (k : Called L) (map : List Val) → AgreesWith map (held k) → AgreesWith map (live_held k)
live_agrees k map agrees o = by (is_live k)
  where
    by : (b : Bool) → IfSome (if b then held k o else None) (λ v. value_at map o ≡ v)
    by true = agrees o
    by false = tt

held_agrees : {L : Type 0} (k : Called L) (map : List Val) (o : ℕ) → is_live k ≡ true →
    IfSome (live_held k o) (λ v. value_at map o ≡ v) → IfSome (held k o) (λ v. value_at map o ≡ v)
held_agrees k map o live =
    subst (λ b. IfSome (if b then held k o else None) (λ v. value_at map o ≡ v) →
    IfSome (held k o) (λ v. value_at map o ≡ v)) (sym live) (λ h. h)

module _ {L : Type 0} (holds : L → List Val → Type 0) where
  -- a lawful map of the objects
  pub record IsBegunMap (k : Called L) (map : List Val) : Type 0 where
    pub length : length map ≡ (shape_of k).objects
    pub lawful : holds (law_of k) map

  pub admits_exactly : (k : Called L) (map : List Val) → is_live k ≡ true →
      Admits holds k map ↔ (IsBegunMap k map × AgreesWith map (live_held k))
  admits_exactly k map live = (
    (λ a. (record { length = a.length; lawful = a.lawful }, live_agrees k map a.agrees)),
    (λ b. record { length = b.0.length; lawful = b.0.lawful; agrees = λ o. held_agrees k map o live (b.1 o) }),
  )

  pub began_stays : (k n : Called L) (map : List Val) (r q : GName) (h j : Home L) →
      tx_place r h k ≡ tx_place q j n → IsBegunMap k map → IsBegunMap n map
  began_stays k n map r q h j same b =
      let home = ap (λ (p : TxPlace L). p.home) same in record {
        length = b.length ∙ ap (λ (x : Home L). x.terms.shape.objects) home;
        lawful = subst (λ (x : Home L). holds x.terms.law.value map) home b.lawful;
      }
