-- What attempts of TL2 saw, in each record.
use Rattle.std.proofs.Common.{◌≡◌, ◌==◌, ◌&&◌, ◌∷◌, ◌++◌, List, true, false, refl}
use Rattle.std.proofs.lemmas.Bool.{and_right, cond-false}
use Rattle.dstm_tl2.specs.declared.kind.Kind.{Kind}
use Rattle.dstm_tl2.specs.declared.kind.Kind.TheVariants.{LookAgain}
use Rattle.dstm_tl2.specs.declared.terms.Terms.{Terms}
use Rattle.dstm_tl2.specs.Histories.{LawfulRun, is_sample, sample_place}
use Rattle.dstm_tl2.specs.Rules.{Event}
use Rattle.dstm_tl2.specs.Sharing.{IsRunOf, table_of}
use Rattle.dstm_tl2.proofs.Closing.{sample_agrees}
use Rattle.dstm_tables.specs.Tells.{Tl2SightsAgree, is_look_again}
use Rattle.dstm_model.specs.declared.value.Val.{Val}

no_sample : (k : Kind) → is_look_again k ≡ true → is_sample k ≡ false
no_sample LookAgain is = refl
no_sample k is = absurd (cc)

module _ {L : Type 0} {holds : L → List Val → Type 0} where
  pub tl2_sights_agree : (terms : Terms L) (log : List Event) → IsRunOf holds terms log → Tl2SightsAgree terms log
  tl2_sights_agree terms log run = λ later before sight is kind found.
      let t = table_of terms in
      let whole : LawfulRun t (holds terms.law.value) (later ++ sight ∷ before) = rw (← is) run.run in
      let seen = sample_agrees t (holds terms.law.value) later (sight ∷ before) sight.caller whole in
      let place : sample_place sight.caller (sight ∷ before) ≡ sample_place sight.caller before =
      cond-false ((sight.caller == sight.caller) && is_sample sight.kind) before (sample_place sight.caller before)
      (and_right (sight.caller == sight.caller) (is_sample sight.kind) (no_sample sight.kind kind)) in
      rw (is, ← place) seen.values
