-- What attempts of DSTM saw, in each record.
use Rattle.std.proofs.Common.{List, ◌∷◌, ◌++◌, sym, subst}
use Rattle.dstm_model.specs.Map.{Agrees, state_after}
use Rattle.dstm_core.specs.Events.{Event}
use Rattle.dstm_core.specs.Histories.{CoreRun, pass_place, prefix_at, seen}
use Rattle.dstm_opacity.proofs.Opacity.{sight_is_seen}
use Rattle.dstm_words.specs.Seats.{IsRunOf}
use Rattle.dstm_words.specs.declared.terms.Terms.{Terms}
use Rattle.dstm_tables.specs.Tells.{DstmSightsAgree}
use Rattle.dstm_model.specs.declared.value.Val.{Val}

module _ {L : Type 0} {holds : L → List Val → Type 0} where
  -- in the record of a run every sight agrees with a prefix
  pub dstm_sights_agree : (terms : Terms L) (log : List Event) → IsRunOf holds terms log → DstmSightsAgree terms log
  dstm_sights_agree terms log run = λ later before sight is sees.
      let shape = terms.shape in
      let start = terms.start.value.items in
      let whole : CoreRun shape start (holds terms.law.value) (later ++ sight ∷ before) =
      subst (CoreRun shape start (holds terms.law.value)) is run.run in
      subst (λ (log : List Event). Agrees (state_after start (prefix_at shape start log (pass_place sight.caller before)))
      (seen shape start log before sight.caller)) (sym is)
      (sight_is_seen shape start (holds terms.law.value) later before sight whole sees).values
