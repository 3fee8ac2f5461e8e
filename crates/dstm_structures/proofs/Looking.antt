-- Looks by a transaction under way: what one leaves, and what a call does that was found out by looks alone.
use Rattle.std.proofs.Common.{◌≡◌, ◌∙◌, ℕ, List, ap, refl, subst, sym}
use Rattle.dstm_model.specs.declared.value.Law.{Ghosts}
use Rattle.dstm_model.specs.declared.value.Val.{Val}
use Rattle.dstm_model.specs.Map.{value_at}
use Rattle.dstm_tables.specs.declared.tables.Caller.{Caller}
use Rattle.dstm_attempts.specs.Attempts.{SetsNothing}
use Rattle.dstm_cells.specs.UnderWay.{Gets, StopsLook, seen}
use Rattle.dstm_cells.specs.declared.error.Why.{Why}
use Rattle.dstm_cells.specs.declared.error.Why.TheVariants.{Again, Retry, Foreign, Memory}
use Rattle.dstm_cells.specs.declared.holds.Holds.{Ghosts as Holding}
use Rattle.dstm_cells.specs.declared.under_way.Attempt.{Attempt as Tx}
use Rattle.dstm_structures.specs.Effects.{Does, GoesOn}
use Rattle.dstm_structures.specs.Looks.{OnlyLooks, Shows, StandsAt}

-- ---- one look

pub look-is : {L S T : Type 0} {ghosts : Ghosts L} {holding : Holding S L} {holds : L → List Val → Type 0} {found : Val → T} {k : Caller L} {o : ℕ}
    {value : T} (n : Tx L S ghosts holding) → Gets holds found k n.attempts.caller o value →
    Shows (StandsAt holds) (λ values. value ≡ found (value_at values o)) n
look-is {found = found} {o = o} n g map values at =
    g.is ∙ ap found (sym (g.finds.value map at.0) ∙ ap (λ (xs : List Val). value_at xs o) at.1)

module _ {L S : Type 0} {ghosts : Ghosts L} {holding : Holding S L} {holds : L → List Val → Type 0} {k n : Tx L S ghosts holding} where
  module _ (goes : GoesOn holds k n) where
    look-on : SetsNothing holds k.attempts.caller n.attempts.caller → OnlyLooks holds k n
    look-on unset = record { goes = goes; unset = unset }

    pub look-stops : (o : ℕ) (why : Why) → StopsLook holds o k.attempts.caller n.attempts.caller why → OnlyLooks holds k n
    look-stops o Again s = look-on s.unset
    look-stops o Retry s = absurd s
    look-stops o Foreign s = look-on s.unset
    look-stops o Memory s = absurd s

    pub look-goes : {o : ℕ} {T : Type 0} {found : Val → T} {value : T} →
        Gets holds found k.attempts.caller n.attempts.caller o value → OnlyLooks holds k n
    look-goes g = look-on (record { narrows = g.finds.narrows; same = g.finds.same })

  -- ---- a call

  -- what a call does that was found out by looks alone
  pub does-shown : {size : ℕ} (E : List Val → List Val → Type 0) → OnlyLooks holds k n →
      Shows (StandsAt holds) (λ values. E values values) n → Does holds size E k.attempts.caller n.attempts.caller
  does-shown E looks shows = record {
    narrows = looks.unset.narrows;
    does = λ there map may.
        subst (λ (xs : List Val). E xs (seen n.attempts.caller map)) (looks.unset.same map)
        (shows map (seen n.attempts.caller map) (may, refl));
  }
