use Rattle.std.proofs.Common.{◌≡◌, ◌∙◌, ◌<◌, ℕ, List, arith, refl, rules, subst, sym}
use Rattle.std.proofs.lemmas.Grind.{common_steps}
use Rattle.std.specs.Prelude.{Err}
use Rattle.dstm_model.specs.declared.value.Law.{Ghosts}
use Rattle.dstm_model.specs.declared.value.Val.{Val}
use Rattle.dstm_tables.specs.Tables.{objects_there}
use Rattle.dstm_attempts.specs.Attempts.{Attempt}
use Rattle.dstm_cells.specs.declared.error.Why.{Why}
use Rattle.dstm_cells.specs.declared.error.Why.TheVariants.{Again, Retry, Foreign, Memory}
use Rattle.dstm_cells.specs.declared.holds.Holds.{Ghosts as Holding}
use Rattle.dstm_cells.specs.declared.under_way.Attempt.{Attempt as Tx}
use Rattle.dstm_structures.specs.Effects.{GoesOn, Stops, goes-again}
use Rattle.dstm_structures.specs.Maps.{Frees, end_of}
use Rattle.dstm_structures.proofs.Doing.{does-is, does-then, does-thrice}
use Rattle.dstm_structures.proofs.Mapping.{inserts-beyond, inserts-none, inserts-within, storing}
use Rattle.dstm_structures.proofs.Places.{of_some}
use Rattle.dstm_structures.proofs.Effects.{goes-stay}
use Rattle.dstm_structures.proofs.map.HashMap.insert.Goals as goal

pub returns-in_default-clause-inserts : goal.returns-in_default-clause-inserts
returns-in_default-clause-inserts g c =
    does-then c.in_ok-reach.ensures.goes.keeps c.in_ok-reach.ensures.reaches
    (does-is (Frees c.args.self c.home-home.result c.in_ok-reach.reach) c.in_default.is c.in_ok-free.ensures.frees)
    (λ before mid after size. inserts-none g.V.Word.found c.args.self c.args.key c.home-home.result c.in_ok-reach.reach
    c.args.value before mid after c.args.self.cells.some c.home-home.ensures.home)

pub returns-then-passed-reach-clause-inserts : goal.returns-then-passed-reach-clause-inserts
returns-then-passed-reach-clause-inserts g c =
    does-thrice c.in_ok-reach.ensures.goes.keeps c.in_ok-free.ensures.goes.keeps c.in_ok-reach.ensures.reaches
    (does-is (Frees c.args.self c.home-home.result c.in_ok-reach.reach) c.in-Some.is c.in_ok-free.ensures.frees)
    c.in_ok-store.ensures.stores
    (λ before mid near after size reaches frees stored. inserts-within g.V.Word.found c.args.self c.args.key
    c.home-home.result c.in_ok-reach.reach c.in-Some.passed c.behind-at.result c.args.value before after after
    c.args.self.cells.some c.home-home.ensures.home
    (of_some (λ passed. passed < c.args.self.cells.capacity) c.in-Some.is
    c.in_ok-free.ensures.within) c.behind-at.ensures.behind
    (storing g.V.Word.found c.args.self c.args.key c.home-home.result c.in_ok-reach.reach c.in-Some.passed c.behind-at.result
    c.args.value before mid near after reaches frees stored) (omega (arith, c.if-passed-reach.true)) refl)

pub returns-clause-inserts : goal.returns-clause-inserts
returns-clause-inserts g c =
    does-then (c.in_ok-store.ensures.goes.keeps ∙ c.in_ok-free.ensures.goes.keeps ∙ c.in_ok-reach.ensures.goes.keeps)
    (does-thrice c.in_ok-reach.ensures.goes.keeps c.in_ok-free.ensures.goes.keeps c.in_ok-reach.ensures.reaches
    (does-is (Frees c.args.self c.home-home.result c.in_ok-reach.reach) c.in-Some.is c.in_ok-free.ensures.frees)
    c.in_ok-store.ensures.stores
    (λ before mid near after size. storing g.V.Word.found c.args.self c.args.key c.home-home.result c.in_ok-reach.reach
    c.in-Some.passed c.behind-at.result c.args.value before mid near after)) c.in_ok-set_reach.ensures.sets
    (λ before near after size stored sets. inserts-beyond g.V.Word.found c.args.self c.args.key c.home-home.result
    c.in_ok-reach.reach c.in-Some.passed c.behind-at.result c.args.value before near after c.args.self.cells.some
    c.home-home.ensures.home
    (of_some (λ passed. passed < c.args.self.cells.capacity) c.in-Some.is
    c.in_ok-free.ensures.within) c.behind-at.ensures.behind stored (omega (arith, c.if-passed-reach.false)) sets)

pub returns-in_err-store-clause-stops : goal.returns-in_err-store-clause-stops
returns-in_err-store-clause-stops g c = let stay = goes-stay c.in_ok-free.ensures.goes ∙ goes-stay c.in_ok-reach.ensures.goes in grind (arith, common_steps)

module _ {L S : Type 0} {ghosts : Ghosts L} {holding : Holding S L} {holds : L → List Val → Type 0} {k m : Tx L S ghosts holding} where
  -- why a call stops that sets, behind others
  stops-later : GoesOn holds k m → (size : ℕ) (n : Tx L S ghosts holding) (why : Why) → Stops size m.notes m n why →
      Stops size k.notes k n why
  stops-later goes size n Again stops = stops
  stops-later goes size n Retry stops = stops
  stops-later goes size n Foreign stops = subst (λ (a : Attempt L). objects_there a.home < size) goes.keeps stops
  stops-later goes size n Memory stops = sym (goes-stay goes) ∙ stops

pub returns-in_err-set_reach-clause-stops : goal.returns-in_err-set_reach-clause-stops
returns-in_err-set_reach-clause-stops g c =
    let goes = goes-again (goes-again c.in_ok-reach.ensures.goes c.in_ok-free.ensures.goes) c.in_ok-store.ensures.goes in
    let answer = c.from_residual-in_err-set_reach.ensures in
    let is : c.from_residual-in_err-set_reach.result ≡ Err c.in_err-set_reach.field-0.0 = search rules in
    rw is (stops-later goes (end_of c.args.self) c.set_reach.new.tx c.in_err-set_reach.field-0.0.why
    c.in_err-set_reach.ensures.stops)

pub returns-clause-goes : goal.returns-clause-goes
returns-clause-goes g c =
    goes-again
    (goes-again (goes-again c.in_ok-reach.ensures.goes c.in_ok-free.ensures.goes) c.in_ok-store.ensures.goes)
    c.in_ok-set_reach.ensures.goes
