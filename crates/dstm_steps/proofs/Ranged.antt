-- What a caller finds is in range: the words that it is aimed at are words of the table.
use Rattle.std.proofs.Common.{ℕ, Some, refl, ◌≡◌, ◌≢◌, ◌⊎◌, false, ◌-◌, ◌*◌, ◌^◌, ◌<◌, List, true, arith, inl, Option}
use Rattle.std.proofs.lemmas.Bool.Decides.{nat_tests}
use Rattle.std.proofs.lemmas.Nat.{mul-le}
use Rattle.dstm_core.specs.Events.{Event}
use Rattle.dstm_core.specs.declared.event.Kind.{Kind}
use Rattle.dstm_core.specs.declared.event.Kind.TheVariants.{LookObj, LookOwner, LookStatus, LookHigh}
use Rattle.dstm_core.specs.declared.shape.Shape.{Shape}
use Rattle.dstm_core.specs.declared.shape.TheConstants.{MAX_CALLERS, MAX_ATTEMPTS, MAX_LOCATORS}
use Rattle.dstm_core.specs.declared.state.Phase.TheVariants.{Running, Paused}
use Rattle.dstm_core.specs.Rules.{target, May}
use Rattle.dstm_core.specs.State.{is_live, or_zero, res, version}
use Rattle.dstm_machines.specs.Traces.Access.{Load}
use Rattle.dstm_core.specs.Words.{IsValid, HasWord}
use Rattle.dstm_core.proofs.Ranges.{in_range}
use Rattle.dstm_model.specs.declared.value.Val.{Val}
use Rattle.dstm_words.specs.Seats.{Home, view_of}
use Rattle.dstm_order.specs.declared.again.Again.{Again}
use Rattle.dstm_order.specs.Order.{Due}
use Rattle.dstm_order.specs.Tasks.{Task}
use Rattle.dstm_steps.specs.declared.steps.Steps.{Steps}
use Rattle.dstm_steps.specs.Under.{Began, InTask, IsRunning, now, made_by}
use Rattle.dstm_steps.proofs.Stepping.{here}

-- the numbers of attempts and of locators fit into 32 bits
pub few_attempts : (s : Shape) → IsValid s → s.callers * s.attempts < 2 ^ 32
few_attempts s v =
    let product = mul-le s.callers s.attempts MAX_CALLERS MAX_ATTEMPTS v.callers v.attempts in omega arith

pub few_locators : (s : Shape) → IsValid s → s.callers * s.locators < 2 ^ 32
few_locators s v =
    let product = mul-le s.callers s.locators MAX_CALLERS MAX_LOCATORS v.callers v.locators in omega arith

-- a code of a live attempt is small
pub live_small : (code : ℕ) → is_live code ≡ true → code < 4
live_small code live = grind (arith, nat_tests)

module _ {L : Type 0} {task : Task} {holds : L → List Val → Type 0} {home : Home L} {b : Began} {steps : Steps L}
    {d : Due} {a : Option Again} (u : InTask holds home task b steps d a) where
  -- the word of an event that may come is one of the table's
  pub in_word : (k : Kind) → k ≢ LookObj → May k home.terms.shape (now home steps) (made_by b Load k 0 0) →
      HasWord home.terms.shape (target k home.terms.shape (now home steps) (made_by b Load k 0 0))
  in_word k other may =
      let s : Shape = home.terms.shape in
      let e : Event = made_by b Load k 0 0 in
      rw (here u) (in_range s (view_of steps.seat).log b.number e k u.run.run.core u.caller (λ q. absurd (other q))
      (rw (← here u) may))

  -- the owner found, where its status was not found finished, also of an attempt that gives way
  owner_in : {owner : ℕ} → ((now home steps).phase ≡ Running) ⊎ ((now home steps).phase ≡ Paused) →
      (now home steps).stale ≡ false → (res (now home steps)).owner ≡ Some owner →
      or_zero (res (now home steps)).status < 4 → owner < home.terms.shape.callers * home.terms.shape.attempts
  owner_in p r is l = rw is at (in_word LookStatus (λ q. absurd (cc)) (p, r, rw is refl, l))

  pub owner_below : {owner : ℕ} → ((now home steps).phase ≡ Running) ⊎ ((now home steps).phase ≡ Paused) →
      (now home steps).stale ≡ false → (res (now home steps)).owner ≡ Some owner →
      or_zero (res (now home steps)).status < 4 → owner < steps.shape.callers * steps.shape.attempts
  owner_below p r is l = rw u.shape (owner_in p r is l)

  pub owner_fits : {owner : ℕ} → ((now home steps).phase ≡ Running) ⊎ ((now home steps).phase ≡ Paused) →
      (now home steps).stale ≡ false → (res (now home steps)).owner ≡ Some owner →
      or_zero (res (now home steps)).status < 4 → owner < 2 ^ 32
  owner_fits p r is l =
      let few = few_attempts home.terms.shape u.run.valid in let below = owner_in p r is l in omega arith

  -- the owner of whom a step is told that it is live
  pub owner_live : {owner code : ℕ} → IsRunning (now home steps) → (res (now home steps)).owner ≡ Some owner →
      ((res (now home steps)).status ≡ Some code) × (is_live code ≡ true) →
      owner < steps.shape.callers * steps.shape.attempts
  owner_live {code = code} r is live = owner_below (inl r.phase) r.agreed is (rw live.0 (live_small code live.1))

  -- the locator that a call is told of: it is of the table, and its number fits
  version_in : {named : ℕ} → IsRunning (now home steps) →
      (version (res (now home steps)) ≡ Some named) × (0 < named) →
      named - 1 < home.terms.shape.callers * home.terms.shape.locators
  version_in r n = rw n.0 at (in_word LookHigh (λ q. absurd (cc)) (r.phase, r.agreed, rw n.0 n.1))

  pub version_below : {named : ℕ} → IsRunning (now home steps) →
      (version (res (now home steps)) ≡ Some named) × (0 < named) → named - 1 < steps.shape.callers * steps.shape.locators
  version_below r n = rw u.shape (version_in r n)

  pub version_fits : {named : ℕ} → IsRunning (now home steps) →
      (version (res (now home steps)) ≡ Some named) × (0 < named) → named - 1 < 2 ^ 32
  version_fits r n =
      let few = few_locators home.terms.shape u.run.valid in let below = version_in r n in omega arith

  word_in : {word : ℕ} → IsRunning (now home steps) → ((res (now home steps)).word ≡ word) × (0 < word) →
      word - 1 < home.terms.shape.callers * home.terms.shape.locators
  word_in r n = rw n.0 at (in_word LookOwner (λ q. absurd (cc)) (r.phase, r.agreed, rw n.0 n.1))

  pub word_below : {word : ℕ} → IsRunning (now home steps) → ((res (now home steps)).word ≡ word) × (0 < word) →
      word - 1 < steps.shape.callers * steps.shape.locators
  word_below r n = rw u.shape (word_in r n)

  pub word_fits : {word : ℕ} → IsRunning (now home steps) → ((res (now home steps)).word ≡ word) × (0 < word) →
      word - 1 < 2 ^ 32
  word_fits r n = let few = few_locators home.terms.shape u.run.valid in let below = word_in r n in omega arith
