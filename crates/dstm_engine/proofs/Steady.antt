-- What a caller holds after a recheck or a commit.
use Rattle.std.proofs.Common.{◌∙◌, ◌≡◌, List, Option, ap, map, subst, sym, true, ℕ, refl}
use Rattle.std.specs.Prelude.{is_some}
use Rattle.dstm_engine.proofs.Base.{Again, Core, Doing, Effort, Steps, Val, Work, view_of, write_of}
use Rattle.dstm_progress.proofs.OwnEvents.{after_own}
use Rattle.dstm_engine.proofs.Left.{current_there}
use Rattle.dstm_engine.proofs.Plain.{ArePlain, SameOpened, are_plain, is_closed, plain_still, same_opened}
use Rattle.dstm_engine.proofs.Rechecking.{held_stay}
use Rattle.dstm_engine.proofs.Tying.{EndsHere, olds_in, reads_in, state_logged}
use Rattle.dstm_engine.specs.Callers.{held, is_opened, state}
use Rattle.dstm_engine.specs.Mirror.{Tied, called, slot_old, slot_value}
use Rattle.dstm_engine.specs.declared.caller.Caller.TheInside.{Inside}

module _ {L : Type 0} {holds : L → List Val → Type 0} {c : Inside L} (v : Tied holds c) (live : c.live ≡ true)
    {work : Work} {new : Steps L} {answer : Option Again} (u : EndsHere holds c (Doing work) new answer) where
  -- what was held before the call has the same values after it
  pub stay : (reads_in c (view_of new.seat).log (state (called c)).reads
      ≡ reads_in c (called c).log (state (called c)).reads)
      × (olds_in c (view_of new.seat).log (state (called c)).writes
      ≡ olds_in c (called c).log (state (called c)).writes)
  stay =
      rw (← u.seen.whole) (held_stay c.terms.shape c.terms.start.value.items u.seen.later (called c).log c.number
      (subst (Core c.terms.shape) (sym u.seen.whole) u.run.run.core) v.number.0 (current_there v live u).live)

module _ {L : Type 0} {holds : L → List Val → Type 0} {c : Inside L} (v : Tied holds c) (live : c.live ≡ true)
    {work : Work} (closed : is_closed work ≡ true) {new : Steps L} {answer : Option Again}
    (u : EndsHere holds c (Doing work) new answer) where
  plain : ArePlain work u.events
  plain = are_plain work c.terms.shape (state (called c)) c.steps.decider.generator u.events closed u.obeys

  -- no random word was taken
  pub same_generator : new.decider.generator ≡ c.steps.decider.generator
  same_generator =
      ap (λ (e : Effort). e.generator) (sym u.effort)
      ∙ ap (λ (e : Effort). e.generator)
      (plain_still work c.terms.shape (state (called c)) c.steps.decider.generator u.events plain)

  -- the same is open
  pub same_there : SameOpened (state (called c)) (state_logged c new)
  same_there =
      rw (after_own c.terms.shape c.number (view_of new.seat).log (called c).log u.events u.own)
      (same_opened work c.terms.shape (state (called c)) u.events plain (v.rest live).recorded)

  -- with the same values
  pub values_then : reads_in c (view_of new.seat).log
      (state_logged c new).reads ≡ map slot_value c.opened.reads
  values_then = rw same_there.reads ((stay v live u).0 ∙ v.values live)

  pub olds_then : olds_in c (view_of new.seat).log
      (state_logged c new).writes ≡ map slot_old c.opened.writes
  olds_then = rw same_there.writes ((stay v live u).1 ∙ v.olds live)

  -- so the same is held
  pub held_same : (p : ℕ) → held (called (record c { steps = new })) p ≡ held (called c) p
  held_same p = rw (values_then ∙ sym (v.values live), olds_then ∙ sym (v.olds live)) refl

  pub opened_same : (p : ℕ) → is_opened (called (record c { steps = new })) p ≡ is_opened (called c) p
  opened_same p = ap (λ ws. is_some (write_of p ws)) same_there.writes
