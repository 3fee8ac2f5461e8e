use Rattle.std.proofs.Common.{◌∙◌, ◌≡◌, ap, false, None, Some, sym, true}
use Rattle.std.specs.Prelude.{IsSome, is_some}
use Rattle.dstm_engine.proofs.Base.{Val}
use Rattle.dstm_engine.proofs.Handing.{handed_there, held_continues, if_err, ok_then, slot_held, slot_none, slot_unopened}
use Rattle.dstm_engine.specs.Callers.{held}
use Rattle.dstm_engine.proofs.caller.Caller.open_read.Given.{Over}
use Rattle.dstm_engine.proofs.caller.Caller.open_read.Goals.{After-value}
use Rattle.dstm_engine.proofs.caller.Caller.open_read.Goals as goal

-- it is held where its slots hand out a value
is_held : (g : Over) (c : After-value g) (v : Val) → c.value.result ≡ Some v → is_some (held c.args.self.now c.args.o) ≡ true
is_held g c v some = slot_held c.self.invariant c.self.view_is c.requires.live c.args.o v (sym c.value.ensures ∙ some)

unheld : (g : Over) (c : After-value g) → c.value.result ≡ None → held c.args.self.now c.args.o ≡ None
unheld g c none = slot_none c.self.invariant c.self.view_is c.requires.live c.args.o (sym c.value.ensures ∙ none)

not_held : (g : Over) (c : After-value g) → c.value.result ≡ None → IsSome (held c.args.self.now c.args.o) → ⊥
not_held g c none some =
    let no : is_some (held c.args.self.now c.args.o) ≡ false = ap is_some (unheld g c none) in cc

pub returns-in-Some-clause-stays : goal.returns-in-Some-clause-stays
returns-in-Some-clause-stays g c =
    λ none.
    let yes = is_held g (goal.at.returns-in-Some-clause-stays g c).After-value c.in-Some.value c.in-Some.is in
    let no : is_some (held c.args.self.now c.args.o) ≡ false = ap is_some none in absurd (cc)

pub returns-in-Some-clause-continues : goal.returns-in-Some-clause-continues
returns-in-Some-clause-continues g c =
    held_continues c.self.invariant c.self.view_is c.requires.live c.args.o
    (is_held g (goal.at.returns-in-Some-clause-continues g c).After-value c.in-Some.value c.in-Some.is)

pub returns-in-Some-clause-value : goal.returns-in-Some-clause-value
returns-in-Some-clause-value g c =
    sym c.in-Some.is ∙ c.value.ensures
    ∙ handed_there c.self.invariant c.self.view_is c.requires.live c.args.o

pub read_out-requires-clause-unheld : goal.read_out-requires-clause-unheld
read_out-requires-clause-unheld g c = unheld g (goal.at.read_out-requires-clause-unheld g c).After-value c.in_default.is

pub read_out-requires-clause-unopened : goal.read_out-requires-clause-unopened
read_out-requires-clause-unopened g c =
    slot_unopened c.self.invariant c.self.view_is c.requires.live c.args.o (sym c.value.ensures ∙ c.in_default.is)

pub returns-clause-again : goal.returns-clause-again
returns-clause-again g c = λ yes. absurd (not_held g (goal.at.returns-clause-again g c).After-value c.in_default.is yes)

pub returns-clause-answered : goal.returns-clause-answered
returns-clause-answered g c =
    λ yes. absurd (not_held g (goal.at.returns-clause-answered g c).After-value c.in_default.is yes)

pub returns-clause-stays : goal.returns-clause-stays
returns-clause-stays g c = λ none. ok_then c.read_out.result _ _ (λ x o. o.stays) c.read_out.ensures.opens

pub returns-clause-leaves : goal.returns-clause-leaves
returns-clause-leaves g c = if_err c.read_out.result _ _ (λ e s. s.leaves) c.read_out.ensures.stops
