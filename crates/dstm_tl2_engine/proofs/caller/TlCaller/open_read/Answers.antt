use Rattle.std.proofs.Common.{◌∙◌, ◌≡◌, None, ap, subst, sym}
use Rattle.std.specs.Option.{option_or}
use Rattle.dstm_tl2_engine.proofs.Opens.{handed_held, hands, held_opened, none_some, unhanded_unheld, unset_unheld}
use Rattle.dstm_tl2_engine.specs.Attempts.{Seen}
use Rattle.dstm_tl2_engine.specs.Callers.{TlCalled, held, written}
use Rattle.dstm_tl2_engine.proofs.caller.TlCaller.open_read.Given.{Over}
use Rattle.dstm_tl2_engine.proofs.caller.TlCaller.open_read.Goals.{After-value}
use Rattle.dstm_tl2_engine.proofs.caller.TlCaller.open_read.Goals as goal

pub returns-in-Some-clause-stays : goal.returns-in-Some-clause-stays
returns-in-Some-clause-stays g c =
    λ none. absurd (none_some (held c.args.self.now c.args.o) none
    (handed_held c.self.invariant c.self.view_is c.args.o c.in-Some.value (sym c.value.ensures ∙ c.in-Some.is)))

pub returns-in-Some-clause-opens : goal.returns-in-Some-clause-opens
returns-in-Some-clause-opens g c =
    held_opened c.self.invariant c.self.view_is c.args.o
    (handed_held c.self.invariant c.self.view_is c.args.o c.in-Some.value (sym c.value.ensures ∙ c.in-Some.is))

pub returns-in-Some-clause-value : goal.returns-in-Some-clause-value
returns-in-Some-clause-value g c =
    sym c.in-Some.is ∙ c.value.ensures
    ∙ hands c.self.invariant c.self.view_is c.args.o

unheld : (g : Over) (c : After-value g) → c.value.result ≡ None → held c.args.self.now c.args.o ≡ None
unheld g c none = unhanded_unheld c.self.invariant c.self.view_is c.args.o (sym c.value.ensures ∙ none)

pub read_first-requires-clause-unread : goal.read_first-requires-clause-unread
read_first-requires-clause-unread g c =
    unheld g (goal.at.read_first-requires-clause-unread g c).After-value c.in_default.is

pub returns-clause-again : goal.returns-clause-again
returns-clause-again g c some =
    absurd (none_some (held c.args.self.now c.args.o)
    (unheld g (goal.at.returns-clause-again g c).After-value c.in_default.is) some)

pub returns-in_err-value-clause-again : goal.returns-in_err-value-clause-again
returns-in_err-value-clause-again g c some =
    absurd (none_some (held c.args.self.now c.args.o)
    (unheld g (goal.at.returns-in_err-value-clause-again g c).After-value c.in_default.is) some)

pub returns-in_err-value-clause-answered : goal.returns-in_err-value-clause-answered
returns-in_err-value-clause-answered g c some =
    absurd (none_some (held c.args.self.now c.args.o)
    (unheld g (goal.at.returns-in_err-value-clause-answered g c).After-value c.in_default.is) some)

pub returns-in-Some-clause-seen : goal.returns-in-Some-clause-seen
returns-in-Some-clause-seen g c = subst (Seen g.L.Law.holds) c.self.view_is c.self.invariant.seen

-- what was not read before was not set
pub returns-clause-value : goal.returns-clause-value
returns-clause-value g c =
    let n = c.read_first.new.self in
    let unset : written n c.args.o ≡ None = ap (λ (k : TlCalled _). written k c.args.o) c.read_first.ensures.kept
    ∙ unset_unheld c.self.invariant c.self.view_is c.args.o
    (unheld g (goal.at.returns-clause-value g c).After-value c.in_default.is) in
    c.in_ok-value.ensures.value ∙ ap (λ w. option_or w (held n c.args.o)) (sym unset)
