use Rattle.std.proofs.Common.{◌≡◌, ℕ, ◌<◌, None, ◌+◌, refl, ap, sym, ◌∙◌, ◌-◌, arith, inl, ne_eqb, subst}
use Rattle.dstm_core.specs.declared.event.Kind.TheVariants.{LookStatus}
use Rattle.dstm_machines.specs.Traces.Access.{Load}
use Rattle.dstm_steps.specs.declared.steps.Steps.{Steps}
use Rattle.dstm_order.specs.Order.{on_choice}
use Rattle.dstm_steps.specs.Under.{Under, Went, Resolving, made_by, now, effort_by}
use Rattle.dstm_steps.proofs.Meeting.{round_in, rank_in, waits_some}
use Rattle.dstm_steps.proofs.Ranged.{live_small, owner_live}
use Rattle.dstm_core.specs.declared.shape.Manager.{Manager}
use Rattle.dstm_core.specs.Rules.{after}
use Rattle.dstm_managers.specs.declared.decider.Choice.{Choice}
use Rattle.dstm_managers.specs.declared.decider.Choice.TheVariants.{Wait}
use Rattle.dstm_managers.specs.declared.decider.Choice.TheVariants as decision
use Rattle.dstm_managers.specs.Choices.{DeciderState, choice, decider_after as decided, next_word}
use Rattle.dstm_order.specs.Efforts.{Effort, chosen, turn}
use Rattle.dstm_core.specs.Words.{place}
use Rattle.dstm_core.specs.Words.Word.{StatusWord}
use Rattle.dstm_steps.proofs.Stepping.{may_make, took, under_is, went_on, chosen_is, kill_keeps, give_way_keeps, manager_kept, first_turn, turn_last, turn_more}
use Rattle.dstm_steps.proofs.steps.Steps.ask.Given.{Over}
use Rattle.dstm_steps.proofs.steps.Steps.ask.Goals.{After-decide, After-load-code}
use Rattle.dstm_steps.proofs.steps.Steps.ask.Goals as goal

pub status-place-requires-clause-below : goal.status-place-requires-clause-below
status-place-requires-clause-below g c =
    owner_live c.requires.under c.requires.running c.requires.owner c.requires.status

pub load-code-requires-clause-allowed : goal.load-code-requires-clause-allowed
load-code-requires-clause-allowed g c =
    may_make c.requires.under Load LookStatus c.status-place.result (λ q. absurd (cc)) (record {
      place = rw c.requires.owner (c.status-place.ensures
          ∙ ap (λ s. place s (StatusWord c.args.owner)) c.requires.under.shape);
      access = refl;
      may = (
        inl c.requires.running.phase,
        c.requires.running.agreed,
        rw c.requires.owner refl,
        rw c.requires.status.0 (live_small _ c.requires.status.1),
      );
    })

-- where it says to abort or to give way nothing has changed
chose : (g : Over) (c : After-decide g) (x : Choice) →
    decided c.args.self.now.decider x ≡ c.args.self.now.decider → c.decide.new.self ≡ decided c.args.self.now.decider x →
    x ≡ choice c.args.self.now.decider.manager c.args.self.now.rank c.args.enemy c.args.status c.args.self.now.round
    (next_word c.args.self.now.decider) → (record c.args.self.now { decider = c.decide.new.self } ≡ c.args.self.now)
    × Under g.L.Law.holds c.args.words.now g.B.InCall.began (record c.args.self.now { decider = c.decide.new.self })
    (on_choice x) None
    × (chosen c.args.words.now.terms.shape.manager (now c.args.words.now c.args.self.now) (effort_by c.args.self.now) ≡ x)
chose g c x keeps left answer =
    let same = ap (λ d. record c.args.self.now { decider = d }) (left ∙ keeps) in
    let here = chosen_is c.requires.under c.args.status c.requires.enemy c.requires.status.0 ∙ sym answer in (
      same,
      subst (λ s. Under g.L.Law.holds c.args.words.now g.B.InCall.began s (on_choice x) None) (sym same)
          (under_is c.requires.under (ap on_choice here) refl),
      here,
    )

pub returns-in-Kill-clause-kill : goal.returns-in-Kill-clause-kill
returns-in-Kill-clause-kill g c is =
    chose g (goal.at.returns-in-Kill-clause-kill g c).After-decide decision.Kill
    (kill_keeps c.args.self.now.decider) c.in-Kill.ensures.left c.in-Kill.ensures.answer

pub returns-in-GiveWay-clause-give_way : goal.returns-in-GiveWay-clause-give_way
returns-in-GiveWay-clause-give_way g c is =
    chose g (goal.at.returns-in-GiveWay-clause-give_way g c).After-decide decision.GiveWay
    (give_way_keeps c.args.self.now.decider) c.in-GiveWay.ensures.left c.in-GiveWay.ensures.answer

-- the turns to be waited are those that the manager chose
chose_wait : (g : Over) (c : After-load-code g) →
    chosen c.args.words.now.terms.shape.manager (now c.args.words.now c.args.self.now) (effort_by c.args.self.now)
    ≡ Wait c.in-Wait.turns
chose_wait g c =
    chosen_is c.requires.under c.args.status c.requires.enemy c.requires.status.0 ∙ sym c.in-Wait.ensures.answer

-- the caller while it waits, in this round
abbrev waiting : (g : Over) → After-load-code g → ℕ → Steps g.row.L.Denot
waiting g c round = record c.args.self.now {
  seat = c.load-code.new.self;
  decider = c.decide.new.self;
  left = c.in-Wait.turns - 1;
  round = round;
}

-- what it counts of the wait, one turn of which has passed
abbrev waited : (g : Over) → After-load-code g → Effort
waited g c = record (effort_by c.args.self.now) { generator = c.decide.new.self.generator }

waits : (g : Over) (c : After-load-code g) (code round : ℕ) → c.load-code.result ≡ code →
    turn c.in-Wait.turns (waited g c) ≡ effort_by (waiting g c round) →
    (now c.args.words.now (waiting g c round) ≡ after LookStatus c.args.words.now.terms.shape
    (now c.args.words.now c.args.self.now) (made_by g.B.InCall.began Load LookStatus 0 code))
    × Resolving g.L.Law.holds c.args.words.now g.B.InCall.began (waiting g c round)
waits g c code round found counts =
    let old : Steps g.row.L.Denot = c.args.self.now in
    let manager : Manager = c.args.words.now.terms.shape.manager in
    let w : Went g.L.Law.holds c.args.words.now g.B.InCall.began old (waiting g c round)
    (made_by g.B.InCall.began Load LookStatus c.status-place.result c.load-code.result) =
    took (under_is c.requires.under (ap on_choice (chose_wait g c)) refl) Load c.load-code.ensures.event
    c.load-code.ensures.seat (refl, tt) in
    let m = c.requires.under.mirror in
    let generator : (decided (record { manager = manager; generator = old.decider.generator })
    (Wait c.in-Wait.turns)).generator ≡ c.decide.new.self.generator =
    rw (← c.requires.under.manager) (ap (λ (d : DeciderState). d.generator) (sym c.in-Wait.ensures.left)) in
    let kept : c.decide.new.self.manager ≡ old.decider.manager =
    rw c.in-Wait.ensures.left (manager_kept old.decider c.in-Wait.turns) in (
      w.state ∙ ap (λ n. after LookStatus c.args.words.now.terms.shape (now c.args.words.now old)
          (made_by g.B.InCall.began Load LookStatus 0 n)) found,
      went_on w refl
          (record {
            shape = refl;
            manager = kept;
            mirror = record { own = m.own; installed = m.installed; rank = m.rank };
            effort = first_turn manager (now c.args.words.now old) (effort_by old) c.in-Wait.turns
                (rw c.requires.status.0 refl) c.requires.running.phase c.requires.left (chose_wait g c)
                ∙ ap (λ n. turn c.in-Wait.turns (record (effort_by old) { generator = n })) generator ∙ counts;
          }) (rw (w.state, c.requires.running.phase) refl) (rw w.state c.requires.running.agreed) c.requires.tries,
    )

pub returns-then-turns-eq1-clause-waits : goal.returns-then-turns-eq1-clause-waits
returns-then-turns-eq1-clause-waits g c code is =
    let before = (goal.at.returns-then-turns-eq1-clause-waits g c).After-load-code in
    waits g before code (c.args.self.now.round + 1) (cc) (turn_last c.in-Wait.turns (waited g before) c.if-turns-eq1.true)

pub returns-else-turns-eq1-clause-waits : goal.returns-else-turns-eq1-clause-waits
returns-else-turns-eq1-clause-waits g c code is =
    let before = (goal.at.returns-else-turns-eq1-clause-waits g c).After-load-code in
    waits g before code c.args.self.now.round (cc) (turn_more c.in-Wait.turns (waited g before) c.if-turns-eq1.false)

-- the rounds of a wait are few
few_rounds : (g : Over) (c : After-load-code g) → c.args.self.now.round < 1024
few_rounds g c =
    round_in c.args.words.now.terms.shape.manager _ _ _ _ c.in-Wait.turns _ (rank_in c.requires.under) (chose_wait g c)

pub returns-then-turns-eq1-clause-rounds : goal.returns-then-turns-eq1-clause-rounds
returns-then-turns-eq1-clause-rounds g c code is =
    (rw c.if-turns-eq1.true refl, few_rounds g (goal.at.returns-then-turns-eq1-clause-rounds g c).After-load-code, refl)

pub returns-else-turns-eq1-clause-rounds : goal.returns-else-turns-eq1-clause-rounds
returns-else-turns-eq1-clause-rounds g c code is =
    let before = (goal.at.returns-else-turns-eq1-clause-rounds g c).After-load-code in
    let some = waits_some c.args.words.now.terms.shape.manager _ _ _ _ c.in-Wait.turns _ (chose_wait g before) in
    let more = c.if-turns-eq1.false in
    (rw (ne_eqb (c.in-Wait.turns - 1) 0 (λ q. omega arith)) refl, few_rounds g before, refl)
