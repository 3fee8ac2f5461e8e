use Rattle.std.proofs.Common.{◌*◌, ◌<◌, ◌∙◌, ◌≡◌, ap, sym, subst, None}
use Rattle.dstm_engine.proofs.Base.{Exchange, Home, Leaving, LocalState, Makes, Quit, Shape, StatusWord, View, found_in, own_attempt, place}
use Rattle.dstm_engine.specs.Callers.{Called, is_running, seat_view, shape_of, state}
use Rattle.dstm_engine.specs.Calls.{Performs}
use Rattle.dstm_engine.specs.Mirror.{called, phase_by}
use Rattle.dstm_engine.proofs.Leaving.{left_already, none_holds, not_made, own_below, quit_allowed, quit_run, quit_state, quit_view, quits}
use Rattle.dstm_engine.proofs.caller.Caller.leave.Given.{Over}
use Rattle.dstm_engine.proofs.caller.Caller.leave.Goals.{After-exchange-found}
use Rattle.dstm_engine.proofs.caller.Caller.leave.Goals as goal

pub status-status-requires-clause-below : goal.status-status-requires-clause-below
status-status-requires-clause-below g c =
    let v = c.self.invariant in
    let k = called c.self.inside in
    let below = own_below k v.run v.number.0 (v.phase ∙ ap phase_by c.if-self.true) in
    subst (λ n. n < c.self.inside.steps.shape.callers * c.self.inside.steps.shape.attempts) (sym v.mirror.own)
    (subst (λ (s : Shape). own_attempt (shape_of k) (state k) < s.callers * s.attempts) (sym v.shape) below)

pub exchange-found-requires-clause-allowed : goal.exchange-found-requires-clause-allowed
exchange-found-requires-clause-allowed g c = λ found lt.
    let v = c.self.invariant in
    let k = called c.self.inside in
    let ph = v.phase ∙ ap phase_by c.if-self.true in
    let home : k.home ≡ c.words.result.now =
    ap (λ (k : Called _). k.home) c.self.view_is ∙ c.requires.table ∙ sym c.words.ensures in
    let at : c.status-status.result
    ≡ place c.words.result.now.terms.shape (StatusWord (own_attempt (shape_of k) (state k))) = c.status-status.ensures
    ∙ ap (λ (s : Shape). place s (StatusWord c.self.inside.steps.own)) v.shape
    ∙ ap (λ a. place c.self.inside.terms.shape (StatusWord a)) v.mirror.own
    ∙ ap (λ (h : Home _). place h.terms.shape (StatusWord (own_attempt (shape_of k) (state k)))) home in
    rw (c.code-active.ensures, c.code-aborted.ensures) (quit_allowed k c.status-status.result found home
    v.seat.0 ph (own_below k v.run v.number.0 ph) at)

-- its exchange is that of a Quit
quitted : (g : Over) (c : After-exchange-found g) → Makes g.L.Law.holds (seat_view (called c.self.inside)) (Exchange 1 5) Quit
    c.status-status.result (found_in c.exchange-found.result) c.exchange-found.new.self.me.0
quitted g c =
    let w = c.exchange-found.new.self.me.0 in
    let found = found_in c.exchange-found.result in
    let seat = c.self.inside.steps.seat.me.0 in
    subst (λ (x : View _). Makes g.L.Law.holds x (Exchange 1 5) Quit c.status-status.result found w) c.self.invariant.seat.0
    (subst (λ b. Makes g.L.Law.holds seat (Exchange 1 b) Quit c.status-status.result found w) c.code-aborted.ensures
    (subst (λ a. Makes g.L.Law.holds seat (Exchange a c.code-aborted.result) Quit c.status-status.result found w)
    c.code-active.ensures c.exchange-found.ensures.event))

pub invariant_of-self : goal.invariant_of-self
invariant_of-self g c =
    let v = c.self.invariant in
    let ph = v.phase ∙ ap phase_by c.if-self.true in
    let k = called c.self.inside in
    let w = c.exchange-found.new.self.me.0 in
    let found = found_in c.exchange-found.result in
    let m = quitted g (goal.at.invariant_of-self g c).After-exchange-found in
    let st = quit_state k m in
    record {
      placed = record {
        seat = (quit_view k m, c.exchange-found.ensures.seat.1);
        run = quit_run k m;
        number = (v.number.0, ap (λ (l : LocalState). l.number) st ∙ v.number.1);
        shape = v.shape;
        mirror = record {
          own = v.mirror.own ∙ ap (own_attempt (shape_of k)) (sym st);
          installed = v.mirror.installed ∙ ap (λ (l : LocalState). l.installed) (sym st);
          rank = v.mirror.rank ∙ ap (λ (l : LocalState). l.rank) (sym st);
        };
      };
      begun = ap (λ (l : LocalState). l.begun) st ∙ v.begun;
      phase = ap (λ (l : LocalState). l.phase) st;
      manager = v.manager;
      fresh = λ h. let f = v.fresh h in (
        ap (λ (l : LocalState). l.committed) st ∙ f.0,
        (λ greedy. ap (λ (l : LocalState). l.stands) st ∙ f.1 greedy),
      );
      unused = (
        ap (λ (l : LocalState). l.stamped) st ∙ v.unused.0,
        ap (λ (l : LocalState). l.ranked) st ∙ v.unused.1,
      );
      last_number = λ h. absurd (cc h);
      rest = λ h. absurd (cc h);
      left = λ h. absurd (cc h);
      ended = none_holds _ _ (v.left c.if-self.true);
      uncommitted = λ h. absurd (cc h);
      told = λ made. absurd (not_made (record k { log = w.log })
          (ap (λ (l : LocalState). is_running l.phase) st) (v.left c.if-self.true)
          (ap (λ (l : LocalState). l.committed) st ∙ v.uncommitted c.if-self.true) made);
      sighted = λ h. absurd (cc h);
      reads = λ h. absurd (cc h);
      values = λ h. absurd (cc h);
      writes = λ h. absurd (cc h);
      olds = λ h. absurd (cc h);
      objects = v.objects;
      locators = λ h. absurd (cc h);
    }

pub returns-then-self-clause-steps : goal.returns-then-self-clause-steps
returns-then-self-clause-steps g c =
    let ph = c.self.invariant.phase ∙ ap phase_by c.if-self.true in
    let k = called c.self.inside in
    let w = c.exchange-found.new.self.me.0 in
    let m = quitted g (goal.at.returns-then-self-clause-steps g c).After-exchange-found in
    let home : k.home ≡ c.words.result.now =
    ap (λ (x : Called _). x.home) c.self.view_is ∙ c.requires.table ∙ sym c.words.ensures in
    let table : c.exchange-found.new.self.table_id ≡ k.home.table =
    c.exchange-found.ensures.seat.0 ∙ sym (ap (λ (h : Home _). h.table) home) in
    subst (λ (x : Called _). Performs g.L.Law.holds Leaving x (record k {
      home = record { table = c.exchange-found.new.self.table_id; terms = c.self.inside.terms };
      log = w.log;
    }) None) c.self.view_is (subst (λ t. Performs g.L.Law.holds Leaving k (record k {
      home = record { table = t; terms = c.self.inside.terms };
      log = w.log;
    }) None) (sym table) (quits k m ph))

pub returns-else-self-clause-steps : goal.returns-else-self-clause-steps
returns-else-self-clause-steps g c =
    let v = c.self.invariant in
    subst (λ (k : Called _). Performs g.L.Law.holds Leaving k k None) c.self.view_is
    (left_already (called c.self.inside) v.run (v.phase ∙ ap phase_by c.if-self.false))
