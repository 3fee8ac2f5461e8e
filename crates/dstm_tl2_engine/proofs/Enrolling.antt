-- A caller that was made.
use Rattle.std.proofs.Common.{◌<◌, ◌∙◌, ◌∷◌, ◌≡◌, List, [], ◌+◌, ap, refl, subst, sym, ℕ}
use Rattle.std.specs.Prelude.{Option, Some, IfSome}
use Rattle.dstm_tl2_engine.proofs.Base.{Add, Enrol, Enrolling, Event, Home, IsCall, IsRunOf, LocalState, Makes, Table, Terms, Val, View, events_of, first, given_part, kept_part, local, made, table_of, tl2}
use Rattle.atomic_table.specs.Seated.{TableId}
use Rattle.atomic_table.specs.declared.shared.Seat.{Seat}
use Rattle.dstm_machines.proofs.Own.{none_before_only}
use Rattle.dstm_machines.proofs.Runs.{local-events_of}
use Rattle.dstm_tl2_engine.specs.Callers.{TlCalled}
use Rattle.dstm_tl2_engine.specs.Tables.{Enrols, TlFounding, enrolled_as, unnumbered}

enrolling : (t : Table) {l : LocalState} (e : Event) → e.kind ≡ Enrol → l ≡ first → IsCall Enrolling t l (e ∷ [])
enrolling t {l = l} e k h =
    subst (λ (l : LocalState). IsCall Enrolling t l (e ∷ [])) (sym h) (record { obeys = (tt, k); done = rw k refl })

pub enrols : {L : Type 0} {holds : L → List Val → Type 0} (f : TlFounding L) {g : TlFounding L} {found p : ℕ}
    {w : View L}
    {k : TlCalled L} → f.view.terms ≡ Some f.home.terms → Makes holds (given_part f.view) Add Enrol p found w →
    found < f.home.terms.callers → k ≡ record (unnumbered f) { log = w.log; number = found } →
    g ≡ record f { view = kept_part f.view; made = f.made + 1 } →
    local (table_of f.home.terms) w.log found ≡ record first { number = Some found } → Enrols holds f g k
enrols {L = L} {holds = holds} f {g = g} {found = found} {p = p} {w = w} {k = k} terms m few is now there =
    subst (λ (k : TlCalled L). Enrols holds f g k) (sym is) (record {
      founder = now;
      caller = refl;
      number = few;
      enrol = e;
      log = m.log;
      own = m.mine;
      state = there;
      steps = record {
        acts = record {
          events = e ∷ [];
          own = m.mine ∙ ap (λ xs. e ∷ xs) (sym none);
          call = enrolling (table_of f.home.terms) e refl new;
          answers = refl;
          seen = record { later = e ∷ m.log.0; whole = sym m.log.1 };
          run = subst (λ (o : Option (Terms L)). IfSome o (λ (t : Terms L). IsRunOf holds t w.log)) terms m.run;
        };
        same = (refl, refl);
      };
    })
  where
    e : Event
    e = made (given_part f.view) Add Enrol p found

    none : events_of found f.view.log ≡ []
    none = none_before_only found m.log.0 f.view.log (made (given_part f.view) Add Enrol p found) refl
        (subst (λ xs. events_of found xs ≡ made (given_part f.view) Add Enrol p found ∷ []) m.log.1 m.mine)

    new : local (table_of f.home.terms) f.view.log found ≡ first
    new = sym (local-events_of tl2 (table_of f.home.terms) f.view.log found)
        ∙ ap (λ xs. local (table_of f.home.terms) xs found) none

-- the founder after the split, and the caller, from what they are made of
pub founder_is : {L : Type 0} {f : TlFounding L} {h : Home L} (table : TableId) (terms : Terms L) (old : View L)
    {new : View L} (made : ℕ) →
    record { home = record { table = table; terms = terms }; view = old; made = made } ≡ f →
    f.home ≡ h → {fresh_table : TableId} → fresh_table ≡ h.table → new ≡ kept_part old →
    record { home = record { table = fresh_table; terms = terms }; view = new; made = made + 1 }
    ≡ record f { view = kept_part f.view; made = f.made + 1 }
founder_is {L = L} {h = h} table terms old {new = new} made is at same kept =
    let was : table ≡ h.table = ap (λ (x : TlFounding L). x.home.table) is ∙ ap (λ (x : Home L). x.table) at in
    ap (λ t. record { home = record { table = t; terms = terms }; view = new; made = made + 1 }) (same ∙ sym was)
    ∙ ap (λ v. record { home = record { table = table; terms = terms }; view = v; made = made + 1 }) kept
    ∙ ap (λ (x : TlFounding L). record x { view = kept_part x.view; made = x.made + 1 }) is

pub caller_is : {L : Type 0} (f : TlFounding L) {h : Home L} (found : ℕ) (seat : Seat ℕ (View L)) {terms : Terms L}
    {k : TlCalled L} → k ≡ enrolled_as terms seat found → f.home ≡ h → seat.table_id ≡ h.table → terms ≡ h.terms →
    k ≡ record (unnumbered f) { log = seat.me.0.log; number = found }
caller_is {L = L} f {h = h} found seat {terms = terms} is at table told = is ∙ rw (table, told, ← at) refl

-- the founder after a join
pub keeps_rest : {L : Type 0} {f : TlFounding L} {h : Home L} (table : TableId) (terms : Terms L) (old new : View L)
    (made : ℕ) →
    record { home = record { table = table; terms = terms }; view = old; made = made } ≡ f →
    f.home ≡ h → {later_table : TableId} → later_table ≡ h.table →
    record { home = record { table = later_table; terms = terms }; view = new; made = made } ≡ record f { view = new }
keeps_rest {L = L} {h = h} table terms old new made is at same =
    let was : table ≡ h.table = ap (λ (x : TlFounding L). x.home.table) is ∙ ap (λ (x : Home L). x.table) at in
    ap (λ t. record { home = record { table = t; terms = terms }; view = new; made = made }) (same ∙ sym was)
    ∙ ap (λ (x : TlFounding L). record x { view = new }) is
