-- A caller that was made.
use Rattle.std.proofs.Common.{◌<◌, ◌∙◌, ◌∷◌, ◌≡◌, List, [], ◌+◌, ap, refl, subst, sym, ℕ}
use Rattle.std.specs.Prelude.{Option, Some, IfSome}
use Rattle.dstm_engine.proofs.Base.{Add, Enrol, Enrolling, Event, Home, IsCall, IsRunOf, Lcg, LocalState, Makes, Manager, Shape, Terms, Val, View, core, events_of, first, given_part, kept_part, local, made, started}
use Rattle.dstm_machines.proofs.Own.{none_before_only}
use Rattle.dstm_machines.proofs.Runs.{local-events_of}
use Rattle.dstm_engine.specs.Callers.{Called}
use Rattle.atomic_table.specs.Seated.{TableId}
use Rattle.atomic_table.specs.declared.shared.Seat.{Seat}
use Rattle.dstm_engine.specs.Enrolled.{enrolled_as}
use Rattle.dstm_engine.specs.Tables.{Enrols, Founding, unnumbered}

enrolling : (s : Shape) {l : LocalState} (gen : Lcg) (e : Event) → e.kind ≡ Enrol → l ≡ first →
    IsCall Enrolling s l gen (e ∷ [])
enrolling s {l = l} gen e k h =
    subst (λ (l : LocalState). IsCall Enrolling s l gen (e ∷ [])) (sym h)
    (record { obeys = (tt, (k, tt)); done = rw k refl })

pub enrols : {L : Type 0} {holds : L → List Val → Type 0} (f : Founding L) {g : Founding L} (seed : ℕ) {found p : ℕ}
    {w : View L}
    {k : Called L} → f.view.terms ≡ Some f.home.terms → Makes holds (given_part f.view) Add Enrol p found w →
    found < f.home.terms.shape.callers → k ≡ record (unnumbered f seed) { log = w.log; number = found } →
    g ≡ record f { view = kept_part f.view; made = f.made + 1 } → Enrols holds f g seed k
enrols {L = L} {holds = holds} f {g = g} seed {found = found} {p = p} {w = w} {k = k} terms m few is now =
    subst (λ (k : Called L). Enrols holds f g seed k) (sym is) (record {
      founder = now;
      caller = refl;
      number = few;
      enrol = e;
      log = m.log;
      own = m.mine;
      steps = record {
        acts = record {
          events = e ∷ [];
          own = m.mine ∙ ap (λ xs. e ∷ xs) (sym none);
          call = enrolling f.home.terms.shape _ e refl new;
          answers = refl;
          seen = record { later = e ∷ m.log.0; whole = sym m.log.1 };
          run = subst (λ (o : Option (Terms L)). IfSome o (λ (t : Terms L). IsRunOf holds t w.log)) terms m.run;
          generator = refl;
        };
        same = (refl, refl);
      };
    })
  where
    e : Event
    e = made (given_part f.view) Add Enrol p found

    none : events_of found f.view.log ≡ []
    none = none_before_only found m.log.0 f.view.log (made (given_part f.view) Add Enrol p found) refl
        (subst (λ xs. events_of found xs ≡ made (given_part f.view) Add Enrol p found ∷ []) m.log.1 m.mine)

    new : local f.home.terms.shape f.view.log found ≡ first
    new = sym (local-events_of core f.home.terms.shape f.view.log found)
        ∙ ap (λ xs. local f.home.terms.shape xs found) none

-- the founder after the split, and the caller, from what they are made of
pub founder_is : {L : Type 0} {f : Founding L} {h : Home L} (table : TableId) (terms : Terms L) (old : View L)
    {new : View L} (made guests : ℕ) →
    record { home = record { table = table; terms = terms }; view = old; made = made; guests = guests } ≡ f →
    f.home ≡ h → {fresh_table : TableId} → fresh_table ≡ h.table → new ≡ kept_part old →
    record { home = record { table = fresh_table; terms = terms }; view = new; made = made + 1; guests = guests }
    ≡ record f { view = kept_part f.view; made = f.made + 1 }
founder_is {L = L} {h = h} table terms old {new = new} made guests is at same kept =
    let was : table ≡ h.table = ap (λ (x : Founding L). x.home.table) is ∙ ap (λ (x : Home L). x.table) at in
    ap (λ t. record { home = record { table = t; terms = terms }; view = new; made = made + 1; guests = guests })
    (same ∙ sym was)
    ∙ ap (λ v. record { home = record { table = table; terms = terms }; view = v; made = made + 1; guests = guests })
    kept
    ∙ ap (λ (x : Founding L). record x { view = kept_part x.view; made = x.made + 1 }) is

pub caller_is : {L : Type 0} (f : Founding L) {h : Home L} (seed found : ℕ) (seat : Seat ℕ (View L)) {terms : Terms L}
    {manager : Manager} {k : Called L} → k ≡ enrolled_as terms seat found (started manager seed) → f.home ≡ h →
    seat.table_id ≡ h.table → terms ≡ h.terms → manager ≡ h.terms.shape.manager →
    k ≡ record (unnumbered f seed) { log = seat.me.0.log; number = found }
caller_is {L = L} f {h = h} seed found seat {terms = terms} is at table told by =
    is
    ∙ ap (λ m. enrolled_as terms seat found (started m seed)) by
    ∙ ap (λ t. record (enrolled_as terms seat found (started h.terms.shape.manager seed)) {
      home = record { table = t; terms = terms };
    }) table
    ∙ ap (λ t. record (enrolled_as terms seat found (started h.terms.shape.manager seed)) {
      home = record { table = h.table; terms = t };
    }) told
    ∙ ap (λ (x : Home L). record (enrolled_as terms seat found (started x.terms.shape.manager seed)) { home = x })
    (sym at)

-- the founder after a join
pub keeps_rest : {L : Type 0} {f : Founding L} {h : Home L} (table : TableId) (terms : Terms L) (old new : View L)
    (made guests : ℕ) →
    record { home = record { table = table; terms = terms }; view = old; made = made; guests = guests } ≡ f →
    f.home ≡ h → {later_table : TableId} → later_table ≡ h.table →
    record { home = record { table = later_table; terms = terms }; view = new; made = made; guests = guests }
    ≡ record f { view = new }
keeps_rest {L = L} {h = h} table terms old new made guests is at same =
    let was : table ≡ h.table = ap (λ (x : Founding L). x.home.table) is ∙ ap (λ (x : Home L). x.table) at in
    ap (λ t. record { home = record { table = t; terms = terms }; view = new; made = made; guests = guests })
    (same ∙ sym was)
    ∙ ap (λ (x : Founding L). record x { view = new }) is
