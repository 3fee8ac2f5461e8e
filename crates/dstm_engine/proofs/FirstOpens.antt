-- An open of an object that is not open yet, as its answers see it.
use Rattle.std.proofs.Common.{◌<◌, ◌∙◌, ◌≡◌, List, None, Option, Some, ap, false, length, subst, sym, true, ℕ}
use Rattle.std.specs.Prelude.{IsTrue}
use Rattle.dstm_engine.proofs.Base.{Again, Doing, Home, IsNoReading, LocalState, Reading, Steps, Val, Work, Writing, is_open, now, read_of, write_of}
use Rattle.dstm_engine.proofs.AtCall.{AtCall, at_home, ends_at, state_at}
use Rattle.dstm_engine.proofs.Left.{left_as, left_tied}
use Rattle.dstm_engine.proofs.Opens.{locator_left, no_slot_of, read_opens, read_tied, room_to_read, room_to_write, stopped, unheld_both, unheld_slot, write_marked, write_opens, write_tied}
use Rattle.dstm_engine.proofs.Tying.{EndsAt}
use Rattle.dstm_engine.specs.Callers.{Called, held, is_live, is_opened, shape_of, state}
use Rattle.dstm_engine.specs.Mirror.{Tied, called, set_pairs}
use Rattle.dstm_engine.specs.Opened.{OpenedAs, read_slot, write_slot}
use Rattle.dstm_engine.specs.Opens.{AddsRead, AddsWrite, HasVersion, Opens, OpensToRead, OpensToWrite, Stops}
use Rattle.dstm_engine.specs.declared.caller.Caller.TheInside.{Inside}

-- An object is not held: it was not opened, and there is room for it among the reads.
pub record Unheld {L : Type 0} (words : Home L) (steps : Steps L) (opened : OpenedAs) (o : ℕ) : Type 0 where
  pub unopened : write_of o (now words steps).writes ≡ None
  pub unread : read_of o (now words steps).reads ≡ None
  pub fresh : read_slot opened.reads o ≡ None
  pub room : length opened.reads < opened.objects

module _ {L : Type 0} {holds : L → List Val → Type 0} {c : Inside L} {k : Called L} {words : Home L} {steps : Steps L}
    (at : AtCall holds c k words steps) (live : is_live k ≡ true) (o : ℕ) where
  on : c.live ≡ true
  on = at.live ∙ live

  exists : o < (shape_of k).objects → o < c.terms.shape.objects
  exists below = subst (λ (k : Called L). o < (shape_of k).objects) (sym at.view) below

  -- ---- for reading

  module _ (none : held k o ≡ None) where
    unheld : held (called c) o ≡ None
    unheld = ap (λ (k : Called L). held k o) at.view ∙ none

    pub first_unheld : o < (shape_of k).objects → Unheld words steps c.opened o
    first_unheld below = record {
      unopened = ap (λ (l : LocalState). write_of o l.writes) (state_at at) ∙ (unheld_both at.tied on o unheld).0;
      unread = ap (λ (l : LocalState). read_of o l.reads) (state_at at) ∙ (unheld_both at.tied on o unheld).1;
      fresh = unheld_slot at.tied on o unheld;
      room = room_to_read at.tied on o (exists below) unheld;
    }

    module _ (some_reads : (shape_of k).all_write ≡ false) {new : Steps L}
        (done : EndsAt holds words steps (Doing (Reading o)) new None) {value : Val}
        {opened : OpenedAs} (e : OpensToRead words steps new c.opened opened o value) {last : Option ℕ}
        (last_is : last ≡ (now words new).last_pass) where
      adds : AddsRead o e.word e.version (state (called c)) (now (called c).home new)
      adds = at_home at (λ h l. AddsRead o e.word e.version l (now h new)) e.adds

      valued : HasVersion (called c).home new o e.version value
      valued = at_home at (λ h _. HasVersion h new o e.version value) e.valued

      passed : last ≡ (now (called c).home new).last_pass
      passed = at_home at (λ h _. last ≡ (now h new).last_pass) last_is

      reads : c.terms.shape.all_write ≡ false
      reads = ap (λ (k : Called L). (shape_of k).all_write) at.view ∙ some_reads

      pub first_tied : Tied holds (record c { steps = new; last_number = last; opened = opened })
      first_tied = rw e.listed (read_tied at.tied on value (ends_at at done) adds valued passed unheld reads)

      pub first_opens :
          Opens holds (Reading o) o k (called (record c { steps = new; last_number = last; opened = opened })) value
      first_opens =
          rw (← at.view, e.listed) (read_opens at.tied on value (ends_at at done) adds valued passed unheld reads)

  -- ---- for writing

  module _ (shut : is_opened k o ≡ false) where
    unopened : is_opened (called c) o ≡ false
    unopened = ap (λ (k : Called L). is_opened k o) at.view ∙ shut

    pub locator_there : o < (shape_of k).objects → (now words steps).installed < words.terms.shape.locators
    locator_there below = rw (state_at at, ← at.home) (locator_left at.tied on o (exists below) unopened)

    pub write_fresh : write_slot c.opened.writes o ≡ None
    write_fresh = no_slot_of at.tied on o unopened

    pub write_room : o < (shape_of k).objects → length c.opened.writes < c.opened.objects
    write_room below = room_to_write at.tied on o (exists below) unopened

    module _ {new : Steps L}
        (done : EndsAt holds words steps (Doing (Writing o)) new None) {value : Val}
        {opened : OpenedAs} (e : OpensToWrite words steps new c.opened opened o value) {last : Option ℕ}
        (last_is : last ≡ (now words new).last_pass) where
      adds_w : AddsWrite o e.version (state (called c)) (now (called c).home new)
      adds_w = at_home at (λ h l. AddsWrite o e.version l (now h new)) e.adds

      valued_w : HasVersion (called c).home new o e.version value
      valued_w = at_home at (λ h _. HasVersion h new o e.version value) e.valued

      passed_w : last ≡ (now (called c).home new).last_pass
      passed_w = at_home at (λ h _. last ≡ (now h new).last_pass) last_is

      pub first_write_tied : Tied holds (record c { steps = new; last_number = last; opened = opened })
      first_write_tied = rw e.listed (write_tied at.tied on value (ends_at at done) adds_w valued_w passed_w unopened)

      pub first_write_opens :
          Opens holds (Writing o) o k (called (record c { steps = new; last_number = last; opened = opened })) value
      first_write_opens =
          rw (← at.view, e.listed) (write_opens at.tied on value (ends_at at done) adds_w valued_w passed_w unopened)

      pub first_write_marked :
          IsTrue (is_opened (called (record c { steps = new; last_number = last; opened = opened })) o)
      first_write_marked =
          subst (λ (x : OpenedAs).
          IsTrue (is_opened (called (record c { steps = new; last_number = last; opened = x })) o)) (sym e.listed)
          (write_marked at.tied on value (ends_at at done) adds_w valued_w passed_w unopened)

-- ---- that has left its attempt

module _ {L : Type 0} {holds : L → List Val → Type 0} {c : Inside L} {k : Called L} {words : Home L} {steps : Steps L}
    (at : AtCall holds c k words steps) (live : is_live k ≡ true) {work : Work} (is_one : is_open work ≡ true)
    {new : Steps L} {again : Again} (done : EndsAt holds words steps (Doing work) new (Some again))
    (no_reading : (shape_of k).all_write ≡ true → IsNoReading work) (last : Option ℕ) (opened : OpenedAs)
    (rest : (opened.objects ≡ c.opened.objects) × (set_pairs opened.writes ≡ set_pairs c.opened.writes)) where
  writes : c.terms.shape.all_write ≡ true → IsNoReading work
  writes all = no_reading (ap (λ (k : Called L). (shape_of k).all_write) (sym at.view) ∙ all)

  pub first_stopped_tied : Tied holds (left_as c new last again opened)
  first_stopped_tied = left_tied at.tied (at.live ∙ live) (ends_at at done) writes last opened rest.0

  pub first_stops : Stops holds work k (called (left_as c new last again opened)) again
  first_stops = rw (← at.view) (stopped at.tied (at.live ∙ live) is_one (ends_at at done) writes last opened rest.1)
