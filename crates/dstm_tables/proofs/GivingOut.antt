-- What gives out the callers of a table, by each engine.
use Rattle.std.proofs.Common.{◌≡◌, ◌∙◌, ◌∷◌, ◌++◌, ◌==◌, ◌&&◌, ℕ, [], None, false, refl, sym, ap, subst, not}
use Rattle.std.proofs.lemmas.Bool.{and_left, and_right}
use Rattle.std.proofs.lemmas.List.Elements.{Contains-push}
use Rattle.dstm_model.specs.Map.{state_after}
use Rattle.dstm_machines.specs.Traces.{events_of}
use Rattle.dstm_machines.proofs.Own.{none_before_only, own_event, same_local}
use Rattle.dstm_opacity.proofs.Stays as dstm_stays
use Rattle.dstm_opacity.specs.Committed as dstm_committed
use Rattle.dstm_tables.proofs.Entries.{entries_reverse}
use Rattle.dstm_words.specs.Seats as words
use Rattle.dstm_managers.specs.Choices.{started}
use Rattle.dstm_engine.specs.Callers as dstm
use Rattle.dstm_engine.specs.Tables as engine
use Rattle.dstm_tables.proofs.Fresh as fresh
use Rattle.dstm_core.specs.Histories as core
use Rattle.dstm_tl2.specs.Histories as tl2_histories
use Rattle.dstm_tl2.specs.Runs.{local, tl2}
use Rattle.dstm_tl2.specs.Sharing.{IsRunOf, table_of}
use Rattle.dstm_tl2.specs.State.{LocalState, is_valid}
use Rattle.dstm_tl2_words.specs.Seats as tl2_words
use Rattle.dstm_tl2.specs.Committed.{committed_in, done_by}
use Rattle.dstm_tl2.proofs.Done.{done_still, same_done_by}
use Rattle.dstm_tl2.proofs.Standing.{entries_are_history}
use Rattle.dstm_tl2_engine.specs.Callers as called
use Rattle.dstm_tl2_engine.specs.Tables as tl2_tables
use Rattle.dstm_tl2_engine.proofs.Living.{makes_one}
use Rattle.dstm_tl2_order.specs.Made.{LocksItsWrites}
use Rattle.dstm_tl2_order.specs.Tasks.Task.{Enrolling}
use Rattle.dstm_tables.specs.declared.founding.Founder.TheVariants.{Dstm, Tl2}
use Rattle.dstm_tables.specs.declared.tables.Caller.TheVariants as caller
use Rattle.dstm_tables.specs.declared.tables.Round.TheVariants as round
use Rattle.dstm_tables.specs.declared.tables.Table.{Table}
use Rattle.dstm_tables.specs.declared.tables.Table.TheVariants as table
use Rattle.dstm_tables.specs.Callers.{CameByCalls, IsOver, home_of}
use Rattle.dstm_tables.proofs.Calls.{tl2_from_first}
use Rattle.dstm_tables.specs.Founders.{GivesOut, TakesBack, home_there}
use Rattle.dstm_tables.specs.Tells.{values_of}
use Rattle.dstm_model.specs.declared.value.Val.{Val}
use Rattle.std.specs.Prelude.{List}

module _ {L : Type 0} where
  -- tables that are the same are told the same
  pub dstm_home_is : (k : dstm.Called L) (f : engine.Founding L) → home_of (caller.Dstm k) ≡ home_there (Dstm f) →
      k.home ≡ f.home
  dstm_home_is k f same = let is : table.Dstm k.home ≡ table.Dstm f.home = same in cc

  pub tl2_home_is : (k : called.TlCalled L) (f : tl2_tables.TlFounding L) → home_of (caller.Tl2 k) ≡ home_there (Tl2 f) →
      k.home ≡ f.home
  tl2_home_is k f same = let is : table.Tl2 k.home ≡ table.Tl2 f.home = same in cc

  -- ---- what a closed table leaves

  pub dstm_values : (r : engine.Recorded L) →
      state_after r.terms.start.value.items (core.history_of r.terms.shape r.terms.start.value.items r.log) ≡ values_of (round.Dstm r)
  dstm_values r =
      ap (state_after r.terms.start.value.items)
      (dstm_stays.entries_are_history r.terms.shape r.terms.start.value.items r.log
      ∙ sym (entries_reverse (dstm_committed.committed_in r.terms.shape r.terms.start.value.items r.log)))

  pub tl2_values : (r : tl2_tables.TlRecorded L) →
      state_after r.terms.start.value.items (tl2_histories.history_of (table_of r.terms) r.log) ≡ values_of (round.Tl2 r)
  tl2_values r =
      ap (state_after r.terms.start.value.items)
      (entries_are_history (table_of r.terms) r.log ∙ sym (entries_reverse (committed_in (table_of r.terms) r.log)))

  module _ {holds : L → List Val → Type 0} where
    -- ---- a new caller

    pub dstm_new : (t : Table L) (f g : engine.Founding L) (seed : ℕ) (k : dstm.Called L) → home_there (Dstm f) ≡ t →
        engine.Enrols holds f g seed k → GivesOut holds t (Dstm f) (Dstm g) seed (caller.Dstm k)
    dstm_new t f g seed k home e = record {
      home = ap table.Dstm (fresh.fresh_home f g seed k e) ∙ home;
      seeded =
          subst (λ (h : words.Home L). k.generator ≡ (started h.terms.shape.manager seed).generator)
          (sym (fresh.fresh_home f g seed k e)) (fresh.fresh_generator f g seed k e);
      came = fresh.fresh_came f g seed k e;
      rest = fresh.fresh_rest f g seed k e;
      none_begun = fresh.fresh_begun f g seed k e;
      none_used = fresh.fresh_installed f g seed k e;
      none_let_go = fresh.fresh_let_go f g seed k e;
      none_done = fresh.fresh_done f g seed k e;
      home_then = ap (λ (x : engine.Founding L). table.Dstm x.home) e.founder;
      seen_then = ap (λ (x : engine.Founding L). round.Dstm (record { terms = x.home.terms; log = x.view.log })) e.founder;
      made = ap (λ (x : engine.Founding L). x.made) e.founder;
      out = ap (λ (x : engine.Founding L). x.view.out) e.founder;
      guests = ap (λ (x : engine.Founding L). x.guests) e.founder;
      back = ap (λ (x : engine.Founding L). x.view.numbers) e.founder;
    }

    module _ (f g : tl2_tables.TlFounding L) (k : called.TlCalled L) (e : tl2_tables.Enrols holds f g k) where
      tl2_done : done_by (called.table_of_caller k) k.log k.number ≡ []
      tl2_done =
          let t = called.table_of_caller k in
          let own : e.enrol.caller ≡ k.number = fresh.head_own k.number k.log e.enrol [] e.own in
          let alone : events_of k.number (e.enrol ∷ []) ≡ e.enrol ∷ [] = rw (← own) (own_event e.enrol []) in
          let same : local t (e.enrol ∷ []) k.number ≡ called.state k =
          same_local tl2 t (e.enrol ∷ []) k.log k.number (alone ∙ sym e.own) in
          let invalid : is_valid (local t (e.enrol ∷ []) k.number) ≡ false = ap is_valid (same ∙ e.state) in
          same_done_by t k.log (e.enrol ∷ []) k.number (e.own ∙ sym alone)
          ∙ done_still t [] e.enrol k.number (and_right (e.enrol.caller == k.number)
          (is_valid (local t (e.enrol ∷ []) k.number) && not (is_valid (local t [] k.number)))
          (and_left (is_valid (local t (e.enrol ∷ []) k.number)) (not (is_valid (local t [] k.number))) invalid))

      at_home : k.home ≡ f.home
      at_home = ap (λ (x : called.TlCalled L). x.home) e.caller

      came : CameByCalls 0 (caller.Tl2 k)
      came =
          let u : called.TlCalled L = record (tl2_tables.unnumbered f) { number = k.number } in
          tl2_from_first u k
          (none_before_only k.number e.log.0 f.view.log e.enrol (fresh.head_own k.number k.log e.enrol [] e.own)
          (ap (events_of k.number) (sym e.log.1) ∙ e.own)) (makes_one LocksItsWrites holds Enrolling u k None tt e.steps)

      pub tl2_new : (t : Table L) (seed : ℕ) → home_there (Tl2 f) ≡ t → GivesOut holds t (Tl2 f) (Tl2 g) seed (caller.Tl2 k)
      tl2_new t seed home = record {
        home = ap table.Tl2 at_home ∙ home;
        seeded = tt;
        came = came;
        rest = record {
          run = subst (λ (h : tl2_words.Home L). IsRunOf holds h.terms k.log) (sym at_home) e.steps.run;
          enrolled = ap (λ (l : LocalState). l.number) e.state;
          over = ap (λ (l : LocalState). l.holds) e.state;
          right = tt;
        };
        none_begun = ap (λ (l : LocalState). l.begun) e.state;
        none_used = refl;
        none_let_go = refl;
        none_done = tl2_done;
        home_then = ap (λ (x : tl2_tables.TlFounding L). table.Tl2 x.home) e.founder;
        seen_then = ap (λ (x : tl2_tables.TlFounding L). round.Tl2 (record { terms = x.home.terms; log = x.view.log })) e.founder;
        made = ap (λ (x : tl2_tables.TlFounding L). x.made) e.founder;
        out = ap (λ (x : tl2_tables.TlFounding L). x.view.out) e.founder;
        guests = refl;
        back = ap (λ (x : tl2_tables.TlFounding L). x.view.numbers) e.founder;
      }

    -- ---- a caller that is taken back

    pub dstm_back : (f g : engine.Founding L) (k : dstm.Called L) → k.home ≡ f.home → IsOver (caller.Dstm k) →
        engine.Retires holds f g k → TakesBack (Dstm f) (Dstm g) (caller.Dstm k)
    dstm_back f g k home over r =
        let j : words.Joined holds f.view (dstm.seat_view k) g.view =
        subst (λ (q : dstm.Called L). words.Joined holds f.view (dstm.seat_view q) g.view) (r.rest over) r.joined in
        let numbers : g.view.numbers ≡ f.view.numbers ++ k.number ∷ [] = ap (λ (v : words.View L). v.numbers) j.view in
        let there : g.home ≡ f.home = ap (λ (x : engine.Founding L). x.home) r.founder in
        record {
          home = ap table.Dstm there;
          made = ap (λ (x : engine.Founding L). x.made) r.founder;
          out = ap (λ (v : words.View L). v.out) j.view;
          guests = ap (λ (x : engine.Founding L). x.guests) r.founder;
          back = numbers;
          apart = subst words.AreApart (sym numbers) j.unlike;
          past = (ap (λ (h : words.Home L). h.terms) there, j.past);
          kept = j.kept;
          other_past = (ap (λ (h : words.Home L). h.terms) (there ∙ sym home), j.other_past);
          other_kept = j.other_kept k.number (Contains-push [] k.number);
        }

    pub tl2_back : (f g : tl2_tables.TlFounding L) (k : called.TlCalled L) → k.home ≡ f.home → IsOver (caller.Tl2 k) →
        tl2_tables.Retires holds f g k → TakesBack (Tl2 f) (Tl2 g) (caller.Tl2 k)
    tl2_back f g k home over r =
        let j : tl2_words.Joined holds f.view (called.seat_view k) g.view =
        subst (λ (q : called.TlCalled L). tl2_words.Joined holds f.view (called.seat_view q) g.view) (r.rest over) r.joined in
        let numbers : g.view.numbers ≡ f.view.numbers ++ k.number ∷ [] = ap (λ (v : tl2_words.View L). v.numbers) j.view in
        let there : g.home ≡ f.home = ap (λ (x : tl2_tables.TlFounding L). x.home) r.founder in
        record {
          home = ap table.Tl2 there;
          made = ap (λ (x : tl2_tables.TlFounding L). x.made) r.founder;
          out = ap (λ (v : tl2_words.View L). v.out) j.view;
          guests = refl;
          back = numbers;
          apart = subst words.AreApart (sym numbers) j.unlike;
          past = (ap (λ (h : tl2_words.Home L). h.terms) there, j.past);
          kept = j.kept;
          other_past = (ap (λ (h : tl2_words.Home L). h.terms) (there ∙ sym home), j.other_past);
          other_kept = j.other_kept k.number (Contains-push [] k.number);
        }
