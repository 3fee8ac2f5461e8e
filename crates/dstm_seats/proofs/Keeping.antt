-- A load, a store, an exchange and an add keep the rule.
use Rattle.std.proofs.Common.{◌≡◌, ◌≢◌, ◌⊎◌, ℕ, ◌+◌, ◌^◌, ◌<◌, ◌≤◌, List, [], ◌∷◌, set, get_or, refl, sym, ap, ◌∙◌, subst, ⊎_elim, inl, inr, arith, length-set, get_or-set_same, get_or-set_other, Some, None, Contains, Option}
use Rattle.std.proofs.lemmas.List.Elements.{All-weaker, All-nil, Contains-append_cases}
use lib.ListN.{get_elem?}
use mathlib.Core.Logic.{dite}
use mathlib.Core.Option.{some}
use native.Mathlib.Decide.{ℕ_discrete}
use Rattle.atomic_table.specs.Table.{State, Me, keeps, stepped, Allows}
use Rattle.atomic_table.proofs.Lists.{at_set, set_here}
use Rattle.dstm_machines.specs.declared.event.Event.{Event}
use Rattle.dstm_machines.specs.Traces.{events_of}
use Rattle.dstm_machines.specs.Machines.{Fits, held, local}
use Rattle.dstm_machines.proofs.Pasts.{past_self, past_more}
use Rattle.dstm_machines.proofs.Runs.{elsewhere, local_other, put_at}
use Rattle.dstm_machines.specs.Sharing.{Enrolling, Shared}
use Rattle.dstm_seats.specs.declared.view.View.{View}
use Rattle.dstm_seats.specs.Rule.{Sees, Kept}
use Rattle.dstm_seats.specs.Seats.{enrolled, events_by, moved, number_or, numbers_by, own_events, spent_by, state_by, Adds, AreApart, GoesOn, KeepsSince}
use Rattle.dstm_seats.proofs.Lists.{some_of, none_some, inside_of, each_set, sum_set, sum_at, one_of, head_of}
use Rattle.dstm_seats.proofs.Logs.{none_before, none_since}
use Rattle.dstm_machines.proofs.Own.{others_event, own_event, same_local}

module _ {K T B S : Type 0} (shared : Shared K T B S) (laws : Enrolling shared) (key : T) where
  abbrev pub V : Type 0
  V = View K T

  abbrev pub St : Type 0
  St = State ℕ V

  abbrev pub table : B
  table = shared.table key

  -- what a word holds, a caller's state, and what the local rules let it do
  abbrev pub word : List (Event K) → ℕ → ℕ
  word log p = held shared.machine table log p

  abbrev pub state : List (Event K) → ℕ → S
  state log c = local shared.machine table log c

  abbrev pub Allowed : S → Event K → Type 0
  Allowed l e = shared.machine.Allows table l e

  -- a view that another seat has stays right when the log gets an event of a number that it does not have
  sees_more : (log : List (Event K)) (id : ℕ) (e : Event K) (u : V) →
      enrolled shared key log ≤ enrolled shared key (e ∷ log) →
      ((n : ℕ) → Contains u.numbers n → e.caller ≢ n) → Sees shared key log id u → Sees shared key (e ∷ log) id u
  sees_more log id e u le other f = record {
    past = past_more u.log log e f.past;
    olds = All-weaker (GoesOn log u.numbers) (GoesOn (e ∷ log) u.numbers)
        (λ o g. record {
          past = past_more o.log log e g.past;
          among = g.among;
          quiet = λ n has. others_event n e log (other n (g.among n has)) ∙ g.quiet n has;
        }) u.olds f.olds;
    mine = λ n has. others_event n e log (other n has) ∙ f.mine n has;
    known = λ n has. let l = f.known n has in omega arith;
    unlike = f.unlike;
    begun = f.begun;
    number = f.number;
    first = f.first;
    stays = f.stays;
    none_out = f.none_out;
    spent = f.spent;
    empty = f.empty;
  }

  abbrev pub Apart : List V → Type 0
  Apart vs = (i j : ℕ) (v w : V) (n : ℕ) → get_elem? vs i ≡ some v → get_elem? vs j ≡ some w →
      Contains v.numbers n → Contains w.numbers n → i ≡ j

  -- no number is twice where one view changes, and no other has a number of its
  pub apart_set : (vs : List V) (id : ℕ) (w : V) → Apart vs →
      ((j : ℕ) (u : V) (n : ℕ) → j ≢ id → get_elem? vs j ≡ some u → Contains u.numbers n → Contains w.numbers n → ⊥) →
      Apart (set vs id w)
  apart_set vs id w old new i j v u n ei ej hi hj = ⊎_elim
      (λ (a : (i ≡ id) × (w ≡ v)). ⊎_elim (λ (b : (j ≡ id) × (w ≡ u)). a.0 ∙ sym b.0)
      (λ (b : (j ≢ id) × (get_elem? vs j ≡ some u)). absurd (new j u n b.0 b.1 hj (rw a.1 hi))) (at_set vs id j w u ej))
      (λ (a : (i ≢ id) × (get_elem? vs i ≡ some v)). ⊎_elim (λ (b : (j ≡ id) × (w ≡ u)).
      absurd (new i v n a.0 a.1 hi (rw b.1 hj)))
      (λ (b : (j ≢ id) × (get_elem? vs j ≡ some u)). old i j v u n a.1 b.1 hi hj) (at_set vs id j w u ej))
      (at_set vs id i w v ei)

  -- the view after an event that goes on from the longest log
  abbrev after_turn : (s : St) → Kept shared key s → V → Event K → V
  after_turn s k v e = moved v e (e ∷ k.log)

  -- What has to be known of such an event and of the view after it
  record Turn (s : St) (k : Kept shared key s) (id at_place : ℕ) (v : V) (e : Event K) : Type 0 where
    fits : Fits shared.machine table k.log e
    run : shared.IsRunOf key (e ∷ k.log)
    inside : e.place < shared.word_count table
    mine : events_of e.caller k.log ≡ own_events v
    there : e.place ≡ at_place
    live : v.terms ≡ Some key
    has : Contains (after_turn s k v e).numbers e.caller
    unlike : AreApart (after_turn s k v e).numbers
    numbers : (n : ℕ) → Contains (after_turn s k v e).numbers n → (n ≡ e.caller) ⊎ Contains v.numbers n
    others : (j : ℕ) (u : V) (n : ℕ) → j ≢ id → get_elem? s.views j ≡ some u → Contains u.numbers n →
        e.caller ≢ n
    more : enrolled shared key k.log ≤ enrolled shared key (e ∷ k.log)
    known : e.caller < enrolled shared key (e ∷ k.log)
    tickets : (after_turn s k v e).enrolments + enrolled shared key (e ∷ k.log)
        ≡ v.enrolments + enrolled shared key k.log

  -- a number that the seat had has its state, also after an event of the seat
  named_after : (s : St) (k : Kept shared key s) (id at_place : ℕ) (v : V) (e : Event K) →
      get_elem? s.views id ≡ some v → Turn s k id at_place v e → (n : ℕ) → Contains (after_turn s k v e).numbers n →
      shared.number (state (e ∷ k.log) n) ≡ Some n
  named_after s k id at_place v e at_id t n has = dite (ℕ_discrete e.caller n)
      (λ same. rw (← same) (laws.named table k.log e (laws.follows key (e ∷ k.log) t.run)))
      (λ other. ⊎_elim (λ (is : n ≡ e.caller). absurd (other (sym is)))
      (λ was. ap shared.number (local_other shared.machine table k.log e n other
      ∙ same_local shared.machine table k.log v.log n ((k.seats id v at_id).mine n was))
      ∙ (k.seats id v at_id).begun n was) (t.numbers n has))

  turned : (s : St) (k : Kept shared key s) (id at_place : ℕ) (c : List (ℕ × ℕ)) (v : V) (e : Event K) →
      get_elem? s.views id ≡ some v → Turn s k id at_place v e →
      Kept shared key (stepped s at_place e.put id c (after_turn s k v e) keeps)
  turned s k id at_place c v e at_id t =
      let w : V = after_turn s k v e in
      let log : List (Event K) = e ∷ k.log in
      let f : Sees shared key k.log id v = k.seats id v at_id in
      let wide = k.wide in let inside = t.inside in let there = t.there in
      record {
        log = log;
        longest = (id, w, set_here s.views id w (inside_of s.views id v at_id), refl);
        run = t.run;
        wide = length-set s.words at_place e.put ∙ k.wide;
        left = λ p l. dite (ℕ_discrete p at_place)
            (λ same. ap (λ j. get_or (set s.words at_place e.put) j 0) same
            ∙ get_or-set_same s.words at_place e.put 0 (omega arith)
            ∙ sym (put_at _ k.log e e.place refl) ∙ ap (word log) (there ∙ sym same))
            (λ away. get_or-set_other s.words at_place p e.put 0 away ∙ k.left p l
            ∙ sym (elsewhere _ k.log e p (λ x. away (sym x ∙ there))));
        fresh = λ n above. let a = t.known in let m = t.more in
            others_event n e k.log (λ x. omega arith) ∙ k.fresh n (omega arith);
        seats = each_set (λ j u. Sees shared key log j u) s.views id w
            (record {
              past = past_self log;
              olds = All-nil (GoesOn log w.numbers);
              mine = λ n has. refl;
              known = λ n has. let a = t.known in let m = t.more in
                  ⊎_elim (λ (x : n ≡ e.caller). omega arith) (λ was. let l = f.known n was in omega arith)
                  (t.numbers n has);
              unlike = t.unlike;
              begun = λ n has. named_after s k id at_place v e at_id t n has;
              number = λ n is. subst (Contains w.numbers) (some_of e.caller n is) t.has;
              first = λ is. f.first is;
              stays = λ is. f.stays is;
              none_out = λ is. f.none_out is;
              spent = λ is no. f.spent is no;
              empty = λ none. absurd (none_some key (sym none ∙ t.live));
            }) (λ j u away here. sees_more k.log j e u t.more (λ n has. t.others j u n away here has)
            (k.seats j u here));
        apart = apart_set s.views id w k.apart
            (λ j u n away here has mine. ⊎_elim (λ (x : n ≡ e.caller). t.others j u n away here has (sym x))
            (λ was. away (k.apart j id u v n here at_id has was)) (t.numbers n mine));
        tickets = let d = sum_set (λ (x : V). x.enrolments) s.views id v w at_id in
            let b = k.tickets in let q = t.tickets in omega arith;
        outs = let d = sum_set (λ (x : V). x.out) s.views id v w at_id in
            let d' = sum_set (λ (x : V). x.apart) s.views id v w at_id in
            let b = k.outs in omega arith;
      }

  -- what the seat's step keeps, at the longest log
  law_here : (s : St) (k : Kept shared key s) (id : ℕ) (v : V) (e : Event K) → get_elem? s.views id ≡ some v →
      Fits shared.machine table k.log e → events_of e.caller k.log ≡ events_of e.caller v.log →
      KeepsSince shared key v e → shared.Keeps key k.log e
  law_here s k id v e at_id fits same law =
      let past = (k.seats id v at_id).past in
      let Puts : List (Event K) → Type 0 = λ log.
      shared.IsRunOf key log → Fits shared.machine table log e → events_of e.caller past.later ≡ [] →
      shared.Keeps key log e in
      let here : Puts k.log = subst Puts past.whole (law past.later) in
      here k.run fits (none_since e.caller v.log past.later k.log past.whole same)

  -- a step of a seat with a number, and one of a seat that enrols
  turn_of : (s : St) (k : Kept shared key s) (id at_place : ℕ) (v : V) (e : Event K) (o : Option ℕ) →
      v.number ≡ o →
      get_elem? s.views id ≡ some v → v.terms ≡ Some key → e.caller ≡ number_or o e.found → e.place ≡ at_place →
      e.found ≡ get_or s.words at_place 0 → Allowed (state_by shared.machine table o v.log) e →
      KeepsSince shared key v e → (o ≡ None → 0 < v.enrolments) → Turn s k id at_place v e
  turn_of s k id at_place v e (Some m) is at_id live caller there found may law ticket =
      let f : Sees shared key k.log id v = k.seats id v at_id in
      let has : Contains v.numbers m = f.number m is in
      let below = f.known m has in
      let all = k.tickets in
      let same : events_of m k.log ≡ events_of m v.log = f.mine m has in
      let mine : events_of e.caller k.log ≡ events_of e.caller v.log = rw caller same in
      let stays : state v.log m ≡ state k.log e.caller =
      sym (same_local shared.machine table k.log v.log m same) ∙ ap (state k.log) (sym caller) in
      let ok : Allowed (state k.log e.caller) e = rw (← stays) may in
      let later = laws.later table (state v.log m) e m (f.begun m has) may in
      let inside : e.place < shared.word_count table = laws.inside table (state v.log m) e may in
      let still : enrolled shared key (e ∷ k.log) ≡ enrolled shared key k.log =
      elsewhere _ k.log e (shared.callers_place table) later.1 in
      let ns : numbers_by v.number e.caller v.numbers ≡ v.numbers =
      ap (λ (x : Option ℕ). numbers_by x e.caller v.numbers) is in
      let spent : spent_by v.number ≡ 0 = ap spent_by is in
      let fits : Fits shared.machine table k.log e = record {
        linked = found ∙ ap (λ p. get_or s.words p 0) (sym there) ∙ k.left e.place inside;
        caller = omega arith;
        enrolled = λ kind. absurd (later.0 kind);
        allowed = ok;
      } in
      record {
        fits = fits;
        run = laws.goes_on key k.log e k.run fits (law_here s k id v e at_id fits mine law);
        inside = inside;
        mine = mine ∙ ap (λ c. events_of c v.log) caller ∙ sym (ap (λ (x : Option ℕ). events_by x v.log) is);
        there = there;
        live = live;
        has = rw (ns, caller) has;
        unlike = subst AreApart (sym ns) f.unlike;
        numbers = λ n h. inr (rw (← ns) h);
        others = λ j u n away here h same.
            away (k.apart j id u v n here at_id h (subst (Contains v.numbers) (sym caller ∙ same) has));
        more = omega arith;
        known = omega arith;
        tickets = omega arith;
      }
  turn_of s k id at_place v e None is at_id live caller there found may law ticket =
      let f : Sees shared key k.log id v = k.seats id v at_id in
      let all = k.tickets in
      let some_ticket : 0 < v.enrolments = ticket refl in
      let its = sum_at (λ (x : V). x.enrolments) s.views id v at_id in
      let enrol = laws.first _ e may in
      let inside : e.place < shared.word_count table = laws.inside table shared.machine.first e may in
      let found' : e.found ≡ word k.log e.place =
      found ∙ ap (λ p. get_or s.words p 0) (sym there) ∙ k.left e.place inside in
      let number : e.caller ≡ enrolled shared key k.log = caller ∙ found' ∙ ap (word k.log) enrol.1 in
      let none : events_of e.caller k.log ≡ [] = k.fresh e.caller (omega arith) in
      let past = f.past in
      let nothing : events_of e.caller v.log ≡ [] = none_before e.caller v.log past.later k.log past.whole none in
      let stays : shared.machine.first ≡ state k.log e.caller =
      sym (same_local shared.machine table k.log [] e.caller none) in
      let next : enrolled shared key (e ∷ k.log) ≡ e.caller + 1 =
      ap (word (e ∷ k.log)) (sym enrol.1) ∙ put_at _ k.log e e.place refl ∙ enrol.2 ∙ ap (λ n. n + 1) (sym caller) in
      let ns : numbers_by v.number e.caller v.numbers ≡ e.caller ∷ v.numbers =
      ap (λ (x : Option ℕ). numbers_by x e.caller v.numbers) is in
      let spent : spent_by v.number ≡ 1 = ap spent_by is in
      let fits : Fits shared.machine table k.log e = record {
        linked = found';
        caller = omega arith;
        enrolled = λ kind. sym caller;
        allowed = rw (← stays) may;
      } in
      record {
        fits = fits;
        run = laws.goes_on key k.log e k.run fits (law_here s k id v e at_id fits (none ∙ sym nothing) law);
        inside = inside;
        mine = none ∙ sym (ap (λ (x : Option ℕ). events_by x v.log) is);
        there = there;
        live = live;
        has = rw ns (head_of e.caller v.numbers);
        unlike = subst AreApart (sym ns) ((λ h. let b = f.known e.caller h in omega arith), f.unlike);
        numbers = λ n h. ⊎_elim (λ a. inl (one_of e.caller n a)) (λ b. inr b)
            (Contains-append_cases (e.caller ∷ []) v.numbers n (rw ns at h));
        others = λ j u n away here h same. let b = (k.seats j u here).known n h in omega arith;
        more = omega arith;
        known = omega arith;
        tickets = omega arith;
      }

  -- what an event has to be for a step on this word, which makes f of what it holds
  abbrev pub Fitting : ℕ → (ℕ → ℕ → Event K) → Type 0
  Fitting at_place event = (c found : ℕ) →
      ((event c found).caller ≡ c) × ((event c found).place ≡ at_place) × ((event c found).found ≡ found)

  -- and it puts what the step puts
  abbrev pub Putting : (ℕ → ℕ) → (ℕ → ℕ → Event K) → Type 0
  Putting f event = (log : List (Event K)) (c found : ℕ) → shared.IsRunOf key log →
      Fits shared.machine table log (event c found) → found < 2 ^ 64 → (event c found).put ≡ f found

  -- the rules let the seat's caller make it, whatever is found, and the law is kept
  abbrev pub Allowing : V → (ℕ → ℕ → Event K) → Type 0
  Allowing v event = (found : ℕ) → found < 2 ^ 64 →
      Allowed (state_by shared.machine table v.number v.log) (event (number_or v.number found) found)
      × KeepsSince shared key v (event (number_or v.number found) found)

  pub steps : (slots id : ℕ) (me : Me ℕ V) (at_place : ℕ) (f : ℕ → ℕ) (event : ℕ → ℕ → Event K) →
      Fitting at_place event → Putting f event → me.0.terms ≡ Some key → Allowing me.0 event →
      (me.0.number ≡ None → 0 < me.0.enrolments) → Allows (Kept shared key) slots id me at_place f
      (λ found n. (n.1 ≡ me.1) × Adds shared me.0 (event (number_or me.0.number found) found) n.0)
  steps slots id me at_place f event fitting putting live may ticket s k homes at_id bound =
      let v : V = me.0 in
      let found : ℕ = get_or s.words at_place 0 in
      let c : ℕ = number_or v.number found in
      let e : Event K = event c found in
      let fit = fitting c found in
      let ok = may found bound in
      let log : List (Event K) = e ∷ k.log in
      let w : V = moved v e log in
      let past = (k.seats id v at_id).past in
      let turn : Turn s k id at_place v e = turn_of s k id at_place v e v.number refl at_id live
      (fit.0 ∙ ap (number_or v.number) (sym fit.2)) fit.1 fit.2 ok.0 ok.1 ticket in
      let kept = turned s k id at_place me.1 v e at_id turn in (
        w,
        keeps,
        tt,
        rw (← putting k.log c found k.run turn.fits bound) kept,
        (
          refl,
          record {
            view = refl;
            log = (past.later, ap (λ l. e ∷ l) (sym past.whole));
            mine = own_event e k.log ∙ ap (λ l. e ∷ l) turn.mine;
            others = λ n has other. others_event n e k.log (λ x. other (sym x))
                ∙ (k.seats id v at_id).mine n has;
            run = rw live turn.run;
          },
        ),
      )
