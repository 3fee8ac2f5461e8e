-- The first state, and the last one.
use Rattle.std.proofs.Common.{◌≡◌, ◌<◌, ℕ, zero, suc, true, false, List, [], ◌∷◌, length, get_or, refl, sym, ap, ◌∙◌, subst, ⊎_elim, arith}
use Rattle.std.proofs.lemmas.List.Elements.{All-nil}
use Rattle.std.proofs.lemmas.Bool.{cases_Bool}
use lib.ListN.{get_elem?}
use mathlib.Core.Option.{some, some-ne-none, some-injective}
use Rattle.atomic_table.specs.Table.{State, opening, Final, Seen}
use Rattle.dstm_seats.specs.declared.view.View.{View}
use Rattle.dstm_seats.specs.Rule.{Sees, Kept}
use Rattle.dstm_seats.specs.Seats.{founder, GoesOn, LeftBy}
use Rattle.dstm_machines.specs.Sharing.{Enrolling, Shared}
use Rattle.dstm_machines.proofs.Pasts.{past_self}
use Rattle.dstm_machines.specs.Traces.{IsPastOf}
use Rattle.dstm_seats.proofs.Lists.{off, none_some, sum_at, no_number}
use Rattle.dstm_seats.proofs.Logs.{past_nil}
use Rattle.dstm_seats.proofs.Parting.{outs}

module _ {K T B S : Type 0} (shared : Shared K T B S) (laws : Enrolling shared) (key : T) where
  abbrev V : Type 0
  V = View K T

  abbrev St : Type 0
  St = State ℕ V

  -- the words of a new table hold what they hold at first
  pub opens : (words : List ℕ) → shared.IsRunOf key [] → length words ≡ shared.word_count (shared.table key) →
      ((p : ℕ) → p < shared.word_count (shared.table key) →
      get_or words p 0 ≡ shared.machine.initial (shared.table key) p) →
      Kept shared key (opening {S = ℕ} words [] (founder shared key))
  opens words run wide are = record {
    log = [];
    longest = (0, founder shared key, refl, refl);
    run = run;
    wide = wide;
    left = are;
    fresh = λ n _. refl;
    seats = one;
    apart = λ i j v w n ei ej hi hj. only i v ei ∙ sym (only j w ej);
    tickets = omega arith;
    outs = refl;
  }
    where
      only : (i : ℕ) (v : V) → get_elem? (founder shared key ∷ []) i ≡ some v → i ≡ 0
      only zero v e = refl
      only (suc i) v e = absurd (some-ne-none v (sym e))

      one : (i : ℕ) (v : V) → get_elem? (founder shared key ∷ []) i ≡ some v → Sees shared key [] i v
      one zero v e = subst (Sees shared key [] 0) (some-injective (founder shared key) v e) record {
        past = past_self [];
        olds = All-nil (GoesOn [] []);
        mine = λ n h. absurd (no_number n h);
        known = λ n h. absurd (no_number n h);
        unlike = tt;
        begun = λ n h. absurd (no_number n h);
        number = λ n is. absurd (none_some n is);
        first = λ _. refl;
        stays = λ _. refl;
        none_out = λ _. refl;
        spent = λ is. absurd (off (sym is));
        empty = λ _. refl;
      }
      one (suc i) v e = absurd (some-ne-none v (sym e))

  -- Where no seat is out, the first one has seen the longest log
  closes : (s : St) (k : Kept shared key s) (id : ℕ) (v : V) → get_elem? s.views id ≡ some v → v.first ≡ true →
      v.out ≡ 0 → k.log ≡ v.log
  closes s k id v at_id first none_out =
      let q = k.longest in
      let f : Sees shared key k.log id v = k.seats id v at_id in
      let all_out = outs shared laws key s k id v at_id first in
      let all = k.outs in
      let its = sum_at (λ (x : V). x.apart) s.views q.0 q.1 q.2 in
      let not_apart : q.1.apart ≡ 0 = omega arith in
      let g : Sees shared key k.log q.0 q.1 = k.seats q.0 q.1 q.2 in
      ⊎_elim (λ (is : q.1.first ≡ true). let same : q.0 ≡ id = g.first is ∙ sym (f.first first) in
      let v_is : q.1 ≡ v = some-injective q.1 v (sym q.2 ∙ ap (get_elem? s.views) same ∙ at_id) in
      sym q.3 ∙ ap (λ (x : V). x.log) v_is)
      (λ (is : q.1.first ≡ false). let nil : k.log ≡ [] = sym q.3 ∙ g.empty (g.spent is not_apart) in
      nil ∙ sym (past_nil v.log (subst (IsPastOf v.log) nil f.past))) (cases_Bool q.1.first)

  -- what the last state says of the words
  pub left_by : (ws xs : List ℕ) (id : ℕ) (v : V) → Final (Seen (Kept shared key) id v) ws xs →
      LeftBy shared key v ws
  left_by ws xs id v f =
      let s = f.0 in
      let k : Kept shared key s = f.1.0 in
      let sees : Sees shared key k.log id v = k.seats id v f.1.1 in
      record {
        log = k.log;
        past = sees.past;
        run = k.run;
        wide = ap length (sym f.2) ∙ k.wide;
        left = λ i l. ap (λ (x : List ℕ). get_or x i 0) (sym f.2) ∙ k.left i l;
        whole = λ first none. closes s k id v f.1.1 first none;
        few =
            let all = k.tickets in
            let its = sum_at (λ (x : V). x.enrolments) s.views id v f.1.1 in omega arith;
        known = sees.known;
        unlike = sees.unlike;
        fresh = k.fresh;
      }
