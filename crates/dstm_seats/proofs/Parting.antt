-- A split, a join, and the meet after it.
use Rattle.std.proofs.Common.{◌≡◌, ◌≢◌, ℕ, true, false, List, [], ◌∷◌, ◌++◌, set, refl, sym, ap, ◌∙◌, subst, ⊎_elim, arith, Some, None}
use Rattle.std.specs.Prelude.{sum_by, Contains, Option}
use Rattle.std.proofs.lemmas.List.Elements.{All-nil, All-cons, All-head, All-tail, Contains-append_cases, Contains-append_left, Contains-append_right}
use Rattle.std.proofs.lemmas.List.Sums.{sum_by_push}
use Rattle.std.proofs.lemmas.List.{set-get_or}
use Rattle.std.proofs.lemmas.Bool.{cases_Bool}
use lib.ListN.{get_elem?}
use mathlib.Core.Logic.{dite}
use mathlib.Core.Option.{some, some-injective}
use native.Mathlib.Decide.{ℕ_discrete}
use Rattle.atomic_table.specs.Table.{State, Me, keeps, Allows, Splits, Joins}
use Rattle.atomic_table.proofs.Lists.{at_set, set_here, set_else, at_snoc, at_longer}
use Rattle.dstm_machines.specs.declared.event.Event.{Event}
use Rattle.dstm_machines.specs.Traces.{IsPastOf, events_of}
use Rattle.dstm_seats.specs.declared.view.Old.{Old}
use Rattle.dstm_seats.specs.declared.view.View.{View}
use Rattle.dstm_seats.specs.Rule.{Sees, Kept}
use Rattle.dstm_seats.specs.Seats.{kept_part, given_part, old_of, joined, nobody, met, longer, GoesOn, Joined, Meets}
use Rattle.dstm_machines.specs.Sharing.{Enrolling, Shared}
use Rattle.dstm_machines.proofs.Pasts.{past_self, past_all}
use Rattle.dstm_seats.proofs.Keeping.{apart_set}
use Rattle.dstm_seats.proofs.Lists.{off, none_some, inside_of, each_set, set_comm, sum_set, sum_at, sum_zero, no_number, apart_append}
use Rattle.dstm_seats.proofs.Logs.{longer_past, quiet_left, quiet_right, longer_whole_left, longer_whole_right}
use Rattle.dstm_machines.proofs.Own.{same_local}

module _ {K T B S : Type 0} (shared : Shared K T B S) (laws : Enrolling shared) (key : T) where
  abbrev V : Type 0
  V = View K T

  abbrev St : Type 0
  St = State ℕ V

  -- what the rule says of a seat with no number that has seen a past of the log
  newcomer : (log seen : List (Event K)) (id enrolments apart : ℕ) (terms : Option T) → IsPastOf seen log →
      (apart ≡ 0 → terms ≡ None) → (terms ≡ None → seen ≡ []) →
      Sees shared key log id (record (nobody {K = K} {T = T}) { terms = terms; log = seen; enrolments = enrolments; apart = apart })
  newcomer log seen id enrolments apart terms past spent empty = record {
    past = past;
    olds = All-nil (GoesOn log []);
    mine = λ n has. absurd (no_number n has);
    known = λ n has. absurd (no_number n has);
    unlike = tt;
    begun = λ n has. absurd (no_number n has);
    number = λ n is. absurd (none_some n is);
    first = λ is. absurd (off is);
    stays = λ is. absurd (off is);
    none_out = λ _. refl;
    spent = λ _ no. spent no;
    empty = empty;
  }

  pub splits : (id : ℕ) (v : V) → v.terms ≡ Some key → v.first ≡ true →
      Splits (Kept shared key) id v (kept_part v) (given_part v)
  splits id v live first s k at_id =
      let a : V = kept_part v in
      let b : V = given_part v in
      let f : Sees shared key k.log id v = k.seats id v at_id in
      let vs : List V = set s.views id a in
      record {
        log = k.log;
        longest = let q = k.longest in dite (ℕ_discrete q.0 id)
            (λ same. let is : q.1 ≡ v = some-injective q.1 v (sym q.2 ∙ ap (get_elem? s.views) same ∙ at_id) in (
              id,
              a,
              at_longer vs (b ∷ []) id a (set_here s.views id a (inside_of s.views id v at_id)),
              ap (λ (x : V). x.log) (sym is) ∙ q.3,
            )) (λ other. (q.0, q.1, at_longer vs (b ∷ []) q.0 q.1 (set_else s.views id q.0 a other ∙ q.2), q.3));
        run = k.run;
        wide = k.wide;
        left = k.left;
        fresh = k.fresh;
        seats = λ j u there. ⊎_elim
            (λ (old : get_elem? vs j ≡ some u). each_set (λ j u. Sees shared key k.log j u) s.views id a (record {
              past = f.past;
              olds = f.olds;
              mine = f.mine;
              known = f.known;
              unlike = f.unlike;
              begun = f.begun;
              number = f.number;
              first = f.first;
              stays = f.stays;
              none_out = λ no. absurd (off (sym no ∙ first));
              spent = f.spent;
              empty = f.empty;
            }) (λ j u _ there. k.seats j u there) j u old) (λ (new : b ≡ u). subst (Sees shared key k.log j) new
            (newcomer k.log v.log j _ 1 v.terms f.past (λ no. absurd (omega arith))
            (λ none. absurd (none_some key (sym none ∙ live))))) (at_snoc vs b u j there);
        apart = λ i j u w n ei ej hi hj. ⊎_elim
            (λ (oi : get_elem? vs i ≡ some u). ⊎_elim
            (λ (oj : get_elem? vs j ≡ some w). apart_set shared laws key s.views id a k.apart
            (λ j u n away there has mine. away (k.apart j id u v n there at_id has mine)) i j u w n oi oj hi hj)
            (λ (nj : b ≡ w). absurd (no_number n (rw (← nj) at hj))) (at_snoc vs b w j ej))
            (λ (ni : b ≡ u). absurd (no_number n (rw (← ni) at hi))) (at_snoc vs b u i ei);
        tickets = let d = sum_set (λ (x : V). x.enrolments) s.views id v a at_id in
            let p = sum_by_push (λ (x : V). x.enrolments) vs b in let t = k.tickets in omega arith;
        outs = let d = sum_set (λ (x : V). x.out) s.views id v a at_id in
            let p = sum_by_push (λ (x : V). x.out) vs b in
            let d' = sum_set (λ (x : V). x.apart) s.views id v a at_id in
            let p' = sum_by_push (λ (x : V). x.apart) vs b in let o = k.outs in omega arith;
      }

  pub meets : (slots id : ℕ) (me : Me ℕ V) → me.0.terms ≡ Some key →
      Allows (Kept shared key) slots id me 0 (λ n. n) (λ found n. (n.1 ≡ me.1) × Meets shared me.0 n.0)
  meets slots id me live s k homes at_id bound =
      let v : V = me.0 in
      let w : V = met v k.log in
      let f : Sees shared key k.log id v = k.seats id v at_id in
      let views : List V = set s.views id w in
      let kept : Kept shared key record { words = s.words; homes = s.homes; views = views } = record {
        log = k.log;
        longest = (id, w, set_here s.views id w (inside_of s.views id v at_id), refl);
        run = k.run;
        wide = k.wide;
        left = k.left;
        fresh = k.fresh;
        seats = each_set (λ j u. Sees shared key k.log j u) s.views id w
            (record {
              past = past_self k.log;
              olds = All-nil (GoesOn k.log v.numbers);
              mine = λ n has. refl;
              known = f.known;
              unlike = f.unlike;
              begun = λ n has. ap shared.number
                  (same_local shared.machine (shared.table key) k.log v.log n (f.mine n has))
                  ∙ f.begun n has;
              number = f.number;
              first = f.first;
              stays = f.stays;
              none_out = f.none_out;
              spent = f.spent;
              empty = λ none. absurd (none_some key (sym none ∙ live));
            }) (λ j u _ there. k.seats j u there);
        apart = apart_set shared laws key s.views id w k.apart
            (λ j u n away there has mine. away (k.apart j id u v n there at_id has mine));
        tickets = let d = sum_set (λ (x : V). x.enrolments) s.views id v w at_id in let b = k.tickets in
            omega arith;
        outs = let d = sum_set (λ (x : V). x.out) s.views id v w at_id in
            let d' = sum_set (λ (x : V). x.apart) s.views id v w at_id in let b = k.outs in omega arith;
      } in (
        w,
        keeps,
        tt,
        rw (set-get_or s.words 0 0) kept,
        (
          refl,
          record {
            view = refl;
            past = f.past;
            olds = f.olds;
            quiet = f.mine;
            unlike = f.unlike;
            run = rw live k.run;
          },
        ),
      )

  -- only the first seat counts seats that are out
  pub outs : (s : St) (k : Kept shared key s) (id : ℕ) (v : V) → get_elem? s.views id ≡ some v → v.first ≡ true →
      sum_by (λ (x : V). x.out) s.views ≡ v.out
  outs s k id v at_id first =
      let none : V = nobody in
      let d = sum_set (λ (x : V). x.out) s.views id v none at_id in
      let rest : sum_by (λ (x : V). x.out) (set s.views id none) ≡ 0 =
      sum_zero (λ (x : V). x.out) (set s.views id none) (each_set (λ j u. u.out ≡ 0) s.views id none refl
      (λ j u away there. ⊎_elim (λ (is : u.first ≡ true).
      absurd (away ((k.seats j u there).first is ∙ sym ((k.seats id v at_id).first first))))
      (λ (is : u.first ≡ false). (k.seats j u there).none_out is) (cases_Bool u.first))) in
      omega arith

  -- what the first seat knows after it took in what a seat that is out knows
  both_see : (log : List (Event K)) (id other : ℕ) (v u : V) → v.terms ≡ Some key → v.first ≡ true →
      Sees shared key log id v → Sees shared key log other u →
      ((n : ℕ) → Contains v.numbers n → Contains u.numbers n → ⊥) → Sees shared key log id (joined v u)
  both_see log id other v u live first f g unlike =
      let both : List ℕ = v.numbers ++ u.numbers in
      let seen : List (Event K) = longer v.log u.log in
      let left = λ (n : ℕ) (h : Contains v.numbers n). quiet_left log v.log u.log f.past g.past n (f.mine n h) in
      let right = λ (n : ℕ) (h : Contains u.numbers n). quiet_right log v.log u.log f.past g.past n (g.mine n h) in
      let which = Contains-append_cases v.numbers u.numbers in
      let again = λ (n : ℕ) (past : List (Event K)) (is : events_of n log ≡ events_of n past)
      (now : events_of n log ≡ events_of n seen).
      ap shared.number (same_local shared.machine (shared.table key) seen past n (sym now ∙ is)) in
      record {
        past = longer_past log v.log u.log f.past g.past;
        olds = All-cons (GoesOn log both) (old_of v) (old_of u ∷ [])
            (record { past = f.past; among = Contains-append_left v.numbers u.numbers; quiet = f.mine })
            (All-cons (GoesOn log both) (old_of u) []
            (record { past = g.past; among = Contains-append_right v.numbers u.numbers; quiet = g.mine })
            (All-nil (GoesOn log both)));
        mine = λ n h. ⊎_elim (left n) (right n) (which n h);
        known = λ n h. ⊎_elim (f.known n) (g.known n) (which n h);
        unlike = apart_append v.numbers u.numbers f.unlike g.unlike unlike;
        begun = λ n h. ⊎_elim
            (λ a. again n v.log (f.mine n a) (left n a) ∙ f.begun n a)
            (λ b. again n u.log (g.mine n b) (right n b) ∙ g.begun n b) (which n h);
        number = λ n is. Contains-append_left v.numbers u.numbers n (f.number n is);
        first = f.first;
        stays = f.stays;
        none_out = λ no. absurd (off (sym no ∙ first));
        spent = λ no. absurd (off (sym no ∙ first));
        empty = λ no. absurd (none_some key (sym no ∙ live));
      }

  -- a seat that is out is joined to the first one
  pub joins : (id other : ℕ) (v u : V) → v.terms ≡ Some key → u.terms ≡ Some key → v.first ≡ true →
      u.first ≡ false → u.apart ≡ 1 → Joins (Kept shared key) id v other u (joined v u) nobody
  joins id other v u live live' first not_first out s k at_id away_from there =
      let both : V = joined v u in
      let none : V = nobody in
      let at_other : get_elem? s.views other ≡ some u = ⊎_elim
      (λ (t : (other ≡ id) × (both ≡ u)). absurd (away_from t.0))
      (λ (t : (other ≢ id) × (get_elem? s.views other ≡ some u)). t.1) (at_set s.views id other both u there) in
      let vs : List V = set s.views other none in
      let here : get_elem? vs id ≡ some v = set_else s.views other id none (λ e. away_from (sym e)) ∙ at_id in
      let f : Sees shared key k.log id v = k.seats id v at_id in
      let g : Sees shared key k.log other u = k.seats other u at_other in
      let unlike = λ (n : ℕ) (a : Contains v.numbers n) (b : Contains u.numbers n).
      away_from (sym (k.apart id other v u n at_id at_other a b)) in
      let lone : (vw : List V) → Kept shared key record { words = s.words; homes = s.homes; views = set vs id both } →
      vw ≡ set vs id both → Kept shared key record { words = s.words; homes = s.homes; views = vw } = λ vw h e. subst
      (λ (x : List V). Kept shared key record { words = s.words; homes = s.homes; views = x }) (sym e) h in
      lone (set (set s.views id both) other none) (record {
        log = k.log;
        longest = let q = k.longest in dite (ℕ_discrete q.0 id)
            (λ same. let is : q.1 ≡ v = some-injective q.1 v (sym q.2 ∙ ap (get_elem? s.views) same ∙ at_id) in (
              id,
              both,
              set_here vs id both (inside_of vs id v here),
              longer_whole_left k.log v.log u.log f.past g.past (ap (λ (x : V). x.log) (sym is) ∙ q.3),
            )) (λ away. dite (ℕ_discrete q.0 other) (λ same. let is : q.1 ≡ u = some-injective q.1 u
            (sym q.2 ∙ ap (get_elem? s.views) same ∙ at_other) in (
              id,
              both,
              set_here vs id both (inside_of vs id v here),
              longer_whole_right k.log v.log u.log f.past g.past (ap (λ (x : V). x.log) (sym is) ∙ q.3),
            )) (λ away'. (
              q.0,
              q.1,
              set_else vs id q.0 both away ∙ set_else s.views other q.0 none away' ∙ q.2,
              q.3,
            )));
        run = k.run;
        wide = k.wide;
        left = k.left;
        fresh = k.fresh;
        seats = each_set (λ j u. Sees shared key k.log j u) vs id both
            (both_see k.log id other v u live first f g unlike)
            (λ j x _ e. each_set (λ j u. Sees shared key k.log j u) s.views other none
            (newcomer k.log [] other 0 0 None (past_all k.log) (λ _. refl) (λ _. refl))
            (λ j x _ e. k.seats j x e) j x e);
        apart = apart_set shared laws key vs id both
            (apart_set shared laws key s.views other none k.apart (λ j x n _ e h no. no_number n no))
            (λ j x n away e h mine. ⊎_elim (λ (t : (j ≡ other) × (none ≡ x)). no_number n (rw (← t.1) at h))
            (λ (t : (j ≢ other) × (get_elem? s.views j ≡ some x)). ⊎_elim (λ a. away (k.apart j id x v n t.1 at_id h a))
            (λ b. t.0 (k.apart j other x u n t.1 at_other h b)) (Contains-append_cases v.numbers u.numbers n mine))
            (at_set s.views other j none x e));
        tickets = let d = sum_set (λ (x : V). x.enrolments) s.views other u none at_other in
            let d' = sum_set (λ (x : V). x.enrolments) vs id v both here in let t = k.tickets in omega arith;
        outs =
            let a = sum_set (λ (x : V). x.out) s.views other u none at_other in
            let a' = sum_set (λ (x : V). x.out) vs id v both here in
            let b = sum_set (λ (x : V). x.apart) s.views other u none at_other in
            let b' = sum_set (λ (x : V). x.apart) vs id v both here in
            let some_out = sum_at (λ (x : V). x.apart) s.views other u at_other in
            let no_out = g.none_out not_first in
            let all_out = outs s k id v at_id first in
            let t = k.outs in omega arith;
      }) (set_comm s.views id other both none (λ e. away_from (sym e)))

  -- after the join and the meet
  pub joined_after : (v u w : V) → Meets shared (joined v u) w → Joined shared v u w
  joined_after v u w m =
      let P : Old K → Type 0 = GoesOn w.log (v.numbers ++ u.numbers) in
      let a : P (old_of v) = All-head P (old_of v) (old_of u ∷ []) m.olds in
      let b : P (old_of u) = All-head P (old_of u) [] (All-tail P (old_of v) (old_of u ∷ []) m.olds) in
      record {
        view = m.view;
        past = a.past;
        other_past = b.past;
        kept = a.quiet;
        other_kept = b.quiet;
        unlike = m.unlike;
        run = m.run;
      }
