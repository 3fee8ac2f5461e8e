-- An open that has not left its attempt ends with a sight of it.
use Rattle.std.proofs.Common.{◌++◌, ◌==◌, ◌∙◌, ◌∷◌, ◌≡◌, ◌≢◌, List, [], ap, append_assoc, false, inl, inr, refl, subst, sym, true, ℕ}
use Rattle.std.proofs.lemmas.List.{append_cancel_right}
use Rattle.std.specs.Prelude.{Option, None, Some, IfSome}
use Rattle.std.proofs.lemmas.Bool.{cases_Bool, cond_both, eq-eqb, eqb-true}
use Rattle.std.proofs.lemmas.List.Elements.{filter-append}
use Rattle.dstm_engine.proofs.Base.{CoreRun, Doing, EndsInPass, EndsInRank, Event, IsCall, IsRunOf, Kind, Lcg, LocalState, LookSelf, Outside, Rank, Running, Shape, Val, Work, after, count_of, events_of, given, is_open, is_outside, local, old_values, read_values, rises, seen, state_after, value_at, value_in}
use Rattle.dstm_progress.proofs.OwnEvents.{after_own}
use Rattle.dstm_core.proofs.Static.{local_own}
use Rattle.dstm_mem.proofs.Pairs.{AgreesWith-of_agrees}
use Rattle.dstm_opacity.proofs.Maps.{sights_have_maps}
use Rattle.dstm_order.proofs.Opens.{every_open}
use Rattle.dstm_progress.proofs.Own.{IsNewest, newest_own, own_state}
use Rattle.dstm_engine.proofs.Rechecking.{NoSelf, in_later, none_counted, sight_keeps}
use Rattle.dstm_engine.specs.Attempts.{Admits, SightAt, Sighted, completes_pass, is_look_self}
use Rattle.dstm_engine.specs.Callers.{Called, held, law_of, shape_of, start_of, state}

-- a sight of a caller's attempt stands in a log, and what is read and written is what was at the sight
pub record Sees (s : Shape) (events : List Event) (c : ℕ) : Type 0 where
  pub place : SightAt s events c (local s events c).begun
  pub open place use *
  pub newest : (i : ℕ) → count_of completes_pass s events c i ≡ count_of completes_pass s (sight ∷ before) c i
  pub reads : (local s events c).reads ≡ (local s before c).reads
  pub writes : (local s events c).writes ≡ (local s before c).writes

-- after a caller's newest event it has none
none_later : {c : ℕ} {log rest : List Event} {e : Event} → events_of c log ≡ e ∷ rest →
    (n : IsNewest c log e rest) → events_of c n.later ≡ []
none_later {c = c} {rest = rest} {e = e} own n =
    let mine : e.caller == c ≡ true = eq-eqb e.caller c n.own in
    let here : events_of c (e ∷ n.before) ≡ e ∷ rest = rw mine (ap (λ xs. e ∷ xs) n.rest) in
    append_cancel_right (events_of c n.later) [] (e ∷ rest) (ap (λ xs. events_of c n.later ++ xs) (sym here)
    ∙ sym (filter-append (λ (x : Event). x.caller == c) n.later (e ∷ n.before))
    ∙ ap (events_of c) (sym n.run) ∙ own)

-- the state of a caller is that after its newest event
newest_state : (s : Shape) {c : ℕ} {log rest : List Event} {e : Event} (own : events_of c log ≡ e ∷ rest) →
    (n : IsNewest c log e rest) → local s log c ≡ after e.kind s (local s n.before c) e
newest_state s {c = c} {e = e} own n =
    ap (λ xs. local s xs c) n.run ∙ own_state s c n.later (e ∷ n.before)
    ∙ ap (state_after s (local s (e ∷ n.before) c)) (none_later own n)
    ∙ ap (local s (e ∷ n.before)) (sym n.own) ∙ local_own s n.before e
    ∙ ap (λ a. after e.kind s (local s n.before a) e) n.own

found_given : (s : Shape) (l : LocalState) (e : Event) (k : Kind) → k ≡ LookSelf → (after k s l e).phase ≢ Outside →
    e.found ≡ given l.phase
found_given s l e LookSelf q live = elim (cases_Bool (e.found == given l.phase)) [
  | inl z ↦ eqb-true e.found (given l.phase) z
  | inr z ↦ absurd (let n : Outside ≢ Outside = rw z at live in n refl)
]
found_given s l e k q live = absurd (cc)

-- a log in which the caller's newest event completed a pass
look_sees : (s : Shape) (c : ℕ) (log rest : List Event) (e : Event) → events_of c log ≡ e ∷ rest → e.kind ≡ LookSelf →
    (local s log c).phase ≢ Outside → Sees s log c
look_sees s c log rest e own kind live =
    let n = newest_own c log e rest own in
    let now = newest_state s own n in
    let keeps = sight_keeps s (local s n.before c) e e.kind kind in
    record {
      place = record {
        later = n.later;
        sight = e;
        before = n.before;
        log = n.run;
        is_one = record {
          kind = kind;
          found =
              found_given s (local s n.before c) e e.kind kind (subst (λ (l : LocalState). l.phase ≢ Outside) now live)
              ∙ ap (λ a. given (local s n.before a).phase) (sym n.own);
        };
        caller = n.own;
        attempt = sym (ap (λ (l : LocalState). l.begun) now ∙ keeps.2);
      };
      newest = λ i. ap (λ xs. count_of completes_pass s xs c i) n.run
          ∙ none_counted s c i n.later (e ∷ n.before) (subst NoSelf (sym (none_later own n)) tt);
      reads = ap (λ (l : LocalState). l.reads) now ∙ keeps.0;
      writes = ap (λ (l : LocalState). l.writes) now ∙ keeps.1;
    }

rank_keeps : (s : Shape) (l : LocalState) (e : Event) (k : Kind) → k ≡ Rank →
    ((after k s l e).reads ≡ l.reads) × ((after k s l e).writes ≡ l.writes) × ((after k s l e).begun ≡ l.begun)
    × ((after k s l e).phase ≡ l.phase)
rank_keeps s l e Rank q = (refl, refl, refl, refl)
rank_keeps s l e k q = absurd (cc)

rank_only : (c : ℕ) (e : Event) → is_look_self e.kind ≡ false → NoSelf (events_of c (e ∷ []))
rank_only c e h = cond_both (e.caller == c) (e ∷ []) [] NoSelf (λ _. (h, tt)) (λ _. tt)

-- and one in which its rank was raised then
rank_sees : (s : Shape) (c : ℕ) (log rest : List Event) (rank e : Event) → events_of c log ≡ rank ∷ e ∷ rest →
    rank.kind ≡ Rank → e.kind ≡ LookSelf → (local s log c).phase ≢ Outside → Sees s log c
rank_sees s c log rest rank e own raised kind live =
    let n = newest_own c log rank (e ∷ rest) own in
    let now = newest_state s own n in
    let keeps = rank_keeps s (local s n.before c) rank rank.kind raised in
    let x = look_sees s c n.before rest e n.rest kind
    (λ out. live (ap (λ (l : LocalState). l.phase) now ∙ keeps.3 ∙ out)) in
    record {
      place = in_later (n.later ++ rank ∷ []) (n.run ∙ sym (append_assoc n.later (rank ∷ []) n.before))
          (sym (ap (λ (l : LocalState). l.begun) now ∙ keeps.2)) x.place;
      newest = λ i. ap (λ xs. count_of completes_pass s xs c i) n.run
          ∙ none_counted s c i n.later (rank ∷ n.before) (subst NoSelf (sym (none_later own n)) tt)
          ∙ none_counted s c i (rank ∷ []) n.before (rank_only c rank (ap is_look_self raised)) ∙ x.newest i;
      reads = ap (λ (l : LocalState). l.reads) now ∙ keeps.0 ∙ x.reads;
      writes = ap (λ (l : LocalState). l.writes) now ∙ keeps.1 ∙ x.writes;
    }

-- an open that goes on has just made a complete pass
pub open_sees : {s : Shape} (c : ℕ) (log old : List Event) {w : Work} {g : Lcg} {es : List Event} → is_open w ≡ true →
    (local s old c).phase ≡ Running → IsCall (Doing w) s (local s old c) g es →
    events_of c log ≡ es ++ events_of c old → (local s log c).phase ≡ Running → Sees s log c
open_sees {s = s} c log old {w = w} {g = g} {es = es} opens run call own runs = elim (cases_Bool (rises s.manager)) [
  | inl risen ↦ in_rank (ends.0 risen)
  | inr still ↦ in_pass (ends.1 still)
]
  where
    now : local s log c ≡ state_after s (local s old c) es
    now = after_own s c log old es own

    live : (local s log c).phase ≢ Outside
    live out = let x = runs in cc

    ends : (rises s.manager ≡ true → EndsInRank s (local s old c) es)
        × (rises s.manager ≡ false → EndsInPass s (local s old c) es)
    ends = every_open w s (local s old c) g es opens run call
        (ap (λ (l : LocalState). is_outside l.phase) (sym now) ∙ ap is_outside runs)

    in_pass : EndsInPass s (local s old c) es → Sees s log c
    in_pass p = look_sees s c log _ p.end (own ∙ ap (λ xs. xs ++ events_of c old) p.are) p.ends live

    in_rank : EndsInRank s (local s old c) es → Sees s log c
    in_rank r =
        rank_sees s c log _ r.rank r.pass.end
        (own ∙ ap (λ xs. xs ++ events_of c old) (r.are ∙ ap (λ xs. r.rank ∷ xs) r.pass.are)) r.is_rank r.pass.ends live

-- the sight covers what is held
pub sees_all : {L : Type 0} (k : Called L) → Sees (shape_of k) k.log k.number → Sighted k
sees_all k x = record {
  place = x.place;
  newest = x.newest (state k).begun;
  covers = λ o v is.
      ap (λ rs. value_in (read_values (shape_of k) (start_of k) k.log rs
      ++ old_values (shape_of k) (start_of k) k.log (local (shape_of k) x.before k.number).writes) o) (sym x.reads)
      ∙ ap (λ ws. value_in (read_values (shape_of k) (start_of k) k.log (state k).reads
      ++ old_values (shape_of k) (start_of k) k.log ws) o) (sym x.writes)
      ∙ is;
}

-- so there is a lawful map that agrees with what is held
pub sighted_admits : {L : Type 0} {holds : L → List Val → Type 0} {k : Called L} → IsRunOf holds k.home.terms k.log →
    Sighted k → (map : List Val) × Admits holds k map
sighted_admits {holds = holds} {k = k} run x =
    let core = subst (CoreRun (shape_of k) (start_of k) (holds (law_of k))) x.log run.run in
    let m = sights_have_maps (shape_of k) (start_of k) (holds (law_of k)) x.later x.before x.sight core x.is_one
    run.lawful in (
      m.map,
      record {
        length = m.objects;
        lawful = m.lawful;
        agrees = λ o. go o m.map
            (AgreesWith-of_agrees m.map (seen (shape_of k) (start_of k) (x.later ++ x.sight ∷ x.before) x.before x.sight.caller)
            m.values o) (held k o) refl;
      },
    )
  where
    go : (o : ℕ) (map : List Val) → IfSome (value_in (seen (shape_of k) (start_of k) (x.later ++ x.sight ∷ x.before)
        x.before x.sight.caller) o) (λ v. value_at map o ≡ v) → (h : Option Val) → held k o ≡ h →
        IfSome h (λ v. value_at map o ≡ v)
    go o map all None q = tt
    go o map all (Some v) q =
        subst (λ (h : Option Val). IfSome h (λ v. value_at map o ≡ v))
        (ap (λ xs. value_in (seen (shape_of k) (start_of k) xs x.before x.sight.caller) o) (sym x.log)
        ∙ ap (λ c. value_in (seen (shape_of k) (start_of k) k.log x.before c) o) x.caller ∙ x.covers o v q) all
