-- Callers that are given out, or taken back, one after the other.
use Rattle.std.proofs.Common.{◌≡◌, ◌∙◌, ℕ, List, ◌∷◌, [], ◌++◌, length, ap, append_assoc, subst, sym, arith, ⊎_elim}
use Rattle.std.proofs.lemmas.Bool.{cases_lt}
use Rattle.std.proofs.lemmas.List.{append-nil, get_or_push, length_push}
use Rattle.std.proofs.lemmas.List.Elements.{All-cons, All-nil, All-weaker, Contains-append_left, Contains-append_right}
use Rattle.std.proofs.Math.ListN.{get_or-append}
use Rattle.std.specs.Prelude.{All, Contains}
use Rattle.dstm_engine.proofs.Base.{Core, Event, Home, IsRunOf, Val, View, done_by, events_of}
use Rattle.dstm_machines.proofs.Pasts.{past_past}
use Rattle.dstm_opacity.proofs.Stays.{told_stays}
use Rattle.dstm_engine.specs.Callers.{Called, shape_of, start_of}
use Rattle.dstm_engine.specs.Companies.{AreNew, IsNew, IsRetiredIn, IsSeenIn}
use Rattle.dstm_engine.specs.Tables.{Founding, Retires}

-- one more is given out, with the next seed
pub new_push : {L : Type 0} {holds : L → List Val → Type 0} {table : Home L} (ks : List (Called L)) {k : Called L} →
    AreNew holds table ks → IsNew holds table (length ks) k → AreNew holds table (ks ++ k ∷ [])
new_push {holds = holds} {table = table} ks {k = k} new one seed other lt =
    ⊎_elim
    (λ before. subst (IsNew holds table seed) (sym (get_or-append ks (k ∷ []) other seed before)) (new seed other before))
    (λ behind.
    let more = length_push ks k in
    let last : length ks ≡ seed = omega (arith, more, lt, behind) in
    subst (IsNew holds table seed) (sym (get_or_push ks k other seed last)) (subst (λ n. IsNew holds table n k) last one))
    (cases_lt seed (length ks))

-- a caller of the table was retired, and its number is one of the founder's
pub record IsBack {L : Type 0} (holds : L → List Val → Type 0) (table : Home L) (v : View L) (k : Called L) : Type 0 where
  pub home : k.home ≡ table
  pub retired : IsRetiredIn holds v.log k
  pub number : Contains v.numbers k.number

-- of all callers those are left, and each of the others was retired
abbrev pub AreLeftOf : {L : Type 0} → (L → List Val → Type 0) → Home L → View L → (all left : List (Called L)) → Type 0
AreLeftOf {L} holds table v all left = (gone : List (Called L)) × ((all ≡ left ++ gone) × All (IsBack holds table v) gone)

module _ {L : Type 0} {holds : L → List Val → Type 0} {table : Home L} where
  -- at first none was retired
  pub none_gone : (v : View L) (all : List (Called L)) → AreLeftOf holds table v all all
  none_gone v all = ([], (sym (append-nil all), All-nil (IsBack holds table v)))

  -- a caller that is taken back
  is_back : {f g : Founding L} {k : Called L} → k.home ≡ table → Retires holds f g k → IsBack holds table g.view k
  is_back {f = f} {g = g} {k = k} home retired =
      let quit = retired.quit in
      let mine : Contains (quit.number ∷ []) k.number = (0, omega arith, retired.steps.same.1) in record {
        home = home;
        retired = record {
          quit = quit;
          steps = retired.steps;
          rest = retired.rest;
          past = retired.joined.other_past;
          own = retired.joined.other_kept k.number mine;
          done = retired.done;
        };
        number = subst (λ (numbers : List ℕ). Contains numbers k.number) (sym (ap (λ (v : View L). v.numbers) retired.joined.view))
            (Contains-append_right f.view.numbers (quit.number ∷ []) k.number mine);
      }

  -- it stays so where another one is taken back
  stays_back : {f g : Founding L} {k other : Called L} → other.home ≡ table → Retires holds f g other →
      IsBack holds table f.view k → IsBack holds table g.view k
  stays_back {f = f} {g = g} {k = k} {other = other} of_table retired back =
      let joined = retired.joined in
      let past = joined.past in
      let same = joined.kept k.number back.number in
      let run : IsRunOf holds k.home.terms g.view.log =
      subst (λ (h : Home L). IsRunOf holds h.terms g.view.log) (of_table ∙ sym back.home) retired.run in record {
        home = back.home;
        retired = record {
          quit = back.retired.quit;
          steps = back.retired.steps;
          rest = back.retired.rest;
          past = past_past back.retired.quit.log f.view.log g.view.log back.retired.past past;
          own = same ∙ back.retired.own;
          done =
              subst (λ xs. done_by (shape_of k) (start_of k) xs xs k.number
              ≡ done_by (shape_of k) (start_of k) f.view.log f.view.log k.number) past.whole
              (told_stays (shape_of k) (start_of k) past.later f.view.log k.number
              (subst (Core (shape_of k)) (sym past.whole) run.run.core)
              (subst (λ xs. events_of k.number xs ≡ events_of k.number f.view.log) (sym past.whole) same))
              ∙ back.retired.done;
        };
        number = subst (λ (numbers : List ℕ). Contains numbers k.number) (sym (ap (λ (v : View L). v.numbers) joined.view))
            (Contains-append_left f.view.numbers (retired.quit.number ∷ []) k.number back.number);
      }

  -- one more is taken back
  pub one_is_gone : {f g : Founding L} (all before left : List (Called L)) (k : Called L) → before ≡ left ++ k ∷ [] →
      k.home ≡ table → Retires holds f g k → AreLeftOf holds table f.view all before → AreLeftOf holds table g.view all left
  one_is_gone {f = f} {g = g} all before left k parts home retired taken = (
    k ∷ taken.0,
    (
      taken.1.0 ∙ ap (λ (ks : List (Called L)). ks ++ taken.0) parts ∙ append_assoc left (k ∷ []) taken.0,
      All-cons (IsBack holds table g.view) k taken.0 (is_back home retired)
          (All-weaker (IsBack holds table f.view) (IsBack holds table g.view) (λ one. stays_back {k = one} home retired) taken.0 taken.1.1),
    ),
  )

  -- once none is left each was retired,
  pub all_retired : (v : View L) (all left : List (Called L)) → length left ≡ 0 → AreLeftOf holds table v all left →
      All (IsRetiredIn holds v.log) all
  all_retired v all [] none taken =
      subst (All (IsRetiredIn holds v.log)) (sym taken.1.0)
      (All-weaker (IsBack holds table v) (IsRetiredIn holds v.log) (λ one back. back.retired) taken.0 taken.1.1)
  all_retired v all (k ∷ left) none taken = absurd (omega (arith, none))

-- and what it has seen is in the log
pub retired_seen : {L : Type 0} {holds : L → List Val → Type 0} (log : List Event) (all : List (Called L)) →
    All (IsRetiredIn holds log) all → All (IsSeenIn log) all
retired_seen {holds = holds} log all retired =
    All-weaker (IsRetiredIn holds log) (IsSeenIn log)
    (λ one is. past_past one.log is.quit.log log is.steps.seen is.past) all retired
