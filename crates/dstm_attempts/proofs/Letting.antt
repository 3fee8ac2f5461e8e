-- An attempt by DSTM that lets go of what it has set.
use Rattle.std.proofs.Common.{◌≡◌, ◌==◌, ◌&&◌, Bool, not, ◌∙◌, ◌∷◌, ◌⊎◌, ◌+◌, ◌<◌, ℕ, List, [], ap, false, inl, inr, arith, get_or, length, refl, subst, suc, sym, take, true}
use Rattle.std.specs.Prelude.{All, IfSome}
use Rattle.std.proofs.lemmas.Bool.{cases_Bool, eq-eqb, eqb-true}
use Rattle.std.proofs.lemmas.List.Elements.{All-head, All-more, All-tail, Contains-get_or}
use Rattle.dstm_model.specs.declared.value.Val.{Val}
use Rattle.dstm_model.specs.Map.{no_value, value_at}
use Rattle.dstm_mem.specs.Memory.{value_in}
use Rattle.dstm_words.specs.Seats.{Home}
use Rattle.dstm_engine.specs.Callers.{Called, entry, is_live}
use Rattle.dstm_tables.specs.declared.tables.Caller.TheVariants.{Dstm}
use Rattle.dstm_attempts.specs.Attempts.{AddsNothing, Begins, Finds, IsAbandoned, IsNotOpened, IsQuit, IsUntouched, Keeps, MayBegin, Opens}
use Rattle.dstm_attempts.specs.declared.error.NotOpened.{NotOpened}
use Rattle.dstm_attempts.specs.Waiting.{FindsAll, FindsChange, FindsOther, HasOther, LetsGoOf, OpensFirst, OpensNoMore, object_at}
use Rattle.dstm_attempts.proofs.ByDstm.{home_in}
use Rattle.dstm_attempts.proofs.UnderWay.{adds_nothing, begins_none, nothing_twice, same_law}

-- values that a map has, each in its place, are what it has
agrees : (map : List Val) (pairs : List (ℕ × Val)) (o : ℕ) → All (λ (p : ℕ × Val). value_at map p.0 ≡ p.1) pairs →
    IfSome (value_in pairs o) (λ v. value_at map o ≡ v)
agrees map [] o all = tt
agrees map (p ∷ pairs) o all = elim (cases_Bool (p.0 == o)) [
  | inl q ↦ rw q (subst (λ n. value_at map n ≡ p.1) (eqb-true p.0 o q) (All-head (λ (p : ℕ × Val). value_at map p.0 ≡ p.1) p pairs all))
  | inr q ↦ rw q (agrees map pairs o (All-tail (λ (p : ℕ × Val). value_at map p.0 ≡ p.1) p pairs all))
]

-- ---- whether two values are the same

both_true : (x y : Bool) → not (x && y) ≡ false → (x ≡ true) × (y ≡ true)
both_true true true h = (refl, refl)
both_true true false h = absurd (cc)
both_true false y h = absurd (cc)

never_both : (x y : Bool) → not (x && y) ≡ true → x ≡ true → y ≡ true → ⊥
never_both true true h q r = cc
never_both true false h q r = cc
never_both false y h q r = cc

pub same_value : (a b : Val) → not (a.low == b.low && a.high == b.high) ≡ false → a ≡ b
same_value a b h =
    let both = both_true (a.low == b.low) (a.high == b.high) h in
    ap (λ n. record { low = n; high = a.high }) (eqb-true a.low b.low both.0)
    ∙ ap (λ n. record { low = b.low; high = n }) (eqb-true a.high b.high both.1)

pub other_value : (a b : Val) → not (a.low == b.low && a.high == b.high) ≡ true → a ≡ b → ⊥
other_value a b h same =
    never_both (a.low == b.low) (a.high == b.high) h (eq-eqb a.low b.low (ap (λ (v : Val). v.low) same))
    (eq-eqb a.high b.high (ap (λ (v : Val). v.high) same))

module _ {L : Type 0} where
  -- one that adds nothing stays at its table
  pub home_is : (k n : Called L) → AddsNothing (Dstm k) (Dstm n) → n.home ≡ k.home
  home_is k n nothing = ap (home_in k.home) nothing.home

  -- nothing more is open for writing, behind another open
  pub no_more_on : (first k n : Called L) → Keeps (Dstm first) (Dstm k) → OpensNoMore first k → OpensNoMore k n →
      OpensNoMore first n
  no_more_on first k n keeps was more = record {
    unmarked = λ reads o.
        more.unmarked
        (ap (λ (h : Home L). h.terms.shape.all_write) (home_is first k (adds_nothing (Dstm first) (Dstm k) keeps)) ∙ reads) o
        ∙ was.unmarked reads o;
  }

  module _ (holds : L → List Val → Type 0) where
    -- what an attempt finds that has set nothing is what the object has, and it still has set nothing
    pub untouched_on : (k n : Called L) (o : ℕ) (v : Val) → IsUntouched (Dstm k) → Finds holds (Dstm k) (Dstm n) o v →
        IsUntouched (Dstm n)
    untouched_on k n o v untouched finds map = finds.same map ∙ untouched map

    pub found_value : (k n : Called L) (o : ℕ) (v : Val) → IsUntouched (Dstm k) → Finds holds (Dstm k) (Dstm n) o v →
        (map : List Val) → MayBegin holds (Dstm n) map → value_at map o ≡ v
    found_value k n o v untouched finds map may =
        ap (λ (xs : List Val). value_at xs o) (sym (untouched_on k n o v untouched finds map)) ∙ finds.value map may

    -- one value more is found
    pub found_more : (k n : Called L) (pairs : List (ℕ × Val)) (i : ℕ) (d : ℕ × Val) (v : Val) → i < length pairs →
        IsUntouched (Dstm k) → Finds holds (Dstm k) (Dstm n) (get_or pairs i d).0 v → v ≡ (get_or pairs i d).1 →
        ((map : List Val) → MayBegin holds (Dstm k) map → All (λ (p : ℕ × Val). value_at map p.0 ≡ p.1) (take i pairs)) →
        (map : List Val) → MayBegin holds (Dstm n) map → All (λ (p : ℕ × Val). value_at map p.0 ≡ p.1) (take (i + 1) pairs)
    found_more k n pairs i d v within untouched finds is before map may =
        All-more (λ (p : ℕ × Val). value_at map p.0 ≡ p.1) pairs i d within (before map (finds.narrows map may))
        (found_value k n (get_or pairs i d).0 v untouched finds map may ∙ is)

    -- another value is found
    pub found_other : (k n : Called L) (o : ℕ) (v had : Val) → IsUntouched (Dstm k) → Finds holds (Dstm k) (Dstm n) o v →
        ((map : List Val) × MayBegin holds (Dstm n) map) → (v ≡ had → ⊥) → HasOther holds n o had
    found_other k n o v had untouched finds may differs = record {
      value = v;
      found = found_value k n o v untouched finds;
      may = may;
      differs = differs;
    }

    -- one object more was opened
    pub opens_more : (count : ℕ) (pairs : List (ℕ × Val)) (k m n : Called L) → OpensFirst holds count pairs k m →
        Opens holds false (object_at pairs count) (Dstm m) (Dstm n) → OpensFirst holds (count + 1) pairs k n
    opens_more count pairs k m n before opens =
        let next : OpensFirst holds (suc count) pairs k n = (m, before, opens) in
        let one : suc count ≡ count + 1 = omega arith in
        subst (λ c. OpensFirst holds c pairs k n) one next

    -- the attempt did not find the value that one of them has
    pub finds_other_at : (first k n : Called L) (pairs : List (ℕ × Val)) (i : ℕ) → i < length pairs →
        OpensFirst holds i pairs first k → Keeps (Dstm first) (Dstm k) → is_live k ≡ true →
        (HasOther holds n (object_at pairs i) (get_or pairs i (0, no_value)).1
        × Opens holds false (object_at pairs i) (Dstm k) (Dstm n))
        ⊎ ((answer : NotOpened) × IsNotOpened holds false (object_at pairs i) (Dstm k) (Dstm n) answer) →
        FindsOther holds first n pairs
    finds_other_at first k n pairs i within before keeps live why = record {
      number = i;
      below = within;
      object = object_at pairs i;
      object_is = refl;
      had = (get_or pairs i (0, no_value)).1;
      one = Contains-get_or pairs i (0, no_value) within;
      last = k;
      before = before;
      keeps = keeps;
      live = live;
      why = why;
    }

    -- one that was begun behind it and found what it had read
    pub lets_go : (k began n : Called L) (pairs : List (ℕ × Val)) → Begins holds (Dstm k) (Dstm began) →
        Keeps (Dstm began) (Dstm n) → OpensFirst holds (length pairs) pairs began n → FindsAll holds n pairs →
        OpensNoMore began n → pairs ≡ (entry k).reads → LetsGoOf holds k n
    lets_go k began n pairs begins keeps reads all no_more is =
        let kept = adds_nothing (Dstm began) (Dstm n) keeps in
        let nothing = nothing_twice (Dstm k) (Dstm began) (Dstm n) begins.nothing kept in
        record {
          began = began;
          begins = begins.by_engine;
          reads = subst (λ ps. OpensFirst holds (length ps) ps began n) is reads;
          nothing = nothing;
          begun = begins_none (Dstm began) (Dstm n) keeps ∙ begins.begun;
          live = all.live;
          untouched = all.untouched;
          unopened = λ reads o.
              no_more.unmarked (ap (λ (h : Home L). h.terms.shape.all_write) (sym (home_is began n kept)) ∙ reads) o
              ∙ begins.by_engine.unopened o;
          may = all.may;
          narrows = λ map may. record {
            length = may.length ∙ ap (λ (h : Home L). h.terms.shape.objects) (home_is k n nothing);
            lawful = subst (λ (l : L). holds l map) (same_law (Dstm k) (Dstm n) nothing.home) may.lawful;
            agrees = subst (λ (ps : List (ℕ × Val)). (o : ℕ) → IfSome (value_in ps o) (λ v. value_at map o ≡ v)) is
                (λ o. agrees map pairs o (all.found map may));
          };
        }

    -- and one that did not
    pub finds_another : (k began found n : Called L) (pairs : List (ℕ × Val)) → Begins holds (Dstm k) (Dstm began) →
        Keeps (Dstm began) (Dstm found) → FindsOther holds began found pairs → pairs ≡ (entry k).reads →
        Keeps (Dstm found) (Dstm n) → IsQuit (Dstm n) → IsAbandoned holds (Dstm found) (Dstm n) →
        FindsChange holds (Dstm k) (Dstm n)
    finds_another k began found n pairs begins keeps other is left quit leaves = inr (record {
      began = began;
      begins = begins.by_engine;
      found = found;
      keeps = keeps;
      other = subst (FindsOther holds began found) is other;
      left = left;
      quit = quit;
      leaves = leaves;
    })
