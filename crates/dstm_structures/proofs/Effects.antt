-- What the calls on a queue do, of each map at which the attempt may have begun, and why they stop.
use Rattle.std.proofs.Common.{◌≡◌, ◌∙◌, ℕ, ◌+◌, ◌-◌, ◌<◌, ◌≤◌, Bool, true, false, List, [], ◌∷◌, ap, append-nil, arith, length, refl, slice_set, subst, sym}
use Rattle.std.specs.Prelude.{Some}
use Rattle.dstm_model.specs.declared.value.Law.{Ghosts}
use Rattle.dstm_model.specs.declared.value.Val.{Val}
use Rattle.dstm_model.specs.Map.{value_at}
use Rattle.dstm_mem.proofs.WithSet.{length-with_set}
use Rattle.dstm_tables.specs.declared.tables.Caller.{Caller}
use Rattle.dstm_tables.specs.declared.tables.Caller.TheVariants.{Dstm, Tl2}
use Rattle.dstm_attempts.specs.Attempts.{Attempt, Keeps, Opens, objects_of, written}
use Rattle.dstm_tables.specs.Tables.{objects_there}
use Rattle.dstm_cells.specs.Alternatives.{HasNoted, Noting}
use Rattle.dstm_cells.specs.UnderWay.{Changes, Gets, MayBegin, StopsChange, StopsLook, seen}
use Rattle.dstm_cells.specs.declared.error.Why.{Why}
use Rattle.dstm_cells.specs.declared.error.Why.TheVariants.{Again, Retry, Foreign, Memory}
use Rattle.dstm_cells.specs.declared.holds.Holds.{Ghosts as Holding}
use Rattle.dstm_cells.specs.declared.under_way.Attempt.{Attempt as Tx}
use Rattle.dstm_cells.proofs.Found.{found_at, put_at}
use Rattle.dstm_structures.specs.Circles.{behind, next}
use Rattle.dstm_structures.specs.Effects.{Does, GoesOn, Stops}
use Rattle.dstm_structures.specs.Queues.{Counts, Fronts, OpensEnds, OpensPlace, OpensToFront, Pops, Pushes, end_of, ends_in, items_in, pair_of, within}
use Rattle.dstm_structures.specs.declared.queue.Queue.{Queue}
use Rattle.dstm_structures.proofs.Circles.{behind-within}
use Rattle.dstm_structures.proofs.Queues.{items-first, items-length, items-less, items-more, others-once, others-twice, start-within}

module _ {L : Type 0} where
  -- ---- why a call stops

  pub same_objects : (k m : Caller L) → Keeps k m → objects_of m ≡ objects_of k
  same_objects k m same = ap (λ (a : Attempt L). objects_there a.home) same

  module _ {S : Type 0} {ghosts : Ghosts L} {holding : Holding S L} (holds : L → List Val → Type 0) (size o : ℕ) (notes : Bool) (k m n : Tx L S ghosts holding)
      (keeps : Keeps k.attempts.caller m.attempts.caller) (inside : o < size) where
    pub stops-look : (why : Why) → StopsLook holds o m.attempts.caller n.attempts.caller why → Stops size notes k n why
    stops-look Again s = s.why.0
    stops-look Retry s = absurd s
    stops-look Foreign s = omega (arith, s.why.0, same_objects k.attempts.caller m.attempts.caller keeps, inside)
    stops-look Memory s = absurd s

    pub stops-change : (why : Why) → m.notes ≡ notes →
        StopsChange holds m.notes o m.attempts.caller n.attempts.caller why → Stops size notes k n why
    stops-change Again same s = s.why.0
    stops-change Retry same s = absurd s
    stops-change Foreign same s = omega (arith, s.why.0, same_objects k.attempts.caller m.attempts.caller keeps, inside)
    stops-change Memory same s = sym same ∙ s.0

  -- whether it is in an alternative stays as it was
  module _ {holds : L → List Val → Type 0} where
    pub notes-stay : {k m : Noting L} → ((first : Noting L) → HasNoted holds first k → HasNoted holds first m) → m.notes ≡ k.notes
    notes-stay {k} notes = ap (λ (s : Bool × ℕ). s.0) (notes k (record {
      keeps = refl;
      same = refl;
      noted = λ is.
          record { added = []; is = sym (append-nil k.undos); narrows = λ map may. may; back = λ map may. refl };
    })).same

    pub goes-stay : {S : Type 0} {ghosts : Ghosts L} {holding : Holding S L} {k m : Tx L S ghosts holding} → GoesOn holds k m → m.notes ≡ k.notes
    goes-stay goes = notes-stay goes.notes

  -- ---- what it does

  module _ (holds : L → List Val → Type 0) where
    pub may_length : (k : Caller L) (map : List Val) → MayBegin holds k map → length map ≡ objects_of k
    may_length (Dstm k) map may = may.length
    may_length (Tl2 k) map may = may.length

    pub room : (k : Caller L) (map : List Val) (size : ℕ) → size ≤ objects_of k → MayBegin holds k map →
        size ≤ length (seen k map)
    room k map size there may =
        omega (arith, there, length-with_set map (written k), may_length k map may)

module _ {L T : Type 0} (holds : L → List Val → Type 0) (found : Val → T) (queue : Queue T) where
  abbrev n : ℕ
  n = queue.cells.capacity

  abbrev ends_at : List Val → ℕ × ℕ
  ends_at map = ends_in queue.cells.first n map

  -- ---- what is opened

  at-object : (writes : Bool) (k m : Caller L) {o p : ℕ} → o ≡ p → Opens holds writes o k m → Opens holds writes p k m
  at-object writes k m is opens = subst (λ (x : ℕ). Opens holds writes x k m) is opens

  pub opens-ends : (k m : Caller L) {o : ℕ} → o ≡ queue.cells.first → Opens holds false o k m →
      OpensEnds found queue holds k m
  opens-ends k m is opens = (m, at-object false k m is opens, refl)

  -- a place of a queue that has a value
  pub first-inside : (ends place : ℕ × ℕ) → place ≡ within n ends → (place.1 ≡ 0 → ⊥) → place.0 < n
  first-inside ends place is some =
      subst (λ (x : ℕ × ℕ). x.0 < n) (sym is) (start-within n ends (places (subst (λ (x : ℕ × ℕ). x.1 ≡ 0 → ⊥) is some)))
    where
      places : ((within n ends).1 ≡ 0 → ⊥) → 0 < n
      places more = grind (arith, more)

  pub opens-front : (k m l : Caller L) {at o p : ℕ} (value : T) → at < n → o ≡ queue.cells.first →
      p ≡ queue.cells.first + 1 + at → Opens holds false o k m → Opens holds false p m l →
      OpensToFront found queue holds (Some value) k l
  opens-front k m l {at = at} value inside o_is p_is first second =
      (at, inside, (m, at-object false k m o_is first, (l, at-object false m l p_is second, refl)))

  pub opens-place : (writes : Bool) (k m l e : Caller L) {at o p q : ℕ} → at < n → o ≡ queue.cells.first →
      p ≡ queue.cells.first + 1 + at → q ≡ queue.cells.first → Opens holds false o k m → Opens holds writes p m l →
      Opens holds true q l e → OpensPlace found queue holds writes k e
  opens-place writes k m l e {at = at} inside o_is p_is q_is first second third = (
    at,
    inside,
    (m, at-object false k m o_is first, (l, at-object writes m l p_is second, (e, at-object true l e q_is third, refl))),
  )

  -- ---- what is done

  -- the place of the first value and how many there are were looked up
  pub record Looks (old new : Caller L) (place : ℕ × ℕ) (map : List Val) : Type 0 where
    pub is : place ≡ ends_at (seen old map)
    pub same : seen new map ≡ seen old map
    pub may : MayBegin holds old map

  pub looks : (k m : Caller L) (o : ℕ) (ends place : ℕ × ℕ) → o ≡ queue.cells.first → place ≡ within n ends →
      Gets holds pair_of k m o ends → (map : List Val) → MayBegin holds m map → Looks k m place map
  looks k m o ends place at is gets map may =
      let (tells, same, began) = found_at holds pair_of k m o map (seen k map) ends gets may refl in
      record {
        is = is ∙ ap (within n) (tells ∙ ap (λ (o : ℕ). pair_of (value_at (seen k map) o)) at);
        same = same;
        may = began;
      }

  -- nothing was set
  pub counted : (k m : Caller L) (o : ℕ) (ends place : ℕ × ℕ) → o ≡ queue.cells.first → place ≡ within n ends →
      Gets holds pair_of k m o ends → Does holds (end_of queue) (Counts found queue place.1) k m
  counted k m o ends place at is gets = record {
    narrows = gets.finds.narrows;
    does = λ room map may.
        let l = looks k m o ends place at is gets map may in
        record {
          is = ap (λ (e : ℕ × ℕ). e.1) l.is ∙ sym (items-length found queue.cells.first n (seen k map));
          same = l.same;
        };
  }

  pub full : (k m : Caller L) (o : ℕ) (ends place : ℕ × ℕ) (value : T) → o ≡ queue.cells.first → place ≡ within n ends →
      n ≤ place.1 → Gets holds pair_of k m o ends → Does holds (end_of queue) (Pushes found queue value false) k m
  full k m o ends place value at is most gets =
      let counts = counted k m o ends place at is gets in
      let count : place.1 ≡ n = grind (arith, is, most) in
      subst (λ (c : ℕ). Does holds (end_of queue) (Counts found queue c) k m) count counts

  pub none : (k m : Caller L) (o : ℕ) (ends place : ℕ × ℕ) → o ≡ queue.cells.first → place ≡ within n ends →
      place.1 ≡ 0 → Gets holds pair_of k m o ends → Does holds (end_of queue) (Counts found queue 0) k m
  none k m o ends place at is empty gets =
      subst (λ (c : ℕ). Does holds (end_of queue) (Counts found queue c) k m) empty (counted k m o ends place at is gets)

  -- a value was put at the end
  pub pushed : (k m l e : Caller L) (ends place was : ℕ × ℕ) (o p q at : ℕ) (had value : T) → o ≡ queue.cells.first →
      place ≡ within n ends → place.1 < n → at ≡ behind n place.0 place.1 → p ≡ queue.cells.first + 1 + at → q ≡ queue.cells.first →
      Gets holds pair_of k m o ends → Changes holds found m l p had value →
      Changes holds pair_of l e q was (place.0, place.1 + 1) →
      Does holds (end_of queue) (Pushes found queue value true) k e
  pushed k m l e ends place was o p q at had value o_is place_is free at_is p_is q_is gets puts moves = record {
    narrows = λ map may. gets.finds.narrows map (puts.exchanges.puts.narrows map (moves.exchanges.puts.narrows map may));
    does = λ there map may.
        let f : ℕ = queue.cells.first in
        let before : List Val = seen k map in
        let may_l = moves.exchanges.puts.narrows map may in
        let look = looks k m o ends place o_is place_is gets map (puts.exchanges.puts.narrows map may_l) in
        let (kept, kept_is, mid) =
        (put_at holds found m l p map before had value puts may_l look.same).0 in
        let (pair, pair_is, after) =
        (put_at holds pair_of l e q map (slice_set before p kept) was (place.0, place.1 + 1) moves may mid).0 in
        let size : f + 1 + n ≤ length before = room holds k map (end_of queue) there look.may in
        let here : p ≡ f + 1 + behind n (ends_at before).0 (ends_at before).1 =
        p_is ∙ ap (λ (a : ℕ). f + 1 + a) (at_is ∙ ap (λ (x : ℕ × ℕ). behind n x.0 x.1) look.is) in
        let whole : seen e map
        ≡ slice_set (slice_set before (f + 1 + behind n (ends_at before).0 (ends_at before).1) kept) f pair =
        after ∙ ap (λ (x : ℕ). slice_set (slice_set before p kept) x pair) q_is
        ∙ ap (λ (x : ℕ). slice_set (slice_set before x kept) f pair) here in
        let small : (ends_at before).1 < n = subst (λ (x : ℕ × ℕ). x.1 < n) look.is free in
        let start = start-within n (pair_of (value_at before f)) (omega (arith, small)) in
        record {
          room = subst (λ (c : ℕ). c < n) (sym (items-length found f n before)) small;
          last = ap (items_in found f n) whole
              ∙ items-more found f n before size value kept pair small kept_is
              (pair_is ∙ ap (λ (x : ℕ × ℕ). (x.0, x.1 + 1)) look.is);
          others = λ x out.
              ap (λ (xs : List Val). value_at xs x) whole
              ∙ others-twice found f n before size (behind n (ends_at before).0 (ends_at before).1) kept pair
              (behind-within n (ends_at before).0 (ends_at before).1 start small) x out;
        };
  }

  -- the first value was found
  pub fronted : (k m l : Caller L) (ends place : ℕ × ℕ) (o p : ℕ) (value : T) → o ≡ queue.cells.first →
      place ≡ within n ends → (place.1 ≡ 0 → ⊥) → p ≡ queue.cells.first + 1 + place.0 → Gets holds pair_of k m o ends →
      Gets holds found m l p value → Does holds (end_of queue) (Fronts found queue (Some value)) k l
  fronted k m l ends place o p value o_is place_is some p_is gets finds = record {
    narrows = λ map may. gets.finds.narrows map (finds.finds.narrows map may);
    does = λ there map may.
        let before : List Val = seen k map in
        let look = looks k m o ends place o_is place_is gets map (finds.finds.narrows map may) in
        let (is, same, _) = found_at holds found m l p map before value finds may look.same in
        let here : p ≡ queue.cells.first + 1 + (ends_at before).0 =
        p_is ∙ ap (λ (x : ℕ × ℕ). queue.cells.first + 1 + x.0) look.is in
        let many : 0 < (ends_at before).1 =
        subst (λ (x : ℕ × ℕ). 0 < x.1) look.is (omega (arith, some)) in
        let (rest, first) = items-first found queue.cells.first n before many in
        record {
          rest = rest;
          first = first ∙ ap (λ (v : T). v ∷ rest) (sym (is ∙ ap (λ (x : ℕ). found (value_at before x)) here));
          same = same;
        };
  }

  -- the first value was taken
  pub popped : (k m l e : Caller L) (ends place after was : ℕ × ℕ) (o p q : ℕ) (value : T) → o ≡ queue.cells.first →
      place ≡ within n ends → (place.1 ≡ 0 → ⊥) → p ≡ queue.cells.first + 1 + place.0 → q ≡ queue.cells.first →
      after ≡ (next n place.0, place.1 - 1) → Gets holds pair_of k m o ends → Gets holds found m l p value →
      Changes holds pair_of l e q was after → Does holds (end_of queue) (Pops found queue (Some value)) k e
  popped k m l e ends place after was o p q value o_is place_is some p_is q_is after_is gets finds moves = record {
    narrows = λ map may. gets.finds.narrows map (finds.finds.narrows map (moves.exchanges.puts.narrows map may));
    does = λ there map may.
        let f : ℕ = queue.cells.first in
        let before : List Val = seen k map in
        let may_l = moves.exchanges.puts.narrows map may in
        let look = looks k m o ends place o_is place_is gets map (finds.finds.narrows map may_l) in
        let (is, same, _) = found_at holds found m l p map before value finds may_l look.same in
        let (pair, pair_is, left) = (put_at holds pair_of l e q map before was after moves may same).0 in
        let size : f + 1 + n ≤ length before = room holds k map (end_of queue) there look.may in
        let here : p ≡ f + 1 + (ends_at before).0 = p_is ∙ ap (λ (x : ℕ × ℕ). f + 1 + x.0) look.is in
        let whole : seen e map ≡ slice_set before f pair =
        left ∙ ap (λ (x : ℕ). slice_set before x pair) q_is in
        let many : 0 < (ends_at before).1 = subst (λ (x : ℕ × ℕ). 0 < x.1) look.is (omega (arith, some)) in
        record {
          first = items-less found f n before size pair many
              (pair_is ∙ after_is ∙ ap (λ (x : ℕ × ℕ). (next n x.0, x.1 - 1)) look.is)
              ∙ ap (λ (v : T). v ∷ items_in found f n (slice_set before f pair))
              (sym (is ∙ ap (λ (x : ℕ). found (value_at before x)) here))
              ∙ ap (λ (xs : List Val). value ∷ items_in found f n xs) (sym whole);
          others = λ x out.
              ap (λ (xs : List Val). value_at xs x) whole ∙ others-once found f n before size pair x out;
        };
  }
