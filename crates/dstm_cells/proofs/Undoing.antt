-- What is noted, and how it is undone.
use Rattle.std.proofs.Common.{◌≡◌, ◌++◌, ◌+◌, ◌≤◌, ◌∙◌, ◌∷◌, Bool, List, [], ap, append_assoc, arith, get_or, length, refl, slice_set, subst, sym, take, true, ℕ}
use Rattle.std.proofs.lemmas.List.{append-nil, set-get_or, set-set}
use Rattle.std.proofs.Math.Seq.{take-append_seam}
use Rattle.dstm_model.specs.declared.value.Val.{Val}
use Rattle.dstm_model.specs.Map.{no_value}
use Rattle.dstm_tables.specs.declared.tables.Caller.{Caller}
use Rattle.dstm_attempts.proofs.Noted.{without_last}
use Rattle.dstm_cells.specs.Alternatives.{HasNoted, HasSetBack, IsUndone, Noting, Notes, OpensAndSets, Undoes, in_alternative, set_back, settings}
use Rattle.dstm_cells.specs.UnderWay.{Exchanges, Keeps, MayBegin, SetsNothing, seen}
use Rattle.dstm_cells.specs.declared.under_way.Undo.{Undo}

set_back-append : (first later : List Undo) (map : List Val) →
    set_back (first ++ later) map ≡ set_back first (set_back later map)
set_back-append [] later map = refl
set_back-append (undo ∷ first) later map =
    ap (λ (xs : List Val). slice_set xs undo.object undo.value) (set_back-append first later map)

module _ {L : Type 0} (holds : L → List Val → Type 0) where
  -- what was noted in one stretch and in the next one
  noted_twice : (k m n : Noting L) → HasNoted holds k m → HasNoted holds m n → HasNoted holds k n
  noted_twice k m n one two = record {
    keeps = two.keeps ∙ one.keeps;
    same = two.same ∙ one.same;
    noted = λ is.
        let a = one.noted is in
        let b = two.noted (ap (λ s. s.0) one.same ∙ is) in
        record {
          added = a.added ++ b.added;
          is = b.is ∙ ap (λ xs. xs ++ b.added) a.is ∙ append_assoc k.undos a.added b.added;
          narrows = λ map may. a.narrows map (b.narrows map may);
          back = λ map may.
              set_back-append a.added b.added (seen n.caller map)
              ∙ ap (set_back a.added) (b.back map may)
              ∙ a.back map (b.narrows map may);
        };
  }

  pub notes_on : (old new : Noting L) → HasNoted holds old new → Notes holds old new
  notes_on old new now first noted = noted_twice first old new noted now

  -- what a call has noted itself
  pub notes_by : (old new : Noting L) → Notes holds old new → HasNoted holds old new
  notes_by old new notes = notes old (record {
    keeps = refl;
    same = refl;
    noted = λ is. record {
      added = [];
      is = sym (append-nil old.undos);
      narrows = λ map may. may;
      back = λ map may. refl;
    };
  })

  -- nothing was set, and nothing noted
  pub notes_nothing : (old new : Noting L) → Keeps old.caller new.caller → settings new ≡ settings old → new.undos ≡ old.undos →
      SetsNothing holds old.caller new.caller → Notes holds old new
  notes_nothing old new keeps same undos unset = notes_on old new (record {
    keeps = keeps;
    same = same;
    noted = λ is. record {
      added = [];
      is = undos ∙ sym (append-nil old.undos);
      narrows = unset.narrows;
      back = λ map may. unset.same map;
    };
  })

  -- an object was set, and noted with what it had
  pub notes_one : (old new : Noting L) (o : ℕ) (had v : Val) → Keeps old.caller new.caller → settings new ≡ settings old →
      (old.notes ≡ true → new.undos ≡ old.undos ++ (record { object = o; value = had } ∷ [])) →
      Exchanges holds old.caller new.caller o had v → Notes holds old new
  notes_one old new o had v keeps same undos exchanges = notes_on old new (record {
    keeps = keeps;
    same = same;
    noted = λ is. record {
      added = record { object = o; value = had } ∷ [];
      is = undos is;
      narrows = exchanges.puts.narrows;
      back = λ map may.
          ap (λ (xs : List Val). slice_set xs o had) (exchanges.puts.puts map)
          ∙ set-set (seen old.caller map) o v had
          ∙ ap (slice_set (seen old.caller map) o) (sym (exchanges.value map may))
          ∙ set-get_or (seen old.caller map) o no_value;
    };
  })

  undoes_one : (first added left : List Undo) (undo : Undo) (k m n : Noting L) (had : Val) →
      Undoes holds first added (left ++ (undo ∷ [])) k m → n.undos ≡ first ++ left →
      Exchanges holds m.caller n.caller undo.object had undo.value → Undoes holds first added left k n
  undoes_one first added left undo k m n had so_far undos exchanges = record {
    is = undos;
    narrows = λ map may. so_far.narrows map (exchanges.puts.narrows map may);
    back = λ map may.
        ap (set_back left) (exchanges.puts.puts map)
        ∙ sym (set_back-append left (undo ∷ []) (seen m.caller map))
        ∙ so_far.back map (exchanges.puts.narrows map may);
  }

  -- the last one that was noted is set back
  pub undoes_step : (first added left : List Undo) (last : ℕ) (undo : Undo) (k m n : Noting L) (had : Val) →
      Undoes holds first added left k m → length m.undos ≡ last + 1 → length first ≤ last →
      undo ≡ get_or m.undos last undo → n.undos ≡ take last m.undos →
      Exchanges holds m.caller n.caller undo.object had undo.value → (rest : List Undo) × Undoes holds first added rest k n
  undoes_step first added left last undo k m n had so_far size within is undos exchanges =
      let rest = without_last first left last undo so_far.is size within is undos in (
        rest.0,
        undoes_one first added rest.0 undo k m n had
            (subst (λ (xs : List Undo). Undoes holds first added xs k m) rest.1 so_far) rest.2 exchanges,
      )

module _ {L : Type 0} (holds : L → List Val → Type 0) where
  -- the last one that was noted, behind the others
  pub last_noted : (undos : List Undo) (last : ℕ) (undo : Undo) → length undos ≡ last + 1 → undo ≡ get_or undos last undo →
      undos ≡ take last undos ++ (undo ∷ [])
  last_noted undos last undo size is =
      let (rest, all, fewer) = without_last [] undos last undo refl size (omega arith) is refl in
      all ∙ ap (λ xs. xs ++ (undo ∷ [])) (sym fewer)

  -- nothing was set back yet
  pub none_back : (undos : List Undo) (k : Caller L) → HasSetBack holds undos undos k k
  none_back undos k = record { back = []; are = sym (append-nil undos); each = refl }

  -- one more was
  pub one_back : (undos left fewer : List Undo) (last : ℕ) (undo : Undo) (k m n : Caller L) → HasSetBack holds undos left k m →
      length left ≡ last + 1 → undo ≡ get_or left last undo → fewer ≡ take last left →
      OpensAndSets holds undo.object m n → HasSetBack holds undos fewer k n
  one_back undos left fewer last undo k m n so_far size is less sets = record {
    back = undo ∷ so_far.back;
    are =
        so_far.are
        ∙ ap (λ xs. xs ++ so_far.back) (last_noted left last undo size is ∙ ap (λ xs. xs ++ (undo ∷ [])) (sym less))
        ∙ append_assoc fewer (undo ∷ []) so_far.back;
    each = (m, so_far.each, sets);
  }

  -- all behind the first ones were
  pub back_to : (undos left first added : List Undo) (kept : ℕ) (k n : Caller L) → HasSetBack holds undos left k n →
      undos ≡ first ++ added → length first ≡ kept → length left ≤ kept → kept ≤ length left → HasSetBack holds undos first k n
  back_to undos left first added kept k n so_far was size few many =
      subst (λ xs. HasSetBack holds undos xs k n)
      (sym (take-append_seam left so_far.back)
      ∙ ap (λ xs. take (length left) xs) (sym so_far.are ∙ was)
      ∙ ap (λ c. take c (first ++ added)) (omega (arith, size, few, many))
      ∙ take-append_seam first added) so_far

module _ {L : Type 0} (holds : L → List Val → Type 0) (k left m : Noting L) (first : HasNoted holds (in_alternative k) left)
    (off : m ≡ record left { notes = k.notes }) where
  -- the first alternative of a call has noted what it set
  pub first_notes : HasNoted holds k m
  first_notes =
      let it = first.noted refl in
      subst (HasNoted holds k) (sym off) (record {
        keeps = first.keeps;
        same = ap (λ (s : Bool × ℕ). (k.notes, s.1)) first.same;
        noted = λ is. record { added = it.added; is = it.is; narrows = it.narrows; back = it.back };
      })

  at_call : {A : Type 0} (part : Noting L → A) → part m ≡ part (record left { notes = k.notes })
  at_call part = ap part off

  -- what was noted before, and by it
  pub first_undos : m.undos ≡ k.undos ++ (first.noted refl).added
  first_undos = at_call (λ x. x.undos) ∙ (first.noted refl).is

  before : (map : List Val) → MayBegin holds m.caller map → MayBegin holds k.caller map
  before map may = (first.noted refl).narrows map (subst (λ (x : Noting L). MayBegin holds x.caller map) off may)

  back : (map : List Val) → MayBegin holds m.caller map →
      set_back (first.noted refl).added (seen m.caller map) ≡ seen k.caller map
  back map may =
      ap (λ (x : Noting L). set_back (first.noted refl).added (seen x.caller map)) off
      ∙ (first.noted refl).back map (subst (λ (x : Noting L). MayBegin holds x.caller map) off may)

  module _ (n : Noting L) (keeps : Keeps m.caller n.caller) (same : settings n ≡ settings m) where
    -- undoing it has stopped
    pub first_left : (rest : List Undo) → Undoes holds k.undos (first.noted refl).added rest m n → HasNoted holds k n
    first_left rest undoes = record {
      keeps = keeps ∙ first_notes.keeps;
      same = same ∙ first_notes.same;
      noted = λ is. record {
        added = rest;
        is = undoes.is;
        narrows = λ map may. before map (undoes.narrows map may);
        back = λ map may. undoes.back map may ∙ back map (undoes.narrows map may);
      };
    }

    -- it is undone
    pub first_undone : Undoes holds k.undos (first.noted refl).added [] m n → IsUndone holds k n
    first_undone undoes =
        let it = first_left [] undoes in
        record {
          keeps = it.keeps;
          settings = it.same;
          undos = undoes.is ∙ append-nil k.undos;
          narrows = λ map may. before map (undoes.narrows map may);
          same = λ map may. undoes.back map may ∙ back map (undoes.narrows map may);
        }

-- what is undone is noted
pub undone_notes : {L : Type 0} (holds : L → List Val → Type 0) (k n : Noting L) → IsUndone holds k n → Notes holds k n
undone_notes holds k n undone = notes_on holds k n (record {
  keeps = undone.keeps;
  same = undone.settings;
  noted = λ is. record {
    added = [];
    is = undone.undos ∙ sym (append-nil k.undos);
    narrows = undone.narrows;
    back = undone.same;
  };
})
