-- What the calls on a pool do, by what they read and write.
use Rattle.std.proofs.Common.{◌≡◌, ◌∙◌, ◌++◌, ℕ, suc, ◌+◌, ◌*◌, ◌<◌, ◌≤◌, ◌==◌, Bool, true, false, List, [], ◌∷◌, ap, arith, length, length-set, get_or-set_same, get_or-set_other, refl, sym, subst, slice_set, ◌⊎◌, inl, inr}
use Rattle.std.specs.Prelude.{Option, None, Some, replicate}
use Rattle.std.proofs.lemmas.Bool.{cases_eq}
use Rattle.std.proofs.lemmas.List.{get_or-append-add, get_or-replicate}
use Rattle.dstm_cells.specs.declared.cell.Cell.{Cell}
use Rattle.dstm_model.specs.declared.value.Val.{Val}
use Rattle.dstm_model.specs.Map.{no_value, value_at}
use Rattle.dstm_tables.specs.declared.tables.Caller.{Caller}
use Rattle.dstm_attempts.specs.Attempts.{Opens}
use Rattle.dstm_structures.specs.Circles.{behind, held_from}
use Rattle.dstm_structures.specs.Effects.{OpensEach}
use Rattle.dstm_structures.specs.Pools.{Adds, Gives, OpensToGive, OpensToSeek, OpensToTake, Seeks, Takes, cell_at, end_of, is_mark, is_taken, mark_at, marks_from}
use Rattle.dstm_structures.specs.declared.pool.Pool.{Pool}
use Rattle.dstm_structures.proofs.Circles.{held-more}
use Rattle.dstm_structures.proofs.Doing.{Reads, Writes}
use Rattle.dstm_structures.proofs.Mapping.{made-cells}
use Rattle.dstm_structures.proofs.Places.{distance}

-- ---- what is opened

module _ {L : Type 0} (holds : L → List Val → Type 0) where
  pub opens-more : (xs : List (Bool × ℕ)) (x : Bool × ℕ) (k m n : Caller L) → OpensEach holds xs k m →
      Opens holds x.0 x.1 m n → OpensEach holds (xs ++ (x ∷ [])) k n
  opens-more [] x k m n is opens = (n, subst (λ (c : Caller L). Opens holds x.0 x.1 c n) is opens, refl)
  opens-more (y ∷ xs) x k m n (mid, first, later) opens = (mid, first, opens-more xs x mid m n later opens)

  pub opens-two-more : (xs : List (Bool × ℕ)) (x y : Bool × ℕ) (k m l n : Caller L) → OpensEach holds xs k m →
      Opens holds x.0 x.1 m l → Opens holds y.0 y.1 l n → OpensEach holds (xs ++ (x ∷ y ∷ [])) k n
  opens-two-more [] x y k m l n is one two =
      (l, subst (λ (c : Caller L). Opens holds x.0 x.1 c l) is one, (n, two, refl))
  opens-two-more (z ∷ xs) x y k m l n (mid, first, later) one two =
      (mid, first, opens-two-more xs x y mid m l n later one two)

module _ {T : Type 0} (pool : Pool T) where
  abbrev n : ℕ
  n = pool.cells.capacity

  abbrev f : ℕ
  f = pool.cells.first

  module _ {L : Type 0} (holds : L → List Val → Type 0) (start : ℕ) (k m l : Caller L) where
    -- a mark more
    pub opens-mark : {at o : ℕ} (passed : ℕ) → start < n → passed < n → at ≡ behind n start passed → o ≡ mark_at pool at →
        OpensEach holds (marks_from pool start passed) k m → Opens holds false o m l →
        OpensEach holds (marks_from pool start (passed + 1)) k l
    opens-mark {at} {o} passed here few at_is o_is opened opens =
        let mark : ℕ → Bool × ℕ = λ p. (false, mark_at pool p) in
        let last : Bool × ℕ = mark (behind n start passed) in
        let o_at : o ≡ mark_at pool (behind n start passed) = o_is ∙ ap (mark_at pool) at_is in
        let more : held_from n mark start (suc passed) ≡ held_from n mark start passed ++ (last ∷ []) =
        held-more n mark mark start passed last here few refl (λ p below apart. refl) in
        let one : passed + 1 ≡ suc passed = omega arith in
        subst (λ (xs : List (Bool × ℕ)). OpensEach holds xs k l) (sym (ap (held_from n mark start) one ∙ more))
        (opens-more holds (marks_from pool start passed) last k m l opened
        (subst (λ (x : ℕ). Opens holds false x m l) o_at opens))

    pub opens-found : {at o : ℕ} (passed : ℕ) → start < n → passed < n → at ≡ behind n start passed → o ≡ mark_at pool at →
        OpensEach holds (marks_from pool start passed) k m → Opens holds false o m l →
        OpensToSeek pool holds start (Some at) k l
    opens-found passed here few at_is o_is opened opens =
        (passed, few, at_is, opens-mark passed here few at_is o_is opened opens)

  module _ {L : Type 0} (holds : L → List Val → Type 0) (start : ℕ) (k m : Caller L) where
    -- all marks
    pub opens-all : (passed : ℕ) → passed ≡ n → OpensEach holds (marks_from pool start passed) k m →
        OpensToSeek pool holds start None k m
    opens-all passed all opened = subst (λ (x : ℕ). OpensEach holds (marks_from pool start x) k m) all opened

    -- no cell was found
    pub opens-none : {place : Option ℕ} → place ≡ None → OpensToSeek pool holds start place k m →
        OpensToTake pool holds start None k m
    opens-none is opened = subst (λ (o : Option ℕ). OpensToSeek pool holds start o k m) is opened

    -- one was, and its mark and the cell are set
    pub opens-taken : {at o : ℕ} {place : Option ℕ} {cell : Cell T} (l e : Caller L) → place ≡ Some at →
        o ≡ mark_at pool at → cell.object ≡ cell_at pool at → OpensToSeek pool holds start place k m →
        Opens holds true o m l → Opens holds true cell.object l e → OpensToTake pool holds start (Some cell) k e
    opens-taken {at} {o} {cell = cell} l e is o_is cell_is opened one two =
        let (passed, few, at_is, all) = subst (λ (p : Option ℕ). OpensToSeek pool holds start p k m) is opened in (
          passed,
          few,
          cell_is ∙ ap (cell_at pool) at_is,
          opens-two-more holds (marks_from pool start (passed + 1)) (true, mark_at pool (behind n start passed))
              (true, cell.object) k m l e all
              (subst (λ (x : ℕ). Opens holds true x m l) (o_is ∙ ap (mark_at pool) at_is) one) two,
        )

  module _ {L : Type 0} (holds : L → List Val → Type 0) (k m : Caller L) where
    pub opens-look : {at o : ℕ} → at < n → o ≡ mark_at pool at → Opens holds false o k m →
        OpensToGive pool holds false k m
    opens-look {at} within o_is one = (at, within, (m, subst (λ (x : ℕ). Opens holds false x k m) o_is one, refl))

    pub opens-given : {at o p : ℕ} (l : Caller L) → at < n → o ≡ mark_at pool at → p ≡ mark_at pool at →
        Opens holds false o k m → Opens holds true p m l → OpensToGive pool holds true k l
    opens-given {at} l within o_is p_is one two = (
      at,
      within,
      (
        m,
        subst (λ (x : ℕ). Opens holds false x k m) o_is one,
        (l, subst (λ (x : ℕ). Opens holds true x m l) p_is two, refl),
      ),
    )

  -- ---- the search for a cell

  -- so many places from one on were looked at, and their cells are taken
  pub record Passing (start passed : ℕ) (before after : List Val) : Type 0 where
    pub taken : (j : ℕ) → j < passed → is_taken pool before (behind n start j) ≡ true
    pub same : after ≡ before

  pub pass-start : (start : ℕ) (values : List Val) → Passing start 0 values values
  pass-start start values = record { taken = λ j below. absurd (omega (arith, below)); same = refl }

  -- a mark was read
  mark-read : (at o : ℕ) (mark : Bool) (before mid after : List Val) → o ≡ mark_at pool at → mid ≡ before →
      Reads is_mark o mark mid after → mark ≡ is_taken pool before at
  mark-read at o mark before mid after o_is same reads =
      reads.is ∙ ap (λ (x : ℕ). is_mark (value_at mid x)) o_is
      ∙ ap (λ (xs : List Val). is_taken pool xs at) same

  module _ (start passed at o : ℕ) (mark : Bool) (before mid after : List Val) (at_is : at ≡ behind n start passed)
      (o_is : o ≡ mark_at pool at) (p : Passing start passed before mid) (reads : Reads is_mark o mark mid after) where
    looked : is_taken pool before at ≡ mark
    looked = sym (mark-read at o mark before mid after o_is p.same reads)

    pub pass-found : passed < n → mark ≡ false → Seeks pool start (Some at) before after
    pass-found few it = record {
      first = record { passed = passed; few = few; is = at_is; free = looked ∙ it; taken = p.taken };
      same = reads.same ∙ p.same;
    }

    pub pass-next : mark ≡ true → Passing start (passed + 1) before after
    pass-next it = record {
      taken = λ j below. each j below (cases_eq j passed);
      same = reads.same ∙ p.same;
    }
      where
        each : (j : ℕ) → j < passed + 1 → (j ≡ passed) ⊎ (j ≡ passed → ⊥) → is_taken pool before (behind n start j) ≡ true
        each j below (inl last) =
            ap (λ (x : ℕ). is_taken pool before (behind n start x)) last ∙ ap (is_taken pool before) (sym at_is) ∙ looked ∙ it
        each j below (inr apart) = p.taken j (omega (arith, below, apart))

  pub pass-all : (start passed : ℕ) (before after : List Val) → start < n → n ≤ passed → Passing start passed before after →
      Seeks pool start None before after
  pass-all start passed before after here end p = record {
    all = λ at within.
        let (j, few, is) = distance n start at here within in
        ap (is_taken pool before) (sym is) ∙ p.taken j (omega (arith, few, end));
    same = p.same;
  }

  -- ---- what is set

  -- a mark was set
  module _ (at o : ℕ) (had now : Bool) (before after : List Val) (size : end_of pool ≤ length before) (here : at < n)
      (o_is : o ≡ mark_at pool at) (writes : Writes is_mark o had now before after) where
    marked : after ≡ slice_set before (mark_at pool at) writes.kept
    marked = writes.after_is ∙ ap (λ (x : ℕ). slice_set before x writes.kept) o_is

    mark-is : is_taken pool after at ≡ now
    mark-is =
        ap (λ (xs : List Val). is_taken pool xs at) marked
        ∙ ap is_mark (get_or-set_same before (mark_at pool at) writes.kept no_value (omega (arith, size, here)))
        ∙ writes.is

    mark-others : (x : ℕ) → (x ≡ mark_at pool at → ⊥) → value_at after x ≡ value_at before x
    mark-others x apart =
        ap (λ (xs : List Val). value_at xs x) marked
        ∙ get_or-set_other before (mark_at pool at) x writes.kept no_value apart

  -- a cell is taken
  pub takes-cell : (found : Val → T) (start at o : ℕ) (cell : Cell T) (had : Bool) (was value : T)
      (before mid near after : List Val) → end_of pool ≤ length before → at < n → o ≡ mark_at pool at →
      cell.object ≡ cell_at pool at → Seeks pool start (Some at) before mid → Writes is_mark o had true mid near →
      Writes found cell.object was value near after → Takes pool found start value (Some cell) before after
  takes-cell found start at o cell had was value before mid near after size here o_is cell_is seeks marks puts = record {
    at = at;
    within = here;
    cell_is = cell_is;
    first = seeks.first;
    is = ap is_mark (kept (mark_at pool at) (λ e. omega (arith, e, here))) ∙ mark-is at o had true mid near wide here o_is marks;
    holds = ap found (ap (λ (xs : List Val). value_at xs (cell_at pool at)) whole
        ∙ get_or-set_same near (cell_at pool at) puts.kept no_value (omega (arith, wider, here))) ∙ puts.is;
    others = λ x no_mark no_cell.
        kept x no_cell ∙ mark-others at o had true mid near wide here o_is marks x no_mark
        ∙ ap (λ (xs : List Val). value_at xs x) seeks.same;
  }
    where
      wide : end_of pool ≤ length mid
      wide = subst (λ (xs : List Val). end_of pool ≤ length xs) (sym seeks.same) size

      long : length near ≡ length mid
      long =
          ap (length {A = Val}) (marked at o had true mid near wide here o_is marks)
          ∙ length-set mid (mark_at pool at) marks.kept

      wider : end_of pool ≤ length near
      wider = omega (arith, wide, long)

      whole : after ≡ slice_set near (cell_at pool at) puts.kept
      whole = puts.after_is ∙ ap (λ (x : ℕ). slice_set near x puts.kept) cell_is

      kept : (x : ℕ) → (x ≡ cell_at pool at → ⊥) → value_at after x ≡ value_at near x
      kept x apart =
          ap (λ (xs : List Val). value_at xs x) whole
          ∙ get_or-set_other near (cell_at pool at) x puts.kept no_value apart

  -- a cell is given back
  pub gives-cell : (at o p object : ℕ) (taken had : Bool) (before mid after : List Val) → end_of pool ≤ length before →
      at < n → object ≡ cell_at pool at → o ≡ mark_at pool at → p ≡ mark_at pool at → taken ≡ true →
      Reads is_mark o taken before mid → Writes is_mark p had false mid after → Gives pool object true before after
  gives-cell at o p object taken had before mid after size here is o_is p_is it reads writes = record {
    at = at;
    within = here;
    cell_is = is;
    was = sym (mark-read at o taken before before mid o_is refl reads) ∙ it;
    is = mark-is at p had false mid after wide here p_is writes;
    others = λ x apart.
        mark-others at p had false mid after wide here p_is writes x apart
        ∙ ap (λ (xs : List Val). value_at xs x) reads.same;
  }
    where
      wide : end_of pool ≤ length mid
      wide = subst (λ (xs : List Val). end_of pool ≤ length xs) (sym reads.same) size

  pub gives-none : (at o object : ℕ) (taken : Bool) (before after : List Val) → object ≡ cell_at pool at →
      o ≡ mark_at pool at → taken ≡ false → Reads is_mark o taken before after → Gives pool object false before after
  gives-none at o object taken before after is o_is it reads = record {
    free = λ place here place_is.
        let same : place ≡ at = omega (arith, is, place_is) in
        ap (is_taken pool before) same ∙ sym (mark-read at o taken before before after o_is refl reads) ∙ it;
    same = reads.same;
  }

  pub gives-foreign : (o object : ℕ) (mark : Bool) (before after : List Val) →
      (object < f) ⊎ (f + n ≤ object) → Reads is_mark o mark before after → Gives pool object false before after
  gives-foreign o object mark before after (inl low) reads = record {
    free = λ place here place_is. absurd (omega (arith, low, place_is));
    same = reads.same;
  }
  gives-foreign o object mark before after (inr high) reads = record {
    free = λ place here place_is. absurd (omega (arith, high, here, place_is));
    same = reads.same;
  }

  -- a pool is made
  pub makes : (cells : ℕ) (kept : Val) (before after : List Val) → after ≡ before ++ replicate cells kept →
      kept.low ≡ 0 → f ≡ length before → cells ≡ 2 * n → Adds pool before after
  makes cells kept before after whole low start count = record {
    cells = made-cells cells kept whole start count;
    free = λ at here.
        ap (λ (xs : List Val). is_taken pool xs at) whole
        ∙ ap (λ (x : ℕ). is_mark (value_at (before ++ replicate cells kept) x)) (place at)
        ∙ ap is_mark (get_or-append-add before (replicate cells kept) (n + at) no_value
        ∙ get_or-replicate cells (n + at) kept no_value (omega (arith, here, count)))
        ∙ ap (λ (x : ℕ). x == 1) low;
  }
    where
      place : (at : ℕ) → mark_at pool at ≡ length before + (n + at)
      place at = omega (arith, start)
