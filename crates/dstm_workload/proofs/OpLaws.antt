-- The operations of a transaction: what is read is what is written.
use Rattle.std.proofs.Common.{◌≡◌, ℕ, zero, suc, ◌+◌, ◌<◌, ◌≤◌, Bool, true, false, not, List, [], ◌∷◌, ◌++◌, length}
use Rattle.std.proofs.Common.{All, ◌&&◌, cond, Option, Some, Ok, codes, refl, sym, ap, ◌∙◌, ◌↔◌, arith, append_assoc}
use Rattle.std.proofs.Common.{length-append}
use Rattle.std.specs.List.{AllByRecursion}
use Rattle.std.proofs.lemmas.{Bool.lt-ltb, Bool.Decides.nat_tests, List.Elements.All-head, List.Elements.All-tail}
use Rattle.std.proofs.lemmas.List.Elements.{All-from_recursion, recursion_from_All, All-nil, All-cons, All-weaker}
use Rattle.dstm_model.specs.{declared.op.Op.Op, Layout.FitsLayout, Job.branches_of, Job.onto_first}
use Rattle.dstm_model.specs.declared.op.Op.TheVariants as op
use Rattle.dstm_workload.specs.declared.{word.Word.Word, known.Known.Known, operations.Separator.Separator}
use Rattle.dstm_workload.specs.declared.word.Word.TheVariants as word
use Rattle.dstm_workload.specs.declared.operations.Separator.TheVariants as separator
use Rattle.dstm_workload.specs.Workload.{HasOp, HasValue, IsNoAwait, IsBranch, AreOperations}
use Rattle.dstm_workload.specs.Words.{since, spelling, word_of}
use Rattle.dstm_workload.specs.Known.{IsKnown, layout_of}
use Rattle.dstm_workload.specs.Operations.{op_at, next_of, next_at, ops_from, ops_at}
use Rattle.dstm_workload.specs.Writing.{fields_of_op, is_orelse, semicolon, fields_of_ops}
use Rattle.dstm_workload.proofs.OpsLoop.{onward}
use Rattle.dstm_workload.proofs.ReadLaws.{bind_ok, same_Ok, word_ok, word_again}
use Rattle.dstm_workload.proofs.TableLaws.{IsOp, op_again, op_ok, op_fields}
use Rattle.dstm_workload.proofs.LinesAgain.{IsField, all_both}

-- ---- branches

-- branches, of which the first one may have begun before
abbrev pub AreBranches : Bool → List (List Op) → Type 0
AreBranches true branches = AllByRecursion IsBranch branches
AreBranches false [] = Unit {0}
AreBranches false (branch ∷ branches) = All IsNoAwait branch × AllByRecursion IsBranch branches

onto : (first : Bool) (o : Op) (branches : List (List Op)) →
    AreBranches first (onto_first o branches) ↔ ((first ≡ false → IsNoAwait o) × AreBranches false branches)
onto true o [] = search (All-nil IsNoAwait, arith)
onto false o [] = (
  λ are. ((λ is. All-head IsNoAwait o [] are.0), tt),
  λ are. (All-cons IsNoAwait o [] (are.0 refl) (All-nil IsNoAwait), tt),
)
onto true o (branch ∷ branches) = (λ are. (λ is. cc, are), λ are. are.1)
onto false o (branch ∷ branches) = (
  λ are. ((λ is. All-head IsNoAwait o branch are.0), (All-tail IsNoAwait o branch are.0, are.1)),
  λ are. (All-cons IsNoAwait o branch (are.0 refl) are.1.0, are.1.1),
)

branches_cons : (o : Op) (ops : List Op) → is_orelse o ≡ false → branches_of (o ∷ ops) ≡ onto_first o (branches_of ops)
branches_cons o ops alone = grind arith

-- ---- operations that may stand here

module _ (version : ℕ) (low : 1 ≤ version) (known : Known) (valid : IsKnown known) where
  record IsFine (o : Op) : Type 0 where
    fits : FitsLayout (layout_of known) o
    has : HasOp version o
    value : HasValue o

  abbrev AreFine : List Op → Type 0
  AreFine ops = AllByRecursion IsFine ops

  -- operations from a place where one is due; the first of them may begin a branch
  data Due : Bool → List Op → Type 0 where
    last : {first : Bool} (o : Op) → IsOp version known first o → Due first (o ∷ [])
    then : {first : Bool} (o : Op) (more : List Op) → IsOp version known first o → Due false more → Due first (o ∷ more)
    orelse : {first : Bool} (o : Op) (more : List Op) → IsOp version known first o → 3 ≤ version → Due true more →
        Due first (o ∷ op.OrElse ∷ more)

  fine : {first : Bool} {ops : List Op} → Due first ops → AreFine ops
  fine (last o is) = search
  fine (then o more is due) = let rest = fine due in search
  fine (orelse o more is newest due) = let rest = fine due in search

  are : {first : Bool} {ops : List Op} → Due first ops → AreBranches first (branches_of ops)
  are {first} (last o is) =
      rw (branches_cons o [] is.alone) ((onto first o ([] ∷ [])).1 (is.awaits, (All-nil IsNoAwait, tt)))
  are {first} (then o more is due) =
      rw (branches_cons o more is.alone) ((onto first o (branches_of more)).1 (is.awaits, are due))
  are {first} (orelse o more is newest due) =
      rw (branches_cons o (op.OrElse ∷ more) is.alone)
      ((onto first o ([] ∷ branches_of more)).1 (is.awaits, (All-nil IsNoAwait, are due)))

  -- the first operation, and the branches behind it
  cut : (first : Bool) (o : Op) (ops : List Op) → is_orelse o ≡ false → AreFine (o ∷ ops) →
      AreBranches first (branches_of (o ∷ ops)) → IsOp version known first o × AreBranches false (branches_of ops)
  cut first o ops alone fine are =
      let parts = (onto first o (branches_of ops)).0 (rw (← branches_cons o ops alone) are) in search

  due : (first : Bool) (o : Op) (ops : List Op) → is_orelse o ≡ false → AreFine (o ∷ ops) →
      AreBranches first (branches_of (o ∷ ops)) → Due first (o ∷ ops)
  due first o [] alone fine are = last o (cut first o [] alone fine are).0
  due first o (op.OrElse ∷ []) alone fine are = absurd (cut first o (op.OrElse ∷ []) alone fine are).1.1.0
  due first o (op.OrElse ∷ op.OrElse ∷ ops) alone fine are =
      absurd (cut first o (op.OrElse ∷ op.OrElse ∷ ops) alone fine are).1.1.0
  due first o (op.OrElse ∷ p ∷ ops) alone fine are =
      let parts = cut first o (op.OrElse ∷ p ∷ ops) alone fine are in
      orelse o (p ∷ ops) parts.0 fine.1.0.has (due true p ops refl fine.1.1 parts.1.1)
  due first o (p ∷ ops) alone fine are =
      let parts = cut first o (p ∷ ops) alone fine are in
      then o (p ∷ ops) parts.0 (due false p ops refl fine.1 parts.1)

  -- the same, as the public definition has it
  operations_from : {ops : List Op} → Due true ops → length ops ≤ 8 → AreOperations version (layout_of known) ops
  operations_from {ops} due few =
      let all = All-from_recursion IsFine ops (fine due) in
      record {
        few = few;
        fits = All-weaker IsFine (FitsLayout (layout_of known)) (λ o is. is.fits) ops all;
        have = All-weaker IsFine (HasOp version) (λ o is. is.has) ops all;
        values = All-weaker IsFine HasValue (λ o is. is.value) ops all;
        branches = All-from_recursion IsBranch (branches_of ops) (are due);
      }

  due_from : (ops : List Op) → AreOperations version (layout_of known) ops → Due true ops
  due_from ops is = begun ops
      (recursion_from_All IsFine ops (λ k d lt. record
      { fits = is.fits k d lt; has = is.have k d lt; value = is.values k d lt }))
      (recursion_from_All IsBranch (branches_of ops) is.branches)
    where
      begun : (os : List Op) → AreFine os → AreBranches true (branches_of os) → Due true os
      begun [] fine are = absurd are.0
      begun (op.OrElse ∷ os) fine are = absurd are.0
      begun (o ∷ os) fine are = due true o os refl fine are

  -- ---- operations are read as they were written

  -- there are some, and their fields behind an operation
  behind : {first : Bool} {more : List Op} → Due first more →
      (0 < length more) × (fields_of_ops true more ≡ codes ";" ∷ fields_of_ops false more)
  behind (last o is) = (omega arith, rw is.alone)
  behind (then o more is later) = (omega arith, rw is.alone)
  behind (orelse o more is newest later) = (omega arith, rw is.alone)

  due_again : (left : ℕ) (ops : List Op) {first : Bool} {more : List Op} → Due first more →
      length ops + length more ≤ 8 → length more ≤ left →
      ops_from version known left ops first (fields_of_ops false more) ≡ Ok (ops ++ more)
  unfolding ops_from next_at
  due_again zero ops is few room = let some = (behind is).0 in absurd (omega arith)
  due_again (suc left) ops {first} (last o is) few room = rw (op_again version low known valid first [] o is)
  due_again (suc left) ops {first} (then o more is later) few room =
      let longer = length-append ops (o ∷ []) in
      let next = behind later in
      rw (
        is.alone,
        next.1,
        op_again version low known valid first (codes ";" ∷ fields_of_ops false more) o is,
        word_again version word.Semicolon low,
        lt-ltb (length (ops ++ o ∷ [])) 8 (omega arith),
        due_again left (ops ++ o ∷ []) later (omega arith) (omega arith),
      ) (simp append_assoc)
  due_again (suc left) ops {first} (orelse o more is newest later) few room =
      let longer = length-append ops (o ∷ []) in
      let longest = length-append (ops ++ o ∷ []) (op.OrElse ∷ []) in
      let some = (behind later).0 in
      rw (
        is.alone,
        op_again version low known valid first (codes "orelse" ∷ fields_of_ops false more) o is,
        word_again version word.OrElse newest,
        lt-ltb (length (ops ++ o ∷ []) + 1) 8 (omega arith),
        due_again left ((ops ++ o ∷ []) ++ op.OrElse ∷ []) later (omega arith) (omega arith),
      ) (simp append_assoc)

  -- ---- and what is read was written

  -- the fields of a separator, and the room for what it brings
  abbrev Separates : ℕ → List (List ℕ) → Separator × List (List ℕ) → Type 0
  Separates done fields (separator.End, rest) = fields ≡ []
  Separates done fields (separator.Then, rest) = (done < 8) × (fields ≡ codes ";" ∷ rest)
  Separates done fields (separator.OrElse, rest) = (done + 1 < 8) × (3 ≤ version) × (fields ≡ codes "orelse" ∷ rest)

  next_word : (done : ℕ) (field : List ℕ) (fields : List (List ℕ)) (w : Option Word) (x : Separator × List (List ℕ)) →
      ((v : Word) → w ≡ Some v → (since v ≤ version) × (field ≡ spelling v)) →
      next_of done fields w ≡ Ok x → Separates done (field ∷ fields) x
  next_word done field fields w x spelled is = grind (arith, nat_tests, spelled word.Semicolon, spelled word.OrElse)

  next_ok : (done : ℕ) (fields : List (List ℕ)) (x : Separator × List (List ℕ)) →
      next_at version done fields ≡ Ok x → Separates done fields x
  unfolding next_at
  next_ok done [] x is = grind arith
  next_ok done (field ∷ fields) x is =
      next_word done field fields (word_of version field) x (λ v w. word_ok version field v w) is

  -- operations behind these, to which the fields belong
  record Reads (ops : List Op) (first : Bool) (fields : List (List ℕ)) (all : List Op) : Type 0 where
    more : List Op
    due : Due first more
    whole : all ≡ ops ++ more
    few : length all ≤ 8
    these : fields ≡ fields_of_ops false more

  onward_ok : (left : ℕ) (ops : List Op) (first : Bool) (fields : List (List ℕ)) (all : List Op) (o : Op)
      (rest : List (List ℕ)) (s : Separator × List (List ℕ)) → length ops < 8 →
      ((os : List Op) (begins : Bool) → length os < 8 → ops_from version known left os begins s.1 ≡ Ok all →
      Reads os begins s.1 all) →
      IsOp version known first o → fields ≡ fields_of_op o ++ rest → Separates (length (ops ++ o ∷ [])) rest s →
      onward version known left (ops ++ o ∷ []) s ≡ Ok all → Reads ops first fields all
  onward_ok left ops first fields all o rest (separator.End, after) room go this here next is =
      let same = same_Ok (ops ++ o ∷ []) all is in
      record {
        more = o ∷ [];
        due = last o this;
        whole = sym same;
        few = omega (arith, ap length same, length-append ops (o ∷ []));
        these = here ∙ rw next;
      }
  onward_ok left ops first fields all o rest (separator.Then, after) room go this here next is =
      let r = go (ops ++ o ∷ []) false next.0 is in
      record {
        more = o ∷ r.more;
        due = then o r.more this r.due;
        whole = r.whole ∙ append_assoc ops (o ∷ []) r.more;
        few = r.few;
        these = here ∙ rw (next.1, this.alone, (behind r.due).1, ← r.these);
      }
  onward_ok left ops first fields all o rest (separator.OrElse, after) room go this here next is =
      let r = go ((ops ++ o ∷ []) ++ op.OrElse ∷ []) true
      (omega (arith, next.0, length-append (ops ++ o ∷ []) (op.OrElse ∷ []))) is in
      record {
        more = o ∷ op.OrElse ∷ r.more;
        due = orelse o r.more this next.1 r.due;
        whole = r.whole ∙ append_assoc (ops ++ o ∷ []) (op.OrElse ∷ []) r.more
            ∙ append_assoc ops (o ∷ []) (op.OrElse ∷ r.more);
        few = r.few;
        these = here ∙ rw (next.2, this.alone, ← r.these);
      }

  ops_ok : (left : ℕ) (ops : List Op) (first : Bool) (fields : List (List ℕ)) (all : List Op) → length ops < 8 →
      ops_from version known left ops first fields ≡ Ok all → Reads ops first fields all
  unfolding ops_from
  ops_ok zero ops first fields all room is = cc
  ops_ok (suc left) ops first fields all room is =
      let o = bind_ok (op_at version known first fields) _ all is in
      let these = ops ++ o.0.0 ∷ [] in
      let n = bind_ok (next_at version (length these) o.0.1) (onward version known left these) all o.2 in
      let this = op_ok version low known valid first fields o.0 o.1 in
      let go = λ (os : List Op) (begins : Bool). ops_ok left os begins n.0.1 all in
      let next = next_ok (length these) o.0.1 n.0 n.1 in
      onward_ok left ops first fields all o.0.0 o.0.1 n.0 room go this.0 this.1 next n.2

  -- ---- the law

  pub ops_again : (ops : List Op) → AreOperations version (layout_of known) ops →
      ops_at version known (fields_of_ops false ops) ≡ Ok ops
  ops_again ops is = due_again 8 [] (due_from ops is) (omega (arith, is.few)) is.few

  pub ops_read : (fields : List (List ℕ)) (ops : List Op) → ops_at version known fields ≡ Ok ops →
      (fields ≡ fields_of_ops false ops) × AreOperations version (layout_of known) ops
  ops_read fields ops is =
      let r = ops_ok 8 [] true fields ops (omega arith) is in
      rw r.whole (r.these, operations_from r.due (rw (← r.whole) r.few))

  -- ---- their fields

  all_fields : (behind : Bool) (ops : List Op) → AreFine ops → AllByRecursion IsField (fields_of_ops behind ops)
  all_fields behind [] fine = tt
  all_fields behind (o ∷ ops) fine =
      all_both IsField (semicolon behind o) (fields_of_op o ++ fields_of_ops (not (is_orelse o)) ops)
      (semicolon_fields (behind && not (is_orelse o)))
      (all_both IsField (fields_of_op o) (fields_of_ops (not (is_orelse o)) ops)
      (op_fields version low known valid o fine.0.fits fine.0.value)
      (all_fields (not (is_orelse o)) ops fine.1))
    where
      semicolon_fields : (b : Bool) → AllByRecursion IsField (cond b (codes ";" ∷ []) [])
      semicolon_fields true = ((omega arith, refl), tt)
      semicolon_fields false = tt

  pub ops_fields : (ops : List Op) → AreOperations version (layout_of known) ops →
      AllByRecursion IsField (fields_of_ops false ops)
  ops_fields ops is = all_fields false ops (fine (due_from ops is))
