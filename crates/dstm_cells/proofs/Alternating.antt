-- What is known where the first of two alternatives has been called.
use Rattle.std.proofs.Common.{◌≡◌, ◌++◌, ◌∙◌, Bool, List, [], ap, length, refl, subst, sym, ℕ}
use Rattle.std.specs.Prelude.{Result}
use denote.Ref.{MutBor}
use Rattle.std.specs.Fn.{FnOnceReturnsAtMut, Once}
use Rattle.dstm_model.specs.declared.value.Val.{Val}
use Rattle.dstm_cells.specs.Alternatives.{CalledOn, HasNoted, HasSetBack, IsUndone, Noting, Notes, NotesOnce, Undoes, in_alternative, settings}
use Rattle.dstm_cells.specs.UnderWay.{Keeps, MayBegin}
use Rattle.dstm_cells.specs.declared.error.Stop.{Stop}
use Rattle.dstm_cells.specs.declared.under_way.Undo.{Undo}
use Rattle.dstm_cells.proofs.Undoing.{first_left, first_notes, first_undone, first_undos, notes_by, notes_on}

module _ {X L F R : Type 0} (noting : X → Noting L)
    (g : Once F (MutBor X × Unit {0}) (Result R Stop × (MutBor X × Unit {0}))) (f : F) where
  -- the first alternative was called on a, and answered this and left b, and it goes on with m
  pub record First (x a b m : X) (answer : Result R Stop) : Type 0 where
    pub on : noting a ≡ in_alternative (noting x)
    pub call : FnOnceReturnsAtMut g f a answer b
    pub before : Bool
    pub same : before ≡ (noting x).notes
    pub off : noting m ≡ record (noting b) { notes = before }

  module _ (holds : L → List Val → Type 0) (x a b m : X) (answer : Result R Stop) (it : First x a b m answer) where
    pub called : CalledOn noting g f (in_alternative (noting x)) answer (noting b)
    called = record { began = a; at = it.on; ended = b; returns = it.call; leaves = refl }

    pub leaves : noting m ≡ record (noting b) { notes = (noting x).notes }
    leaves = it.off ∙ ap (λ v. record (noting b) { notes = v }) it.same

    module _ (first : NotesOnce noting g f holds) where
      notes : HasNoted holds (in_alternative (noting x)) (noting b)
      notes = subst (λ k. HasNoted holds k (noting b)) it.on (notes_by holds (noting a) (noting b) (first a b answer it.call))

      pub left_notes : Notes holds (noting x) (noting m)
      left_notes = notes_on holds (noting x) (noting m) (first_notes holds (noting x) (noting b) (noting m) notes leaves)

      module _ (n : X) (kept : ℕ) (size : kept ≡ length (noting x).undos) (keeps : Keeps (noting m).caller (noting n).caller)
          (same : settings (noting n) ≡ settings (noting m)) where
        pub undone : ((front added : List Undo) → (noting m).undos ≡ front ++ added → length front ≡ kept →
            Undoes holds front added [] (noting m) (noting n)) → IsUndone holds (noting x) (noting n)
        undone undoes =
            first_undone holds (noting x) (noting b) (noting m) notes leaves (noting n) keeps same
            (undoes (noting x).undos _ (first_undos holds (noting x) (noting b) (noting m) notes leaves) (sym size))

        -- what the first alternative has read stays read
        pub stays_read : ((front added : List Undo) → (noting m).undos ≡ front ++ added → length front ≡ kept →
            Undoes holds front added [] (noting m) (noting n)) →
            (map : List Val) → MayBegin holds (noting n).caller map → MayBegin holds (noting b).caller map
        stays_read undoes map may =
            let back = undoes (noting x).undos _ (first_undos holds (noting x) (noting b) (noting m) notes leaves) (sym size) in
            subst (λ (k : Noting L). MayBegin holds k.caller map) leaves (back.narrows map may)

        -- and all that it has set was set back
        pub set_back : ((front added : List Undo) → (noting m).undos ≡ front ++ added → length front ≡ kept →
            HasSetBack holds (noting m).undos front (noting m).caller (noting n).caller) →
            HasSetBack holds (noting b).undos (noting x).undos (noting b).caller (noting n).caller
        set_back back =
            let it = back (noting x).undos _ (first_undos holds (noting x) (noting b) (noting m) notes leaves) (sym size) in
            subst (λ (k : Noting L). HasSetBack holds k.undos (noting x).undos k.caller (noting n).caller) leaves it

        pub stopped : ((front added : List Undo) → (noting m).undos ≡ front ++ added → length front ≡ kept →
            (left : List Undo) × Undoes holds front added left (noting m) (noting n)) → Notes holds (noting x) (noting n)
        stopped undoes =
            let (left, some) = undoes (noting x).undos _ (first_undos holds (noting x) (noting b) (noting m) notes leaves) (sym size) in
            notes_on holds (noting x) (noting n)
            (first_left holds (noting x) (noting b) (noting m) notes leaves (noting n) keeps same left some)
