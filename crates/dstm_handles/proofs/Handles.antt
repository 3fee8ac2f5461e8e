-- The machine values of a handle and of a box's parts. Assumes `Logic`.
use Rattle.std.proofs.Common.{◌≡◌, ℕ, ◌<◌, ◌^◌, List, [], ◌∷◌, ◌++◌, refl, subst, w64}
use mathlib.Core.Bool.{true, ◌&&◌}
use lib.Dec.{T, lit<}
use seplogic.Ra.Ura.{Ura}
use mir.Syntax.{impl, tnil, dnil, ty_ptr}
use mir.Raw.{raw as bare}
use mir.Val.{Val, vint, vptr, vstruct, vcons, vnil, of_list, has_ty, WT}
use base.Logic.{never, fst∗}
use types.Logic.{Logic, sem}
use types.Kit.{Item, Goal, Seq, Step, step, ‵, ◌$◌, move, drop, fsplit, fjoin, fpick, fpack, feq_i, feq_l}
use denote.RattleType.{RattleType, Valss}
use denote.Builtin.{RawPtr, u64}
use denote.Laws.{Is, shows}
use denote.Memory.{lone}
use denote.Plain.{uint_Makes}
use denote.RawPtr.{Ptr, block_ptr, null_ptr, ptr_val, in_a_block}
use denote.Steps.{nothing, owned, peeks}
use denote.Struct.Struct.{within}
use denote.Struct.Owning.{shape, fields, to}
use Rattle.std.proofs.alloc.Calls.{Al, α, Fits, handle_tells}
use Rattle.std.specs.Box.Ownership.{box_owns}
use Rattle.std.specs.Prelude.{Option}
use Rattle.std.specs.Global.{Global}
use Rattle.std.specs.contracts.alloc.Global as Heap
use Rattle.std.specs.contracts.impls.GlobalAllocator.TheImpl.{ghosts, dict}
use Rattle.std.proofs.alloc.Global.TheLaws as heap
use Rattle.std.proofs.ResultValues.{and_tt}
use Rattle.dstm_handles.specs.Owned.{handle_owns}
use Rattle.dstm_handles.specs.contracts.held.Held as held
use Rattle.dstm_handles.specs.contracts.handle.Handle as handle
use Rattle.dstm_handles.specs.contracts.parts.Parts as parts

abbrev pub Z : RattleType
Z = Heap.the_row

abbrev pub R : RattleType
R = held.the_row

abbrev pub P : RattleType
P = parts.the_row R Z ghosts

abbrev pub H : RattleType
H = handle.the_row

abbrev pub al : Al
al = record { row = Z; laws = heap.the_row_laws; g = ghosts; d = dict; drops = impl [] tnil dnil }

abbrev pub both : Val → Val → Val
both v h = vstruct (vcons v (vcons h vnil))

abbrev pub three : Val → ℕ → Val → Val
three v n h = vstruct (vcons v (vcons (vint w64 n) (vcons h vnil)))

pub two_good : (b o : ℕ) (h : Val) → Fits al h → T (has_ty (α al) h && true) × WT (both (vptr b o) h)
two_good b o h fits = (and_tt (has_ty (α al) h) fits.0, (tt, (fits.1, tt)))

pub three_good : (b o n : ℕ) → n < 2 ^ 64 → (h : Val) → Fits al h → T (has_ty (α al) h && true) × WT (three (vptr b o) n h)
three_good b o n low h fits = (and_tt (has_ty (α al) h) fits.0, (tt, (record { fits = low }, (fits.1, tt))))

pub closed_good : (h : Val) → Fits al h → T (has_ty (α al) h && true) × WT (three (ptr_val null_ptr) 0 h)
closed_good h fits = (and_tt (has_ty (α al) h) fits.0, (record { fits = lit< tt }, (record { fits = lit< tt }, (fits.1, tt))))

pub ptr_good : (p : Ptr) → T (has_ty ty_ptr (ptr_val p)) × WT (ptr_val p)
ptr_good (block_ptr b o) = (tt, tt)
ptr_good null_ptr = (tt, record { fits = lit< tt })

pub any_good : (p : Ptr) (n : ℕ) → n < 2 ^ 64 → (h : Val) → Fits al h → T (has_ty ty_ptr (ptr_val p) && (has_ty (α al) h && true)) × WT (three (ptr_val p) n h)
any_good (block_ptr b o) n low h fits = (and_tt (has_ty (α al) h) fits.0, (tt, (record { fits = low }, (fits.1, tt))))
any_good null_ptr n low h fits = (and_tt (has_ty (α al) h) fits.0, (record { fits = lit< tt }, (record { fits = low }, (fits.1, tt))))

module _ {M : Type 1} {𝓤 : Ura M} {𝓛 : Logic 𝓤} {K : Type 0} {Γ : List (Item 𝓤)} {G : Goal 𝓤 𝓛.H} where
  pub parts_out : K → (d : P.Denot) (vs : List Val)
      → ((b o : ℕ) (h : Val) → d.ptr ≡ block_ptr b o → vs ≡ both (vptr b o) h ∷ [] → Fits al h → Seq K 𝓛 (‵ (box_owns (ghosts.dealloc_token d.alloc) R (block_ptr b o) d.value) ∷ ‵ (Z.own_val d.alloc (h ∷ [])) ∷ Γ) G)
      → Seq K 𝓛 (‵ (P.own_val d vs) ∷ Γ) G
  parts_out t d vs k =
      fsplit t $ fpick t (λ vss. fsplit t $ feq_l t (λ ev. fsplit t $ feq_l t (λ ep. fsplit t $ handle_tells al t d.alloc vss.1.0 (λ h ea fits. move t (1 ∷ []) $ drop t $ move t (1 ∷ []) $
      in_a_block t d.ptr (λ p. box_owns (ghosts.dealloc_token d.alloc) R p d.value) (fst∗ 𝓤 (never 𝓤) (sem 𝓛 (ghosts.dealloc_token d.alloc (bare (lone R.mir)) null_ptr))) (λ b o e. k b o h e
      (subst (λ (p : Ptr). vs ≡ vstruct (of_list (ptr_val p ∷ h ∷ [])) ∷ []) e
      (subst (λ (ws : List Val). vs ≡ vstruct (of_list (ptr_val d.ptr ∷ (ws ++ []))) ∷ []) ea (subst (λ (ps : List Val). vs ≡ vstruct (of_list (ps ++ (vss.1.0 ++ []))) ∷ []) ep ev))) fits)))))

  pub parts_in : K → (p : Ptr) (h : Val) (a : Global) (x : R.Denot)
      → Step K 𝓛 (‵ (P.own_val (record { ptr = p; alloc = a; value = x }) (both (ptr_val p) h ∷ [])) ∷ Γ) G (‵ (box_owns (ghosts.dealloc_token a) R p x) ∷ ‵ (Z.own_val a (h ∷ [])) ∷ Γ) G
  parts_in t p h a x = step (λ s. let v : Val = both (ptr_val p) h in
      nothing t $ move t (2 ∷ 0 ∷ []) $ fjoin t $ feq_i t (List Val) (ptr_val p ∷ []) (ptr_val p ∷ []) refl $ fjoin t $ feq_i t (List Val) (v ∷ []) (v ∷ []) refl $ fjoin t $
      fpack t (Valss (RawPtr ∷ Z ∷ [])) (within (shape (parts.the_type R Z ghosts)) (p, (a, tt)) (v ∷ [])) (ptr_val p ∷ [], (h ∷ [], tt)) $ fjoin t $ s)

  pub handle_out : K → (p : Ptr) (n : ℕ) (a : Global) (x : Option R.Denot) (vs : List Val)
      → ((h : Val) → vs ≡ three (ptr_val p) n h ∷ [] → n < 2 ^ 64 → Fits al h → Seq K 𝓛 (‵ (handle_owns a p n x) ∷ ‵ (Z.own_val a (h ∷ [])) ∷ Γ) G)
      → Seq K 𝓛 (‵ (H.own_val (record { at = p; state = n; alloc = a; held = x }) vs) ∷ Γ) G
  handle_out t p n a x vs k =
      fsplit t $ fpick t (λ vss. fsplit t $ feq_l t (λ ev. fsplit t $ feq_l t (λ ep. fsplit t $ peeks t u64 (Is u64) (shows 𝓛 u64) n vss.1.0 (λ is. drop t $ fsplit t $ handle_tells al t a vss.1.1.0 (λ h ea fits. move t (1 ∷ []) $ drop t $ move t (1 ∷ []) $
      k h
      (subst (λ (ws : List Val). vs ≡ vstruct (of_list (ptr_val p ∷ vint w64 n ∷ (ws ++ []))) ∷ []) ea
      (subst (λ (us : List Val). vs ≡ vstruct (of_list (ptr_val p ∷ (us ++ (vss.1.1.0 ++ [])))) ∷ []) is.0
      (subst (λ (ps : List Val). vs ≡ vstruct (of_list (ps ++ (vss.1.0 ++ (vss.1.1.0 ++ [])))) ∷ []) ep ev))) is.1 fits)))))

  pub handle_in : K → (p : Ptr) (n : ℕ) → n < 2 ^ 64 → (h : Val) (a : Global) (x : Option R.Denot)
      → Step K 𝓛 (‵ (H.own_val (record { at = p; state = n; alloc = a; held = x }) (three (ptr_val p) n h ∷ [])) ∷ Γ) G (‵ (handle_owns a p n x) ∷ ‵ (Z.own_val a (h ∷ [])) ∷ Γ) G
  handle_in t p n low h a x = step (λ s. let v : Val = three (ptr_val p) n h in
      nothing t $ move t (2 ∷ 0 ∷ []) $ fjoin t $ owned t u64 (Is u64) (uint_Makes 𝓛 w64) n _ (refl, low) $ fjoin t $ feq_i t (List Val) (ptr_val p ∷ []) (ptr_val p ∷ []) refl $ fjoin t $ feq_i t (List Val) (v ∷ []) (v ∷ []) refl $ fjoin t $
      fpack t (Valss (fields handle.the_type)) (within (shape handle.the_type) (to handle.the_type (record { at = p; state = n; alloc = a; held = x })) (v ∷ [])) (ptr_val p ∷ [], (vint w64 n ∷ [], (h ∷ [], tt))) $ fjoin t $ s)
