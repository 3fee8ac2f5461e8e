-- What the conditions and the branches of a job say of a store.
use Rattle.std.proofs.Common.{◌≡◌, ℕ, ◌≤◌, Bool, true, false, List, [], ◌∷◌, length, take, drop, arith, refl, sym, ◌∙◌, ap}
use Rattle.std.proofs.Common.{subst, inl, inr, Bor, length-drop}
use Rattle.std.proofs.lemmas.Bool.{cases_Bool, cond-true, cond-false}
use Rattle.std.proofs.lemmas.Option.{same_Some}
use Rattle.std.proofs.lemmas.List.{take-append-drop}
use Rattle.std.proofs.lemmas.List.Elements.{All-drop, Contains-append_left, Contains-append_right}
use Rattle.std.specs.Prelude.{Option, Some, None, IfSome, All, Contains}
use Rattle.std.specs.List.{find}
use Rattle.dstm_model.specs.declared.layout.Layout.{Layout}
use Rattle.dstm_model.specs.declared.op.Which.{Which}
use Rattle.dstm_model.specs.declared.op.Cond.{Cond}
use Rattle.dstm_model.specs.declared.op.Cond.TheVariants as cond
use Rattle.dstm_model.specs.declared.op.Op.{Op}
use Rattle.dstm_model.specs.declared.op.Op.TheVariants.{Await}
use Rattle.dstm_model.specs.declared.reply.Reply.{Reply}
use Rattle.dstm_model.specs.Layout.{FitsLayout}
use Rattle.dstm_model.specs.Store.{Store, apply, yes_or_no, is_member}
use Rattle.dstm_model.specs.Job.{is_open, holds_in}
use Rattle.dstm_mem.specs.Operates.{IsLook}
use Rattle.dstm_store.specs.Concerns.{Concerns}
use Rattle.dstm_compose.specs.Compose.{condition_of, look_of, shows, up_to_open, IsAwaited}

shows-yes : (which : Which) (key : ℕ) (b : Bool) → shows (cond.Key which key) (yes_or_no b) ≡ b
shows-yes which key true = refl
shows-yes which key false = refl

pub shows-look : (c : Cond) (store : Store) → shows c (apply (look_of c) store).reply ≡ holds_in c store
shows-look (cond.Balance account least) store = refl
shows-look (cond.Key which key) store = shows-yes which key (is_member which key store)

pub look_looks : (c : Cond) (reply : Reply) → IsLook (look_of c) reply
look_looks (cond.Balance account least) reply = tt
look_looks (cond.Key which key) reply = tt

pub open-condition : (store : Store) (branch : List Op) (c : Cond) → condition_of branch ≡ Some c →
    is_open store branch ≡ holds_in c store
open-condition store (Await d ∷ ops) c is = ap (λ (x : Cond). holds_in x store) cc
open-condition store ops c is = absurd (cc is)

-- ---- the branches that are left

pub found-open : (store : Store) (left : List (List Op)) (branch : List Op) (rest : List (List Op)) →
    left ≡ branch ∷ rest → is_open store branch ≡ true → find (is_open store) left ≡ Some branch
found-open store left branch rest split is =
    ap (find (is_open store)) split ∙ rw is refl

pub found-later : (store : Store) (left : List (List Op)) (branch : List Op) (rest : List (List Op)) →
    left ≡ branch ∷ rest → is_open store branch ≡ false → find (is_open store) left ≡ find (is_open store) rest
found-later store left branch rest split is =
    ap (find (is_open store)) split ∙ rw is refl

-- what follows a separator fits as the whole does, and is no longer
pub later_fits : (layout : Layout) (ops : List Op) (after : Option (Bor (List Op))) → All (FitsLayout layout) ops →
    IfSome after (λ a. (n : ℕ) × (a.now ≡ drop n ops)) → IfSome after (λ a. All (FitsLayout layout) a.now)
later_fits layout ops None fits is = tt
later_fits layout ops (Some a) fits is =
    subst (All (FitsLayout layout)) (sym is.1) (All-drop (FitsLayout layout) is.0 ops fits)

pub later_short : (most : ℕ) (ops : List Op) (after : Option (Bor (List Op))) → length ops ≤ most →
    IfSome after (λ a. (n : ℕ) × (a.now ≡ drop n ops)) → IfSome after (λ a. length a.now ≤ most)
later_short most ops None short is = tt
later_short most ops (Some a) short is = omega (arith, ap length is.1, length-drop is.0 ops, short)

-- what is among a part of a list is in it
pub Contains-taken : {X : Type 0} (n : ℕ) (xs : List X) (x : X) → Contains (take n xs) x → Contains xs x
Contains-taken {X = X} n xs x has =
    subst (λ (l : List X). Contains l x) (take-append-drop n xs) (Contains-append_left (take n xs) (drop n xs) x has)

Contains-dropped : {X : Type 0} (n : ℕ) (xs : List X) (x : X) → Contains (drop n xs) x → Contains xs x
Contains-dropped {X = X} n xs x has =
    subst (λ (l : List X). Contains l x) (take-append-drop n xs) (Contains-append_right (take n xs) (drop n xs) x has)

-- a branch awaits what its condition is about
pub awaited_of-condition : (layout : Layout) (branch : List Op) (c : Cond) (o : ℕ) →
    condition_of branch ≡ Some c → Concerns layout (look_of c) o → IsAwaited layout branch o
awaited_of-condition layout (Await d ∷ ops) c o is about = (c, (0, omega arith, ap Await cc), about)
awaited_of-condition layout ops c o is about = absurd (cc is)

-- what the first branch left awaits, the job awaits
pub awaited_of-branch : (layout : Layout) (ops left branch : List Op) (o : ℕ) →
    ((x : Op) → Contains left x → Contains ops x) → ((n : ℕ) × (branch ≡ take n left)) → IsAwaited layout branch o →
    IsAwaited layout ops o
awaited_of-branch layout ops left branch o among first awaited =
    let op : Op = Await awaited.0 in (
      awaited.0,
      among op (Contains-taken first.0 left op (subst (λ (l : List Op). Contains l op) first.1 awaited.1)),
      awaited.2,
    )

-- each operation of what is left is one of the job's
abbrev pub AreOf : List Op → Option (Bor (List Op)) → Type 0
AreOf all left = IfSome left (λ ops. (x : Op) → Contains ops.now x → Contains all x)

pub later_among : (all ops : List Op) (after : Option (Bor (List Op))) →
    ((x : Op) → Contains ops x → Contains all x) → IfSome after (λ a. (n : ℕ) × (a.now ≡ drop n ops)) → AreOf all after
later_among all ops None among is = tt
later_among all ops (Some a) among is =
    λ x has. among x (Contains-dropped is.0 ops x (subst (λ (l : List Op). Contains l x) is.1 has))

Contains-later : {X : Type 0} (y : X) (ys : List X) (x : X) → Contains ys x → Contains (y ∷ ys) x
Contains-later y ys x has = Contains-append_right (y ∷ []) ys x has

-- ---- the branches up to the open one

-- the first that is left is one of them,
pub first-tried : (store : Store) (left : List (List Op)) (branch : List Op) (rest : List (List Op)) →
    left ≡ branch ∷ rest → Contains (up_to_open store left) branch
first-tried store left branch rest split =
    subst (λ (l : List (List Op)). Contains (up_to_open store l) branch) (sym split) (0, omega arith, refl)

-- and where it is closed each that is one of those behind it
pub later-tried : (store : Store) (left : List (List Op)) (branch : List Op) (rest : List (List Op)) →
    left ≡ branch ∷ rest → is_open store branch ≡ false → (b : List Op) → Contains (up_to_open store rest) b →
    Contains (up_to_open store left) b
later-tried store left branch rest split closed b has =
    let behind = cond-false (is_open store branch) [] (up_to_open store rest) closed in
    subst (λ (l : List (List Op)). Contains (up_to_open store l) b) (sym split)
    (Contains-later branch _ b (subst (λ (l : List (List Op)). Contains l b) (sym behind) has))

-- ---- a branch that is found

-- it is among the job's branches
pub Contains-found : {X : Type 0} (f : X → Bool) (xs : List X) (x : X) → find f xs ≡ Some x → Contains xs x
Contains-found f [] x is = absurd (cc is)
Contains-found f (y ∷ ys) x is =
    elim (cases_Bool (f y)) [
      | inl does ↦
          let same : y ≡ x = same_Some y x (sym (cond-true (f y) (Some y) (find f ys) does) ∙ is) in
          (0, omega arith, same)
      | inr passes ↦
          let later = sym (cond-false (f y) (Some y) (find f ys) passes) ∙ is in
          Contains-later y ys x (Contains-found f ys x later)
    ]
