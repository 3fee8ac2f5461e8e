-- Maps with the values that are set: their length, their values, and what an open, a set and a put do to them.
use Rattle.std.proofs.Common.{◌≡◌, ℕ, zero, suc, ◌<◌, List, [], ◌∷◌, length, slice_set, arith, refl, sym, ◌∙◌, ap}
use Rattle.std.specs.Prelude.{Option, Some, None, unwrap_or, IfSome, IsSome, Result, Ok, Err, IfOk, OnOk}
use Rattle.std.specs.Option.{option_or}
use Rattle.std.proofs.lemmas.List.{ext_get_or}
use Rattle.dstm_model.specs.declared.value.Val.{Val}
use Rattle.dstm_model.specs.Map.{no_value, value_at}
use Rattle.dstm_mem.specs.Memory.{with_set, AgreesWith, SetsOnly}

-- what is set at the objects from the second on
abbrev rest : (ℕ → Option Val) → ℕ → Option Val
rest written o = written (suc o)

pub length-with_set : (map : List Val) (written : ℕ → Option Val) → length (with_set map written) ≡ length map
length-with_set [] written = refl
length-with_set (v ∷ map) written = ap suc (length-with_set map (rest written))

-- an object has the value that is set, or else the map's
pub value_at-with_set : (map : List Val) (written : ℕ → Option Val) (o : ℕ) → o < length map →
    value_at (with_set map written) o ≡ unwrap_or (written o) (value_at map o)
value_at-with_set [] written o within = absurd (omega (arith, within))
value_at-with_set (v ∷ map) written zero within = refl
value_at-with_set (v ∷ map) written (suc o) within = value_at-with_set map (rest written) o (omega (arith, within))

-- a map is the one with what is set if it has the right length and values
pub with_set-of_values : (after map : List Val) (written : ℕ → Option Val) → length after ≡ length map →
    ((o : ℕ) → o < length map → value_at after o ≡ unwrap_or (written o) (value_at map o)) →
    after ≡ with_set map written
with_set-of_values after map written size values =
    ext_get_or no_value after (with_set map written) (size ∙ sym (length-with_set map written))
    (λ o within.
    let in_map : o < length map = omega (arith, within, size) in
    values o in_map ∙ sym (value_at-with_set map written o in_map))

-- an object where the same is set has the same value
pub value_at-same_set : (map : List Val) (old new : ℕ → Option Val) (o : ℕ) → new o ≡ old o →
    value_at (with_set map new) o ≡ value_at (with_set map old) o
value_at-same_set [] old new o same = refl
value_at-same_set (v ∷ map) old new zero same = ap (λ w. unwrap_or w v) same
value_at-same_set (v ∷ map) old new (suc o) same = value_at-same_set map (rest old) (rest new) o same

pub with_set-nothing : (map : List Val) (written : ℕ → Option Val) → ((p : ℕ) → written p ≡ None) →
    with_set map written ≡ map
with_set-nothing [] written none = refl
with_set-nothing (v ∷ map) written none =
    ap (λ w. unwrap_or w v ∷ with_set map (rest written)) (none 0)
    ∙ ap (λ vs. v ∷ vs) (with_set-nothing map (rest written) (λ p. none (suc p)))

-- an open, which changes nothing that is set
pub with_set-same : (map : List Val) (old new : ℕ → Option Val) → ((p : ℕ) → new p ≡ old p) →
    with_set map new ≡ with_set map old
with_set-same [] old new same = refl
with_set-same (v ∷ map) old new same =
    ap (λ w. unwrap_or w v ∷ with_set map (rest new)) (same 0)
    ∙ ap (λ vs. unwrap_or (old 0) v ∷ vs) (with_set-same map (rest old) (rest new) (λ p. same (suc p)))

-- a set, which replaces one value
pub with_set-set : (map : List Val) (old new : ℕ → Option Val) (o : ℕ) (v : Val) → SetsOnly o v old new →
    with_set map new ≡ slice_set (with_set map old) o v
with_set-set [] old new o v sets = refl
with_set-set (w ∷ map) old new zero v sets =
    let others = λ (p : ℕ). sets.others (suc p) (λ e. absurd (omega (arith, e))) in
    ap (λ x. unwrap_or x w ∷ with_set map (rest new)) sets.value
    ∙ ap (λ vs. v ∷ vs) (with_set-same map (rest old) (rest new) others)
with_set-set (w ∷ map) old new (suc o) v sets =
    let sets_rest : SetsOnly o v (rest old) (rest new) = record {
      value = sets.value;
      others = λ p other. sets.others (suc p) (λ e. other (omega (arith, e)));
    } in
    ap (λ x. unwrap_or x w ∷ with_set map (rest new)) (sets.others 0 (λ e. absurd (omega (arith, e))))
    ∙ ap (λ vs. unwrap_or (old 0) w ∷ vs) (with_set-set map (rest old) (rest new) o v sets_rest)

answered : (w h : Option Val) (x v : Val) → IfSome h (λ y. x ≡ y) → Some v ≡ option_or w h → unwrap_or w x ≡ v
answered None None x v agrees answer = absurd (cc answer)
answered None (Some y) x v agrees answer = cc
answered (Some y) h x v agrees answer = cc

-- what an open answers is the object's value in each map that is then admitted, with what was set before
pub value_at-opened : (map : List Val) (old new held : ℕ → Option Val) (o : ℕ) (v : Val) →
    o < length map → AgreesWith map held → ((p : ℕ) → new p ≡ old p) → Some v ≡ option_or (new o) (held o) →
    value_at (with_set map old) o ≡ v
value_at-opened map old new held o v within agrees same answer =
    value_at-with_set map old o within
    ∙ ap (λ w. unwrap_or w (value_at map o)) (sym (same o))
    ∙ answered (new o) (held o) (value_at map o) v (agrees o) answer

-- what an open finds, whatever it answers
pub found_by : {E : Type 0} (answer : Result Val E) (Admits : List Val → Type 0) (held written : ℕ → Option Val)
    (o : ℕ) → ((map : List Val) → Admits map → (o < length map) × AgreesWith map held) →
    IfOk answer (λ v. Some v ≡ option_or (written o) (held o)) →
    IfOk answer (λ v. (map : List Val) → Admits map → value_at (with_set map written) o ≡ v)
found_by (Ok v) Admits held written o admitted value =
    λ map a.
    let (within, agrees) = admitted map a in
    value_at-opened map written written held o v within agrees (λ p. refl) value
found_by (Err e) Admits held written o admitted value = tt

-- what an open leaves, whatever it answers
pub unchanged_by : {E : Type 0} (answer : Result Val E) (old new : ℕ → Option Val) → ((p : ℕ) → new p ≡ old p) →
    OnOk answer ((map : List Val) → with_set map new ≡ with_set map old)
unchanged_by (Ok v) old new same = λ map. with_set-same map old new same
unchanged_by (Err e) old new same = tt

-- one object: what is put is the value set, or else the map's
put_value : (held written put : Option Val) (v : Val) → IfSome held (λ x. v ≡ x) →
    IfSome put (λ x. Some x ≡ option_or written held) → (IsSome written → IsSome put) →
    unwrap_or put v ≡ unwrap_or written v
put_value held None None v agrees puts sets = refl
put_value None None (Some x) v agrees puts sets = absurd (cc)
put_value (Some y) None (Some x) v agrees puts sets = cc
put_value held (Some w) None v agrees puts sets = let set = sets refl in absurd (cc)
put_value held (Some w) (Some x) v agrees puts sets = cc

-- Putting the value that is held where none is set changes nothing: an object that is opened for writing and
-- not set has in the end the value that it had.
pub unset_stays : (map : List Val) (held written put : ℕ → Option Val) → AgreesWith map held →
    ((o : ℕ) → IfSome (put o) (λ v. Some v ≡ option_or (written o) (held o))) →
    ((o : ℕ) → IsSome (written o) → IsSome (put o)) →
    with_set map put ≡ with_set map written
unset_stays map held written put agrees puts sets =
    with_set-of_values (with_set map put) map written (length-with_set map put)
    (λ o within.
    value_at-with_set map put o within
    ∙ put_value (held o) (written o) (put o) (value_at map o) (agrees o) (puts o) (sets o))
