-- An attempt at rest, told by a test.
use Rattle.std.proofs.Common.{◌≡◌, ◌<◌, ◌&&◌, ◌==◌, Bool, true, false, not, ℕ, List, [], ◌∷◌, length, Option, Some, None, is_none, nat_lt, arith, eqb-true, ltb-true, refl}
use Rattle.dstm_tl2_engine.proofs.Base.{AtRest, LocalState}
use Rattle.dstm_tl2_engine.specs.Callers.{is_resting}

-- both of two tests say yes
both : (a b : Bool) → (a && b) ≡ true → (a ≡ true) × (b ≡ true)
both true b same = (refl, same)
both false b same = absurd (cc)

none : {A : Type 0} (x : Option A) → is_none x ≡ true → x ≡ None
none None same = refl
none (Some x) same = absurd (cc)

empty : {A : Type 0} (xs : List A) → (length xs == 0) ≡ true → xs ≡ []
empty [] same = refl
empty (x ∷ xs) same = let no = eqb-true (length (x ∷ xs)) 0 same in absurd (omega arith)

zero_of : (n : ℕ) → (n == 0) ≡ true → n ≡ 0
zero_of n same = eqb-true n 0 same

above : (n : ℕ) → nat_lt 0 n ≡ true → 0 < n
above n same = ltb-true 0 n same

denied : (b : Bool) → not b ≡ true → b ≡ false
denied false same = refl
denied true same = absurd (cc)

-- where the test says yes the attempt is at rest
pub rests : (l : LocalState) → is_resting l ≡ true → AtRest l
rests l same =
    let begun = both _ _ same in let look = both _ _ begun.1 in let writes = both _ _ look.1 in
    let locked = both _ _ writes.1 in let holds = both _ _ locked.1 in let drawn = both _ _ holds.1 in
    let sound = both _ _ drawn.1 in
    record {
      begun = above l.begun begun.0;
      no_look = none l.look look.0;
      untold = (none l.writes writes.0, zero_of l.locked locked.0, empty l.holds holds.0);
      undrawn = none l.drawn drawn.0;
      sound = (denied l.failed sound.0, denied l.gave_back sound.1);
    }
