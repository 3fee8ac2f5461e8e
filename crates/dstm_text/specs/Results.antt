-- Reading in steps that give what they read, or why they refuse it.
use Rattle.std.specs.Prelude.{◌≡◌, Result, Ok, Err}

infixl 10 ◌>>=◌
abbrev pub ◌>>=◌ : {A B E : Type 0} → Result A E → (A → Result B E) → Result B E
(Ok x) >>= f = f x
(Err e) >>= f = Err e

-- an answer, seen by view, is what was read
abbrev pub IsRead : {X Y E : Type 0} → Result X E → (X → Y) → Result Y E → Type 0
IsRead (Ok x) view read = read ≡ Ok (view x)
IsRead (Err e) view read = read ≡ Err e
