-- What a reader answers, beside what its text stands for.
use Rattle.std.specs.Prelude.{◌≡◌, Result, Ok, Err}

-- An answer, seen by view, is what reading gives. What an error tells of how reading ends, `Fails` says: where memory
-- runs out, it tells nothing.
abbrev pub GivesBy : {X Y E R : Type 0} → (E → Result Y R → Type 0) → (X → Y) → Result X E → Result Y R → Type 0
GivesBy Fails view (Ok x) read = read ≡ Ok (view x)
GivesBy Fails view (Err e) read = Fails e read
