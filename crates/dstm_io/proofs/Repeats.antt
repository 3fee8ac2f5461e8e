-- What a call does that was made again after others did nothing.
use Rattle.std.proofs.Common.{ℕ, List, Option, Some, None, Ok, Err, Result, ◌∙◌, sym}
use Rattle.std.specs.Prelude.{take}
use Rattle.std.specs.Io.KnownBytes.{Appends, Consumes, Keeps, ReadConsumes, WriteAppends}

keeps_on : (a b c : Option (List ℕ)) → Keeps a b → Keeps b c → Keeps a c
keeps_on None b c h k = tt
keeps_on (Some xs) (Some ys) (Some zs) h k = k ∙ h
keeps_on (Some xs) (Some ys) None h k = absurd (k)
keeps_on (Some xs) None c h k = absurd (h)

consumes_on : (a b c : Option (List ℕ)) (bs : List ℕ) → Keeps a b → Consumes b c bs → Consumes a c bs
consumes_on None b c bs h k = tt
consumes_on (Some xs) (Some ys) (Some zs) bs h k = sym h ∙ k
consumes_on (Some xs) (Some ys) None bs h k = absurd (k)
consumes_on (Some xs) None c bs h k = absurd (h)

appends_on : (a b c : Option (List ℕ)) (bs : List ℕ) → Keeps a b → Appends b c bs → Appends a c bs
appends_on None b c bs h k = tt
appends_on (Some xs) (Some ys) (Some zs) bs h k = rw (← h) k
appends_on (Some xs) (Some ys) None bs h k = absurd (k)
appends_on (Some xs) None c bs h k = absurd (h)

pub reads_on : {E : Type 0} (a b c : Option (List ℕ)) (r : Result ℕ E) (buf : List ℕ) → Keeps a b →
    ReadConsumes b c r buf → ReadConsumes a c r buf
reads_on a b c (Ok n) buf h k = (consumes_on a b c (take n buf) h k.0, k.1)
reads_on a b c (Err e) buf h k = keeps_on a b c h k

pub writes_on : {E : Type 0} (a b c : Option (List ℕ)) (r : Result ℕ E) (buf : List ℕ) → Keeps a b →
    WriteAppends b c r buf → WriteAppends a c r buf
writes_on a b c (Ok n) buf h k = appends_on a b c (take n buf) h k
writes_on a b c (Err e) buf h k = keeps_on a b c h k

-- what a call does from here on it does from the start
abbrev pub GoesOn : {E : Type 0} → (Option (List ℕ) → Option (List ℕ) → Result ℕ E → List ℕ → Type 0) →
    Option (List ℕ) → Option (List ℕ) → Type 0
GoesOn {E} Does start now =
    (after : Option (List ℕ)) (r : Result ℕ E) (buf : List ℕ) → Does now after r buf → Does start after r buf
