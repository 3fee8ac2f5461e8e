-- What a handle stands for, before and after a call.
use Rattle.std.specs.Prelude.{◌≡◌, false, Option, None, Some}
use Rattle.dstm_handles.specs.declared.held.Held.{Held}
use Rattle.dstm_handles.specs.declared.held.Held.TheVariants as held
use Rattle.dstm_handles.specs.declared.memory.Memory.{Memory}
use Rattle.dstm_handles.specs.declared.thread.Thread.{Thread}

-- WHAT BECOMES of what a handle stands for by a call on a part: this, of a part; a memory stays as it is, and this is answered
abbrev pub ByPart : (goes : Thread → Thread → Type 0) → (closed : Type 0) → Held → Held → Type 0
ByPart goes closed (held.Thread old) (held.Thread new) = goes old new
ByPart goes closed (held.Memory old) (held.Memory new) = closed × (new ≡ old)
ByPart goes closed old new = ⊥

-- the same by a call on a memory
abbrev pub ByMemory : (goes : Memory → Memory → Type 0) → (closed : Type 0) → Held → Held → Type 0
ByMemory goes closed (held.Memory old) (held.Memory new) = goes old new
ByMemory goes closed (held.Thread old) (held.Thread new) = closed × (new ≡ old)
ByMemory goes closed old new = ⊥

-- it is no part that makes a transaction
abbrev pub IsIdle : Held → Type 0
IsIdle (held.Thread t) = t.begun ≡ false
IsIdle (held.Memory m) = Unit {0}

-- it is a memory
abbrev pub IsMemory : Held → Type 0
IsMemory (held.Memory m) = Unit {0}
IsMemory (held.Thread t) = ⊥

-- it is a part
abbrev pub IsPart : Held → Type 0
IsPart (held.Memory m) = ⊥
IsPart (held.Thread t) = Unit {0}

-- and by a call on a handle: this, of what it stands for; a closed one stays closed, and this is answered
abbrev pub ByHandle : (goes : Held → Held → Type 0) → (closed : Type 0) → Option Held → Option Held → Type 0
ByHandle goes closed (Some old) (Some new) = goes old new
ByHandle goes closed None None = closed
ByHandle goes closed old new = ⊥

abbrev pub OfPart : (goes : Thread → Thread → Type 0) → (closed : Type 0) → Option Held → Option Held → Type 0
OfPart goes closed = ByHandle (ByPart goes closed) closed

abbrev pub OfMemory : (goes : Memory → Memory → Type 0) → (closed : Type 0) → Option Held → Option Held → Type 0
OfMemory goes closed = ByHandle (ByMemory goes closed) closed
