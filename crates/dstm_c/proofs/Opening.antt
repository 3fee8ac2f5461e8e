-- What becomes of what a handle stands for, where a call takes it out and puts it back.
use Rattle.std.proofs.Common.{◌≡◌, ℕ, Err, List, arith, inl, inr, refl, subst, sym}
use Rattle.std.specs.Prelude.{Option, None, Result, Some}
use Rattle.dstm_model.specs.declared.value.AnyLaw.{AnyLaw}
use Rattle.dstm_model.specs.declared.value.Val.{Val}
use Rattle.dstm_handles.specs.Held.{ByHandle, ByMemory, ByPart, IsMemory, IsPart}
use Rattle.dstm_handles.specs.Memories.{GivesOut, KeepsHome}
use Rattle.dstm_handles.specs.Threads.{GivesUp}
use Rattle.dstm_handles.specs.declared.held.Held.{Held}
use Rattle.dstm_handles.specs.declared.held.Held.TheVariants as held
use Rattle.dstm_handles.specs.declared.memory.Home.{Home}
use Rattle.dstm_handles.specs.declared.memory.Memory.{Memory}
use Rattle.dstm_handles.specs.declared.thread.Thread.{Thread}
use Rattle.dstm_handles.specs.declared.code.Code.{Code}
use Rattle.dstm_handles.specs.declared.code.Code.TheVariants as code
use Rattle.dstm_c.specs.Codes.{FreesPart, number_of}

pub by_open : (goes : Held → Held → Type 0) (closed : Type 0) (old new : Option Held) (h k : Held) → old ≡ Some h →
    new ≡ Some k → goes h k → ByHandle goes closed old new
by_open goes closed old new h k was is went =
    subst (λ (x : Option Held). ByHandle goes closed x new) (sym was)
    (subst (λ (y : Option Held). ByHandle goes closed (Some h) y) (sym is) went)

pub by_closed : (goes : Held → Held → Type 0) (closed : Type 0) (old new : Option Held) → old ≡ None → new ≡ None → closed →
    ByHandle goes closed old new
by_closed goes closed old new was is told =
    subst (λ (x : Option Held). ByHandle goes closed x new) (sym was)
    (subst (λ (y : Option Held). ByHandle goes closed None y) (sym is) told)

-- where nothing was done, nothing is lost
home_same : (home : Option Home) → KeepsHome home home
home_same None = tt
home_same (Some home) = record { table = refl; founder = refl; own = record { home = refl; number = refl; done = refl } }

module _ (holds : AnyLaw → List Val → Type 0) where
  -- where there was no room for a part, none was given out
  no_room : (m : Memory) → GivesOut holds m m (Err code.Memory)
  no_room m = record {
    gives = tt;
    leaves = tt;
    idle = tt;
    why = inr (inr refl);
    kept = inl (record { values = refl; home = home_same m.home });
    terms = record { engine = refl; threads = refl };
  }

  pub held_no_room : (h : Held) (answer : Result Thread Code) → answer ≡ Err code.Memory → IsMemory h →
      ByMemory (λ old new. GivesOut holds old new answer) (answer ≡ Err code.Closed) h h
  held_no_room (held.Memory m) answer is kind = subst (λ (a : Result Thread Code). GivesOut holds m m a) (sym is) (no_room m)
  held_no_room (held.Thread t) answer is kind = absurd kind

  -- a part whose transaction was given up, and that is closed
  pub frees_part : (old new : Option Held) (h last : Held) (end : Code) (number : ℕ) → old ≡ Some h → IsPart h →
      ByPart (λ t n. GivesUp holds t n end) (end ≡ code.Closed) h last → new ≡ None → number ≡ 0 → FreesPart holds old new number
  frees_part old new (held.Thread t) (held.Thread last) end number was is gives closed told =
      subst (λ (x : Option Held). FreesPart holds x new number) (sym was) (told, closed, (last, end, gives))
  frees_part old new (held.Thread t) (held.Memory m) end number was is gives closed told = absurd gives
  frees_part old new (held.Memory m) last end number was is gives closed told = absurd is

-- what is no memory is a part, and answers that it is none
pub held_closed : (goes : Memory → Memory → Type 0) (closed : Type 0) (h : Held) → IsPart h → closed → ByMemory goes closed h h
held_closed goes closed (held.Thread t) is told = (told, refl)
held_closed goes closed (held.Memory m) is told = absurd is

-- the code of zero
pub is_done : (found : Code) → number_of found ≡ 0 → found ≡ code.Done
is_done code.Done is = refl
is_done code.Again is = absurd (omega (arith, is))
is_done code.Spent is = absurd (omega (arith, is))
is_done code.Foreign is = absurd (omega (arith, is))
is_done code.Idle is = absurd (omega (arith, is))
is_done code.Open is = absurd (omega (arith, is))
is_done code.Closed is = absurd (omega (arith, is))
is_done code.Taken is = absurd (omega (arith, is))
is_done code.Busy is = absurd (omega (arith, is))
is_done code.Full is = absurd (omega (arith, is))
is_done code.Memory is = absurd (omega (arith, is))
is_done code.Range is = absurd (omega (arith, is))
