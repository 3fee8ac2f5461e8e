-- A call of a caller as its answers see it.
use Rattle.std.proofs.Common.{◌∙◌, ◌≡◌, List, Option, ap, subst, sym}
use Rattle.dstm_engine.proofs.Base.{Again, Home, LocalState, Steps, Task, Val, now}
use Rattle.dstm_engine.proofs.Tying.{EndsAt, EndsHere, ends_here, live_there, now_there, renewed}
use Rattle.dstm_engine.specs.Callers.{Called, is_live, state}
use Rattle.dstm_engine.specs.Mirror.{Tied, called}
use Rattle.dstm_engine.specs.declared.caller.Caller.TheInside.{Inside}

-- The caller that contracts see is the one that its fields stand for, the words are those of its table, and its steps
-- have nothing behind them.
pub record AtCall {L : Type 0} (holds : L → List Val → Type 0) (c : Inside L) (k : Called L) (words : Home L)
    (steps : Steps L) : Type 0 where
  pub tied : Tied holds c
  pub view : called c ≡ k
  pub home : (called c).home ≡ words
  pub begun : steps ≡ renewed c.steps
  pub live : c.live ≡ is_live k

pub at_call : {L : Type 0} {holds : L → List Val → Type 0} {c : Inside L} → Tied holds c → {k : Called L} →
    called c ≡ k → {stm words : Home L} → k.home ≡ stm → words ≡ stm → {steps : Steps L} → steps ≡ renewed c.steps →
    AtCall holds c k words steps
at_call v {k = k} view table same is = record {
  tied = v;
  view = view;
  home = ap (λ (k : Called _). k.home) view ∙ table ∙ sym same;
  begun = is;
  live = live_there v ∙ ap is_live view;
}

module _ {L : Type 0} {holds : L → List Val → Type 0} {c : Inside L} {k : Called L} {words : Home L} {steps : Steps L}
    (at : AtCall holds c k words steps) where
  -- the state that its steps know
  pub state_at : now words steps ≡ state (called c)
  state_at = now_there at.tied at.home at.begun

  -- what holds of the words' table and of the state that its steps know holds of the caller's
  pub at_home : (P : Home L → LocalState → Type 0) → P words (now words steps) → P (called c).home (state (called c))
  at_home P x = subst (λ h. P h (state (called c))) (sym at.home) (subst (P words) state_at x)

  -- the end of the call
  pub ends_at : {task : Task} {new : Steps L} {again : Option Again} →
      EndsAt holds words steps task new again → EndsHere holds c task new again
  ends_at u = ends_here at.tied at.home at.begun u
