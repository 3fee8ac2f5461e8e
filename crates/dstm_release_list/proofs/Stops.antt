-- What stays of a walk's stops where objects are opened and reads are let go.
use Rattle.std.proofs.Common.{◌≡◌, ◌≢◌, ℕ, ◌<◌, List, length, refl, sym, ◌∙◌, ap, subst, inl, inr}
use Rattle.std.specs.Prelude.{Option, Some, None, IsSome, IfSome}
use Rattle.std.specs.Option.{option_or}
use Rattle.std.proofs.lemmas.Option.{same_Some}
use Rattle.dstm_model.specs.declared.value.Val.{Val}
use Rattle.dstm_model.specs.Map.{value_at}
use Rattle.dstm_mem.specs.declared.memory.Mem.{Ghosts}
use Rattle.dstm_mem.specs.Memory.{with_set, AgreesWith, HoldsAlso}
use Rattle.dstm_mem.proofs.WithSet.{value_at-opened}
use Rattle.dstm_list.specs.List.{key_of}
use Rattle.dstm_release_list.specs.declared.stop.Stop.{Stop}
use Rattle.dstm_release_list.specs.Walk.{Sees, LetsGo}

-- what was read or set of an object stays where another read is added
answer_stays : (written old new : Option Val) (v : Val) → Some v ≡ option_or written old →
    (IsSome old → new ≡ old) → Some v ≡ option_or written new
answer_stays None None new v is kept = absurd (cc is)
answer_stays None (Some x) new v is kept = is ∙ sym (kept refl)
answer_stays (Some w) old new v is kept = is

-- a value that is held in the new memory is held in the old one, where what was held stays
agrees_before : (old new : Option Val) (x : Val) → (IsSome old → new ≡ old) → IfSome new (λ v. x ≡ v) →
    IfSome old (λ v. x ≡ v)
agrees_before None new x kept agrees = tt
agrees_before (Some v) new x kept agrees = subst (λ (o : Option Val). IfSome o (λ y. x ≡ y)) (kept refl) agrees

pub AgreesWith-before : (map : List Val) (old new : ℕ → Option Val) → ((o : ℕ) → IsSome (old o) → new o ≡ old o) →
    AgreesWith map new → AgreesWith map old
AgreesWith-before map old new kept agrees o = agrees_before (old o) (new o) (value_at map o) (kept o) (agrees o)

module _ {S E : Type 0} {M : Ghosts S E} where
  -- ---- what a stop sees

  pub sees-opened : {old new : S} {stop : Stop} {o : ℕ} → Sees M old stop → HoldsAlso o (M.held old) (M.held new) →
      ((p : ℕ) → M.written new p ≡ M.written old p) → Sees M new stop
  sees-opened {old} {new} {stop = stop} sees held same = record {
    value = sees.value;
    found = answer_stays (M.written old stop.object) (M.held old stop.object) (M.held new stop.object) sees.value
        sees.found (held.kept stop.object)
        ∙ ap (λ (w : Option Val). option_or w (M.held new stop.object)) (sym (same stop.object));
    key = sees.key;
    next = sees.next;
  }

  pub sees-same : {old new : S} {stop : Stop} → Sees M old stop → M.held new stop.object ≡ M.held old stop.object →
      ((p : ℕ) → M.written new p ≡ M.written old p) → Sees M new stop
  sees-same {old} {new} {stop = stop} sees held same = record {
    value = sees.value;
    found = sees.found
        ∙ ap (λ (w : Option Val). option_or w (M.held old stop.object)) (sym (same stop.object))
        ∙ ap (option_or (M.written new stop.object)) (sym held);
    key = sees.key;
    next = sees.next;
  }

  -- the value of its object in a map that is admitted, with what was set before
  pub sees-value : {start memory : S} {stop : Stop} (map : List Val) (sees : Sees M memory stop) →
      stop.object < length map → AgreesWith map (M.held memory) → ((p : ℕ) → M.written memory p ≡ M.written start p) →
      value_at (with_set map (M.written start)) stop.object ≡ sees.value
  sees-value {start} {memory} {stop = stop} map sees within agrees same =
      value_at-opened map (M.written start) (M.written memory) (M.held memory) stop.object sees.value within agrees
      same sees.found

  -- two stops with different keys are at different objects
  pub sees-apart : {memory : S} {a b : Stop} → Sees M memory a → Sees M memory b → a.node.key ≢ b.node.key →
      a.object ≢ b.object
  sees-apart {memory} one two other same =
      let value : one.value ≡ two.value = same_Some one.value two.value (one.found
      ∙ ap (λ (o : ℕ). option_or (M.written memory o) (M.held memory o)) same ∙ sym two.found) in
      other (one.key ∙ ap key_of value ∙ sym two.key)

  -- ---- what is let go

  -- an object that is none of the walk's own keeps its read
  pub kept-other : {Own : ℕ → Type 0} {old new : S} (p : ℕ) → LetsGo M Own old new → ¬ Own p →
      M.held new p ≡ M.held old p
  kept-other p lets other =
      elim (lets.held p) [
        | inl same ↦ same
        | inr gone ↦ absurd (other gone.0)
      ]
