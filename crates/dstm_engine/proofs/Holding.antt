-- What is held of an object, by its slots.
use Rattle.std.proofs.Common.{◌&&◌, ◌++◌, ◌==◌, ◌∙◌, ◌∷◌, ◌≡◌, Bool, List, None, [], ap, cond, false, inl, inr, map, not, refl, sym, true, ℕ}
use Rattle.std.specs.Prelude.{IsTrue, is_some}
use Rattle.std.proofs.lemmas.Bool.{cases_Bool}
use Rattle.dstm_engine.proofs.Base.{ReadSlot, Val, WriteSlot, old_values, value_in}
use Rattle.dstm_engine.proofs.Setting.{opened_slot}
use Rattle.dstm_engine.proofs.Tying.{live_there}
use Rattle.dstm_engine.specs.Callers.{Called, entry, held, is_live, is_opened, live_held, live_opened, state}
use Rattle.dstm_engine.specs.Mirror.{Tied, called, slot_old, slot_value}
use Rattle.dstm_engine.specs.declared.caller.Caller.TheInside.{Inside}
use Rattle.dstm_engine.specs.Opened.{read_slot, write_slot}

never_both : (b : Bool) → b && not b ≡ false
never_both true = refl
never_both false = refl

-- an object that is open for writing has an old value
pub old_there : (ws : List WriteSlot) (o : ℕ) → is_some (value_in (map slot_old ws) o) ≡ is_some (write_slot ws o)
old_there [] o = refl
old_there (w ∷ ws) o = elim (cases_Bool (w.object == o)) [
  | inl q ↦ rw q refl
  | inr q ↦ rw q (old_there ws o)
]

-- an object is held, and not open for writing, where it has a read slot and no other
pub held_there : (rs : List ReadSlot) (ws : List WriteSlot) (o : ℕ) →
    is_some (value_in (map slot_value rs ++ map slot_old ws) o) && not (is_some (write_slot ws o))
    ≡ is_some (read_slot rs o) && not (is_some (write_slot ws o))
held_there [] ws o = rw (old_there ws o) (never_both (is_some (write_slot ws o)))
held_there (r ∷ rs) ws o = elim (cases_Bool (r.object == o)) [
  | inl q ↦ rw q refl
  | inr q ↦ rw q (held_there rs ws o)
]

pub both_there : (r w n : Bool) → r ≡ true → w ≡ not n → r && not w ≡ n
both_there r w true q h = rw (q, h) refl
both_there r w false q h = rw (q, h) refl

module _ {L : Type 0} {holds : L → List Val → Type 0} {c : Inside L} (v : Tied holds c) (o : ℕ) where
  -- what is held and not open for writing is told by the slots
  pub is_read_there : c.live ≡ true →
      is_some (live_held (called c) o) && not (live_opened (called c) o)
      ≡ is_some (read_slot c.opened.reads o) && not (is_some (write_slot c.opened.writes o))
  is_read_there live =
      let k = called c in
      let s = c.terms.shape in
      let start = c.terms.start.value.items in
      ap (λ b. is_some (cond b (held k o) None) && not (b && is_opened k o)) (sym (live_there v) ∙ live)
      ∙ ap (λ xs. is_some (value_in (xs ++ old_values s start k.log (state k).writes) o) && not (is_opened k o))
      (v.values live)
      ∙ ap (λ ys. is_some (value_in (map slot_value c.opened.reads ++ ys) o) && not (is_opened k o)) (v.olds live)
      ∙ ap (λ b. is_some (value_in (map slot_value c.opened.reads ++ map slot_old c.opened.writes) o) && not b)
      (opened_slot c.opened.writes (state k).writes o (v.writes live))
      ∙ held_there c.opened.reads c.opened.writes o

  -- an attempt that was left holds nothing
  pub is_read_dead : c.live ≡ false → is_some (live_held (called c) o) && not (live_opened (called c) o) ≡ false
  is_read_dead dead =
      ap (λ b. is_some (cond b (held (called c) o) None) && not (b && is_opened (called c) o))
      (sym (live_there v) ∙ dead)

-- a live attempt holds the values of its reads, and the old ones of the objects open for writing
pub reads_there : {L : Type 0} {holds : L → List Val → Type 0} {c : Inside L} → Tied holds c → {k : Called L} →
    called c ≡ k → IsTrue (is_live k) → map slot_value c.opened.reads ++ map slot_old c.opened.writes ≡ (entry k).reads
reads_there {c = c} v view live =
    let runs : c.live ≡ true = live_there v ∙ ap is_live view ∙ live in
    let here : map slot_value c.opened.reads ++ map slot_old c.opened.writes ≡ (entry (called c)).reads =
    rw (v.values runs, v.olds runs) refl in
    here ∙ ap (λ (k : Called _). (entry k).reads) view
