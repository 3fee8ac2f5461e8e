-- An attempt that began with a locator for each object does not run out of them.
use Rattle.std.proofs.Common.{◌++◌, ◌+◌, ◌≤◌, ◌∙◌, ◌∷◌, ◌≡◌, List, ap, arith, false, length, not, subst, sym, ℕ, refl}
use Rattle.std.specs.Prelude.{nat_lt}
use Rattle.std.proofs.lemmas.Bool.Decides.{nat_tests}
use Rattle.std.proofs.lemmas.Bool.{or_parts}
use Rattle.dstm_engine.proofs.Base.{Begin, Event, LocalState, Shape, is_begin, is_spent, local}
use Rattle.dstm_machines.proofs.Attempts.{log_parts}
use Rattle.dstm_core.proofs.Spare.{locators_used}
use Rattle.dstm_core.proofs.Static.{local_own}
use Rattle.dstm_engine.proofs.Alone.{Begun}
use Rattle.dstm_engine.proofs.BegunThere.{begun_there}
use Rattle.dstm_engine.specs.Callers.{begun_log, since_begin}

begins_one : (s : Shape) (before : List Event) (e : Event) → e.kind ≡ Begin →
    (local s (e ∷ before) e.caller).begun ≡ (local s before e.caller).begun + 1
begins_one s before e kind = rw (local_own s before e, kind) refl

-- it has used a locator for each object that it has open for writing
used : (s : Shape) {c : ℕ} {log : List Event} (b : Begun c log) →
    (local s log c).installed ≡ (local s b.before c).installed + length (local s log c).writes
used s {c = c} {log = log} b =
    let whole : log ≡ since_begin c log ++ b.begin ∷ b.before =
    log_parts is_begin c log ∙ ap (λ xs. since_begin c log ++ xs) b.is in
    let begun : (local s (since_begin c log ++ b.begin ∷ b.before) b.begin.caller).begun
    ≡ (local s b.before b.begin.caller).begun + 1 =
    ap (λ xs. (local s xs b.begin.caller).begun) (sym whole) ∙ ap (λ n. (local s log n).begun) b.own
    ∙ begun_there s c log ∙ ap (λ xs. (local s xs c).begun) b.is
    ∙ ap (λ n. (local s (b.begin ∷ b.before) n).begun) (sym b.own) ∙ begins_one s b.before b.begin b.kind in
    subst (λ n. (local s log n).installed ≡ (local s b.before n).installed + length (local s log n).writes) b.own
    (subst (λ xs. (local s xs b.begin.caller).installed
    ≡ (local s b.before b.begin.caller).installed + length (local s xs b.begin.caller).writes) (sym whole)
    (locators_used s (since_begin c log) b.before b.begin b.kind begun))

-- so what is left for the other objects stays enough as the attempt goes on
pub enough_still : (s : Shape) {c : ℕ} {old : List Event} (log : List Event) → Begun c old → begun_log c log
    ≡ begun_log c old → (local s old c).installed + s.objects ≤ s.locators + length (local s old c).writes →
    (local s log c).installed + s.objects ≤ s.locators + length (local s log c).writes
enough_still s {c = c} log b same room =
    let was = used s b in
    let now = used s {c = c} {log = log} (record {
      begin = b.begin;
      before = b.before;
      is = same ∙ b.is;
      kind = b.kind;
      own = b.own;
    }) in omega arith

-- a caller that is not spent has a locator for each object
pub unspent_enough : (s : Shape) (l : LocalState) → is_spent s l ≡ false → l.installed + s.objects ≤ s.locators
unspent_enough s l h =
    let x = (or_parts (not (nat_lt l.begun s.attempts)) (nat_lt s.locators (l.installed + s.objects)) h).1 in
    grind (arith, nat_tests)
