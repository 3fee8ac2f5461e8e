-- What looks leave, and what follows a stop.
use Rattle.std.proofs.Common.{◌+◌, ◌≤◌, ◌∙◌, ◌≡◌, ap, arith, refl, subst, suc, ℕ, List}
use Rattle.dstm_model.specs.declared.value.Val.{Val}
use Rattle.dstm_tables.specs.Callers.{home_of}
use Rattle.dstm_tables.specs.declared.tables.Caller.{Caller}
use Rattle.dstm_tables.specs.declared.tables.Caller.TheVariants.{Dstm, Tl2}
use Rattle.dstm_attempts.specs.Attempts.{AddsNothing, Attempt, Keeps, LooksChanged, LooksOnce, LooksSame, LooksSpent, begun, clock}
use Rattle.dstm_attempts.specs.Waiting.{RenewsNothing}
use Rattle.dstm_attempts.proofs.UnderWay.{adds_nothing, begins_none, nothing_twice, renews_kept, renews_twice}
use Rattle.dstm_cells.specs.Attempts.{LooksInTurn, StaysFor, StaysLooking, StaysWaiting, looked}
use Rattle.dstm_cells.specs.declared.error.Why.{Why}
use Rattle.dstm_cells.specs.declared.error.Why.TheVariants.{Again, Retry, Foreign, Memory}

module _ {L : Type 0} where
  -- an attempt stays with its engine
  apart : (k n : Caller L) → Keeps k n → home_of n ≡ home_of k
  apart k n keeps = ap (λ (a : Attempt L). a.home) keeps

  pub nothing_added : (k : Caller L) → AddsNothing k k
  nothing_added k = record { home = refl; number = refl; done = refl }

  -- before any look
  pub stays_same : (k : Caller L) → StaysLooking k k
  stays_same (Dstm k) = refl
  stays_same (Tl2 k) = (nothing_added (Tl2 k), omega arith)

  -- a look that has found no change
  pub looks_on : (first k n : Caller L) (since : ℕ) → StaysLooking first k → LooksSame since k n →
      StaysLooking first n × (looked n ≡ looked k + 1)
  looks_on (Dstm first) (Dstm k) (Dstm n) since stays look = (look.0 ∙ stays, look.1)
  looks_on (Tl2 first) (Tl2 k) (Tl2 n) since stays look =
      let one = look.1 in
      let more = stays.1 in
      ((nothing_twice (Tl2 first) (Tl2 k) (Tl2 n) stays.0 look.0, omega (arith, one, more)), one)
  looks_on (Dstm first) (Dstm k) (Tl2 n) since stays look = absurd look
  looks_on (Tl2 first) (Tl2 k) (Dstm n) since stays look = absurd look
  looks_on first k n since stays look = absurd stays

  -- one look more
  pub looks_more : (holds : L → List Val → Type 0) (count : ℕ) (k m n : Caller L) → LooksInTurn holds count k m →
      LooksOnce holds m n → LooksInTurn holds (count + 1) k n
  looks_more holds count k m n before once =
      let next : LooksInTurn holds (suc count) k n = (m, before, once) in
      let one : suc count ≡ count + 1 = omega arith in
      subst (λ c. LooksInTurn holds c k n) one next

  -- and the clock then
  pub still_at : (k n : Caller L) (since : ℕ) → since ≡ clock k → LooksSame since k n → clock n ≡ clock k
  still_at (Dstm k) (Dstm n) since is look = refl
  still_at (Tl2 k) (Tl2 n) since is look = look.2 ∙ is
  still_at k n since is look = absurd look

  -- a look that has found a change
  pub changes_on : (holds : L → List Val → Type 0) (first k n : Caller L) (since : ℕ) → StaysLooking first k →
      LooksChanged holds since k n → StaysLooking first n
  changes_on holds (Dstm first) (Dstm k) (Dstm n) since stays look = look.0 ∙ stays
  changes_on holds (Tl2 first) (Tl2 k) (Tl2 n) since stays look =
      let one = look.1 in
      let more = stays.1 in
      (nothing_twice (Tl2 first) (Tl2 k) (Tl2 n) stays.0 look.0, omega (arith, one, more))
  changes_on holds (Dstm first) (Dstm k) (Tl2 n) since stays look = absurd look
  changes_on holds (Tl2 first) (Tl2 k) (Dstm n) since stays look = absurd look
  changes_on holds first k n since stays look = absurd stays

  -- a look by which no attempt was left
  pub spends_on : (first k n : Caller L) → StaysLooking first k → LooksSpent k n → StaysLooking first n
  spends_on (Tl2 first) (Tl2 k) (Tl2 n) stays look =
      let none = look.1 in
      let more = stays.1 in
      (nothing_twice (Tl2 first) (Tl2 k) (Tl2 n) stays.0 look.0, omega (arith, none, more))
  spends_on (Tl2 first) (Tl2 k) (Dstm n) stays look = absurd look
  spends_on (Dstm first) (Dstm k) (Dstm n) stays look = absurd look
  spends_on (Dstm first) (Dstm k) (Tl2 n) stays look = absurd look
  spends_on first k n stays look = absurd stays

  -- looking has committed nothing, and begun no less
  pub looking_waits : (k n : Caller L) → StaysLooking k n → StaysWaiting k n
  looking_waits (Dstm k) (Dstm n) stays =
      let none = begins_none (Dstm k) (Dstm n) stays in
      record {
        nothing = adds_nothing (Dstm k) (Dstm n) stays;
        begun = omega (arith, none);
        renews = renews_kept (Dstm k) (Dstm n) stays;
      }
  looking_waits (Tl2 k) (Tl2 n) stays = record { nothing = stays.0; begun = stays.1; renews = tt }
  looking_waits (Dstm k) (Tl2 n) stays = absurd stays
  looking_waits (Tl2 k) (Dstm n) stays = absurd stays

  -- an attempt that has let go, and looks behind it
  pub waits_on : (k m n : Caller L) → AddsNothing k m → begun k ≤ begun m → RenewsNothing k m → StaysLooking m n →
      StaysWaiting k n
  waits_on k m n nothing more renews stays =
      let looked = looking_waits m n stays in
      let later = looked.begun in
      record {
        nothing = nothing_twice k m n nothing looked.nothing;
        begun = omega (arith, more, later);
        renews = renews_twice k m n renews looked.renews;
      }

  -- an attempt that stays, behind a wait
  pub waits_kept : (k m n : Caller L) → StaysWaiting k m → Keeps m n → StaysWaiting k n
  waits_kept k m n stays keeps =
      let more = stays.begun in
      let none = begins_none m n keeps in
      record {
        nothing = nothing_twice k m n stays.nothing (adds_nothing m n keeps);
        begun = omega (arith, more, none);
        renews = renews_twice k m n stays.renews (renews_kept m n keeps);
      }

  pub kept_nothing : (k n : Caller L) → Keeps k n → AddsNothing k n × (begun k ≤ begun n)
  kept_nothing k n keeps = let none = begins_none k n keeps in (adds_nothing k n keeps, omega (arith, none))

  -- a stop has committed nothing, and begun no less
  pub stop_nothing : (why : Why) (k n : Caller L) → StaysFor why k n → AddsNothing k n × (begun k ≤ begun n)
  stop_nothing Again k n stays = kept_nothing k n stays
  stop_nothing Retry k n stays = (stays.nothing, stays.begun)
  stop_nothing Foreign k n stays = kept_nothing k n stays
  stop_nothing Memory k n stays = kept_nothing k n stays

  -- an attempt that stays, behind a stop
  pub stop_kept : (why : Why) (k m n : Caller L) → StaysFor why k m → Keeps m n → StaysFor why k n
  stop_kept Again k m n stays keeps = keeps ∙ stays
  stop_kept Retry k m n stays keeps = waits_kept k m n stays keeps
  stop_kept Foreign k m n stays keeps = keeps ∙ stays
  stop_kept Memory k m n stays keeps = keeps ∙ stays
