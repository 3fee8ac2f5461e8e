-- What may come while a caller has no attempt under way: what begins one.
use Rattle.std.proofs.Common.{◌≡◌, ◌≢◌, ◌∷◌, ⊎_elim, Bool, [], ap, is_some, length, refl, true}
use Rattle.dstm_core.proofs.Base.{AllowedAs, Event, LocalState, after, is_one_of, own_attempt}
use Rattle.dstm_order.proofs.Base.{Begin, Check, Drawn, Enrol, Kind, LookStatus, Outside, Paused, PutHigh, Putting, Quit, Rank, Running, Shape, Stamp, ToValidating}

-- kinds of event that come before a Begin, and Begin
abbrev pub is_early : Kind → Bool
is_early = is_one_of (Enrol ∷ Stamp ∷ Rank ∷ Begin ∷ [])

-- no other may come
pub early : (s : Shape) (l : LocalState) (e : Event) (k : Kind) → AllowedAs k s l e → l.phase ≡ Outside →
    is_early k ≡ true
early s l e Enrol a o = refl
early s l e Stamp a o = refl
early s l e Rank a o = refl
early s l e Begin a o = refl
early s l e LookStatus a o =
    absurd (⊎_elim (λ (x : l.phase ≡ Running). cc) (λ (x : l.phase ≡ Paused). cc) a.2.0)
early s l e Check a o =
    absurd (⊎_elim (λ (x : (l.phase ≡ Running) × (is_some l.pass ≡ true)). let y = x.0 in cc)
    (λ (x : l.phase ≡ Drawn). cc) a.2.0)
early s l e PutHigh a o =
    absurd (⊎_elim (λ (x : l.phase ≡ Running). cc) (λ (x : l.phase ≡ Putting). cc) a.2.0)
early s l e ToValidating a o =
    absurd (⊎_elim (λ (x : (l.phase ≡ Running) × (l.writes ≡ [])). let y = x.0 in cc)
    (λ (x : (l.phase ≡ Putting) × (l.written ≡ length l.writes)). let y = x.0 in cc) a.2.0)
early s l e Quit a o = absurd (a.2 o)
early s l e k a o = absurd (let x = a.2.0 in cc)

-- of these only a Begin begins an attempt
pub early_out : (s : Shape) (l : LocalState) (e : Event) (k : Kind) → is_early k ≡ true → l.phase ≡ Outside →
    (after k s l e).phase ≢ Outside → k ≡ Begin
early_out s l e Enrol h o i = absurd (i o)
early_out s l e Stamp h o i = absurd (i o)
early_out s l e Rank h o i = absurd (i o)
early_out s l e Begin h o i = refl
early_out s l e k h o i = absurd (cc)

-- and any other only prepares one
pub outside_keeps : (s : Shape) (l : LocalState) (e : Event) (k : Kind) → AllowedAs k s l e →
    is_some l.number ≡ true → l.phase ≡ Outside → (after k s l e).phase ≡ Outside →
    (own_attempt s (after k s l e) ≡ own_attempt s l) × ((after k s l e).committed ≡ l.committed)
outside_keeps s l e k a n o p = go k a p (early s l e k a o)
  where
    go : (k : Kind) → AllowedAs k s l e → (after k s l e).phase ≡ Outside → is_early k ≡ true →
        (own_attempt s (after k s l e) ≡ own_attempt s l) × ((after k s l e).committed ≡ l.committed)
    go Enrol a p h = absurd (let x = ap is_some a.2 in cc)
    go Begin a p h = absurd (cc)
    go Stamp a p h = (refl, refl)
    go Rank a p h = (refl, refl)
    go k a p h = absurd (cc)
