-- A call counts its exchanges that failed, those on the own status aside.
use Rattle.std.proofs.Common.{◌≡◌, ◌+◌, ◌==◌, ◌∙◌, Bool, true, false, not, [], ◌∷◌, refl, ap, if◌then◌else◌}
use Rattle.dstm_core.proofs.Base.{Event, LocalState, cond_both}
use Rattle.dstm_order.proofs.Base.{Effort, EveryMissCounts, Install, Kill, Kind, LookStatus, Manager, Paused, Phase, chosen, effort_after, effort_of, is_miss, is_turn, state_after, turn, turn_in, turns_of, when_asked}

exchange_missed : (c : Effort) (e : Event) →
    (if e.found == e.expected then c else record c { missed = c.missed + 1 }).missed
    ≡ (if not (e.found == e.expected) then c.missed + 1 else c.missed)
exchange_missed c e = go (e.found == e.expected)
  where
    go : (b : Bool) →
        (if b then c else record c { missed = c.missed + 1 }).missed ≡ (if not b then c.missed + 1 else c.missed)
    go true = refl
    go false = refl

pub turn_missed : (p : Phase) (m : Manager) (l : LocalState) (c : Effort) → (turn_in p m l c).missed ≡ c.missed
turn_missed Paused m l c = refl
turn_missed p m l c = cond_both (c.left == 0) (turn (turns_of (chosen m l c)) (when_asked m l c)) (turn c.left c)
    (λ (x : Effort). x.missed ≡ c.missed) (λ _. refl) (λ _. refl)

missed_after : (k : Kind) (m : Manager) (l : LocalState) (c : Effort) (e : Event) →
    (effort_after k m l c e).missed ≡ (if is_miss k e then c.missed + 1 else c.missed)
missed_after Install m l c e = exchange_missed c e
missed_after Kill m l c e = exchange_missed c e
missed_after LookStatus m l c e = cond_both (is_turn LookStatus l) (turn_in l.phase m l c) c
    (λ (x : Effort). x.missed ≡ c.missed) (λ _. turn_missed l.phase m l c) (λ _. refl)
missed_after k m l c e = refl

pub missed_is : EveryMissCounts
missed_is s l g [] = refl
missed_is s l g (e ∷ es) =
    missed_after e.kind s.manager (state_after s l es) (effort_of s l g es) e
    ∙ ap (λ n. if is_miss e.kind e then n + 1 else n) (missed_is s l g es)
