-- What an event does to the number of attempts that its caller has begun, and to what it has drawn.
use Rattle.std.proofs.Common.{◌≡◌, ◌==◌, ◌≤◌, ◌⊎◌, ◌∷◌, ◌++◌, ℕ, inl, inr, List, [], refl, ap, arith, true, false, None, Some}
use Rattle.dstm_tl2.proofs.Base.{Event, LocalState, Table, after, cases_Bool, cond_both, is_draw, is_sample, local, lock, look_of, record_read, tl2}
use Rattle.dstm_tl2.specs.declared.kind.Kind.{Kind}
use Rattle.dstm_tl2.specs.declared.kind.Kind.TheVariants.{Draw, Lock, LookAgain, Sample}
use Rattle.dstm_machines.proofs.Own.{local_mine, local_others}
use Rattle.dstm_tl2_order.specs.Calls.{state_after}

-- no event lowers it
begun_step : (t : Table) (l : LocalState) (e : Event) (k : Kind) → l.begun ≤ (after k t l e).begun
begun_step t l e Sample = omega arith
begun_step t l e LookAgain =
    cond_both (e.found == (look_of l).word) (record_read l) (record l { look = None })
    (λ (m : LocalState). l.begun ≤ m.begun) (λ _. omega arith) (λ _. omega arith)
begun_step t l e (Lock w) =
    cond_both (e.found == e.expected) (lock l w.value)
    (record l { look = None; writes = Some w.value; failed = true })
    (λ (m : LocalState). l.begun ≤ m.begun) (λ _. omega arith) (λ _. omega arith)
begun_step t l e k = omega arith

pub begun_up : (t : Table) (c : ℕ) (more es : List Event) → (local t es c).begun ≤ (local t (more ++ es) c).begun
begun_up t c [] es = omega arith
begun_up t c (e ∷ more) es = go (cases_Bool (e.caller == c)) (begun_up t c more es)
  where
    go : (e.caller == c ≡ true) ⊎ (e.caller == c ≡ false) → (local t es c).begun ≤ (local t (more ++ es) c).begun →
        (local t es c).begun ≤ (local t (e ∷ (more ++ es)) c).begun
    go (inl q) ih =
        let mine = ap (λ (l : LocalState). l.begun) (local_mine tl2 t (more ++ es) e c q) in
        let up = begun_step t (local t (more ++ es) c) e e.kind in omega (arith, mine)
    go (inr q) ih =
        let same = ap (λ (l : LocalState). l.begun) (local_others tl2 t (more ++ es) e c q) in omega (arith, same)

-- the same over the events of a call
pub state_up : (t : Table) (l : LocalState) (es : List Event) → l.begun ≤ (state_after t l es).begun
state_up t l [] = omega arith
state_up t l (e ∷ es) =
    let ih = state_up t l es in let up = begun_step t (state_after t l es) e e.kind in omega arith

-- An event that neither begins an attempt nor draws.
pub record Rests (l m : LocalState) : Type 0 where
  pub begun : m.begun ≡ l.begun
  pub drawn : m.drawn ≡ l.drawn

pub rests : (t : Table) (l : LocalState) (e : Event) (k : Kind) → is_sample k ≡ false → is_draw k ≡ false →
    Rests l (after k t l e)
rests t l e Sample s d = absurd (cc)
rests t l e (Draw w) s d = absurd (cc)
rests t l e LookAgain s d =
    cond_both (e.found == (look_of l).word) (record_read l) (record l { look = None }) (Rests l)
    (λ _. record { begun = refl; drawn = refl }) (λ _. record { begun = refl; drawn = refl })
rests t l e (Lock w) s d =
    cond_both (e.found == e.expected) (lock l w.value)
    (record l { look = None; writes = Some w.value; failed = true }) (Rests l)
    (λ _. record { begun = refl; drawn = refl }) (λ _. record { begun = refl; drawn = refl })
rests t l e k s d = record { begun = refl; drawn = refl }
