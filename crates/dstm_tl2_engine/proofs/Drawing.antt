-- A caller has drawn no more numbers than were drawn in all, so that 64 bits count them.
use Rattle.std.proofs.Common.{◌≡◌, ◌-◌, ℕ, ap, ◌*◌, ◌+◌, ◌^◌, ◌<◌, ◌≤◌, ◌==◌, List, arith, refl}
use Rattle.std.specs.Prelude.{cond, min, not}
use Rattle.std.proofs.lemmas.List.Filters.{sum_by-filter_both}
use Rattle.std.proofs.lemmas.Nat.{mul-le}
use Rattle.dstm_tl2.specs.Histories.{is_draw}
use Rattle.dstm_tl2.proofs.Clock.{numbers_drawn}
use Rattle.dstm_tl2.proofs.Counts.{clock_bound}
use Rattle.dstm_tl2_steps.specs.Counting.{draws_by}
use Rattle.dstm_tl2_engine.proofs.Base.{View, Event, IsRunOf, Val, table_of}
use Rattle.dstm_tl2_engine.specs.Attempts.{draws}
use Rattle.dstm_tl2_engine.specs.Callers.{TlCalled, seat_view}

pub draws_fit : {L : Type 0} {holds : L → List Val → Type 0} (k : TlCalled L) → IsRunOf holds k.home.terms k.log → draws k < 2 ^ 64
draws_fit k run =
    let own =
    sum_by-filter_both (λ (e : Event). e.caller == k.number) (λ e. not (e.caller == k.number)) (λ _. refl)
    (λ e. cond (is_draw e.kind) 1 0) k.log in
    let all = numbers_drawn (table_of k.home.terms) k.log run.run.run in
    let bound = clock_bound (table_of k.home.terms) k.log run.run.run in
    let most : k.home.terms.callers * k.home.terms.attempts ≤ 64 * 18014398509481984 =
    mul-le _ _ _ _ run.callers run.attempts in
    omega (arith, own, all, bound, most)

-- so what its seat has counted is that
pub draws_told : {L : Type 0} {holds : L → List Val → Type 0} (k : TlCalled L) (view : View L) (told : ℕ) → IsRunOf holds k.home.terms k.log →
    view ≡ seat_view k → told ≡ min (draws_by view) (2 ^ 64 - 1) → told ≡ draws k
draws_told k view told run own is =
    let fit = draws_fit k run in
    let mine : draws_by view ≡ draws k = ap draws_by own in omega (arith, fit, mine, is)
