-- The contest is a core run.
use Rattle.std.proofs.Common.{◌≡◌, ◌∷◌, Bool, List, [], ap, arith, drop, false, cond, inl, inr, length, refl, take, true, ◌⊎◌}
use Rattle.dstm_core.proofs.Base.{Core, Event, Lawful, Val, cases_Bool, continued, core, with_writes}
use Rattle.dstm_opacity.proofs.Base.{Kind, PutNew}
use Rattle.dstm_machines.specs.Examples.{event, val}
use Rattle.dstm_machines.proofs.Fitting.{run_then}
use Rattle.dstm_opacity.specs.Contest.{SomeContest, before_release, lawful, release, rival_commits, rival_kills, rival_reads, run, shape, start, writer_leaves, writer_opens}

abbrev after_release : List Event
after_release = continued (release ∷ before_release) rival_kills

run_fits : Core shape run
run_fits =
    let opened = run_then core shape [] writer_opens tt (grind arith) in
    let read = run_then core shape (continued [] writer_opens) rival_reads opened (grind arith) in
    let killed = run_then core shape (release ∷ before_release) rival_kills (read, grind arith) (grind arith) in
    let left = run_then core shape after_release writer_leaves killed (grind arith) in
    run_then core shape (continued after_release writer_leaves) rival_commits left (grind arith)

-- ---- the law

is_put_new : Kind → Bool
is_put_new PutNew = true
is_put_new k = false

puts_none : List Event → Bool
puts_none [] = true
puts_none (e ∷ events) = cond (is_put_new e.kind) false (puts_none events)

-- events that put no new value keep every law
lawful_then : (before events : List Event) → puts_none events ≡ true → Lawful shape start lawful before →
    Lawful shape start lawful (continued before events)
unfolding puts_none is_put_new
lawful_then before [] q law = law
lawful_then before (e ∷ events) q law = go (cases_Bool (is_put_new e.kind))
    (λ rest now. lawful_then (e ∷ before) events rest now)
  where
    go : (is_put_new e.kind ≡ true) ⊎ (is_put_new e.kind ≡ false) →
        (puts_none events ≡ true → Lawful shape start lawful (e ∷ before) →
        Lawful shape start lawful (continued (e ∷ before) events)) →
        Lawful shape start lawful (continued (e ∷ before) events)
    go (inl z) ih = absurd (let w : false ≡ true = rw z at q in cc)
    go (inr z) ih = ih (rw z at q) (law, λ k. absurd (let w = ap is_put_new k in cc))

-- the map with a value in its first place
first_of : (map : List Val) → length map ≡ 2 → lawful (with_writes map ((0, val 9 0) ∷ []))
first_of [] n = absurd (omega arith)
first_of (x ∷ xs) n = refl

-- the run up to the one event that puts a new value
abbrev opened : List Event
opened = continued (continued after_release writer_leaves) (take 5 rival_commits)

run_lawful : Lawful shape start lawful run
unfolding puts_none is_put_new
run_lawful =
    let before = lawful_then (release ∷ before_release) rival_kills refl (
      lawful_then (continued [] writer_opens) rival_reads refl (lawful_then [] writer_opens refl tt),
      λ k. absurd (cc),
    ) in
    let left = lawful_then after_release writer_leaves refl before in
    let put = lawful_then (continued after_release writer_leaves) (take 5 rival_commits) refl left in
    lawful_then (event 1 (PutNew, 20, 0, 0, 9) ∷ opened) (drop 6 rival_commits) refl
    (put, λ k w map n holds agrees. first_of map n)

-- what the contest shows
pub some_contest : SomeContest
some_contest = record {
  valid = grind arith;
  is_run = record { values = refl; core = run_fits; law = run_lawful };
  binds = λ q. cc;
  has_history = refl;
  aborted = refl;
  left = refl;
  risen = refl;
  was_read = refl;
  let_go = refl;
}
