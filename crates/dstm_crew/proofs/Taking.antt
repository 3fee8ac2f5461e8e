-- The founder of a table takes the callers of workers back, one after the other.
use Rattle.std.proofs.Common.{◌≡◌, ◌∙◌, ◌+◌, ◌-◌, ◌++◌, ◌∷◌, ℕ, List, [], length, map, refl, sym, ap, subst, arith, append_assoc}
use Rattle.std.specs.Prelude.{All, Contains}
use Rattle.std.proofs.lemmas.List.{map_push}
use Rattle.std.proofs.lemmas.List.Elements.{All-cons, All-head, All-nil, All-push, All-tail, All-weaker, Contains-append_right}
use Rattle.dstm_jobs.specs.Tables.{Founder, Round, Table}
use Rattle.dstm_tables.specs.Callers.{number_of, round_of}
use Rattle.dstm_tables.specs.Founders.{TakesBack, numbers_of, seen_by}
use Rattle.dstm_tables.specs.Tells.{IsPast, SameOwn}
use Rattle.dstm_tables.proofs.Staying.{own_trans, past_trans}
use Rattle.dstm_crew.specs.declared.worker.Worker.{Worker}
use Rattle.dstm_crew.specs.Seats.{HasBack, IsKnownBy, RestsAt, caller_number}

-- a longer log has what a shorter one had, where no events of its callers were made
known_later : (old new : Round) (numbers : List ℕ) → ((n : ℕ) → Contains numbers n → SameOwn n old new) → IsPast old new →
    (workers : List Worker) → All (λ (worker : Worker). Contains numbers (caller_number worker)) workers →
    All (λ (worker : Worker). IsKnownBy old worker.caller) workers → All (λ (worker : Worker). IsKnownBy new worker.caller) workers
known_later old new numbers quiet past [] among known = All-nil (λ (worker : Worker). IsKnownBy new worker.caller)
known_later old new numbers quiet past (worker ∷ workers) among known =
    let A : Worker → Type 0 = λ w. Contains numbers (caller_number w) in
    let P : Worker → Type 0 = λ w. IsKnownBy old w.caller in
    let Q : Worker → Type 0 = λ w. IsKnownBy new w.caller in
    let here = All-head P worker workers known in
    All-cons Q worker workers (record {
      past = past_trans (round_of worker.caller) old new here.past past;
      own = own_trans (number_of worker.caller) (round_of worker.caller) old new here.own
          (quiet (number_of worker.caller) (All-head A worker workers among));
    })
    (known_later old new numbers quiet past workers (All-tail A worker workers among) (All-tail P worker workers known))

-- the numbers of workers are among their numbers
are_among : (workers : List Worker) → All (λ (worker : Worker). Contains (map caller_number workers) (caller_number worker)) workers
are_among [] = All-nil (λ (worker : Worker). Contains [] (caller_number worker))
are_among (worker ∷ workers) =
    let numbers = map caller_number workers in
    let A : Worker → Type 0 = λ w. Contains (caller_number worker ∷ numbers) (caller_number w) in
    All-cons A worker workers (0, omega arith, refl) (All-weaker (λ (w : Worker). Contains numbers (caller_number w)) A
    (λ w in_rest. Contains-append_right (caller_number worker ∷ []) numbers (caller_number w) in_rest) workers (are_among workers))

module _ (table : Table) where
  module _ (out : ℕ) {workers : List Worker} {f g : Founder} (worker : Worker)
      (back : HasBack table (out + 1) workers f)
      (takes : TakesBack f g worker.caller) where
    known_there : All (λ (w : Worker). IsKnownBy (seen_by g) w.caller) workers
    known_there =
        known_later (seen_by f) (seen_by g) (numbers_of f) takes.kept takes.past workers
        (subst (λ (ns : List ℕ). All (λ (w : Worker). Contains ns (caller_number w)) workers) (sym back.numbers)
        (are_among workers)) back.known

    one_back : HasBack table out (workers ++ worker ∷ []) g
    one_back = record {
      home = takes.home ∙ back.home;
      guests = takes.guests ∙ back.guests;
      out = takes.out ∙ ap (λ (n : ℕ). n - 1) back.out ∙ less out;
      numbers = takes.back ∙ ap (λ (ns : List ℕ). ns ++ number_of worker.caller ∷ []) back.numbers
          ∙ sym (map_push caller_number workers worker);
      apart = takes.apart;
      known =
          All-push (λ (w : Worker). IsKnownBy (seen_by g) w.caller) workers worker known_there
          (record { past = takes.other_past; own = takes.other_kept });
    }
      where
        less : (n : ℕ) → n + 1 - 1 ≡ n
        less n = omega arith

  -- these were taken back, and these are left
  pub record Takes (workers now left : List Worker) (f : Founder) : Type 0 where
    pub are : now ++ left ≡ workers
    pub rest : All (λ (worker : Worker). RestsAt table worker.caller) left
    pub back : HasBack table (length left) now f

  pub takes_one : {workers now : List Worker} (left : List Worker) {f g : Founder} (worker : Worker) → Takes workers
      now (worker ∷ left) f →
      TakesBack f g worker.caller → Takes workers (now ++ worker ∷ []) left g
  takes_one {now = now} left {f = f} {g = g} worker takes taken =
      let P : Worker → Type 0 = λ w. RestsAt table w.caller in record {
        are = append_assoc now (worker ∷ []) left ∙ takes.are;
        rest = All-tail P worker left takes.rest;
        back =
            one_back (length left) worker
            (subst (λ (n : ℕ). HasBack table n now f) (longer worker left) takes.back) taken;
      }
    where
      longer : (w : Worker) (ws : List Worker) → length (w ∷ ws) ≡ length ws + 1
      longer w ws = omega arith
