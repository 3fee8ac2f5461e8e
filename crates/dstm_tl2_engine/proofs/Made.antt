-- An attempt that was made, from the clauses of its calls.
use Rattle.std.proofs.Common.{◌≡◌, ◌⊎◌, ◌++◌, ◌∙◌, ◌∷◌, ℕ, List, [], arith, inl, inr, refl, sym, ap, subst, length}
use Rattle.std.specs.Prelude.{Bool, IsSome, Option, None, Some, false, is_some, true, ◌+◌}
use base.Fml.{GName}
use Rattle.dstm_tl2_engine.proofs.Base.{Agrees, AgreesWith, Committing, Doing, Event, Home, IsRunOf, LawfulRun, TlAgain, Val, history_of, is_sample, is_valid, with_set, with_writes}
use Rattle.dstm_model.specs.Map.{state_after}
use Rattle.dstm_model.proofs.Entries.{states_keep_length}
use Rattle.dstm_machines.proofs.Attempts.{log_parts}
use Rattle.dstm_machines.proofs.Pasts.{past_past}
use Rattle.dstm_tl2.proofs.Standing.{done_stands}
use Rattle.dstm_tl2_engine.specs.Attempts.{Admits, Committed, Commits, CommitsRun, Seen, Settles, StandsIn, done}
use Rattle.dstm_tl2_engine.specs.Callers.{TlCalled, begun_log, held, is_opened, law_of, objects_of, since_sample, start_of, state, table_of_caller, written}
use Rattle.dstm_tl2_engine.specs.Calls.{IsMade, IsTold, Performs}
use Rattle.dstm_tl2_engine.specs.Endings.{Attempts}
use Rattle.dstm_tl2_engine.specs.Transactions.{BeginsAnew, TxPlace, tx_place}
use Rattle.dstm_tl2_engine.proofs.Begun.{begun_count}
use Rattle.dstm_mem.proofs.Settling.{agrees_held, writes_same}

-- a value that is set changes no map that is admitted
pub set_admits : {L : Type 0} (holds : L → List Val → Type 0) (k : TlCalled L) {n : TlCalled L} →
    n ≡ record k { writes = n.writes; set = n.set } →
    (map : List Val) → (Admits holds n map → Admits holds k map) × (Admits holds k map → Admits holds n map)
set_admits holds k {n = n} same map = (
  (λ a. out n.writes n.set (subst (λ m. Admits holds m map) same a)),
  (λ a. subst (λ m. Admits holds m map) (sym same) (back n.writes n.set a)),
)
  where
    out : (w s : List (ℕ × Val)) → Admits holds (record k { writes = w; set = s }) map → Admits holds k map
    out w s a = record { length = a.length; lawful = a.lawful; agrees = a.agrees }

    back : (w s : List (ℕ × Val)) → Admits holds k map → Admits holds (record k { writes = w; set = s }) map
    back w s a = record { length = a.length; lawful = a.lawful; agrees = a.agrees }

-- a caller is itself with what its last attempt was left for
pub still : {L : Type 0} (k : TlCalled L) (again : Option TlAgain) → k.left ≡ again → k ≡ record k { log = k.log; left = again }
still k again is = ap (λ (l : Option TlAgain). record k { left = l }) is

module _ {L : Type 0} (holds : L → List Val → Type 0) (k b t : TlCalled L) (r q : GName) (h j : Home L)
    (begins : BeginsAnew holds k b) (place : tx_place r h t ≡ tx_place q j b) where
  pub home : t.home ≡ k.home
  home = ap (λ (p : TxPlace L). p.home) place ∙ ap (λ (c : TlCalled L). c.home) begins.caller

  pub number : t.number ≡ k.number
  number = ap (λ (p : TxPlace L). p.number) place ∙ ap (λ (c : TlCalled L). c.number) begins.caller

  pub same_done : done t ≡ done k
  same_done = ap (λ (p : TxPlace L). p.done) place ∙ begins.same_done

  -- the last call on the attempt went on with the log, and answered this
  pub made : (n : TlCalled L) (again : Option TlAgain) → n ≡ record t { log = n.log; left = again } →
      begun_log n.number n.log ≡ begun_log t.number t.log → (state n).holds ≡ [] →
      (again ≡ None → is_valid (state n) ≡ true) → Seen holds n → IsRunOf holds t.home.terms n.log →
      (IsMade n → IsTold n) → Attempts holds k n again
  made n again kept log free valid seen run told = record {
    began = b;
    begins = begins.steps;
    at_begin = there;
    told = told (omega (arith, counted), ending again kept valid);
    answers = sym (ap (λ (c : TlCalled L). c.left) kept);
    free = free;
    valid = valid;
    begun = counted;
    seen = seen;
    past =
        past_past k.log b.log n.log begins.steps.seen (record {
          later = since_sample n.number n.log;
          whole = ap (λ xs. since_sample n.number n.log ++ xs) there ∙ sym (log_parts is_sample n.number n.log);
        });
    run = subst (λ (x : Home L). IsRunOf holds x.terms n.log) home run;
    same = (nh ∙ home, nn ∙ number);
  }
    where
      ending : (again : Option TlAgain) → n ≡ record t { log = n.log; left = again } →
          (again ≡ None → is_valid (state n) ≡ true) →
          IsSome n.left ⊎ ((is_valid (state n) ≡ true) ⊎ ((state n).gave_back ≡ false))
      ending None kept valid = inr (inl (valid refl))
      ending (Some why) kept valid = inl (ap (λ (c : TlCalled L). is_some c.left) kept)

      nh : n.home ≡ t.home
      nh = ap (λ (c : TlCalled L). c.home) kept

      nn : n.number ≡ t.number
      nn = ap (λ (c : TlCalled L). c.number) kept

      there : b.log ≡ begun_log n.number n.log
      there = begins.at_begin ∙ sym (ap (λ (p : TxPlace L). p.began) place) ∙ sym log

      home_b : n.home ≡ b.home
      home_b = nh ∙ ap (λ (p : TxPlace L). p.home) place

      number_b : n.number ≡ b.number
      number_b = nn ∙ ap (λ (p : TxPlace L). p.number) place

      -- the calls on the attempt began no other
      counted : (state n).begun ≡ (state k).begun + 1
      counted = begun_count (table_of_caller n) n.number n.log ∙ rw (← there, home_b, number_b, begins.begun.1) refl

  -- it has committed, and its body was right for every map that it admits
  pub settled : (is_right : List Val → List Val → Type 0) (n : TlCalled L) (drawn : ℕ) (left : Option TlAgain) →
      n ≡ record t { log = n.log; left = left } → IsRunOf holds t.home.terms n.log → Commits t n drawn →
      ((map : List Val) → Admits holds t map → is_right map (with_set map (written t))) →
      Settles holds is_right k n drawn
  settled is_right n drawn left kept run commits right = record {
    entry = commits.entry;
    done = told;
    right = right_for;
    in_runs = λ later core. record { stands = stands later core; right = in_run later (stands later core) };
  }
    where
      nh : n.home ≡ t.home
      nh = ap (λ (c : TlCalled L). c.home) kept

      told : done n ≡ record { caller = k.number; number = drawn; entry = commits.entry } ∷ done k
      told =
          commits.done
          ∙ ap (λ c. record { caller = c; number = drawn; entry = commits.entry } ∷ done t) number
          ∙ ap (λ (xs : List Committed). record { caller = k.number; number = drawn; entry = commits.entry } ∷ xs)
          same_done

      right_for : (map : List Val) → length map ≡ objects_of k → holds (law_of k) map → Agrees map commits.entry.reads →
          is_right map (with_writes map commits.entry.writes)
      right_for map size lawful agrees =
          let all : AgreesWith map (held t) = agrees_held map (held t) commits.entry.reads agrees commits.reads in
          subst (is_right map)
          (writes_same map (held t) (written t) (is_opened t) commits.entry.writes all commits.writes commits.only)
          (right map (record {
            length = size ∙ sym (ap (λ (x : Home L). length x.terms.start.value.items) home);
            lawful = subst (λ (x : Home L). holds x.terms.law.value map) (sym home) lawful;
            agrees = all;
          }))

      stands : (later : List Event) → LawfulRun (table_of_caller n) (holds (law_of n)) (later ++ n.log) →
          StandsIn (table_of_caller n) (holds (law_of n)) (history_of (table_of_caller n) (later ++ n.log)) commits.entry
      stands later core =
          done_stands (table_of_caller n) (holds (law_of n)) later n.log n.number
          (record { caller = k.number; number = drawn; entry = commits.entry }) core
          (record { newer = []; older = done k; is = told })

      in_run : (later : List Event) → (st : StandsIn (table_of_caller n) (holds (law_of n))
          (history_of (table_of_caller n) (later ++ n.log)) commits.entry) →
          is_right (state_after (start_of n) st.before)
          (with_writes (state_after (start_of n) st.before) commits.entry.writes)
      in_run later st =
          let same : n.home ≡ k.home = nh ∙ home in
          let ok : holds (law_of n) (start_of n) =
          subst (λ (x : Home L). holds x.terms.law.value x.terms.start.value.items) (sym nh) run.lawful in
          right_for (state_after (start_of n) st.before) (states_keep_length (start_of n) st.before
          ∙ ap (λ (x : Home L). length x.terms.start.value.items) same)
          (subst (λ (x : Home L). holds x.terms.law.value (state_after (start_of n) st.before)) same (st.lawful ok))
          st.reads

  -- and it is what the run of its body left
  pub runs : (is_right : List Val → List Val → Type 0) (leaves : (ℕ → Option Val) → (ℕ → Bool) → Type 0)
      {n : TlCalled L} {drawn : ℕ} → Commits t n drawn →
      ((map : List Val) → Admits holds t map → is_right map (with_set map (written t))) → leaves (held t) (is_opened t) →
      Performs holds (Doing (Committing t.writes)) t n None → CommitsRun holds is_right leaves k n drawn
  runs is_right leaves commits right left commit = record {
    ran = t;
    same = (home, number);
    right = right;
    left = left;
    commits = commits;
    commit = commit;
  }

  -- the reference that the attempt has is the one that it was begun with
  pub same_name : (s : GName) → q ≡ s → s ≡ r
  same_name s own = sym (ap (λ (p : TxPlace L). p.reference) place ∙ own)
