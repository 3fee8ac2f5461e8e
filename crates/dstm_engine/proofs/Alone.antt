-- The laws of progress, as a caller's log has them.
use Rattle.std.proofs.Common.{◌&&◌, ◌++◌, ◌+◌, ◌*◌, ◌==◌, ◌≤◌, ◌∙◌, ◌∷◌, ◌≡◌, ◌⊎◌, List, [], ap, arith, false, inl, inr, length, refl, subst, sym, true, ℕ}
use Rattle.std.proofs.lemmas.List.{append_cancel_right}
use Rattle.std.proofs.lemmas.Bool.{and_parts, cases_Bool, cond_both, eq-eqb, eqb-true}
use Rattle.std.proofs.lemmas.List.Elements.{filter-append}
use Rattle.dstm_engine.proofs.Base.{AloneBound, AloneCommits, AreCalls, AreOf, Begin, Core, Event, IsAlone, IsUnmet, Kind, LocalState, Outside, PricesByCount, Shape, all_events, count, events_of, is_begin, local}
use Rattle.dstm_machines.proofs.Attempts.{log_parts}
use Rattle.dstm_managers.specs.Meetings.{most_turns}
use Rattle.dstm_order.specs.Counts.{Counts, counted, counts_after, counts_of}
use Rattle.dstm_progress.proofs.Beginnings.{begin_kind}
use Rattle.dstm_progress.proofs.Others.{all_own}
use Rattle.dstm_progress.specs.Alone.{is_open}
use Rattle.dstm_engine.specs.Callers.{Called, begun_log, shape_of, since_begin, state}
use Rattle.dstm_engine.specs.Calls.{IsTold}
use Rattle.dstm_engine.specs.Outcomes as outcomes

-- where no other made a step since, the events since the Begin are those of the calls
since_is : (c : ℕ) (log calls : List Event) → events_of c log ≡ calls ++ events_of c (begun_log c log) →
    AreOf c (since_begin c log) → since_begin c log ≡ calls
since_is c log calls told own =
    append_cancel_right (since_begin c log) calls (events_of c (begun_log c log))
    (ap (λ xs. xs ++ events_of c (begun_log c log)) (sym (all_own c (since_begin c log) own))
    ∙ sym (filter-append (λ (e : Event). e.caller == c) (since_begin c log) (begun_log c log))
    ∙ ap (events_of c) (sym (log_parts is_begin c log)) ∙ told)

-- what stood at the last Begin, if there is one
pub record Begun (c : ℕ) (log : List Event) : Type 0 where
  pub begin : Event
  pub before : List Event
  pub is : begun_log c log ≡ begin ∷ before
  pub kind : begin.kind ≡ Begin
  pub own : begin.caller ≡ c

pub begun_at : (c : ℕ) (log : List Event) → (begun_log c log ≡ [] → ⊥) → Begun c log
begun_at c [] h = absurd (h refl)
begun_at c (e ∷ log) h = go (begun_at c log) (cases_Bool ((e.caller == c) && is_begin e.kind))
  where
    go : ((begun_log c log ≡ [] → ⊥) → Begun c log) →
        ((e.caller == c) && is_begin e.kind ≡ true) ⊎ ((e.caller == c) && is_begin e.kind ≡ false) → Begun c (e ∷ log)
    go ih (inl q) = let two = and_parts (e.caller == c) (is_begin e.kind) q in
        record { begin = e; before = log; is = rw q refl; kind = begin_kind e.kind two.1; own = eqb-true e.caller c two.0 }
    go ih (inr q) = let b = ih (λ z. h (rw q z)) in
        record { begin = b.begin; before = b.before; is = rw q b.is; kind = b.kind; own = b.own }

are_right : (c : ℕ) (xs ys : List Event) → AreOf c (xs ++ ys) → AreOf c ys
are_right c [] ys h = h
are_right c (x ∷ xs) ys h = are_right c xs ys h.1

module _ {L : Type 0} {k : Called L} (t : IsTold k) (alone : outcomes.IsAlone k)
    (core : Core (shape_of k) k.log) (b : Begun k.number k.log) where
  since : since_begin k.number k.log ≡ all_events t.calls
  since = since_is k.number k.log (all_events t.calls) t.own alone.own

  -- the log is that of the calls, on what stood at the Begin
  pub whole : k.log ≡ all_events t.calls ++ b.begin ∷ b.before
  whole = log_parts is_begin k.number k.log ∙ rw (since, b.is) refl

  -- so the laws speak of this attempt
  pub alone_is : IsAlone (shape_of k) k.began t.calls b.begin b.before
  alone_is = record {
    core = subst (Core (shape_of k)) whole core;
    begins = b.kind;
    alone = subst (λ c. AreOf c (all_events t.calls)) (sym b.own) (subst (AreOf k.number) since alone.own);
    made =
        subst (λ (l : LocalState). AreCalls (shape_of k) l k.began t.calls)
        (ap (λ xs. local (shape_of k) xs k.number) b.is ∙ ap (λ c. local (shape_of k) (b.begin ∷ b.before) c) (sym b.own))
        t.are_calls;
  }

  unmet_of : IsUnmet (shape_of k) k.number k.log → IsUnmet (shape_of k) b.begin.caller b.before
  unmet_of (inl x) = inl x
  unmet_of (inr x) =
      inr (subst (λ c. AreOf c b.before) (sym b.own)
      (are_right k.number (all_events t.calls) (b.begin ∷ b.before) (subst (AreOf k.number) whole x)).1)

  same_state : local (shape_of k) (all_events t.calls ++ b.begin ∷ b.before) b.begin.caller ≡ state k
  same_state = ap (λ xs. local (shape_of k) xs b.begin.caller) (sym whole) ∙ ap (λ c. local (shape_of k) k.log c) b.own

  -- it is left only by its commit
  pub commits : AloneCommits → (state k).phase ≡ Outside → (state k).committed ≡ true
  commits law out =
      ap (λ (l : LocalState). l.committed) (sym same_state)
      ∙ law (shape_of k) k.began t.calls b.begin b.before alone_is (unmet_of alone.manager) (ap (λ (l : LocalState). l.phase) same_state ∙ out)

-- one event more counts at most one step more
step_counts : (l : LocalState) (n : Counts) (e : Event) (k : Kind) (m : ℕ) → n.steps ≤ m →
    (counts_after k l n e).steps ≤ m + 1
step_counts l n e Begin m h = omega arith
step_counts l n e k m h =
    cond_both (l.begun == 0) n (counted k l n e) (λ (x : Counts). x.steps ≤ m + 1) (λ _. omega arith) (λ _. omega arith)

begin_counts : (l : LocalState) (n : Counts) (e : Event) (k : Kind) → k ≡ Begin → (counts_after k l n e).steps ≡ 1
begin_counts l n e Begin q = refl
begin_counts l n e k q = absurd (cc)

counts_at_most : (s : Shape) (es before : List Event) (begin : Event) → begin.kind ≡ Begin →
    (counts_of s (es ++ begin ∷ before) begin.caller).steps ≤ length es + 1
counts_at_most s [] before begin k =
    let h : (counts_of s (begin ∷ before) begin.caller).steps ≡ 1 = rw (eq-eqb begin.caller begin.caller refl)
    (begin_counts (local s before begin.caller) (counts_of s before begin.caller) begin begin.kind k) in omega arith
counts_at_most s (e ∷ es) before begin k =
    let ih = counts_at_most s es before begin k in
    let l = local s (es ++ begin ∷ before) begin.caller in
    let n = counts_of s (es ++ begin ∷ before) begin.caller in
    cond_both (e.caller == begin.caller) (counts_after e.kind l n e) n (λ (x : Counts). x.steps ≤ length (e ∷ es) + 1)
    (λ _. let q = step_counts l n e e.kind (length es + 1) ih in omega arith) (λ _. omega arith)

-- its steps are within the bound
pub bounded : {L : Type 0} {k : Called L} (t : IsTold k) → Core (shape_of k) k.log → Begun k.number k.log → AloneBound →
    PricesByCount → outcomes.IsBounded k t.calls
bounded {k = k} t core b law sum alone =
    let steps = counts_at_most (shape_of k) (all_events t.calls) b.before b.begin b.kind in
    let few = law (shape_of k) k.began t.calls b.begin b.before (alone_is t alone core b)
    (unmet_of t alone core b alone.manager) in
    let cost = sum (shape_of k).manager t.calls in
    let here : counts_of (shape_of k) k.log k.number
    ≡ counts_of (shape_of k) (all_events t.calls ++ b.begin ∷ b.before) b.begin.caller
    = ap (λ xs. counts_of (shape_of k) xs k.number) (whole t alone core b)
    ∙ ap (λ c. counts_of (shape_of k) (all_events t.calls ++ b.begin ∷ b.before) c) (sym b.own) in
    let same = ap (λ (x : Counts). x.steps) here in
    let more : count is_open t.calls * (most_turns (shape_of k).manager + 16)
    + count is_open t.calls ≡ count is_open t.calls * (most_turns (shape_of k).manager + 17) = omega arith in
    let let_go = t.releases in
    omega arith
