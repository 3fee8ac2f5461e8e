-- Passes and last validations: what stands before the event that ends one.
use Rattle.std.proofs.Common.{◌≡◌, ◌≢◌, ◌⊎◌, ℕ, ◌+◌, ◌<◌, ◌==◌, ◌||◌, ◌∙◌, Bool, true, false, not, List, [], ◌∷◌, ◌++◌, length, Some, None, refl, ap, sym, subst, inl, inr, arith, add-one, Option, if◌then◌else◌, slice_get}
use Rattle.dstm_core.proofs.Base.{Event, LocalState, after, cond_both, eqb-true, is_outside, next_read, or_parts, or_read}
use Rattle.dstm_order.proofs.Base.{AreChecks, Check, Commit, Doing, Done, Draw, Drawn, Due, Effort, EveryPassIsComplete, IsDue, Kind, Lcg, LookNumber, LookSelf, Manager, Obeys, Phase, Quit, Shape, Step, Validates, Work, at_first, checks_needed, due, due_after, effort_of, in_checking, in_checks, in_pass, in_resolving, is_same, just, most_missed, newest_of, next, next_or_first, state_after, when_resolved}
use Rattle.dstm_order.proofs.Rows.{EachStep, is_step, is_test, resolves, resolves_by, first_by, resolved_by, next_by, giving_way_by, resolving_by, checking_by}

-- ---- the rows in which a check, or the end of some checks, is due

abbrev pub tests : Due → Bool
tests (Step k n) = is_test k
tests Done = false

abbrev pub NoTest : Due → Type 0
NoTest d = tests d ≡ false

steps_no : (w : Work) → EachStep NoTest w
steps_no w = record { done = refl; step = λ k n q. no k q; release = λ o q. refl }
  where
    no : (k : Kind) → is_step k ≡ true → is_test k ≡ false
    no Check q = absurd (cc)
    no k q = cc

resolving_no : (w : Work) (m : Manager) (l : LocalState) (c : Effort) → NoTest (in_resolving m l c (when_resolved w))
resolving_no w m l c =
    resolving_by NoTest m l c (when_resolved w) (resolves_by NoTest no) (λ _. giving_way_by NoTest l c refl refl refl)
    (resolved_by NoTest w (steps_no w))
  where
    no : (k : Kind) → resolves k ≡ true → NoTest (just k)
    no Check q = absurd (cc)
    no k q = cc

pub first_no : (w : Work) (l : LocalState) → NoTest (at_first w l)
first_no w l = first_by l (steps_no w)

-- such a row is that of a LookNumber, a Check or a Draw
pub row_tests : (k : Kind) (e : Event) (w : Work) (m : Manager) (l : LocalState) (c : Effort) →
    (k ≡ LookNumber) ⊎ (k ≡ Check) ⊎ (k ≡ Draw) ⊎ NoTest (next k e w m l c)
row_tests LookNumber e w m l c = inl refl
row_tests Check e w m l c = inr (inl refl)
row_tests Draw e w m l c = inr (inr (inl refl))
row_tests k e w m l c =
    inr (inr (inr (next_by k e m l c (steps_no w) (resolving_no w m l c) (λ j tested q. absurd (cc)))))

-- ---- a call on a live attempt that goes on

-- where something other than a Quit is due, the table says it, and no read was found stale
pub record GoesOn (w : Work) (s : Shape) (newest : Option Event) (l : LocalState) (c : Effort) (d : Due) : Type 0 where
  pub agreed : l.stale ≡ false
  pub table : next_or_first newest w s.manager l c ≡ d

abbrev pub goes : Due → Bool
goes Done = false
goes (Step Quit n) = false
goes (Step k n) = true

pub goes_on : (w : Work) (s : Shape) (newest : Option Event) (l : LocalState) (c : Effort) {d : Due} →
    due (Doing w) s newest l c ≡ d → goes d ≡ true → GoesOn w s newest l c d
goes_on w s newest l c {d = d} q h =
    cond_both (is_outside l.phase) Done (if l.stale || c.missed == most_missed then just Quit else table) Goal
    (λ _ p. let x = ap goes p in absurd (cc))
    (λ _. cond_both (l.stale || c.missed == most_missed) (just Quit) table Goal
    (λ _ p. let x = ap goes p in absurd (cc))
    (λ r p. record { agreed = (or_parts l.stale (c.missed == most_missed) r).0; table = p })) q
  where
    table : Due
    table = next_or_first newest w s.manager l c

    Goal : Due → Type 0
    Goal x = x ≡ d → GoesOn w s newest l c d

-- an event that was due is of the kind that was
pub due_kind : (d : Due) (e : Event) {k : Kind} → IsDue d e → e.kind ≡ k → (n : ℕ) × (d ≡ Step k n)
due_kind (Step j n) e is q = (n, ap (λ x. Step x n) (sym is.0 ∙ q))
due_kind Done e is q = absurd is

-- ---- the checks after an event that finds a number

-- what is due in them
abbrev row_by : (LocalState → Option ℕ) → Kind → LocalState → Due
row_by number last l = if l.checked == length l.reads || is_same l.last_pass (number l) then just last else just Check

-- where a check is due there, the number is not that of the last pass; where the end is, enough is checked
check_needed : (number : LocalState → Option ℕ) (last : Kind) (l : LocalState) (n : ℕ) →
    (last ≡ Check → ⊥) → row_by number last l ≡ Step Check n → is_same l.last_pass (number l) ≡ false
check_needed number last l n other q =
    cond_both (l.checked == length l.reads || is_same l.last_pass (number l)) (just last) (just Check)
    (λ d. d ≡ Step Check n → is_same l.last_pass (number l) ≡ false) (λ _ p. absurd (other (cc)))
    (λ r _. (or_parts (l.checked == length l.reads) (is_same l.last_pass (number l)) r).1) q

-- what stands at the end: an event that finds a number, and the checks made since
pub record Chain (first last : Kind) (number : LocalState → Option ℕ) (s : Shape) (l : LocalState) (w : Work) (g : Lcg)
    (es : List Event) : Type 0 where
  pub checks : List Event
  pub begin : Event
  pub before : List Event
  pub are : es ≡ checks ++ begin ∷ before
  pub begins : begin.kind ≡ first
  pub checked : AreChecks (state_after s l (begin ∷ before)).reads checks
  pub count : (state_after s l es).checked ≡ length checks
  pub reads : (state_after s l es).reads ≡ (state_after s l (begin ∷ before)).reads
  pub same : (state_after s l es).last_pass ≡ (state_after s l (begin ∷ before)).last_pass
  pub found : number (state_after s l es) ≡ Some begin.found
  pub needed : 0 < length checks → is_same (state_after s l (begin ∷ before)).last_pass (Some begin.found) ≡ false
  pub row : next_or_first (newest_of es) w s.manager (state_after s l es) (effort_of s l g es)
      ≡ row_by number last (state_after s l es)

-- the first of them
pub chain_none : {first : Kind} (last : Kind) (number : LocalState → Option ℕ) (s : Shape) (l : LocalState) (w : Work)
    (g : Lcg)
    (e : Event) (es : List Event) → e.kind ≡ first → (state_after s l (e ∷ es)).checked ≡ 0 →
    number (state_after s l (e ∷ es)) ≡ Some e.found →
    next e.kind e w s.manager (state_after s l (e ∷ es)) (effort_of s l g (e ∷ es))
    ≡ row_by number last (state_after s l (e ∷ es)) → Chain first last number s l w g (e ∷ es)
chain_none last number s l w g e es q none found r = record {
  checks = [];
  begin = e;
  before = es;
  are = refl;
  begins = q;
  checked = tt;
  count = none;
  reads = refl;
  same = refl;
  found = found;
  needed = λ h. absurd (omega arith);
  row = r;
}

-- one check more, which was due and found the word recorded
pub chain_more : {first last : Kind} {number : LocalState → Option ℕ} {s : Shape} {l : LocalState} {w : Work} {g : Lcg}
    (e : Event) {es : List Event} (n : ℕ) → (last ≡ Check → ⊥) → Chain first last number s l w g es → e.kind ≡ Check →
    next_or_first (newest_of es) w s.manager (state_after s l es) (effort_of s l g es) ≡ Step Check n →
    (state_after s l (e ∷ es)).stale ≡ false → number (state_after s l (e ∷ es)) ≡ number (state_after s l es) →
    next e.kind e w s.manager (state_after s l (e ∷ es)) (effort_of s l g (e ∷ es))
    ≡ row_by number last (state_after s l (e ∷ es)) → Chain first last number s l w g (e ∷ es)
chain_more {last = last} {number = number} {s = s} {l = l} e {es = es} n other c q was agreed kept r =
    let old : LocalState = state_after s l es in
    let new : after e.kind s old e ≡ after Check s old e = ap (λ k. after k s old e) q in
    let stale : not (e.found == (next_read old).word) ≡ false = sym (ap (λ (l : LocalState). l.stale) new) ∙ agreed in
    record {
      checks = e ∷ c.checks;
      begin = c.begin;
      before = c.before;
      are = ap (λ es. e ∷ es) c.are;
      begins = c.begins;
      checked = (c.checked, q, good (e.found == (next_read old).word) refl stale ∙ word);
      count = ap (λ (l : LocalState). l.checked) new ∙ ap (λ n. n + 1) c.count ∙ add-one (length c.checks);
      reads = ap (λ (l : LocalState). l.reads) new ∙ c.reads;
      same = ap (λ (l : LocalState). l.last_pass) new ∙ c.same;
      found = kept ∙ c.found;
      needed = λ _. rw (← c.same, ← c.found) (check_needed number last old n other (sym c.row ∙ was));
      row = r;
    }
  where
    good : (b : Bool) → (e.found == (next_read (state_after s l es)).word) ≡ b → not b ≡ false →
        e.found ≡ (next_read (state_after s l es)).word
    good true x h = eqb-true e.found (next_read (state_after s l es)).word x
    good false x h = absurd (cc)

    word : (next_read (state_after s l es)).word
        ≡ (or_read (slice_get (state_after s l (c.begin ∷ c.before)).reads (length c.checks))).word
    word = rw (← c.reads, ← c.count) refl

-- once the end is due they are all that are needed
pub chain_ends : {first last : Kind} {number : LocalState → Option ℕ} {s : Shape} {l : LocalState} {w : Work} {g : Lcg}
    (e : Event) {es : List Event} (n : ℕ) → (last ≡ Check → ⊥) → Chain first last number s l w g es → e.kind ≡ last →
    next_or_first (newest_of es) w s.manager (state_after s l es) (effort_of s l g es) ≡ Step last n →
    Validates first last s l (e ∷ es)
chain_ends {last = last} {number = number} {s = s} {l = l} e {es = es} n other c q was = record {
  end = e;
  checks = c.checks;
  begin = c.begin;
  before = c.before;
  are = ap (λ es. e ∷ es) c.are;
  begins = c.begins;
  ends = q;
  checked = c.checked;
  all = enough (is_same (state_after s l (c.begin ∷ c.before)).last_pass (Some c.begin.found)) refl;
}
  where
    at : LocalState
    at = state_after s l (c.begin ∷ c.before)

    old : LocalState
    old = state_after s l es

    none : (cs : List Event) → (0 < length cs → ⊥) → length cs ≡ 0
    none cs h = omega (arith, h)

    tested : is_same at.last_pass (Some c.begin.found) ≡ false → old.checked ≡ length old.reads
    tested f =
        cond_both (old.checked == length old.reads || is_same old.last_pass (number old)) (just last) (just Check)
        (λ d. d ≡ Step last n → old.checked ≡ length old.reads)
        (λ r _. all (old.checked == length old.reads) refl (rw (c.same, c.found, f) at r))
        (λ _ p. absurd (other (cc))) (sym c.row ∙ was)
      where
        all : (b : Bool) → (old.checked == length old.reads) ≡ b → (b || false) ≡ true → old.checked ≡ length old.reads
        all true x h = eqb-true old.checked (length old.reads) x
        all false x h = absurd (cc)

    enough : (b : Bool) → is_same at.last_pass (Some c.begin.found) ≡ b →
        length c.checks ≡ checks_needed c.begin.found at
    enough true x = rw x (none c.checks (λ h. let f = c.needed h in absurd (cc)))
    enough false x = rw x (sym c.count ∙ tested x ∙ ap length c.reads)

-- ---- passes

look_is : LookSelf ≡ Check → ⊥
look_is q = absurd (cc)

pub commit_is : Commit ≡ Check → ⊥
commit_is q = absurd (cc)

-- where a pass goes on in a phase, or ends
abbrev InPass : Kind → Phase → Type 0
InPass k p = (k ≡ LookSelf) ⊎ ((k ≡ Check) × (p ≢ Drawn))

abbrev PassChain : Shape → LocalState → Work → Lcg → List Event → Type 0
PassChain s l w g es = Chain LookNumber LookSelf (λ (l : LocalState). l.pass) s l w g es

pub no_test : (k : Kind) {d : Due} (n : ℕ) → is_test k ≡ true → d ≡ Step k n → NoTest d → ⊥
no_test k n t q none = let x = ap tests q in cc

in_pass_test : (k : Kind) (p : Phase) → InPass k p → is_test k ≡ true
in_pass_test k p (inl q) = rw q refl
in_pass_test k p (inr q) = let x = q.0 in rw x refl

pub test_goes : (k : Kind) (n : ℕ) → is_test k ≡ true → goes (Step k n) ≡ true
test_goes Check n t = refl
test_goes LookSelf n t = refl
test_goes Commit n t = refl
test_goes k n t = absurd (cc)

-- after a Check in a pass the phase is not Drawn
not_drawn : (k : Kind) (p : Phase) (l : LocalState) (n : ℕ) → InPass k p → in_checks p l ≡ Step k n → p ≢ Drawn
not_drawn k p l n (inr x) q d = x.1 d
not_drawn k p l n (inl x) q d =
    let row : in_checking l ≡ Step k n = subst (λ p. in_checks p l ≡ Step k n) d q in
    checking_by (λ d. d ≡ Step k n → ⊥) l (λ y. cc) (λ y. cc) row

checks_not_drawn : (p : Phase) (l : LocalState) → p ≢ Drawn → in_checks p l ≡ in_pass l
checks_not_drawn Drawn l h = absurd (h refl)
checks_not_drawn p l h = refl

pass_back : (w : Work) (s : Shape) (l : LocalState) (g : Lcg) (es : List Event) (k : Kind) (n : ℕ) →
    Obeys (Doing w) s l g es → due_after (Doing w) s l g es ≡ Step k n → InPass k (state_after s l es).phase →
    PassChain s l w g es
pass_back w s l g [] k n obeys was in_pass =
    let t = in_pass_test k l.phase in_pass in
    let on = goes_on w s None l (effort_of s l g []) was (test_goes k n t) in
    absurd (no_test k n t on.table (first_no w l))
pass_back w s l g (e ∷ es) k n obeys was here =
    go (λ m o d p. pass_back w s l g es Check m o d p) (row_tests e.kind e w s.manager new (effort_of s l g (e ∷ es)))
  where
    old : LocalState
    old = state_after s l es

    new : LocalState
    new = state_after s l (e ∷ es)

    on : GoesOn w s (Some e) new (effort_of s l g (e ∷ es)) (Step k n)
    on = goes_on w s (Some e) new (effort_of s l g (e ∷ es)) was (test_goes k n (in_pass_test k new.phase here))

    row_at : (j : Kind) → e.kind ≡ j →
        next e.kind e w s.manager new (effort_of s l g (e ∷ es)) ≡ next j e w s.manager new (effort_of s l g (e ∷ es))
    row_at j q = ap (λ j. next j e w s.manager new (effort_of s l g (e ∷ es))) q

    Before : Type 0
    Before = (m : ℕ) → Obeys (Doing w) s l g es → due_after (Doing w) s l g es ≡ Step Check m →
        InPass Check (state_after s l es).phase → PassChain s l w g es

    go : Before → (e.kind ≡ LookNumber) ⊎ (e.kind ≡ Check) ⊎ (e.kind ≡ Draw)
        ⊎ NoTest (next e.kind e w s.manager new (effort_of s l g (e ∷ es))) → PassChain s l w g (e ∷ es)
    go back (inl q) =
        let is : new ≡ after LookNumber s old e = ap (λ k. after k s old e) q in
        chain_none LookSelf (λ (l : LocalState). l.pass) s l w g e es q (ap (λ (l : LocalState). l.checked) is)
        (ap (λ (l : LocalState). l.pass) is) (row_at LookNumber q)
    go back (inr (inl q)) =
        let is : new ≡ after Check s old e = ap (λ k. after k s old e) q in
        let phase : new.phase ≡ old.phase = ap (λ (l : LocalState). l.phase) is in
        let apart : new.phase ≢ Drawn = not_drawn k new.phase new n here (sym (row_at Check q) ∙ on.table) in
        let due_then = due_kind (due_after (Doing w) s l g es) e obeys.1 q in
        let before = back due_then.0 obeys.0 due_then.1 (inr (refl, (λ p. apart (phase ∙ p)))) in
        let was_on = goes_on w s (newest_of es) old (effort_of s l g es) due_then.1 refl in
        chain_more e due_then.0 look_is before q was_on.table
        on.agreed (ap (λ (l : LocalState). l.pass) is) (row_at Check q ∙ checks_not_drawn new.phase new apart)
    go back (inr (inr (inl q))) =
        let row : in_checking new ≡ Step k n = sym (row_at Draw q) ∙ on.table in
        let drawn : new.phase ≡ Drawn = ap (λ k. (after k s old e).phase) q in
        absurd (draws here row drawn)
      where
        draws : InPass k new.phase → in_checking new ≡ Step k n → new.phase ≡ Drawn → ⊥
        draws (inl x) r d = checking_by (λ d. d ≡ Step k n → ⊥) new (λ y. cc) (λ y. cc) r
        draws (inr x) r d = x.1 d
    go back (inr (inr (inr none))) = absurd (no_test k n (in_pass_test k new.phase here) on.table none)

pub every_pass : EveryPassIsComplete
every_pass w s l g e es obeys q =
    let due_then = due_kind (due_after (Doing w) s l g es) e obeys.1 q in
    let on = goes_on w s (newest_of es) (state_after s l es) (effort_of s l g es) due_then.1 refl in
    chain_ends e due_then.0 look_is (pass_back w s l g es LookSelf due_then.0 obeys.0 due_then.1 (inl refl)) q on.table
