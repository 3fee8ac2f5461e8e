-- A caller after it was to give back what it had locked, or to begin an attempt.
use Rattle.std.proofs.Common.{◌<◌, ◌≤◌, ◌+◌, ◌==◌, ◌∙◌, ◌∷◌, ◌≡◌, ◌⊎◌, ◌||◌, Bool, List, None, Option, Some, [], ap, arith, false, inl, inr, length, map, refl, subst, sym, take, true, ℕ}
use Rattle.std.specs.Prelude.{IfSome, IsSome, nat_le, nat_lt, not, if◌then◌else◌}
use Rattle.std.specs.Option.{option_or}
use Rattle.std.proofs.lemmas.Bool.{cases_eq, cond-true, eq-eqb, ne_eqb}
use Rattle.std.proofs.lemmas.List.{length-map, length-take-le}
use Rattle.std.proofs.lemmas.List.Elements.{All-cons, All-nil}
use Rattle.dstm_tl2_engine.proofs.Base.{Began, Beginning, Call, Done, Event, FreeAs, Hold, Home, IsDue, Just, Load, LocalState, Obeys, Read, Returning, Sample, Steps, Table, Task, TlAgain, Val, after, begin, due_after, events_of, has_sampled, hold_of, in_giving_back, is_spent, is_valid, local, made_by, new_hold, newest_of, now, or_hold, read_of, read_values, state_after, table_of, value_at, value_in, view_of}
use Rattle.dstm_mem.proofs.WithSet.{with_set-nothing}
use Rattle.dstm_tl2_order.proofs.Steps.{state_up}
use Rattle.dstm_tl2_steps.proofs.Stepping.{call_of}
use Rattle.dstm_tl2_engine.proofs.Calling.{began_is, begun_as}
use Rattle.dstm_tl2.proofs.Done.{NoCommits, may_commit, quiet_after, undrawn_invalid}
use Rattle.dstm_tl2_engine.proofs.Tying.{EndsHere, Kept, at_home, kept, performs_then, state_then, steps_of}
use Rattle.dstm_tl2_engine.specs.Attempts.{Admits, done}
use Rattle.dstm_tl2_engine.specs.Began.{began_of}
use Rattle.dstm_tl2_engine.specs.Callers.{TlCalled, begun_log, held, since_sample, state, written}
use Rattle.dstm_tl2_engine.specs.Calls.{IsMade, IsTold}
use Rattle.dstm_tl2_engine.specs.Mirror.{Tied, called}
use Rattle.dstm_tl2_engine.specs.Outcomes.{IsLeft}
use Rattle.dstm_tl2_engine.specs.Transactions.{BeginsAnew, HasLocked, IsLawful, SpentFrom}
use Rattle.dstm_tl2_engine.specs.declared.caller.TlCaller.TheInside.{Inside}

-- ---- nothing is locked

-- a list has no element where its image has none
map_empty : {A B : Type 0} (f : A → B) (xs : List A) → map f xs ≡ [] → xs ≡ []
map_empty f [] q = refl
map_empty f (x ∷ xs) q = absurd (cc)

no_value : {A : Type 0} (o : Option A) → (IsSome o → ⊥) → o ≡ None
no_value None h = refl
no_value (Some x) h = absurd (h refl)

-- WHERE NOTHING IS LOCKED, and still all that the attempt writes is, it writes nothing: so each map that it admits
-- stays as it is.
pub lawful_unlocked : {L : Type 0} (holds : L → List Val → Type 0) {k : TlCalled L} → (state k).holds ≡ [] →
    ((o : ℕ) → IsSome (value_in k.set o) → IsSome (value_in k.writes o)) → HasLocked k → IsLawful holds k
lawful_unlocked holds {k = k} free sets locked map admits =
    subst (holds k.home.terms.law.value) (sym (with_set-nothing map (written k) unset)) admits.lawful
  where
    none : k.writes ≡ []
    none = map_empty (new_hold (state k)) k.writes (sym locked.all ∙ free)

    unset : (o : ℕ) → written k o ≡ None
    unset o =
        no_value (written k o)
        (λ some. let bad : IsSome (value_in [] o) = subst (λ ws. IsSome (value_in ws o)) none (sets o some) in cc)

-- so many writes are locked as there are holds
pub none_locked : (s : LocalState) (writes : List (ℕ × Val)) (count : ℕ) → count ≤ length writes →
    s.holds ≡ map (new_hold s) (take count writes) → s.holds ≡ [] → count ≡ 0
none_locked s writes count few locks free =
    sym (length-take-le count writes few)
    ∙ sym (length-map (take count writes) (new_hold s))
    ∙ ap length (sym locks ∙ free)

-- ---- the events of these calls

abbrev Quiet : Event → Type 0
Quiet e = may_commit e.kind ≡ false

-- those that give back commit nothing
gives_none : (t : Table) (holds : List Hold) (e : Event) → IsDue t (in_giving_back holds) e → may_commit e.kind ≡ false
gives_none t [] e d = absurd d
gives_none t (h ∷ holds) e d = ap may_commit d.0

pub returning_none : (t : Table) (l : LocalState) (es : List Event) → Obeys Returning t l es → NoCommits es
returning_none t l [] o = All-nil Quiet
returning_none t l (e ∷ es) o =
    All-cons Quiet e es (gives_none t (state_after t l es).holds e o.1) (returning_none t l es o.0)

due_none : (a b c : Bool) (t : Table) (holds : List Hold) (e : Event) →
    IsDue t (if a then Done else if b then in_giving_back holds else if c then Done else Just Sample) e →
    may_commit e.kind ≡ false
due_none true b c t holds e d = absurd d
due_none false true c t holds e d = gives_none t holds e d
due_none false false true t holds e d = absurd d
due_none false false false t holds e d = ap may_commit d

pub beginning_none : (t : Table) (l : LocalState) (es : List Event) → Obeys Beginning t l es → NoCommits es
beginning_none t l [] o = All-nil Quiet
beginning_none t l (e ∷ es) o =
    All-cons Quiet e es (due_none (has_sampled (newest_of es)) (not (length (state_after t l es).holds == 0))
    (is_spent t (state_after t l es)) t (state_after t l es).holds e o.1) (beginning_none t l es o.0)

-- ---- what they had to give back

or_true : (b : Bool) → (b || true) ≡ true
or_true true = refl
or_true false = refl

-- an event that gives back is known by the state after it
gives_back : (t : Table) (l : LocalState) (holds : List Hold) → l.holds ≡ holds → (e : Event) →
    IsDue t (in_giving_back holds) e → (after e.kind t l e).gave_back ≡ true
gives_back t l [] is e d = absurd d
gives_back t l (h ∷ hs) is e d =
    let found : hold_of e.place l.holds ≡ Some h = ap (hold_of e.place) is
    ∙ cond-true (h.object == e.place) (Some h) (hold_of e.place hs) (eq-eqb h.object e.place (sym d.1)) in
    let same : (e.put == (or_hold (hold_of e.place l.holds)).word) ≡ true =
    eq-eqb e.put (or_hold (hold_of e.place l.holds)).word (d.2 ∙ ap (λ x. (or_hold x).word) (sym found)) in
    ap (λ k. (after k t l e).gave_back) d.0 ∙ ap (λ b. l.gave_back || b) same ∙ or_true l.gave_back

-- so where none came, and no attempt was begun, nothing was locked
abbrev pub NothingBack : Task → Type 0
NothingBack task = (t : Table) (l : LocalState) (es : List Event) → Obeys task t l es → due_after task t l es ≡ Done →
    (state_after t l es).gave_back ≡ false → (state_after t l es).begun ≡ l.begun → l.holds ≡ []

pub returned_nothing : NothingBack Returning
returned_nothing t l [] o done kept same = by l.holds done
  where
    by : (holds : List Hold) → in_giving_back holds ≡ Done → holds ≡ []
    by [] q = refl
    by (h ∷ hs) q = absurd (cc)
returned_nothing t l (e ∷ es) o done kept same =
    absurd (let gave = gives_back t (state_after t l es) (state_after t l es).holds refl e o.1 in cc)

due_gives : (a b c : Bool) (t : Table) (l : LocalState) (e : Event) →
    IsDue t (if a then Done else if b then in_giving_back l.holds else if c then Done else Just Sample) e →
    ((after e.kind t l e).gave_back ≡ true) ⊎ ((after e.kind t l e).begun ≡ l.begun + 1)
due_gives true b c t l e d = absurd d
due_gives false true c t l e d = inl (gives_back t l l.holds refl e d)
due_gives false false true t l e d = absurd d
due_gives false false false t l e d = inr (ap (λ k. (after k t l e).begun) d)

pub begun_nothing : NothingBack Beginning
begun_nothing t l [] o done kept same = by l.holds (is_spent t l) done
  where
    by : (holds : List Hold) (spent : Bool) →
        (if not (length holds == 0) then in_giving_back holds else if spent then Done else Just Sample) ≡ Done →
        holds ≡ []
    by [] spent q = refl
    by (h ∷ hs) spent q =
        absurd (let some : (length (h ∷ hs) == 0) ≡ false = ne_eqb (length (h ∷ hs)) 0 (λ z. omega arith) in
        let first : FreeAs h.object h.word ≡ Done = rw some at q in cc)
begun_nothing t l (e ∷ es) o done kept same =
    absurd (elim (due_gives (has_sampled (newest_of es)) (not (length (state_after t l es).holds == 0))
    (is_spent t (state_after t l es)) t (state_after t l es) e o.1) [
      | inl gave ↦ cc
      | inr one ↦ let up = state_up t l es in omega (arith, up, one, same)
    ])

-- ---- the caller then

-- what it had locked was given back
abbrev pub freed : {L : Type 0} → Inside L → Steps L → Inside L
freed c new = record c { steps = new; locked = 0 }

-- it has begun an attempt
abbrev pub anew : {L : Type 0} → Inside L → Steps L → Inside L
anew c new = record c {
  steps = new;
  begun = c.begun + 1;
  locked = 0;
  left = None;
  opened = record c.opened { reads = []; writes = []; set = [] };
}

module _ {L : Type 0} {holds : L → List Val → Type 0} {c : Inside L} (v : Tied holds c) (task : Task) {new : Steps L}
    (u : EndsHere holds c task new None) where
  st : local (table_of c.terms) (view_of new.seat).log c.number ≡ now (called c).home new
  st = state_then v task u

  k : Kept holds c new
  k = kept v task u

  -- nothing was committed
  pub same_done : NoCommits u.events → done (called (record c { steps = new })) ≡ done (called c)
  same_done none =
      quiet_after (table_of c.terms) c.number (called c).log (view_of new.seat).log u.events u.seen u.own u.run.run.run
      none

  -- ---- what was locked was given back

  module _ (gave : Bool) (is : now (called c).home new ≡ record (state (called c)) { holds = []; gave_back = gave })
      (idle : c.locked ≡ 0 → new ≡ c.steps) where
    now_free : state (called (freed c new)) ≡ record (state (called c)) { holds = []; gave_back = gave }
    now_free = st ∙ is

    pub is_free : (state (called (freed c new))).holds ≡ []
    is_free = ap (λ (l : LocalState). l.holds) now_free

    same_reads : (state (called (freed c new))).reads ≡ (state (called c)).reads
    same_reads = ap (λ (l : LocalState). l.reads) now_free

    pub same_begun : (state (called (freed c new))).begun ≡ (state (called c)).begun
    same_begun = ap (λ (l : LocalState). l.begun) now_free

    -- where nothing was locked, nothing was done
    pub still : (state (called c)).holds ≡ [] → new ≡ c.steps
    still free = idle (none_locked (state (called c)) c.opened.writes c.locked v.few v.locks free)

    left_then : IfSome c.left (λ again. IsLeft (called (freed c new)))
    left_then = by c.left v.left
      where
        by : (left : Option TlAgain) → IfSome left (λ again. IsLeft (called c)) →
            IfSome left (λ again. IsLeft (called (freed c new)))
        by None h = tt
        by (Some again) h = rw (still h.given_back.free) h

    -- a call that gives back leaves an attempt that was made as it is
    module _ (back : gave ≡ false → (state (called c)).holds ≡ []) where
      idle_made : IsMade (called (freed c new)) → new ≡ c.steps
      idle_made made = elim made.1 [
        | inl some ↦ still (left_free c.left some v.left)
        | inr (inl valid) ↦ idle (unlocked valid (cases_eq c.locked 0))
        | inr (inr kept) ↦ still (back (sym (ap (λ (l : LocalState). l.gave_back) now_free) ∙ kept))
      ]
        where
          left_free : (left : Option TlAgain) → IsSome left → IfSome left (λ again. IsLeft (called c)) →
              (state (called c)).holds ≡ []
          left_free None some h = absurd (cc)
          left_free (Some again) some h = h.given_back.free

          unlocked : is_valid (state (called (freed c new))) ≡ true → (c.locked ≡ 0) ⊎ (c.locked ≡ 0 → ⊥) → c.locked ≡ 0
          unlocked valid (inl none) = none
          unlocked valid (inr some) =
              absurd (let invalid = undrawn_invalid (state (called (freed c new)))
              (ap (λ (l : LocalState). l.drawn) now_free ∙ v.may some) in cc)

      freed_told : IsMade (called (freed c new)) → IsTold (called (freed c new))
      freed_told made =
          let same = idle_made made in
          subst (λ (x : Steps L). IsTold (called (record c { steps = x }))) (sym same)
          (v.told (subst (λ (x : Steps L). IsMade (called (record c { steps = x }))) same made))

    pub freed_tied : (gave ≡ false → (state (called c)).holds ≡ []) → Tied holds (freed c new)
    freed_tied back = record {
      placed = k.placed;
      begun = same_begun ∙ v.begun;
      objects = k.objects;
      reads = v.reads ∙ sym same_reads;
      writes_read = λ o none. v.writes_read o (subst (λ rs. read_of o rs ≡ None) same_reads none);
      puts = λ o. subst (λ (rs : List Read). IfSome (value_in c.opened.writes o)
          (λ w. Some w ≡ option_or (value_in c.opened.set o) (value_in (read_values rs) o))) (sym same_reads)
          (v.puts o);
      sets = v.sets;
      seen = k.seen;
      locks = is_free;
      may = λ some. absurd (some refl);
      few = omega arith;
      lawful = lawful_unlocked holds is_free v.sets;
      left = left_then;
      told = freed_told back;
    }

    pub freed_kept : called (freed c new) ≡ record (called c) { log = (view_of new.seat).log }
    freed_kept = ap (λ home. record (called (freed c new)) { home = home }) k.home

  -- ---- an attempt was begun

  module _ (is : now (called c).home new ≡ begin (state (called c)) new.sample) where
    is_begun : state (called (anew c new)) ≡ begin (state (called c)) new.sample
    is_begun = st ∙ is

    is_unlocked : (state (called (anew c new))).holds ≡ []
    is_unlocked = ap (λ (l : LocalState). l.holds) is_begun

    unread : (o : ℕ) → held (called (anew c new)) o ≡ None
    unread o = ap (λ (l : LocalState). value_in (read_values l.reads) o) is_begun

    pub anew_tied : since_sample c.number (view_of new.seat).log ≡ [] → Tied holds (anew c new)
    anew_tied none = record {
      placed = k.placed;
      begun = ap (λ (l : LocalState). l.begun) is_begun ∙ ap (λ n. n + 1) v.begun;
      objects = k.objects;
      reads = sym (ap (λ (l : LocalState). l.reads) is_begun);
      writes_read = λ o none. refl;
      puts = λ o. tt;
      sets = λ o some. some;
      seen = k.seen;
      locks = is_unlocked;
      may = λ some. absurd (some refl);
      few = omega arith;
      lawful = lawful_unlocked holds is_unlocked (λ o some. some);
      left = tt;
      told = λ _. record {
        calls = [];
        own = ap (events_of c.number) none;
        are_calls = tt;
        each = All-nil (λ (call : Call). 0 < length call.events);
        left = refl;
      };
    }

    pub anew_admits : Admits holds (called (anew c new)) c.terms.start.value.items
    anew_admits = record {
      length = refl;
      lawful = u.run.lawful;
      agrees = λ o. subst (λ h. IfSome h (λ w. value_at c.terms.start.value.items o ≡ w)) (sym (unread o)) tt;
    }

    pub anew_caller : called (anew c new)
        ≡ record (called c) { log = (view_of new.seat).log; writes = []; set = []; left = None }
    anew_caller = ap (λ home. record (called (anew c new)) { home = home }) k.home

    pub anew_begun : (sample : ℕ) × (state (called (anew c new)) ≡ begin (state (called c)) sample)
    anew_begun = (new.sample, is_begun)

-- where the newest event of the log is the caller's Sample, its attempt begins there
pub at_begin_of : (b : Began) (log : List Event) (p found : ℕ) →
    ((before : List Event) × (log ≡ made_by b Load Sample p found ∷ before)) → log ≡ begun_log b.number log
at_begin_of b log p found top = rw (top.1, eq-eqb b.number b.number refl) refl

-- and nothing has come since
pub since_begin_of : (b : Began) (log : List Event) (p found : ℕ) →
    ((before : List Event) × (log ≡ made_by b Load Sample p found ∷ before)) → since_sample b.number log ≡ []
since_begin_of b log p found top = rw (top.1, eq-eqb b.number b.number refl) refl

-- where a call gave nothing back, nothing was locked
pub nothing_back : {L : Type 0} {holds : L → List Val → Type 0} (c : Inside L) {task : Task} {new : Steps L}
    (u : EndsHere holds c task new None) → NothingBack task → (gave : Bool) →
    now (called c).home new ≡ record (state (called c)) { holds = []; gave_back = gave } → gave ≡ false →
    (state (called c)).holds ≡ []
nothing_back c u nothing gave is none =
    let call = (call_of u).0 in
    nothing (table_of c.terms) (state (called c)) u.events call.obeys call.done
    (ap (λ (l : LocalState). l.gave_back) (sym u.state ∙ is) ∙ none)
    (ap (λ (l : LocalState). l.begun) (sym u.state ∙ is))

-- ---- a call that was to begin an attempt

module _ {L : Type 0} {holds : L → List Val → Type 0} {c : Inside L} (v : Tied holds c) {new : Steps L}
    (u : EndsHere holds c Beginning new None) where
  done_then : done (called (record c { steps = new })) ≡ done (called c)
  done_then = same_done v Beginning u (beginning_none (table_of c.terms) (state (called c)) u.events u.obeys)

  pub spent_from : (gave : Bool) →
      now (called c).home new ≡ record (state (called c)) { holds = []; gave_back = gave } →
      (c.locked ≡ 0 → new ≡ c.steps) → is_spent (table_of c.terms) (state (called c)) ≡ true →
      SpentFrom holds (called c) (called (freed c new))
  spent_from gave is idle spent = record {
    steps = performs_then c Beginning u c.opened c.left;
    caller = freed_kept v Beginning u gave is idle;
    free = is_free v Beginning u gave is idle;
    begun = same_begun v Beginning u gave is idle;
    same_done = done_then;
    spent = spent;
  }

  pub begins_anew : now (called c).home new ≡ begin (state (called c)) new.sample → (p : ℕ) →
      ((before : List Event)
      × ((view_of new.seat).log ≡ made_by (began_of Beginning (called c)) Load Sample p new.sample ∷ before)) →
      is_spent (table_of c.terms) (state (called c)) ≡ false → BeginsAnew holds (called c) (called (anew c new))
  begins_anew is p top enough = record {
    steps = performs_then c Beginning u (record c.opened { reads = []; writes = []; set = [] }) None;
    caller = anew_caller v Beginning u is;
    untouched = λ map. with_set-nothing map (λ o. None) (λ o. refl);
    begun = anew_begun v Beginning u is;
    at_begin = at_begin_of (began_of Beginning (called c)) (view_of new.seat).log p new.sample top;
    same_done = done_then;
    enough = enough;
    admits = (c.terms.start.value.items, anew_admits v Beginning u is);
  }

-- ---- a call that was to give back

module _ {L : Type 0} {holds : L → List Val → Type 0} {c : Inside L} (v : Tied holds c) {new : Steps L}
    (u : EndsHere holds c Returning new None) where
  pub returns_done : done (called (freed c new)) ≡ done (called c)
  returns_done = same_done v Returning u (returning_none (table_of c.terms) (state (called c)) u.events u.obeys)

-- ---- the same from what the steps tell of their table

module _ {L : Type 0} {holds : L → List Val → Type 0} {c : Inside L} (v : Tied holds c) {home : Home L}
    (same : (called c).home ≡ home) (new : Steps L) where
  pub freed_here : (gave : Bool) → now home new ≡ record (now home c.steps) { holds = []; gave_back = gave } →
      now (called c).home new ≡ record (state (called c)) { holds = []; gave_back = gave }
  freed_here gave = at_home v same (λ h l. now h new ≡ record l { holds = []; gave_back = gave })

  pub begun_here : now home new ≡ begin (now home c.steps) new.sample →
      now (called c).home new ≡ begin (state (called c)) new.sample
  begun_here = at_home v same (λ h l. now h new ≡ begin l new.sample)

  pub top_here : (p : ℕ) →
      ((before : List Event)
      × ((view_of new.seat).log ≡ made_by (begun_as home Beginning c.steps) Load Sample p new.sample ∷ before)) →
      (before : List Event)
      × ((view_of new.seat).log ≡ made_by (began_of Beginning (called c)) Load Sample p new.sample ∷ before)
  top_here p top =
      subst (λ (b : Began). (before : List Event)
      × ((view_of new.seat).log ≡ made_by b Load Sample p new.sample ∷ before))
      (began_is holds (called c) Beginning (steps_of v)) (subst (λ (h : Home L). (before : List Event)
      × ((view_of new.seat).log ≡ made_by (begun_as h Beginning c.steps) Load Sample p new.sample ∷ before))
      (sym same) top)

-- whether the caller is spent, by what it counts
pub spent_is : {L : Type 0} {holds : L → List Val → Type 0} {c : Inside L} → Tied holds c →
    is_spent (table_of c.terms) (state (called c)) ≡ not (nat_lt c.begun c.terms.attempts)
spent_is {c = c} v = ap (λ n. not (nat_lt n c.terms.attempts)) v.begun

-- the test whether it is
pub spent_by : {L : Type 0} {holds : L → List Val → Type 0} {c : Inside L} → Tied holds c → c.terms.attempts ≤ c.begun →
    (nat_le c.terms.attempts c.begun ≡ true) × (is_spent (table_of c.terms) (state (called c)) ≡ true)
spent_by {c = c} v all = (grind (arith, all), spent_is v ∙ ap not (tested c.begun c.terms.attempts all))
  where
    tested : (n m : ℕ) → m ≤ n → nat_lt n m ≡ false
    tested n m h = grind arith

pub unspent_by : {L : Type 0} {holds : L → List Val → Type 0} {c : Inside L} → Tied holds c →
    c.begun < c.terms.attempts →
    (nat_le c.terms.attempts c.begun ≡ false) × (is_spent (table_of c.terms) (state (called c)) ≡ false)
unspent_by {c = c} v left = (grind (arith, left), spent_is v ∙ ap not (tested c.begun c.terms.attempts left))
  where
    tested : (n m : ℕ) → n < m → nat_lt n m ≡ true
    tested n m h = grind arith
