-- A caller after it has let a read go.
use Rattle.std.proofs.Common.{◌&&◌, ◌||◌, ◌++◌, ◌==◌, ◌∙◌, ◌∷◌, ◌≡◌, ◌≢◌, ◌⊎◌, ◌+◌, ◌<◌, Bool, List, None, Option, Some, [], ap, append_assoc, arith, false, inl, inr, length, map, ne_eqb, not, refl, subst, sym, true, ℕ}
use Rattle.std.specs.Prelude.{IfSome, is_some, if◌then◌else◌, option_map}
use base.Fml.{GName}
use Rattle.std.proofs.lemmas.Bool.{and_parts, cases_Bool, cases_eq, cond_both, eqb-true}
use Rattle.dstm_engine.proofs.Base.{AllowedAs, AreWrites, Core, Doing, Done, Due, Effort, Event, HoldsWithout, Home, IsDue, IsSight, Kind, Lcg, LocalState, LookSelf, MAX_MISSED, Manager, Obeys, Outside, Quit, Read, ReadSlot, Release, Releasing, Running, Shape, Step, Steps, Val, Write, count_of, drop_read, due, due_after, effort_of, is_outside, local, newest_of, next, next_or_first, now, read_of, read_values, seen, state_after, value_at, value_in, version_value, view_of, words_of, write_of}
use Rattle.dstm_core.proofs.Pasts.{core_past}
use Rattle.dstm_opacity.proofs.Held.{held_is_seen, version_by_open}
use Rattle.dstm_opacity.proofs.Kept.{seen_stays}
use Rattle.dstm_opacity.proofs.Tidy.{ReadsOnce, read_apart, tidy}
use Rattle.dstm_machines.proofs.Own.{own_later}
use Rattle.dstm_engine.proofs.Continuing.{doing_keeps, kept_live, kept_most, told_more}
use Rattle.dstm_engine.proofs.Holding.{old_there}
use Rattle.dstm_engine.proofs.Left.{current_there, on_tied, same_place, performed, told_there}
use Rattle.dstm_engine.proofs.Opens.{none_of}
use Rattle.dstm_engine.proofs.Setting.{opened_there}
use Rattle.dstm_engine.proofs.Steady.{stay}
use Rattle.dstm_engine.proofs.Tying.{EndsHere, live_there, olds_in, reads_in, state_then}
use Rattle.dstm_engine.proofs.Rechecking.{NoSelf, in_later, none_counted}
use Rattle.dstm_engine.specs.Attempts.{Admits, Sighted, completes_pass, is_look_self, sights}
use Rattle.dstm_engine.specs.Callers.{held, is_opened, state}
use Rattle.dstm_engine.specs.Calls.{IsTold, Performs}
use Rattle.dstm_engine.specs.Mirror.{AtRest, Tied, called, phase_by, slot_old, slot_value, slot_word}
use Rattle.dstm_engine.specs.Opened.{without_read}
use Rattle.dstm_engine.specs.Transactions.{tx_place}
use Rattle.dstm_engine.specs.declared.caller.Caller.TheInside.{Inside}

-- ---- lists without the pair of an object

without : {A : Type 0} → ℕ → List (ℕ × A) → List (ℕ × A)
without o [] = []
without o (p ∷ ps) = if p.0 == o then ps else p ∷ without o ps

words_drop : (o : ℕ) (rs : List Read) → words_of (drop_read o rs) ≡ without o (words_of rs)
unfolding without
words_drop o [] = refl
words_drop o (r ∷ rs) = elim (cases_Bool (r.object == o)) [
  | inl q ↦ rw q refl
  | inr q ↦ rw q (ap (λ xs. (r.object, r.word) ∷ xs) (words_drop o rs))
]

values_drop : (s : Shape) (start : List Val) (run : List Event) (o : ℕ) (rs : List Read) →
    read_values s start run (drop_read o rs) ≡ without o (read_values s start run rs)
unfolding without
values_drop s start run o [] = refl
values_drop s start run o (r ∷ rs) = elim (cases_Bool (r.object == o)) [
  | inl q ↦ rw q refl
  | inr q ↦
      rw q (ap (λ xs. (r.object, version_value s start run r.object r.version) ∷ xs) (values_drop s start run o rs))
]

slots_drop : {A : Type 0} → (f : ReadSlot → ℕ × A) → ((slot : ReadSlot) → (f slot).0 ≡ slot.object) → (o : ℕ) →
    (slots : List ReadSlot) → map f (without_read o slots) ≡ without o (map f slots)
unfolding without
slots_drop f same o [] = refl
slots_drop f same o (x ∷ slots) = elim (cases_Bool (x.object == o)) [
  | inl q ↦ rw (q, ap (λ n. n == o) (same x) ∙ q) refl
  | inr q ↦ rw (q, ap (λ n. n == o) (same x) ∙ q) (ap (λ xs. f x ∷ xs) (slots_drop f same o slots))
]

-- the value of another object stays
without_others : (o p : ℕ) (xs ys : List (ℕ × Val)) → p ≢ o →
    value_in (without o xs ++ ys) p ≡ value_in (xs ++ ys) p
unfolding without
without_others o p [] ys h = refl
without_others o p (x ∷ xs) ys h = elim (cases_Bool (x.0 == o)) [
  | inl q ↦ rw (q, ne_eqb x.0 p (λ z. h (sym z ∙ eqb-true x.0 o q))) refl
  | inr q ↦ rw q (ap (λ v. if x.0 == p then Some x.1 else v) (without_others o p xs ys h))
]

module _ (s : Shape) (start : List Val) (run : List Event) (o : ℕ) (ys : List (ℕ × Val)) where
  none_read : (rs : List Read) → read_of o rs ≡ None → value_in (read_values s start run rs ++ ys) o ≡ value_in ys o
  none_read [] h = refl
  none_read (r ∷ rs) h =
      let k = read_apart o r rs h in rw (ne_eqb r.object o k.0) (none_read rs k.1)

  -- and the object has none more
  without_it : (rs : List Read) → ReadsOnce rs →
      value_in (without o (read_values s start run rs) ++ ys) o ≡ value_in ys o
  unfolding without
  without_it [] h = refl
  without_it (r ∷ rs) h = elim (cases_Bool (r.object == o)) [
    | inl q ↦ rw q (none_read rs (ap (λ n. read_of n rs) (sym (eqb-true r.object o q)) ∙ h.0))
    | inr q ↦ rw (q, q) (without_it rs h.1)
  ]

-- ---- a sight, as a longer log has it

self_runs : (s : Shape) (l : LocalState) (e : Event) (k : Kind) → k ≡ LookSelf → AllowedAs k s l e → l.phase ≡ Running
self_runs s l e LookSelf q a = a.2.0
self_runs s l e k q a = absurd (cc)

-- what a sight covers has the same values in a longer log
sight_stays : {s : Shape} (start : List Val) (later : List Event) {before : List Event} (more : List Event)
    {sight : Event} → Core s (more ++ (later ++ sight ∷ before)) → sight.caller < s.callers → IsSight s before sight →
    seen s start (more ++ (later ++ sight ∷ before)) before sight.caller
    ≡ seen s start (later ++ sight ∷ before) before sight.caller
sight_stays {s = s} start later {before = before} more {sight = sight} core few is =
    let there = core_past s more (later ++ sight ∷ before) core in
    let at_sight = core_past s later (sight ∷ before) there in
    let runs = self_runs s (local s before sight.caller) sight sight.kind is.kind at_sight.1.allowed in
    let live : (local s before sight.caller).phase ≢ Outside = λ out. cc in
    let since : (more ++ (later ++ sight ∷ [])) ++ before ≡ more ++ (later ++ sight ∷ before) =
    append_assoc more (later ++ sight ∷ []) before ∙ ap (λ xs. more ++ xs) (append_assoc later (sight ∷ []) before) in
    let one : (later ++ sight ∷ []) ++ before ≡ later ++ sight ∷ before = append_assoc later (sight ∷ []) before in
    subst (λ xs. seen s start xs before sight.caller ≡ seen s start before before sight.caller) since
    (seen_stays s start (more ++ (later ++ sight ∷ [])) before sight.caller (subst (Core s) (sym since) core) few live)
    ∙ sym (subst (λ xs. seen s start xs before sight.caller ≡ seen s start before before sight.caller) one
    (seen_stays s start (later ++ sight ∷ []) before sight.caller (subst (Core s) (sym one) there) few live))

-- ---- a release makes no pass

-- the kinds of its events
abbrev is_parting : Kind → Bool
is_parting Release = true
is_parting Quit = true
is_parting kind = false

abbrev IsPartingDue : Due → Type 0
IsPartingDue (Step kind operand) = is_parting kind ≡ true
IsPartingDue Done = Unit {0}

abbrev IsPartingNewest : Option Event → Type 0
IsPartingNewest None = Unit {0}
IsPartingNewest (Some e) = is_parting e.kind ≡ true

next_parting : (k : Kind) (e : Event) (o : ℕ) (m : Manager) (l : LocalState) (f : Effort) → is_parting k ≡ true →
    IsPartingDue (next k e (Releasing o) m l f)
next_parting Release e o m l f p = tt
next_parting Quit e o m l f p = tt
next_parting k e o m l f p = absurd (cc)

parting_due : (o : ℕ) (s : Shape) (x : Option Event) (l : LocalState) (f : Effort) → IsPartingNewest x →
    IsPartingDue (due (Doing (Releasing o)) s x l f)
parting_due o s x l f p =
    cond_both (is_outside l.phase) _ _ IsPartingDue (λ _. tt) (λ _.
    cond_both (l.stale || (f.missed == MAX_MISSED)) _ _ IsPartingDue (λ _. refl) (λ _. goes x p))
  where
    goes : (x : Option Event) → IsPartingNewest x → IsPartingDue (next_or_first x (Releasing o) s.manager l f)
    goes None p = refl
    goes (Some e) p = next_parting e.kind e o s.manager l f p

parting_kind : (d : Due) (e : Event) → IsPartingDue d → IsDue d e → is_parting e.kind ≡ true
parting_kind (Step k n) e p h = ap is_parting h.0 ∙ p
parting_kind Done e p h = absurd h

not_self : (k : Kind) → is_parting k ≡ true → is_look_self k ≡ false
not_self Release p = refl
not_self Quit p = refl
not_self k p = absurd (cc)

pub no_self : (o : ℕ) (s : Shape) (l : LocalState) (g : Lcg) (es : List Event) → Obeys (Doing (Releasing o)) s l g es →
    NoSelf es × IsPartingNewest (newest_of es)
no_self o s l g [] h = (tt, tt)
no_self o s l g (e ∷ es) h =
    let ih = no_self o s l g es h.0 in
    let kind = parting_kind (due_after (Doing (Releasing o)) s l g es) e
    (parting_due o s (newest_of es) (state_after s l es) (effort_of s l g es) ih.1) h.1 in
    ((not_self e.kind kind, ih.0), kind)

-- ---- a read is there

module _ {L : Type 0} {holds : L → List Val → Type 0} {c : Inside L} (v : Tied holds c) (o : ℕ)
    (read : is_some (held (called c) o) && not (is_opened (called c) o) ≡ true) where
  pub not_open : is_opened (called c) o ≡ false
  not_open = by (is_opened (called c) o) (and_parts (is_some (held (called c) o)) (not (is_opened (called c) o)) read).1
    where
      by : (b : Bool) → not b ≡ true → b ≡ false
      by true h = absurd (cc)
      by false h = refl

  pub read_there : is_some (read_of o (state (called c)).reads) ≡ true
  read_there =
      by (write_of o (state (called c)).writes) (read_of o (state (called c)).reads) not_open
      (ap is_some (sym (held_is_seen c.terms.shape c.terms.start.value.items (called c).log (called c).log c.number o
      v.run.run.core)) ∙ (and_parts (is_some (held (called c) o)) (not (is_opened (called c) o)) read).0)
    where
      by : (w : Option Write) (r : Option Read) → is_some w ≡ false →
          is_some (option_map (version_value c.terms.shape c.terms.start.value.items (called c).log o)
          (version_by_open w r)) ≡ true → is_some r ≡ true
      by (Some w) r h is = absurd (cc)
      by None (Some r) h is = refl
      by None None h is = absurd (cc)

-- there is one read less then
one_fewer : (o : ℕ) (rs : List Read) → is_some (read_of o rs) ≡ true → length (drop_read o rs) + 1 ≡ length rs
one_fewer o [] some = absurd (cc)
one_fewer o (r ∷ rs) some = elim (cases_Bool (r.object == o)) [
  | inl q ↦ rw q (omega arith)
  | inr q ↦ rw q (let rest = (one_fewer o rs) (rw q at some) in omega arith)
]

-- ---- the caller then

module _ {L : Type 0} {holds : L → List Val → Type 0} {c : Inside L} (v : Tied holds c) (live : c.live ≡ true) {o : ℕ}
    {new : Steps L} (u : EndsHere holds c (Doing (Releasing o)) new None)
    (is : now (called c).home new ≡ record (state (called c)) {
      reads = drop_read o (state (called c)).reads;
      resolution = None;
      pass = None;
      checked = 0;
    }) (read : is_some (held (called c) o) && not (is_opened (called c) o) ≡ true) where
  abbrev pub released : Inside L
  released = record c { steps = new; opened = record c.opened { reads = without_read o c.opened.reads } }

  pub then_is : state (called released) ≡ record (state (called c)) {
    reads = drop_read o (state (called c)).reads;
    resolution = None;
    pass = None;
    checked = 0;
  }
  then_is = state_then c u ∙ is

  steps : Performs holds (Doing (Releasing o)) (called c) (called released) None
  steps = performed v live u (called released) refl refl refl refl

  values : reads_in c (view_of new.seat).log (state (called released)).reads
      ≡ without o (reads_in c (called c).log (state (called c)).reads)
  values =
      ap (λ (l : LocalState). reads_in c (view_of new.seat).log l.reads) then_is
      ∙ values_drop c.terms.shape c.terms.start.value.items (view_of new.seat).log o (state (called c)).reads
      ∙ ap (without o) (stay v live u).0

  olds : olds_in c (view_of new.seat).log (state (called released)).writes
      ≡ olds_in c (called c).log (state (called c)).writes
  olds =
      ap (λ (l : LocalState). olds_in c (view_of new.seat).log l.writes) then_is
      ∙ (stay v live u).1

  held_then : (p : ℕ) → held (called released) p
      ≡ value_in (without o (reads_in c (called c).log (state (called c)).reads)
      ++ olds_in c (called c).log (state (called c)).writes) p
  held_then p = rw (values, olds) refl

  pub holds_without : HoldsWithout o (held (called c)) (held (called released))
  holds_without = record {
    gone =
        held_then o
        ∙ without_it c.terms.shape c.terms.start.value.items (called c).log o
        (olds_in c (called c).log (state (called c)).writes)
        (state (called c)).reads (tidy c.terms.shape (called c).log v.run.run.core c.number).reads
        ∙ ap (λ ws. value_in ws o) (v.olds live)
        ∙ none_of (value_in (map slot_old c.opened.writes) o) (old_there c.opened.writes o
        ∙ sym (opened_there v live o)
        ∙ not_open v o read);
    others = λ p other. held_then p
        ∙ without_others o p (reads_in c (called c).log (state (called c)).reads)
        (olds_in c (called c).log (state (called c)).writes) other;
  }

  told : IsTold (called released)
  told =
      told_more (told_there v live u) steps (current_there v live u).live
      (doing_keeps steps) refl (v.left live) (λ _. tt) (let most = kept_most (called released) in
      let now = ap (λ (l : LocalState). length l.reads) then_is in
      let fewer = one_fewer o (state (called c)).reads (read_there v o read) in
      let was = kept_live (called c) (sym (live_there v) ∙ live) in omega arith)

  -- the call makes no pass
  no_sight : (i : ℕ) → count_of completes_pass c.terms.shape (view_of new.seat).log c.number i
      ≡ count_of completes_pass c.terms.shape (called c).log c.number i
  no_sight i =
      ap (λ xs. count_of completes_pass c.terms.shape xs c.number i) (sym u.seen.whole)
      ∙ none_counted c.terms.shape c.number i u.seen.later (called c).log
      (subst NoSelf (sym (own_later c.number (called c).log (view_of new.seat).log u.events u.seen u.own))
      (no_self o c.terms.shape (state (called c)) c.steps.decider.generator u.events u.obeys).0)

  -- the newest sight covers what is still held
  sighted : Sighted (called released)
  sighted =
      let x = v.sighted live (λ none. let y = ap (λ ps. is_some (value_in ps o)) none in
      let z = and_parts (is_some (held (called c) o)) (not (is_opened (called c) o)) read in cc) in
      let log : (view_of new.seat).log ≡ u.seen.later ++ (x.later ++ x.sight ∷ x.before) =
      sym u.seen.whole ∙ ap (λ xs. u.seen.later ++ xs) x.log in
      let stays = sight_stays c.terms.start.value.items x.later u.seen.later
      (subst (Core c.terms.shape) log u.run.run.core) (subst (λ n. n < c.terms.shape.callers) (sym x.caller) v.number.0)
      x.is_one in
      let same : seen c.terms.shape c.terms.start.value.items (view_of new.seat).log x.before c.number
      ≡ seen c.terms.shape c.terms.start.value.items (called c).log x.before c.number =
      ap (λ xs. seen c.terms.shape c.terms.start.value.items xs x.before c.number) log
      ∙ subst (λ n. seen c.terms.shape c.terms.start.value.items (u.seen.later ++ (x.later ++ x.sight ∷ x.before)) x.before n
      ≡ seen c.terms.shape c.terms.start.value.items (x.later ++ x.sight ∷ x.before) x.before n) x.caller stays
      ∙ ap (λ xs. seen c.terms.shape c.terms.start.value.items xs x.before c.number) (sym x.log) in
      record {
        place = in_later u.seen.later (sym u.seen.whole) (sym (ap (λ (l : LocalState). l.begun) then_is)) x.place;
        newest = newest x;
        covers = λ p w held. ap (λ ps. value_in ps p) same ∙ covered x p w held (cases_eq p o);
      }
    where
      newest : (x : Sighted (called c)) → sights (called released)
          ≡ count_of completes_pass c.terms.shape (x.sight ∷ x.before) c.number (state (called released)).begun
      newest x = rw (ap (λ (l : LocalState). l.begun) then_is) (no_sight (state (called c)).begun ∙ x.newest)

      covered : (x : Sighted (called c)) (p : ℕ) (w : Val) → held (called released) p ≡ Some w →
          (p ≡ o) ⊎ (p ≡ o → ⊥) →
          value_in (seen c.terms.shape c.terms.start.value.items (called c).log x.before c.number) p ≡ Some w
      covered x p w h (inl q) = absurd (let z = holds_without.gone in let y = ap (held (called released)) q in cc)
      covered x p w h (inr q) = x.covers p w (sym (holds_without.others p q) ∙ h)

  pub released_tied : Tied holds released
  released_tied =
      on_tied v live u (record c.opened { reads = without_read o c.opened.reads })
      (ap (λ (l : LocalState). l.phase) then_is ∙ v.phase ∙ ap phase_by live)
      (ap (λ (l : LocalState). l.committed) then_is ∙ v.uncommitted live)
      (ap (λ (l : LocalState). l.last_pass) then_is ∙ v.last_number live) (subst AtRest (sym then_is) (record {
        agreed = (v.rest live).agreed;
        no_pass = refl;
        not_put = (v.rest live).not_put;
        recorded = refl;
      })) told (λ _. sighted) (ap (λ (l : LocalState). words_of l.reads) then_is ∙ words_drop o (state (called c)).reads
      ∙ ap (without o) (v.reads live) ∙ sym (slots_drop slot_word (λ slot. refl) o c.opened.reads))
      (values ∙ ap (without o) (v.values live) ∙ sym (slots_drop slot_value (λ slot. refl) o c.opened.reads))
      (subst (AreWrites c.opened.writes) (sym (ap (λ (l : LocalState). l.writes) then_is)) (v.writes live))
      (olds ∙ v.olds live) refl

  -- it is the same attempt
  pub released_place : (name : GName) (table : Home L) →
      tx_place name table (called released) ≡ tx_place name table (called c)
  released_place = same_place v live u (ap (λ (l : LocalState). l.committed) then_is ∙ v.uncommitted live)

  pub released_widens : {map : List Val} → Admits holds (called c) map → Admits holds (called released) map
  released_widens {map = map} a = record { length = a.length; lawful = a.lawful; agrees = λ p. by p (cases_eq p o) }
    where
      by : (p : ℕ) → (p ≡ o) ⊎ (p ≡ o → ⊥) → IfSome (held (called released) p) (λ w. value_at map p ≡ w)
      by p (inl q) = rw (ap (held (called released)) q ∙ holds_without.gone) tt
      by p (inr q) = subst (λ h. IfSome h (λ w. value_at map p ≡ w)) (sym (holds_without.others p q)) (a.agrees p)
