-- A caller after an open.
use Rattle.std.proofs.Common.{◌++◌, ◌==◌, ◌∙◌, ◌∷◌, ◌≡◌, ◌≢◌, ◌⊎◌, List, [], Option, None, Some, ap, arith, false, inl, inr, length, length-append, map, refl, subst, sym, take, true, ℕ}
use Rattle.std.specs.Option.{option_or}
use Rattle.std.specs.Prelude.{All, IfSome, IsSome, is_none, is_some, option_map}
use Rattle.std.proofs.lemmas.Bool.{cases_Bool, cases_eq}
use Rattle.std.proofs.lemmas.List.{map-append, take-append-le}
use Rattle.std.proofs.Math.Seq.{get_or-append_seam}
use Rattle.dstm_tl2_engine.proofs.Base.{AtRest, Doing, Done, Event, HoldsAlso, Home, IsRunOf, Kind, LocalState, LookAgain, LookHigh, LookLock, LookLow, NamesOnce, OpenedAs, Opening, Read, Steps, TlAgain, Under, Val, new_hold, now, prefix_at, read_of, read_slot, read_values, sample_place, slot_read, slots_value, value_at, value_in, writes_of}
use Rattle.dstm_mem.proofs.Pairs.{AgreesWith-of_agrees, value_in-other, value_in-same}
use Rattle.dstm_model.proofs.Entries.{states_keep_length}
use Rattle.dstm_model.specs.Map.{state_after}
use Rattle.dstm_tl2_steps.proofs.Slots.{read_of-slots}
use Rattle.dstm_tl2_steps.specs.declared.opened.ReadSlot.{ReadSlot}
use Rattle.dstm_tl2_engine.proofs.AfterCall.{attempt_kept, done_quiet, left_after}
use Rattle.dstm_tl2_engine.proofs.Begins.{lawful_unlocked}
use Rattle.dstm_tl2_engine.proofs.CallKinds.{is_look, opening_looks}
use Rattle.dstm_tl2_engine.proofs.Calling.{begun_as}
use Rattle.dstm_tl2_order.proofs.Causing.{causes_of}
use Rattle.dstm_tl2_engine.proofs.Others.{others_of}
use Rattle.dstm_tl2_engine.proofs.Tying.{EndsHere, at_home, ends_here, kept, now_there, performs_then, state_then}
use Rattle.dstm_tl2_engine.specs.Attempts.{Admits, Seen}
use Rattle.dstm_tl2_engine.specs.Callers.{TlCalled, handed, held, is_live, objects_of, start_of, state, table_of_caller, written}
use Rattle.dstm_tl2_engine.specs.Calls.{Performs}
use Rattle.dstm_tl2_engine.specs.Mirror.{Tied, called}
use Rattle.dstm_tl2_engine.proofs.Told.{rest_made, told_more, told_opened}
use Rattle.dstm_tl2_engine.specs.Opens.{Continues, HasOpened}
use Rattle.dstm_tl2_engine.specs.Outcomes.{IsLeft}
use Rattle.dstm_tl2_engine.specs.Transactions.{Leaves, Marks, Stays}
use Rattle.dstm_tl2_engine.specs.declared.caller.TlCaller.TheInside.{Inside}

-- ---- partial functions

pub none_of : {A : Type 0} (x : Option A) → (IsSome x → ⊥) → x ≡ None
none_of None never = refl
none_of (Some x) never = absurd (never refl)

pub not_some : {A : Type 0} (x : Option A) → is_some x ≡ false → x ≡ None
not_some None h = refl
not_some (Some x) h = absurd (cc)

pub none_some : {A : Type 0} (x : Option A) → x ≡ None → IsSome x → ⊥
none_some None q h = let z : false ≡ true = h in cc
none_some (Some x) q h = cc

map_none : {A B : Type 0} (f : A → B) (x : Option A) → option_map f x ≡ None → x ≡ None
map_none f None h = refl
map_none f (Some x) h = absurd (cc)

-- ---- a list of pairs with one more

pub value_in-last : (ps : List (ℕ × Val)) (o : ℕ) (x : Val) → value_in ps o ≡ None →
    value_in (ps ++ (o, x) ∷ []) o ≡ Some x
value_in-last [] o x none = value_in-same (o, x) [] o refl
value_in-last (p ∷ ps) o x none = elim (cases_eq p.0 o) [
  | inl q ↦ absurd (let z : Some p.1 ≡ None = sym (value_in-same p ps o q) ∙ none in cc)
  | inr n ↦ value_in-other p (ps ++ (o, x) ∷ []) o n ∙ value_in-last ps o x (sym (value_in-other p ps o n) ∙ none)
]

pub value_in-more : (ps : List (ℕ × Val)) (o : ℕ) (x : Val) (p : ℕ) → p ≢ o →
    value_in (ps ++ (o, x) ∷ []) p ≡ value_in ps p
value_in-more [] o x p other = value_in-other (o, x) [] p (λ q. other (sym q))
value_in-more (y ∷ ps) o x p other = elim (cases_eq y.0 p) [
  | inl q ↦ value_in-same y (ps ++ (o, x) ∷ []) p q ∙ sym (value_in-same y ps p q)
  | inr n ↦ value_in-other y (ps ++ (o, x) ∷ []) p n ∙ value_in-more ps o x p other ∙ sym (value_in-other y ps p n)
]

pub value_in-stays : (ps qs : List (ℕ × Val)) (p : ℕ) → IsSome (value_in ps p) → value_in (ps ++ qs) p ≡ value_in ps p
value_in-stays [] qs p some = absurd (let z : false ≡ true = some in cc)
value_in-stays (y ∷ ps) qs p some = elim (cases_eq y.0 p) [
  | inl q ↦ value_in-same y (ps ++ qs) p q ∙ sym (value_in-same y ps p q)
  | inr n ↦
      value_in-other y (ps ++ qs) p n ∙ value_in-stays ps qs p (ap is_some (sym (value_in-other y ps p n)) ∙ some)
      ∙ sym (value_in-other y ps p n)
]

-- an object that is newly paired is the only change
pub holds_also : (ps : List (ℕ × Val)) (o : ℕ) (x : Val) → value_in ps o ≡ None →
    HoldsAlso o (value_in ps) (value_in (ps ++ (o, x) ∷ []))
holds_also ps o x none = record {
  held = ap is_some (value_in-last ps o x none);
  kept = λ p some. value_in-more ps o x p
      (λ q. none_some (value_in ps o) none (ap (λ n. is_some (value_in ps n)) (sym q) ∙ some));
  others = value_in-more ps o x;
}

-- ---- reads

-- the value that is held of an object is that of its read
pub held_read : (rs : List Read) (o : ℕ) →
    value_in (read_values rs) o ≡ option_map (λ (r : Read). r.value) (read_of o rs)
held_read [] o = refl
held_read (r ∷ rs) o = elim (cases_Bool (r.object == o)) [
  | inl q ↦ rw q refl
  | inr q ↦ rw q (held_read rs o)
]

pub unheld_unread : (rs : List Read) (o : ℕ) → value_in (read_values rs) o ≡ None → read_of o rs ≡ None
unheld_unread rs o none = map_none (λ (r : Read). r.value) (read_of o rs) (sym (held_read rs o) ∙ none)

pub unread_unheld : (rs : List Read) (o : ℕ) → read_of o rs ≡ None → value_in (read_values rs) o ≡ None
unread_unheld rs o none = held_read rs o ∙ ap (option_map (λ (r : Read). r.value)) none

-- one read more
pub values_push : (rs : List Read) (r : Read) → read_values (rs ++ r ∷ []) ≡ read_values rs ++ (r.object, r.value) ∷ []
values_push rs r = map-append (λ (r : Read). (r.object, r.value)) rs (r ∷ [])

unread_before : (rs : List Read) (r : Read) (o : ℕ) → read_of o (rs ++ r ∷ []) ≡ None → read_of o rs ≡ None
unread_before [] r o none = refl
unread_before (x ∷ rs) r o none = elim (cases_Bool (x.object == o)) [
  | inl q ↦ absurd (let z : Some x ≡ None = rw q at none in cc)
  | inr q ↦ rw q (unread_before rs r o (rw q at none))
]

-- where nothing is locked, nothing is locked by another state either
pub no_holds : (l m : LocalState) (ws : List (ℕ × Val)) → map (new_hold l) ws ≡ [] → map (new_hold m) ws ≡ []
no_holds l m [] none = refl
no_holds l m (w ∷ ws) none = absurd (cc)

pub not_left : (x : Option TlAgain) → is_none x ≡ true → x ≡ None
not_left None h = refl
not_left (Some again) h = absurd (cc)

-- ---- what is held, and what an open hands out

module _ {L : Type 0} {holds : L → List Val → Type 0} where
  -- a map is admitted that has what is held
  pub narrows_by : (k n : TlCalled L) → n.home ≡ k.home → ((o : ℕ) → IsSome (held k o) → held n o ≡ held k o) →
      (map : List Val) → Admits holds n map → Admits holds k map
  narrows_by k n home still map admits = record {
    length = admits.length ∙ ap (λ h. length h.terms.start.value.items) home;
    lawful = subst (λ h. holds h.terms.law.value map) home admits.lawful;
    agrees = λ o. by o (held k o) refl;
  }
    where
      by : (o : ℕ) (x : Option Val) → held k o ≡ x → IfSome x (λ v. value_at map o ≡ v)
      by o None q = tt
      by o (Some x) q = subst (λ y. IfSome y (λ v. value_at map o ≡ v)) (still o (ap is_some q) ∙ q) (admits.agrees o)

  -- A MAP IS ADMITTED: the one that the attempt sees.
  pub seen_admits : (k : TlCalled L) → IsRunOf holds k.home.terms k.log → Seen holds k →
      (map : List Val) × Admits holds k map
  seen_admits k run seen = (
    state_after (start_of k) (prefix_at (table_of_caller k) k.log (sample_place k.number k.log)),
    record {
      length = states_keep_length (start_of k)
          (prefix_at (table_of_caller k) k.log (sample_place k.number k.log));
      lawful = seen.lawful run.lawful;
      agrees = AgreesWith-of_agrees _ (read_values (state k).reads) seen.values;
    },
  )

module _ {L : Type 0} {holds : L → List Val → Type 0} {c : Inside L} (v : Tied holds c) where
  -- the lists have what is held
  pub held_slot : (o : ℕ) →
      held (called c) o ≡ option_map (λ (s : ReadSlot). s.value) (read_slot c.opened.reads o)
  held_slot o =
      held_read (state (called c)).reads o
      ∙ ap (λ rs. option_map (λ (r : Read). r.value) (read_of o rs)) (sym v.reads)
      ∙ ap (option_map (λ (r : Read). r.value)) (read_of-slots c.opened.reads o)
      ∙ by (read_slot c.opened.reads o)
    where
      by : (s : Option ReadSlot) → option_map (λ (r : Read). r.value) (option_map slot_read s)
          ≡ option_map (λ (s : ReadSlot). s.value) s
      by None = refl
      by (Some s) = refl

  pub unheld_slot : (o : ℕ) → held (called c) o ≡ None → read_slot c.opened.reads o ≡ None
  unheld_slot o none = map_none (λ (s : ReadSlot). s.value) (read_slot c.opened.reads o) (sym (held_slot o) ∙ none)

  -- what is not open for writing was not set
  pub unset : (o : ℕ) → value_in c.opened.writes o ≡ None → value_in c.opened.set o ≡ None
  unset o none = none_of (value_in c.opened.set o) (λ some. none_some (value_in c.opened.writes o) none (v.sets o some))

  -- what is not read is not open for writing
  pub unheld_unopened : (o : ℕ) → held (called c) o ≡ None → value_in c.opened.writes o ≡ None
  unheld_unopened o none = v.writes_read o (unheld_unread (state (called c)).reads o none)

  -- so what is open for writing is read
  pub opened_held : (o : ℕ) → IsSome (value_in c.opened.writes o) → IsSome (held (called c) o)
  opened_held o some = elim (cases_Bool (is_some (held (called c) o))) [
    | inl q ↦ q
    | inr q ↦ absurd (none_some (value_in c.opened.writes o) (unheld_unopened o (not_some (held (called c) o) q)) some)
  ]

  -- the value that an open hands out, by the lists
  pub slots_hand : (o : ℕ) → slots_value (value_in c.opened.writes o) (read_slot c.opened.reads o) ≡ handed (called c) o
  slots_hand o = by (value_in c.opened.writes o) refl
    where
      of_slot : (s : Option ReadSlot) → slots_value None s ≡ option_map (λ (s : ReadSlot). s.value) s
      of_slot None = refl
      of_slot (Some s) = refl

      by : (x : Option Val) → value_in c.opened.writes o ≡ x → slots_value x (read_slot c.opened.reads o)
          ≡ handed (called c) o
      by None q =
          of_slot (read_slot c.opened.reads o) ∙ sym (held_slot o)
          ∙ ap (λ w. option_or w (held (called c) o)) (sym (unset o q))
      by (Some x) q = subst (λ y. IfSome y (λ v. Some v ≡ handed (called c) o)) q (v.puts o)

-- ---- a call that opens

-- it tells no writes
look_tells : (k : Kind) → is_look k ≡ true → writes_of k ≡ []
look_tells LookLock h = refl
look_tells LookLow h = refl
look_tells LookHigh h = refl
look_tells LookAgain h = refl
look_tells k h = absurd (cc)

one_of : (P : Event → Type 0) (later early : List Event) (event : Event) → All P (later ++ event ∷ early) → P event
one_of P later early event all =
    let long = length-append later (event ∷ early) in
    subst P (get_or-append_seam later event early event) (all (length later) event (omega arith))

module _ {L : Type 0} {holds : L → List Val → Type 0} {k n : TlCalled L} (o : ℕ) {again : Option TlAgain}
    (p : Performs holds (Doing (Opening o)) k n again) where
  -- it keeps its attempt, and commits nothing
  pub opening_continues : ((p : ℕ) → IsSome (held k p) → held n p ≡ held k p) → Continues holds k n
  opening_continues still = record {
    attempt = attempt_kept p refl;
    done = done_quiet p refl;
    narrows = narrows_by k n p.same.0 still;
  }

  pub opening_tells : (event : Event) (later early : List Event) → p.events ≡ later ++ event ∷ early →
      NamesOnce (objects_of k) (writes_of event.kind)
  opening_tells event later early is =
      subst (NamesOnce (objects_of k))
      (sym (look_tells event.kind (one_of (λ (e : Event). is_look e.kind ≡ true) later early event
      (subst (All (λ (e : Event). is_look e.kind ≡ true)) is
      (opening_looks o (table_of_caller k) (state k) p.events p.call.obeys))))) tt

-- ---- a read

-- the caller has opened an object, and hands out this value
pub record Reads {L : Type 0} (holds : L → List Val → Type 0) (o : ℕ) (k n : TlCalled L) (value : Val) : Type 0 where
  pub stays : Stays holds (Opening o) k n
  pub kept : n ≡ record k { log = n.log; left = None }
  pub continues : Continues holds k n
  pub opens : HasOpened holds o k n
  pub rest : AtRest (state n)
  pub seen : Seen holds n
  pub reads : Some value ≡ held n o

-- the caller has left its attempt
pub record Stops {L : Type 0} (holds : L → List Val → Type 0) (o : ℕ) (k n : TlCalled L) (again : TlAgain) :
    Type 0 where
  pub leaves : Leaves holds (Opening o) k n again
  pub kept : n ≡ record k { log = n.log; left = Some again }
  pub continues : Continues holds k n
  pub seen : Seen holds n

module _ {L : Type 0} {holds : L → List Val → Type 0} {c : Inside L} (v : Tied holds c)
    (live : is_live (called c) ≡ true) (rest : AtRest (state (called c))) (o : ℕ) {new : Steps L}
    (unread : held (called c) o ≡ None) (slot : ReadSlot) (is : slot.object ≡ o)
    (u : EndsHere holds c (Doing (Opening o)) new None) (adds : now (called c).home new ≡ record (state (called c)) {
      reads = (state (called c)).reads ++ slot_read slot ∷ [];
    })
  where
    abbrev pub read_as : Inside L
    read_as = record c { steps = new; opened = record c.opened { reads = c.opened.reads ++ slot ∷ [] } }

    pub read_state : state (called read_as) ≡ record (state (called c)) {
      reads = (state (called c)).reads ++ slot_read slot ∷ [];
    }
    read_state = state_then v (Doing (Opening o)) u ∙ adds

    reads_now : (state (called read_as)).reads ≡ (state (called c)).reads ++ slot_read slot ∷ []
    reads_now = ap (λ (l : LocalState). l.reads) read_state

    -- what is held
    held_now : (p : ℕ) →
        held (called read_as) p ≡ value_in (read_values (state (called c)).reads ++ (o, slot.value) ∷ []) p
    held_now p = rw (reads_now, values_push (state (called c)).reads (slot_read slot), is) refl

    pub read_held : HoldsAlso o (held (called c)) (held (called read_as))
    read_held =
        let h = holds_also (read_values (state (called c)).reads) o slot.value unread in record {
          held = ap is_some (held_now o) ∙ h.held;
          kept = λ p some. held_now p ∙ h.kept p some;
          others = λ p other. held_now p ∙ h.others p other;
        }

    pub read_rest : AtRest (state (called read_as))
    read_rest =
        subst (λ (l : LocalState). AtRest l) (sym read_state) (record {
          begun = rest.begun;
          no_look = rest.no_look;
          untold = rest.untold;
          undrawn = rest.undrawn;
          sound = rest.sound;
        })

    steps : Performs holds (Doing (Opening o)) (called c) (called read_as) None
    steps = performs_then c (Doing (Opening o)) u read_as.opened c.left

    pub read_tied : Tied holds read_as
    read_tied = record {
      placed = (kept v (Doing (Opening o)) u).placed;
      begun = ap (λ (l : LocalState). l.begun) read_state ∙ v.begun;
      objects = v.objects;
      reads = map-append slot_read c.opened.reads (slot ∷ []) ∙ ap (λ rs. rs ++ slot_read slot ∷ []) v.reads ∙ sym reads_now;
      writes_read = λ p none. v.writes_read p
          (unread_before (state (called c)).reads (slot_read slot) p (ap (read_of p) (sym reads_now) ∙ none));
      puts = λ p. puts_now p (value_in c.opened.writes p) refl (v.puts p);
      sets = v.sets;
      seen = (kept v (Doing (Opening o)) u).seen;
      locks = ap (λ (l : LocalState). l.holds) read_state ∙ rest.untold.2
          ∙ sym (no_holds (state (called c)) (state (called read_as)) (take c.locked c.opened.writes)
          (sym v.locks ∙ rest.untold.2));
      may = λ some. read_rest.undrawn;
      few = v.few;
      lawful = lawful_unlocked holds read_rest.untold.2 v.sets;
      left = subst (λ x. IfSome x (λ again. IsLeft (called read_as))) (sym (not_left c.left live)) tt;
      told = λ _. told_more steps
          (v.told (rest_made (called c) rest)) tt (λ _. not_left c.left live) (not_left c.left live);
    }
      where
        puts_now : (p : ℕ) (x : Option Val) → value_in c.opened.writes p ≡ x →
            IfSome x (λ y. Some y ≡ handed (called c) p) → IfSome x (λ y. Some y ≡ handed (called read_as) p)
        puts_now p None q h = tt
        puts_now p (Some x) q h =
            h ∙ ap (option_or (value_in c.opened.set p)) (sym (read_held.kept p (opened_held v p (ap is_some q))))

    pub reads : Reads holds o (called c) (called read_as) slot.value
    reads =
        let k = kept v (Doing (Opening o)) u in record {
          stays = record { steps = steps; attempt = attempt_kept steps refl };
          kept = rw (k.home, not_left c.left live) refl;
          continues = opening_continues o steps (λ p some. read_held.kept p some);
          opens = record { held = read_held; admits = seen_admits (called read_as) u.run k.seen };
          rest = read_rest;
          seen = k.seen;
          reads = sym (held_now o ∙ value_in-last (read_values (state (called c)).reads) o slot.value unread);
        }

-- ---- a read that has left its attempt

module _ {L : Type 0} {holds : L → List Val → Type 0} {c : Inside L} (v : Tied holds c)
    (rest : AtRest (state (called c))) (o : ℕ) {new : Steps L} {again : TlAgain}
    (u : EndsHere holds c (Doing (Opening o)) new (Some again))
    (same : now (called c).home new ≡ record (state (called c)) { look = (now (called c).home new).look })
  where
    abbrev pub stopped_as : Inside L
    stopped_as = record c { steps = new; left = Some again }

    stopped_state : state (called stopped_as) ≡ record (state (called c)) { look = (now (called c).home new).look }
    stopped_state = state_then v (Doing (Opening o)) u ∙ same

    reads_still : (state (called stopped_as)).reads ≡ (state (called c)).reads
    reads_still = ap (λ (l : LocalState). l.reads) stopped_state

    held_still : (p : ℕ) → held (called stopped_as) p ≡ held (called c) p
    held_still p = ap (λ rs. value_in (read_values rs) p) reads_still

    steps_stopped : Performs holds (Doing (Opening o)) (called c) (called stopped_as) (Some again)
    steps_stopped = performs_then c (Doing (Opening o)) u c.opened (Some again)

    pub stopped_left : IsLeft (called stopped_as)
    stopped_left =
        left_after steps_stopped again refl refl refl (ap (λ (l : LocalState). l.holds) stopped_state ∙ rest.untold.2)
        (inr (ap (λ (l : LocalState). l.drawn) stopped_state ∙ rest.undrawn))
        (others_of (table_of_caller (called c)) c.number (called stopped_as).log (called c).log steps_stopped.events
        again u.run.run.run v.number.0 steps_stopped.own (sym steps_stopped.answers) (opening_tells o steps_stopped))

    pub stopped_tied : Tied holds stopped_as
    stopped_tied = record {
      placed = (kept v (Doing (Opening o)) u).placed;
      begun = ap (λ (l : LocalState). l.begun) stopped_state ∙ v.begun;
      objects = v.objects;
      reads = v.reads ∙ sym reads_still;
      writes_read = λ p none. v.writes_read p (ap (read_of p) (sym reads_still) ∙ none);
      puts = λ p. subst (λ h. IfSome (value_in c.opened.writes p)
          (λ y. Some y ≡ option_or (value_in c.opened.set p) h)) (sym (held_still p)) (v.puts p);
      sets = v.sets;
      seen = (kept v (Doing (Opening o)) u).seen;
      locks = ap (λ (l : LocalState). l.holds) stopped_state ∙ rest.untold.2
          ∙ sym (no_holds (state (called c)) (state (called stopped_as)) (take c.locked c.opened.writes)
          (sym v.locks ∙ rest.untold.2));
      may = λ some. ap (λ (l : LocalState). l.drawn) stopped_state ∙ rest.undrawn;
      few = v.few;
      lawful = lawful_unlocked holds
          (ap (λ (l : LocalState). l.holds) stopped_state ∙ rest.untold.2) v.sets;
      left = stopped_left;
      told = λ _. told_more steps_stopped
          (v.told (rest_made (called c) rest)) tt (λ none. absurd (cc)) refl;
    }

    pub stops : Stops holds o (called c) (called stopped_as) again
    stops = record {
      leaves = record {
        steps = steps_stopped;
        cause = causes_of (table_of_caller (called c)) (state (called c)) steps_stopped.events again
            (sym steps_stopped.answers);
        left = stopped_left;
        attempt = attempt_kept steps_stopped refl;
        done = done_quiet steps_stopped refl;
      };
      kept = ap (λ h. record (called stopped_as) { home = h }) (kept v (Doing (Opening o)) u).home;
      continues = opening_continues o steps_stopped (λ p some. held_still p);
      seen = (kept v (Doing (Opening o)) u).seen;
    }

-- ---- an object that is newly open for writing

module _ {L : Type 0} {holds : L → List Val → Type 0} {c : Inside L} (v : Tied holds c)
    (live : is_live (called c) ≡ true) (rest : AtRest (state (called c))) (o : ℕ) (value : Val)
    (unopened : value_in c.opened.writes o ≡ None) (read : Some value ≡ held (called c) o)
  where
    abbrev pub marked_as : Inside L
    marked_as = record c { opened = record c.opened { writes = c.opened.writes ++ (o, value) ∷ [] } }

    pub marked_tied : Tied holds marked_as
    marked_tied = record {
      placed = v.placed;
      begun = v.begun;
      objects = v.objects;
      reads = v.reads;
      writes_read = λ p none. value_in-more c.opened.writes o value p (apart p none) ∙ v.writes_read p none;
      puts = λ p. puts_now p (cases_eq p o);
      sets = λ p some. ap is_some (value_in-stays c.opened.writes ((o, value) ∷ []) p (v.sets p some)) ∙ v.sets p some;
      seen = v.seen;
      locks = v.locks ∙ ap (map (new_hold (state (called c))))
          (sym (take-append-le c.locked c.opened.writes ((o, value) ∷ []) v.few));
      may = v.may;
      few = let long = length-append c.opened.writes ((o, value) ∷ []) in let few = v.few in omega arith;
      lawful = λ locked.
          let none = rest.untold.1 in
          let all = locked.locked in
          let long = length-append c.opened.writes ((o, value) ∷ []) in absurd (omega arith);
      left = subst (λ x. IfSome x (λ again. IsLeft (called marked_as))) (sym (not_left c.left live)) tt;
      told = λ made. told_opened c marked_as.opened (v.told made);
    }
      where
        apart : (p : ℕ) → read_of p (state (called c)).reads ≡ None → p ≢ o
        apart p none same =
            none_some (held (called c) o) (unread_unheld (state (called c)).reads o
            (subst (λ n. read_of n (state (called c)).reads ≡ None) same none)) (ap is_some (sym read))

        puts_now : (p : ℕ) → (p ≡ o) ⊎ (p ≡ o → ⊥) →
            IfSome (value_in (c.opened.writes ++ (o, value) ∷ []) p) (λ y. Some y ≡ handed (called c) p)
        puts_now p (inl same) =
            rw (same, value_in-last c.opened.writes o value unopened)
            (read ∙ ap (λ w. option_or w (held (called c) o)) (sym (unset v o unopened)))
        puts_now p (inr other) = rw (value_in-more c.opened.writes o value p other) (v.puts p)

    -- an open hands out the value that was read
    pub marked_value : Some value ≡ handed (called marked_as) o
    marked_value = read ∙ ap (λ w. option_or w (held (called c) o)) (sym (unset v o unopened))

-- ---- the first read of an object, by what its caller is seen as

-- An object is to be read that is not held. The caller that contracts see is the one that its fields stand for, and the
-- words are those of its table.
pub record Unread {L : Type 0} (holds : L → List Val → Type 0) (c : Inside L) (k : TlCalled L) (home : Home L) (o : ℕ) :
    Type 0 where
  pub tied : Tied holds c
  pub view : called c ≡ k
  pub same : (called c).home ≡ home
  pub rest : AtRest (state k)
  pub unread : held k o ≡ None

module _ {L : Type 0} {holds : L → List Val → Type 0} {c : Inside L} {k : TlCalled L} {home : Home L} {o : ℕ}
    (at : Unread holds c k home o)
  where
    here : now home c.steps ≡ state (called c)
    here = now_there at.tied at.same

    at_rest : AtRest (state (called c))
    at_rest = subst (λ (k : TlCalled L). AtRest (state k)) (sym at.view) at.rest

    unheld : held (called c) o ≡ None
    unheld = ap (λ (k : TlCalled L). held k o) at.view ∙ at.unread

    pub read_unread : read_of o (now home c.steps).reads ≡ None
    read_unread = ap (λ (l : LocalState). read_of o l.reads) here ∙ unheld_unread (state (called c)).reads o unheld

    pub slot_unread : (p : ℕ) → p ≡ o → read_slot c.opened.reads p ≡ None
    slot_unread p q = ap (read_slot c.opened.reads) q ∙ unheld_slot at.tied o unheld

    module _ (live : is_live k ≡ true) {new : Steps L} (slot : ReadSlot) (is : slot.object ≡ o)
        (u : Under holds home (begun_as home (Doing (Opening o)) c.steps) new Done None)
        (adds : now home new ≡ record (now home c.steps) { reads = (now home c.steps).reads ++ slot_read slot ∷ [] })
        {opened : OpenedAs} (pushed : opened ≡ record c.opened { reads = c.opened.reads ++ slot ∷ [] })
      where
        is_on : is_live (called c) ≡ true
        is_on = ap (λ (k : TlCalled L). is_live k) at.view ∙ live

        adds_here : now (called c).home new ≡ record (state (called c)) {
          reads = (state (called c)).reads ++ slot_read slot ∷ [];
        }
        adds_here =
            at_home at.tied at.same (λ h l. now h new ≡ record l { reads = l.reads ++ slot_read slot ∷ [] }) adds

        pub first_tied : Tied holds (record c { steps = new; opened = opened })
        first_tied =
            rw pushed (read_tied at.tied is_on at_rest o unheld slot is (ends_here at.tied at.same _ u) adds_here)

        pub first_reads : Reads holds o k (called (record c { steps = new; opened = opened })) slot.value
        first_reads =
            rw (← at.view, pushed)
            (reads at.tied is_on at_rest o unheld slot is (ends_here at.tied at.same _ u) adds_here)

    module _ {new : Steps L} {again : TlAgain}
        (u : Under holds home (begun_as home (Doing (Opening o)) c.steps) new Done (Some again))
        (same : now home new ≡ record (now home c.steps) { look = (now home new).look })
      where
        same_left : now (called c).home new ≡ record (state (called c)) { look = (now (called c).home new).look }
        same_left = at_home at.tied at.same (λ h l. now h new ≡ record l { look = (now h new).look }) same

        pub left_tied : Tied holds (record c { steps = new; left = Some again })
        left_tied = stopped_tied at.tied at_rest o (ends_here at.tied at.same _ u) same_left

        pub left_stops : Stops holds o k (called (record c { steps = new; left = Some again })) again
        left_stops = rw (← at.view) (stops at.tied at_rest o (ends_here at.tied at.same _ u) same_left)

-- ---- an open of what is open already

module _ {L : Type 0} {holds : L → List Val → Type 0} {c : Inside L} (v : Tied holds c) {k : TlCalled L}
    (view : called c ≡ k) (o : ℕ)
  where
    -- what an open hands out is there where a value is held
    held_hands : (h : Option Val) → held (called c) o ≡ h → is_some (handed (called c) o) ≡ is_some h
    held_hands None q = rw (unset v o (unheld_unopened v o q), q) refl
    held_hands (Some x) q = ap (λ h. is_some (option_or (written (called c) o) h)) q ∙ some_else (written (called c) o)
      where
        some_else : (w : Option Val) → is_some (option_or w (Some x)) ≡ true
        some_else None = refl
        some_else (Some y) = refl

    pub hands : slots_value (value_in c.opened.writes o) (read_slot c.opened.reads o) ≡ handed k o
    hands = slots_hand v o ∙ ap (λ (k : TlCalled L). handed k o) view

    slots_held : is_some (slots_value (value_in c.opened.writes o) (read_slot c.opened.reads o)) ≡ is_some (held k o)
    slots_held =
        ap is_some (slots_hand v o) ∙ held_hands (held (called c) o) refl
        ∙ ap (λ (k : TlCalled L). is_some (held k o)) view

    -- what is not read was not set
    pub unset_unheld : held k o ≡ None → written k o ≡ None
    unset_unheld none =
        ap (λ (k : TlCalled L). written k o) (sym view)
        ∙ unset v o (unheld_unopened v o (ap (λ (k : TlCalled L). held k o) view ∙ none))

    pub handed_held : (x : Val) → slots_value (value_in c.opened.writes o) (read_slot c.opened.reads o) ≡ Some x →
        IsSome (held k o)
    handed_held x q = sym slots_held ∙ ap is_some q

    pub unhanded_unheld : slots_value (value_in c.opened.writes o) (read_slot c.opened.reads o) ≡ None → held k o ≡ None
    unhanded_unheld q = not_some (held k o) (sym slots_held ∙ ap is_some q)

    pub put_held : IsSome (value_in c.opened.writes o) → IsSome (held k o)
    put_held some = ap (λ (k : TlCalled L). is_some (held k o)) (sym view) ∙ opened_held v o some

    pub slot_held : option_map (λ (s : ReadSlot). s.value) (read_slot c.opened.reads o) ≡ held k o
    slot_held = sym (held_slot v o) ∙ ap (λ (k : TlCalled L). held k o) view

    pub no_slot_unheld : read_slot c.opened.reads o ≡ None → held k o ≡ None
    no_slot_unheld none = sym slot_held ∙ ap (option_map (λ (s : ReadSlot). s.value)) none

    pub held_opened : IsSome (held k o) → HasOpened holds o k k
    held_opened some = record {
      held = record { held = some; kept = λ p some. refl; others = λ p other. refl };
      admits = rw (← view) (seen_admits (called c) v.run v.seen);
    }

-- ---- an open for writing

-- The object is read, whether it was read before or has been read by this call.
pub record IsRead {L : Type 0} (holds : L → List Val → Type 0) (o : ℕ) (k m : TlCalled L) (value : Val) : Type 0 where
  pub writes : m.writes ≡ k.writes
  pub set : m.set ≡ k.set
  pub live : is_live m ≡ true
  pub rest : AtRest (state m)
  pub read : Some value ≡ held m o
  pub stays : held k o ≡ None → Stays holds (Opening o) k m
  pub steps : IsSome (held k o) → m.log ≡ k.log
  pub opens : HasOpened holds o k m

pub read_before : {L : Type 0} {holds : L → List Val → Type 0} {c : Inside L} (v : Tied holds c) {k m : TlCalled L}
    (view : called c ≡ k) (o : ℕ) (slot : ReadSlot) (value : Val) → is_live k ≡ true → AtRest (state k) →
    read_slot c.opened.reads o ≡ Some slot → m ≡ k → value ≡ slot.value → IsRead holds o k m value
read_before {holds = holds} v {k = k} view o slot value live rest is same is_value =
    subst (λ (n : TlCalled _). IsRead holds o k n value) (sym same) (subst (IsRead holds o k k) (sym is_value) here)
  where
    read : Some slot.value ≡ held k o
    read = ap (option_map (λ (s : ReadSlot). s.value)) (sym is) ∙ slot_held v view o

    here : IsRead holds o k k slot.value
    here = record {
      writes = refl;
      set = refl;
      live = live;
      rest = rest;
      read = read;
      stays = λ none. absurd (none_some (held k o) none (ap is_some (sym read)));
      steps = λ some. refl;
      opens = held_opened v view o (ap is_some (sym read));
    }

pub read_by : {L : Type 0} {holds : L → List Val → Type 0} {o : ℕ} {k n m : TlCalled L} (read value : Val) →
    held k o ≡ None → Stays holds (Opening o) k n → n ≡ record k { log = n.log; left = None } → HasOpened holds o k n →
    AtRest (state n) → Some read ≡ held n o → m ≡ n → value ≡ read → IsRead holds o k m value
read_by {holds = holds} {o = o} {k = k} {n = n} read value none stays kept opens rest reads same is_value =
    subst (λ (n : TlCalled _). IsRead holds o k n value) (sym same) (subst (IsRead holds o k n) (sym is_value) here)
  where
    here : IsRead holds o k n read
    here = record {
      writes = ap (λ (k : TlCalled _). k.writes) kept;
      set = ap (λ (k : TlCalled _). k.set) kept;
      live = ap (λ (k : TlCalled _). is_live k) kept;
      rest = rest;
      read = reads;
      stays = λ none. stays;
      steps = λ some. absurd (none_some (held k o) none some);
      opens = opens;
    }

module _ {L : Type 0} {holds : L → List Val → Type 0} {o : ℕ} {k m : TlCalled L} {value : Val}
    (r : IsRead holds o k m value) {c : Inside L} (v : Tied holds c) (view : called c ≡ m)
    (unopened : value_in k.writes o ≡ None) {opened : OpenedAs}
    (pushed : opened ≡ record c.opened { writes = c.opened.writes ++ (o, value) ∷ [] })
  where
    on_there : is_live (called c) ≡ true
    on_there = ap (λ (k : TlCalled L). is_live k) view ∙ r.live

    rest_there : AtRest (state (called c))
    rest_there = subst (λ (k : TlCalled L). AtRest (state k)) (sym view) r.rest

    none_there : value_in c.opened.writes o ≡ None
    none_there = ap (λ (k : TlCalled L). value_in k.writes o) view ∙ ap (λ ws. value_in ws o) r.writes ∙ unopened

    read_there : Some value ≡ held (called c) o
    read_there = r.read ∙ ap (λ (k : TlCalled L). held k o) (sym view)

    abbrev pub pushed_as : Inside L
    pushed_as = record c { opened = opened }

    pub pushed_tied : Tied holds pushed_as
    pushed_tied = rw pushed (marked_tied v on_there rest_there o value none_there read_there)

    -- the caller is as it was, but for what is open
    pushed_is : called pushed_as ≡ record m { writes = k.writes ++ (o, value) ∷ []; set = k.set }
    pushed_is =
        ap (λ (x : OpenedAs). called (record c { opened = x })) pushed
        ∙ ap (λ (n : TlCalled L). record n { writes = n.writes ++ (o, value) ∷ [] }) view
        ∙ ap (λ ws. record m { writes = ws ++ (o, value) ∷ [] }) r.writes
        ∙ ap (λ s. record m { writes = k.writes ++ (o, value) ∷ []; set = s }) r.set

    pub pushed_marks : Marks o k (called pushed_as) value
    pushed_marks =
        subst (λ (n : TlCalled L). Marks o k n value) (sym pushed_is)
        (record { writes = refl; set = refl; read = r.read })

    pub pushed_stays : held k o ≡ None → Stays holds (Opening o) k (called pushed_as)
    pushed_stays none =
        subst (λ (n : TlCalled L). Stays holds (Opening o) k n) (sym pushed_is) (let s = r.stays none in record {
          steps = record { acts = s.steps.acts; same = s.steps.same };
          attempt = s.attempt;
        })

    pub pushed_steps : IsSome (held k o) → (called pushed_as).log ≡ k.log
    pushed_steps some = ap (λ (n : TlCalled L). n.log) view ∙ r.steps some

    pub pushed_opens : HasOpened holds o k (called pushed_as)
    pushed_opens =
        subst (λ (n : TlCalled L). HasOpened holds o k n) (sym pushed_is) (record {
          held = r.opens.held;
          admits = (
            r.opens.admits.0,
            record {
              length = r.opens.admits.1.length;
              lawful = r.opens.admits.1.lawful;
              agrees = r.opens.admits.1.agrees;
            },
          );
        })

    pub pushed_value : Some value ≡ handed (called pushed_as) o
    pushed_value = rw pushed (marked_value v on_there rest_there o value none_there read_there)
