-- What was checked before anything is written.
use Rattle.std.proofs.Common.{◌≡◌, ◌==◌, ◌⊎◌, ◌∷◌, ◌++◌, ◌∙◌, ℕ, inl, inr, List, [], add-one, refl, ap, sym, subst, true, false, Bool, length, ◌+◌, not, slice_get}
use Rattle.std.specs.Prelude.{◌||◌}
use Rattle.dstm_tl2.proofs.Base.{Event, LocalState, Read, Table, Val, after, cases_Bool, eqb-true, is_draw, is_readable, next_check, or_read, or_right, or_zero, to_check}
use Rattle.dstm_tl2.specs.declared.kind.Kind.{Kind}
use Rattle.dstm_tl2.specs.declared.kind.Kind.TheVariants.{Check, Draw, Enrol, Lock, LookAgain, LookHigh, LookLock, LookLow, Sample, Unlock, WriteHigh, WriteLow}
use Rattle.std.proofs.lemmas.List.Elements.{All-cons, All-nil}
use Rattle.dstm_tl2_order.specs.Calls.{Obeys, state_after}
use Rattle.dstm_tl2_order.specs.Order.{IsDue, at_first, draws, in_checking, in_giving_back, in_locking, in_writing_back, locks, next, when_locked}
use Rattle.dstm_tl2_order.specs.Tasks.{Work}
use Rattle.dstm_tl2_order.specs.Tasks.Task.{Doing}
use Rattle.dstm_tl2_order.specs.Tasks.Work.{Opening, Locking, Finishing, Committing}
use Rattle.dstm_tl2_order.proofs.Bounded.{Written, first_given, first_written}
use Rattle.dstm_tl2_order.proofs.Bounded.Written.{puts_low, puts_high, frees}
use Rattle.dstm_tl2_order.specs.Laws.{AreChecks, IsValidated, writes_back}

-- the events are those since a Draw, which checked reads so far
record Counting (t : Table) (l : LocalState) (es : List Event) : Type 0 where
  checks : List Event
  draw : Event
  before : List Event
  are : es ≡ checks ++ draw ∷ before
  draws : is_draw draw.kind ≡ true
  checked : AreChecks (to_check (state_after t l (draw ∷ before))) checks
  count : (state_after t l es).checked ≡ length checks
  same : to_check (state_after t l es) ≡ to_check (state_after t l (draw ∷ before))

-- a part of a value is written
abbrev writes : Kind → Bool
writes WriteLow = true
writes WriteHigh = true
writes k = false

module _ (t : Table) (l : LocalState) where
  abbrev now : List Event → LocalState
  now es = state_after t l es

  -- what is known of the events behind one of this kind
  abbrev Known : Kind → List Event → Type 0
  Known (Draw ws) es = Counting t l es
  Known Check es = (now es).failed ≡ false → Counting t l es
  Known WriteLow es = IsValidated t l es
  Known WriteHigh es = IsValidated t l es
  Known Unlock es = (now es).failed ≡ false → IsValidated t l es
  Known k es = Unit {0}

  -- of the next event
  abbrev Goes : List Event → Event → Type 0
  Goes es e = Known e.kind (e ∷ es) × (writes e.kind ≡ true → IsValidated t l es)

  of_kind : (es : List Event) (e : Event) {k : Kind} → e.kind ≡ k → Known k (e ∷ es) →
      (writes k ≡ true → IsValidated t l es) → Goes es e
  of_kind es e {k = k} q known valid =
      (subst (λ k. Known k (e ∷ es)) (sym q) known, λ is. valid (sym (ap writes q) ∙ is))

  -- one event more that writes back
  longer : {es : List Event} (e : Event) → writes_back e.kind ≡ true → IsValidated t l es → IsValidated t l (e ∷ es)
  longer e back v = record {
    later = e ∷ v.later;
    checks = v.checks;
    draw = v.draw;
    before = v.before;
    are = ap (λ xs. e ∷ xs) v.are;
    back = All-cons (λ (e : Event). writes_back e.kind ≡ true) e v.later back v.back;
    draws = v.draws;
    checked = v.checked;
    all = v.all;
  }

  behind_write : {es : List Event} (e : Event) (n : ℕ) → IsValidated t l es →
      IsDue t (in_writing_back n (now es).holds) e → Goes es e
  behind_write {es = es} e n v due = go (first_written t n (now es).holds e due)
    where
      go : Written t (now es).holds e → Goes es e
      go (puts_low q less) = of_kind es e q (longer e (ap writes_back q) v) (λ _. v)
      go (puts_high q less) = of_kind es e q (longer e (ap writes_back q) v) (λ _. v)
      go (frees q less) = of_kind es e q (λ _. longer e (ap writes_back q) v) (λ _. v)

  given_back : (es : List Event) (e : Event) → (now es).failed ≡ true → IsDue t (in_giving_back (now es).holds) e →
      Goes es e
  given_back es e failed due =
      let q = (first_given t (now es).holds e due).0 in
      of_kind es e q
      (λ sound. absurd (let no : true ≡ false =
      sym failed ∙ sym (ap (λ k. (after k t (now es) e).failed) q) ∙ sound in cc)) (λ is. absurd (cc))

  behind_draw : (es : List Event) (e : Event) (ws : List (ℕ × Val)) → e.kind ≡ draws ws → Goes es e
  behind_draw es e ws q =
      of_kind es e q (record {
        checks = [];
        draw = e;
        before = es;
        are = refl;
        draws = ap is_draw q;
        checked = tt;
        count = ap (λ k. (after k t (now es) e).checked) q;
        same = refl;
      }) (λ is. absurd (cc))

  behind_check : {es : List Event} (e : Event) → Counting t l es → IsDue t (in_checking (now es)) e → Goes es e
  behind_check {es = es} e c due = go (cases_Bool ((now es).checked == length (to_check (now es))))
    where
      one : e.kind ≡ Check → (now (e ∷ es)).failed ≡ false → Counting t l (e ∷ es)
      one q sound = record {
        checks = e ∷ c.checks;
        draw = c.draw;
        before = c.before;
        are = ap (λ xs. e ∷ xs) c.are;
        draws = c.draws;
        checked = (c.checked, q, found ∙ ap (λ (r : Read). r.word) place);
        count = ap (λ k. (after k t (now es) e).checked) q ∙ ap (λ n. n + 1) c.count ∙ add-one (length c.checks);
        same = ap (λ k. to_check (after k t (now es) e)) q ∙ c.same;
      }
        where
          good : ((now es).failed || not (e.found == (next_check (now es)).word)) ≡ false
          good = sym (ap (λ k. (after k t (now es) e).failed) q) ∙ sound

          found : e.found ≡ (next_check (now es)).word
          found = elim (cases_Bool (e.found == (next_check (now es)).word)) [
            | inl r ↦ eqb-true e.found (next_check (now es)).word r
            | inr r ↦
                absurd (let no : true ≡ false =
                sym (or_right (now es).failed (not (e.found == (next_check (now es)).word)) (ap not r)) ∙ good in cc)
          ]

          place : next_check (now es)
              ≡ or_read (slice_get (to_check (state_after t l (c.draw ∷ c.before))) (length c.checks))
          place =
              ap (λ n. or_read (slice_get (to_check (now es)) n)) c.count
              ∙ ap (λ rs. or_read (slice_get rs (length c.checks))) c.same

      go : ((now es).checked == length (to_check (now es)) ≡ true)
          ⊎ ((now es).checked == length (to_check (now es)) ≡ false) → Goes es e
      go (inl q) =
          behind_write e (or_zero (now es).drawn) (record {
            later = [];
            checks = c.checks;
            draw = c.draw;
            before = c.before;
            are = c.are;
            back = All-nil (λ (e : Event). writes_back e.kind ≡ true);
            draws = c.draws;
            checked = c.checked;
            all = sym c.count ∙ eqb-true (now es).checked (length (to_check (now es))) q ∙ ap length c.same;
          }) (rw q at due)
      go (inr q) =
          let is : e.kind ≡ Check = rw q at due in of_kind es e is (one is) (λ no. absurd (cc))

  behind_lock : (es : List Event) (e : Event) (ws : List (ℕ × Val)) (w : Work) → IsDue t (in_locking ws w (now es)) e →
      Goes es e
  behind_lock es e ws w due = elim (cases_Bool ((now es).locked == length ws)) [
    | inl q ↦ rest w (rw q at due)
    | inr q ↦ let is : e.kind ≡ locks ws = rw q at due in of_kind es e is tt (λ no. absurd (cc))
  ]
    where
      rest : (w : Work) → IsDue t (when_locked w) e → Goes es e
      rest (Committing writes) d = behind_draw es e writes d
      rest w d = absurd d

  first : (w : Work) (e : Event) → IsDue t (at_first w l) e → Goes [] e
  first (Opening o) e due = of_kind [] e due.0 tt (λ no. absurd (cc))
  first (Locking ws) e due = behind_lock [] e ws (Locking ws) due
  first (Finishing ws) e due = behind_draw [] e ws due
  first (Committing ws) e due = behind_lock [] e ws (Committing ws) due

  -- behind an event of this kind
  behind : (w : Work) (es : List Event) (n e : Event) (k : Kind) → Known k es → IsDue t (next k n w (now es)) e →
      Goes es e
  behind w es n e LookLock known due = elim (cases_Bool (is_readable (now es).sample n.found)) [
    | inl q ↦ let is : e.kind ≡ LookLow = rw q at due in of_kind es e is tt (λ no. absurd (cc))
    | inr q ↦ let no : ⊥ = rw q at due in absurd no
  ]
  behind w es n e LookLow known due = of_kind es e due tt (λ no. absurd (cc))
  behind w es n e LookHigh known due = of_kind es e due tt (λ no. absurd (cc))
  behind w es n e LookAgain known due = absurd due
  behind w es n e (Lock ws) known due = elim (cases_Bool (now es).failed) [
    | inl q ↦ given_back es e q (rw q at due)
    | inr q ↦ behind_lock es e ws.value w (rw q at due)
  ]
  behind w es n e (Draw ws) known due = behind_check e known due
  behind w es n e Check known due = elim (cases_Bool (now es).failed) [
    | inl q ↦ given_back es e q (rw q at due)
    | inr q ↦ behind_check e (known q) (rw q at due)
  ]
  behind w es n e WriteLow known due = behind_write e (or_zero (now es).drawn) known due
  behind w es n e WriteHigh known due = behind_write e (or_zero (now es).drawn) known due
  behind w es n e Unlock known due = elim (cases_Bool (now es).failed) [
    | inl q ↦ given_back es e q (rw q at due)
    | inr q ↦ behind_write e (or_zero (now es).drawn) (known q) (rw q at due)
  ]
  behind w es n e Enrol known due = absurd due
  behind w es n e Sample known due = absurd due

  abbrev Said : List Event → Type 0
  Said [] = Unit {0}
  Said (e ∷ es) = Known e.kind (e ∷ es)

  goes : (w : Work) (es : List Event) (e : Event) → Said es → Obeys (Doing w) t l (e ∷ es) → Goes es e
  goes w [] e said o = first w e o.1
  goes w (n ∷ es) e said o = behind w (n ∷ es) n e n.kind said o.1

  said : (w : Work) (es : List Event) → Obeys (Doing w) t l es → Said es
  said w [] o = tt
  said w (e ∷ es) o = (goes w es e (said w es o.0) o).0

  pub validated : (w : Work) (e : Event) (es : List Event) → Obeys (Doing w) t l (e ∷ es) →
      (e.kind ≡ WriteLow) ⊎ (e.kind ≡ WriteHigh) → IsValidated t l es
  validated w e es o is = (goes w es e (said w es o.0) o).1 (by is)
    where
      by : (e.kind ≡ WriteLow) ⊎ (e.kind ≡ WriteHigh) → writes e.kind ≡ true
      by (inl q) = ap writes q
      by (inr q) = ap writes q
