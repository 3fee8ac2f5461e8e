-- A caller that has just drawn its number, and one after a value is set.
use Rattle.std.proofs.Common.{◌<◌, ◌∙◌, ◌≡◌, ◌≢◌, List, None, Option, Some, [], ap, arith, inl, inr, map, refl, subst, sym, take, true, ℕ}
use Rattle.std.specs.Prelude.{IfSome, IsSome, is_none}
use Rattle.std.specs.Option.{option_or}
use Rattle.std.proofs.lemmas.Bool.{cases_eq}
use Rattle.dstm_tl2_engine.proofs.Base.{AtRest, IsRunOf, LocalState, OpenedAs, Terms, TlAgain, Val, View, first, new_hold, slot_read, value_in, with_value}
use Rattle.atomic_table.specs.declared.shared.Seat.{Seat}
use Rattle.dstm_tl2_steps.proofs.Slots.{value_in-with_other, value_in-with_value}
use Rattle.dstm_tl2_engine.proofs.Begins.{lawful_unlocked, none_locked}
use Rattle.dstm_tl2_engine.proofs.Seeing.{seen_now}
use Rattle.dstm_tl2_engine.specs.Callers.{held, is_live, objects_of, seat_view, state}
use Rattle.dstm_tl2_engine.specs.Mirror.{Tied, called}
use Rattle.dstm_tl2_engine.proofs.Told.{told_opened}
use Rattle.dstm_tl2_engine.specs.Tables.{enrolled_as}
use Rattle.dstm_tl2_engine.specs.declared.caller.TlCaller.TheInside.{Inside}

-- ---- a caller that has just drawn its number

abbrev pub new_inside : {L : Type 0} → Terms L → Seat ℕ (View L) → (objects number : ℕ) → Inside L
new_inside terms seat objects number = record {
  terms = terms;
  steps = record { seat = seat; places = objects; sample = 0 };
  number = number;
  begun = 0;
  locked = 0;
  left = None;
  opened = record { objects = objects; reads = []; writes = []; set = [] };
}

pub enrolled_tied : {L : Type 0} {holds : L → List Val → Type 0} {terms : Terms L} (seat : Seat ℕ (View L))
    (objects number : ℕ) → seat.me.0 ≡ seat_view (enrolled_as terms seat number) → seat.me.1 ≡ [] →
    IsRunOf holds terms seat.me.0.log → objects_of (enrolled_as terms seat number) ≡ objects → number < terms.callers →
    state (enrolled_as terms seat number) ≡ record first { number = Some number } →
    Tied holds (new_inside terms seat objects number)
enrolled_tied {holds = holds} {terms = terms} seat objects number view slots run size few fresh = record {
  placed = record {
    seat = (view, slots);
    run = run;
    number = (few, ap (λ (l : LocalState). l.number) fresh);
    places = sym size;
    sample = ap (λ (l : LocalState). l.sample) fresh;
  };
  begun = ap (λ (l : LocalState). l.begun) fresh;
  objects = sym size;
  reads = sym (ap (λ (l : LocalState). l.reads) fresh);
  writes_read = λ o none. refl;
  puts = λ o. tt;
  sets = λ o some. some;
  seen = seen_now (enrolled_as terms seat number) run;
  locks = ap (λ (l : LocalState). l.holds) fresh;
  may = λ some. absurd (some refl);
  few = omega arith;
  lawful = lawful_unlocked holds (ap (λ (l : LocalState). l.holds) fresh)
      (λ o some. some);
  left = tt;
  told = λ made. absurd (let some = made.0 in let none = ap (λ (l : LocalState). l.begun) fresh in
      omega (arith, some, none));
}

-- ---- a value is set

live_left : (left : Option TlAgain) → is_none left ≡ true → left ≡ None
live_left None h = refl
live_left (Some again) h = absurd (cc)

-- the caller stays as it was else
module _ {L : Type 0} {holds : L → List Val → Type 0} {c : Inside L} (v : Tied holds c) (o : ℕ) (value : Val)
    (new : OpenedAs) (live : is_live (called c) ≡ true) (rest : AtRest (state (called c)))
    (opened : IsSome (value_in c.opened.writes o)) (writes : new.writes ≡ with_value o value c.opened.writes)
    (others : (p : ℕ) → p ≢ o → value_in new.set p ≡ value_in c.opened.set p) (own : value_in new.set o ≡ Some value)
    (same : (new.objects ≡ c.opened.objects) × (new.reads ≡ c.opened.reads)) where
  none : c.locked ≡ 0
  none = none_locked (state (called c)) c.opened.writes c.locked v.few v.locks rest.untold.2

  written_own : value_in new.writes o ≡ Some value
  written_own = ap (λ ws. value_in ws o) writes ∙ value_in-with_value o value c.opened.writes opened

  written_other : (p : ℕ) → p ≢ o → value_in new.writes p ≡ value_in c.opened.writes p
  written_other p other = ap (λ ws. value_in ws p) writes ∙ value_in-with_other o value c.opened.writes p other

  still_read : (p : ℕ) → value_in c.opened.writes p ≡ None → value_in new.writes p ≡ None
  still_read p unwritten = elim (cases_eq p o) [
    | inl q ↦
        let some : IsSome (value_in c.opened.writes p) =
        subst (λ p. IsSome (value_in c.opened.writes p)) (sym q) opened in
        absurd (let bad : IsSome {T = Val} None = rw unwritten at some in cc)
    | inr q ↦ written_other p q ∙ unwritten
  ]

  puts_then : (p : ℕ) → IfSome (value_in new.writes p)
      (λ w. Some w ≡ option_or (value_in new.set p) (held (called c) p))
  puts_then p = elim (cases_eq p o) [
    | inl q ↦
        subst (λ p. IfSome (value_in new.writes p)
        (λ w. Some w ≡ option_or (value_in new.set p) (held (called c) p))) (sym q) here
    | inr q ↦ rw (written_other p q, others p q) (v.puts p)
  ]
    where
      here : IfSome (value_in new.writes o) (λ w. Some w ≡ option_or (value_in new.set o) (held (called c) o))
      here = rw (written_own, own) refl

  sets_then : (p : ℕ) → IsSome (value_in new.set p) → IsSome (value_in new.writes p)
  sets_then p some = elim (cases_eq p o) [
    | inl q ↦ subst (λ p. IsSome (value_in new.writes p)) (sym q) (rw written_own refl)
    | inr q ↦ rw (written_other p q) (v.sets p (rw (others p q) at some))
  ]

  locks_then : (state (called c)).holds ≡ map (new_hold (state (called c))) (take c.locked new.writes)
  locks_then = rest.untold.2 ∙ sym (ap (λ n. map (new_hold (state (called c))) (take n new.writes)) none)

  pub set_tied : Tied holds (record c { opened = new })
  set_tied = record {
    placed = v.placed;
    begun = v.begun;
    objects = same.0 ∙ v.objects;
    reads = ap (map slot_read) same.1 ∙ v.reads;
    writes_read = λ p unread. still_read p (v.writes_read p unread);
    puts = puts_then;
    sets = sets_then;
    seen = v.seen;
    locks = locks_then;
    may = λ some. absurd (some none);
    few = omega (arith, none);
    lawful = lawful_unlocked holds rest.untold.2 sets_then;
    left = rw (live_left c.left live) tt;
    told = λ made. told_opened c new (v.told made);
  }
