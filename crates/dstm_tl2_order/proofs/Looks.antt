-- A read is four looks.
use Rattle.std.proofs.Common.{◌≡◌, ◌==◌, ◌⊎◌, ◌∷◌, ◌++◌, ◌∙◌, ℕ, inl, inr, List, [], refl, ap, sym, subst, true, false, Some, None, if◌then◌else◌}
use Rattle.dstm_tl2.proofs.Base.{Event, LocalState, Look, Read, Table, after, cases_Bool, cond_both, eqb-false, eqb-true, fails, is_readable, look_of, or_value, record_read}
use Rattle.dstm_tl2.specs.declared.kind.Kind.{Kind}
use Rattle.dstm_tl2.specs.declared.kind.Kind.TheVariants.{LookAgain, LookHigh, LookLock, LookLow}
use Rattle.dstm_tl2_order.specs.Calls.{IsCall, Obeys, answer_of, cause, due_after, state_after}
use Rattle.dstm_tl2_order.specs.Order.{IsDue, next}
use Rattle.dstm_tl2_order.specs.Order.Due.{Just, Done}
use Rattle.dstm_tl2_order.specs.Tasks.Task.{Doing}
use Rattle.dstm_tl2_order.specs.Tasks.Work.{Opening}
use Rattle.dstm_tl2_order.specs.Laws.{AreFourLooks}

-- how far the looks at an object have come
data Looks (t : Table) (l : LocalState) (o : ℕ) : List Event → Type 0 where
  none : Looks t l o []
  one : (a : Event) → a.kind ≡ LookLock → a.place ≡ o → Looks t l o (a ∷ [])
  two : (b a : Event) → b.kind ≡ LookLow → a.kind ≡ LookLock → a.place ≡ o → is_readable l.sample a.found ≡ true →
      Looks t l o (b ∷ a ∷ [])
  three : (c b a : Event) → c.kind ≡ LookHigh → b.kind ≡ LookLow → a.kind ≡ LookLock → a.place ≡ o →
      is_readable l.sample a.found ≡ true → Looks t l o (c ∷ b ∷ a ∷ [])
  four : (d c b a : Event) → d.kind ≡ LookAgain → c.kind ≡ LookHigh → b.kind ≡ LookLow → a.kind ≡ LookLock →
      a.place ≡ o → is_readable l.sample a.found ≡ true → Looks t l o (d ∷ c ∷ b ∷ a ∷ [])

-- what is due after a look
behind : (t : Table) (o : ℕ) (l m : LocalState) (a e : Event) {k : Kind} → a.kind ≡ k →
    IsDue t (next a.kind a (Opening o) m) e → IsDue t (next k a (Opening o) m) e
behind t o l m a e {k = k} q d = subst (λ k. IsDue t (next k a (Opening o) m) e) q d

one_more : {t : Table} {l : LocalState} {o : ℕ} {es : List Event} (e : Event) → Looks t l o es →
    IsDue t (due_after (Doing (Opening o)) t l es) e → Looks t l o (e ∷ es)
one_more e none d = one e d.0 d.1
one_more {t = t} {l = l} {o = o} e (one a k p) d = elim (cases_Bool (is_readable l.sample a.found)) [
  | inl q ↦ let is : e.kind ≡ LookLow = rw (same, q) at due in two e a is k p q
  | inr q ↦ let no : ⊥ = rw (same, q) at due in absurd no
]
  where
    due : IsDue t (if is_readable (after a.kind t l a).sample a.found then Just LookLow else Done) e
    due = behind t o l (after a.kind t l a) a e k d

    same : (after a.kind t l a).sample ≡ l.sample
    same = ap (λ k. (after k t l a).sample) k
one_more {t = t} {l = l} {o = o} e (two b a kb k p q) d =
    three e b a (behind t o l (state_after t l (b ∷ a ∷ [])) b e kb d) kb k p q
one_more {t = t} {l = l} {o = o} e (three c b a kc kb k p q) d =
    four e c b a (behind t o l (state_after t l (c ∷ b ∷ a ∷ [])) c e kc d) kc kb k p q
one_more {t = t} {l = l} {o = o} e (four x c b a kx kc kb k p q) d =
    absurd (behind t o l (state_after t l (x ∷ c ∷ b ∷ a ∷ [])) x e kx d)

looks : (t : Table) (l : LocalState) (o : ℕ) (es : List Event) → Obeys (Doing (Opening o)) t l es → Looks t l o es
looks t l o [] obeys = none
looks t l o (e ∷ es) obeys = one_more e (looks t l o es obeys.0) obeys.1

-- the word that was found first, and the value
looked : (t : Table) (l : LocalState) (c b a : Event) → c.kind ≡ LookHigh → b.kind ≡ LookLow → a.kind ≡ LookLock →
    look_of (after c.kind t (after b.kind t (after a.kind t l a) b) c) ≡ record {
      object = a.place;
      word = a.found;
      low = Some b.found;
      value = Some (record { low = b.found; high = c.found });
    }
looked t l c b a kc kb ka = rw (kc, kb, ka) refl

reads_kept : (t : Table) (l : LocalState) (c b a : Event) → c.kind ≡ LookHigh → b.kind ≡ LookLow → a.kind ≡ LookLock →
    (after c.kind t (after b.kind t (after a.kind t l a) b) c).reads ≡ l.reads
reads_kept t l c b a kc kb ka = rw (kc, kb, ka) refl

-- the read that a look becomes
abbrev read_of : Look → Read
read_of k = record { object = k.object; word = k.word; value = or_value k.value }

recorded : (t : Table) (m : LocalState) (d : Event) → d.kind ≡ LookAgain → d.found ≡ (look_of m).word →
    (after d.kind t m d).reads ≡ m.reads ++ read_of (look_of m) ∷ []
recorded t m d k q =
    ap (λ k. (after k t m d).reads) k
    ∙ cond_both (d.found == (look_of m).word) (record_read m) (record m { look = None })
    (λ (x : LocalState). x.reads ≡ m.reads ++ read_of (look_of m) ∷ []) (λ _. refl)
    (λ r. absurd (eqb-false d.found (look_of m).word r q))

-- an event that fails is answered
no_failure : (t : Table) (l : LocalState) (e : Event) (es : List Event) → answer_of t l (e ∷ es) ≡ None →
    fails e.kind (state_after t l es) e ≡ false
no_failure t l e es answer = elim (cases_Bool (fails e.kind (state_after t l es) e)) [
  | inl q ↦ absurd (let some : Some (cause e) ≡ None = rw q at answer in cc)
  | inr q ↦ q
]

-- a call that has ended, and goes on
ended : {t : Table} {l : LocalState} {o : ℕ} {es : List Event} → Looks t l o es →
    due_after (Doing (Opening o)) t l es ≡ Done → answer_of t l es ≡ None → AreFourLooks t l o es
ended none done answer = absurd (cc)
ended {t = t} {l = l} {o = o} (one a k p) done answer = elim (cases_Bool (is_readable l.sample a.found)) [
  | inl q ↦ absurd (let no : Just LookLow ≡ Done = rw (ap (λ k. (after k t l a).sample) k, q) at due in cc)
  | inr q ↦ absurd (let no : true ≡ false = rw q at good in cc)
]
  where
    due : (if is_readable (after a.kind t l a).sample a.found then Just LookLow else Done) ≡ Done
    due = subst (λ k. next k a (Opening o) (after a.kind t l a) ≡ Done) k done

    good : fails LookLock l a ≡ false
    good = subst (λ k. fails k l a ≡ false) k (no_failure t l a [] answer)
ended {t = t} {l = l} {o = o} (two b a kb k p q) done answer =
    absurd (let no : next LookLow b (Opening o) (state_after t l (b ∷ a ∷ [])) ≡ Done =
    subst (λ k. next k b (Opening o) (state_after t l (b ∷ a ∷ [])) ≡ Done) kb done in cc)
ended {t = t} {l = l} {o = o} (three c b a kc kb k p q) done answer =
    absurd (let no : next LookHigh c (Opening o) (state_after t l (c ∷ b ∷ a ∷ [])) ≡ Done =
    subst (λ k. next k c (Opening o) (state_after t l (c ∷ b ∷ a ∷ [])) ≡ Done) kc done in cc)
ended {t = t} {l = l} {o = o} (four d c b a kd kc kb k p q) done answer = record {
  again = d;
  high = c;
  low = b;
  lock = a;
  are = refl;
  kinds = (k, kb, kc, kd);
  place = p;
  readable = q;
  unchanged = same;
  read =
      recorded t before d kd (same ∙ sym word)
      ∙ ap (λ rs. rs ++ read_of (look_of before) ∷ []) (reads_kept t l c b a kc kb k)
      ∙ ap (λ k. l.reads ++ read_of k ∷ []) (looked t l c b a kc kb k)
      ∙ ap (λ o. l.reads ++ record {
        object = o;
        word = a.found;
        value = record { low = b.found; high = c.found };
      } ∷ []) p;
}
  where
    before : LocalState
    before = state_after t l (c ∷ b ∷ a ∷ [])

    word : (look_of before).word ≡ a.found
    word = ap (λ (k : Look). k.word) (looked t l c b a kc kb k)

    good : fails LookAgain before d ≡ false
    good = subst (λ k. fails k before d ≡ false) kd (no_failure t l d (c ∷ b ∷ a ∷ []) answer)

    same : d.found ≡ a.found
    same = elim (cases_Bool (d.found == (look_of before).word)) [
      | inl r ↦ eqb-true d.found (look_of before).word r ∙ word
      | inr r ↦ absurd (let no : true ≡ false = rw r at good in cc)
    ]

pub four_looks : (o : ℕ) {t : Table} {l : LocalState} {es : List Event} → IsCall (Doing (Opening o)) t l es →
    answer_of t l es ≡ None → AreFourLooks t l o es
four_looks o {t = t} {l = l} {es = es} call answer = ended (looks t l o es call.obeys) call.done answer
