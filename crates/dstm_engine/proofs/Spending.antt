-- A caller that is spent and begins no attempt.
use Rattle.std.proofs.Common.{◌≡◌, ◌∙◌, ◌∷◌, ◌&&◌, ◌+◌, Bool, true, false, not, List, [], None, ap, arith, inl, inr, refl, subst, sym}
use Rattle.std.specs.Prelude.{Option, if◌then◌else◌}
use Rattle.std.proofs.lemmas.Bool.{cases_Bool, cond_both}
use Rattle.dstm_engine.proofs.Base.{Begin, Beginning, Due, Event, IsDue, Kind, Lcg, LocalState, Obeys, Rank, Shape, Step, Val, after, has_begun, has_ranks, has_stamps, in_beginning, is_new, is_outside, is_spent, just, local, newest_of, rises, state_after}
use Rattle.dstm_progress.proofs.OwnEvents.{after_own}
use Rattle.dstm_order.specs.Order.{is_begin}
use Rattle.dstm_engine.specs.Callers.{Called, shape_of, state}
use Rattle.dstm_engine.specs.Transactions.{SpentFrom}
use Rattle.dstm_engine.specs.Makes.{Makes}
use Rattle.dstm_progress.specs.Lives.{TriesByShape}
use Rattle.dstm_engine.proofs.AddingUp.{makes_one}
use Rattle.dstm_progress.proofs.Keeping.{not_begun, still_new}

module _ (s : Shape) (fresh : Bool) (l : LocalState) (e : Event) where
  abbrev Same : Due → Type 0
  Same d = IsDue d e → is_begin e.kind ≡ false → (after e.kind s l e).begun ≡ l.begun

  by_kind : {k : Kind} → (after k s l e).begun ≡ l.begun → e.kind ≡ k → (after e.kind s l e).begun ≡ l.begun
  by_kind {k = k} same is = subst (λ k. (after k s l e).begun ≡ l.begun) (sym is) same

  begin_same : Same (just Begin)
  begin_same h other = absurd (let no_way : true ≡ false = sym (ap is_begin h.0) ∙ other in cc)

  beginning_same : (o : Option Event) → Same (in_beginning s fresh o l)
  beginning_same o =
      cond_both (has_begun o) _ _ Same (λ _ h other. absurd h) (λ _.
      cond_both (not (is_outside l.phase)) _ _ Same (λ _ h other. by_kind refl h.0) (λ _.
      cond_both (is_spent s l) _ _ Same (λ _ h other. absurd h) (λ _.
      cond_both (has_stamps s.manager && fresh && not l.stamped) _ _ Same (λ _ h other. by_kind refl h.0) (λ _.
      cond_both (has_ranks s.manager && not l.ranked) (Step Rank (if rises s.manager && fresh then 0 else l.rank)) (just Begin)
      Same (λ _ h other. by_kind refl h.0) (λ _. begin_same)))))

still_begun : (s : Shape) (l : LocalState) (g : Lcg) (fresh : Bool) (es : List Event) → Obeys (Beginning fresh) s l g es →
    has_begun (newest_of es) ≡ false → (state_after s l es).begun ≡ l.begun
still_begun s l g fresh [] h not_yet = refl
still_begun s l g fresh (e ∷ es) h not_yet =
    beginning_same s fresh (state_after s l es) e (newest_of es) h.1 not_yet
    ∙ still_begun s l g fresh es h.0 (not_begun (newest_of es) s fresh (state_after s l es) e h.1)

begins_more : (s : Shape) (l : LocalState) (e : Event) (k : Kind) → is_begin k ≡ true → (after k s l e).begun ≡ l.begun + 1
begins_more s l e Begin h = refl
begins_more s l e k h = absurd (cc)

none_begins : (s : Shape) (l : LocalState) (g : Lcg) (fresh : Bool) (es : List Event) → Obeys (Beginning fresh) s l g es →
    (state_after s l es).begun ≡ l.begun → has_begun (newest_of es) ≡ false
none_begins s l g fresh [] h same = refl
none_begins s l g fresh (e ∷ es) h same = elim (cases_Bool (is_begin e.kind)) [
  | inr q ↦ q
  | inl q ↦
      let more = begins_more s (state_after s l es) e e.kind q in
      let still = still_begun s l g fresh es h.0 (not_begun (newest_of es) s fresh (state_after s l es) e h.1) in
      absurd (omega (arith, same, more, still))
]

module _ {L : Type 0} (holds : L → List Val → Type 0) (k n : Called L) (fresh : k.fresh ≡ is_new (state k))
    (s : SpentFrom holds k n) where
  there : state n ≡ state_after (shape_of k) (state k) s.steps.events
  there =
      ap (λ h. local h.terms.shape n.log n.number) s.steps.same.0
      ∙ ap (local (shape_of k) n.log) s.steps.same.1
      ∙ after_own (shape_of k) k.number n.log k.log s.steps.events s.steps.own

  pub spent_makes : Makes (TriesByShape (shape_of k)) k n
  spent_makes =
      makes_one (TriesByShape (shape_of k)) holds (Beginning k.fresh) k n None (record { again = fresh; opens = λ all. tt }) s.steps

  pub spent_fresh : n.fresh ≡ is_new (state n)
  spent_fresh =
      ap (λ (c : Called L). c.fresh) s.caller ∙ fresh
      ∙ sym (still_new (shape_of k) (state k) k.generator k.fresh s.steps.events s.steps.call.obeys
      (none_begins (shape_of k) (state k) k.generator k.fresh s.steps.events s.steps.call.obeys
      (ap (λ (l : LocalState). l.begun) (sym there) ∙ s.begun)))
      ∙ sym (ap is_new there)
