-- Histories whose entries agree with the state before them, and keep a law.
use Rattle.std.proofs.Common.{◌≡◌, ◌⊎◌, ◌∷◌, ◌++◌, ◌∙◌, inl, inr, List, [], ap, append_assoc, reverse, sym, subst, true, false, Bool}
use Rattle.std.proofs.lemmas.Bool.{cases_Bool}
use Rattle.std.proofs.lemmas.List.{reverse-append, reverse-reverse}
use Rattle.dstm_machines.specs.declared.event.Event.{Event}
use Rattle.dstm_model.specs.declared.value.Val.{Val}
use Rattle.dstm_model.specs.Map.{Agrees, Entry, state_after, with_writes}
use Rattle.dstm_machines.specs.Histories.{gathered, history_of}
use Rattle.dstm_machines.specs.Laws.{HasPlace}
use Rattle.dstm_machines.proofs.Gathered.{PartIs, part_is, told_now, told_still}
use Rattle.dstm_machines.proofs.Orders.{Legal, map_after, state_reversed}

module _ {K : Type 0} (commits : Event K → List (Event K) → Bool) (entry : Event K → List (Event K) → Entry) where
  -- each prefix of a history is that of a past
  pub prefix_has_place : (run : List (Event K)) (prefix rest : List Entry) →
      history_of commits entry run ≡ prefix ++ rest → HasPlace K commits entry run prefix
  prefix_has_place run prefix rest h =
      go (part_is commits entry run (reverse rest) (reverse prefix)
      (sym (reverse-reverse (gathered commits entry run)) ∙ ap reverse h ∙ reverse-append prefix rest))
    where
      go : PartIs commits entry run (reverse prefix) → HasPlace K commits entry run prefix
      go p = record { before = p.past; is_past = p.is_past; is = ap reverse p.is ∙ reverse-reverse prefix }

  module _ (start : List Val) (run : List (Event K)) where
    -- the map after the history of a past
    abbrev pub map_at : List (Event K) → List Val
    map_at es = map_after start (gathered commits entry es)

    -- where each entry agrees with the state at its draw, the history is legal
    pub legal_from :
        ((d : Event K) (es more : List (Event K)) → more ++ d ∷ es ≡ run → commits d es ≡ true →
        Agrees (map_at es) (entry d es).reads) →
        (es more : List (Event K)) → more ++ es ≡ run → Legal start (gathered commits entry es)
    legal_from agrees [] more q = tt
    legal_from agrees (d ∷ es) more q =
        go (cases_Bool (commits d es)) (legal_from agrees es (more ++ d ∷ []) (append_assoc more (d ∷ []) es ∙ q))
      where
        go : (commits d es ≡ true) ⊎ (commits d es ≡ false) → Legal start (gathered commits entry es) →
            Legal start (gathered commits entry (d ∷ es))
        go (inl h) ih = subst (Legal start) (sym (told_now commits entry d es h)) (ih, agrees d es more q h)
        go (inr h) ih = subst (Legal start) (sym (told_still commits entry d es h)) ih

    -- where each entry keeps the law, the state after the history of each past is lawful
    pub lawful_from : (holds : List Val → Type 0) →
        ((d : Event K) (es more : List (Event K)) → more ++ d ∷ es ≡ run → commits d es ≡ true →
        holds (map_at es) → holds (with_writes (map_at es) (entry d es).writes)) →
        holds start → (es more : List (Event K)) → more ++ es ≡ run → holds (map_at es)
    lawful_from holds keeps ok [] more q = ok
    lawful_from holds keeps ok (d ∷ es) more q =
        go (cases_Bool (commits d es))
        (lawful_from holds keeps ok es (more ++ d ∷ []) (append_assoc more (d ∷ []) es ∙ q))
      where
        go : (commits d es ≡ true) ⊎ (commits d es ≡ false) → holds (map_at es) → holds (map_at (d ∷ es))
        go (inl h) ih =
            subst (λ xs. holds (map_after start xs)) (sym (told_now commits entry d es h)) (keeps d es more q h ih)
        go (inr h) ih = subst (λ xs. holds (map_after start xs)) (sym (told_still commits entry d es h)) ih

    -- so is the state after each prefix
    pub prefix_is_lawful : (holds : List Val → Type 0) →
        ((es more : List (Event K)) → more ++ es ≡ run → holds (map_at es)) →
        (prefix rest : List Entry) → history_of commits entry run ≡ prefix ++ rest →
        holds (state_after start prefix)
    prefix_is_lawful holds lawful prefix rest h = go (prefix_has_place run prefix rest h)
      where
        go : HasPlace K commits entry run prefix → holds (state_after start prefix)
        go p =
            subst holds
            (sym (state_reversed start (gathered commits entry p.before)) ∙ ap (state_after start) p.is)
            (lawful p.before p.is_past.later p.is_past.whole)
