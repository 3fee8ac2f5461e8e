-- What the events of a trace tell.
use Rattle.std.proofs.Common.{◌≡◌, ◌==◌, ◌⊎◌, ◌∷◌, ◌++◌, ◌∙◌, ℕ, inl, inr, List, [], refl, ap, append_assoc, map, reverse, sym, subst, true, false, Bool}
use Rattle.std.specs.List.{All, Contains}
use Rattle.std.proofs.lemmas.Bool.{cases_Bool, cond-false, cond-true, cond_both}
use Rattle.std.proofs.lemmas.List.{reverse-append}
use Rattle.std.proofs.lemmas.List.Elements.{All-head, All-nil, All-push, All-tail, Contains-append_left, Contains-push}
use Rattle.dstm_model.proofs.Entries.{reverse_cons}
use Rattle.dstm_machines.specs.declared.event.Event.{Event}
use Rattle.dstm_machines.specs.Traces.{IsPastOf, events_of}
use Rattle.dstm_machines.proofs.Own.{own_first, own_other}
use Rattle.dstm_machines.proofs.Pasts.{past_more, past_self}
use Rattle.dstm_machines.specs.Histories.{gathered}

module _ {K A : Type 0} (tells : Event K → List (Event K) → Bool) (told : Event K → List (Event K) → A) where
  abbrev all : List (Event K) → List A
  all es = gathered tells told es

  -- an event that tells something
  pub told_now : (e : Event K) (es : List (Event K)) → tells e es ≡ true → all (e ∷ es) ≡ told e es ∷ all es
  told_now e es h = cond-true (tells e es) (told e es ∷ all es) (all es) h

  -- and one that does not
  pub told_still : (e : Event K) (es : List (Event K)) → tells e es ≡ false → all (e ∷ es) ≡ all es
  told_still e es h = cond-false (tells e es) (told e es ∷ all es) (all es) h

  -- what later events tell stands before what earlier ones do
  pub told_more : (more es : List (Event K)) → (newer : List A) × (all (more ++ es) ≡ newer ++ all es)
  told_more [] es = ([], refl)
  told_more (e ∷ more) es = go (told_more more es)
    where
      go : (newer : List A) × (all (more ++ es) ≡ newer ++ all es) →
          (newer : List A) × (all (e ∷ (more ++ es)) ≡ newer ++ all es)
      go h =
          cond_both (tells e (more ++ es)) (told e (more ++ es) ∷ all (more ++ es)) (all (more ++ es))
          (λ xs. (newer : List A) × (xs ≡ newer ++ all es))
          (λ _. (told e (more ++ es) ∷ h.0, ap (λ xs. told e (more ++ es) ∷ xs) h.1)) (λ _. h)

  -- what a past tells
  pub record PartIs (es : List (Event K)) (xs : List A) : Type 0 where
    pub past : List (Event K)
    pub is_past : IsPastOf past es
    pub is : all past ≡ xs

  -- each part that has the oldest items is told by a past
  pub part_is : (es : List (Event K)) (newer xs : List A) → all es ≡ newer ++ xs → PartIs es xs
  part_is es [] xs h = record { past = es; is_past = past_self es; is = h }
  part_is [] (x ∷ newer) xs h = absurd (cc)
  part_is (e ∷ es) (x ∷ newer) xs h =
      go (cases_Bool (tells e es)) (λ q. part_is es newer xs q) (λ q. part_is es (x ∷ newer) xs q)
    where
      longer : PartIs es xs → PartIs (e ∷ es) xs
      longer p = record { past = p.past; is_past = past_more p.past es e p.is_past; is = p.is }

      go : (tells e es ≡ true) ⊎ (tells e es ≡ false) → (all es ≡ newer ++ xs → PartIs es xs) →
          (all es ≡ x ∷ (newer ++ xs) → PartIs es xs) → PartIs (e ∷ es) xs
      go (inl q) now still =
          let same : told e es ∷ all es ≡ x ∷ (newer ++ xs) = sym (told_now e es q) ∙ h in longer (now (cc))
      go (inr q) now still = longer (still (sym (told_still e es q) ∙ h))

  -- ---- with the oldest first

  pub told_last : (e : Event K) (es : List (Event K)) → tells e es ≡ true →
      reverse (all (e ∷ es)) ≡ reverse (all es) ++ told e es ∷ []
  told_last e es h = ap reverse (told_now e es h) ∙ reverse_cons (told e es) (all es)

  -- what a past tells is a prefix
  pub told_prefix : (more es : List (Event K)) →
      (rest : List A) × (reverse (all (more ++ es)) ≡ reverse (all es) ++ rest)
  told_prefix more es =
      let x = told_more more es in (reverse x.0, ap reverse x.1 ∙ reverse-append x.0 (all es))

  -- right after which stands what the next event tells
  pub told_next : (more : List (Event K)) (e : Event K) (es : List (Event K)) → tells e es ≡ true →
      (rest : List A) × (reverse (all (more ++ e ∷ es)) ≡ reverse (all es) ++ told e es ∷ rest)
  told_next more e es h =
      let x = told_prefix more (e ∷ es) in (
        x.0,
        x.1 ∙ ap (λ xs. xs ++ x.0) (told_last e es h) ∙ append_assoc (reverse (all es)) (told e es ∷ []) x.0,
      )

  pub told_among : (more : List (Event K)) (e : Event K) (es : List (Event K)) → tells e es ≡ true →
      Contains (reverse (all (more ++ e ∷ es))) (told e es)
  told_among more e es h =
      let x = told_prefix more (e ∷ es) in
      subst (λ xs. Contains xs (told e es)) (sym x.1)
      (Contains-append_left (reverse (all (e ∷ es))) x.0 (told e es)
      (subst (λ xs. Contains xs (told e es)) (sym (told_last e es h))
      (Contains-push (reverse (all es)) (told e es))))

  -- Q: what is known of the traces
  module _ (Q : List (Event K) → Type 0) (before : (e : Event K) (es : List (Event K)) → Q (e ∷ es) → Q es) where
    -- what each event tells is so, so all of it is
    pub told_all : (P : A → Type 0) →
        ((e : Event K) (es : List (Event K)) → Q (e ∷ es) → tells e es ≡ true → P (told e es)) →
        (es : List (Event K)) → Q es → All P (reverse (all es))
    told_all P each [] q = All-nil P
    told_all P each (e ∷ es) q = go (cases_Bool (tells e es)) (told_all P each es (before e es q))
      where
        go : (tells e es ≡ true) ⊎ (tells e es ≡ false) → All P (reverse (all es)) →
            All P (reverse (all (e ∷ es)))
        go (inl h) rest =
            subst (All P) (sym (told_last e es h))
            (All-push P (reverse (all es)) (told e es) rest (each e es q h))
        go (inr h) rest = subst (λ xs. All P (reverse xs)) (sym (told_still e es h)) rest

    -- where only events of caller c tell anything, and none of its later ones does, no more is told
    pub told_none : (P : Event K → Type 0) (c : ℕ) →
        ((e : Event K) (es : List (Event K)) → (e.caller == c) ≡ false → tells e es ≡ false) →
        ((e : Event K) (es : List (Event K)) → Q (e ∷ es) → P e → tells e es ≡ false) →
        (more es : List (Event K)) → Q (more ++ es) → All P (events_of c more) → all (more ++ es) ≡ all es
    told_none P c others none [] es q h = refl
    told_none P c others none (e ∷ more) es q h =
        go (cases_Bool (e.caller == c))
        (λ rest. told_none P c others none more es (before e (more ++ es) q) rest)
      where
        go : (e.caller == c ≡ true) ⊎ (e.caller == c ≡ false) →
            (All P (events_of c more) → all (more ++ es) ≡ all es) → all (e ∷ (more ++ es)) ≡ all es
        go (inl own) ih =
            let every : All P (e ∷ events_of c more) = subst (All P) (own_first e more c own) h in
            told_still e (more ++ es) (none e (more ++ es) q (All-head P e (events_of c more) every))
            ∙ ih (All-tail P e (events_of c more) every)
        go (inr own) ih =
            told_still e (more ++ es) (others e (more ++ es) own)
            ∙ ih (subst (All P) (own_other e more c own) h)

-- a part of what each event tells
pub map_told : {K A B : Type 0} (tells : Event K → List (Event K) → Bool) (told : Event K → List (Event K) → A)
    (part : A → B) (es : List (Event K)) →
    map part (gathered tells told es) ≡ gathered tells (λ e before. part (told e before)) es
map_told tells told part [] = refl
map_told tells told part (e ∷ es) = go (cases_Bool (tells e es)) (map_told tells told part es)
  where
    go : (tells e es ≡ true) ⊎ (tells e es ≡ false) →
        map part (gathered tells told es) ≡ gathered tells (λ e before. part (told e before)) es →
        map part (gathered tells told (e ∷ es)) ≡ gathered tells (λ e before. part (told e before)) (e ∷ es)
    go (inl h) ih =
        ap (map part) (told_now tells told e es h)
        ∙ ap (λ xs. part (told e es) ∷ xs) ih
        ∙ sym (told_now tells (λ e before. part (told e before)) e es h)
    go (inr h) ih =
        ap (map part) (told_still tells told e es h)
        ∙ ih
        ∙ sym (told_still tells (λ e before. part (told e before)) e es h)
