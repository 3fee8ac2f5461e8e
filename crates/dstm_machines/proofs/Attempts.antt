-- Where the last attempt of a caller began is told by its own events.
use Rattle.std.proofs.Common.{◌≡◌, ◌==◌, ◌⊎◌, ◌∷◌, ◌++◌, ◌∙◌, ℕ, inl, inr, List, [], refl, ap, sym, subst, true, false, Bool}
use Rattle.std.specs.List.{All}
use Rattle.std.specs.Prelude.{◌&&◌}
use Rattle.std.proofs.lemmas.Bool.{and_from, and_left, and_right, cases_Bool, cond-false, cond-true}
use Rattle.std.proofs.lemmas.List.Elements.{All-head, All-tail}
use Rattle.dstm_machines.specs.Attempts as attempts
use Rattle.dstm_machines.specs.declared.event.Event.{Event}
use Rattle.dstm_machines.specs.Machines.{Machine, local}
use Rattle.dstm_machines.specs.Traces.{IsPastOf, events_of}
use Rattle.dstm_machines.proofs.Own.{local_mine, local_others, own_append, own_first, own_later, own_other}

module _ {K : Type 0} (begins : K → Bool) where
  abbrev begun_log : ℕ → List (Event K) → List (Event K)
  begun_log = attempts.begun_log begins

  abbrev since_begun : ℕ → List (Event K) → List (Event K)
  since_begun = attempts.since_begun begins

  -- none of the events begins an attempt
  abbrev pub NoneBegins : List (Event K) → Type 0
  NoneBegins es = All (λ (e : Event K). begins e.kind ≡ false) es

  -- an own event of such a kind begins an attempt
  pub begun_at : (e : Event K) (es : List (Event K)) (c : ℕ) → ((e.caller == c) && begins e.kind) ≡ true →
      begun_log c (e ∷ es) ≡ e ∷ es
  begun_at e es c h = cond-true ((e.caller == c) && begins e.kind) (e ∷ es) (begun_log c es) h

  -- no other event does
  pub begun_still : (e : Event K) (es : List (Event K)) (c : ℕ) → ((e.caller == c) && begins e.kind) ≡ false →
      begun_log c (e ∷ es) ≡ begun_log c es
  begun_still e es c h = cond-false ((e.caller == c) && begins e.kind) (e ∷ es) (begun_log c es) h

  pub since_at : (e : Event K) (es : List (Event K)) (c : ℕ) → ((e.caller == c) && begins e.kind) ≡ true →
      since_begun c (e ∷ es) ≡ []
  since_at e es c h = cond-true ((e.caller == c) && begins e.kind) [] (e ∷ since_begun c es) h

  pub since_still : (e : Event K) (es : List (Event K)) (c : ℕ) → ((e.caller == c) && begins e.kind) ≡ false →
      since_begun c (e ∷ es) ≡ e ∷ since_begun c es
  since_still e es c h = cond-false ((e.caller == c) && begins e.kind) [] (e ∷ since_begun c es) h

  -- a trace is what came since, on what stood then
  pub log_parts : (c : ℕ) (log : List (Event K)) → log ≡ since_begun c log ++ begun_log c log
  log_parts c [] = refl
  log_parts c (e ∷ log) = go (cases_Bool ((e.caller == c) && begins e.kind)) (log_parts c log)
    where
      go : ((e.caller == c) && begins e.kind ≡ true) ⊎ ((e.caller == c) && begins e.kind ≡ false) →
          log ≡ since_begun c log ++ begun_log c log → e ∷ log ≡ since_begun c (e ∷ log) ++ begun_log c (e ∷ log)
      go (inl q) ih =
          sym (ap (λ xs. xs ++ begun_log c (e ∷ log)) (since_at e log c q) ∙ begun_at e log c q)
      go (inr q) ih =
          ap (λ xs. e ∷ xs) ih
          ∙ sym (ap (λ xs. xs ++ begun_log c (e ∷ log)) (since_still e log c q)
          ∙ ap (λ xs. (e ∷ since_begun c log) ++ xs) (begun_still e log c q))

  -- where none of the own events begins an attempt, the last one stays
  pub begun_kept : (c : ℕ) (more es : List (Event K)) → NoneBegins (events_of c more) →
      begun_log c (more ++ es) ≡ begun_log c es
  begun_kept c [] es none = refl
  begun_kept c (e ∷ more) es none = go (cases_Bool (e.caller == c)) (λ h. begun_kept c more es h)
    where
      go : (e.caller == c ≡ true) ⊎ (e.caller == c ≡ false) →
          (NoneBegins (events_of c more) → begun_log c (more ++ es) ≡ begun_log c es) →
          begun_log c (e ∷ (more ++ es)) ≡ begun_log c es
      go (inl q) ih =
          let all : NoneBegins (e ∷ events_of c more) = subst NoneBegins (own_first e more c q) none in
          begun_still e (more ++ es) c (and_right (e.caller == c) (begins e.kind)
          (All-head (λ (e : Event K). begins e.kind ≡ false) e (events_of c more) all))
          ∙ ih (All-tail (λ (e : Event K). begins e.kind ≡ false) e (events_of c more) all)
      go (inr q) ih =
          begun_still e (more ++ es) c (and_left (e.caller == c) (begins e.kind) q)
          ∙ ih (subst NoneBegins (own_other e more c q) none)

  since_kept : (c : ℕ) (more es : List (Event K)) → NoneBegins (events_of c more) →
      since_begun c (more ++ es) ≡ more ++ since_begun c es
  since_kept c [] es none = refl
  since_kept c (e ∷ more) es none = go (cases_Bool (e.caller == c)) (λ h. since_kept c more es h)
    where
      go : (e.caller == c ≡ true) ⊎ (e.caller == c ≡ false) →
          (NoneBegins (events_of c more) → since_begun c (more ++ es) ≡ more ++ since_begun c es) →
          since_begun c (e ∷ (more ++ es)) ≡ e ∷ (more ++ since_begun c es)
      go (inl q) ih =
          let all : NoneBegins (e ∷ events_of c more) = subst NoneBegins (own_first e more c q) none in
          since_still e (more ++ es) c (and_right (e.caller == c) (begins e.kind)
          (All-head (λ (e : Event K). begins e.kind ≡ false) e (events_of c more) all))
          ∙ ap (λ xs. e ∷ xs) (ih (All-tail (λ (e : Event K). begins e.kind ≡ false) e (events_of c more) all))
      go (inr q) ih =
          since_still e (more ++ es) c (and_left (e.caller == c) (begins e.kind) q)
          ∙ ap (λ xs. e ∷ xs) (ih (subst NoneBegins (own_other e more c q) none))

  -- so it does over a call
  pub begun_after : (c : ℕ) (old new events : List (Event K)) → IsPastOf old new →
      events_of c new ≡ events ++ events_of c old → NoneBegins events → begun_log c new ≡ begun_log c old
  begun_after c old new events p own none =
      ap (begun_log c) (sym p.whole)
      ∙ begun_kept c p.later old (subst NoneBegins (sym (own_later c old new events p own)) none)

  -- and its own events since are those of the call, behind the earlier ones
  pub since_after : (c : ℕ) (old new events : List (Event K)) → IsPastOf old new →
      events_of c new ≡ events ++ events_of c old → NoneBegins events →
      events_of c (since_begun c new) ≡ events ++ events_of c (since_begun c old)
  since_after c old new events p own none =
      ap (λ es. events_of c (since_begun c es)) (sym p.whole)
      ∙ ap (events_of c)
      (since_kept c p.later old (subst NoneBegins (sym (own_later c old new events p own)) none))
      ∙ own_append c p.later (since_begun c old)
      ∙ ap (λ xs. xs ++ events_of c (since_begun c old)) (own_later c old new events p own)

  -- what only such an event changes in its caller's state is as it was when the last attempt began
  pub kept_since : {T S A : Type 0} (machine : Machine K T S) (table : T) (part : S → A) →
      ((state : S) (e : Event K) → begins e.kind ≡ false → part (machine.after table state e) ≡ part state) →
      (c : ℕ) (es : List (Event K)) →
      part (local machine table es c) ≡ part (local machine table (begun_log c es) c)
  kept_since machine table part keeps c [] = refl
  kept_since machine table part keeps c (e ∷ es) =
      go (cases_Bool (e.caller == c)) (cases_Bool (begins e.kind)) (kept_since machine table part keeps c es)
    where
      go : (e.caller == c ≡ true) ⊎ (e.caller == c ≡ false) → (begins e.kind ≡ true) ⊎ (begins e.kind ≡ false) →
          part (local machine table es c) ≡ part (local machine table (begun_log c es) c) →
          part (local machine table (e ∷ es) c) ≡ part (local machine table (begun_log c (e ∷ es)) c)
      go (inl q) (inl r) ih =
          ap (λ xs. part (local machine table xs c))
          (sym (begun_at e es c (and_from (e.caller == c) (begins e.kind) q r)))
      go (inl q) (inr r) ih =
          ap part (local_mine machine table es e c q)
          ∙ keeps (local machine table es c) e r
          ∙ ih
          ∙ ap (λ xs. part (local machine table xs c))
          (sym (begun_still e es c (and_right (e.caller == c) (begins e.kind) r)))
      go (inr q) r ih =
          ap part (local_others machine table es e c q)
          ∙ ih
          ∙ ap (λ xs. part (local machine table xs c))
          (sym (begun_still e es c (and_left (e.caller == c) (begins e.kind) q)))
