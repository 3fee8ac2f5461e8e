-- What an attempt holds it goes on holding, as long as it lets no read go.
use Rattle.std.proofs.Common.{◌++◌, ◌==◌, ◌∙◌, ◌∷◌, ◌≡◌, ◌≢◌, ◌&&◌, Bool, List, None, Option, Some, [], ap, false, inl, inr, refl, sym, true, ℕ}
use Rattle.std.specs.Prelude.{if◌then◌else◌, is_none, ◌||◌}
use Rattle.std.proofs.lemmas.Bool.{cases_Bool, cases_eq, cond_both, eq-eqb, eqb-true, ne_eqb}
use Rattle.dstm_engine.proofs.Base.{Begin, Core, Doing, Done, Due, Effort, Event, Install, IsDue, Kind, Lcg, LocalState, LookNumber, LookSelf, MAX_MISSED, Manager, Obeys, Pause, Quit, Read, Release, Resolution, Resume, Shape, Step, Work, Write, after, drop_read, due_after, effort_of, events_of, given, install, is_open, is_outside, is_resolved, just, local, newest_of, next_locator, next_or_first, or_zero, read_of, record_resolved, res, state_after, version, when_resolved, write_of}
use Rattle.dstm_core.proofs.Static.{local_other, local_own}
use Rattle.dstm_core.specs.declared.event.Kind.TheVariants.{Validating as ToValidating}
use Rattle.dstm_opacity.proofs.Held.{version_by_open, version_held}
use Rattle.dstm_opacity.proofs.KeptVersions.{install_keeps_version}
use Rattle.dstm_order.proofs.Rows.{EachStep, giving_way_by, is_step, is_test, resolved_by, resolves, resolves_by, resolving_by, table_by}

-- ---- an open lets no read go

-- with these an attempt drops what it holds
abbrev pub drops : Kind → Bool
drops Begin = true
drops Release = true
drops k = false

abbrev pub DropsNone : List Event → Type 0
DropsNone [] = Unit {0}
DropsNone (e ∷ es) = (drops e.kind ≡ false) × DropsNone es

-- none of these is due
abbrev Keeps : Due → Type 0
Keeps (Step k n) = drops k ≡ false
Keeps Done = Unit {0}

due_keeps : (b q : Bool) (d : Due) → Keeps d → Keeps (if b then Done else if q then just Quit else d)
due_keeps true q d h = tt
due_keeps false true d h = refl
due_keeps false false d h = h

newest_keeps : (o : Option Event) (w : Work) (m : Manager) (l : LocalState) (c : Effort) → is_open w ≡ true →
    Keeps (next_or_first o w m l c)
newest_keeps o w m l c h = table_by Keeps o w m l c steps
    (resolving_by Keeps m l c (when_resolved w) (resolves_by Keeps resolving) (λ _. giving_way_by Keeps l c refl refl refl)
    (resolved_by Keeps w steps)) test
  where
    step : (k : Kind) → is_step k ≡ true → drops k ≡ false
    step Begin q = absurd (cc)
    step Release q = absurd (cc)
    step k q = refl

    resolving : (k : Kind) → resolves k ≡ true → drops k ≡ false
    resolving Begin q = absurd (cc)
    resolving Release q = absurd (cc)
    resolving k q = refl

    test : (k : Kind) → is_test k ≡ true → drops k ≡ false
    test Begin q = absurd (cc)
    test Release q = absurd (cc)
    test k q = refl

    steps : EachStep Keeps w
    steps = record {
      done = tt;
      step = λ k n q. step k q;
      release = λ o z. absurd (let x = ap is_open z in cc);
    }

kept_kind : (d : Due) (e : Event) → Keeps d → IsDue d e → drops e.kind ≡ false
kept_kind (Step k n) e h is = ap drops is.0 ∙ h
kept_kind Done e h is = absurd is

pub opens_keep : (w : Work) (s : Shape) (l : LocalState) (g : Lcg) (es : List Event) → is_open w ≡ true →
    Obeys (Doing w) s l g es → DropsNone es
opens_keep w s l g [] h o = tt
opens_keep w s l g (e ∷ es) h o = (
  kept_kind (due_after (Doing w) s l g es) e
      (due_keeps (is_outside (state_after s l es).phase)
      ((state_after s l es).stale || ((effort_of s l g es).missed == MAX_MISSED))
      (next_or_first (newest_of es) w s.manager (state_after s l es) (effort_of s l g es))
      (newest_keeps (newest_of es) w s.manager (state_after s l es) (effort_of s l g es) h)) o.1,
  opens_keep w s l g es h o.0,
)

-- ---- so it goes on holding what it held

read_more : (o : ℕ) (rs : List Read) (x r : Read) → read_of o rs ≡ Some r → read_of o (rs ++ x ∷ []) ≡ Some r
read_more o [] x r h = absurd (cc)
read_more o (y ∷ rs) x r h = elim (cases_Bool (y.object == o)) [
  | inl q ↦ let z : Some y ≡ Some r = rw q at h in rw q z
  | inr q ↦ rw q (read_more o rs x r (rw q at h))
]

read_recorded : (o : ℕ) (x : Option Resolution) (rs : List Read) (r : Read) → read_of o rs ≡ Some r →
    read_of o (record_resolved x rs) ≡ Some r
read_recorded o None rs r h = h
read_recorded o (Some x) rs r h =
    cond_both (is_resolved x && is_none (read_of x.object rs)) _ _ (λ ys. read_of o ys ≡ Some r)
    (λ _. read_more o rs _ r h) (λ _. h)

pub read_apart : (o p : ℕ) (rs : List Read) → p ≢ o → read_of p (drop_read o rs) ≡ read_of p rs
read_apart o p [] other = refl
read_apart o p (r ∷ rs) other = elim (cases_Bool (r.object == o)) [
  | inl q ↦ rw (q, ne_eqb r.object p (λ z. other (sym z ∙ eqb-true r.object o q))) refl
  | inr q ↦ rw q (ap (λ x. if r.object == p then Some r else x) (read_apart o p rs other))
]

pub write_more : (o : ℕ) (ws : List Write) (x w : Write) → write_of o ws ≡ Some w → write_of o (ws ++ x ∷ []) ≡ Some w
write_more o [] x w h = absurd (cc)
write_more o (y ∷ ws) x w h = elim (cases_Bool (y.object == o)) [
  | inl q ↦ let z : Some y ≡ Some w = rw q at h in rw q z
  | inr q ↦ rw q (write_more o ws x w (rw q at h))
]

pub write_apart : (o : ℕ) (ws : List Write) (x : Write) → x.object ≢ o → write_of o (ws ++ x ∷ []) ≡ write_of o ws
write_apart o [] x other = rw (ne_eqb x.object o other) refl
write_apart o (y ∷ ws) x other = ap (λ z. if y.object == o then Some y else z) (write_apart o ws x other)

pub write_last : (o : ℕ) (ws : List Write) (x : Write) → x.object ≡ o → write_of o ws ≡ None →
    write_of o (ws ++ x ∷ []) ≡ Some x
write_last o [] x q none = rw (eq-eqb x.object o q) refl
write_last o (y ∷ ws) x q none = elim (cases_Bool (y.object == o)) [
  | inl z ↦ absurd (let w : Some y ≡ None = rw z at none in cc)
  | inr z ↦ rw z (write_last o ws x q (rw z at none))
]

holds_more : (o : ℕ) (l m : LocalState) (v : ℕ) → m.writes ≡ l.writes →
    ((r : Read) → read_of o l.reads ≡ Some r → read_of o m.reads ≡ Some r) → version_held l o ≡ Some v →
    version_held m o ≡ Some v
holds_more o l m v writes reads h =
    ap (λ ws. version_by_open (write_of o ws) (read_of o m.reads)) writes
    ∙ go (write_of o l.writes) (read_of o l.reads) refl h
  where
    go : (w : Option Write) (r : Option Read) → read_of o l.reads ≡ r → version_by_open w r ≡ Some v →
        version_by_open w (read_of o m.reads) ≡ Some v
    go (Some w) r q h = h
    go None (Some r) q h = rw (reads r q) h
    go None None q h = absurd (cc)

module _ (s : Shape) (es : List Event) (e : Event) (core : Core s (e ∷ es)) (o v : ℕ) where
  installed : e.kind ≡ Install → e.found ≡ e.expected → version_held (local s es e.caller) o ≡ Some v →
      version_held (install s (local s es e.caller)) o ≡ Some v
  installed kind found h = elim (cases_eq (res (local s es e.caller)).object o) [
    | inl q ↦ here q (write_of o (local s es e.caller).writes) (read_of o (local s es e.caller).reads) refl refl h
    | inr other ↦
        ap (λ w. version_by_open w
        (read_of o (drop_read (res (local s es e.caller)).object (local s es e.caller).reads)))
        (write_apart o (local s es e.caller).writes _ other)
        ∙ ap (version_by_open (write_of o (local s es e.caller).writes))
        (read_apart (res (local s es e.caller)).object o (local s es e.caller).reads (λ z. other (sym z)))
        ∙ h
  ]
    where
      here : (res (local s es e.caller)).object ≡ o → (w : Option Write) (r : Option Read) →
          write_of o (local s es e.caller).writes ≡ w → read_of o (local s es e.caller).reads ≡ r →
          version_by_open w r ≡ Some v → version_held (install s (local s es e.caller)) o ≡ Some v
      here q (Some w) r is read k =
          rw (write_more o (local s es e.caller).writes (record {
            object = (res (local s es e.caller)).object;
            locator = next_locator s (local s es e.caller);
            old = or_zero (version (res (local s es e.caller)));
          }) w is) k
      here q None (Some r) is read k =
          let same : r.version ≡ or_zero (version (res (local s es e.caller))) =
          install_keeps_version s es e r core (record { kind = kind; succeeds = found })
          (ap (λ n. read_of n (local s es e.caller).reads) q ∙ read) in
          rw (write_last o (local s es e.caller).writes (record {
            object = (res (local s es e.caller)).object;
            locator = next_locator s (local s es e.caller);
            old = or_zero (version (res (local s es e.caller)));
          }) q is) (ap Some (sym same) ∙ k)
      here q None None is read k = absurd (cc)

  own_keeps : (k : Kind) → e.kind ≡ k → drops k ≡ false → version_held (local s es e.caller) o ≡ Some v →
      version_held (after k s (local s es e.caller) e) o ≡ Some v
  own_keeps Begin is d h = absurd (cc)
  own_keeps Release is d h = absurd (cc)
  own_keeps LookNumber is d h =
      holds_more o (local s es e.caller) (after LookNumber s (local s es e.caller) e) v refl
      (λ r q. read_recorded o (local s es e.caller).resolution (local s es e.caller).reads r q) h
  own_keeps Install is d h = elim (cases_Bool (e.found == e.expected)) [
    | inl q ↦ rw q (installed is (eqb-true e.found e.expected q) h)
    | inr q ↦ rw q h
  ]
  own_keeps LookSelf is d h =
      cond_both (e.found == given (local s es e.caller).phase) _ _ (λ (m : LocalState). version_held m o ≡ Some v)
      (λ _. h) (λ _. h)
  own_keeps ToValidating is d h =
      cond_both (e.found == 1) _ _ (λ (m : LocalState). version_held m o ≡ Some v) (λ _. h) (λ _. h)
  own_keeps Pause is d h =
      cond_both (e.found == 1) _ _ (λ (m : LocalState). version_held m o ≡ Some v) (λ _. h) (λ _. h)
  own_keeps Resume is d h =
      cond_both (e.found == 2) _ _ (λ (m : LocalState). version_held m o ≡ Some v) (λ _. h) (λ _. h)
  own_keeps k is d h = h

pub goes_on_holding : (s : Shape) (more es : List Event) (c o v : ℕ) → Core s (more ++ es) →
    DropsNone (events_of c more) → version_held (local s es c) o ≡ Some v →
    version_held (local s (more ++ es) c) o ≡ Some v
goes_on_holding s [] es c o v core none h = h
goes_on_holding s (e ∷ more) es c o v core none h =
    let ih = goes_on_holding s more es c o v core.0 in
    elim (cases_eq e.caller c) [
      | inl q ↦
          let all : DropsNone (e ∷ events_of c more) = rw (eq-eqb e.caller c q) at none in
          let was : version_held (local s (more ++ es) e.caller) o ≡ Some v =
          ap (λ n. version_held (local s (more ++ es) n) o) q ∙ ih all.1 h in
          ap (λ n. version_held (local s (e ∷ (more ++ es)) n) o) (sym q)
          ∙ ap (λ l. version_held l o) (local_own s (more ++ es) e)
          ∙ own_keeps s (more ++ es) e core o v e.kind refl all.0 was
      | inr n ↦
          ap (λ l. version_held l o) (local_other s (more ++ es) e c n)
          ∙ ih (rw (ne_eqb e.caller c n) at none) h
    ]
