-- Versions and values after the draws of the attempts that commit: `will` tells which these are, by their numbers.
use Rattle.std.proofs.Common.{◌&&◌, ◌≡◌, ◌≢◌, ◌<◌, ◌≤◌, ◌+◌, ◌⊎◌, ◌∷◌, ◌++◌, ◌∙◌, ℕ, inl, inr, List, [], refl, ap, arith, sym, subst, true, false, Bool, Option, Some, None, length, get_or-set_same, get_or-set_other, if◌then◌else◌}
use Rattle.dstm_tl2.proofs.Base.{Event, IsPastOf, Run, Table, Val, and_parts, cases_Bool, cases_eq, cond_both, entry_at, eq-eqb, history, is_draw, ne_eqb, objects, value_at, with_writes, write_of, writes_of}
use Rattle.dstm_model.proofs.Entries.{with_length}
use Rattle.dstm_machines.proofs.Orders as orders
use Rattle.dstm_machines.proofs.Orders.{map_after}
use Rattle.dstm_tl2.proofs.Clock.{Draws, NoDraw, clock, clock_step, clock_up}

-- a value where there is none
abbrev pub value_or : Option Val → Val → Val
value_or None d = d
value_or (Some v) d = v

abbrev pub version_or : Option Val → ℕ → ℕ → ℕ
version_or None n d = d
version_or (Some v) n d = n

-- the version of object o: 0, or the number of the newest draw that wrote it, plus 1
abbrev pub version_at : (ℕ → Bool) → List Event → ℕ → ℕ
version_at will [] o = 0
version_at will (e ∷ es) o =
    if is_draw e.kind && will e.found
    then version_or (write_of o (writes_of e.kind)) (e.found + 1) (version_at will es o) else version_at will es o

-- the map of the values
abbrev pub state : Table → (ℕ → Bool) → List Event → List Val
state t will es = map_after t.start (history t will es)

pub state_length : (t : Table) (will : ℕ → Bool) (es : List Event) → length (state t will es) ≡ objects t
state_length t will es = orders.state_length (history t will es) t.start

with_value : (ws : List (ℕ × Val)) (m : List Val) (o : ℕ) → o < length m →
    value_at (with_writes m ws) o ≡ value_or (write_of o ws) (value_at m o)
with_value [] m o h = refl
with_value (w ∷ ws) m o h = elim (cases_eq w.0 o) [
  | inl q ↦ rw (q, eq-eqb o o refl, get_or-set_same, long) refl
  | inr q ↦ let apart : o ≢ w.0 = λ z. q (sym z) in rw (ne_eqb w.0 o q, get_or-set_other) (with_value ws m o h)
]
  where
    long : o < length (with_writes m ws)
    long = rw (with_length ws m) h

-- an event changes the version of an object and its value only by a draw of an attempt that writes it and commits
pub record Still (t : Table) (will : ℕ → Bool) (es : List Event) (e : Event) (o : ℕ) : Type 0 where
  pub version : version_at will (e ∷ es) o ≡ version_at will es o
  pub value : value_at (state t will (e ∷ es)) o ≡ value_at (state t will es) o

pub still : (t : Table) (will : ℕ → Bool) (es : List Event) (e : Event) (o : ℕ) → o < objects t →
    (is_draw e.kind ≡ true → will e.found ≡ true → write_of o (writes_of e.kind) ≡ None) → Still t will es e o
still t will es e o b h = record {
  version = cond_both (is_draw e.kind && will e.found) _ (version_at will es o)
      (λ n. n ≡ version_at will es o)
      (λ q. ap (λ x. version_or x (e.found + 1) (version_at will es o)) (none q)) (λ _. refl);
  value = cond_both (is_draw e.kind && will e.found) (entry_at t e es ∷ history t will es) (history t will es)
      (λ xs. value_at (map_after t.start xs) o ≡ value_at (state t will es) o)
      (λ q. with_value (writes_of e.kind) (state t will es) o long
      ∙ ap (λ x. value_or x (value_at (state t will es) o)) (none q)) (λ _. refl);
}
  where
    long : o < length (state t will es)
    long = let l = state_length t will es in omega arith

    none : is_draw e.kind && will e.found ≡ true → write_of o (writes_of e.kind) ≡ None
    none q = let two = and_parts (is_draw e.kind) (will e.found) q in h two.0 two.1

pub record Wrote (t : Table) (will : ℕ → Bool) (es : List Event) (e : Event) (o : ℕ) (v : Val) : Type 0 where
  pub version : version_at will (e ∷ es) o ≡ e.found + 1
  pub value : value_at (state t will (e ∷ es)) o ≡ v

pub wrote : (t : Table) (will : ℕ → Bool) (es : List Event) (e : Event) (o : ℕ) (v : Val) → o < objects t →
    is_draw e.kind ≡ true → will e.found ≡ true → write_of o (writes_of e.kind) ≡ Some v → Wrote t will es e o v
wrote t will es e o v b d w q = record {
  version = rw (d, w) (ap (λ x. version_or x (e.found + 1) (version_at will es o)) q);
  value = rw (d, w) (with_value (writes_of e.kind) (state t will es) o long
      ∙ ap (λ x. value_or x (value_at (state t will es) o)) q);
}
  where
    long : o < length (state t will es)
    long = let l = state_length t will es in omega arith

-- the version changes only to one above the clock
pub version_how : (t : Table) (will : ℕ → Bool) (es : List Event) (e : Event) (o : ℕ) → Run t (e ∷ es) →
    o < objects t → Still t will es e o ⊎ (clock t es < version_at will (e ∷ es) o)
version_how t will es e o run b =
    go (cases_Bool (is_draw e.kind)) (cases_Bool (will e.found)) (write_of o (writes_of e.kind)) refl
    (clock_step t es e run.1)
  where
    go : (is_draw e.kind ≡ true) ⊎ (is_draw e.kind ≡ false) → (will e.found ≡ true) ⊎ (will e.found ≡ false) →
        (x : Option Val) → write_of o (writes_of e.kind) ≡ x → Draws t es e e.kind ⊎ NoDraw t es e e.kind →
        Still t will es e o ⊎ (clock t es < version_at will (e ∷ es) o)
    go (inr d) w x q k = inl (still t will es e o b (λ y _. absurd (cc)))
    go (inl d) (inr w) x q k = inl (still t will es e o b (λ _ y. absurd (cc)))
    go (inl d) (inl w) None q k = inl (still t will es e o b (λ _ _. q))
    go (inl d) (inl w) (Some v) q (inl k) =
        inr (let n = (wrote t will es e o v b d w q).version in let f = k.found in omega arith)
    go (inl d) (inl w) (Some v) q (inr k) = absurd (let no = k.kind in cc)

-- a version is at most the clock
pub version_below : (t : Table) (will : ℕ → Bool) (es : List Event) (o : ℕ) → Run t es → o < objects t →
    version_at will es o ≤ clock t es
version_below t will [] o run b = omega arith
version_below t will (e ∷ es) o run b =
    go (version_below t will es o run.0 b) (clock_step t es e run.1) (write_of o (writes_of e.kind)) refl
    (cases_Bool (will e.found))
  where
    quiet : version_at will es o ≤ clock t es →
        (is_draw e.kind ≡ true → will e.found ≡ true → write_of o (writes_of e.kind) ≡ None) →
        version_at will (e ∷ es) o ≤ clock t (e ∷ es)
    quiet ih h = let v = (still t will es e o b h).version in let u = clock_up t es e run.1 in omega arith

    go : version_at will es o ≤ clock t es → Draws t es e e.kind ⊎ NoDraw t es e e.kind →
        (x : Option Val) → write_of o (writes_of e.kind) ≡ x → (will e.found ≡ true) ⊎ (will e.found ≡ false) →
        version_at will (e ∷ es) o ≤ clock t (e ∷ es)
    go ih (inr k) x q w = quiet ih (λ y _. absurd (let no = k.kind in cc))
    go ih (inl k) x q (inr w) = quiet ih (λ _ y. absurd (cc))
    go ih (inl k) None q (inl w) = quiet ih (λ _ _. q)
    go ih (inl k) (Some v) q (inl w) =
        let n = (wrote t will es e o v b k.kind w q).version in let f = k.found in let r = k.rises in
        omega arith

-- a version that is at most the clock of a past was that of the past, and so was the value
pub record Unchanged (t : Table) (will : ℕ → Bool) (past es : List Event) (o : ℕ) : Type 0 where
  pub version : version_at will past o ≡ version_at will es o
  pub value : value_at (state t will past) o ≡ value_at (state t will es) o

pub clock_more : (t : Table) (more es : List Event) → Run t (more ++ es) → clock t es ≤ clock t (more ++ es)
clock_more t [] es run = omega arith
clock_more t (e ∷ more) es run =
    let a = clock_more t more es run.0 in let b = clock_up t (more ++ es) e run.1 in omega arith

unchanged_from : (t : Table) (will : ℕ → Bool) (more past : List Event) (o : ℕ) → Run t (more ++ past) →
    o < objects t → version_at will (more ++ past) o ≤ clock t past → Unchanged t will past (more ++ past) o
unchanged_from t will [] past o run b h = record { version = refl; value = refl }
unchanged_from t will (e ∷ more) past o run b h =
    elim (version_how t will (more ++ past) e o run b) [
      | inl s ↦
          let v = s.version in let k = unchanged_from t will more past o run.0 b (omega arith) in
          record { version = k.version ∙ sym s.version; value = k.value ∙ sym s.value }
      | inr s ↦ absurd (let c = clock_more t more past run.0 in omega arith)
    ]

pub unchanged : (t : Table) (will : ℕ → Bool) {past es : List Event} (o : ℕ) → IsPastOf past es → Run t es →
    o < objects t → version_at will es o ≤ clock t past → Unchanged t will past es o
unchanged t will {past = past} {es = es} o p run b h =
    subst (λ es. Unchanged t will past es o) p.whole
    (unchanged_from t will p.later past o (subst (Run t) (sym p.whole) run) b
    (subst (λ es. version_at will es o ≤ clock t past) (sym p.whole) h))
