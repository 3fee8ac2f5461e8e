-- What an attempt has seen, as a value for each object that it holds.
use Rattle.std.proofs.Common.{◌++◌, ◌==◌, ◌∙◌, ◌∷◌, ◌≡◌, List, Option, None, Some, [], ap, inl, inr, refl, sym, ℕ}
use Rattle.dstm_core.proofs.Base.{Core, Event, LocalState, Val, cases_Bool, cond_both, eqb-true, local, old_values, read_of, read_values, seen, version_value, write_of}
use Rattle.dstm_opacity.proofs.Base.{Read, Shape, Write}
use Rattle.std.specs.Map.{lookup}
use Rattle.std.specs.Prelude.{option_map}
use Rattle.dstm_opacity.proofs.Tidy.{Apart, tidy}

-- the version that is held of an object that is opened for writing, or read
abbrev pub version_by_open : Option Write → Option Read → Option ℕ
version_by_open (Some w) r = Some w.old
version_by_open None (Some r) = Some r.version
version_by_open None None = None

abbrev pub version_held : LocalState → ℕ → Option ℕ
version_held l o = version_by_open (write_of o l.writes) (read_of o l.reads)

-- the value of object o among pairs
abbrev value_of : ℕ → List (ℕ × Val) → Option Val
value_of o pairs = lookup (λ p. p == o) pairs

module _ (s : Shape) (start : List Val) (run : List Event) (o : ℕ) where
  old_value : (ws : List Write) →
      value_of o (old_values s start run ws)
      ≡ option_map (version_value s start run o) (version_by_open (write_of o ws) None)
  old_value [] = refl
  old_value (w ∷ ws) = elim (cases_Bool (w.object == o)) [
    | inl q ↦ rw q (ap (λ n. Some (version_value s start run n w.old)) (eqb-true w.object o q))
    | inr q ↦ rw q (old_value ws)
  ]

  -- an object that is opened for writing is not read
  unread : (ws : List Write) (rs : List Read) → Apart ws rs → (w : Write) → write_of o ws ≡ Some w → read_of o rs ≡ None
  unread ws [] h w q = refl
  unread ws (r ∷ rs) h w q =
      cond_both (r.object == o) (Some r) (read_of o rs) (λ (x : Option Read). x ≡ None)
      (λ z. let same = ap (λ n. write_of n ws) (eqb-true r.object o z) in let none = h.0 in absurd (cc))
      (λ _. unread ws rs h.1 w q)

  seen_value : (rs : List Read) (ws : List Write) →
      ((w : Write) → write_of o ws ≡ Some w → read_of o rs ≡ None) →
      value_of o (read_values s start run rs ++ old_values s start run ws)
      ≡ option_map (version_value s start run o) (version_by_open (write_of o ws) (read_of o rs))
  seen_value [] ws h = old_value ws
  seen_value (r ∷ rs) ws h = elim (cases_Bool (r.object == o)) [
    | inl q ↦
        let k : (w : Write) → write_of o ws ≡ Some w → Some r ≡ None = λ w z. rw q at (h w z) in
        rw q
        (ap (λ n. Some (version_value s start run n r.version)) (eqb-true r.object o q)
        ∙ ap (option_map (version_value s start run o)) (sym (here (write_of o ws) k)))
    | inr q ↦ rw q (seen_value rs ws (λ w z. rw q at (h w z)))
  ]
    where
      here : (x : Option Write) → ((w : Write) → x ≡ Some w → Some r ≡ None) →
          version_by_open x (Some r) ≡ Some r.version
      here None k = refl
      here (Some w) k = absurd (let z = k w refl in cc)

-- what is seen of an object is the value of the version that is held
pub held_is_seen : (s : Shape) (start : List Val) (run es : List Event) (c o : ℕ) → Core s es →
    lookup (λ p. p == o) (seen s start run es c)
    ≡ option_map (version_value s start run o) (version_held (local s es c) o)
held_is_seen s start run es c o core =
    let l = local s es c in
    seen_value s start run o l.reads l.writes
    (unread s start run o l.writes l.reads (tidy s es core c).apart)
