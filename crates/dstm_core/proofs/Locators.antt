-- Locators are installed once, and stay as they were installed.
use Rattle.std.proofs.Common.{◌≡◌, ◌≢◌, ◌+◌, ◌-◌, ◌*◌, ◌<◌, ◌⊎◌, ◌∷◌, ◌++◌, ◌∙◌, ℕ, inl, inr, List, [], refl, ap, arith, sym, is_some, subst}
use Rattle.dstm_core.proofs.Base.{Core, Event, Install, OldWord, OwnerWord, Shape, at, local, word}
use Rattle.dstm_core.proofs.Columns.{step, Used, used_more, Installed, objects}
use Rattle.dstm_core.proofs.Basic.{Names, names_more, fresh, own_number, install_may, owner_stays, old_stays, used_new, install_put}
use Rattle.dstm_core.proofs.Pasts.{core_past}

-- a successful Install puts a locator's name that no earlier one has put
pub install_fresh : (s : Shape) (es : List Event) (e : Event) → Core s (e ∷ es) → e.kind ≡ Install →
    e.found ≡ e.expected →
    (e.put ≡ e.caller * s.locators + (local s es e.caller).installed + 1) × Used s (e ∷ es) (e.put - 1)
    × (Used s es (e.put - 1) → ⊥)
install_fresh s es e core k h = let p = step s es e core in
    let may = install_may s (local s es e.caller) e k p.fits.allowed in
    let num = own_number p (λ q. let i = may.0 in cc) in
    let put : e.put ≡ e.caller * s.locators + (local s es e.caller).installed + 1 =
    install_put s (local s es e.caller) e k h p.fits.allowed ∙ ap (λ n. n + 1) num in
    let less : e.put - 1 ≡ e.caller * s.locators + (local s es e.caller).installed = omega arith in (
      put,
      subst (Used s (e ∷ es)) (sym less) (used_new p k h),
      (λ u. fresh e.caller (p.own.held (ap is_some may.1)) (subst (Used s es) less u)),
    )

pub used_later : {s : Shape} (more : List Event) {es : List Event} {m : ℕ} → Used s es m → Used s (more ++ es) m
used_later [] u = u
used_later {s = s} (e ∷ more) {es = es} {m = m} u = used_more e (used_later more u)

-- no word is installed twice
pub no_locator_twice : (s : Shape) (more es : List Event) (e f : Event) → Core s (e ∷ (more ++ f ∷ es)) →
    e.kind ≡ Install → e.found ≡ e.expected → f.kind ≡ Install → f.found ≡ f.expected → e.put ≢ f.put
no_locator_twice s more es e f core k h j i q =
    let first = install_fresh s es f (core_past s more (f ∷ es) core.0) j i in
    let second = install_fresh s (more ++ f ∷ es) e core k h in
    second.2 (rw q (used_later more first.1))

pub names_later : (s : Shape) (more es : List Event) (x : ℕ) → Names s es x → Names s (more ++ es) x
names_later s [] es m u = u
names_later s (e ∷ more) es m u = names_more s (more ++ es) e m (names_later s more es m u)

-- a word that an object had stays away once it is gone
no_return_step : (s : Shape) (es : List Event) (e : Event) (o x : ℕ) → Core s (e ∷ es) → o < s.objects →
    Names s es x → at (e ∷ es) o ≡ x → at es o ≡ x
no_return_step s es e o x core h n q =
    elim (objects o (step s es e core) h) [ inl y ↦ sym y ∙ q | inr i ↦ absurd (installed i n) ]
  where
    installed : Installed s es e o → Names s es x → ⊥
    installed i (inl z) = let w = i.now in omega arith
    installed i (inr z) = let f = install_fresh s es e core i.how.kind (i.how.found ∙ sym i.how.expected) in
        f.2 (subst (λ m. Used s es (m - 1)) (sym q ∙ i.now ∙ sym i.how.put) z.1)

pub no_return : (s : Shape) (more es : List Event) (o x : ℕ) → Core s (more ++ es) → o < s.objects →
    Names s es x → at (more ++ es) o ≡ x → at es o ≡ x
no_return s [] es o x core h n q = q
no_return s (e ∷ more) es o x core h n q =
    no_return s more es o x core.0 h n (no_return_step s (more ++ es) e o x core h (names_later s more es x n) q)

-- the owner and the old word of a locator that was installed stay
pub installed_stays : (s : Shape) (more es : List Event) (e : Event) → Core s (more ++ e ∷ es) →
    e.kind ≡ Install → e.found ≡ e.expected →
    (word s (more ++ e ∷ es) (OwnerWord (e.put - 1)) ≡ word s (e ∷ es) (OwnerWord (e.put - 1)))
    × (word s (more ++ e ∷ es) (OldWord (e.put - 1)) ≡ word s (e ∷ es) (OldWord (e.put - 1)))
installed_stays s more es e core k h = go more core
  where
    used : Core s (e ∷ es) → Used s (e ∷ es) (e.put - 1)
    used core = (install_fresh s es e core k h).1

    go : (more : List Event) → Core s (more ++ e ∷ es) →
        (word s (more ++ e ∷ es) (OwnerWord (e.put - 1)) ≡ word s (e ∷ es) (OwnerWord (e.put - 1)))
        × (word s (more ++ e ∷ es) (OldWord (e.put - 1)) ≡ word s (e ∷ es) (OldWord (e.put - 1)))
    go [] core = (refl, refl)
    go (f ∷ more) core =
        let u = used_later more (used (core_past s more (e ∷ es) core.0)) in
        let p = step s (more ++ e ∷ es) f core in let ih = go more core.0 in (
          owner_stays s (more ++ e ∷ es) f (e.put - 1) p u ∙ ih.0,
          old_stays s (more ++ e ∷ es) f (e.put - 1) p u ∙ ih.1,
        )
