-- The words of objects name locators that are used, and the owners of these are attempts that began.
use Rattle.std.proofs.Common.{◌≡◌, ◌≢◌, ◌+◌, ◌-◌, ◌*◌, ◌/◌, ◌%◌, ◌<◌, ◌≤◌, ◌⊎◌, ◌∷◌, ◌∙◌, ℕ, inl, inr, List, [], refl, ap, arith, sym, true, Option, Some, None, is_some, subst}
use Rattle.std.proofs.Math.Nat.{div-add-mod}
use Rattle.dstm_core.proofs.Base.{AllowedAs, Core, Event, HasWord, Install, Kill, Kind, LocalState, LookHigh, LookNew, LookObj, LookOld, LookOwner, LookRank, LookStatus, OldWord, Outside, OwnerWord, PutOld, PutOwner, Resolution, Running, Shape, Word, after, at, cases_eq, cases_lt, eq-eqb, is_resolved, local, next_locator, or_unresolved, or_zero, own_attempt, place, res, target, version, word}
use Rattle.dstm_core.proofs.Places.{kept, put_at}
use Rattle.dstm_core.proofs.Static.{Static, running, static, local_own, local_other, callers, installed_how, HeldHow, held_how, held_old_how, installed_up}
use Rattle.dstm_core.proofs.Columns.{Aims, Begun, ChangeOf, Installed, Same, Step, Used, begun_still, caller_of, in_table, index_of, objects, own_in, stays, step, used_more}
use Rattle.dstm_core.proofs.Untouched.{unlooked}

-- a word of an object
abbrev pub Names : Shape → List Event → ℕ → Type 0
Names s es x = (x ≡ 0) ⊎ ((0 < x) × Used s es (x - 1))

pub names_more : (s : Shape) (es : List Event) (e : Event) (x : ℕ) → Names s es x → Names s (e ∷ es) x
names_more s es e x (inl h) = inl h
names_more s es e x (inr h) = inr (h.0, used_more e h.1)

pub record OwnerFits (s : Shape) (es : List Event) (m : ℕ) : Type 0 where
  pub begun : Begun s es (word s es (OwnerWord m))
  pub same : word s es (OwnerWord m) / s.attempts ≡ m / s.locators

abbrev pub OwnerIs : Shape → List Event → ℕ → Option ℕ → Type 0
OwnerIs s es x None = Unit {0}
OwnerIs s es x (Some a) = (0 < x) × (a ≡ word s es (OwnerWord (x - 1)))

-- what is known of a resolution's word and owner
abbrev pub ResBasic : Shape → List Event → Option Resolution → Type 0
ResBasic s es None = Unit {0}
ResBasic s es (Some r) = Names s es r.word × OwnerIs s es r.word r.owner

pub record Basic (s : Shape) (es : List Event) : Type 0 where
  pub object : (o : ℕ) → o < s.objects → Names s es (at es o)
  pub owner : (m : ℕ) → Used s es m → OwnerFits s es m
  pub held : (c a : ℕ) → c < s.callers → (local s es c).held_owner ≡ Some a →
      word s es (OwnerWord (c * s.locators + (local s es c).installed)) ≡ a
  pub res : (c : ℕ) → ResBasic s es (local s es c).resolution

-- the first unused locator is not used
pub fresh : {s : Shape} {es : List Event} (c : ℕ) → (local s es c).installed < s.locators →
    Used s es (c * s.locators + (local s es c).installed) → ⊥
fresh {s = s} {es = es} c h u = let i = (local s es c).installed in
    let q : (c * s.locators + i) / s.locators ≡ c = caller_of c s.locators i h in
    let r : (c * s.locators + i) % s.locators ≡ i = index_of c s.locators i h in
    let lt : i < (local s es c).installed =
    rw r at (subst (λ n. (c * s.locators + i) % s.locators < (local s es n).installed) q u.used) in
    omega arith

-- a locator that is used after an event was used before it, or was installed by it
pub record Fresh (s : Shape) (es : List Event) (e : Event) (m : ℕ) : Type 0 where
  pub kind : e.kind ≡ Install
  pub succeeds : e.found ≡ e.expected
  pub locator : m ≡ e.caller * s.locators + (local s es e.caller).installed

pub used_back : {s : Shape} (es : List Event) (e : Event) {m : ℕ} → Used s (e ∷ es) m → Used s es m ⊎ Fresh s es e m
used_back {s = s} es e {m = m} u = elim (cases_eq e.caller (m / s.locators)) [
  | inl q ↦
      at_own q (installed_how s (local s es e.caller) e e.kind)
      (rw (local_own s es e) at (subst (λ n. m % s.locators < (local s (e ∷ es) n).installed) (sym q) u.used))
  | inr q ↦ inl (record { below = u.below; used = rw (local_other s es e (m / s.locators) q) at u.used })
]
  where
    at_own : e.caller ≡ m / s.locators →
        ((after e.kind s (local s es e.caller) e).installed ≡ (local s es e.caller).installed)
        ⊎ ((e.kind ≡ Install) × (e.found ≡ e.expected)
        × ((after e.kind s (local s es e.caller) e).installed ≡ (local s es e.caller).installed + 1)) →
        m % s.locators < (after e.kind s (local s es e.caller) e).installed → Used s es m ⊎ Fresh s es e m
    at_own q (inl x) h =
        inl (record {
          below = u.below;
          used = subst (λ n. m % s.locators < (local s es n).installed) q
              (omega arith);
        })
    at_own q (inr x) h = elim (cases_lt (m % s.locators) (local s es e.caller).installed) [
      | inl y ↦ inl (record { below = u.below; used = subst (λ n. m % s.locators < (local s es n).installed) q y })
      | inr y ↦
          let z = x.2 in let r : m % s.locators ≡ (local s es e.caller).installed = omega arith in
          let d = div-add-mod m s.locators in
          inr (record { kind = x.0; succeeds = x.1; locator = sym d ∙ rw (r, ← q) (omega arith) })
    ]

-- a put on the owner or the old word of a locator is none on a used one
pub own_number : {s : Shape} {es : List Event} {e : Event} → Step s es e → (local s es e.caller).phase ≢ Outside →
    next_locator s (local s es e.caller) ≡ e.caller * s.locators + (local s es e.caller).installed
own_number {s = s} {es = es} {e = e} p h =
    let run : ((local s es e.caller).number ≡ Some e.caller) × (0 < (local s es e.caller).begun) =
    running s e.caller (local s es e.caller) p.own h in
    let num : or_zero (local s es e.caller).number ≡ e.caller = ap or_zero run.0 in
    ap (λ n. n * s.locators + (local s es e.caller).installed) num

pub install_may : (s : Shape) (l : LocalState) (e : Event) {k : Kind} → k ≡ Install → AllowedAs k s l e →
    (l.phase ≡ Running) × (l.held_owner ≡ Some (own_attempt s l)) × (l.held_old ≡ version (res l))
    × (is_some l.resolution ≡ true) × (is_resolved (res l) ≡ true)
install_may s l e {k = Install} q a = (a.2.0, a.2.4, a.2.5, a.2.2, a.2.3)
install_may s l e q a = absurd (cc)

-- a word of locators that only one kind of event changes, at its caller's first unused locator, and what a caller's
-- state tells of that word
pub record Holding (s : Shape) (w : ℕ → Word) (k : Kind) (held : LocalState → Option ℕ) : Type 0 where
  pub has : (m : ℕ) → m < s.callers * s.locators → HasWord s (w m)
  pub change : (l : LocalState) (e : Event) (m : ℕ) → ChangeOf (w m) s l e → Aims e k m (next_locator s l)
  pub target : (l : LocalState) (e : Event) → target k s l e ≡ w (next_locator s l)
  pub may : (c : ℕ) (l : LocalState) (e : Event) → Static s c l → AllowedAs k s l e →
      (l.phase ≢ Outside) × (l.installed < s.locators)
  pub room : (c : ℕ) (l : LocalState) → Static s c l → is_some (held l) ≡ true → l.installed < s.locators
  pub how : (l : LocalState) (e : Event) (j : Kind) (a : ℕ) → held (after j s l e) ≡ Some a →
      HeldHow s l e j k (held l) a

pub owners : (s : Shape) → Holding s OwnerWord PutOwner (λ l. l.held_owner)
owners s = record {
  has = λ m b. b;
  change = λ l e m h. h;
  target = λ l e. refl;
  may = λ c l e t a. ((λ h. let i = a.2.0 in cc), a.2.2);
  room = λ c l t h. t.held h;
  how = λ l e j a h. held_how s l e j a h;
}

pub olds : (s : Shape) → Holding s OldWord PutOld (λ l. l.held_old)
olds s = record {
  has = λ m b. b;
  change = λ l e m h. h;
  target = λ l e. refl;
  may = λ c l e t a. ((λ h. let i = a.2.0 in cc), t.held (ap is_some a.2.4));
  room = λ c l t h. t.held_old h;
  how = λ l e j a h. held_old_how s l e j a h;
}

module _ (s : Shape) (w : ℕ → Word) (k : Kind) (held : LocalState → Option ℕ) (hold : Holding s w k held) where
  may_put : {es : List Event} {e : Event} → Step s es e → e.kind ≡ k →
      ((local s es e.caller).phase ≢ Outside) × ((local s es e.caller).installed < s.locators)
  may_put {es = es} {e = e} p q =
      hold.may e.caller (local s es e.caller) e p.own
      (subst (λ (k : Kind). AllowedAs k s (local s es e.caller) e) q p.fits.allowed)

  -- it stays at locators that are used
  used_stays : (es : List Event) (e : Event) (m : ℕ) → Step s es e → Used s es m → Same s es e (w m)
  used_stays es e m p u =
      stays (w m) p (hold.has m u.below) (λ h. let x = hold.change (local s es e.caller) e m h in
      let may = may_put p x.kind in
      fresh e.caller may.1 (subst (Used s es) (x.number ∙ own_number p may.0) u))

  -- the caller's state tells what it holds
  pub held_step : {es : List Event} {e : Event} → Core s es → Step s es e →
      ((c a : ℕ) → c < s.callers → held (local s es c) ≡ Some a →
      word s es (w (c * s.locators + (local s es c).installed)) ≡ a) → (c a : ℕ) → c < s.callers →
      held (local s (e ∷ es) c) ≡ Some a → word s (e ∷ es) (w (c * s.locators + (local s (e ∷ es) c).installed)) ≡ a
  held_step {es = es} {e = e} core p before c a lt =
      callers s es e (λ c l. (a : ℕ) → c < s.callers → held l ≡ Some a →
      word s (e ∷ es) (w (c * s.locators + l.installed)) ≡ a)
      (λ a _ h. let how = hold.how (local s es e.caller) e e.kind a h in rw how.0 (own a how.1))
      (λ c d a lt h. other c lt d a h) c a lt
    where
      own : (a : ℕ) → ((e.kind ≡ k) × (e.put ≡ a)) ⊎ ((e.kind ≢ k) × (held (local s es e.caller) ≡ Some a)) →
          word s (e ∷ es) (w (e.caller * s.locators + (local s es e.caller).installed)) ≡ a
      own a (inl x) =
          put_at es e _ (p.fits.allowed.0 ∙ ap (λ k. place s (target k s (local s es e.caller) e)) x.0
          ∙ ap (place s) (hold.target (local s es e.caller) e)
          ∙ ap (λ m. place s (w m)) (own_number p (may_put p x.0).0)) ∙ x.1
      own a (inr x) =
          let room = hold.room e.caller (local s es e.caller) p.own (ap is_some x.1) in
          stays (w (e.caller * s.locators + (local s es e.caller).installed)) p
          (hold.has _ (in_table e.caller s.locators _ s.callers p.fits.caller room))
          (λ h. x.0 (hold.change (local s es e.caller) e _ h).kind) ∙ before e.caller a p.fits.caller x.1

      other : (c : ℕ) → c < s.callers → e.caller ≢ c → (a : ℕ) → held (local s es c) ≡ Some a →
          word s (e ∷ es) (w (c * s.locators + (local s es c).installed)) ≡ a
      other c inside d a h =
          stays (w (c * s.locators + (local s es c).installed)) p
          (hold.has _ (in_table c s.locators _ s.callers inside room))
          (λ h. apart (hold.change (local s es e.caller) e _ h)) ∙ before c a inside h
        where
          room : (local s es c).installed < s.locators
          room = hold.room c (local s es c) (static s es core c) (ap is_some h)

          apart : Aims e k (c * s.locators + (local s es c).installed) (next_locator s (local s es e.caller)) → ⊥
          apart x = let may = may_put p x.kind in
              d (sym (caller_of e.caller s.locators (local s es e.caller).installed may.1)
              ∙ ap (λ m. m / s.locators) (sym (x.number ∙ own_number p may.0))
              ∙ caller_of c s.locators (local s es c).installed room)

pub owner_stays : (s : Shape) (es : List Event) (e : Event) (m : ℕ) → Step s es e → Used s es m →
    Same s es e (OwnerWord m)
owner_stays s = used_stays s OwnerWord PutOwner (λ l. l.held_owner) (owners s)

pub old_stays : (s : Shape) (es : List Event) (e : Event) (m : ℕ) → Step s es e → Used s es m → Same s es e (OldWord m)
old_stays s = used_stays s OldWord PutOld (λ l. l.held_old) (olds s)

-- the locator of a successful Install is used from then on
pub used_new : {s : Shape} {es : List Event} {e : Event} → Step s es e → e.kind ≡ Install →
    e.found ≡ e.expected → Used s (e ∷ es) (e.caller * s.locators + (local s es e.caller).installed)
used_new {s = s} {es = es} {e = e} p k h = let may = install_may s (local s es e.caller) e k p.fits.allowed in
    let lt : (local s es e.caller).installed < s.locators = p.own.held (ap is_some may.1) in
    record {
      below = in_table e.caller s.locators (local s es e.caller).installed s.callers p.fits.caller lt;
      used = rw (
        index_of e.caller s.locators (local s es e.caller).installed lt,
        caller_of e.caller s.locators (local s es e.caller).installed lt,
        local_own s es e,
        installed_up s (local s es e.caller) e k h,
      ) (omega arith);
    }

object_step : {s : Shape} {es : List Event} {e : Event} → Step s es e → Basic s es → (o : ℕ) → o < s.objects →
    Names s (e ∷ es) (at (e ∷ es) o)
object_step {s = s} {es = es} {e = e} p b o h = go (objects o p h)
  where
    go : (at (e ∷ es) o ≡ at es o) ⊎ Installed s es e o → Names s (e ∷ es) (at (e ∷ es) o)
    go (inl x) = rw x (names_more s es e (at es o) (b.object o h))
    go (inr x) = let may = install_may s (local s es e.caller) e x.how.kind p.fits.allowed in
        let num = own_number p (λ q. let i = may.0 in cc) in
        let one : next_locator s (local s es e.caller) + 1 - 1 ≡ next_locator s (local s es e.caller) = omega arith in
        rw x.now (inr (omega arith, rw (one, num) (used_new p x.how.kind (x.how.found ∙ sym x.how.expected))))

-- of the caller's own attempt
pub own_place : (s : Shape) (c : ℕ) (l : LocalState) → Static s c l → c < s.callers → l.phase ≢ Outside →
    (own_attempt s l ≡ c * s.attempts + (l.begun - 1)) × (own_attempt s l / s.attempts ≡ c)
    × (own_attempt s l % s.attempts ≡ l.begun - 1) × (l.begun - 1 < l.begun)
own_place s c l t b h = let run : (l.number ≡ Some c) × (0 < l.begun) = running s c l t h in
    let num : or_zero l.number ≡ c = ap or_zero run.0 in
    let x = t.begun in let lt : l.begun - 1 < s.attempts = omega arith in (
      ap (λ n. n * s.attempts + (l.begun - 1)) num,
      rw num (caller_of c s.attempts (l.begun - 1) lt),
      rw num (index_of c s.attempts (l.begun - 1) lt),
      omega arith,
    )

pub own_begun : (s : Shape) (es : List Event) (c : ℕ) → Static s c (local s es c) → c < s.callers →
    (local s es c).phase ≢ Outside → Begun s es (own_attempt s (local s es c))
own_begun s es c t b h = let x = own_place s c (local s es c) t b h in
    record { below = own_in s c (local s es c) t b h; begun = rw (x.1, x.2) x.3 }

owner_step : (s : Shape) (es : List Event) (e : Event) → Step s es e → Basic s es → (m : ℕ) →
    Used s (e ∷ es) m → OwnerFits s (e ∷ es) m
owner_step s es e p b m u = elim (used_back es e u) [
  | inl x ↦ fit m (owner_stays s es e m p x) (b.owner m x)
  | inr f ↦ fit m (stays (OwnerWord m) p u.below (λ x. let i = f.kind in let j = x.kind in cc)) (new f)
]
  where
    fit : (m : ℕ) → Same s es e (OwnerWord m) → OwnerFits s es m → OwnerFits s (e ∷ es) m
    fit m q f =
        record { begun = rw q (begun_still e f.begun); same = rw q f.same }

    new : Fresh s es e m → OwnerFits s es m
    new f = let l = local s es e.caller in
        let may = install_may s l e f.kind p.fits.allowed in
        let out : l.phase ≢ Outside = λ q. let i = may.0 in cc in
        let lt : l.installed < s.locators = p.own.held (ap is_some may.1) in
        let x = own_place s e.caller l p.own p.fits.caller out in
        let h : word s es (OwnerWord m) ≡ own_attempt s l =
        rw f.locator (b.held e.caller (own_attempt s l) p.fits.caller may.1) in
        record {
          begun = rw h (own_begun s es e.caller p.own p.fits.caller out);
          same = rw (h, x.1, f.locator)
              (sym (caller_of e.caller s.locators l.installed lt));
        }

-- what is known of a resolution stays known
pub owner_is_more : {s : Shape} {es : List Event} {e : Event} → Step s es e → (x : ℕ) (o : Option ℕ) →
    Names s es x → OwnerIs s es x o → OwnerIs s (e ∷ es) x o
owner_is_more p x None n h = tt
owner_is_more p x (Some a) (inl n) h = absurd (omega arith)
owner_is_more {s = s} {es = es} {e = e} p x (Some a) (inr n) h = (h.0, h.1 ∙ sym (owner_stays s es e (x - 1) p n.1))

pub res_more : {s : Shape} {es : List Event} {e : Event} → Step s es e → (r : Option Resolution) →
    ResBasic s es r → ResBasic s (e ∷ es) r
res_more p None h = tt
res_more {s = s} {es = es} {e = e} p (Some r) h = (names_more s es e r.word h.0, owner_is_more p r.word r.owner h.0 h.1)

pub res_known : (s : Shape) (es : List Event) (r : Option Resolution) → ResBasic s es r →
    Names s es (or_unresolved r).word × OwnerIs s es (or_unresolved r).word (or_unresolved r).owner
res_known s es None h = (inl refl, tt)
res_known s es (Some r) h = h

res_own : {s : Shape} {es : List Event} {e : Event} → Step s es e → Basic s es → (k : Kind) →
    AllowedAs k s (local s es e.caller) e → ResBasic s (e ∷ es) (local s es e.caller).resolution →
    ResBasic s (e ∷ es) (after k s (local s es e.caller) e).resolution
res_own {s = s} {es = es} {e = e} p b LookObj a h = (
  subst (Names s (e ∷ es)) (sym p.fits.linked) (names_more s es e (at es e.place) (b.object e.place a.3)),
  tt,
)
res_own {s = s} {es = es} {e = e} p b LookOwner a h = let r = res_known s (e ∷ es) (local s es e.caller).resolution h in
    (r.0, (a.2.2, p.fits.linked ∙ ap (at es) a.0 ∙ sym (kept es e _ p.fits.linked (λ _. a.1.1))))
res_own {s = s} {es = es} {e = e} p b LookStatus a h = res_known s (e ∷ es) (local s es e.caller).resolution h
res_own {s = s} {es = es} {e = e} p b LookOld a h = res_known s (e ∷ es) (local s es e.caller).resolution h
res_own {s = s} {es = es} {e = e} p b LookNew a h = res_known s (e ∷ es) (local s es e.caller).resolution h
res_own {s = s} {es = es} {e = e} p b Kill a h = res_known s (e ∷ es) (local s es e.caller).resolution h
res_own {s = s} {es = es} {e = e} p b LookRank a h = res_known s (e ∷ es) (local s es e.caller).resolution h
res_own {s = s} {es = es} {e = e} p b LookHigh a h = res_known s (e ∷ es) (local s es e.caller).resolution h
res_own {s = s} {es = es} {e = e} p b k a h = unlooked (ResBasic s (e ∷ es)) s (local s es e.caller) e k refl tt h

pub basic : (s : Shape) (es : List Event) → Core s es → Basic s es
basic s [] core =
    record {
      object = λ o h. inl refl;
      owner = λ m u. absurd
          (let x = u.used in omega arith);
      held = λ c a lt h. absurd (cc);
      res = λ c. tt;
    }
basic s (e ∷ es) core = let b : Basic s es = basic s es core.0 in let p : Step s es e = step s es e core in
    record {
      object = object_step p b;
      owner = owner_step s es e p b;
      held = held_step s OwnerWord PutOwner (λ l. l.held_owner) (owners s) core.0 p b.held;
      res = callers s es e (λ c l. ResBasic s (e ∷ es) l.resolution)
          (res_own p b e.kind p.fits.allowed (res_more p (local s es e.caller).resolution (b.res e.caller)))
          (λ c _. res_more p (local s es c).resolution (b.res c));
    }

pub install_put : (s : Shape) (l : LocalState) (e : Event) {k : Kind} → k ≡ Install → e.found ≡ e.expected →
    AllowedAs k s l e → e.put ≡ next_locator s l + 1
install_put s l e {k = Install} q h a = let f : e.found ≡ (res l).word = h ∙ a.1.0 in
    a.1.1 ∙ rw (eq-eqb e.found (res l).word f) refl
install_put s l e q h a = absurd (cc)
