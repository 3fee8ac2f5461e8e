-- Committed writers of one object commit in the order in which they install.
use Rattle.std.proofs.Common.{◌*◌, ◌++◌, ◌+◌, ◌-◌, ◌<◌, ◌∙◌, ◌∷◌, ◌≡◌, ◌≤◌, ◌⊎◌, List, [], ap, arith, inl, inr, refl, subst, sym, ℕ}
use Rattle.dstm_core.proofs.Base.{Core, Event, LocalState, OldWord, OwnerWord, StatusWord, at, local, next_locator, or_zero, own_attempt, place, res, target, version, word}
use Rattle.dstm_opacity.proofs.Base.{Commit, Install, Pause, Quit, Resume, Shape, ToValidating}
use Rattle.dstm_core.proofs.Basic.{install_may, install_put}
use Rattle.dstm_core.proofs.Columns.{Changed, Installed, StatusMove, begins, change, kills, moves, objects, own_in, step}
use Rattle.dstm_core.proofs.Locators.{installed_stays, no_locator_twice}
use Rattle.dstm_core.proofs.Places.{put_at}
use Rattle.dstm_core.proofs.Static.{static}
use Rattle.dstm_core.proofs.Pasts.{core_past}
use Rattle.dstm_core.proofs.Statuses.{finished_stays, finished_step}
use Rattle.dstm_opacity.proofs.Recorded.{replaces}
use Rattle.dstm_opacity.proofs.Versions.{Named, by_abort, by_commit, by_zero}
use Rattle.dstm_opacity.proofs.Written.{WriteOk, write_new}

-- an attempt that installs has its status in the table
pub installs_below : (s : Shape) (es : List Event) (d : Event) → Core s (d ∷ es) → d.kind ≡ Install →
    own_attempt s (local s es d.caller) < s.callers * s.attempts
installs_below s es d core k =
    let may = install_may s (local s es d.caller) d k core.1.allowed in
    own_in s d.caller (local s es d.caller) (static s es core.0 d.caller) core.1.caller (λ z. let y = may.0 in cc)

-- a locator stays in its object until its owner is finished
replaced_finished : (s : Shape) (more es : List Event) (d : Event) → Core s (more ++ d ∷ es) →
    d.kind ≡ Install → d.found ≡ d.expected → (at (more ++ d ∷ es) d.place ≡ d.put)
    ⊎ (4 ≤ word s (more ++ d ∷ es) (StatusWord (own_attempt s (local s es d.caller))))
replaced_finished s [] es d core k h = inl (put_at es d d.place refl)
replaced_finished s (e ∷ more) es d core k h = elim (replaced_finished s more es d core.0 k h) [
  | inl z ↦ step_on z (objects d.place (step s (more ++ d ∷ es) e core) (rw place_is made.object))
  | inr z ↦ inr (stays z)
]
  where
    core_d : Core s (d ∷ es)
    core_d = core_past s more (d ∷ es) core.0

    made : WriteOk s (d ∷ es) (own_attempt s (local s es d.caller))
        (record {
          object = (res (local s es d.caller)).object;
          locator = next_locator s
              (local s es d.caller);
          old = or_zero (version (res (local s es d.caller)));
        })
    made = write_new s es d core_d k h

    own_below : own_attempt s (local s es d.caller) < s.callers * s.attempts
    own_below = installs_below s es d core_d k

    place_is : d.place ≡ (res (local s es d.caller)).object
    place_is = core_d.1.allowed.0 ∙ ap (λ k. place s (target k s (local s es d.caller) d)) k

    put_is : d.put ≡ next_locator s (local s es d.caller) + 1
    put_is = install_put s (local s es d.caller) d k h core_d.1.allowed

    stays : 4 ≤ word s (more ++ d ∷ es) (StatusWord (own_attempt s (local s es d.caller))) →
        4 ≤ word s (e ∷ (more ++ d ∷ es)) (StatusWord (own_attempt s (local s es d.caller)))
    stays z =
        let y = finished_step s (more ++ d ∷ es) e (own_attempt s (local s es d.caller)) core own_below z in
        omega arith

    owner_is : word s (more ++ d ∷ es) (OwnerWord (d.put - 1)) ≡ own_attempt s (local s es d.caller)
    owner_is =
        (installed_stays s more es d core.0 k h).0
        ∙ ap (λ m. word s (d ∷ es) (OwnerWord m)) (let y = put_is in omega arith) ∙ made.owner

    done : Named s (more ++ d ∷ es) d.put (word s (more ++ d ∷ es) (OldWord (e.put - 1))) →
        4 ≤ word s (more ++ d ∷ es) (StatusWord (own_attempt s (local s es d.caller)))
    done (by_zero p q) = let y = put_is in absurd (omega arith)
    done (by_commit p u st q) = let y = ap (λ a. word s (more ++ d ∷ es) (StatusWord a)) owner_is in omega arith
    done (by_abort p u st q) = let y = ap (λ a. word s (more ++ d ∷ es) (StatusWord a)) owner_is in omega arith

    step_on : at (more ++ d ∷ es) d.place ≡ d.put →
        (at (e ∷ (more ++ d ∷ es)) d.place ≡ at (more ++ d ∷ es) d.place)
        ⊎ Installed s (more ++ d ∷ es) e d.place → (at (e ∷ (more ++ d ∷ es)) d.place ≡ d.put)
        ⊎ (4 ≤ word s (e ∷ (more ++ d ∷ es)) (StatusWord (own_attempt s (local s es d.caller))))
    step_on z (inl y) = inl (y ∙ z)
    step_on z (inr i) =
        let r = replaces s (more ++ d ∷ es) e core i.how.kind (i.how.found ∙ sym i.how.expected) in
        inr (stays (done (subst (λ n. Named s (more ++ d ∷ es) n (word s (more ++ d ∷ es) (OldWord (e.put - 1))))
        (sym i.was ∙ z) r.named)))

not_install : {s : Shape} {l : LocalState} {e : Event} {a : ℕ} → StatusMove s l e a → e.kind ≡ Install → ⊥
not_install (begins b) k = let x = b.kind in cc
not_install {e = e} (moves m) k = go m.how
  where
    go : ((e.kind ≡ ToValidating) × (e.put ≡ 3)) ⊎ ((e.kind ≡ Commit) × (e.put ≡ 4))
        ⊎ ((e.kind ≡ Quit) × (e.put ≡ 5)) ⊎ ((e.kind ≡ Pause) × (e.put ≡ 2))
        ⊎ ((e.kind ≡ Resume) × (e.put ≡ 1)) → ⊥
    go (inl x) = let y = x.0 in cc
    go (inr (inl x)) = let y = x.0 in cc
    go (inr (inr (inl x))) = let y = x.0 in cc
    go (inr (inr (inr (inl x)))) = let y = x.0 in cc
    go (inr (inr (inr (inr x)))) = let y = x.0 in cc
not_install (kills b) k = let x = b.kind in cc

-- of two committed writers of an object the earlier to install commits before the other installs
pub writers_in_draw_order : (s : Shape) (later more es : List Event) (e d : Event) →
    Core s (later ++ e ∷ (more ++ d ∷ es)) → e.kind ≡ Install → e.found ≡ e.expected → d.kind ≡ Install →
    d.found ≡ d.expected → e.place ≡ d.place →
    word s (later ++ e ∷ (more ++ d ∷ es)) (StatusWord (own_attempt s (local s es d.caller))) ≡ 4 →
    word s (more ++ d ∷ es) (StatusWord (own_attempt s (local s es d.caller))) ≡ 4
writers_in_draw_order s later more es e d core k h j i same done = go (replaced_finished s (e ∷ more) es d core_e j i)
  where
    core_e : Core s (e ∷ (more ++ d ∷ es))
    core_e = core_past s later (e ∷ (more ++ d ∷ es)) core

    core_d : Core s (d ∷ es)
    core_d = core_past s more (d ∷ es) core_e.0

    own_below : own_attempt s (local s es d.caller) < s.callers * s.attempts
    own_below = installs_below s es d core_d j

    before : 4 ≤ word s (e ∷ (more ++ d ∷ es)) (StatusWord (own_attempt s (local s es d.caller))) →
        (word s (e ∷ (more ++ d ∷ es)) (StatusWord (own_attempt s (local s es d.caller))) ≡ word s
        (more ++ d ∷ es) (StatusWord (own_attempt s (local s es d.caller))))
        ⊎ Changed s (more ++ d ∷ es) e (StatusWord (own_attempt s (local s es d.caller))) →
        word s (more ++ d ∷ es) (StatusWord (own_attempt s (local s es d.caller))) ≡ 4
    before z (inl y) =
        sym y ∙ sym
        (finished_stays s later (e ∷ (more ++ d ∷ es)) (own_attempt s (local s es d.caller)) core own_below z)
        ∙ done
    before z (inr y) = absurd (not_install y.how k)

    go : (at (e ∷ (more ++ d ∷ es)) d.place ≡ d.put)
        ⊎ (4 ≤ word s (e ∷ (more ++ d ∷ es)) (StatusWord (own_attempt s (local s es d.caller)))) →
        word s (more ++ d ∷ es) (StatusWord (own_attempt s (local s es d.caller))) ≡ 4
    go (inl z) =
        absurd (no_locator_twice s more es e d core_e k h j i (sym (put_at (more ++ d ∷ es) e d.place same) ∙ z))
    go (inr z) =
        before z (change (StatusWord (own_attempt s (local s es d.caller)))
        (step s (more ++ d ∷ es) e core_e) own_below)
