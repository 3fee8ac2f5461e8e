-- The statuses that callers have found, in core runs.
use Rattle.std.proofs.Common.{◌≡◌, ℕ, ◌==◌, ◌∙◌, List, [], ◌∷◌, Some, None, ap, arith, is_some, true, Option}
use Rattle.std.proofs.lemmas.Bool.{cond_both}
use Rattle.dstm_core.specs.Events.{Event}
use Rattle.dstm_core.specs.Rules.{AllowedAs, after}
use Rattle.dstm_core.specs.Runs.{Core, local}
use Rattle.dstm_core.specs.State.{LocalState, given, is_resolved, keep_resolved, or_unresolved, or_zero, res}
use Rattle.dstm_core.specs.Traces.{at, word}
use Rattle.dstm_core.specs.Words.Word.{StatusWord}
use Rattle.dstm_core.specs.declared.event.Kind.{Kind}
use Rattle.dstm_core.specs.declared.event.Kind.TheVariants.{Begin, Install, Kill, LookHigh, LookNew, LookNumber, LookObj, LookOld, LookOwner, LookRank, LookSelf, LookStatus, Pause, Release, Resume, Validating as ToValidating}
use Rattle.dstm_core.specs.declared.shape.Shape.{Shape}
use Rattle.dstm_core.specs.declared.state.Resolution.{Resolution}
use Rattle.dstm_core.proofs.Begun.{IsCode, owner_begun, status_code}
use Rattle.dstm_core.proofs.Static.{callers}
use Rattle.dstm_core.proofs.Absent.{some_zero}

-- a status that was found is that of an attempt that has begun
abbrev pub FoundCode : Option Resolution → Type 0
FoundCode None = Unit {0}
FoundCode (Some r) = (n : ℕ) → r.status ≡ Some n → IsCode n

code_res : (r : Option Resolution) → FoundCode r → (n : ℕ) → (or_unresolved r).status ≡ Some n → IsCode n
code_res None h n q = absurd (cc)
code_res (Some r) h n q = h n q

code_kept : (r : Option Resolution) → FoundCode r → FoundCode (keep_resolved r)
code_kept None h = tt
code_kept (Some r) h = cond_both (is_resolved r) (Some r) None FoundCode (λ _. h) (λ _. tt)

-- the word of the owner's status holds a code
owner_code : (s : Shape) (es : List Event) (c : ℕ) → Core s es → is_some (res (local s es c)).owner ≡ true →
    IsCode (word s es (StatusWord (or_zero (res (local s es c)).owner)))
owner_code s es c core h = status_code s es core _ (owner_begun s es core c _ (some_zero (res (local s es c)).owner h))

found_code : (s : Shape) (es : List Event) (e : Event) (k : Kind) → Core s es →
    AllowedAs k s (local s es e.caller) e → e.found ≡ at es e.place →
    FoundCode (local s es e.caller).resolution → FoundCode (after k s (local s es e.caller) e).resolution
found_code s es e Begin core a f h = tt
found_code s es e LookObj core a f h = λ n q. absurd (cc)
found_code s es e LookOwner core a f h = code_res (local s es e.caller).resolution h
found_code s es e LookStatus core a f h = λ n q.
    let code = owner_code s es e.caller core a.2.2 in
    let n' : n ≡ e.found = cc in
    let found : e.found ≡ word s es (StatusWord (or_zero (res (local s es e.caller)).owner)) = f ∙ ap (at es) a.0 in
    rw (n', found) code
found_code s es e LookRank core a f h = code_res (local s es e.caller).resolution h
found_code s es e LookOld core a f h = code_res (local s es e.caller).resolution h
found_code s es e LookHigh core a f h = code_res (local s es e.caller).resolution h
found_code s es e LookNew core a f h = code_res (local s es e.caller).resolution h
found_code s es e Kill core a f h = λ n q.
    let code = owner_code s es e.caller core a.2.2 in
    let n' : n ≡ e.put = cc in
    let found : e.found ≡ word s es (StatusWord (or_zero (res (local s es e.caller)).owner)) = f ∙ ap (at es) a.0 in
    rw (n', a.1.1) (cond_both (e.found == or_zero (res (local s es e.caller)).status) 5 e.found IsCode
    (λ _. (omega arith, omega arith)) (λ _. rw found code))
found_code s es e Install core a f h =
    cond_both (e.found == e.expected) _ _ (λ (m : LocalState). FoundCode m.resolution) (λ _. tt) (λ _. tt)
found_code s es e LookNumber core a f h = code_kept (local s es e.caller).resolution h
found_code s es e LookSelf core a f h =
    cond_both (e.found == given (local s es e.caller).phase) _ _ (λ (m : LocalState). FoundCode m.resolution)
    (λ _. h) (λ _. h)
found_code s es e ToValidating core a f h =
    cond_both (e.found == 1) _ _ (λ (m : LocalState). FoundCode m.resolution) (λ _. h) (λ _. h)
found_code s es e Pause core a f h =
    cond_both (e.found == 1) _ _ (λ (m : LocalState). FoundCode m.resolution) (λ _. h) (λ _. h)
found_code s es e Resume core a f h =
    cond_both (e.found == 2) _ _ (λ (m : LocalState). FoundCode m.resolution) (λ _. h) (λ _. h)
found_code s es e Release core a f h = tt
found_code s es e k core a f h = h

codes : (s : Shape) (es : List Event) → Core s es → (c : ℕ) → FoundCode (local s es c).resolution
codes s [] core c = tt
codes s (e ∷ es) core c =
    callers s es e (λ c l. FoundCode l.resolution)
    (found_code s es e e.kind core.0 core.1.allowed core.1.linked (codes s es core.0 e.caller))
    (λ c _. codes s es core.0 c) c

pub code_found : (s : Shape) (es : List Event) → Core s es → (c n : ℕ) → (res (local s es c)).status ≡ Some n →
    IsCode n
code_found s es core c n q = code_res (local s es c).resolution (codes s es core c) n q
