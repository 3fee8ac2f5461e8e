-- No Release without a call that lets a read go.
use Rattle.std.proofs.Common.{◌≡◌, ◌≢◌, ◌⊎◌, ◌∙◌, ◌++◌, ◌∷◌, ◌==◌, List, [], true, false, ap, inl, inr, refl, subst, sym, ℕ, Option, is_some}
use Rattle.dstm_core.proofs.Base.{Each, Event, LocalState, cases_Bool, cond_both, eq-eqb, events_of, first, is_outside}
use Rattle.dstm_order.proofs.Base.{AreMade, Beginning, Call, Doing, Done, Due, Effort, Enrolling, IsDue, KeepsReads, Kind, Lcg, Leaving, Manager, Obeys, Release, Releasing, Shape, Step, Task, Work, due, effort_of, events_in, generator_by, newest_of, next_or_first, state_after, state_by, when_resolved}
use Rattle.dstm_machines.proofs.Own.{own_first, own_other}
use Rattle.dstm_order.proofs.Rows.{EachStep, giving_way_by, is_step, is_test, resolves, resolved_by, resolves_by, resolving_by, table_by, beginning_by, doing_by}
use Rattle.dstm_progress.specs.Lives.{NoReleases, lets_go}

abbrev NoRelease : Due → Type 0
NoRelease (Step k n) = lets_go k ≡ false
NoRelease Done = Unit {0}

-- no event of a call but a Release lets a read go
no_release : (k : Kind) → k ≢ Release → lets_go k ≡ false
no_release Release h = absurd (h refl)
no_release k h = refl

table_no : (o : Option Event) (w : Work) (m : Manager) (l : LocalState) (f : Effort) →
    ((o : ℕ) → w ≡ Releasing o → NoRelease (Step Release o)) → NoRelease (next_or_first o w m l f)
table_no o w m l f held = table_by NoRelease o w m l f steps
    (resolving_by NoRelease m l f (when_resolved w)
    (resolves_by NoRelease (λ k q. no_release k (λ z. let x = ap resolves z in cc)))
    (λ _. giving_way_by NoRelease l f refl refl refl) (resolved_by NoRelease w steps))
    (λ k q. no_release k (λ z. let x = ap is_test z in cc))
  where
    steps : EachStep NoRelease w
    steps = record { done = tt; step = λ k n q. no_release k (λ z. let x = ap is_step z in cc); release = held }

due_no : (t : Task) (s : Shape) (o : Option Event) (l m : LocalState) (f : Effort) → KeepsReads m t →
    NoRelease (due t s o l f)
due_no Enrolling s o l m f h = cond_both (is_some l.number) _ _ NoRelease (λ _. tt) (λ _. refl)
due_no (Beginning fresh) s o l m f h = beginning_by NoRelease s fresh o l tt refl (λ _ _. refl) (λ _. refl) refl
due_no Leaving s o l m f h = cond_both (is_outside l.phase) _ _ NoRelease (λ _. tt) (λ _. refl)
due_no (Doing w) s o l m f h =
    doing_by NoRelease w s o l f tt refl (table_no o w s.manager l f (held w h))
  where
    held : (w : Work) → KeepsReads m (Doing w) → (o : ℕ) → w ≡ Releasing o → NoRelease (Step Release o)
    held (Releasing p) h o q = absurd h
    held w h o q = absurd (cc)

not_release : (d : Due) (e : Event) → NoRelease d → IsDue d e → e.kind ≢ Release
not_release (Step k n) e other is q = absurd (let x : true ≡ false = ap lets_go (sym q ∙ is.0) ∙ other in cc)
not_release Done e other is q = is

abbrev pub NoneIn : List Event → Type 0
NoneIn [] = Unit {0}
NoneIn (e ∷ es) = NoneIn es × (e.kind ≢ Release)

none_both : (xs ys : List Event) → NoneIn xs → NoneIn ys → NoneIn (xs ++ ys)
none_both [] ys a b = b
none_both (x ∷ xs) ys a b = (none_both xs ys a.0 b, a.1)

pub call_none : (t : Task) (s : Shape) (l : LocalState) (g : Lcg) (es : List Event) → KeepsReads l t →
    Obeys t s l g es → NoneIn es
call_none t s l g [] may h = tt
call_none t s l g (e ∷ es) may h = (
  call_none t s l g es may h.0,
  not_release (due t s (newest_of es) (state_after s l es) (effort_of s l g es)) e
      (due_no t s (newest_of es) (state_after s l es) l (effort_of s l g es) may) h.1,
)

calls_none : (s : Shape) (l : LocalState) (g : Lcg) (cs : List Call) → AreMade s l g KeepsReads cs →
    NoneIn (events_in cs)
calls_none s l g [] m = tt
calls_none s l g (c ∷ cs) m =
    none_both c.events (events_in cs)
    (call_none c.task s (state_by s l g cs) (generator_by s l g cs) c.events m.1 m.2.obeys) (calls_none s l g cs m.0)

abbrev NoneOf : ℕ → List Event → Type 0
NoneOf c log = Each (λ (event : Event) before. event.caller ≡ c → event.kind ≢ Release) log

log_none : (c : ℕ) (log : List Event) → NoneIn (events_of c log) → NoneOf c log
log_none c [] h = tt
log_none c (e ∷ es) h = by (λ own. log_none c es own) (cases_Bool (e.caller == c))
  where
    by : (NoneIn (events_of c es) → NoneOf c es) → (e.caller == c ≡ true) ⊎ (e.caller == c ≡ false) → NoneOf c (e ∷ es)
    by ih (inl q) =
        let own : NoneIn (e ∷ events_of c es) = subst NoneIn (own_first e es c q) h in
        (ih own.0, λ here. own.1)
    by ih (inr q) = (
      ih (subst NoneIn (own_other e es c q) h),
      λ here. absurd (let no_way : true ≡ false = sym (eq-eqb e.caller c here) ∙ q in cc),
    )

pub no_releases : NoReleases
no_releases s g log c by = log_none c log (subst NoneIn (sym by.own) (calls_none s first g by.calls by.made))
