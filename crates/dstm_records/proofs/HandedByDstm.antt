-- What attempts of DSTM were handed.
use Rattle.std.proofs.Common.{◌≡◌, ◌≢◌, ◌==◌, ◌||◌, ◌⊎◌, ◌∙◌, ◌∷◌, ◌++◌, Bool, List, [], ℕ, true, false, refl, sym, subst, inl, inr, append_assoc, length, reverse}
use Rattle.dstm_records.proofs.Base.{Agrees, AnyTask, DstmHanded, Entry, Outside, Putting, Running, Shape, StoodTogether, TriesAgain, Val, cases_Bool, cases_eq, cond_both, core, drop_read, eqb-true, events_of, given, or_parts}
use Rattle.rand_pcg.specs.Lcg.{Lcg}
use Rattle.dstm_model.specs.Map.{state_after}
use Rattle.dstm_machines.proofs.Own.{others_event, own_event}
use Rattle.dstm_machines.proofs.Pasts.{past_all, past_past}
use Rattle.dstm_machines.proofs.Runs.{local_other, local_own}
use Rattle.dstm_core.specs.Events.{Event}
use Rattle.dstm_core.specs.Histories.{CoreRun, entry_of, history_of, old_values, pass_place, prefix_at, read_values, seen}
use Rattle.dstm_core.specs.Rules.{AllowedAs, after}
use Rattle.dstm_core.specs.Runs.{local}
use Rattle.dstm_core.specs.State.{LocalState}
use Rattle.dstm_core.specs.Traces.{IsPastOf}
use Rattle.dstm_core.specs.Words.{code_of}
use Rattle.dstm_core.specs.declared.event.Kind.{Kind}
use Rattle.dstm_core.specs.declared.event.Kind.TheVariants.{Begin, Commit, Draw, Install, LookNumber, LookSelf, Pause, PutHigh, PutNew, Quit, Release, Resume, Validating as ToValidating}
use Rattle.dstm_core.specs.declared.state.Phase.{Phase}
use Rattle.dstm_core.specs.declared.state.Read.{Read}
use Rattle.dstm_core.specs.declared.status.Status.TheVariants as status
use Rattle.dstm_core.proofs.Pasts.{core_past}
use Rattle.dstm_opacity.specs.Committed.{committed_in}
use Rattle.dstm_opacity.proofs.Numbers.{pass_past}
use Rattle.dstm_opacity.proofs.Opacity.{place_prefix, sight_is_seen}
use Rattle.dstm_opacity.proofs.Stays.{entries_are_history}
use Rattle.dstm_order.specs.Made.{ByCalls}
use Rattle.dstm_order.proofs.Weaker.{by_weaker}
use Rattle.dstm_progress.specs.Lives.{awaits_after, awaits_sight}
use Rattle.dstm_progress.proofs.Validated.{every_value}
use Rattle.dstm_records.proofs.Together.{stood_together}

-- ---- a read that is let go

agrees_dropped : (m : List Val) (s : Shape) (start : List Val) (run : List Event) (o : ℕ) (rs : List Read)
    (more : List (ℕ × Val)) → Agrees m (read_values s start run rs ++ more) →
    Agrees m (read_values s start run (drop_read o rs) ++ more)
agrees_dropped m s start run o [] more a = a
agrees_dropped m s start run o (r ∷ rs) more a =
    cond_both (r.object == o) rs (r ∷ drop_read o rs) (λ (kept : List Read). Agrees m (read_values s start run kept ++ more))
    (λ _. a.1) (λ _. (a.0, agrees_dropped m s start run o rs more a.1))

-- ---- one event

module _ (s : Shape) (start : List Val) (run : List Event) where
  -- the values are those of the state after a prefix of the history
  record StoodAt (values : List (ℕ × Val)) : Type 0 where
    pub place : List Event
    pub past : IsPastOf place run
    pub agrees : Agrees (state_after start (prefix_at s start run place)) values

  -- So are what was read and the old values of what is written, in an attempt that is under way, unless a value awaits a
  -- sight.
  abbrev Stands : Bool → LocalState → Type 0
  Stands awaited l = l.phase ≢ Outside → awaited ≡ false → StoodAt (entry_of s start run l).reads

  module _ (l : LocalState) (e : Event) where
    -- one that moved to another phase was under way before
    moved : (b : Bool) {p : Phase} → l.phase ≡ p → (p ≡ Outside → ⊥) → Stands b l → b ≡ false →
        StoodAt (entry_of s start run l).reads
    moved b is live h none = h (λ out. live (sym is ∙ out)) none

    putting : (b : Bool) → (l.phase ≡ Running) ⊎ (l.phase ≡ Putting) → Stands b l → b ≡ false →
        StoodAt (entry_of s start run l).reads
    putting b (inl is) h none = moved b is (λ out. cc) h none
    putting b (inr is) h none = moved b is (λ out. cc) h none

    validating : (b : Bool) →
        ((l.phase ≡ Running) × (l.writes ≡ [])) ⊎ ((l.phase ≡ Putting) × (l.written ≡ length l.writes)) → Stands b l →
        b ≡ false → StoodAt (entry_of s start run l).reads
    validating b (inl is) h none = moved b is.0 (λ out. cc) h none
    validating b (inr is) h none = moved b is.0 (λ out. cc) h none

    installs : (b : Bool) → Stands b l → Stands (b || e.found == e.expected) (after Install s l e)
    installs b h = by (cases_Bool (e.found == e.expected))
      where
        by : (e.found == e.expected ≡ true) ⊎ (e.found == e.expected ≡ false) →
            Stands (b || e.found == e.expected) (after Install s l e)
        by (inl same) live none =
            absurd (let no_way : true ≡ false = sym same ∙ (or_parts b (e.found == e.expected) none).1 in cc)
        by (inr other) live none = rw other (h (rw other at live) (or_parts b (e.found == e.expected) none).0)

    stands : (k : Kind) (b : Bool) → AllowedAs k s l e →
        (k ≡ LookSelf → e.found ≡ given l.phase → StoodAt (entry_of s start run l).reads) → Stands b l →
        Stands (awaits_after k e b) (after k s l e)
    stands LookNumber b a sight h live none = absurd (cc)
    stands Install b a sight h live none = installs b h live none
    stands LookSelf b a sight h live none =
        cond_both (e.found == given l.phase) _ _ (Stands false)
        (λ same _ _. sight refl (eqb-true e.found (given l.phase) same)) (λ _ gone none. absurd (gone refl)) live none
    stands Begin b a sight h live none = record { place = []; past = past_all run; agrees = tt }
    stands Release b a sight h live none =
        let before = h live none in record {
          place = before.place;
          past = before.past;
          agrees = agrees_dropped _ s start run e.place l.reads (old_values s start run l.writes) before.agrees;
        }
    stands PutHigh b a sight h live none = putting b a.2.0 h none
    stands PutNew b a sight h live none = moved b a.2.0 (λ out. cc) h none
    stands ToValidating b a sight h live none =
        cond_both (e.found == code_of status.Active) _ _ (Stands b)
        (λ _ _ none. validating b a.2.0 h none) (λ _ gone none. absurd (gone refl)) live none
    stands Draw b a sight h live none = moved b a.2.0 (λ out. cc) h none
    stands Pause b a sight h live none =
        cond_both (e.found == code_of status.Active) _ _ (Stands b)
        (λ _ _ none. moved b a.2.0 (λ out. cc) h none) (λ _ gone none. absurd (gone refl)) live none
    stands Resume b a sight h live none =
        cond_both (e.found == code_of status.Waiting) _ _ (Stands b)
        (λ _ _ none. moved b a.2.0 (λ out. cc) h none) (λ _ gone none. absurd (gone refl)) live none
    stands Quit b a sight h live none = absurd (live refl)
    stands Commit b a sight h live none = absurd (live refl)
    stands k b a sight h live none = h live none

-- ---- in a run

module _ (s : Shape) (start : List Val) (holds : List Val → Type 0) where
  -- what a sight covers
  sighted : (later es : List Event) (e : Event) → CoreRun s start holds (later ++ e ∷ es) → e.kind ≡ LookSelf →
      e.found ≡ given (local s es e.caller).phase →
      StoodAt s start (later ++ e ∷ es) (seen s start (later ++ e ∷ es) es e.caller)
  sighted later es e run is found = record {
    place = pass_place e.caller es;
    past = past_past (pass_place e.caller es) es (later ++ e ∷ es) (pass_past e.caller es)
        (record { later = later ++ e ∷ []; whole = append_assoc later (e ∷ []) es });
    agrees = (sight_is_seen s start holds later es e run (record { kind = is; found = found })).values;
  }

  abbrev AtCaller : (log es : List Event) (c : ℕ) → Type 0
  AtCaller log es c = Stands s start log (awaits_sight (events_of c es)) (local s es c)

  module _ {log : List Event} (later es : List Event) (e : Event) (is : later ++ e ∷ es ≡ log) (whole : CoreRun s start holds (later ++ e ∷ es))
      (before : (d : ℕ) → AtCaller log es d) where
    sight : e.kind ≡ LookSelf → e.found ≡ given (local s es e.caller).phase →
        StoodAt s start log (entry_of s start log (local s es e.caller)).reads
    sight kind found =
        subst (λ (r : List Event). StoodAt s start r (seen s start r es e.caller)) is (sighted later es e whole kind found)

    mine : Stands s start log (awaits_sight (e ∷ events_of e.caller es)) (after e.kind s (local s es e.caller) e)
    mine =
        stands s start log (local s es e.caller) e e.kind (awaits_sight (events_of e.caller es))
        (core_past s later (e ∷ es) whole.core).1.allowed sight (before e.caller)

    own : AtCaller log (e ∷ es) e.caller
    own =
        subst (λ (xs : List Event). Stands s start log (awaits_sight xs) (local s (e ∷ es) e.caller)) (sym (own_event e es))
        (subst (Stands s start log (awaits_sight (e ∷ events_of e.caller es))) (sym (local_own core s es e)) mine)

    each : (c : ℕ) → (e.caller ≡ c) ⊎ (e.caller ≡ c → ⊥) → AtCaller log (e ∷ es) c
    each c (inl same) = subst (AtCaller log (e ∷ es)) same own
    each c (inr other) =
        subst (λ (xs : List Event). Stands s start log (awaits_sight xs) (local s (e ∷ es) c)) (sym (others_event c e es other))
        (subst (Stands s start log (awaits_sight (events_of c es))) (sym (local_other core s es e c other)) (before c))

  caller_stands : {log : List Event} → CoreRun s start holds log → (es later : List Event) → later ++ es ≡ log → (c : ℕ) →
      AtCaller log es c
  caller_stands run [] later is c = λ live none. absurd (live refl)
  caller_stands run (e ∷ es) later is c =
      each later es e is (subst (CoreRun s start holds) (sym is) run)
      (λ d. caller_stands run es (later ++ e ∷ []) (append_assoc later (e ∷ []) es ∙ is) d) c (cases_eq e.caller c)

  together : {log : List Event} {values : List (ℕ × Val)} → StoodAt s start log values →
      StoodTogether start (reverse (committed_in s start log)) values
  together {log = log} {values = values} stood =
      let known =
      subst (λ (es : List Event). (rest : List Entry) × (history_of s start es ≡ prefix_at s start es stood.place ++ rest))
      stood.past.whole (place_prefix s start stood.past.later stood.place) in
      stood_together start (committed_in s start log) (prefix_at s start log stood.place) known.0 values
      (entries_are_history s start log) known.1 stood.agrees

  pub dstm_handed : {log : List Event} {g : Lcg} {c : ℕ} → CoreRun s start holds log → ByCalls TriesAgain s g log c →
      DstmHanded s start log c
  dstm_handed {log = log} {g = g} {c = c} run by =
      let valid = every_value s g log c run.core (by_weaker TriesAgain AnyTask (λ l t m. tt) s g log c by) in record {
        validated = valid.0;
        none_left = valid.1;
        stood = λ later before is live none.
            together (caller_stands run before later (sym is) c live none);
      }
