-- The state after every prefix of a history is lawful.
use Rattle.std.proofs.Common.{◌++◌, ◌∙◌, ◌∷◌, ◌≡◌, List, inl, inr, length, subst, sym, true}
use Rattle.dstm_core.proofs.Base.{Core, Event, KeepsLaw, Lawful, Val, and_parts, commits_at, entry_at, entry_of, history, is_draw, local, own_attempt, will_of, with_writes}
use Rattle.dstm_opacity.proofs.Base.{Kind, PutHigh, PutNew, Shape, Validating}
use Rattle.dstm_core.proofs.Pasts.{core_past}
use Rattle.dstm_core.proofs.Prefixes.{lawful_past}
use Rattle.dstm_machines.proofs.Histories as histories
use Rattle.dstm_machines.proofs.Orders.{map_after, state_length}
use Rattle.dstm_opacity.proofs.Draws.{draw_may, drawn_yes}
use Rattle.dstm_opacity.proofs.KeptLaw.{law_ok}
use Rattle.dstm_opacity.proofs.Legal.{draws_ok, legal_entry}
use Rattle.dstm_opacity.proofs.Recorded.{reads, reads_more}
use Rattle.dstm_opacity.proofs.Values.{WritesKept, entry_later, entry_stays, kept_from, kept_more, puts_value}

put_draw : (k : Kind) → puts_value k ≡ true → is_draw k ≡ true → ⊥
unfolding puts_value
put_draw PutNew q d = cc
put_draw PutHigh q d = cc
put_draw k q d = cc

law_entry : (s : Shape) (start : List Val) (holds : List Val → Type 0) (es : List Event) (d : Event)
    (more : List Event) → length start ≡ s.objects → Core s (more ++ d ∷ es) → Lawful s start holds es →
    is_draw d.kind ≡ true → will_of s (more ++ d ∷ es) (own_attempt s (local s es d.caller)) ≡ true →
    holds (map_after start (history s start (will_of s (more ++ d ∷ es)) (more ++ d ∷ es) es)) →
    holds (with_writes (map_after start (history s start (will_of s (more ++ d ∷ es)) (more ++ d ∷ es) es))
    (entry_of s start (more ++ d ∷ es) (local s es d.caller)).writes)
law_entry s start holds es d more long core law k w h =
    elim (law_ok s start holds es core_d.0 law d.caller core_d.1.caller (inr (inl v))) [
      | inl x ↦ rw x h
      | inr x ↦
          (subst (KeepsLaw holds s.objects) (sym (later ∙ now)) x)
          (map_after start (history s start (will_of s (more ++ d ∷ es)) (more ++ d ∷ es) es))
          (state_length (history s start (will_of s (more ++ d ∷ es)) (more ++ d ∷ es) es) start ∙ long) h
          (legal_entry s start es d more long core k w)
    ]
  where
    core_d : Core s (d ∷ es)
    core_d = core_past s more (d ∷ es) core

    v : (local s es d.caller).phase ≡ Validating
    v = draw_may s (local s es d.caller) d d.kind k core_d.1.allowed

    kept : WritesKept s es (own_attempt s (local s es d.caller)) (local s es d.caller).writes
    kept = kept_from s es (own_attempt s (local s es d.caller)) (local s es d.caller).writes
        (draws_ok s es d core_d k)

    not_put : is_draw d.kind ≡ true → puts_value d.kind ≡ true → ⊥
    not_put x y = put_draw d.kind y x

    now : entry_of s start (d ∷ es) (local s es d.caller) ≡ entry_of s start es (local s es d.caller)
    now = entry_stays s start es d (own_attempt s (local s es d.caller)) (local s es d.caller) core_d
        (reads s es core_d.0 d.caller) kept (λ z. absurd (not_put k z))

    later : entry_of s start (more ++ d ∷ es) (local s es d.caller) ≡ entry_of s start (d ∷ es) (local s es d.caller)
    later = (entry_later s start (d ∷ es) more (own_attempt s (local s es d.caller)) (local s es d.caller) core
        (drawn_yes s es d k) (reads_more s es d (local s es d.caller).reads core_d (reads s es core_d.0 d.caller))
        (kept_more s es d (own_attempt s (local s es d.caller)) (local s es d.caller).writes core_d kept)).0

-- the state after the entries of each past is lawful
pub lawful_from : (s : Shape) (start : List Val) (holds : List Val → Type 0) {run : List Event} →
    length start ≡ s.objects → Core s run → Lawful s start holds run → holds start → (es more : List Event) →
    more ++ es ≡ run → holds (map_after start (history s start (will_of s run) run es))
lawful_from s start holds {run = run} long core law h es more q =
    histories.lawful_from (commits_at s (will_of s run)) (entry_at s start run) start run holds entry h es more q
  where
    entry : (d : Event) (es more : List Event) → more ++ d ∷ es ≡ run → commits_at s (will_of s run) d es ≡ true →
        holds (map_after start (history s start (will_of s run) run es)) →
        holds (with_writes (map_after start (history s start (will_of s run) run es))
        (entry_of s start run (local s es d.caller)).writes)
    entry d es more q is =
        let two = and_parts (is_draw d.kind) (will_of s run (own_attempt s (local s es d.caller))) is in
        let keeps : Lawful s start holds es =
        (lawful_past s start holds more (d ∷ es) (subst (Lawful s start holds) (sym q) law)).0 in
        subst (λ r. is_draw d.kind ≡ true → will_of s r (own_attempt s (local s es d.caller)) ≡ true →
        holds (map_after start (history s start (will_of s r) r es)) →
        holds (with_writes (map_after start (history s start (will_of s r) r es))
        (entry_of s start r (local s es d.caller)).writes)) q
        (law_entry s start holds es d more long (subst (Core s) (sym q) core) keeps) two.0 two.1
