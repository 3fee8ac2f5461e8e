-- The history of a core run is legal.
use Rattle.std.proofs.Common.{◌++◌, ◌∙◌, ◌∷◌, ◌≡◌, ◌≢◌, List, [], ap, append_assoc, false, length, refl, subst, sym, true}
use Rattle.dstm_core.proofs.Base.{Agrees, Core, Event, IsPastOf, StatusWord, Val, and_parts, commits_at, drawn, entry_at, entry_of, history, is_draw, local, own_attempt, will_of, word}
use Rattle.dstm_opacity.proofs.Base.{Outside, Shape, Validating}
use Rattle.dstm_core.proofs.Columns.{own_in}
use Rattle.dstm_core.proofs.Static.{static}
use Rattle.dstm_core.proofs.Pasts.{core_past}
use Rattle.dstm_machines.proofs.Histories.{legal_from}
use Rattle.dstm_machines.proofs.Orders.{Legal, map_after}
use Rattle.dstm_opacity.proofs.Current.{Foretells}
use Rattle.dstm_opacity.proofs.Draws.{draw_may, drawn_phase, is_drawn}
use Rattle.dstm_opacity.proofs.Numbers.{foretells_before}
use Rattle.dstm_opacity.proofs.Recorded.{reads}
use Rattle.dstm_opacity.proofs.Sights.{foretold}
use Rattle.dstm_opacity.proofs.SinceDraw.{draw_agreed}
use Rattle.dstm_opacity.proofs.States.{agrees_state, old_current}
use Rattle.dstm_opacity.proofs.Written.{WritesOk, written}

-- what an attempt has written at its draw is as it was found
pub draws_ok : (s : Shape) (es : List Event) (d : Event) → Core s (d ∷ es) → is_draw d.kind ≡ true →
    WritesOk s es (own_attempt s (local s es d.caller)) (local s es d.caller).writes
draws_ok s es d core k = written s es core.0 d.caller core.1.caller
    (λ z. let v = draw_may s (local s es d.caller) d d.kind k core.1.allowed in cc)

-- an entry agrees with the state at its draw
pub legal_entry : (s : Shape) (start : List Val) (es : List Event) (d : Event) (more : List Event) →
    length start ≡ s.objects → Core s (more ++ d ∷ es) → is_draw d.kind ≡ true →
    will_of s (more ++ d ∷ es) (own_attempt s (local s es d.caller)) ≡ true →
    Agrees (map_after start (history s start (will_of s (more ++ d ∷ es)) (more ++ d ∷ es) es))
    (entry_of s start (more ++ d ∷ es) (local s es d.caller)).reads
unfolding is_drawn
legal_entry s start es d more long core k w =
    agrees_state s start (will_of s (more ++ d ∷ es)) (more ++ d ∷ es) es es
    (own_attempt s (local s es d.caller)) (local s es d.caller) long (reads s es core_d.0 d.caller) ok
    (draw_agreed s es d more core k w) (old_current (own_attempt s (local s es d.caller))
    (local s es d.caller).writes core_d.0 told undrawn live ok)
  where
    core_d : Core s (d ∷ es)
    core_d = core_past s more (d ∷ es) core

    v : (local s es d.caller).phase ≡ Validating
    v = draw_may s (local s es d.caller) d d.kind k core_d.1.allowed

    out : (local s es d.caller).phase ≢ Outside
    out = λ z. let y = v in cc

    ok : WritesOk s es (own_attempt s (local s es d.caller)) (local s es d.caller).writes
    ok = draws_ok s es d core_d k

    undrawn : drawn s es (own_attempt s (local s es d.caller)) ≡ false
    undrawn = drawn_phase s es core_d.0 d.caller core_d.1.caller out ∙ ap is_drawn v

    past : IsPastOf es (more ++ d ∷ es)
    past = record { later = more ++ d ∷ []; whole = append_assoc more (d ∷ []) es }

    told : Foretells s (will_of s (more ++ d ∷ es)) es
    told = foretells_before es past core
        (foretold s (more ++ d ∷ es))

    live : word s es (StatusWord (own_attempt s (local s es d.caller))) ≡ 5 → ⊥
    live z = let n = told.none (own_attempt s (local s es d.caller))
        (own_in s d.caller (local s es d.caller) (static s es core_d.0 d.caller) core_d.1.caller out) z in cc

-- so the whole history is legal
pub committed_legal : (s : Shape) (start : List Val) (run : List Event) → length start ≡ s.objects →
    Core s run → Legal start (history s start (will_of s run) run run)
committed_legal s start run long core =
    legal_from (commits_at s (will_of s run)) (entry_at s start run) start run entry run [] refl
  where
    entry : (d : Event) (es more : List Event) → more ++ d ∷ es ≡ run → commits_at s (will_of s run) d es ≡ true →
        Agrees (map_after start (history s start (will_of s run) run es))
        (entry_of s start run (local s es d.caller)).reads
    entry d es more q h =
        let two = and_parts (is_draw d.kind) (will_of s run (own_attempt s (local s es d.caller))) h in
        subst (λ r. is_draw d.kind ≡ true → will_of s r (own_attempt s (local s es d.caller)) ≡ true →
        Agrees (map_after start (history s start (will_of s r) r es))
        (entry_of s start r (local s es d.caller)).reads) q
        (legal_entry s start es d more long (subst (Core s) (sym q) core)) two.0 two.1
