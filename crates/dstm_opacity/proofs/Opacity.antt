-- What the laws say, from the lemmas: histories with their oldest entry first.
use Rattle.std.proofs.Common.{◌*◌, ◌++◌, ◌<◌, ◌∙◌, ◌∷◌, ◌≡◌, ◌≢◌, ◌⊎◌, List, None, Option, Some, [], ap, append_assoc, false, is_some, length, refl, subst, sym, true, ℕ}
use Rattle.dstm_core.proofs.Base.{Agrees, Core, CoreRun, Entry, Event, Installs, IsPastOf, IsSight, StatusWord, Val, and_from, commits_at, entry_at, entry_of, eq-eqb, history, history_of, is_draw, local, own_attempt, pass_place, place, prefix_at, seen, state_after, value_at, will_of, word}
use Rattle.dstm_opacity.proofs.Base.{Draw, Outside, Running, Shape}
use Rattle.dstm_core.proofs.Basic.{install_may}
use Rattle.dstm_core.proofs.Columns.{own_in}
use Rattle.dstm_core.proofs.Static.{static}
use Rattle.dstm_core.proofs.Pasts.{core_past}
use Rattle.dstm_opacity.proofs.Closing.{closing}
use Rattle.dstm_opacity.proofs.Commits.{commits_held}
use Rattle.dstm_opacity.proofs.Draws.{committed_drawn, drawn_phase, is_drawn}
use Rattle.dstm_opacity.proofs.Entries.{entries_once}
use Rattle.dstm_opacity.proofs.LastPass.{look_self_may}
use Rattle.dstm_opacity.proofs.LawfulStates.{lawful_from}
use Rattle.dstm_opacity.proofs.Legal.{committed_legal}
use Rattle.dstm_machines.proofs.Gathered.{told_next, told_prefix}
use Rattle.dstm_machines.proofs.Histories as histories
use Rattle.dstm_machines.proofs.Orders.{legal_reversed, map_after, state_length, state_reversed}
use Rattle.dstm_machines.proofs.Pasts.{past_past}
use Rattle.dstm_opacity.proofs.Numbers.{pass_past}
use Rattle.dstm_opacity.proofs.Sights.{pass_agrees}
use Rattle.dstm_opacity.proofs.Writers.{writers_in_draw_order}
use Rattle.dstm_opacity.specs.Example.{run, start}
use Rattle.dstm_opacity.specs.Laws.{HasCommitted, IsCurrent, IsEarlier, IsSeen, IsSerial, maker_of}

-- the map after the prefix at a place
prefix_state : (s : Shape) (start : List Val) (run es : List Event) →
    state_after start (prefix_at s start run es) ≡ map_after start (history s start (will_of s run) run es)
prefix_state s start run es = state_reversed start (history s start (will_of s run) run es)

-- what a sight covers
pub sight_is_seen : (s : Shape) (start : List Val) (holds : List Val → Type 0) (more es : List Event)
    (e : Event) → CoreRun s start holds (more ++ e ∷ es) → IsSight s es e →
    IsSeen s start holds (more ++ e ∷ es) es e.caller (prefix_at s start (more ++ e ∷ es) (pass_place e.caller es))
sight_is_seen s start holds more es e r i = go (local s es e.caller).pass refl
  where
    past : IsPastOf es (more ++ e ∷ es)
    past = record { later = more ++ e ∷ []; whole = append_assoc more (e ∷ []) es }

    at_place : IsPastOf (pass_place e.caller es) (more ++ e ∷ es)
    at_place = past_past (pass_place e.caller es) es (more ++ e ∷ es) (pass_past e.caller es)
        (record { later = more ++ e ∷ []; whole = append_assoc more (e ∷ []) es })

    may : ((local s es e.caller).phase ≡ Running) × ((local s es e.caller).stale ≡ false)
        × (is_some (local s es e.caller).pass ≡ true)
        × (((local s es e.caller).checked ≡ length (local s es e.caller).reads)
        ⊎ ((local s es e.caller).last_pass ≡ (local s es e.caller).pass))
        × (e.place ≡ place s (StatusWord (own_attempt s (local s es e.caller))))
    may = look_self_may s (local s es e.caller) e e.kind i.kind (core_past s more (e ∷ es) r.core).1.allowed

    state : state_after start (prefix_at s start (more ++ e ∷ es) (pass_place e.caller es))
        ≡ map_after start (history s start (will_of s (more ++ e ∷ es)) (more ++ e ∷ es) (pass_place e.caller es))
    state = prefix_state s start (more ++ e ∷ es) (pass_place e.caller es)

    go : (p : Option ℕ) → (local s es e.caller).pass ≡ p →
        IsSeen s start holds (more ++ e ∷ es) es e.caller (prefix_at s start (more ++ e ∷ es) (pass_place e.caller es))
    go None q = let y = may.2 in absurd (cc)
    go (Some n) q = record {
      values = subst (λ m. Agrees m (seen s start (more ++ e ∷ es) es e.caller)) (sym state)
          (pass_agrees s start more es e r.values r.core i.kind i.found);
      lawful = λ h. subst holds (sym state)
          (lawful_from s start holds r.values r.core r.law h (pass_place e.caller es) at_place.later at_place.whole);
      commits = commits_held s start (more ++ e ∷ es) es e.caller n r.core past may.0 q;
    }

-- the history
pub history_is_serial : (s : Shape) (start : List Val) (holds : List Val → Type 0) (run : List Event) →
    CoreRun s start holds run → IsSerial s start (history_of s start run)
history_is_serial s start holds run r = record {
  legal = legal_reversed start (history s start (will_of s run) run run)
      (committed_legal s start run r.values r.core);
  entries = entries_once s start (will_of s run) run run r.core;
}

-- each prefix of the history leaves a lawful map
pub prefix_is_lawful : (s : Shape) (start : List Val) (holds : List Val → Type 0) (run : List Event)
    (prefix rest : List Entry) → CoreRun s start holds run → history_of s start run ≡ prefix ++ rest →
    holds start → holds (state_after start prefix)
prefix_is_lawful s start holds run prefix rest r q h =
    histories.prefix_is_lawful (commits_at s (will_of s run)) (entry_at s start run) start run holds
    (λ es more whole. lawful_from s start holds r.values r.core r.law h es more whole) prefix rest q

-- the prefix at a place is one
pub place_prefix : (s : Shape) (start : List Val) (more es : List Event) →
    (rest : List Entry) × (history_of s start (more ++ es) ≡ prefix_at s start (more ++ es) es ++ rest)
place_prefix s start more es =
    told_prefix (commits_at s (will_of s (more ++ es))) (entry_at s start (more ++ es)) more es

-- an attempt that commits stands in the history
pub entry_stands : (s : Shape) (start : List Val) (more es : List Event) (d : Event) → d.kind ≡ Draw →
    HasCommitted s (more ++ d ∷ es) (maker_of s es d) → (rest : List Entry)
    × (history_of s start (more ++ d ∷ es)
    ≡ prefix_at s start (more ++ d ∷ es) es ++ entry_of s start (more ++ d ∷ es) (local s es d.caller) ∷ rest)
entry_stands s start more es d k done =
    told_next (commits_at s (will_of s (more ++ d ∷ es))) (entry_at s start (more ++ d ∷ es)) more d es
    (and_from (is_draw d.kind) (will_of s (more ++ d ∷ es) (own_attempt s (local s es d.caller))) (ap is_draw k)
    (eq-eqb _ 4 done))

-- the whole history leaves the current values
pub state_is_current : (s : Shape) (start : List Val) (holds : List Val → Type 0) (run : List Event) →
    CoreRun s start holds run → IsCurrent s start run (state_after start (history_of s start run))
state_is_current s start holds run r = record {
  objects = ap length (prefix_state s start run run)
      ∙ state_length (history s start (will_of s run) run run) start ∙ r.values;
  values = λ o lt. ap (λ m. value_at m o) (prefix_state s start run run)
      ∙ closing s start run o r.values r.core lt;
}

-- the order of writers
pub writer_is_earlier : (s : Shape) (later between es : List Event) {d e : Event} →
    Core s (later ++ e ∷ (between ++ d ∷ es)) → Installs d → Installs e → d.place ≡ e.place →
    HasCommitted s (later ++ e ∷ (between ++ d ∷ es)) (maker_of s es d) →
    IsEarlier s (between ++ d ∷ es) (maker_of s es d) (maker_of s (between ++ d ∷ es) e)
unfolding is_drawn
writer_is_earlier s later between es {d = d} {e = e} core i j same done = record {
  committed = committed;
  has_drawn = committed_drawn s (between ++ d ∷ es) core_e.0 (own_attempt s (local s es d.caller)) below committed;
  not_drawn = drawn_phase s (between ++ d ∷ es) core_e.0 e.caller core_e.1.caller out_e ∙ ap is_drawn running_e;
}
  where
    core_e : Core s (e ∷ (between ++ d ∷ es))
    core_e = core_past s later (e ∷ (between ++ d ∷ es)) core

    core_d : Core s (d ∷ es)
    core_d = core_past s between (d ∷ es) (core_past s later (e ∷ (between ++ d ∷ es)) core).0

    committed : word s (between ++ d ∷ es) (StatusWord (own_attempt s (local s es d.caller))) ≡ 4
    committed = writers_in_draw_order s later between es e d core j.kind j.succeeds i.kind i.succeeds (sym same) done

    out_d : (local s es d.caller).phase ≢ Outside
    out_d = λ z. let y = (install_may s (local s es d.caller) d i.kind core_d.1.allowed).0 in cc

    below : own_attempt s (local s es d.caller) < s.callers * s.attempts
    below = own_in s d.caller (local s es d.caller) (static s es core_d.0 d.caller) core_d.1.caller out_d

    running_e : (local s (between ++ d ∷ es) e.caller).phase ≡ Running
    running_e = (install_may s (local s (between ++ d ∷ es) e.caller) e j.kind core_e.1.allowed).0

    out_e : (local s (between ++ d ∷ es) e.caller).phase ≢ Outside
    out_e = λ z. let y = running_e in cc
