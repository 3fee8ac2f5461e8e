-- A sight agrees with the prefix of the history at its place.
use Rattle.std.proofs.Common.{◌++◌, ◌∙◌, ◌∷◌, ◌≡◌, ◌≢◌, ◌⊎◌, List, None, Option, Some, [], ap, append_assoc, arith, false, is_some, length, refl, subst, sym, true, ℕ}
use Rattle.dstm_core.proofs.Base.{Agrees, Core, Event, StatusWord, Val, at, entry_of, eq-eqb, eqb-true, given, history, local, ne_eqb, own_attempt, pass_place, place, will_of, word}
use Rattle.dstm_opacity.proofs.Base.{LookSelf, Outside, Running, Shape}
use Rattle.dstm_core.proofs.Columns.{own_in}
use Rattle.dstm_core.proofs.Static.{static}
use Rattle.dstm_core.proofs.Pasts.{core_before, core_past}
use Rattle.dstm_core.proofs.Statuses.{finished_stays}
use Rattle.dstm_opacity.proofs.Current.{Foretells}
use Rattle.dstm_opacity.proofs.LastPass.{look_self_may, pass_agreed}
use Rattle.dstm_opacity.proofs.Numbers.{foretells_before, pass_past}
use Rattle.dstm_opacity.proofs.Passes.{passes}
use Rattle.dstm_machines.proofs.Orders.{map_after}
use Rattle.dstm_opacity.proofs.States.{agrees_state, old_current}

-- the statuses in the end tell which attempts commit
pub foretold : (s : Shape) (run : List Event) → Foretells s (will_of s run) run
foretold s run =
    record {
      yes = λ a lt h. eq-eqb (word s run (StatusWord a)) 4 h;
      none = λ a lt h. ne_eqb
          (word s run (StatusWord a)) 4 (λ z. omega arith);
    }

-- an attempt that commits is committed in the end
pub will_is : (s : Shape) (run : List Event) (a : ℕ) → will_of s run a ≡ true → word s run (StatusWord a) ≡ 4
will_is s run a h = eqb-true (word s run (StatusWord a)) 4 h

-- the state after the prefix at a sight's place has every value that the sight covers
pub pass_agrees : (s : Shape) (start : List Val) (more es : List Event) (e : Event) → length start ≡ s.objects →
    Core s (more ++ e ∷ es) → e.kind ≡ LookSelf → e.found ≡ given (local s es e.caller).phase → Agrees (map_after start
    (history s start (will_of s (more ++ e ∷ es)) (more ++ e ∷ es) (pass_place e.caller es)))
    (entry_of s start (more ++ e ∷ es) (local s es e.caller)).reads
pass_agrees s start more es e long core k w = go (local s es e.caller).pass refl
  where
    run : List Event
    run = more ++ e ∷ es

    core_e : Core s (e ∷ es)
    core_e = core_past s more (e ∷ es) core

    f_es : Foretells s (will_of s (more ++ e ∷ es)) es
    f_es = foretells_before es
        (record { later = more ++ e ∷ []; whole = append_assoc more (e ∷ []) es }) core (foretold s (more ++ e ∷ es))

    may : ((local s es e.caller).phase ≡ Running) × ((local s es e.caller).stale ≡ false)
        × (is_some (local s es e.caller).pass ≡ true)
        × (((local s es e.caller).checked ≡ length (local s es e.caller).reads)
        ⊎ ((local s es e.caller).last_pass ≡ (local s es e.caller).pass))
        × (e.place ≡ place s (StatusWord (own_attempt s (local s es e.caller))))
    may = look_self_may s (local s es e.caller) e e.kind k core_e.1.allowed

    out : (local s es e.caller).phase ≢ Outside
    out = λ z. let y = may.0 in cc

    core_q : Core s (pass_place e.caller es)
    core_q = core_before s (pass_place e.caller es) es (pass_past e.caller es) core_e.0

    live : word s (pass_place e.caller es) (StatusWord (own_attempt s (local s es e.caller))) ≡ 5 → ⊥
    live z = let p = pass_past e.caller es in
        let a_in = own_in s e.caller (local s es e.caller) (static s es core_e.0 e.caller) core_e.1.caller out in
        let same = finished_stays s p.later (pass_place e.caller es) (own_attempt s (local s es e.caller))
        (subst (Core s) (sym p.whole) core_e.0) a_in (omega arith) in
        let now : word s es (StatusWord (own_attempt s (local s es e.caller))) ≡ 5 =
        subst (λ xs. word s xs (StatusWord (own_attempt s (local s es e.caller))) ≡ 5) p.whole (same ∙ z) in
        let found : e.found ≡ 5 = core_e.1.linked ∙ ap (at es) may.4 ∙ now in
        let g : given (local s es e.caller).phase ≡ 1 = ap given may.0 in omega arith

    go : (m : Option ℕ) → (local s es e.caller).pass ≡ m →
        Agrees (map_after start
        (history s start (will_of s (more ++ e ∷ es)) (more ++ e ∷ es) (pass_place e.caller es)))
        (entry_of s start (more ++ e ∷ es) (local s es e.caller)).reads
    go None q = let y = may.2 in absurd (cc)
    go (Some n) q = let has = (passes core_e.0 f_es e.caller).1 n may.0 q in
        agrees_state s start (will_of s (more ++ e ∷ es)) (more ++ e ∷ es) (pass_place e.caller es)
        (pass_place e.caller es) (own_attempt s (local s es e.caller)) (local s es e.caller) long has.named has.writes
        (pass_agreed has q may.1 may.3) (old_current
        (own_attempt s (local s es e.caller)) (local s es e.caller).writes core_q
        (foretells_before (pass_place e.caller es) (pass_past e.caller es) core_e.0 f_es) has.undrawn live has.writes)
