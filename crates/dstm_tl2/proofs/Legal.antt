-- The history is legal, and keeps the law.
use Rattle.std.proofs.lemmas.List.Elements.{All-head, All-tail}
use Rattle.std.proofs.Common.{◌≡◌, ◌<◌, ◌*◌, ◌⊎◌, ◌∷◌, ◌++◌, ◌∙◌, ℕ, inl, inr, List, [], refl, ap, arith, append_assoc, sym, subst, true, false, Bool, Option, Some, None, is_some, reverse}
use Rattle.std.specs.Prelude.{is_none}
use Rattle.dstm_tl2.proofs.Base.{Agrees, AllowedAs, Draw, DrawsLawfully, Event, Hold, IsLegal, Kind, Lawful, LocalState, Read, Run, Table, Val, and_parts, cases_eq, commits_at, entry_at, eq-eqb, history, hold_of, is_draw, local, ne_eqb, objects, read_of, read_values, recorded, sample_place, state_after, tl2, unwritten, value_at, will_of, with_writes, write_of, writes_of}
use Rattle.dstm_machines.proofs.Histories as histories
use Rattle.dstm_machines.proofs.Histories.{legal_from}
use Rattle.dstm_machines.proofs.Orders.{legal_reversed, state_reversed}
use Rattle.dstm_machines.proofs.Runs as runs
use Rattle.dstm_machines.proofs.Runs.{each_past}
use Rattle.dstm_tl2.proofs.Foretelling.{told}
use Rattle.dstm_tl2.proofs.Holds.{hold_value}
use Rattle.dstm_tl2.proofs.Looks.{Seen, sample_at}
use Rattle.dstm_tl2.proofs.Sampled.{seen_by}
use Rattle.dstm_tl2.proofs.SinceDraw.{Current, AllCurrent, draw_current}
use Rattle.dstm_tl2.proofs.Stands.{Stands, Told, draw_holds, stands}
use Rattle.dstm_tl2.proofs.Stands.Stands.{free, waits, commits}
use Rattle.dstm_tl2.proofs.Static.{ReadOk, ReadsOk, static}
use Rattle.dstm_tl2.proofs.Versions.{state, state_length, unchanged, version_at, version_below}

-- ---- an entry agrees with the state at its draw

draw_undrawn : (t : Table) (l : LocalState) (e : Event) (k : Kind) → is_draw k ≡ true → AllowedAs k t l e →
    l.drawn ≡ None
draw_undrawn t l e (Draw w) d a = a.2.2
draw_undrawn t l e k d a = absurd (cc)

seen_recorded : (t : Table) (will : ℕ → Bool) (p : List Event) (rs : List Read) (o : ℕ) → Seen t will p rs →
    is_some (read_of o rs) ≡ true → recorded o rs ≡ 2 * version_at will p o
seen_recorded t will p [] o s i = absurd (cc)
seen_recorded t will p (r ∷ rs) o s i = elim (cases_eq r.object o) [
  | inl q ↦ rw (recorded, eq-eqb r.object o q) (s.0 ∙ ap (λ o. 2 * version_at will p o) q)
  | inr q ↦ rw (recorded, ne_eqb r.object o q) (seen_recorded t will p rs o s.2 (rw (ne_eqb r.object o q) at i))
]

held_some : (x : Option Hold) (v : Val) → hold_value x ≡ Some v → (h : Hold) × (x ≡ Some h)
held_some None v q = absurd (cc)
held_some (Some h) v q = (h, refl)

module _ (t : Table) (will : ℕ → Bool) (q : List Event) (d : Event) (run : Run t (d ∷ q)) (tell : Told t will q)
    (is : is_draw d.kind ≡ true) where
  abbrev l : LocalState
  l = local t q d.caller

  abbrev place : List Event
  place = sample_place d.caller q

  -- an object that it writes has at the draw the version that its Sample sees
  written : (o : ℕ) (v : Val) → o < objects t → write_of o (writes_of d.kind) ≡ Some v →
      version_at will q o ≡ version_at will place o
  written o v b w = go held.0 held.1 (stands t will q run.0 tell o b)
    where
      held : (h : Hold) × (hold_of o l.holds ≡ Some h)
      held = held_some (hold_of o l.holds) v
          (draw_holds t l d d.kind o (static t q run.0 d.caller) is run.1.allowed ∙ w)

      same : (h : Hold) → hold_of o l.holds ≡ Some h → h.word ≡ 2 * version_at will q o →
          version_at will q o ≡ version_at will place o
      same h k version =
          let ok = (static t q run.0 d.caller).locks o h k in
          let word = ok.word in
          let seen = seen_recorded t will place l.reads o (seen_by t will q run.0 tell d.caller).seen ok.read in
          omega arith

      go : (h : Hold) → hold_of o l.holds ≡ Some h → Stands t will q o → version_at will q o ≡ version_at will place o
      go h k (free g) = absurd (let n = g.nobody d.caller in cc)
      go h k (waits c j held x) = elim (cases_eq d.caller c) [
        | inl z ↦
            let same_hold : Some h ≡ Some j = sym k ∙ ap (λ c. hold_of o (local t q c).holds) z ∙ held.holds in
            same h k (ap (λ (h : Hold). h.word) (let y : h ≡ j = cc in y) ∙ x.version)
        | inr z ↦ absurd (let n = held.others d.caller z in cc)
      ]
      go h k (commits c j n held x) = absurd (by (cases_eq d.caller c))
        where
          by : (d.caller ≡ c) ⊎ (d.caller ≡ c → ⊥) → ⊥
          by (inl z) =
              let none : (local t q c).drawn ≡ None =
              subst (λ c. (local t q c).drawn ≡ None) z (draw_undrawn t l d d.kind is run.1.allowed) in
              let some = x.drawn in cc
          by (inr z) = let n = held.others d.caller z in cc

  -- what it saw at its Sample stands at the draw, where the version is the same
  stays : (o : ℕ) → o < objects t → version_at will q o ≡ version_at will place o →
      value_at (state t will q) o ≡ value_at (state t will place) o
  stays o b same =
      let s = sample_at t q d.caller run.0 in
      let low = version_below t will place o
      (runs.run_past tl2 t s.past.later place (subst (Run t) (sym s.past.whole) run.0)) b in
      sym (unchanged t will o s.past run.0 b (omega arith)).value

  agrees_from : (rs : List Read) → Seen t will place rs → ReadsOk t l.sample rs →
      AllCurrent will q (unwritten (writes_of d.kind) rs) → Agrees (state t will q) (read_values rs)
  agrees_from [] s ok cur = tt
  agrees_from (r ∷ rs) s ok cur =
      by (write_of r.object (writes_of d.kind)) refl (λ x. agrees_from rs s.2 (All-tail (ReadOk t l.sample) r rs ok) x)
    where
      within : r.object < objects t
      within = (All-head (ReadOk t l.sample) r rs ok).0

      by : (w : Option Val) → write_of r.object (writes_of d.kind) ≡ w →
          (AllCurrent will q (unwritten (writes_of d.kind) rs) → Agrees (state t will q) (read_values rs)) →
          Agrees (state t will q) (read_values (r ∷ rs))
      by None w rest =
          let test : is_none (write_of r.object (writes_of d.kind)) ≡ true = ap is_none w in
          let now : AllCurrent will q (r ∷ unwritten (writes_of d.kind) rs) = rw test at cur in
          let one = All-head (Current will q) r (unwritten (writes_of d.kind) rs) now in let two = s.0 in (
            stays r.object within (omega arith) ∙ s.1,
            rest (All-tail (Current will q) r (unwritten (writes_of d.kind) rs) now),
          )
      by (Some v) w rest =
          let test : is_none (write_of r.object (writes_of d.kind)) ≡ false = ap is_none w in
          let now : AllCurrent will q (unwritten (writes_of d.kind) rs) = rw test at cur in
          (stays r.object within (written r.object v within w) ∙ s.1, rest now)

  pub agrees_draw : AllCurrent will q (unwritten (writes_of d.kind) l.reads) →
      Agrees (state t will q) (read_values l.reads)
  agrees_draw cur = agrees_from l.reads (seen_by t will q run.0 tell d.caller).seen (static t q run.0 d.caller).read cur

-- an entry of a history agrees with the state before it
pub entry_agrees : (t : Table) (q : List Event) (d : Event) (more : List Event) → Run t (more ++ d ∷ q) →
    is_draw d.kind ≡ true → will_of t (more ++ d ∷ q) d.found ≡ true →
    Agrees (state t (will_of t (more ++ d ∷ q)) q) (read_values (local t q d.caller).reads)
entry_agrees t q d more run is w =
    agrees_draw t (will_of t (more ++ d ∷ q)) q d (runs.run_past tl2 t more (d ∷ q) run)
    (told t (more ++ d ∷ q) q (more ++ d ∷ []) run (append_assoc more (d ∷ []) q)) is
    (draw_current t (will_of t (more ++ d ∷ q)) q d more run (told t (more ++ d ∷ q) (more ++ d ∷ q) [] run refl) is w)

-- the state after the entries of a history
pub state_is : (t : Table) (will : ℕ → Bool) (es : List Event) →
    state_after t.start (reverse (history t will es)) ≡ state t will es
state_is t will es = state_reversed t.start (history t will es)

-- so the whole history is legal
pub committed_legal : (t : Table) (run : List Event) → Run t run →
    IsLegal t.start (reverse (history t (will_of t run) run))
committed_legal t run r =
    legal_reversed t.start (history t (will_of t run) run)
    (legal_from (commits_at (will_of t run)) (entry_at t) t.start run entry run [] refl)
  where
    entry : (d : Event) (es more : List Event) → more ++ d ∷ es ≡ run → commits_at (will_of t run) d es ≡ true →
        Agrees (state t (will_of t run) es) (read_values (local t es d.caller).reads)
    entry d es more q h =
        let two = and_parts (is_draw d.kind) (will_of t run d.found) h in
        subst (λ run. is_draw d.kind ≡ true → will_of t run d.found ≡ true →
        Agrees (state t (will_of t run) es) (read_values (local t es d.caller).reads)) q
        (entry_agrees t es d more (subst (Run t) (sym q) r)) two.0 two.1

-- ---- the law

pub lawful_past : (t : Table) (holds : List Val → Type 0) (more es : List Event) → Lawful t holds (more ++ es) →
    Lawful t holds es
lawful_past t holds more es l = each_past (DrawsLawfully t holds) more es l

-- the state after the draws of every past of a run is lawful
pub lawful_from : (t : Table) (holds : List Val → Type 0) {run : List Event} → Run t run → Lawful t holds run →
    holds t.start → (es more : List Event) → more ++ es ≡ run → holds (state t (will_of t run) es)
lawful_from t holds {run = run} r law h es more q =
    histories.lawful_from (commits_at (will_of t run)) (entry_at t) t.start run holds keeps h es more q
  where
    keeps : (d : Event) (es more : List Event) → more ++ d ∷ es ≡ run → commits_at (will_of t run) d es ≡ true →
        holds (state t (will_of t run) es) → holds (with_writes (state t (will_of t run) es) (writes_of d.kind))
    keeps d es more q is before =
        let two = and_parts (is_draw d.kind) (will_of t run d.found) is in
        let now : Lawful t holds (d ∷ es) = lawful_past t holds more (d ∷ es) (subst (Lawful t holds) (sym q) law) in
        now.1 two.0 (state t (will_of t run) es) (state_length t (will_of t run) es) before (subst
        (λ run. is_draw d.kind ≡ true → will_of t run d.found ≡ true →
        Agrees (state t (will_of t run) es) (read_values (local t es d.caller).reads)) q
        (entry_agrees t es d more (subst (Run t) (sym q) r)) two.0 two.1)
