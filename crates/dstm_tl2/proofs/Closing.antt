-- What the laws say, from the lemmas.
use Rattle.std.proofs.Common.{◌≡◌, ◌<◌, ◌*◌, ◌⊎◌, ◌∷◌, ◌++◌, ◌∙◌, ℕ, inl, inr, List, [], refl, ap, arith, append_assoc, sym, subst, true, Bool, Some, reverse}
use Rattle.std.specs.List.{Contains}
use Rattle.dstm_tl2.proofs.Base.{Agrees, Entry, Event, LawfulRun, LockWord, Read, Run, Table, Val, and_from, commits_at, entry_at, entry_of, history, history_of, is_draw, is_valid, local, objects, or_writes, prefix_at, read_values, sample_place, state_after, tl2, value_at, will_of, word, writes_of}
use Rattle.dstm_machines.proofs.Runs as runs
use Rattle.dstm_tl2.specs.Laws.{IsSeen, IsSerial, Tells}
use Rattle.dstm_tl2.proofs.Clock.{Draws, NoDraw, clock_step}
use Rattle.dstm_machines.proofs.Gathered.{told_next}
use Rattle.dstm_tl2.proofs.Commits.{valid_stands}
use Rattle.dstm_tl2.proofs.Foretelling.{told, valid_will, will_more}
use Rattle.dstm_tl2.proofs.Legal.{committed_legal, lawful_from, lawful_past, state_is}
use Rattle.dstm_tl2.proofs.Looks.{Seen, sample_at}
use Rattle.dstm_tl2.proofs.Orders.{entries_once}
use Rattle.dstm_tl2.proofs.Sampled.{seen_by}
use Rattle.dstm_tl2.proofs.Stands.{Stands, Told, stands}
use Rattle.dstm_tl2.proofs.Stands.Stands.{free, waits, commits}
use Rattle.dstm_tl2.proofs.Static.{static}
use Rattle.dstm_tl2.proofs.Versions.{clock_more, state}

seen_agrees : (t : Table) (will : ℕ → Bool) (p : List Event) (rs : List Read) → Seen t will p rs →
    Agrees (state t will p) (read_values rs)
seen_agrees t will p [] s = tt
seen_agrees t will p (r ∷ rs) s = (s.1, seen_agrees t will p rs s.2)

pub sample_agrees : (t : Table) (holds : List Val → Type 0) (later before : List Event) (c : ℕ) →
    LawfulRun t holds (later ++ before) →
    IsSeen t holds before c (prefix_at t (later ++ before) (sample_place c before))
sample_agrees t holds later before c is = record {
  values = subst (λ m. Agrees m (read_values (local t before c).reads)) (sym here)
      (seen_agrees t (will_of t (later ++ before)) (sample_place c before) (local t before c).reads
      (seen_by t (will_of t (later ++ before)) before run tell c).seen);
  lawful = λ h. subst holds (sym here)
      (lawful_from t holds is.run is.law h (sample_place c before)
      (later ++ (sample_at t before c run).past.later) (append_assoc later (sample_at t before c run).past.later
      (sample_place c before) ∙ ap (λ es. later ++ es) (sample_at t before c run).past.whole));
  commits = λ between early x place v.
      subst (λ es. Contains (reverse (history t (will_of t (later ++ before)) es))
      (entry_of (local t early x) (or_writes (local t early x).writes))) (sym place)
      (valid_stands t early between x is.run (record {
        later = later ++ (sample_at t before c run).past.later;
        whole = ap (λ es. (later ++ (sample_at t before c run).past.later) ++ es) (sym place)
            ∙ append_assoc later (sample_at t before c run).past.later (sample_place c before)
            ∙ ap (λ es. later ++ es) (sample_at t before c run).past.whole;
      }) v);
}
  where
    run : Run t before
    run = runs.run_past tl2 t later before is.run

    tell : Told t (will_of t (later ++ before)) before
    tell = told t (later ++ before) before later is.run refl

    here : state_after t.start (prefix_at t (later ++ before) (sample_place c before)) ≡ state t
        (will_of t (later ++ before)) (sample_place c before)
    here = state_is t (will_of t (later ++ before)) (sample_place c before)

-- an object that is free has the value of the state
pub current : (t : Table) (run : List Event) (o version : ℕ) → Run t run → o < objects t →
    word t run (LockWord o) ≡ 2 * version → Tells t run o (value_at (state_after t.start (history_of t run)) o)
current t run o version r b q =
    subst (λ m. Tells t run o (value_at m o)) (sym (state_is t (will_of t run) run))
    (go (stands t (will_of t run) run r (told t run run [] r refl) o b))
  where
    go : Stands t (will_of t run) run o → Tells t run o (value_at (state t (will_of t run) run) o)
    go (free g) = g.tells
    go (waits c h held w) =
        let k = ((static t run r c).locks o h held.holds).readable in
        let even : h.word ≡ 2 * k.0 = k.1 in let l = held.lock in absurd (omega arith)
    go (commits c h n held w) =
        let k = ((static t run r c).locks o h held.holds).readable in
        let even : h.word ≡ 2 * k.0 = k.1 in let l = held.lock in absurd (omega arith)

pub numbers_rise : (t : Table) (between before : List Event) (early late : Event) →
    Run t (late ∷ (between ++ early ∷ before)) → is_draw early.kind ≡ true → is_draw late.kind ≡ true →
    early.found < late.found
numbers_rise t between before early late run one other =
    go (clock_step t before early first.1) (clock_step t (between ++ early ∷ before) late run.1)
  where
    first : Run t (early ∷ before)
    first = runs.run_past tl2 t between (early ∷ before) run.0

    go : Draws t before early early.kind ⊎ NoDraw t before early early.kind →
        Draws t (between ++ early ∷ before) late late.kind ⊎ NoDraw t (between ++ early ∷ before) late late.kind →
        early.found < late.found
    go (inr x) y = absurd (let z = x.kind in cc)
    go (inl x) (inr y) = absurd (let z = y.kind in cc)
    go (inl x) (inl y) =
        let a = x.found in let b = x.rises in let c = y.found in
        let d = clock_more t between (early ∷ before) run.0 in omega arith

-- the history is one of one thread
pub serial : (t : Table) (run : List Event) → Run t run → IsSerial t (history_of t run)
serial t run r = record {
  legal = committed_legal t run r;
  entries = entries_once t (will_of t run) run r (told t run run [] r refl);
}

-- an attempt that is valid has its entry right after the prefix at its draw
pub commit_stands : (t : Table) (later between before : List Event) (d : Event) →
    Run t (later ++ (between ++ d ∷ before)) → is_draw d.kind ≡ true →
    is_valid (local t (between ++ d ∷ before) d.caller) ≡ true →
    (local t (between ++ d ∷ before) d.caller).drawn ≡ Some d.found → (rest : List Entry)
    × (history_of t (later ++ (between ++ d ∷ before)) ≡ prefix_at t (later ++ (between ++ d ∷ before)) before
    ++ entry_of (local t before d.caller) (writes_of d.kind) ∷ rest)
commit_stands t later between before d run k v q =
    subst (λ es. (rest : List Entry)
    × (reverse (history t will es) ≡ reverse (history t will before)
    ++ entry_of (local t before d.caller) (writes_of d.kind) ∷ rest)) (append_assoc later between (d ∷ before))
    (told_next (commits_at will) (entry_at t) (later ++ between) d before
    (and_from (is_draw d.kind) (will d.found) k sure))
  where
    will : ℕ → Bool
    will = will_of t (later ++ (between ++ d ∷ before))

    sure : will_of t (later ++ (between ++ d ∷ before)) d.found ≡ true
    sure = will_more t later (between ++ d ∷ before) d.found
        (valid_will t (between ++ d ∷ before) d.caller d.found q v)

-- a prefix of a run is one
pub run_past : {t : Table} {holds : List Val → Type 0} (more es : List Event) → LawfulRun t holds (more ++ es) →
    LawfulRun t holds es
run_past {t = t} {holds = holds} more es r =
    record { run = runs.run_past tl2 t more es r.run; law = lawful_past t holds more es r.law }
