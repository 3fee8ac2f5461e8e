-- The prefix at a sight's place holds the entry of each Commit that stands before the attempt's Begin.
use Rattle.std.proofs.Common.{◌*◌, ◌++◌, ◌<◌, ◌∙◌, ◌∷◌, ◌≡◌, ◌≢◌, ◌⊎◌, Bool, List, Some, [], ap, append_assoc, arith, inl, inr, refl, subst, sym, true, ℕ, reverse}
use Rattle.dstm_core.proofs.Base.{AllowedAs, Core, Event, IsPastOf, LocalState, StatusWord, Val, after, and_from, commits_at, entry_at, entry_of, eq-eqb, history, is_draw, local, nat_tests, own_attempt, pass_place, place, prefix_at, will_of, word}
use Rattle.dstm_opacity.proofs.Base.{Check, Commit, Draw, Drawn, Kind, Outside, Quit, Running, Shape}
use Rattle.std.specs.List.{Contains}
use Rattle.dstm_core.proofs.Columns.{own_in}
use Rattle.dstm_core.proofs.Places.{put_at}
use Rattle.dstm_core.proofs.Static.{callers, static}
use Rattle.dstm_core.proofs.Statuses.{finished_stays}
use Rattle.dstm_opacity.proofs.Begins.{before_attempt, begun_before, pass_begun}
use Rattle.dstm_opacity.proofs.Draws.{commit_may}
use Rattle.dstm_opacity.proofs.KeptLaw.{entry_same}
use Rattle.dstm_machines.proofs.Gathered.{told_among}
use Rattle.dstm_core.proofs.Pasts.{core_before}
use Rattle.dstm_machines.proofs.Pasts.{past_more, past_past}
use Rattle.dstm_opacity.proofs.Numbers.{pass_past}
use Rattle.dstm_opacity.proofs.Passes.{check_after}
use Rattle.dstm_opacity.proofs.SinceDraw.{drawn_may}
use Rattle.dstm_opacity.specs.Laws.{HoldCommitsBefore, IsBeginOf, IsCommit}

-- the Draw of an attempt that has drawn and is under way, whose reads and writes have stayed since
pub record DrawOf (s : Shape) (es : List Event) (l : LocalState) : Type 0 where
  pub before : List Event
  pub draw : Event
  pub past : IsPastOf (draw ∷ before) es
  pub kind : is_draw draw.kind ≡ true
  pub reads : (local s before draw.caller).reads ≡ l.reads
  pub writes : (local s before draw.caller).writes ≡ l.writes
  pub own : own_attempt s (local s before draw.caller) ≡ own_attempt s l

-- the phase that says so comes of a Draw, or was there
pub drawn_back : (s : Shape) (l : LocalState) (e : Event) (k : Kind) → (after k s l e).phase ≡ Drawn →
    (k ≡ Draw) ⊎ (l.phase ≡ Drawn)
drawn_back s l e k h = grind (arith, nat_tests)

-- what keeps an attempt drawn is a Check
still_drawn : (s : Shape) (l : LocalState) (e : Event) (k : Kind) →
    (k ≡ Check) ⊎ ((k ≡ Commit) ⊎ (k ≡ Quit)) → (after k s l e).phase ≡ Drawn → k ≡ Check
still_drawn s l e k (inl q) h = q
still_drawn s l e Commit (inr q) h = absurd (cc)
still_drawn s l e Quit (inr q) h = absurd (cc)
still_drawn s l e k (inr (inl q)) h = absurd (cc)
still_drawn s l e k (inr (inr q)) h = absurd (cc)

draw_keeps : (s : Shape) (l : LocalState) (e : Event) {k : Kind} → k ≡ Draw →
    ((after k s l e).reads ≡ l.reads) × ((after k s l e).writes ≡ l.writes)
    × (own_attempt s (after k s l e) ≡ own_attempt s l) × (is_draw k ≡ true)
draw_keeps s l e {k = Draw} q = (refl, refl, refl, refl)
draw_keeps s l e q = absurd (cc)

-- an attempt that has drawn and is under way has its Draw in the run
pub draw_of : (s : Shape) (es : List Event) → Core s es → (c : ℕ) → (local s es c).phase ≡ Drawn →
    DrawOf s es (local s es c)
draw_of s [] core c h = absurd (cc)
draw_of s (e ∷ es) core c h =
    callers s es e (λ c l. l.phase ≡ Drawn → DrawOf s (e ∷ es) l)
    (λ h. at_own (drawn_back s (local s es e.caller) e e.kind h) h (λ q. draw_of s es core.0 e.caller q))
    (λ c d h. longer (local s es c) (draw_of s es core.0 c h)) c h
  where
    longer : (l : LocalState) → DrawOf s es l → DrawOf s (e ∷ es) l
    longer l d = record {
      before = d.before;
      draw = d.draw;
      past = past_more (d.draw ∷ d.before) es e d.past;
      kind = d.kind;
      reads = d.reads;
      writes = d.writes;
      own = d.own;
    }

    checked : DrawOf s es (local s es e.caller) → e.kind ≡ Check →
        DrawOf s (e ∷ es) (after e.kind s (local s es e.caller) e)
    checked d k =
        let x = check_after s (local s es e.caller) e k core.1.allowed in
        record {
          before = d.before;
          draw = d.draw;
          past = past_more (d.draw ∷ d.before) es e d.past;
          kind = d.kind;
          reads = d.reads ∙ sym x.2;
          writes = d.writes ∙ sym x.5;
          own = d.own ∙ sym x.6;
        }

    at_own : (e.kind ≡ Draw) ⊎ ((local s es e.caller).phase ≡ Drawn) →
        (after e.kind s (local s es e.caller) e).phase ≡ Drawn →
        ((local s es e.caller).phase ≡ Drawn → DrawOf s es (local s es e.caller)) →
        DrawOf s (e ∷ es) (after e.kind s (local s es e.caller) e)
    at_own (inl k) h ih =
        let x = draw_keeps s (local s es e.caller) e k in
        record {
          before = es;
          draw = e;
          past = record { later = []; whole = refl };
          kind = x.3;
          reads = sym x.0;
          writes = sym x.1;
          own = sym x.2;
        }
    at_own (inr q) h ih =
        let may = drawn_may s e.caller (local s es e.caller) e e.kind (static s es core.0 e.caller) q core.1.allowed in
        checked (ih q) (still_drawn s (local s es e.caller) e e.kind may h)

-- the entry of a Draw is in the prefixes of the history after it
pub in_prefix : (s : Shape) (start : List Val) (will : ℕ → Bool) (run before es : List Event) (d : Event) →
    IsPastOf (d ∷ before) es → is_draw d.kind ≡ true → will (own_attempt s (local s before d.caller)) ≡ true →
    Contains (reverse (history s start will run es)) (entry_of s start run (local s before d.caller))
in_prefix s start will run before es d p k w =
    subst (λ xs. Contains (reverse (history s start will run xs)) (entry_of s start run (local s before d.caller)))
    p.whole (told_among (commits_at s will) (entry_at s start run) p.later d before
    (and_from (is_draw d.kind) (will (own_attempt s (local s before d.caller))) k w))

-- a Commit that succeeds
commit_puts : (s : Shape) (l : LocalState) (e : Event) {k : Kind} → k ≡ Commit → e.found ≡ e.expected →
    AllowedAs k s l e → (e.place ≡ place s (StatusWord (own_attempt s l))) × (e.put ≡ 4)
commit_puts s l e {k = Commit} q h a = (a.0, a.1.1 ∙ rw (eq-eqb e.found 3 (h ∙ a.1.0)) refl)
commit_puts s l e q h a = absurd (cc)

committed_will : (s : Shape) (run es : List Event) {e : Event} → IsPastOf (e ∷ es) run → Core s run → IsCommit e →
    will_of s run (own_attempt s (local s es e.caller)) ≡ true
committed_will s run es {e = e} p core k = eq-eqb (word s run (StatusWord a)) 4 later
  where
    a : ℕ
    a = own_attempt s (local s es e.caller)

    core_e : Core s (e ∷ es)
    core_e = core_before s (e ∷ es) run p core

    out : (local s es e.caller).phase ≢ Outside
    out = λ z. let y = commit_may s (local s es e.caller) e k.kind core_e.1.allowed in cc

    below : own_attempt s (local s es e.caller) < s.callers * s.attempts
    below = own_in s e.caller (local s es e.caller) (static s es core_e.0 e.caller) core_e.1.caller out

    now : word s (e ∷ es) (StatusWord (own_attempt s (local s es e.caller))) ≡ 4
    now =
        let puts = commit_puts s (local s es e.caller) e k.kind k.succeeds core_e.1.allowed in
        put_at es e _ puts.0 ∙ puts.1

    later : word s run (StatusWord (own_attempt s (local s es e.caller))) ≡ 4
    later = subst (λ xs. word s xs (StatusWord (own_attempt s (local s es e.caller))) ≡ 4) p.whole
        (finished_stays s p.later (e ∷ es) (own_attempt s (local s es e.caller))
        (subst (Core s) (sym p.whole) core) below (let y = now in omega arith) ∙ now)

-- so the entry of a Commit is in the prefixes after it
pub commit_in_prefix : (s : Shape) (start : List Val) (run q es : List Event) {e : Event} → Core s run →
    IsPastOf (e ∷ es) q → IsPastOf q run → IsCommit e →
    Contains (reverse (history s start (will_of s run) run q)) (entry_of s start run (local s es e.caller))
commit_in_prefix s start run q es {e = e} core p r k =
    subst (Contains (reverse (history s start (will_of s run) run q)))
    (entry_same s start run (local s es e.caller) (local s d.before d.draw.caller) d.reads d.writes)
    (in_prefix s start (will_of s run) run d.before q d.draw place d.kind will)
  where
    past : IsPastOf (e ∷ es) run
    past = past_past (e ∷ es) q run p r

    core_e : Core s (e ∷ es)
    core_e = core_before s (e ∷ es) run (past_past (e ∷ es) q run p r) core

    d : DrawOf s es (local s es e.caller)
    d = draw_of s es core_e.0 e.caller (commit_may s (local s es e.caller) e k.kind core_e.1.allowed)

    place : IsPastOf (d.draw ∷ d.before) q
    place = past_past (d.draw ∷ d.before) (e ∷ es) q (past_more (d.draw ∷ d.before) es e d.past) p

    will : will_of s run (own_attempt s (local s d.before d.draw.caller)) ≡ true
    will = ap (will_of s run) d.own ∙ committed_will s run es (past_past (e ∷ es) q run p r) core k

-- the prefix at the place of a pass holds each Commit before the attempt's Begin
pub commits_held : (s : Shape) (start : List Val) (run es : List Event) (c n : ℕ) → Core s run → IsPastOf es run →
    (local s es c).phase ≡ Running → (local s es c).pass ≡ Some n →
    HoldCommitsBefore s start run es c (prefix_at s start run (pass_place c es))
commits_held s start run es c n core p ph pass = λ since between early f commit is own done.
    commit_in_prefix s start run (pass_place c es) early core
    (before_attempt s es (pass_place c es) (commit ∷ early) c (pass_past c es)
    (commit_past since between early f commit is) (less since between early f commit is own))
    (past_past (pass_place c es) es run (pass_past c es) p) done
  where
    commit_past : (since between early : List Event) (f commit : Event) →
        es ≡ since ++ f ∷ (between ++ commit ∷ early) → IsPastOf (commit ∷ early) es
    commit_past since between early f commit is = record {
      later = since ++ f ∷ between;
      whole = append_assoc since (f ∷ between) (commit ∷ early) ∙ sym is;
    }

    less : (since between early : List Event) (f commit : Event) → es ≡ since ++ f ∷ (between ++ commit ∷ early) →
        IsBeginOf c f → (local s (commit ∷ early) c).begun < (local s (pass_place c es) c).begun
    less since between early f commit is own =
        let here = pass_begun s es (core_before s es run p core) c n ph pass in
        let raised = begun_before s since between (commit ∷ early) own in
        let at_es : (local s (commit ∷ early) c).begun < (local s es c).begun =
        subst (λ xs. (local s (commit ∷ early) c).begun < (local s xs c).begun) (sym is) raised in
        omega arith
