-- The entry of an attempt that is valid stands in the history wherever its draw does.
use Rattle.std.proofs.Common.{◌≡◌, ◌⊎◌, ◌∷◌, ◌++◌, ◌∙◌, ℕ, inl, inr, List, [], refl, ap, append_assoc, sym, subst, true, Bool, Option, Some, None, is_some, reverse}
use Rattle.std.specs.List.{Contains}
use Rattle.dstm_tl2.proofs.Base.{AllowedAs, Entry, Event, IsPastOf, LocalState, Run, Table, after, and_from, cases_eq, commits_at, entry_at, entry_of, history, is_draw, is_valid, local, or_writes, read_values, tl2, will_of, writes_of}
use Rattle.dstm_machines.proofs.Runs as runs
use Rattle.dstm_machines.proofs.Gathered.{told_among}
use Rattle.dstm_tl2.proofs.Clock.{NewDraw, Turn, drawn_how, turn}
use Rattle.dstm_tl2.proofs.Clock.Turn.{keeps, samples, drew}
use Rattle.dstm_tl2.proofs.Foretelling.{valid_will, will_more}
use Rattle.dstm_tl2.proofs.SinceDraw.{Checks, Rests, check_by}
use Rattle.dstm_tl2.proofs.Static.{static, valid_drawn}

-- the draw of an attempt that has drawn
pub record DrawOf (t : Table) (es : List Event) (l : LocalState) (n : ℕ) : Type 0 where
  pub before : List Event
  pub draw : Event
  pub past : IsPastOf (draw ∷ before) es
  pub kind : is_draw draw.kind ≡ true
  pub found : draw.found ≡ n
  pub reads : (local t before draw.caller).reads ≡ l.reads
  pub writes : l.writes ≡ Some (writes_of draw.kind)

draw_of_step : (t : Table) (es : List Event) (e : Event) (c n : ℕ) → Run t (e ∷ es) →
    (local t (e ∷ es) c).drawn ≡ Some n → ((local t es c).drawn ≡ Some n → DrawOf t es (local t es c) n) →
    ((local t es c).drawn ≡ Some n) ⊎ NewDraw t es e c n → (e.caller ≡ c) ⊎ (e.caller ≡ c → ⊥) →
    DrawOf t (e ∷ es) (local t (e ∷ es) c) n
draw_of_step t es e c n run h ih (inr x) y =
    subst (λ c. DrawOf t (e ∷ es) (local t (e ∷ es) c) n) x.own (by (turn t es e run.1))
  where
    by : Turn t e e.kind (local t es e.caller) (after e.kind t (local t es e.caller) e) →
        DrawOf t (e ∷ es) (local t (e ∷ es) e.caller) n
    by (keeps u) = absurd (let a = u.no_draw in let b = x.is_draw in cc)
    by (samples u) = absurd (let a = u.no_draw in let b = x.is_draw in cc)
    by (drew u) = record {
      before = es;
      draw = e;
      past = record { later = []; whole = refl };
      kind = x.is_draw;
      found = sym x.number;
      reads = sym (ap (λ (l : LocalState). l.reads) (runs.local_own tl2 t es e) ∙ u.reads);
      writes = ap (λ (l : LocalState). l.writes) (runs.local_own tl2 t es e) ∙ u.writes;
    }
draw_of_step t es e c n run h ih (inl x) (inr y) =
    let d = ih x in let same = runs.local_other tl2 t es e c y in record {
      before = d.before;
      draw = d.draw;
      past = record { later = e ∷ d.past.later; whole = ap (λ l. e ∷ l) d.past.whole };
      kind = d.kind;
      found = d.found;
      reads = d.reads ∙ ap (λ (l : LocalState). l.reads) (sym same);
      writes = ap (λ (l : LocalState). l.writes) same ∙ d.writes;
    }
draw_of_step t es e c n run h ih (inl x) (inl y) =
    by (check_by t (local t es c) e e.kind n (static t es run.0 c)
    (subst (λ c. AllowedAs e.kind t (local t es c) e) y run.1.allowed) x
    (ap (λ (l : LocalState). l.drawn) (sym now) ∙ h))
  where
    now : local t (e ∷ es) c ≡ after e.kind t (local t es c) e
    now = subst (λ c. local t (e ∷ es) c ≡ after e.kind t (local t es c) e) y (runs.local_own tl2 t es e)

    same : DrawOf t es (local t es c) n → (after e.kind t (local t es c) e).reads ≡ (local t es c).reads →
        (after e.kind t (local t es c) e).writes ≡ (local t es c).writes → DrawOf t (e ∷ es) (local t (e ∷ es) c) n
    same d r w = record {
      before = d.before;
      draw = d.draw;
      past = record { later = e ∷ d.past.later; whole = ap (λ l. e ∷ l) d.past.whole };
      kind = d.kind;
      found = d.found;
      reads = d.reads ∙ sym r ∙ ap (λ (l : LocalState). l.reads) (sym now);
      writes = ap (λ (l : LocalState). l.writes) now ∙ w ∙ d.writes;
    }

    by : Rests (local t es c) (after e.kind t (local t es c) e)
        ⊎ Checks t e (local t es c) (after e.kind t (local t es c) e) → DrawOf t (e ∷ es) (local t (e ∷ es) c) n
    by (inl r) = same (ih x) r.reads r.writes
    by (inr r) = same (ih x) r.reads r.writes

pub draw_of : (t : Table) (es : List Event) (c n : ℕ) → Run t es → (local t es c).drawn ≡ Some n →
    DrawOf t es (local t es c) n
draw_of t [] c n run h = absurd (cc)
draw_of t (e ∷ es) c n run h =
    draw_of_step t es e c n run h (λ x. draw_of t es c n run.0 x) (drawn_how t es e run c n h) (cases_eq e.caller c)

-- the entry of a draw stands in each history that has the draw
pub entry_stands : (t : Table) (will : ℕ → Bool) (q : List Event) (d : Event) (more : List Event) →
    is_draw d.kind ≡ true → will d.found ≡ true →
    Contains (reverse (history t will (more ++ d ∷ q))) (entry_of (local t q d.caller) (writes_of d.kind))
entry_stands t will q d more k w =
    told_among (commits_at will) (entry_at t) more d q (and_from (is_draw d.kind) (will d.found) k w)

-- so does that of an attempt that is valid before
pub valid_stands : (t : Table) {run : List Event} (early between : List Event) (c : ℕ) → Run t run → IsPastOf
    (between ++ early) run →
    is_valid (local t early c) ≡ true → Contains (reverse (history t (will_of t run) (between ++ early)))
    (entry_of (local t early c) (or_writes (local t early c).writes))
valid_stands t {run = run} early between c r p v = go (local t early c).drawn refl (valid_drawn (local t early c) v)
  where
    whole : p.later ++ (between ++ early) ≡ run
    whole = p.whole

    run_early : Run t early
    run_early = runs.run_past tl2 t between early
        (runs.run_past tl2 t p.later (between ++ early) (subst (Run t) (sym p.whole) r))

    go : (d : Option ℕ) → (local t early c).drawn ≡ d → is_some (local t early c).drawn ≡ true →
        Contains (reverse (history t (will_of t run) (between ++ early)))
        (entry_of (local t early c) (or_writes (local t early c).writes))
    go None q i = absurd (let y = ap is_some q in cc)
    go (Some n) q i =
        let d = draw_of t early c n run_early q in
        let will : will_of t run n ≡ true = subst (λ run. will_of t run n ≡ true) p.whole
        (will_more t p.later (between ++ early) n (will_more t between early n (valid_will t early c n q v))) in
        let stands = entry_stands t (will_of t run) d.before d.draw (between ++ d.past.later) d.kind
        (ap (will_of t run) d.found ∙ will) in
        let same : entry_of (local t d.before d.draw.caller) (writes_of d.draw.kind) ≡ entry_of (local t early c)
        (or_writes (local t early c).writes) = ap (λ rs. let x : Entry = record {
          reads = read_values rs;
          writes = writes_of d.draw.kind;
        } in x) d.reads
        ∙ ap (λ ws. entry_of (local t early c) (or_writes ws)) (sym d.writes) in
        subst (Contains (reverse (history t (will_of t run) (between ++ early)))) same
        (subst (λ es. Contains (reverse (history t (will_of t run) es))
        (entry_of (local t d.before d.draw.caller) (writes_of d.draw.kind)))
        (append_assoc between d.past.later (d.draw ∷ d.before) ∙ ap (λ es. between ++ es) d.past.whole) stands)
