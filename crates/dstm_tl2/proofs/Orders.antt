-- The history in the order of the laws: its entries, its prefixes, and where an entry stands in it.
use Rattle.std.proofs.Common.{◌≡◌, ◌∷◌, ◌++◌, ℕ, List, true, Bool, reverse}
use Rattle.std.specs.List.{All}
use Rattle.dstm_tl2.proofs.Base.{Entry, Event, IsEntry, LawfulRun, Run, Table, Val, and_parts, commits_at, entry_at, entry_of, history, history_of, is_draw, local, objects, prefix_at, state_after, will_of, writes_of}
use Rattle.dstm_machines.proofs.Gathered.{told_all, told_prefix}
use Rattle.dstm_machines.proofs.Histories as histories
use Rattle.dstm_tl2.proofs.Legal.{lawful_from}
use Rattle.dstm_tl2.proofs.Stands.{Told}
use Rattle.dstm_tl2.proofs.Tidy.{reads_once, writes_once}

-- the state after each prefix of the history is lawful
pub prefix_is_lawful : (t : Table) (holds : List Val → Type 0) (run : List Event) (prefix rest : List Entry) →
    LawfulRun t holds run → history_of t run ≡ prefix ++ rest → holds t.start → holds (state_after t.start prefix)
prefix_is_lawful t holds run prefix rest r q h =
    histories.prefix_is_lawful (commits_at (will_of t run)) (entry_at t) t.start run holds
    (λ es more whole. lawful_from t holds r.run r.law h es more whole) prefix rest q

-- each entry names an object at most once among its reads, and at most once among its writes
pub entries_once : (t : Table) (will : ℕ → Bool) (es : List Event) → Run t es → Told t will es →
    All (IsEntry (objects t)) (reverse (history t will es))
entries_once t will es run told =
    told_all (commits_at will) (entry_at t) (λ es. Run t es × Told t will es) (λ e es is. (is.0.0, is.1.0))
    (IsEntry (objects t)) entry es (run, told)
  where
    entry : (e : Event) (es : List Event) → Run t (e ∷ es) × Told t will (e ∷ es) → commits_at will e es ≡ true →
        IsEntry (objects t) (entry_of (local t es e.caller) (writes_of e.kind))
    entry e es is h = record {
      reads = reads_once t es e.caller is.0.0;
      writes = writes_once t will es e is.0 is.1.0 (and_parts (is_draw e.kind) (will e.found) h).0;
    }

-- the prefix at a place is one
pub place_prefix : (t : Table) (more es : List Event) →
    (rest : List Entry) × (history_of t (more ++ es) ≡ prefix_at t (more ++ es) es ++ rest)
place_prefix t more es = told_prefix (commits_at (will_of t (more ++ es))) (entry_at t) more es
