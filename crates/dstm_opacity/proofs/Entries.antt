-- Each entry of a history names objects of the shape, and each at most once.
use Rattle.std.proofs.Common.{◌++◌, ◌<◌, ◌==◌, ◌∷◌, ◌≡◌, ◌≢◌, Bool, List, None, [], true, ℕ, reverse}
use Rattle.dstm_core.proofs.Base.{Core, Event, IsEntry, IsUnnamed, NamesOnce, Val, and_parts, commits_at, entry_at, entry_of, eqb-false, history, is_draw, local, new_values, old_values, own_attempt, read_of, read_values, write_of}
use Rattle.dstm_opacity.proofs.Base.{Outside, Read, Shape, Write}
use Rattle.std.specs.List.{All}
use Rattle.dstm_opacity.proofs.Draws.{draw_may}
use Rattle.dstm_machines.proofs.Gathered.{told_all}
use Rattle.dstm_opacity.proofs.Recorded.{ReadsNamed, reads}
use Rattle.dstm_opacity.proofs.Tidy.{Apart, neither, ReadsOnce, WritesOnce, read_apart, tidy}
use Rattle.dstm_opacity.proofs.Written.{WritesOk, written}

write_apart : (o : ℕ) (w : Write) (ws : List Write) → write_of o (w ∷ ws) ≡ None →
    (w.object ≢ o) × (write_of o ws ≡ None)
write_apart o w ws h = let x = neither (w.object == o) w (write_of o ws) h in (eqb-false w.object o x.0, x.1)

unnamed_reads : (s : Shape) (start : List Val) (run : List Event) (o : ℕ) (rs : List Read) →
    read_of o rs ≡ None → IsUnnamed o (read_values s start run rs)
unnamed_reads s start run o [] h = tt
unnamed_reads s start run o (r ∷ rs) h =
    let x = read_apart o r rs h in (x.0, unnamed_reads s start run o rs x.1)

pub unnamed_old : (s : Shape) (start : List Val) (run : List Event) (o : ℕ) (ws : List Write) →
    write_of o ws ≡ None → IsUnnamed o (old_values s start run ws)
unnamed_old s start run o [] h = tt
unnamed_old s start run o (w ∷ ws) h =
    let x = write_apart o w ws h in (x.0, unnamed_old s start run o ws x.1)

unnamed_new : (s : Shape) (run : List Event) (o : ℕ) (ws : List Write) → write_of o ws ≡ None →
    IsUnnamed o (new_values s run ws)
unnamed_new s run o [] h = tt
unnamed_new s run o (w ∷ ws) h = let x = write_apart o w ws h in (x.0, unnamed_new s run o ws x.1)

unnamed-append : (o : ℕ) (xs ys : List (ℕ × Val)) → IsUnnamed o xs → IsUnnamed o ys → IsUnnamed o (xs ++ ys)
unnamed-append o [] ys h k = k
unnamed-append o (x ∷ xs) ys h k = (h.0, unnamed-append o xs ys h.1 k)

pub old_once : (s : Shape) (start : List Val) (run es : List Event) (own : ℕ) (ws : List Write) → WritesOnce ws →
    WritesOk s es own ws → NamesOnce s.objects (old_values s start run ws)
old_once s start run es own [] h k = tt
old_once s start run es own (w ∷ ws) h k =
    (k.0.object, unnamed_old s start run w.object ws h.0, old_once s start run es own ws h.1 k.1)

new_once : (s : Shape) (run es : List Event) (own : ℕ) (ws : List Write) → WritesOnce ws →
    WritesOk s es own ws → NamesOnce s.objects (new_values s run ws)
new_once s run es own [] h k = tt
new_once s run es own (w ∷ ws) h k =
    (k.0.object, unnamed_new s run w.object ws h.0, new_once s run es own ws h.1 k.1)

reads_once : (s : Shape) (start : List Val) (run es : List Event) (rs : List Read) (ws : List Write) →
    ReadsOnce rs → ReadsNamed s es rs → Apart ws rs → NamesOnce s.objects (old_values s start run ws) →
    NamesOnce s.objects (read_values s start run rs ++ old_values s start run ws)
reads_once s start run es [] ws h n a k = k
reads_once s start run es (r ∷ rs) ws h n a k = (
  n.0,
  unnamed-append r.object (read_values s start run rs) (old_values s start run ws)
      (unnamed_reads s start run r.object rs h.0) (unnamed_old s start run r.object ws a.0),
  reads_once s start run es rs ws h.1 n.2 a.1 k,
)

-- the entry of an attempt under way
pub entry_once : (s : Shape) (start : List Val) (run es : List Event) (c : ℕ) → Core s es → c < s.callers →
    (local s es c).phase ≢ Outside → IsEntry s.objects (entry_of s start run (local s es c))
entry_once s start run es c core lt out =
    let t = tidy s es core c in let ok = written s es core c lt out in
    let own = own_attempt s (local s es c) in
    record {
      reads = reads_once s start run es (local s es c).reads (local s es c).writes t.reads (reads s es core c)
          t.apart (old_once s start run es own (local s es c).writes t.writes ok);
      writes = new_once s run es own (local s es c).writes t.writes ok;
    }

-- each entry of the history
pub entries_once : (s : Shape) (start : List Val) (will : ℕ → Bool) (run es : List Event) → Core s es →
    All (IsEntry s.objects) (reverse (history s start will run es))
entries_once s start will run es core =
    told_all (commits_at s will) (entry_at s start run) (Core s) (λ e es core. core.0) (IsEntry s.objects) entry es core
  where
    entry : (e : Event) (es : List Event) → Core s (e ∷ es) → commits_at s will e es ≡ true →
        IsEntry s.objects (entry_of s start run (local s es e.caller))
    entry e es core h =
        let two = and_parts (is_draw e.kind) (will (own_attempt s (local s es e.caller))) h in
        let v = draw_may s (local s es e.caller) e e.kind two.0 core.1.allowed in
        entry_once s start run es e.caller core.0 core.1.caller (λ z. cc)
