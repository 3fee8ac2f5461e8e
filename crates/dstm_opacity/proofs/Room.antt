-- An attempt has room: for as many reads and writes as there are objects, and for a locator for each write.
use Rattle.std.proofs.Common.{◌<◌, ◌∷◌, ◌≡◌, ◌≢◌, List, None, [], arith, length, refl, ℕ}
use Rattle.dstm_core.proofs.Base.{Core, Event, Val, local, no_value, old_values, own_attempt, write_of}
use Rattle.dstm_opacity.proofs.Base.{Outside, Shape, Write}
use Rattle.dstm_opacity.proofs.Entries.{old_once, unnamed_old}
use Rattle.dstm_opacity.proofs.Maps.{few_are_named}
use Rattle.dstm_opacity.proofs.Tidy.{tidy}
use Rattle.dstm_opacity.proofs.Written.{written}

old_values-length : (s : Shape) (start : List Val) (run : List Event) (ws : List Write) →
    length (old_values s start run ws) ≡ length ws
old_values-length s start run [] = refl
old_values-length s start run (w ∷ ws) = omega (arith, old_values-length s start run ws)

-- while an object is not opened for writing there are fewer writes than objects
pub one_more_write : (s : Shape) (es : List Event) (c o : ℕ) → Core s es → c < s.callers →
    (local s es c).phase ≢ Outside → o < s.objects → write_of o (local s es c).writes ≡ None →
    length (local s es c).writes < s.objects
one_more_write s es c o core b out lt none =
    let l = local s es c in
    let ok = written s es core c b out in
    omega (
      arith,
      few_are_named s.objects ((o, no_value) ∷ old_values s [] [] l.writes) (
        lt,
        unnamed_old s [] [] o l.writes none,
        old_once s [] [] es (own_attempt s l) l.writes (tidy s es core c).writes ok,
      ),
      old_values-length s [] [] l.writes,
    )
