-- TL2 as a machine that threads run on shared words.
use Rattle.std.specs.Prelude.{◌≡◌, ◌⊎◌, ◌≤◌, List, true, length}
use Rattle.dstm_model.specs.Map.{KeepsLaw}
use Rattle.dstm_model.specs.declared.value.Val.{Val}
use Rattle.dstm_machines.specs.Sharing.{Shared}
use Rattle.dstm_tl2.specs.declared.kind.Kind.{Kind}
use Rattle.dstm_tl2.specs.declared.kind.Kind.TheVariants.{Enrol}
use Rattle.dstm_tl2.specs.declared.terms.Terms.{Terms}
use Rattle.dstm_tl2.specs.Histories.{LawfulRun, entry_of, is_draw, writes_of}
use Rattle.dstm_tl2.specs.Rules.{Event}
use Rattle.dstm_tl2.specs.Runs.{local, tl2}
use Rattle.dstm_tl2.specs.State.{LocalState}
use Rattle.dstm_tl2.specs.Words.{Table, objects, place, word_count}
use Rattle.dstm_tl2.specs.Words.Word.{CallersWord}

module _ {L : Type 0} where
  abbrev pub table_of : Terms L → Table
  table_of terms = record { start = terms.start.value.items; callers = terms.callers; attempts = terms.attempts }

  -- the log is a run of a table that was told these terms, which are sound
  pub record IsRunOf (holds : L → List Val → Type 0) (terms : Terms L) (log : List Event) : Type 0 where
    pub callers : terms.callers ≤ 64
    pub attempts : terms.attempts ≤ 18014398509481984
    pub objects : length terms.start.value.items ≤ 1048576
    pub lawful : holds terms.law.value terms.start.value.items
    pub run : LawfulRun (table_of terms) (holds terms.law.value) log

  abbrev pub shared : (L → List Val → Type 0) → Shared Kind (Terms L) Table LocalState
  shared holds = record {
    machine = tl2;
    number = λ state. state.number;
    word_count = word_count;
    callers_place = λ table. place table CallersWord;
    Adds = λ kind. (kind ≡ Enrol) ⊎ (is_draw kind ≡ true);
    table = table_of;
    IsRunOf = IsRunOf holds;
    Keeps = λ terms before event.
        is_draw event.kind ≡ true →
        KeepsLaw (holds terms.law.value) (objects (table_of terms))
        (entry_of (local (table_of terms) before event.caller) (writes_of event.kind));
  }
