-- What follows for a run from its seats, and from why it failed.
use Rattle.std.proofs.Common.{◌≡◌, ◌∙◌, ◌∷◌, [], ◌++◌, ◌+◌, ◌<◌, ◌≤◌, ℕ, List, Ok, Err, ap, append_assoc, arith, drop, length, map, refl, subst, suc, sym, take, zero, inl, inr, ⊎_elim}
use Rattle.std.specs.Prelude.{◌≢◌, ◌⊎◌, All, IfErr, IfOk, IsErrAnd, None, OnOk, Option, Result, slice_index_or, sum}
use Rattle.std.proofs.lemmas.Bool.{cases_lt}
use Rattle.std.proofs.lemmas.Grind.{common_steps}
use Rattle.std.proofs.lemmas.List.Sums.{sum-map}
use Rattle.std.proofs.lemmas.List.{get_or-map, get_or_push, length-append, length-map, length_push, map-append, map_push}
use Rattle.std.proofs.Math.ListN.{get_or-append}
use denote.Ref.{MutBor}
use Rattle.std.specs.Fn.{Shared}
use Rattle.dstm_cells.specs.declared.error.Failed.{Failed}
use Rattle.dstm_cells.specs.declared.error.Failed.TheVariants as failed
use Rattle.dstm_cells.specs.declared.error.GaveUp.{GaveUp}
use Rattle.dstm_cells.specs.declared.error.GaveUp.TheVariants.{Spent}
use Rattle.dstm_cells.specs.declared.memory.Ended.{Ended}
use Rattle.dstm_cells.specs.declared.memory.Seat.{Seat}
use Rattle.dstm_cells.specs.declared.thread.Part.{Part}
use Rattle.dstm_cells.specs.declared.under_way.Attempt.{Attempt as Tx}
use Rattle.dstm_cells.specs.declared.holds.Holds.{Ghosts as Holding}
use Rattle.dstm_model.specs.declared.value.Law.{Ghosts}
use Rattle.dstm_model.specs.declared.value.Val.{Val}
use Rattle.dstm_engine.specs.Tables as dstm
use Rattle.dstm_tl2_engine.specs.Tables as tl2
use Rattle.dstm_model.specs.Answers.{Committed}
use Rattle.dstm_tables.specs.Callers.{done, draws as draws_of}
use Rattle.dstm_tables.specs.Engines.{WorksBy}
use Rattle.dstm_tables.specs.Founders.{Enrols, Retires, founded, made_of}
use Rattle.dstm_tables.specs.Tables.{callers_there}
use Rattle.dstm_tables.specs.declared.engine.Engine.{Engine}
use Rattle.dstm_tables.specs.declared.founding.Founder.{Founder}
use Rattle.dstm_tables.specs.declared.founding.Founder.TheVariants as founder
use Rattle.dstm_tables.specs.declared.tables.Caller.{Caller}
use Rattle.dstm_tables.specs.declared.tables.Caller.TheVariants as caller
use Rattle.dstm_tables.specs.declared.tables.Table.{Table}
use Rattle.dstm_tables.specs.declared.tables.Table.TheVariants as table
use Rattle.dstm_attempts.specs.Attempts.{CommitsUpTo, above}
use Rattle.dstm_cells.specs.Attempts.{CouldNotRead}
use Rattle.dstm_cells.specs.Cells.{ComesTooEarly, Founds, ReadsAll, ReadsAmiss, ReadsBehind, Takes, drawn_by}
use Rattle.dstm_cells.specs.Runs.{AnswerEach, AreNumbered, CalledOn, Draws, DrawsNotAll, End, EndsSo, FailsByFirst, FailsFor, GivesOutEach, HaveAnswered, HaveNew, InTurn, IsCalled, IsFirst, IsFirstOf, IsNew, IsTold, LeavesBy, OnItsTable, Ran, RanOn, StandsBefore, TakesBackEach, WasCalled, WasRead, WasReadAmiss, WasUnread, caller_at, ends_of}

-- a vector that was lent as a slice has what was left there, in the same number
pub lent_back : {X : Type 0} {n count : ℕ} {new whole : List X} (old : List X) → length old ≡ count →
    whole ≡ take n (new ++ drop (length new) old) → n ≡ length old → length new ≡ length old →
    (whole ≡ new) × (length whole ≡ count)
lent_back {n = n} {new = new} {whole = whole} old size is all same =
    let back : whole ≡ new = is ∙ written_back n new old all same in (back, ap length back ∙ same ∙ size)
  where
    written_back : {X : Type 0} (n : ℕ) (new old : List X) → n ≡ length old → length new ≡ length old →
        take n (new ++ drop (length new) old) ≡ new
    written_back n new old whole same = grind (arith, common_steps)

-- the first one of some
pub some_of : {A : Type 0} (xs : List A) → 1 ≤ length xs → A
some_of [] some = absurd (omega arith)
some_of (x ∷ xs) some = x

-- what holds of each element, with its number, holds with one more behind
pub each_push : {A : Type 0} (P : ℕ → A → Type 0) (xs : List A) (x : A) →
    ((n : ℕ) (d : A) → n < length xs → P n (slice_index_or xs n d)) → P (length xs) x →
    (n : ℕ) (d : A) → n < length (xs ++ x ∷ []) → P n (slice_index_or (xs ++ x ∷ []) n d)
each_push P xs x each one n d within =
    ⊎_elim
    (λ before. subst (P n) (sym (get_or-append xs (x ∷ []) d n before)) (each n d before))
    (λ behind.
    let more = length_push xs x in
    let last : length xs ≡ n = omega (arith, more, within, behind) in
    subst (P n) (sym (get_or_push xs x d n last)) (subst (λ m. P m x) last one))
    (cases_lt n (length xs))

-- a founder that has given out a caller more has made one more
pub one_made : {L : Type 0} (holds : L → List Val → Type 0) (f g : Founder L) (seed : ℕ) (k : Caller L) →
    Enrols holds f g seed k → made_of g ≡ made_of f + 1
one_made holds (founder.Dstm f) (founder.Dstm g) seed (caller.Dstm k) enrols = ap (λ (f : dstm.Founding _). f.made) enrols.founder
one_made holds (founder.Tl2 f) (founder.Tl2 g) seed (caller.Tl2 k) enrols = ap (λ (f : tl2.TlFounding _). f.made) enrols.founder
one_made holds (founder.Dstm f) (founder.Dstm g) seed (caller.Tl2 k) enrols = absurd enrols
one_made holds (founder.Tl2 f) (founder.Tl2 g) seed (caller.Dstm k) enrols = absurd enrols
one_made holds (founder.Dstm f) (founder.Tl2 g) seed k enrols = absurd enrols
one_made holds (founder.Tl2 f) (founder.Dstm g) seed k enrols = absurd enrols

module _ {L S : Type 0} {ghosts : Ghosts L} {holding : Holding S L} (seats : List (Seat (Tx L S ghosts holding))) where
  -- a run whose values were taken has left them, however its threads have ended
  pub ran_leaves : (ran same : Type 0) (answer : Result (Unit {0}) Failed) → IfErr answer (IsFirst seats) → ran →
      LeavesBy ran same answer
  ran_leaves ran same (Ok x) first left = left
  ran_leaves ran same (Err why) first left = subst (λ w. LeavesBy {X = Unit {0}} ran same (Err w)) (sym first.is) left

  module _ (left : List (Seat (Tx L S ghosts holding))) (threads : ℕ) (same : (seats ≡ left) × (length seats ≡ threads))
      (ended : ℕ → End (Unit {0}) → Type 0) (other : Seat (Tx L S ghosts holding))
      (each : (number : ℕ) → number < threads → ended number (slice_index_or left number other).ended) where
    at_seat : (number : ℕ) → number < threads → ended number (slice_index_or seats number other).ended
    at_seat number below =
        subst (λ (xs : List (Seat (Tx L S ghosts holding))). ended number (slice_index_or xs number other).ended) (sym same.0) (each number below)

    -- all threads have ended well where their seats tell so
    all_ended : All (λ (seat : Seat (Tx L S ghosts holding)). seat.ended ≡ Ok tt) seats → (number : ℕ) → number < threads →
        ended number (Ok tt)
    all_ended well number below = subst (ended number) (well number other (omega (arith, same.1, below))) (at_seat number below)

    -- and that is how the first one ended of which they do not
    first_ended : (unread : Type 0) (why : Failed) → IsFirst seats why → FailsFor ended unread threads why
    first_ended unread why it =
        let first = it.first in
        subst (FailsFor ended unread threads) (sym it.is) (record {
          number = first.number;
          below = omega (arith, same.1, first.below);
          ends = subst (ended first.number) (first.ends other) (at_seat first.number (omega (arith, same.1, first.below)));
          before = λ earlier less.
              let (answer, is) = first.before earlier less in
              (answer, subst (ended earlier) (is other) (at_seat earlier (omega (arith, same.1, less, first.below))));
        })

    -- what a run tells of its threads
    pub told : (unread : Type 0) (answer : Result (Unit {0}) Failed) →
        OnOk answer (All (λ (seat : Seat (Tx L S ghosts holding)). seat.ended ≡ Ok tt) seats) → IfErr answer (IsFirst seats) →
        OnOk answer ((number : ℕ) → number < threads → ended number (Ok tt)) × IfErr answer (FailsFor ended unread threads)
    told unread (Ok x) well first = (all_ended well, tt)
    told unread (Err why) well first = (tt, first_ended unread why first)

-- ---- where a run hands back what its threads have answered

abbrev well : {T : Type 0} → T → End T
well answer = Ok answer

pub at_length : {A : Type 0} (before rest : List A) (item other : A) → slice_index_or (before ++ item ∷ rest) (length before) other ≡ item
at_length before rest item other =
    let more = length_push before item in
    ap (λ items. slice_index_or items (length before) other) (sym (append_assoc before (item ∷ []) rest))
    ∙ get_or-append (before ++ item ∷ []) rest other (length before) (omega (arith, more))
    ∙ get_or_push before item other (length before) refl

module _ {T : Type 0} where
  -- one more has ended well
  pub answered_push : (ends : List (End T)) (answers : List T) (end : End T) (answer : T) → HaveAnswered ends answers →
      end ≡ Ok answer → HaveAnswered (ends ++ end ∷ []) (answers ++ answer ∷ [])
  answered_push ends answers end answer have is =
      ap (λ ends. ends ++ end ∷ []) have ∙ ap (λ end. map well answers ++ end ∷ []) is ∙ sym (map_push well answers answer)

  pub as_many : (ends : List (End T)) (answers : List T) → HaveAnswered ends answers → length answers ≡ length ends
  as_many ends answers have = sym (length-map answers well) ∙ sym (ap length have)

  answer_at : (ends : List (End T)) (answers : List T) → HaveAnswered ends answers → (number : ℕ) (other : End T)
      (none : T) → number < length ends → slice_index_or ends number other ≡ Ok (slice_index_or answers number none)
  answer_at ends answers have number other none below =
      let same = as_many ends answers have in
      ap (λ ends. slice_index_or ends number other) have
      ∙ get_or-map well answers number none other (omega (arith, same, below))

  answer_before : (ends : List (End T)) (answers : List T) → HaveAnswered ends answers → (number : ℕ) →
      number < length ends → (answer : T) × EndsSo ends number (Ok answer)
  answer_before ends [] have number below =
      let none : zero ≡ length ends = as_many ends [] have in absurd (omega (arith, none, below))
  answer_before ends (first ∷ answers) have number below = (
    slice_index_or (first ∷ answers) number first,
    λ other. answer_at ends (first ∷ answers) have number other first below,
  )

  -- the first one that has not
  pub first_failed : (ends before rest : List (End T)) (end : End T) (answers : List T) (why : GaveUp) →
      before ++ end ∷ rest ≡ ends → HaveAnswered before answers → end ≡ Err why → IsFirstOf ends (failed.GaveUp why)
  first_failed ends before rest end answers why are have is =
      subst (λ all. IsFirstOf all (failed.GaveUp why)) are (record {
        why = why;
        is = refl;
        first = record {
          number = length before;
          below =
              let all = length-append before (end ∷ rest) in
              let some : length (end ∷ rest) ≡ suc (length rest) = refl in
              omega (arith, all, some);
          ends = λ other. at_length before rest end other ∙ is;
          before = λ earlier less.
              let (answer, ended) = answer_before before answers have earlier less in (
                answer,
                λ other. get_or-append before (end ∷ rest) other earlier less ∙ ended other,
              );
        };
      })

  -- the same of threads of which more is told than their ends
  abbrev end_of : Ended T → End T
  end_of ended = ended.end

  pub ended_push : (calls : List (Ended T)) (answers : List T) (ended : Ended T) (answer : T) → HaveAnswered (ends_of calls) answers →
      ended.end ≡ Ok answer → HaveAnswered (ends_of (calls ++ ended ∷ [])) (answers ++ answer ∷ [])
  ended_push calls answers ended answer have is =
      subst (λ ends. HaveAnswered ends (answers ++ answer ∷ [])) (sym (map_push end_of calls ended))
      (answered_push (ends_of calls) answers ended.end answer have is)

  pub many_ended : (calls : List (Ended T)) (answers : List T) → HaveAnswered (ends_of calls) answers → length answers ≡ length calls
  many_ended calls answers have = as_many (ends_of calls) answers have ∙ length-map calls end_of

  pub first_ended_failed : (calls before rest : List (Ended T)) (ended : Ended T) (answers : List T) (why : GaveUp) →
      before ++ ended ∷ rest ≡ calls → HaveAnswered (ends_of before) answers → ended.end ≡ Err why →
      IsFirstOf (ends_of calls) (failed.GaveUp why)
  first_ended_failed calls before rest ended answers why are have is =
      first_failed (ends_of calls) (ends_of before) (ends_of rest) ended.end answers why
      (sym (map-append end_of before (ended ∷ rest)) ∙ ap ends_of are) have is

  -- a run whose values were taken has left them, however its threads have ended
  pub each_leaves : {X : Type 0} (ends : List (End T)) (ran same : Type 0) (answer : Result X Failed) →
      IfErr answer (IsFirstOf ends) → ran → LeavesBy ran same answer
  each_leaves ends ran same (Ok x) first left = left
  each_leaves {X = X} ends ran same (Err why) first left = subst (λ w. LeavesBy {X = X} ran same (Err w)) (sym first.is) left

  module _ (ends : List (End T)) (threads : ℕ) (size : length ends ≡ threads) (ended : ℕ → End T → Type 0) (other : End T)
      (each : (number : ℕ) → number < threads → ended number (slice_index_or ends number other)) where
    -- each has ended with the answer that is handed back for it
    each_answered : (answers : List T) → HaveAnswered ends answers → (number : ℕ) (none : T) → number < threads →
        ended number (Ok (slice_index_or answers number none))
    each_answered answers have number none below =
        subst (ended number) (answer_at ends answers have number other none (omega (arith, size, below))) (each number below)

    -- and that is how the first one ended of which they do not
    first_of : (unread : Type 0) (why : Failed) → IsFirstOf ends why → FailsFor ended unread threads why
    first_of unread why it =
        let first = it.first in
        subst (FailsFor ended unread threads) (sym it.is) (record {
          number = first.number;
          below = omega (arith, size, first.below);
          ends = subst (ended first.number) (first.ends other) (each first.number (omega (arith, size, first.below)));
          before = λ earlier less.
              let (answer, is) = first.before earlier less in
              (answer, subst (ended earlier) (is other) (each earlier (omega (arith, size, less, first.below))));
        })

    -- what a run tells of its threads that hands back their answers
    pub told_each : {V : Type 0} (unread : Type 0) (answer : Result V Failed) (items : V → List T) →
        IfOk answer (λ v. HaveAnswered ends (items v)) → IfErr answer (IsFirstOf ends) →
        IfOk answer (λ v. (number : ℕ) (none : T) → number < threads → ended number (Ok (slice_index_or (items v) number none)))
        × IfErr answer (FailsFor ended unread threads)
    told_each unread (Ok v) items have first = (each_answered (items v) have, tt)
    told_each unread (Err why) items have first = (tt, first_of unread why first)

  pub count_each : {V : Type 0} (ends : List (End T)) (threads : ℕ) → length ends ≡ threads → (answer : Result V Failed)
      (items : V → List T) → IfOk answer (λ v. HaveAnswered ends (items v)) → IfOk answer (λ v. length (items v) ≡ threads)
  count_each ends threads size (Ok v) items have = as_many ends (items v) have ∙ size
  count_each ends threads size (Err why) items have = tt

  -- what it answers, from how its threads have ended
  pub tells_each : {V : Type 0} (ends : List (End T)) (threads : ℕ) → length ends ≡ threads → (other : End T)
      (answer : Result V Failed) (items : V → List T) → IfOk answer (λ v. HaveAnswered ends (items v)) →
      IfErr answer (IsFirstOf ends) →
      IfOk answer (λ v. AnswerEach (λ number. slice_index_or ends number other) threads (items v))
      × FailsByFirst (λ number. slice_index_or ends number other) threads answer
  tells_each ends threads size other answer items have first =
      told_each ends threads size (λ number end. slice_index_or ends number other ≡ end) other (λ number below. refl) ⊥ answer items
      have first

-- ---- calls of a closure on threads' parts

-- how a thread ended of which nothing is told
pub no_end : {T : Type 0} → Ended T
no_end = record { end = Err Spent; newest = None; draws = 0 }

-- what has committed up to a number stands behind one that is above it
pub stands_behind : {L : Type 0} (bound : ℕ) (newest : Option ℕ) (k : Caller L) → CommitsUpTo newest k → above newest ≤ bound →
    All (λ (attempt : Committed). attempt.number < bound) (done k)
stands_behind bound newest k up_to less number other within =
    let below = up_to.up_to number other within in omega (arith, below, less)

module _ {L S F T : Type 0} {ghosts : Ghosts L} {holding : Holding S L}
    (g : Shared F (MutBor (Part (Tx L S ghosts holding)) × (ℕ × Unit {0}))
    (End T × (MutBor (Part (Tx L S ghosts holding)) × Unit {0}))) (f : F) where
  pub was_called : (number : ℕ) (p q : MutBor (Part (Tx L S ghosts holding))) (ended : Ended T) →
      g.post f (p, (number, tt)) (ended.end, (q, tt)) → IsTold g f ended q.now.tx.attempts.caller → WasCalled g f number p.now ended
  was_called number p q ended met told = (q.now, record { shown = p; shows = refl; left = q; met = met; leaves = refl }, told)

  module _ (holds : L → List Val → Type 0) (table : Table L) where
    -- the closure was called with this number on a part of the table, and what was told of that is so
    abbrev pub CalledUpTo : ℕ → End T → Ended T → Type 0
    CalledUpTo number end ended = (on : CalledOn holds g f table number end) × IsTold g f ended on.ended.tx.attempts.caller

    -- so it was called with each number
    pub each_called : (seats : List (Seat (Tx L S ghosts holding))) (ends : List (Ended T)) (threads : ℕ) → length seats ≡ threads →
        length ends ≡ threads → HaveNew holds table seats → AreNumbered seats →
        ((number : ℕ) → number < length seats → (job : Seat (Tx L S ghosts holding)) × (slice_index_or seats number job ≡ job)
        × WasCalled g f job.number job.me (slice_index_or ends number no_end)) → (number : ℕ) → number < threads →
        CalledUpTo number (slice_index_or (ends_of ends) number (Err Spent)) (slice_index_or ends number no_end)
    each_called seats ends threads all many new numbered calls number below =
        let ended = slice_index_or ends number no_end in
        let within : number < length seats = omega (arith, all, below) in
        let (job, is, call) = calls number within in
        let (left, was, told) = call in
        let on : CalledOn holds g f table number ended.end = record {
          began = job.me;
          new = subst (λ (seat : Seat (Tx L S ghosts holding)). IsNew holds table number seat.me.tx.attempts.caller) is (new number job within);
          ended = left;
          call = subst (λ n. IsCalled g f n job.me ended.end left)
              (ap (λ (seat : Seat (Tx L S ghosts holding)). seat.number) (sym is) ∙ numbered number job within) was;
        } in
        subst (λ end. CalledUpTo number end ended)
        (sym (get_or-map (λ (e : Ended T). e.end) ends number no_end (Err Spent) (omega (arith, many, below)))) (on, told)

-- where the answer is a value this is so, and else nothing is said
pub told_of : {X : Type 0} (P : Type 0) (answer : Result X Failed) → P → OnOk answer P
told_of P (Ok x) so = so
told_of P (Err why) so = tt

-- a last caller of a table has taken its values
abbrev pub last_takes : {L : Type 0} (holds : L → List Val → Type 0) {rule : L} {before after : List Val} {table : Table L}
    {f : Founder L} (g : Founder L) (caller : Caller L) → Founds rule before table f → Enrols holds f g 0 caller →
    ReadsAll holds caller after → Takes holds (founded table) g after
last_takes holds g caller founds enrols reads = record {
  caller = caller;
  enrols = subst (λ new. Enrols holds new g 0 caller) founds.founder enrols;
  reads = reads;
}

module _ {L : Type 0} (holds : L → List Val → Type 0) {engine : Engine} {rule : L} {before : List Val} {table : Table L} {f : Founder L}
    (g : Founder L) (caller : Caller L) (founds : Founds rule before table f) (works : WorksBy engine table)
    (enrols : Enrols holds f g 0 caller) where
  on_its_table : {ended : Founder L → Founder L → Type 0} → ended f g → OnItsTable holds engine rule before ended
  on_its_table {ended} ends = record {
    table = table;
    starts = founds.starts;
    works = works;
    left = g;
    ends = subst (λ new. ended new g) founds.founder ends;
  }

  -- what has become of a run whose last caller could not read them
  pub was_unread : {after : Caller L} → CouldNotRead holds 64 caller after → WasUnread holds engine rule before
  was_unread {after} unread = on_its_table (record { caller = caller; enrols = enrols; after = after; unread = unread })

-- how many numbers these threads have drawn, in their order
abbrev pub counts_of : {T : Type 0} → List (Ended T) → List ℕ
counts_of ends = map (λ ended. ended.draws) ends

pub all_counts : {T : Type 0} (ends : List (Ended T)) (own : ℕ) → sum (counts_of ends) + own ≡ drawn_by ends + own
all_counts ends own = ap (λ n. n + own) (sum-map (λ (ended : Ended _). ended.draws) ends)

-- a run whose last caller has read its table, behind the threads or not
module _ {L S F T : Type 0} {ghosts : Ghosts L} {holding : Holding S L}
    (g : Shared F (MutBor (Part (Tx L S ghosts holding)) × (ℕ × Unit {0}))
    (End T × (MutBor (Part (Tx L S ghosts holding)) × Unit {0}))) (f : F)
    (holds : L → List Val → Type 0) {engine : Engine} {rule : L} {before : List Val} {table : Table L} {founder : Founder L}
    (left : Founder L) (caller : Caller L) (founds : Founds rule before table founder) (works : WorksBy engine table)
    (enrols : Enrols holds founder left 0 caller) (ends : List (Ended T)) (threads : ℕ) (room : callers_there table ≡ threads + 1)
    (many : length ends ≡ threads)
    (calls : (number : ℕ) → number < threads → CalledUpTo g f holds table number (slice_index_or (ends_of ends) number (Err Spent))
    (slice_index_or ends number no_end)) where
  abbrev pub was_read : {after : List Val} → ReadsAll holds caller after → WasRead holds g f engine rule before threads after
  was_read reads = record {
    table = table;
    starts = founds.starts;
    works = works;
    callers = room;
    ends = λ number. slice_index_or (ends_of ends) number (Err Spent);
    called = λ number below. (calls number below).0;
    left = left;
    takes = last_takes holds left caller founds enrols reads;
  }

  module _ {after : List Val} (reads : ReadsAll holds caller after) where
    -- so many they have drawn
    pub have_drawn : Draws holds g f engine rule before (was_read reads) (counts_of ends)
    have_drawn = record {
      size = length-map ends (λ (ended : Ended T). ended.draws) ∙ many;
      each = λ number below.
          (calls number below).1.1
          ∙ sym (get_or-map (λ (ended : Ended T). ended.draws) ends number no_end 0 (omega (arith, many, below)));
    }

    draws_not_all : (drawn_by ends + draws_of reads.after ≢ reads.takes.number + 1) →
        DrawsNotAll holds g f engine rule before (was_read reads)
    draws_not_all missing = record { counts = counts_of ends; draws = have_drawn; missing = λ all. missing (sym (all_counts ends _) ∙ all) }

    stands_before : ComesTooEarly ends reads.takes.number → StandsBefore holds g f engine rule before (was_read reads)
    stands_before it =
        let within = it.below in
        let below : it.number < threads = omega (arith, many, within) in record {
          number = it.number;
          below = below;
          newest = it.newest;
          committed = sym (calls it.number below).1.0.is ∙ it.told no_end;
          early = it.early;
        }

  -- behind them
  abbrev pub has_run : {after : List Val} → ReadsBehind holds ends caller after → Ran holds g f engine rule before threads after
  has_run behind = record {
    read = was_read behind.reads;
    behind = λ number below.
        stands_behind behind.reads.takes.number _ (calls number below).0.ended.tx.attempts.caller (calls number below).1.0
        (behind.behind number no_end (omega (arith, many, below)));
    all = record {
      counts = counts_of ends;
      draws = have_drawn behind.reads;
      all = all_counts ends _ ∙ behind.all;
    };
  }

  -- why the values were not taken
  pub not_read : {last : Caller L} → CouldNotRead holds 64 caller last ⊎ ReadsAmiss holds ends caller →
      WasUnread holds engine rule before ⊎ WasReadAmiss holds g f engine rule before threads
  not_read {last} (inl unread) = inl (was_unread holds left caller founds works enrols {after = last} unread)
  not_read (inr it) = inr (record {
    after = it.values;
    read = was_read it.reads;
    amiss = ⊎_elim (λ early. inl (stands_before it.reads early)) (λ missing. inr (draws_not_all it.reads missing)) it.amiss;
  })

-- why a run failed whose values were not taken
pub untaken : {T : Type 0} (ended : ℕ → End T → Type 0) (unread : Type 0) (threads : ℕ) (why : Failed) →
    (why ≡ failed.Memory) ⊎ (why ≡ failed.Unread) → (why ≡ failed.Unread → unread) → FailsFor ended unread threads why
untaken ended unread threads why (inl memory) shown = subst (FailsFor ended unread threads) (sym memory) tt
untaken ended unread threads why (inr is) shown = subst (FailsFor ended unread threads) (sym is) (shown is)

-- and it has left all as it was
pub untaken_leaves : {X : Type 0} (ran same : Type 0) (answer : Result X Failed) (why : Failed) →
    IsErrAnd answer (λ e. e ≡ why) → (why ≡ failed.Memory) ⊎ (why ≡ failed.Unread) → same → LeavesBy ran same answer
untaken_leaves ran same (Ok x) why is cause left = absurd is
untaken_leaves {X = X} ran same (Err e) why is (inl memory) left =
    subst (λ w. LeavesBy {X = X} ran same (Err w)) (sym (is ∙ memory)) left
untaken_leaves {X = X} ran same (Err e) why is (inr unread) left =
    subst (λ w. LeavesBy {X = X} ran same (Err w)) (sym (is ∙ unread)) left

-- what failed has left the same, whatever was to be answered
pub failed_leaves : {X : Type 0} (answer : Result X Failed) (Y ran same : Type 0) (why : Failed) →
    LeavesBy {X = X} ran same (Err why) → LeavesBy {X = Y} ran same (Err why)
failed_leaves answer Y ran same failed.Full left = left
failed_leaves answer Y ran same failed.Memory left = left
failed_leaves answer Y ran same failed.Threads left = left
failed_leaves answer Y ran same (failed.GaveUp why) left = left
failed_leaves answer Y ran same failed.Unread left = left
failed_leaves answer Y ran same failed.Foreign left = left

-- there is one answer where nothing is answered
pub answers_nothing : (x : Unit {0}) → x ≡ tt
answers_nothing x = refl

module _ {L S F T : Type 0} {ghosts : Ghosts L} {holding : Holding S L} (holds : L → List Val → Type 0)
    (g : Shared F (MutBor (Part (Tx L S ghosts holding)) × (ℕ × Unit {0}))
    (End T × (MutBor (Part (Tx L S ghosts holding)) × Unit {0}))) (f : F)
    (engine : Engine) (rule : L) (values : List Val) (threads : ℕ) (after : List Val) where
  -- what follows from what is told of its ends is told of them too
  pub tells_more : {told more : (ℕ → End T) → Type 0} → ((ends : ℕ → End T) → told ends → more ends) →
      RanOn holds g f engine rule values threads after told → RanOn holds g f engine rule values threads after more
  tells_more follows x = record { ran = x.ran; tells = follows x.ends x.tells }

-- ---- callers that are given out and taken back in turn

-- a founder that has taken a caller back has made as many
one_back : {L : Type 0} (holds : L → List Val → Type 0) (f g : Founder L) (k : Caller L) → Retires holds f g k → made_of g ≡ made_of f
one_back holds (founder.Dstm f) (founder.Dstm g) (caller.Dstm k) retires = ap (λ (f : dstm.Founding _). f.made) retires.founder
one_back holds (founder.Tl2 f) (founder.Tl2 g) (caller.Tl2 k) retires = ap (λ (f : tl2.TlFounding _). f.made) retires.founder
one_back holds (founder.Dstm f) (founder.Dstm g) (caller.Tl2 k) retires = absurd retires
one_back holds (founder.Tl2 f) (founder.Tl2 g) (caller.Dstm k) retires = absurd retires
one_back holds (founder.Dstm f) (founder.Tl2 g) k retires = absurd retires
one_back holds (founder.Tl2 f) (founder.Dstm g) k retires = absurd retires

-- a new one has made none
pub founded_none : {L : Type 0} (t : Table L) → made_of (founded t) ≡ 0
founded_none (table.Dstm h) = refl
founded_none (table.Tl2 h) = refl

module _ {L : Type 0} (holds : L → List Val → Type 0) where
  pub made_each : (count : ℕ) (f g : Founder L) (callers : ℕ → Caller L) → GivesOutEach holds count f callers g →
      made_of g ≡ made_of f + count
  made_each zero f g callers is =
      let same : made_of g ≡ made_of f = ap (λ (m : Founder L). made_of m) is in omega (arith, same)
  made_each (suc count) f g callers (m, before, one) =
      let some = made_each count f m callers before in
      let more = one_made holds m g count (callers count) one in
      omega (arith, some, more)

  pub made_back : (count : ℕ) (f g : Founder L) (callers : ℕ → Caller L) → TakesBackEach holds count f callers g →
      made_of g ≡ made_of f
  made_back zero f g callers is = ap (λ (m : Founder L). made_of m) is
  made_back (suc count) f g callers (m, before, one) =
      one_back holds m g (callers count) one ∙ made_back count f m callers before

module _ {L : Type 0} (step : Founder L → Founder L → ℕ → Caller L → Type 0) where
  -- the callers below the count tell
  in_turn_by : (count : ℕ) (f g : Founder L) (some others : ℕ → Caller L) → ((number : ℕ) → number < count → some number ≡ others number) →
      InTurn step count f some g → InTurn step count f others g
  in_turn_by zero f g some others same is = is
  in_turn_by (suc count) f g some others same (m, before, one) = (
    m,
    in_turn_by count f m some others (λ number below. same number (omega (arith, below))) before,
    subst (step m g count) (same count (omega arith)) one,
  )

  -- one more
  pub in_turn_next : (count next : ℕ) (f m g : Founder L) (callers : ℕ → Caller L) → InTurn step count f callers m →
      step m g count (callers count) → next ≡ count + 1 → InTurn step next f callers g
  in_turn_next count next f m g callers before one is =
      let more : InTurn step (suc count) f callers g = (m, before, one) in
      let same : suc count ≡ next = omega (arith, is) in
      subst (λ n. InTurn step n f callers g) same more

  module _ {S : Type 0} {ghosts : Ghosts L} {holding : Holding S L} (seats : List (Seat (Tx L S ghosts holding))) (seat other : Seat (Tx L S ghosts holding)) where
    -- the next one of the callers of seats
    pub in_turn_push : (f m g : Founder L) → InTurn step (length seats) f (caller_at seats other) m →
        step m g (length seats) seat.me.tx.attempts.caller →
        InTurn step (length (seats ++ seat ∷ [])) f (caller_at (seats ++ seat ∷ []) other) g
    in_turn_push f m g before one =
        let all = seats ++ seat ∷ [] in
        in_turn_next (length seats) (length all) f m g (caller_at all other)
        (in_turn_by (length seats) f m (caller_at seats other) (caller_at all other)
        (λ number below. ap (λ (s : Seat (Tx L S ghosts holding)). s.me.tx.attempts.caller) (sym (get_or-append seats (seat ∷ []) other number below)))
        before)
        (subst (step m g (length seats)) (ap (λ (s : Seat (Tx L S ghosts holding)). s.me.tx.attempts.caller) (sym (at_length seats [] seat other))) one)
        (length_push seats seat)

-- so many were given out by the founder of a new table
pub given_out : {L : Type 0} (holds : L → List Val → Type 0) (t : Table L) {f : Founder L} {count threads : ℕ} (g : Founder L)
    (callers : ℕ → Caller L) → f ≡ founded t → count ≡ threads → GivesOutEach holds count f callers g →
    GivesOutEach holds threads (founded t) callers g
given_out holds t {f} {count} {threads} g callers new same gives =
    subst (λ n. GivesOutEach holds n (founded t) callers g) same (subst (λ m. GivesOutEach holds count m callers g) new gives)

-- why the values were not taken, where the table had a caller left
pub not_taken : (why : Failed) → (why ≡ failed.Threads) ⊎ (why ≡ failed.Memory) ⊎ (why ≡ failed.Unread) →
    (why ≡ failed.Threads → ⊥) → (why ≡ failed.Memory) ⊎ (why ≡ failed.Unread)
not_taken why (inl threads) none = absurd (none threads)
not_taken why (inr rest) none = rest
