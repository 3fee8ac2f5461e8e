-- How a command ends, over what is known of its source and its sinks.
use Rattle.std.proofs.Common.{◌≡◌, ℕ, true, List, [], ◌∷◌, Option, Some, None, Result, Ok, Err, is_ok, IfSome, refl, sym}
use Rattle.std.proofs.Common.{ap, subst, ◌∙◌, ◌⊎◌, ◌<◌, ◌+◌, ◌++◌, length, take, append_assoc, inl, inr, true≢false, arith}
use Rattle.std.proofs.Common.{length-append}
use Rattle.std.proofs.lemmas.List.{take-append-le}
use Rattle.std.proofs.Math.Seq.{take-append-add}
use Rattle.std.specs.Prelude.{All, IsOk, OnOk, OnErr}
use Rattle.std.specs.List.{AllByRecursion}
use Rattle.std.proofs.lemmas.List.Elements.{All-from_recursion, recursion_from_All}
use Rattle.std.specs.Io.KnownBytes.{Appends}
use Rattle.std.proofs.KnownBytes.{Appends-trans}
use Rattle.dstm_io.specs.Count.{Rises}
use Rattle.dstm_io.specs.Sink.{AppendsPart}
use Rattle.dstm_command.specs.declared.command.Command.{Command}
use Rattle.dstm_command.specs.declared.command.Command.TheVariants.{Run, Check, Gen, Demo}
use Rattle.dstm_model.specs.declared.layout.Layout.{Layout}
use Rattle.dstm_jobs.specs.Tables.{Round}
use Rattle.dstm_records.specs.Records.{AreFirstRounds}
use Rattle.dstm_records.specs.Running.{IsClosed}
use Rattle.dstm_records.proofs.First.{first_closed, no_first_rounds}
use Rattle.dstm_workload.specs.declared.workload.Workload.{Workload}
use Rattle.dstm_options.specs.declared.options.Options.{Options}
use Rattle.dstm_tables.specs.Tells.{SightsAgree}
use Rattle.dstm_report.specs.declared.verdict.Verdict.{Verdict}
use Rattle.dstm_report.specs.declared.verdict.Verdict.TheVariants.{Lawful, NotLawful}
use Rattle.dstm_cli.specs.declared.failure.Failure.{Failure}
use Rattle.dstm_cli.specs.declared.failure.Failure.TheVariants.{Memory, ReadFault, Usage, WriteFault}
use Rattle.dstm_cli.specs.Failure.{status_of, TakesOrFaults}
use Rattle.dstm_cli.specs.Command.{run_input, check_input, reads_input, Refuses, verdict_status, workload_for, default_options, Answers, CanAnswer, WereClosed}
use Rattle.dstm_cli.specs.Ending.{Happened, EndsAs}

-- a sink took a text, or met a fault
pub takes_or_faults : {A E : Type 0} (result : Result A E) (old new : Option (List ℕ)) (before after : ℕ)
    (text : List ℕ) →
    OnOk result (Appends old new text) → OnOk result (after ≡ before) →
    OnErr result (AppendsPart old new text) → OnErr result (Rises before after) → TakesOrFaults old new before after text
takes_or_faults (Ok done) old new before after text taken no_fault part fault = inl (taken, no_fault)
takes_or_faults (Err error) old new before after text taken no_fault part fault = inr (part, fault)

pub on_err : {A E : Type 0} (result : Result A E) (P : Type 0) → P → OnErr result P
on_err (Ok done) P holds = tt
on_err (Err error) P holds = holds

pub on_err-then : {A E : Type 0} (result : Result A E) (P Q : Type 0) → (P → Q) → OnErr result P → OnErr result Q
on_err-then (Ok done) P Q then h = tt
on_err-then (Err error) P Q then h = then h

-- a piece of a text was taken in part, behind what was taken whole
pub part_behind : (a b c : Option (List ℕ)) (front piece rest text : List ℕ) → text ≡ front ++ piece ++ rest →
    Appends a b front → AppendsPart b c piece → AppendsPart a c text
part_behind a b c front piece rest text is whole (count, less, some) =
    let cut : take (length front + count) text ≡ front ++ take count piece =
    ap (take (length front + count)) (is ∙ append_assoc front piece rest)
    ∙ take-append-add front (piece ++ rest) count ∙ ap (λ (l : List ℕ). front ++ l)
    (take-append-le count piece rest (omega arith)) in (
      length front + count,
      simp (is, length-append) (omega arith),
      subst (Appends a c) (sym cut) (Appends-trans a b c front (take count piece) whole some),
    )

-- 0 and 6 are no status between them
pub between : {A : Type 0} (status other : ℕ) → (status ≡ 0) ⊎ (status ≡ 6) → status ≡ other → (0 < other) × (other < 6) → A
between status other is same bounds = absurd (omega (arith, is))

verdict_is : (verdict : Verdict) (status : ℕ) → status ≡ verdict_status verdict → (status ≡ 0) ⊎ (status ≡ 6)
verdict_is Lawful status is = inl is
verdict_is (NotLawful line) status is = inr is

-- ---- a command that answers

-- its status is 0 or 6
pub status_is : (command : Option Command) (left : Option (List ℕ) × Option (List ℕ)) (records : List Round) (text : List ℕ)
    (status : ℕ) → Answers command left records text status → (status ≡ 0) ⊎ (status ≡ 6)
status_is None left records text status answers = absurd answers
status_is (Some (Run options)) left records text status answers = inl answers.0
status_is (Some Check) left records text status answers = verdict_is answers.1.0 status answers.1.1.1
status_is (Some (Gen spec)) left records text status answers = inl answers.1
status_is (Some (Demo spec)) left records text status answers = inl answers.0

ok-err : {A E : Type 0} (result : Result A E) (a : A) (e : E) → result ≡ Ok a → result ≡ Err e → ⊥
ok-err result a e ok err = true≢false (ap is_ok (sym ok ∙ err))

-- its input is not refused
not_refused : (command : Option Command) (input : List ℕ) (after : Option (List ℕ)) (records : List Round) (text : List ℕ)
    (status : ℕ) (failure : Failure) →
    Answers command (Some input, after) records text status → Refuses command input failure → ⊥
not_refused None input after records text status failure answers refuses = absurd answers
not_refused (Some (Run options)) input after records text status failure answers refuses =
    ok-err (run_input input) answers.1.0 failure answers.1.1.1.1.1 refuses
not_refused (Some Check) input after records text status failure answers refuses =
    ok-err (check_input input) answers.1.1.2.0 failure answers.1.1.2.1.1.1 refuses
not_refused (Some (Gen spec)) input after records text status failure answers refuses = absurd refuses
not_refused (Some (Demo spec)) input after records text status failure answers refuses = absurd refuses

pub answered-refuses : (command : Option Command) (left after : Option (List ℕ)) (records : List Round) (text : List ℕ)
    (status : ℕ) (R : Type 0) →
    Answers command (left, after) records text status → IfSome left (λ input. (failure : Failure) →
    Refuses command input failure → R)
answered-refuses command None after records text status R answers = tt
answered-refuses command (Some input) after records text status R answers =
    λ failure refuses. absurd (not_refused command input after records text status failure answers refuses)

-- ---- the records that a command adds

-- where there are none, they are those of the first rounds of a run
pub none_closed : (command : Option Command) (left : Option (List ℕ) × Option (List ℕ)) (records : List Round) →
    records ≡ [] → WereClosed command left records
none_closed None left records none = none
none_closed (Some (Run options)) left records none = inl none
none_closed (Some Check) left records none = none
none_closed (Some (Gen spec)) left records none = none
none_closed (Some (Demo spec)) left records none =
    subst (AreFirstRounds (workload_for spec) default_options) (sym none) (no_first_rounds (workload_for spec) default_options)

each_sight : (layout : Layout) (records : List Round) → AllByRecursion (IsClosed layout) records →
    AllByRecursion SightsAgree records
each_sight layout [] closed = tt
each_sight layout (round ∷ records) closed = (closed.0.sights, each_sight layout records closed.1)

all_sights : (workload : Workload) (options : Options) (records : List Round) → AreFirstRounds workload options records →
    All SightsAgree records
all_sights workload options records first =
    let layout = workload.layout in
    All-from_recursion SightsAgree records
    (each_sight layout records
    (recursion_from_All (IsClosed layout) records (first_closed workload options records first)))

no_sights : (records : List Round) → records ≡ [] → All SightsAgree records
no_sights records none = subst (All SightsAgree) (sym none) (All-from_recursion SightsAgree [] tt)

-- what attempts saw in the first rounds of a run
pub closed_sights : (command : Option Command) (left : Option (List ℕ) × Option (List ℕ)) (records : List Round) →
    WereClosed command left records → All SightsAgree records
closed_sights None left records closed = no_sights records closed
closed_sights (Some (Run options)) left records (inl none) = no_sights records none
closed_sights (Some (Run options)) left records (inr closed) = all_sights closed.0 options records closed.1.0
closed_sights (Some Check) left records closed = no_sights records closed
closed_sights (Some (Gen spec)) left records closed = no_sights records closed
closed_sights (Some (Demo spec)) left records closed = all_sights (workload_for spec) default_options records closed

-- a failure that is told with 1, 2 or 3 has left no records
pub failed-unplayed : (command : Option Command) (what : Happened) (failure : Failure) →
    EndsAs command what (Err failure) →
    (status_of failure ≡ 1) ⊎ (status_of failure ≡ 2) ⊎ (status_of failure ≡ 3) → what.records ≡ []
failed-unplayed command what Usage ends is = ends.1.1
failed-unplayed command what ReadFault ends is = ends.2.1
failed-unplayed command what WriteFault ends is = absurd (omega (arith, is))
failed-unplayed command what Memory ends is = absurd (omega (arith, is))
failed-unplayed command what failure ends is = ends.2.1

-- ---- a command that fails

-- what is told with 2 is what is refused
pub failed-reason : (command : Option Command) (what : Happened) (failure : Failure) →
    EndsAs command what (Err failure) → status_of failure ≡ 2 →
    IfSome what.left_before (λ input. Refuses command input failure)
failed-reason command what Usage ends is = absurd (omega (arith, is))
failed-reason command what ReadFault ends is = absurd (omega (arith, is))
failed-reason command what WriteFault ends is = absurd (omega (arith, is))
failed-reason command what Memory ends is = absurd (omega (arith, is))
failed-reason command what failure ends is = ends.1

-- what is refused is answered by 2, if not by 5 or 3
refused_so : (command : Option Command) (left : Option (List ℕ)) (what : Happened) (failure : Failure) →
    what.left_before ≡ left → EndsAs command what (Err failure) →
    IfSome left (λ input. (f : Failure) → Refuses command input f →
    (status_of failure ≡ 2) ⊎ (status_of failure ≡ 5) ⊎ Rises what.read_faults_before what.read_faults_after)
refused_so command None what failure is ends = tt
refused_so command (Some input) what Usage is ends =
    λ f refuses. absurd (subst (λ (c : Option Command). Refuses c input f) ends.0 refuses)
refused_so command (Some input) what ReadFault is ends = λ f refuses. inr (inr ends.1)
refused_so command (Some input) what WriteFault is ends =
    λ f refuses. absurd (not_refused command input what.left_after what.records ends.1.0 ends.1.1.0 f
    (subst (λ (l : Option (List ℕ)). Answers command (l, what.left_after) what.records ends.1.0 ends.1.1.0) is ends.1.1.1.0) refuses)
refused_so command (Some input) what Memory is ends = λ f refuses. inr (inl refl)
refused_so command (Some input) what failure is ends = λ f refuses. inl refl

pub failed-refuses : (command : Option Command) (what : Happened) (failure : Failure) →
    EndsAs command what (Err failure) →
    IfSome what.left_before (λ input. (f : Failure) → Refuses command input f →
    (status_of failure ≡ 2) ⊎ (status_of failure ≡ 5) ⊎ Rises what.read_faults_before what.read_faults_after)
failed-refuses command what failure ends = refused_so command what.left_before what failure refl ends

ok-is : {A E : Type 0} (result : Result A E) (e : E) → IsOk result → result ≡ Err e → ⊥
ok-is result e ok err = true≢false (sym ok ∙ ap is_ok err)

-- what can be answered is not refused
refused-not : (command : Option Command) (left : Option (List ℕ)) (failure : Failure) → CanAnswer command left →
    reads_input command ≡ true → IfSome left (λ input. Refuses command input failure) → ⊥
refused-not None left failure can reads refuses = absurd can
refused-not (Some (Run options)) None failure can reads refuses = absurd can
refused-not (Some Check) None failure can reads refuses = absurd can
refused-not (Some (Gen spec)) None failure can reads refuses = true≢false (sym reads)
refused-not (Some (Demo spec)) None failure can reads refuses = true≢false (sym reads)
refused-not (Some (Run options)) (Some input) failure can reads refuses = ok-is (run_input input) failure can refuses
refused-not (Some Check) (Some input) failure can reads refuses = ok-is (check_input input) failure can refuses
refused-not (Some (Gen spec)) (Some input) failure can reads refuses = absurd refuses
refused-not (Some (Demo spec)) (Some input) failure can reads refuses = absurd refuses

-- what can be answered is answered, unless a fault is counted or memory runs out
pub failed-complete : (command : Option Command) (what : Happened) (failure : Failure) →
    EndsAs command what (Err failure) → CanAnswer command what.left_before →
    (status_of failure ≡ 0) ⊎ (status_of failure ≡ 6) ⊎ (status_of failure ≡ 5)
    ⊎ Rises what.read_faults_before what.read_faults_after ⊎ Rises what.write_faults_before what.write_faults_after
failed-complete command what Usage ends can =
    absurd (subst (λ (c : Option Command). CanAnswer c what.left_before) ends.0 can)
failed-complete command what ReadFault ends can = inr (inr (inr (inl ends.1)))
failed-complete command what WriteFault ends can = inr (inr (inr (inr ends.0)))
failed-complete command what Memory ends can = inr (inr (inl refl))
failed-complete command what failure ends can =
    absurd (refused-not command what.left_before failure can ends.0 ends.1)
