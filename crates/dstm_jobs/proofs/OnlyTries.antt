-- A try of a table's only caller, under either engine, and by TL2.
use Rattle.std.proofs.Common.{◌≡◌, ◌∙◌, ◌<◌, ℕ, List, Bool, false, Option, None, Some, is_some, refl, sym, ap, subst, arith, reverse, ◌&&◌, ◌==◌, if◌then◌else◌}
use Rattle.std.proofs.lemmas.Bool.{and_parts}
use Rattle.dstm_model.specs.declared.value.Val.{Val}
use Rattle.dstm_model.specs.declared.layout.Layout.{Layout}
use Rattle.dstm_model.specs.Map.{Agrees, state_after}
use Rattle.dstm_mem.specs.Memory.{value_in, with_set}
use Rattle.dstm_mem.proofs.WithSet.{with_set-nothing}
use Rattle.dstm_tables.specs.Tells.{entries_of}
use Rattle.dstm_tl2.specs.Histories.{LawfulRun, is_draw, read_values}
use Rattle.dstm_tl2.specs.Rules.{Event}
use Rattle.dstm_tl2.specs.Runs.{local}
use Rattle.dstm_tl2.specs.State.{LocalState}
use Rattle.dstm_tl2.specs.Words.{Table}
use Rattle.dstm_tl2.specs.declared.terms.Terms.{Terms}
use Rattle.dstm_tl2_order.specs.Ended.{HasNoDraw, draws, reads_of}
use Rattle.dstm_tl2_order.proofs.Draws.{drawn_stands, valid_commits}
use Rattle.dstm_tl2_order.proofs.Ones.{one_weaker}
use Rattle.dstm_tl2_order.proofs.WasRead.{reads_so_far}
use Rattle.dstm_tl2.specs.Committed.{done_by}
use Rattle.dstm_tl2_engine.specs.Attempts.{Commits}
use Rattle.dstm_tl2_engine.specs.Callers.{TlCalled, handed, held, is_opened, law_of, table_of_caller, written}
use Rattle.dstm_tl2_engine.specs.Transactions.{BeginsAnew}
use Rattle.dstm_store.specs.declared.law.StoreLaw.{StoreLaw}
use Rattle.dstm_workload.specs.declared.workload.Job.{Job}
use Rattle.dstm_jobs.specs.declared.style.Style.{Style}
use Rattle.dstm_jobs.proofs.Sole.{opened_none}
use Rattle.dstm_tables.specs.declared.tables.Caller.TheVariants.{Tl2}
use Rattle.dstm_jobs.specs.Tables.{OneMore}
use Rattle.dstm_jobs.specs.Jobs.{StoodAt}
use Rattle.dstm_jobs.specs.OnlyCallers.{HasGivenUp, StoodAlone}
use Rattle.dstm_jobs.specs.Law.{keeps}
use Rattle.dstm_jobs.proofs.OnlyByTl2.{only_agrees}
use Rattle.dstm_tables.proofs.ByTl2.{tl2_number_below}

-- an attempt with no Draw has drawn nothing
undrawn_of : (t : Table) (es : List Event) (c : ℕ) → HasNoDraw t es c (local t es c).begun → (local t es c).drawn ≡ None
undrawn_of t es c none = go (local t es c).drawn refl
  where
    go : (d : Option ℕ) → (local t es c).drawn ≡ d → d ≡ None
    go None is = refl
    go (Some n) is =
        absurd (let some = one_weaker (λ l e. is_draw e.kind && (e.found == n)) draws t es c (local t es c).begun
        (λ l e h. (and_parts (is_draw e.kind) (e.found == n) h).0) (drawn_stands t es c n is) in cc)

pub stood_alone : (style : Style) (layout : Layout) (job : Job) (k n : TlCalled StoreLaw) → k.home.terms.callers ≡ 1 →
    StoodAt style 1 layout job (Tl2 k) (Tl2 n) → StoodAlone style layout job (Tl2 k) (Tl2 n)
stood_alone style layout job k n one was = record {
  branches = was.branches;
  made = was.made;
  given_up = was.given_up;
  aborted = was.aborted;
  same_done = was.same_done;
  blocked = λ store stands. was.blocked _ store stands agrees;
  inside = was.inside;
  unused = λ reads. refl;
}
  where
    t : Table
    t = table_of_caller n

    only : n.home.terms.callers ≡ 1
    only = ap (λ (terms : Terms StoreLaw). terms.callers) was.made.on.seen.0 ∙ one

    zeroth : n.number ≡ 0
    zeroth = let below = tl2_number_below n was.made.on.rest in omega (arith, below, only)

    some : 0 < (local (table_of_caller n) n.log n.number).begun
    some = let b = was.made.begun in omega (arith, b)

    undrawn : (local (table_of_caller n) n.log 0).drawn ≡ None
    undrawn =
        subst (λ c. (local (table_of_caller n) n.log c).drawn ≡ None) zeroth
        (undrawn_of (table_of_caller n) n.log n.number was.given_up)

    lawful : LawfulRun (table_of_caller n) (keeps n.home.terms.law.value) n.log
    lawful = was.made.on.rest.run.run

    agrees : Agrees (state_after (table_of_caller n).start (entries_of (reverse (done_by (table_of_caller n) n.log n.number))))
        (reads_of (table_of_caller n) n.log n.number (local (table_of_caller n) n.log n.number).begun)
    agrees =
        subst (Agrees (state_after (table_of_caller n).start (entries_of (reverse (done_by (table_of_caller n) n.log n.number)))))
        (sym (reads_so_far (table_of_caller n) n.log n.number some))
        (subst (λ c. Agrees (state_after (table_of_caller n).start (entries_of (reverse (done_by (table_of_caller n) n.log c))))
        (read_values (local (table_of_caller n) n.log c).reads)) (sym zeroth)
        (only_agrees (table_of_caller n) (keeps n.home.terms.law.value) n.log lawful only undrawn))

-- nothing is set, so a lawful map stays so
pub stays_lawful : (k b : TlCalled StoreLaw) (map : List Val) → BeginsAnew keeps k b → keeps (law_of b) map →
    keeps (law_of b) (with_set map (written b))
stays_lawful k b map begins lawful =
    rw (with_set-nothing map (written b) (λ o. ap (λ (x : TlCalled StoreLaw). value_in x.set o) begins.caller)) lawful

-- a transaction that opened nothing
pub gave_up : (k b n : TlCalled StoreLaw) (number : ℕ) → BeginsAnew keeps k b → OneMore (Tl2 k) (Tl2 n) → Commits b n number →
    HasGivenUp (Tl2 k) (Tl2 n) number
gave_up k b n number begins made commits =
    opened_none (record { caller = b.number; number = number; entry = commits.entry }) made commits.done begins.same_done
    (λ o. commits.reads o ∙ unread o)
    (λ o. commits.writes o ∙ ap (λ (w : Bool). if w then handed b o else None) (unopened o))
    (valid_commits (table_of_caller n) n.log n.number made.on.rest.run.run.run commits.valid) tt
  where
    unread : (o : ℕ) → held b o ≡ None
    unread o = ap (λ (l : LocalState). value_in (read_values l.reads) o) begins.begun.1

    unopened : (o : ℕ) → is_opened b o ≡ false
    unopened o = ap (λ (x : TlCalled StoreLaw). is_some (value_in x.writes o)) begins.caller
