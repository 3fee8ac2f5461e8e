use Rattle.std.specs.Prelude.{Err}
use Rattle.std.proofs.Common.{◌≡◌, ◌≢◌, ℕ, IsTrue, rules, arith, refl, sym, ◌∙◌, ap, subst}
use Rattle.dstm_model.specs.declared.reply.Reply.TheVariants.{Yes, Full}
use Rattle.dstm_model.specs.Map.{value_at}
use Rattle.dstm_model.specs.Objects.{free_object}
use Rattle.dstm_mem.specs.declared.memory.Mem.{Ghosts}
use Rattle.dstm_mem.specs.Memory.{with_set}
use Rattle.dstm_mem.proofs.Operating.{operates-then, operates-ended}
use Rattle.dstm_region.specs.Region.{IsInside}
use Rattle.dstm_list.specs.List.{node, next_of}
use Rattle.dstm_list.specs.Edits.{Adds}
use Rattle.dstm_list.specs.Reads.{IsRead}
use Rattle.dstm_list.proofs.Operations.{does-no_insert, does-full, does-insert, first_free}
use Rattle.dstm_list.proofs.Steps.{node-of_list}
use Rattle.dstm_list.proofs.Walked.{inside_map, operates-at, operates-still, set-known}
use Rattle.dstm_list.proofs.edit.insert_at.Goals as goal

pub returns-then-is_some-clause-applies : goal.returns-then-is_some-clause-applies
returns-then-is_some-clause-applies g c =
    operates-still c.requires.ready.admits c.requires.ready.ready.live (λ map admitted.
    does-no_insert c.args.key c.args.place (c.requires.ready.found map admitted)
    (sym c.is_some.ensures ∙ c.if-is_some.true))

-- no node is free
pub returns-then-number-eq0-clause-applies : goal.returns-then-number-eq0-clause-applies
returns-then-number-eq0-clause-applies g c =
    let region = c.args.region in
    let free_is : c.node_object_in-free.result ≡ free_object region.first =
    omega (arith, c.node_object_in-free.ensures) in
    operates-at c.in_ok-number.ensures.looks (λ look. tt) (λ all. tt) (λ map admitted seen.
    let before = with_set map (g.M.Mem.written c.args.mem.now) in
    subst (λ after. Adds region c.args.key Full before after) (sym seen.same)
    (does-full c.args.key c.in_ok-number.field-0.next c.args.place c.requires.fits c.requires.fits.some
    (c.requires.ready.found map admitted) (sym c.is_some.ensures ∙ c.if-is_some.false)
    (seen.next ∙ ap next_of (ap (value_at before) free_is)) c.if-number-eq0.true))

pub replace-requires-clause-inside : goal.replace-requires-clause-inside
replace-requires-clause-inside g c =
    let region = c.args.region in
    let looks = c.in_ok-number.ensures.looks in
    let (map, admitted) = looks.leads.admits in
    let (held, list) = c.requires.ready.ready.lawful map (looks.leads.narrows map admitted) in
    let before = with_set map (g.M.Mem.written c.args.mem.now) in
    let free_is : c.node_object_in-free.result ≡ free_object region.first =
    omega (arith, c.node_object_in-free.ensures) in
    let free = (looks.does map admitted).next ∙ ap next_of (ap (value_at before) free_is) in
    subst (IsInside region) (sym c.node_object_in-object.ensures)
    (node-of_list region c.in_ok-number.field-0.next c.requires.fits.some
    (first_free c.in_ok-number.field-0.next c.requires.fits c.requires.fits.some list free).1)

pub returns-clause-applies : goal.returns-clause-applies
returns-clause-applies g c =
    let M = g.M.Mem in
    let region = c.args.region in
    let begin = region.first in
    let start = c.args.mem.now in
    let place = c.args.place in
    let i = c.in_ok-number.field-0.next in
    let free_is : c.node_object_in-free.result ≡ free_object begin = omega (arith, c.node_object_in-free.ensures) in
    let filled = operates-then c.in_ok-number.ensures.looks c.in_ok-rest.ensures.sets in
    let taken = operates-then filled c.in_ok-replace.ensures.sets in
    operates-at (operates-then taken c.in_ok-replace-2.ensures.sets) (λ other. absurd (other refl))
    (λ all. (((tt, tt), tt), tt)) (λ map admitted h.
    let before = with_set map (M.written start) in
    let seen = h.first.first.first in
    let had = h.first.first.second in
    let in_map = inside_map region map (M.written start) (g.met.M.Mem.admitted_length start map admitted)
    c.requires.ready.ready.objects in
    let free = seen.next ∙ ap next_of (ap (value_at before) free_is) in
    let rest = ap (value_at before) (sym c.node_object_in-object.ensures)
    ∙ ap (λ x. value_at x c.node_object_in-object.result) (sym seen.same) ∙ had.had in
    let one = set-known had.set seen.same c.node_object_in-object.ensures
    (c.value.ensures ∙ ap (λ k. node k place.before.next) c.from.ensures) in
    let two = set-known h.first.second.set one free_is refl in
    let three = set-known h.second.set two refl c.value-2.ensures in
    subst (λ after. Adds region c.args.key Yes before after) (sym three)
    (does-insert c.args.key i place c.in_ok-rest.rest c.requires.fits c.requires.fits.some in_map
    (c.requires.ready.found map admitted) (sym c.is_some.ensures ∙ c.if-is_some.false) c.requires.ready.link free
    c.if-number-eq0.false rest))

pub returns-clause-few : goal.returns-clause-few
returns-clause-few g c =
    let free_is : c.node_object_in-free.result ≡ free_object (c.args.region.first) =
    omega (arith, c.node_object_in-free.ensures) in (
      c.args.place.link,
      (
        c.in_ok-number.field-0.next,
        λ p not_link not_node not_free.
            c.in_ok-replace-2.ensures.written.others p not_link
            ∙ c.in_ok-replace.ensures.written.others p (λ e. not_free (e ∙ free_is))
            ∙ c.in_ok-rest.ensures.written.others p (λ e. not_node (e ∙ c.node_object_in-object.ensures))
            ∙ (c.in_ok-number.ensures.looks.quiet tt).sets p,
      ),
    )

pub returns-in_err-replace-2-clause-applies : goal.returns-in_err-replace-2-clause-applies
returns-in_err-replace-2-clause-applies g c =
    let filled = operates-then c.in_ok-number.ensures.looks c.in_ok-rest.ensures.sets in
    let taken = operates-then filled c.in_ok-replace.ensures.sets in
    let answer = c.from_residual-in_err-replace-2.ensures in
    let is : c.from_residual-in_err-replace-2.result ≡ Err c.in_err-replace-2.field-0.0 = search rules in
    rw is (operates-ended taken c.in_err-replace-2.ensures.sets)

pub returns-clause-looked : goal.returns-clause-looked
returns-clause-looked g c p other read =
    let free_is : c.node_object_in-free.result ≡ free_object (c.args.region.first) =
    omega (arith, c.node_object_in-free.ensures) in
    c.in_ok-number.ensures.reads p (λ e. other (e ∙ free_is))
    (c.in_ok-rest.ensures.reads p (c.in_ok-replace.ensures.reads p (c.in_ok-replace-2.ensures.reads p read)))

-- what is opened for writing is no read
opened-is_no_read : {S E : Type 0} (M : Ghosts S E) (memory : S) (o p : ℕ) → IsTrue (M.is_opened memory o) →
    IsRead M memory p → p ≢ o
opened-is_no_read M memory o p opened read same =
    let marked : IsTrue (M.is_opened memory p) = subst (λ q. IsTrue (M.is_opened memory q)) (sym same) opened in
    search rules

pub returns-clause-reads : goal.returns-clause-reads
returns-clause-reads g c some p read =
    let M = g.M.Mem in
    let opened = c.in_ok-replace-2.ensures.opened.stays c.node_object_in-free.result
    c.in_ok-replace.ensures.opened.opened in
    c.in_ok-number.ensures.reads p (opened-is_no_read M _ c.node_object_in-free.result p opened read)
    (c.in_ok-rest.ensures.reads p (c.in_ok-replace.ensures.reads p (c.in_ok-replace-2.ensures.reads p read)))
