use Rattle.std.specs.Prelude.{Err}
use Rattle.std.proofs.Common.{◌≡◌, rules, arith, refl, sym, ◌∙◌, ap, subst}
use Rattle.dstm_model.specs.declared.reply.Reply.TheVariants.{Yes}
use Rattle.dstm_model.specs.Map.{value_at}
use Rattle.dstm_model.specs.Objects.{free_object}
use Rattle.dstm_mem.specs.Memory.{with_set}
use Rattle.dstm_mem.proofs.Operating.{operates-then, operates-ended}
use Rattle.dstm_region.specs.Region.{IsInside}
use Rattle.dstm_list.specs.Edits.{TakesOut}
use Rattle.dstm_list.proofs.Operations.{does-no_remove, does-remove}
use Rattle.dstm_list.proofs.Steps.{next_within, node-of_list}
use Rattle.dstm_list.proofs.Walked.{inside_map, operates-at, operates-still, set-known}
use Rattle.dstm_list.proofs.edit.remove_at.Goals as goal

pub returns-in_default-clause-applies : goal.returns-in_default-clause-applies
returns-in_default-clause-applies g c =
    operates-still c.requires.ready.admits c.requires.ready.ready.live (λ map admitted.
    does-no_remove c.args.key c.args.place (c.requires.ready.found map admitted) c.in_default.is)

pub replace-requires-2-clause-inside : goal.replace-requires-2-clause-inside
replace-requires-2-clause-inside g c =
    let region = c.args.region in
    let (map, admitted) = c.requires.ready.admits in
    let (held, list) = c.requires.ready.ready.lawful map admitted in
    subst (IsInside region) (sym c.node_object_in-object.ensures)
    (node-of_list region c.args.place.before.next c.requires.fits.some
    (next_within list (c.requires.ready.found map admitted held list).stands))

pub returns-clause-applies : goal.returns-clause-applies
returns-clause-applies g c =
    let M = g.M.Mem in
    let region = c.args.region in
    let start = c.args.mem.now in
    let free_is : c.node_object_in-free.result ≡ free_object region.first = omega (arith, c.node_object_in-free.ensures) in
    let freed = operates-then c.in_ok-rest.ensures.sets c.in_ok-replace.ensures.sets in
    operates-at (operates-then freed c.in_ok-replace-2.ensures.sets) (λ other. absurd (other refl))
    (λ all. ((tt, tt), tt)) (λ map admitted h.
    let before = with_set map (M.written start) in
    let in_map = inside_map region map (M.written start) (g.met.M.Mem.admitted_length start map admitted)
    c.requires.ready.ready.objects in
    let had = ap (value_at before) (sym free_is) ∙ h.first.first.had in
    let one = set-known h.first.first.set refl free_is c.value.ensures in
    let two = set-known h.first.second.set one c.node_object_in-object.ensures refl in
    let three = set-known h.second.set two refl c.value-2.ensures in
    subst (λ after. TakesOut region c.args.key Yes before after) (sym three)
    (does-remove c.args.key c.args.place c.in-Some.node c.in_ok-rest.rest c.requires.fits.some in_map
    (c.requires.ready.found map admitted) c.in-Some.is c.requires.ready.link had))

pub returns-clause-few : goal.returns-clause-few
returns-clause-few g c =
    let free_is : c.node_object_in-free.result ≡ free_object (c.args.region.first) =
    omega (arith, c.node_object_in-free.ensures) in (
      c.args.place.link,
      (
        c.args.place.before.next,
        λ p not_link not_node not_free.
            c.in_ok-replace-2.ensures.written.others p not_link
            ∙ c.in_ok-replace.ensures.written.others p (λ e. not_node (e ∙ c.node_object_in-object.ensures))
            ∙ c.in_ok-rest.ensures.written.others p (λ e. not_free (e ∙ free_is)),
      ),
    )

pub returns-in_err-replace-2-clause-applies : goal.returns-in_err-replace-2-clause-applies
returns-in_err-replace-2-clause-applies g c =
    let freed = operates-then c.in_ok-rest.ensures.sets c.in_ok-replace.ensures.sets in
    let answer = c.from_residual-in_err-replace-2.ensures in
    let is : c.from_residual-in_err-replace-2.result ≡ Err c.in_err-replace-2.field-0.0 = search rules in
    rw is (operates-ended freed c.in_err-replace-2.ensures.sets)
