use Rattle.std.proofs.Common.{◌≡◌, ◌∙◌, ap, sym, Some, None}
use Rattle.dstm_core.specs.Indexed.{place_of, reads_at}
use Rattle.dstm_core.proofs.Indexing.{of_one, of_none, indexed_restart, indexed_less, same_list, count_zero}
use Rattle.dstm_core.proofs.Reading.{one_dropped, none_dropped}
use Rattle.dstm_core.proofs.reads.Reads.remove.Goals as goal

pub invariant_of-self : goal.invariant_of-self
invariant_of-self c = indexed_restart c.self.invariant c.in_default.ensures.unchanged

pub returns-in_default : goal.returns-in_default
returns-in_default c =
    let rs = c.self.inside.recorded.items in
    let ks = c.self.inside.live.keys in
    let es = c.self.inside.places.entries in
    let nowhere : place_of c.args.object es ≡ None = sym c.in_default.ensures.value in
    let none = of_none c.args.object c.self.invariant nowhere in
    rw (← c.self.view_is) (same_list _ _ (sym (none_dropped c.args.object rs ks none)) (count_zero ks))

pub invariant_of-self-2 : goal.invariant_of-self-2
invariant_of-self-2 c =
    let rs = c.self.inside.recorded.items in
    let ks = c.self.inside.live.keys in
    let es = c.self.inside.places.entries in
    let there : place_of c.args.object es ≡ Some c.in-Some.place = sym c.in-Some.ensures.value in
    indexed_less c.remove-2.new.self.keys c.remove.new.self.entries c.args.object
    c.in-Some.place c.self.invariant there c.remove.ensures.updates.0 c.remove-2.ensures.updates.0

pub returns : goal.returns
returns c =
    let rs = c.self.inside.recorded.items in
    let ks = c.self.inside.live.keys in
    let es = c.self.inside.places.entries in
    let there : place_of c.args.object es ≡ Some c.in-Some.place = sym c.in-Some.ensures.value in
    let one = of_one c.args.object c.in-Some.place c.self.invariant there in
    rw (← c.self.view_is) (same_list _ _ (ap (reads_at rs) c.remove-2.ensures.keys ∙ one_dropped one)
    (count_zero c.remove-2.new.self.keys))
