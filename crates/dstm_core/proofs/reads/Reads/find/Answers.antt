use Rattle.std.proofs.Common.{◌≡◌, ◌∙◌, ap, sym, Some, None, arith}
use Rattle.dstm_core.specs.Indexed.{place_of}
use Rattle.dstm_core.proofs.Indexing.{of_one, of_none, read_is}
use Rattle.dstm_core.proofs.Reading.{one_found, none_found}
use Rattle.dstm_core.proofs.reads.Reads.find.Goals as goal

pub index-requires : goal.index-requires
index-requires c =
    let there : place_of c.args.object c.self.inside.places.entries ≡ Some c.in-Some.place.now =
    sym c.in-Some.ensures.value in
    let among = (c.self.invariant.placed c.args.object c.in-Some.place.now there).0 in
    let within = c.self.invariant.within c.in-Some.place.now among in
    omega (arith, within, c.self.inside.recorded.ok)

pub returns-in-None : goal.returns-in-None
returns-in-None c =
    let rs = c.self.inside.recorded.items in
    let ks = c.self.inside.live.keys in
    let es = c.self.inside.places.entries in
    let nowhere : place_of c.args.object es ≡ None = sym c.in-None.ensures.value in
    let none = of_none c.args.object c.self.invariant nowhere in
    rw (← c.self.view_is) (sym (none_found c.args.object rs ks none))

pub returns-in-Some : goal.returns-in-Some
returns-in-Some c =
    let rs = c.self.inside.recorded.items in
    let ks = c.self.inside.live.keys in
    let es = c.self.inside.places.entries in
    let p = c.in-Some.place.now in
    let there : place_of c.args.object es ≡ Some p = sym c.in-Some.ensures.value in
    let one = of_one c.args.object p c.self.invariant there in
    rw (← c.self.view_is) (ap Some (read_is rs p (c.self.invariant.within p one.among) c.index.ensures)
    ∙ sym (one_found one))
