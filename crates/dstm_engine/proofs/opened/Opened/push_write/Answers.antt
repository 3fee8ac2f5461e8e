use Rattle.std.proofs.Common.{◌<◌, ◌∙◌, ◌≡◌, ap, arith, length, refl, subst, sym}
use Rattle.std.specs.Prelude.{slice_set}
use Rattle.std.proofs.lemmas.List.{get_or_default, length-set}
use Rattle.dstm_mem.proofs.Slots.{beside, pushed, unplaced}
use Rattle.dstm_mem.specs.Slots.{no_place, place_at}
use Rattle.dstm_mem.specs.declared.places.Place.{Place}
use Rattle.dstm_engine.specs.Opened.{AreWritePlaces, OpenedAs, write_slot}
use Rattle.dstm_engine.proofs.opened.Opened.push_write.Goals as goal

pub invariant_of-self : goal.invariant_of-self
invariant_of-self c =
    let old = c.self.invariant in
    let writes = c.self.inside.writes.items in
    let places = c.self.inside.places.items in
    let s = c.args.slot in
    let place = c.index_mut.result.now in
    let new : Place = record place { write = c.push.new.place } in
    let below : s.object < length places =
    subst (λ (x : OpenedAs). s.object < x.objects) (sym c.self.view_is) c.requires.exists in
    let few : length writes < length places =
    subst (λ (x : OpenedAs). length x.writes < x.objects) (sym c.self.view_is) c.requires.room in
    let at : place ≡ place_at places s.object = c.index_mut.ensures.value ∙ get_or_default places s.object place no_place below in
    let none = unplaced old.writes s.object below _ refl
    (ap (λ (x : OpenedAs). write_slot x.writes s.object) c.self.view_is ∙ c.requires.unopened) in
    let wide = length-set places s.object new in
    let count = c.push.ensures.count in
    let capacity = c.push.ensures.capacity in
    record {
      reads = beside (λ (q : Place). q.read) places old.reads s.object below new (ap (λ (q : Place). q.read) at);
      writes = subst (λ ws. AreWritePlaces ws (slice_set places s.object new)) (sym c.push.ensures.items)
          (pushed (λ (q : Place). q.write) places old.writes s below refl none new c.push.ensures.place);
      room = ((let a = old.room.0 in omega arith), (let a = old.room.1 in omega arith));
      few = ((let a = old.few.0 in omega arith), omega arith, (let a = old.few.2 in omega arith));
      counted = old.counted;
    }
