use Rattle.std.proofs.Common.{◌<◌, ap, arith, length, refl, sym, length-set}
use Rattle.dstm_mem.proofs.Slots.{beside, place_is, pushed, room_for, unplaced}
use Rattle.dstm_mem.specs.declared.places.Place.{Place}
use Rattle.dstm_tl2_steps.proofs.opened.Opened.push_read.Goals as goal

pub push-requires-clause-room : goal.push-requires-clause-room
push-requires-clause-room c =
    let old = c.self.invariant in
    let below = rw (← c.self.view_is) at c.requires.exists in
    let none = unplaced old.reads c.args.slot.object below _ refl (rw (← c.self.view_is) at c.requires.unread) in
    let few = room_for old.reads (λ x. refl) c.args.slot below none in
    let room = old.room.0 in omega arith

pub invariant_of-self : goal.invariant_of-self
invariant_of-self c =
    let old = c.self.invariant in
    let places = c.self.inside.places.items in
    let s = c.args.slot in
    let place = c.index_mut.result.now in
    let new : Place = record place { read = c.push.new.place } in
    let below : s.object < length places = rw (← c.self.view_is) at c.requires.exists in
    let none = unplaced old.reads s.object below _ refl (rw (← c.self.view_is) at c.requires.unread) in
    let few = room_for old.reads (λ x. refl) s below none in
    let wide = length-set places s.object new in
    let count = c.push.ensures.count in
    let capacity = c.push.ensures.capacity in
    record {
      reads = rw c.push.ensures.items (pushed (λ (q : Place). q.read) places old.reads s below refl none new c.push.ensures.place);
      writes = beside (λ (q : Place). q.write) places old.writes s.object below new
          (ap (λ (q : Place). q.write) (sym (place_is places s.object below place c.index_mut.ensures.value)));
      sets = old.sets;
      room = (
        (let a = old.room.0 in omega arith),
        (let a = old.room.1 in omega arith),
        (let a = old.room.2 in omega arith),
      );
      few = (omega arith, (let a = old.few.1 in omega arith), (let a = old.few.2 in omega arith));
    }
