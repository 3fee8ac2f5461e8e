use Rattle.std.proofs.Common.{◌++◌, ◌<◌, ◌∷◌, ◌≡◌, [], ap, arith, false, length, length-append, refl, sym, ℕ, length-set}
use Rattle.dstm_mem.proofs.Slots.{beside, place_is, pushed, room_for}
use Rattle.dstm_mem.specs.declared.places.Place.{Place}
use Rattle.dstm_model.specs.declared.value.Val.{Val}
use Rattle.dstm_tl2_steps.proofs.Placing.{unopened_there}
use Rattle.dstm_tl2_steps.proofs.Slots.{set_push}
use Rattle.dstm_tl2_steps.proofs.opened.Opened.push_write.Goals as goal

pub push-requires-clause-room : goal.push-requires-clause-room
push-requires-clause-room c =
    let old = c.self.invariant in
    let below = rw (← c.self.view_is) at c.requires.exists in
    let none = unopened_there _ _ old.writes c.args.o below (rw (← c.self.view_is) at c.requires.unopened) in
    let few = room_for old.writes (λ x. refl) (c.args.o, c.args.value) below none in
    let room = old.room.1 in omega arith

pub push_reserved-requires : goal.push_reserved-requires
push_reserved-requires c =
    let old = c.self.invariant in
    let below = rw (← c.self.view_is) at c.requires.exists in
    let none = unopened_there _ _ old.writes c.args.o below (rw (← c.self.view_is) at c.requires.unopened) in
    let few = room_for old.writes (λ x. refl) (c.args.o, c.args.value) below none in
    let room = old.room.2 in let long = old.sets in omega arith

pub invariant_of-self : goal.invariant_of-self
invariant_of-self c =
    let old = c.self.invariant in
    let places = c.self.inside.places.items in
    let o = c.args.o in
    let w : ℕ × Val = (o, c.args.value) in
    let place = c.index_mut.result.now in
    let new : Place = record place { write = c.push.new.place } in
    let below : o < length places = rw (← c.self.view_is) at c.requires.exists in
    let none = unopened_there _ _ old.writes o below (rw (← c.self.view_is) at c.requires.unopened) in
    let few = room_for old.writes (λ x. refl) w below none in
    let wide = length-set places o new in
    let count = c.push.ensures.count in
    let capacity = c.push.ensures.capacity in
    let set_capacity = c.push_reserved.ensures.capacity in
    let sets : length c.push_reserved.new.self.items ≡ length (c.self.inside.sets.items ++ false ∷ []) =
    ap length c.push_reserved.ensures.items in
    let more_sets = length-append c.self.inside.sets.items (false ∷ []) in
    record {
      reads = beside (λ (q : Place). q.read) places old.reads o below new
          (ap (λ (q : Place). q.read) (sym (place_is places o below place c.index_mut.ensures.value)));
      writes = rw c.push.ensures.items (pushed (λ (q : Place). q.write) places old.writes w below refl none new c.push.ensures.place);
      sets = let a = old.sets in omega arith;
      room = (
        (let a = old.room.0 in omega arith),
        (let a = old.room.1 in omega arith),
        (let a = old.room.2 in omega arith),
      );
      few = ((let a = old.few.0 in omega arith), omega arith, (let a = old.few.2 in omega arith));
    }

pub returns : goal.returns
returns c =
    rw (← c.self.view_is) (rw (c.push.ensures.items, c.push_reserved.ensures.items) (simp (
      length-set,
      set_push c.self.inside.sets.items c.self.inside.writes.items (c.args.o, c.args.value) c.self.invariant.sets,
    ) refl))
