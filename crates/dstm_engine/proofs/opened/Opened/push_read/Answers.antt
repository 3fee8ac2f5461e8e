use Rattle.std.proofs.Common.{◌++◌, ◌<◌, ◌==◌, ◌∙◌, ◌∷◌, ◌≡◌, None, [], ap, arith, filter, length, length-append, refl, subst, sym, true}
use Rattle.std.specs.Prelude.{slice_set}
use Rattle.std.proofs.lemmas.List.{get_or_default, length-set}
use Rattle.dstm_mem.proofs.Finding.{find_filter}
use Rattle.dstm_mem.proofs.Slots.{beside, placed_alike, pushed, unplaced}
use Rattle.dstm_mem.specs.Slots.{no_place, place_at}
use Rattle.dstm_mem.specs.declared.places.Place.{Place}
use Rattle.dstm_steps.specs.Sorts.{is_kept}
use Rattle.dstm_steps.specs.declared.slots.ReadSlot.{ReadSlot}
use Rattle.dstm_engine.specs.Opened.{AreReadPlaces, OpenedAs, read_slot}
use Rattle.dstm_engine.proofs.Slots.{filter_push}
use Rattle.dstm_engine.proofs.opened.Opened.push_read.Goals as goal

pub invariant_of-self : goal.invariant_of-self
invariant_of-self c =
    let old = c.self.invariant in
    let room = c.make_room.ensures in
    let reads = c.make_room.new.reads.items in
    let places = c.make_room.new.places.items in
    let s : ReadSlot = record { object = c.args.object; kept = true; word = c.args.word; value = c.args.value } in
    let place = c.index_mut.result.now in
    let new : Place = record place { read = c.push.new.place } in
    let exists : s.object < length c.self.inside.places.items =
    subst (λ (x : OpenedAs). s.object < x.objects) (sym c.self.view_is) c.requires.exists in
    let size = room.size in
    let below : s.object < length places = omega arith in
    let unread : read_slot (filter is_kept reads) s.object ≡ None =
    ap (λ xs. read_slot xs s.object) room.kept
    ∙ subst (λ (x : OpenedAs). read_slot x.reads s.object ≡ None) (sym c.self.view_is) c.requires.unread in
    let none = unplaced room.placed s.object below _ refl
    (sym (find_filter (λ (x : ReadSlot). x.object == s.object) is_kept reads) ∙ unread) in
    let few : length (filter is_kept c.self.inside.reads.items) < length c.self.inside.places.items =
    subst (λ (x : OpenedAs). length x.reads < x.objects) (sym c.self.view_is) c.requires.room in
    let at : place ≡ place_at places s.object = c.index_mut.ensures.value ∙ get_or_default places s.object place no_place below in
    let wide = length-set places s.object new in
    let count = c.push.ensures.count in
    let capacity = c.push.ensures.capacity in
    let kept = ap (λ xs. length xs) (filter_push reads s refl) in
    let one_longer = length-append (filter is_kept reads) (s ∷ []) in
    let all : length (filter is_kept c.push.new.slots.items) ≡ length (filter is_kept (reads ++ s ∷ [])) =
    ap (λ xs. length (filter is_kept xs)) c.push.ensures.items in
    let same_capacity = room.capacity in
    let enough = room.room in
    let counted = room.counted in
    let writes = placed_alike old.writes (length places) (λ o. (place_at places o).write) room.size room.writes in
    record {
      reads = subst (λ rs. AreReadPlaces rs (slice_set places s.object new)) (sym c.push.ensures.items)
          (pushed (λ (q : Place). q.read) places room.placed s below refl none new c.push.ensures.place);
      writes = beside (λ (q : Place). q.write) places writes s.object below new (ap (λ (q : Place). q.write) at);
      room = ((let a = old.room.0 in omega arith), (let a = old.room.1 in omega arith));
      few = (omega arith, (let a = old.few.1 in omega arith), (let a = old.few.2 in omega arith));
      counted = omega arith;
    }
