use Rattle.std.proofs.Common.{◌≡◌, length, take, rules, ap, ◌∙◌}
use Rattle.std.proofs.lemmas.List.{with_items_is, places}
use Rattle.dstm_io.proofs.Progress.{has_read_more}
use Rattle.dstm_io.proofs.transfer.read_all.Goals as goal

pub loop-filled-preserved : goal.loop-filled-preserved
loop-filled-preserved g c =
    let read = c.in_ok-count.ensures in
    let room = c.make_room.new.buffer in
    let same_length : length c.read_behind.new.buffer ≡ room.len = search (rules, places) in
    let lent = ap (take c.loop-filled.filled) c.deref_mut.ensures.value in
    let front = read.front ∙ lent ∙ c.in_ok-make_room.ensures.front in
    rw (with_items_is room c.read_behind.new.buffer same_length)
    (has_read_more _ _ _ _ _ _ _ _ c.loop-filled.filled _ c.in_ok-count.count c.loop-filled.invariant front
    read.taken read.no_fault read.within (search (rules, places)))
