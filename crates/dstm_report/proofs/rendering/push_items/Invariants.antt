use Rattle.std.proofs.Common.{◌≡◌, ◌++◌, take}
use Rattle.std.specs.List.{flat_map}
use Rattle.dstm_report.specs.Text.{item_field}
use Rattle.dstm_report.proofs.rendering.push_items.Given as goal

abbrev pub invariant-loop-item : goal.invariant-loop-item
invariant-loop-item l =
    l.out.items ≡ l.initial.out.items ++ flat_map (item_field l.version) (take l.item-index l.item-items)
