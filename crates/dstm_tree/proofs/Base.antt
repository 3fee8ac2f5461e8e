-- What the proofs speak of: the words of std, of the store, of memories and of the tree.
pub use Rattle.std.proofs.Common.{Bool, List, [], ap, append-nil, append_assoc, arith, cond, eq-eqb, false, inl, inr}
pub use Rattle.std.proofs.Common.{length, length-append, max, refl, rules, subst, suc, sym, true, w16, zero, ℕ, ◌*◌}
pub use Rattle.std.proofs.Common.{◌++◌, ◌+◌, ◌-◌, ◌<◌, ◌^◌, ◌∙◌, ◌∷◌, ◌≡◌, ◌≤◌}
pub use Rattle.std.proofs.Math.Facts.{Fits-of_lt}
pub use Rattle.std.proofs.Math.Nat.{max-le, two-pow-succ}
pub use Rattle.std.proofs.lemmas.Bool.{cases_eq, cases_order, false_from_ne_true, le-ltb, lt-ltb, ne_eqb, not-false}
pub use Rattle.std.proofs.lemmas.Bool.{not-true, true_from_ne_false}
pub use Rattle.std.proofs.lemmas.List.Sums.{sum_by-cons}
pub use Rattle.std.specs.Ordering.{is_eq, match_ordering, nat_cmp}
pub use Rattle.std.specs.Prelude.{IsSome, None, Ok, Option, Some, if◌then◌else◌, is_some, nat_lt, not, unwrap_or, ◌==◌}
pub use Rattle.std.specs.declared.cmp.Ordering.{Ordering}
pub use Rattle.std.specs.declared.cmp.Ordering.TheVariants.{Equal, Greater, Less}
pub use Rattle.dstm_model.specs.Map.{value_at}
pub use Rattle.dstm_model.specs.Objects.{plain}
pub use Rattle.dstm_model.specs.Store.{value_of, with_item, without_item, yes_or_no}
pub use Rattle.dstm_model.specs.declared.value.Val.{Val}
pub use Rattle.dstm_mem.proofs.Operations.{leads-answers, leads-none, leads-then, only_reads-none, only_reads-then}
pub use Rattle.dstm_mem.proofs.Operations.{opens_to_set-none, opens_to_set-of_reads, opens_to_set-then}
pub use Rattle.dstm_mem.proofs.WithSet.{value_at-opened, value_at-same_set, value_at-with_set, with_set-same}
pub use Rattle.dstm_mem.specs.Memory.{with_set}
pub use Rattle.dstm_mem.specs.Operations.{OnlyReads}
pub use Rattle.dstm_mem.specs.declared.memory.Mem.{Ghosts}
pub use Rattle.dstm_region.specs.declared.region.Region.{Region}
pub use Rattle.dstm_tree.specs.Items.{Placing, Puts, TakesOut, placing}
pub use Rattle.dstm_tree.specs.Node.{FitsNode, FitsTree, Fork, IsRead, Stands, Subtree, child, sided, tree_of, val_of}
pub use Rattle.dstm_tree.specs.Node.{with_child, with_red}
pub use Rattle.dstm_tree.specs.Objects.{HasItems, Holds, IsFreeChain, first_of, free_of, node_value, object_of, root_of}
pub use Rattle.dstm_tree.specs.Place.{AddsBelow, AddsPair, AddsRoot, Answers, Attaches, CanPlace, FitsPlaced, Grows}
pub use Rattle.dstm_tree.specs.Place.{IsFree, IsFull, IsPlaced, IsSettled, IsTaken, Keeps, LeavesAll, Parent, Places}
pub use Rattle.dstm_tree.specs.Place.{PlacesLeaf, Replaces, TakesFirstFree, free_count}
pub use Rattle.dstm_tree.specs.Remove.{Arranges, Became, Changes, Closes, Fall, FindsRed, Gap, GivesBack, HasFall}
pub use Rattle.dstm_tree.specs.Remove.{HasGap, Hoists, IsCut, IsRedFork, Lifts, Loses, NamesRoot, Recolours, RemovesIf}
pub use Rattle.dstm_tree.specs.Remove.{RemovesRoot, TakesKey, TakesKeyIf, TakesLeast, blackness, fall_of, one_at}
pub use Rattle.dstm_tree.specs.Side.{IsToward, on, other}
pub use Rattle.dstm_tree.specs.Steps.{Finds, IsOpen, Reads, ReadsRoot, Sets, Steps, Updates}
pub use Rattle.dstm_tree.specs.Tree.{IsBalanced, IsOrdered, Tree, black_height, count_of, height, is_red, items_of}
pub use Rattle.dstm_tree.specs.Tree.{leaf, node, number_of}
pub use Rattle.dstm_tree.specs.declared.balance.Cut.{Cut}
pub use Rattle.dstm_tree.specs.declared.node.Node.{Node}
pub use Rattle.dstm_tree.specs.declared.place.Placed.{Placed}
pub use Rattle.dstm_tree.specs.declared.place.Placed.TheVariants.{Added, Found, Full, Pair, Root}
pub use Rattle.dstm_tree.specs.declared.place.Request.{Request}
pub use Rattle.dstm_tree.specs.declared.removal.Least.{Least}
pub use Rattle.dstm_tree.specs.declared.removal.Removed.{Removed}
pub use Rattle.dstm_tree.specs.declared.side.Side.{Side}
pub use Rattle.dstm_tree.specs.declared.side.Side.TheVariants.{Left, Right}
