-- A walk goes on below a node that was read.
use Rattle.dstm_tree.proofs.Base.{ℕ, ◌≡◌, ◌-◌, ◌<◌, ◌≤◌, List, Ok, Val, Region, Ghosts, with_set, Node, Side, child}
use Rattle.dstm_tree.proofs.Base.{IsRead, Subtree, IsOpen, Steps}
use Rattle.dstm_tree.proofs.Removing.{go-below, depth-some, subtree-within}
use Rattle.dstm_tree.proofs.Stepping.{open-after}

-- the memory after the read, and the subtree on a side, which has fewer nodes
pub record Walk {S E : Type 0} (M : Ghosts S E) (region : Region) (side : Side) (depth : ℕ) (x : Node) (memory : S) :
    Type 0 where
  pub deep : 0 < depth
  pub within : child side x ≤ region.nodes
  pub ready : IsOpen M region memory
  pub goes : (map : List Val) → M.Admits memory map →
      Subtree region (with_set map (M.written memory)) (child side x) (depth - 1)

pub walk : {S E : Type 0} {M : Ghosts S E} {region : Region} {IsQuiet : Node → Type 0} {old new : S} (side : Side)
    {at depth : ℕ} {x : Node} → IsOpen M region old →
    ((map : List Val) → M.Admits old map → Subtree region (with_set map (M.written old)) at depth) →
    Steps M region IsQuiet (IsRead region at) old new (Ok x) → (at ≡ 0 → ⊥) → Walk M region side depth x new
walk {M = M} {new = new} side ready lawful read some =
    let goes = λ (map : List Val) (a : M.Admits new map).
    go-below side ready.tree (read.does map a) some (lawful map (read.leads.narrows map a)) in
    let (map, a) = read.leads.admits in
    record {
      deep = depth-some ready.tree (read.does map a) some (lawful map (read.leads.narrows map a));
      within = subtree-within (goes map a);
      ready = open-after ready read;
      goes = goes;
    }
