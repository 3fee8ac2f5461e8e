-- A walk along the list to a key's place. No memory stands in these lemmas.
use Rattle.std.proofs.Common.{◌≡◌, ◌≢◌, ℕ, ◌+◌, ◌-◌, ◌<◌, ◌≤◌, List, [], ◌∷◌, ◌++◌, true, false, cond, ◌==◌, arith}
use Rattle.std.proofs.Common.{refl, sym, ◌∙◌, ap, subst, inl, inr}
use Rattle.std.specs.Prelude.{Option, Some, None, MatchOption}
use Rattle.std.specs.List.{AllByRecursion as Each}
use Rattle.std.specs.List.Sorted.{IsStrictlyIncreasing}
use Rattle.std.proofs.lemmas.Bool.{ne_eqb, eq-eqb, cases_eq}
use Rattle.std.proofs.lemmas.List.{append_assoc, map-append}
use Rattle.std.proofs.lemmas.List.Sorted.{IsPermutation-sym}
use Rattle.dstm_model.specs.declared.value.Val.{Val}
use Rattle.dstm_model.specs.Map.{value_at}
use Rattle.dstm_model.specs.Objects.{node_object}
use Rattle.dstm_region.specs.declared.region.Region.{Region}
use Rattle.dstm_region.specs.Region.{IsInside}
use Rattle.dstm_list.specs.declared.node.Node.{Node}
use Rattle.dstm_list.specs.declared.walk.Place.{Place}
use Rattle.dstm_list.specs.List.{Cell, FitsList, HasKeys, IsChain, numbers_of, first_of, node, key_of, next_of}
use Rattle.dstm_list.specs.Place.{Stands, IsPlace, IsFirst, AllLess, AllGreater, link_after, key_after}
use Rattle.dstm_list.proofs.Keys.{Rise, Rise-of_increasing, Rise-after, Rise-next, AllGreater-of_Rise}
use Rattle.dstm_list.proofs.Numbers.{IsNumber, within, each-left, each-right}

-- ---- the region's objects

pub head-of_list : (region : Region) → 0 < region.nodes → IsInside region region.first
head-of_list region declared = (omega arith, omega arith)

pub node-of_list : (region : Region) (i : ℕ) → 0 < region.nodes → i ≤ region.nodes →
    IsInside region (node_object region.first i)
node-of_list region i declared h = (omega arith, omega (arith, h))

-- ---- numbers on the chains

pub used_within : {region : Region} {values : List Val} {held : List ℕ} (list : HasKeys region values held) →
    Each (IsNumber region.nodes) (numbers_of list.cells ++ list.free)
used_within {region} list = within region.nodes (numbers_of list.cells ++ list.free) (IsPermutation-sym _ _ list.once)

pub first_within : (n : ℕ) (is : List ℕ) → Each (IsNumber n) is → first_of is ≤ n
first_within n [] each = omega arith
first_within n (i ∷ is) each = each.0.1

pub IsChain-right : (begin : ℕ) (values : List Val) (behind ahead : List Cell) →
    IsChain begin values (behind ++ ahead) → IsChain begin values ahead
IsChain-right begin values [] ahead chain = chain
IsChain-right begin values (c ∷ cs) ahead chain = IsChain-right begin values cs ahead chain.1

-- the numbers ahead of a walk
ahead_within : {region : Region} {values : List Val} {held : List ℕ} {key object : ℕ} {before : Node}
    (list : HasKeys region values held) (stands : Stands region.first key object before list.cells) →
    Each (IsNumber region.nodes) (numbers_of stands.ahead)
ahead_within {region} list stands =
    let cells_within = each-left (IsNumber region.nodes) (numbers_of list.cells) list.free (used_within list) in
    let numbers : numbers_of list.cells ≡ numbers_of stands.behind ++ numbers_of stands.ahead =
    ap numbers_of stands.split ∙ map-append (λ (c : Cell). c.number) stands.behind stands.ahead in
    each-right (IsNumber region.nodes) (numbers_of stands.behind) (numbers_of stands.ahead)
    (subst (Each (IsNumber region.nodes)) numbers cells_within)

-- ---- steps of a walk

pub stands-start : {region : Region} {values : List Val} {held : List ℕ} (key : ℕ) (before : Node) →
    FitsList region → 0 < region.nodes → (list : HasKeys region values held) →
    before.key ≡ key_of (value_at values region.first) →
    before.next ≡ next_of (value_at values region.first) →
    Stands region.first key region.first before list.cells
stands-start {region} {values} key before fits declared list before_key before_next =
    let low : (value_at values region.first).low ≡ first_of (numbers_of list.cells) =
    ap (λ x. x.low) (list.head declared) in
    let small = first_within region.nodes (numbers_of list.cells)
    (each-left (IsNumber region.nodes) (numbers_of list.cells) list.free (used_within list)) in
    record {
      behind = [];
      ahead = list.cells;
      split = refl;
      lesser = tt;
      link = refl;
      last = omega (arith, before_key, low, small, fits.few);
      next = omega (arith, before_next, low, small, fits.few);
    }

-- the next node that a walk links to
pub next_within : {region : Region} {values : List Val} {held : List ℕ} {key object : ℕ} {before : Node}
    (list : HasKeys region values held) (stands : Stands region.first key object before list.cells) →
    before.next ≤ region.nodes
next_within {region} list stands =
    let h = first_within region.nodes (numbers_of stands.ahead) (ahead_within list stands) in
    omega (arith, h, stands.next)

-- the cell in the node that comes next
pub record IsNext (cells : List Cell) (number : ℕ) (next : Node) : Type 0 where
  pub cell : Cell
  pub rest : List Cell
  pub cells_are : cells ≡ cell ∷ rest
  pub number_is : cell.number ≡ number
  pub key : cell.key ≡ next.key
  pub next_is : next.next ≡ first_of (numbers_of rest)

pub next_in : (n begin : ℕ) (values : List Val) (number : ℕ) (next : Node) (cells : List Cell) → n < 2048 →
    number ≢ 0 → number ≡ first_of (numbers_of cells) → Each (IsNumber n) (numbers_of cells) →
    IsChain begin values cells → next.key ≡ key_of (value_at values (node_object begin number)) →
    next.next ≡ next_of (value_at values (node_object begin number)) → IsNext cells number next
next_in n begin values number next [] small some is_first each chain next_key next_next = absurd (some is_first)
next_in n begin values number next (c ∷ cs) small some is_first each chain next_key next_next =
    let low : (value_at values (node_object begin number)).low ≡ (node c.key (first_of (numbers_of cs))).low =
    ap (λ x. x.low) (ap (λ i. value_at values (node_object begin i)) is_first ∙ chain.0) in
    let next_small = first_within n (numbers_of cs) each.1 in
    record {
      cell = c;
      rest = cs;
      cells_are = refl;
      number_is = sym is_first;
      key = omega (arith, next_key, low, next_small, small);
      next_is = omega (arith, next_next, low, next_small, small);
    }

pub stands-next : {region : Region} {values : List Val} {held : List ℕ} {key object : ℕ} {before : Node}
    (next : Node) → FitsList region → (list : HasKeys region values held)
    (stands : Stands region.first key object before list.cells) → before.next ≢ 0 →
    next.key ≡ key_of (value_at values (node_object region.first before.next)) →
    next.next ≡ next_of (value_at values (node_object region.first before.next)) →
    IsNext stands.ahead before.next next
stands-next {region} {values} {before = before} next fits list stands some next_key next_next =
    next_in region.nodes region.first values before.next next stands.ahead (omega (arith, fits.few)) some
    stands.next (ahead_within list stands) (IsChain-right region.first values stands.behind stands.ahead
    (subst (IsChain region.first values) stands.split list.chain)) next_key next_next

-- the same, where the walk looked at a map that has the same values
pub stands-seen : {region : Region} {values : List Val} {held : List ℕ} {key object : ℕ} {before : Node}
    {now : List Val} (at : ℕ) (next : Node) → FitsList region → (list : HasKeys region values held)
    (stands : Stands region.first key object before list.cells) → before.next ≢ 0 →
    now ≡ values → at ≡ node_object region.first before.next →
    next.key ≡ key_of (value_at now at) → next.next ≡ next_of (value_at now at) → IsNext stands.ahead before.next next
stands-seen {values = values} at next fits list stands some same at_node next_key next_next =
    let seen = ap (λ x. value_at x at) same ∙ ap (λ o. value_at values o) at_node in
    stands-next next fits list stands some (next_key ∙ ap key_of seen) (next_next ∙ ap next_of seen)

AllLess-push : (key : ℕ) (cells : List Cell) (c : Cell) → AllLess key cells → c.key < key →
    AllLess key (cells ++ c ∷ [])
AllLess-push key [] c less h = (h, tt)
AllLess-push key (d ∷ ds) c less h = (less.0, AllLess-push key ds c less.1 h)

pub link_after-push : (begin object : ℕ) (cells : List Cell) (c : Cell) →
    link_after begin object (cells ++ c ∷ []) ≡ node_object begin c.number
link_after-push begin object [] c = refl
link_after-push begin object (d ∷ ds) c = link_after-push begin (node_object begin d.number) ds c

pub key_after-push : (key : ℕ) (cells : List Cell) (c : Cell) → key_after key (cells ++ c ∷ []) ≡ c.key
key_after-push key [] c = refl
key_after-push key (d ∷ ds) c = key_after-push d.key ds c

pub stands-on : {begin key object : ℕ} {before : Node} {cells : List Cell} {next : Node}
    (stands : Stands begin key object before cells) → IsNext stands.ahead before.next next → next.key < key →
    Stands begin key (node_object begin before.next) next cells
stands-on {begin} {key} {next = next} stands ahead less =
    let c = ahead.cell in
    record {
      behind = stands.behind ++ c ∷ [];
      ahead = ahead.rest;
      split = stands.split ∙ ap (λ cs. stands.behind ++ cs) ahead.cells_are
          ∙ sym (append_assoc stands.behind (c ∷ []) ahead.rest);
      lesser = AllLess-push key stands.behind c stands.lesser (omega (arith, ahead.key, less));
      link = ap (node_object begin) (sym ahead.number_is) ∙ sym (link_after-push begin begin stands.behind c);
      last = sym (key_after-push 0 stands.behind c ∙ ahead.key);
      next = ahead.next_is;
    }

-- ---- the key's place

pub rise_of : {region : Region} {values : List Val} {held : List ℕ} (list : HasKeys region values held) →
    Rise 0 list.cells
rise_of list = Rise-of_increasing list.cells (subst IsStrictlyIncreasing list.keys list.rising)

place-found : {begin key object : ℕ} {before : Node} {cells : List Cell} {next : Node}
    (stands : Stands begin key object before cells) → IsNext stands.ahead before.next next → next.key ≡ key →
    IsPlace begin key (record { link = object; before = before; node = Some next }) cells
place-found {key = key} {next = next} stands ahead same = record {
  stands = stands;
  here = subst (IsFirst key (Some next)) (sym ahead.cells_are) (ahead.key ∙ same, ahead.next_is);
}

place-passed : {region : Region} {values : List Val} {held : List ℕ} {key object : ℕ} {before : Node}
    {next : Node} (list : HasKeys region values held)
    (stands : Stands region.first key object before list.cells) →
    IsNext stands.ahead before.next next → key < next.key →
    IsPlace region.first key (record { link = object; before = before; node = None }) list.cells
place-passed {key = key} list stands ahead greater =
    let c = ahead.cell in
    let cells = stands.split ∙ ap (λ cs. stands.behind ++ cs) ahead.cells_are in
    let rise = subst (Rise 0) cells (rise_of list) in
    let passed : key < c.key = omega (arith, ahead.key, greater) in
    let all : AllGreater key (c ∷ ahead.rest) = (
      passed,
      AllGreater-of_Rise key (c.key + 1) ahead.rest (omega (arith, passed))
          (Rise-after 0 stands.behind c ahead.rest rise),
    ) in
    record { stands = stands; here = subst (AllGreater key) (sym ahead.cells_are) all }

place-behind : {region : Region} {values : List Val} {held : List ℕ} {key object : ℕ} {before : Node}
    {next : Node} (node : Option Node) (list : HasKeys region values held)
    (stands : Stands region.first key object before list.cells) → IsNext stands.ahead before.next next →
    MatchOption node (key < next.key) (λ n. (n ≡ next) × (next.key ≡ key)) →
    IsPlace region.first key (record { link = object; before = before; node = node }) list.cells
place-behind {next = next} None list stands ahead greater = place-passed list stands ahead greater
place-behind {region} {key = key} {object = object} {before = before} {next = next} (Some n) list stands ahead
    (is, same) =
    subst (λ (m : Node). IsPlace region.first key
    (record { link = object; before = before; node = Some m }) list.cells) (sym is) (place-found stands ahead same)

-- the key's place, where the next node does not hold a lesser key
pub place-next : {region : Region} {values : List Val} {held : List ℕ} {key object : ℕ} {before : Node}
    (next : Node) (place : Place) (list : HasKeys region values held)
    (stands : Stands region.first key object before list.cells) → IsNext stands.ahead before.next next →
    place.link ≡ object → place.before ≡ before →
    MatchOption place.node (key < next.key) (λ n. (n ≡ next) × (next.key ≡ key)) →
    IsPlace region.first key place list.cells
place-next {region} {key = key} {object = object} next place list stands ahead link holds node =
    subst (λ (l : ℕ). IsPlace region.first key
    (record { link = l; before = place.before; node = place.node }) list.cells) (sym link)
    (subst (λ (b : Node). IsPlace region.first key (record { link = object; before = b; node = place.node })
    list.cells) (sym holds) (place-behind place.node list stands ahead node))

nothing : (n key : ℕ) (cells : List Cell) → Each (IsNumber n) (numbers_of cells) →
    first_of (numbers_of cells) ≡ 0 → AllGreater key cells
nothing n key [] each none = tt
nothing n key (c ∷ cs) each none = absurd (omega (arith, each.0.0, none))

pub place-end : {region : Region} {values : List Val} {held : List ℕ} {key object : ℕ} {before : Node}
    (list : HasKeys region values held) (stands : Stands region.first key object before list.cells) →
    before.next ≡ 0 →
    IsPlace region.first key (record { link = object; before = before; node = None }) list.cells
place-end {region} {key = key} list stands none =
    record {
      stands = stands;
      here = nothing region.nodes key stands.ahead (ahead_within list stands)
          (sym stands.next ∙ none);
    }

-- ---- the walk ends

-- how many keys may still come behind a walk for `key` that stands at `object` with this key
abbrev pub left : ℕ → ℕ → ℕ → ℕ → ℕ
left begin key object last = cond (object == begin) (key + 1) (key - last)

later : (least : ℕ) (behind : List Cell) (c : Cell) (cs : List Cell) (begin object last : ℕ) →
    Rise least (behind ++ c ∷ cs) → object ≡ link_after begin begin behind → object ≢ begin →
    last ≡ key_after 0 behind → last < c.key
later least [] c cs begin object last rise link inner is_last = absurd (inner link)
later least (d ∷ ds) c cs begin object last rise link inner is_last =
    omega (arith, is_last, Rise-next least d ds c cs rise)

-- the key that comes next is greater than that of a node
pub next_greater : {region : Region} {values : List Val} {held : List ℕ} {key object : ℕ} {before : Node}
    (next : Node) (list : HasKeys region values held)
    (stands : Stands region.first key object before list.cells) →
    IsNext stands.ahead before.next next → object ≢ region.first → before.key < next.key
next_greater {region} {object = object} {before = before} next list stands ahead inner =
    let rise = subst (Rise 0) (stands.split ∙ ap (λ cs. stands.behind ++ cs) ahead.cells_are) (rise_of list) in
    let rises = later 0 stands.behind ahead.cell ahead.rest region.first object before.key rise stands.link
    inner stands.last in
    omega (arith, rises, ahead.key)

pub left-less : {region : Region} {values : List Val} {held : List ℕ} {key object : ℕ} {before : Node}
    (next : Node) (list : HasKeys region values held)
    (stands : Stands region.first key object before list.cells) →
    IsNext stands.ahead before.next next → next.key < key →
    left region.first key (node_object region.first before.next) next.key
    < left region.first key object before.key
left-less {region} {key = key} {object = object} {before = before} next list stands ahead less =
    let begin = region.first in
    let after : (node_object begin before.next == begin) ≡ false = ne_eqb _ _ (λ e. omega (arith, e)) in
    elim (cases_eq object begin) [
      | inl same ↦
          let at : (object == begin) ≡ true = eq-eqb object begin same in
          rw (after, at) (omega (arith, less))
      | inr inner ↦
          let at : (object == begin) ≡ false = ne_eqb object begin inner in
          rw (after, at) (omega (arith, less, next_greater next list stands ahead inner))
    ]
