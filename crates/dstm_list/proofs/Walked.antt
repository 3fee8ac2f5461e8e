-- A walk along the list, and an operation whose first part is one.
use Rattle.std.proofs.Common.{◌≡◌, ◌≢◌, ◌≤◌, ℕ, ◌+◌, IsTrue, List, arith, length, refl, sym, ◌∙◌, ap, subst, slice_set}
use Rattle.std.specs.Prelude.{Ok, Option, is_some}
use Rattle.dstm_model.specs.declared.value.Val.{Val}
use Rattle.dstm_model.specs.declared.reply.Reply.{Reply}
use Rattle.dstm_model.specs.Store.{yes_or_no}
use Rattle.dstm_model.specs.Objects.{node_object}
use Rattle.dstm_mem.specs.declared.memory.Mem.{Ghosts}
use Rattle.dstm_mem.specs.Memory.{with_set}
use Rattle.dstm_mem.specs.Operations.{Leads, OnlyReads}
use Rattle.dstm_mem.specs.Operates.{Operates}
use Rattle.dstm_mem.proofs.Operations.{leads-answers, leads-none, only_reads-none, opens_to_set-none, opens_to_set-of_reads}
use Rattle.dstm_mem.proofs.Operating.{Through, operates-as, operates-then, untouched-none}
use Rattle.dstm_mem.proofs.WithSet.{length-with_set, with_set-same}
use Rattle.dstm_region.specs.declared.region.Region.{Region}
use Rattle.dstm_region.specs.Region.{IsInside, size_of}
use Rattle.dstm_list.specs.declared.node.Node.{Node}
use Rattle.dstm_list.specs.declared.walk.Place.{Place}
use Rattle.dstm_list.specs.List.{FitsList, HasKeys, SameOutside, SameButThree}
use Rattle.dstm_list.specs.Edits.{Calls, Tells}
use Rattle.dstm_list.specs.Place.{Finds, Walks, IsReadyIn, IsReadyAt, Sees, Stands}
use Rattle.dstm_list.proofs.Steps.{IsNext, stands-seen}
use Rattle.dstm_list.proofs.Operations.{does-member}

-- ---- on the way

-- a walk for a key has come to the object that links on, and nothing was changed
pub record Reaches (region : Region) (key link : ℕ) (before : Node) (start now : List Val) : Type 0 where
  pub same : now ≡ start
  pub stands : (held : List ℕ) (list : HasKeys region start held) →
      Stands region.first key link before list.cells

-- the region is in a map of the memory's objects, with what was set
pub inside_map : (region : Region) (map : List Val) (sets : ℕ → Option Val) {objects : ℕ} → length map ≡ objects →
    region.first + size_of region ≤ objects → region.first + size_of region ≤ length (with_set map sets)
inside_map region map sets all fits = omega (arith, fits, all, length-with_set map sets)

-- the node that is seen next is that of the next cell
pub next-seen : {region : Region} {key link object : ℕ} {before next : Node} {start now : List Val} →
    FitsList region → before.next ≢ 0 → object ≡ node_object region.first before.next →
    (h : Through (Reaches region key link before) (Sees object next) start now) → {held : List ℕ} →
    (list : HasKeys region start held) → IsNext (h.first.stands held list).ahead before.next next
next-seen {object = object} {next = next} fits some at h {held = held} list =
    stands-seen object next fits list (h.first.stands held list) some h.first.same at h.second.key h.second.next

-- an object that is known otherwise was set to a value that is known otherwise
pub set-known : {before now after : List Val} {o p : ℕ} {v u : Val} → after ≡ slice_set now o v → now ≡ before →
    o ≡ p → v ≡ u → after ≡ slice_set before p u
set-known {before} {now} {after} {o} {p} {v} {u} set same object value =
    set ∙ ap (λ x. slice_set x o v) same ∙ ap (λ q. slice_set before q v) object ∙ ap (slice_set before p) value

-- an operation that does something on each map that was admitted before it
pub operates-at : {S E : Type 0} {M : Ghosts S E} {In : ℕ → Type 0} {A B : Type 0} {Q T : A → Type 0}
    {Q' T' : B → Type 0} {R : A → List Val → List Val → Type 0} {R' : B → List Val → List Val → Type 0} {old new : S}
    {x : A} {y : B} → Operates M In Q T R old new (Ok x) → (Q' y → Q x) → (T' y → T x) →
    ((map : List Val) → M.Admits old map → R x (with_set map (M.written old)) (with_set map (M.written new)) →
    R' y (with_set map (M.written old)) (with_set map (M.written new))) → Operates M In Q' T' R' old new (Ok y)
operates-at {M = M} done quiet marks does = record {
  leads = leads-answers M done.leads;
  outside = done.outside;
  marks = λ all. done.marks (marks all);
  quiet = λ look. done.quiet (quiet look);
  does = λ map admitted. does map (done.leads.narrows map admitted) (done.does map admitted);
}

-- an operation that did nothing, of which this holds on each map that is admitted
pub operates-still : {S E : Type 0} {M : Ghosts S E} {In : ℕ → Type 0} {A : Type 0} {Q T : A → Type 0}
    {R : A → List Val → List Val → Type 0} {old : S} {x : A} → ((map : List Val) × M.Admits old map) →
    IsTrue (M.is_live old) →
    ((map : List Val) → M.Admits old map → R x (with_set map (M.written old)) (with_set map (M.written old))) →
    Operates M In Q T R old old (Ok x)
operates-still {M = M} {old = old} {x = x} admits live does = record {
  leads = leads-none M old x admits live;
  outside = λ o out. untouched-none M old o;
  marks = λ all. opens_to_set-none M old;
  quiet = λ look. only_reads-none M old;
  does = does;
}

-- ---- after it

module _ {S E : Type 0} (M : Ghosts S E) (region : Region) where
  -- a walk, of what is known of it one by one
  pub walks-by : {old new : S} {A : Type 0} {x : A} (key : ℕ) (place : Place) → Leads M old new (Ok x) →
      OnlyReads M old new → SameOutside region (M.held old) (M.held new) →
      SameOutside region (M.is_opened old) (M.is_opened new) →
      ((map : List Val) → M.Admits new map → Finds region (with_set map (M.written old)) key place) →
      Operates M (IsInside region) (λ found. Unit {0}) (λ found. Unit {0}) (Walks region key) old new (Ok place)
  walks-by {old} {new} key place leads reads holds opens finds = record {
    leads = leads-answers M leads;
    outside = λ o out. record { written = reads.sets o; held = holds o out; opened = opens o out };
    marks = λ all. opens_to_set-of_reads M reads;
    quiet = λ q. reads;
    does = λ map admitted. record {
      same = with_set-same map (M.written old) (M.written new) reads.sets;
      finds = finds map admitted;
    };
  }

  -- after a walk the memory is ready for a change at the place
  pub ready-walked : {old new : S} {place : Place} {key : ℕ} → IsReadyIn M region old →
      IsInside region place.link →
      Operates M (IsInside region) (λ found. Unit {0}) (λ found. Unit {0}) (Walks region key) old new (Ok place) →
      IsReadyAt M region key place new
  ready-walked {place = place} {key = key} ready link walks = record {
    ready = record {
      objects = subst (λ n. region.first + size_of region ≤ n) (sym walks.leads.objects) ready.objects;
      live = walks.leads.live;
      lawful = λ map admitted.
          let (held, list) = ready.lawful map (walks.leads.narrows map admitted) in
          (held, subst (λ (values : List Val). HasKeys region values held) (sym (walks.does map admitted).same) list);
    };
    admits = walks.leads.admits;
    found = λ map admitted.
        let walked = walks.does map admitted in
        subst (λ (values : List Val). Finds region values key place) (sym walked.same) walked.finds;
    link = link;
  }

  -- what a change did after a walk, both did: it is applied, and three objects at most are set
  pub record Changes (IsQuiet : Reply → Type 0) (Does : Reply → List Val → List Val → Type 0) (old new : S)
      (reply : Reply) : Type 0 where
    pub applies : Calls M region IsQuiet Does old new (Ok reply)
    pub few : SameButThree region (M.written old) (M.written new)

  pub changes-walked : {old mid new : S} {place : Place} {key : ℕ} {IsQuiet : Reply → Type 0}
      {Does : Reply → List Val → List Val → Type 0} (reply : Reply) →
      Operates M (IsInside region) (λ found. Unit {0}) (λ found. Unit {0}) (Walks region key) old mid (Ok place) →
      Changes IsQuiet Does mid new reply → Changes IsQuiet Does old new reply
  changes-walked {Does = Does} reply walks done =
      let reads = walks.quiet tt in
      let few = done.few in
      record {
        applies = operates-as (operates-then walks done.applies) (λ look. (tt, look)) (λ all. (tt, all))
            (λ before after h.
            subst (λ (values : List Val). Does reply values after) h.first.same h.second);
        few = (few.0, (few.1.0, λ p not_link not_node not_free. few.1.1 p not_link not_node not_free ∙ reads.sets p));
      }

  -- a walk alone tells whether the key is there
  pub member-walked : {old new : S} {place : Place} {key : ℕ} (reply : Reply) →
      Operates M (IsInside region) (λ found. Unit {0}) (λ found. Unit {0}) (Walks region key) old new (Ok place) →
      reply ≡ yes_or_no (is_some place.node) →
      Calls M region (λ r. Unit {0}) (Tells region key) old new (Ok reply)
  member-walked {place = place} {key = key} reply walks is =
      operates-as walks (λ look. tt) (λ all. tt) (λ before after h.
      subst (λ (r : Reply). Tells region key r before after) (sym is)
      (subst (λ (now : List Val). Tells region key (yes_or_no (is_some place.node)) before now) (sym h.same)
      (does-member key place (is_some place.node) h.finds refl)))
