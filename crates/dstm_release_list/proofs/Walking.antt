-- A walk that lets reads go: what is known where it stands, and after a step.
use Rattle.std.proofs.Common.{◌≡◌, ◌≢◌, ◌↔◌, ℕ, ◌+◌, ◌<◌, ◌≤◌, List, length, IsTrue, false, arith, refl, sym, ◌∙◌, ap}
use Rattle.std.proofs.Common.{subst, inl, inr}
use Rattle.std.specs.Prelude.{Option, Some, None, IsSome, IfSome, ◌⊎◌, Ok}
use Rattle.std.proofs.lemmas.Bool.{cases_eq, cases_Bool}
use Rattle.dstm_model.specs.declared.value.Val.{Val}
use Rattle.dstm_model.specs.Map.{value_at}
use Rattle.dstm_model.specs.Objects.{node_object}
use Rattle.dstm_mem.specs.declared.memory.Mem.{Ghosts}
use Rattle.dstm_mem.specs.Memory.{with_set, AgreesWith}
use Rattle.dstm_mem.specs.Operations.{Leads, OnlyReads}
use Rattle.dstm_mem.proofs.Operations.{leads-then, only_reads-then}
use Rattle.dstm_region.specs.declared.region.Region.{Region}
use Rattle.dstm_region.specs.Region.{IsInside, size_of}
use Rattle.dstm_list.specs.List.{FitsList, HasKeys, SameOutside, key_of, next_of, numbers_of, first_of}
use Rattle.dstm_list.specs.declared.node.Node.{Node}
use Rattle.dstm_list.specs.declared.walk.Place.{Place}
use Rattle.dstm_list.specs.Place.{IsReadyIn, Stands}
use Rattle.dstm_list.proofs.Numbers.{IsNumber, each-left}
use Rattle.dstm_list.proofs.Steps.{IsNext, head-of_list, node-of_list, next_within, next_greater, stands-start}
use Rattle.dstm_list.proofs.Steps.{stands-next, used_within, first_within}
use Rattle.dstm_release_list.specs.declared.stop.Stop.{Stop}
use Rattle.dstm_list.specs.Reads.{IsRead}
use Rattle.dstm_list.proofs.Reading.{read-same, unread-opened}
use Rattle.dstm_release_list.specs.Walk.{Sees, Visits, IsOwnOfTwo, LetsGo, AddsToPlace}
use Rattle.dstm_release_list.proofs.Shown.{stands-kept}
use Rattle.dstm_release_list.proofs.Stops.{AgreesWith-before, sees-opened, sees-same, sees-value, sees-apart}
use Rattle.dstm_release_list.proofs.Stops.{kept-other}

-- what the memory's laws say of the maps that it admits
pub record Laws {S E : Type 0} (M : Ghosts S E) (Began : S → List Val → Type 0) : Type 0 where
  pub sizes : (s : S) (map : List Val) → M.Admits s map → length map ≡ M.objects s
  pub agrees : (s : S) (map : List Val) → M.Admits s map → AgreesWith map (M.held s)
  pub exactly : (s : S) (map : List Val) → IsTrue (M.is_live s) →
      M.Admits s map ↔ (Began s map × AgreesWith map (M.held s))
  pub stays : (s t : S) (map : List Val) → M.place s ≡ M.place t → Began s map → Began t map

-- a memory that holds what another one held admits no map that this one did not
narrows-kept : {S E : Type 0} {M : Ghosts S E} {Began : S → List Val → Type 0} (old new : S) → Laws M Began →
    IsTrue (M.is_live old) → IsTrue (M.is_live new) → M.place new ≡ M.place old →
    ((o : ℕ) → IsSome (M.held old o) → M.held new o ≡ M.held old o) →
    (map : List Val) → M.Admits new map → M.Admits old map
narrows-kept {M = M} old new laws live now place holds map admitted =
    let both = (laws.exactly new map now).0 admitted in
    (laws.exactly old map live).1 (
      laws.stays new old map place both.0,
      AgreesWith-before map (M.held old) (M.held new) holds both.1,
    )

-- a map that is admitted, with what was set before the walk, stands for a list
pub record At {S E : Type 0} (M : Ghosts S E) (region : Region) (start memory : S) (map : List Val)
    (held : List ℕ) : Type 0 where
  pub fits : FitsList region
  pub declared : 0 < region.nodes
  pub size : region.first + size_of region ≤ length map
  pub agrees : AgreesWith map (M.held memory)
  pub same : (p : ℕ) → M.written memory p ≡ M.written start p
  pub list : HasKeys region (with_set map (M.written start)) held

-- what the walk owes for a stop: its own read was not held before, and another one was, or is opened for writing
pub record Owes {S E : Type 0} (M : Ghosts S E) (start memory : S) (stop : Stop) : Type 0 where
  pub own : IsTrue stop.is_own → M.held start stop.object ≡ None
  pub other : stop.is_own ≡ false → IsSome (M.held start stop.object) ⊎ IsTrue (M.is_opened memory stop.object)

-- the last stop is at a node that shows that it is in the list
pub record Inner {S E : Type 0} (M : Ghosts S E) (memory : S) (region : Region) (key : ℕ)
    (head last : Stop) : Type 0 where
  pub number : ℕ
  pub object : last.object ≡ node_object region.first number
  pub within : IsNumber region.nodes number
  pub less : last.node.key < key
  pub shown : (0 < last.node.key) ⊎ (Sees M memory head × (head.node.next ≡ number))

abbrev pub Anchored : {S E : Type 0} → Ghosts S E → S → Region → ℕ → Stop → Stop → Type 0
Anchored M memory region key head last = (last.object ≡ region.first) ⊎ Inner M memory region key head last

-- the node before the last one
pub record Older {S E : Type 0} (M : Ghosts S E) (region : Region) (start memory : S) (last older : Stop) : Type 0 where
  pub seen : Sees M memory older
  pub owes : Owes M start memory older
  pub in_list : IsInside region older.object
  pub less : older.node.key < last.node.key
  pub inner : older.object ≢ region.first
  pub last_inner : last.object ≢ region.first

-- a walk has led from one state of the memory to another and only read, and nothing but the list's objects
pub record Way {S E : Type 0} (M : Ghosts S E) (region : Region) (start memory : S) (last : Stop) : Type 0 where
  pub leads : Leads M start memory (Ok last)
  pub looks : OnlyReads M start memory
  pub holds : SameOutside region (M.held start) (M.held memory)
  pub opens : SameOutside region (M.is_opened start) (M.is_opened memory)

-- where a walk stands that began at one state of the memory and has come to another
pub record Walking {S E : Type 0} (M : Ghosts S E) (region : Region) (key : ℕ) (start memory : S) (head : Stop)
    (behind : Option Stop) (last : Stop) : Type 0 where
  pub way : Way M region start memory last
  pub head_at : head.object ≡ region.first
  pub head_owes : Owes M start memory head
  pub head_seen : behind ≡ None → Sees M memory head
  pub head_next : last.object ≡ region.first → last.node.next ≡ head.node.next
  pub last_in : IsInside region last.object
  pub last_owes : Owes M start memory last
  pub last_seen : Sees M memory last
  pub anchored : Anchored M memory region key head last
  pub older : IfSome behind (Older M region start memory last)
  pub few : (p : ℕ) → p ≢ last.object → p ≢ region.first → IfSome behind (λ o. p ≢ o.object) →
      IsRead M memory p → IsSome (M.held start p)

-- what is known of the last stop and of the next one
pub record Next {S E : Type 0} (M : Ghosts S E) (region : Region) (key : ℕ) (start memory : S) (head : Stop)
    (behind : Option Stop) (last next : Stop) : Type 0 where
  pub way : Way M region start memory next
  pub head_seen : behind ≡ None → Sees M memory head
  pub last_seen : Sees M memory last
  pub anchored : Anchored M memory region key head last
  pub next_at : next.object ≡ node_object region.first last.node.next
  pub next_within : last.node.next ≤ region.nodes
  pub next_owes : Owes M start memory next
  pub next_seen : Sees M memory next
  pub rises : last.object ≢ region.first → last.node.key < next.node.key

-- after the next node was opened
pub record Opened {S E : Type 0} (M : Ghosts S E) (region : Region) (key : ℕ) (start memory : S) (head : Stop)
    (behind : Option Stop) (last next : Stop) : Type 0 where
  pub stops : Next M region key start memory head behind last next
  pub last_apart : IfSome behind (λ o. last.object ≢ o.object)
  pub next_apart : IfSome behind (λ o. next.object ≢ o.object)
  pub few : (p : ℕ) → p ≢ next.object → p ≢ last.object → p ≢ region.first →
      IfSome behind (λ o. p ≢ o.object) → IsRead M memory p → IsSome (M.held start p)

-- after a step: the next node was opened, and what stands before the last two was let go
pub record Advanced {S E : Type 0} (M : Ghosts S E) (region : Region) (key : ℕ) (start memory : S) (head : Stop)
    (behind : Option Stop) (last next : Stop) : Type 0 where
  pub stops : Next M region key start memory head behind last next
  pub head_owes : Owes M start memory head
  pub last_owes : Owes M start memory last
  pub few : (p : ℕ) → p ≢ next.object → p ≢ last.object → p ≢ region.first → IsRead M memory p →
      IsSome (M.held start p)

module _ {S E : Type 0} {M : Ghosts S E} {region : Region} {start : S} where
  -- ---- on a map that stands for a list

  seen-value : {memory : S} {map : List Val} {held : List ℕ} {stop : Stop} → At M region start memory map held →
      (sees : Sees M memory stop) → IsInside region stop.object →
      value_at (with_set map (M.written start)) stop.object ≡ sees.value
  seen-value {map = map} {stop = stop} at sees within =
      sees-value map sees (omega (arith, at.size, within.1)) at.agrees at.same

  named : {memory : S} {map : List Val} {held : List ℕ} {head : Stop} (at : At M region start memory map held) →
      Sees M memory head → head.object ≡ region.first → first_of (numbers_of at.list.cells) ≡ head.node.next
  named {map = map} {head = head} at sees at_begin =
      let within = subst (IsInside region) (sym at_begin) (head-of_list region at.declared) in
      let value = seen-value at sees within in
      let low = ap (λ v. v.low) (sym value ∙ ap (value_at (with_set map (M.written start))) at_begin
      ∙ at.list.head at.declared) in
      let small = first_within region.nodes (numbers_of at.list.cells)
      (each-left (IsNumber region.nodes) (numbers_of at.list.cells) at.list.free (used_within at.list)) in
      omega (arith, sees.next, low, small, at.fits.few)

  -- the last stop is in the list, with lesser keys before it
  pub stands-held : {memory : S} {map : List Val} {held : List ℕ} (key : ℕ) (head : Stop) {last : Stop}
      (at : At M region start memory map held) → head.object ≡ region.first → Sees M memory last →
      Anchored M memory region key head last → Stands region.first key last.object last.node at.list.cells
  stands-held {map = map} key head {last = last} at head_at sees (inl at_begin) =
      let begin = region.first in
      let values = with_set map (M.written start) in
      let within = subst (IsInside region) (sym at_begin) (head-of_list region at.declared) in
      let value : value_at values begin ≡ sees.value =
      ap (value_at values) (sym at_begin) ∙ seen-value at sees within in
      subst (λ o. Stands begin key o last.node at.list.cells) (sym at_begin)
      (stands-start key last.node at.fits at.declared at.list (sees.key ∙ ap key_of (sym value))
      (sees.next ∙ ap next_of (sym value)))
  stands-held {map = map} key head {last = last} at head_at sees (inr inner) =
      let begin = region.first in
      let i = inner.number in
      let values = with_set map (M.written start) in
      let node_in = node-of_list region i at.declared inner.within.1 in
      let within = subst (IsInside region) (sym inner.object) node_in in
      let value : value_at values (node_object begin i) ≡ sees.value =
      ap (value_at values) (sym inner.object) ∙ seen-value at sees within in
      subst (λ o. Stands begin key o last.node at.list.cells) (sym inner.object)
      (stands-kept key i last.node at.fits inner.within at.list (sees.key ∙ ap key_of (sym value))
      (sees.next ∙ ap next_of (sym value)) inner.less (elim inner.shown [
        | inl some ↦ inl some
        | inr (seen, is_next) ↦ inr (named at seen head_at ∙ is_next)
      ]))

  -- the next node is the first one ahead
  pub next-held : {memory : S} {map : List Val} {held : List ℕ} {key : ℕ} (last : Stop) {next : Stop}
      (at : At M region start memory map held)
      (stands : Stands region.first key last.object last.node at.list.cells) → Sees M memory next →
      next.object ≡ node_object region.first last.node.next → last.node.next ≢ 0 →
      IsNext stands.ahead last.node.next next.node
  next-held {map = map} last {next = next} at stands sees next_at some =
      let begin = region.first in
      let values = with_set map (M.written start) in
      let node_in = node-of_list region last.node.next at.declared (next_within at.list stands) in
      let value : value_at values (node_object begin last.node.next) ≡ sees.value = ap (value_at values) (sym next_at)
      ∙ seen-value at sees (subst (IsInside region) (sym next_at) node_in) in
      stands-next next.node at.fits at.list stands some (sees.key ∙ ap key_of (sym value))
      (sees.next ∙ ap next_of (sym value))

-- ---- what is the walk's own

not_own : (head : Stop) (behind : Option Stop) (p : ℕ) → (IsSome behind → p ≢ head.object) →
    IfSome behind (λ o. p ≢ o.object) → ¬ IsOwnOfTwo head behind p
not_own head None p not_head not_older own = own
not_own head (Some o) p not_head not_older (inl own) = not_older own.0
not_own head (Some o) p not_head not_older (inr own) = not_head refl own.0

none_some : {o : Option Val} → o ≡ None → ¬ IsSome o
none_some none some = absurd (let no : ⊥ = cc in no)

cases_held : (o : Option Val) → (o ≡ None) ⊎ IsSome o
cases_held None = inl refl
cases_held (Some v) = inr refl

module _ {S E : Type 0} (M : Ghosts S E) (start : S) where
  owes-later : {old new : S} {stop : Stop} → Owes M start old stop →
      (IsTrue (M.is_opened old stop.object) → IsTrue (M.is_opened new stop.object)) → Owes M start new stop
  owes-later owes opened = record {
    own = owes.own;
    other = λ no. elim (owes.other no) [
      | inl some ↦ inl some
      | inr is ↦ inr (opened is)
    ];
  }

  module _ (region : Region) where
    own_none : {memory : S} {head : Stop} (behind : Option Stop) (last : Stop) (p : ℕ) →
        Owes M start memory head → IfSome behind (Older M region start memory last) →
        IsOwnOfTwo head behind p → M.held start p ≡ None
    own_none None last p owes older own = absurd own
    own_none (Some o) last p owes older (inl own) = ap (M.held start) own.0 ∙ older.owes.own own.1
    own_none (Some o) last p owes older (inr own) = ap (M.held start) own.0 ∙ owes.own own.1

    own_in : (memory : S) (head : Stop) (behind : Option Stop) (last : Stop) (p : ℕ) →
        IsInside region head.object → IfSome behind (Older M region start memory last) →
        IsOwnOfTwo head behind p → IsInside region p
    own_in memory head None last p head_in older own = absurd own
    own_in memory head (Some o) last p head_in older (inl own) = subst (IsInside region) (sym own.0) older.in_list
    own_in memory head (Some o) last p head_in older (inr own) = subst (IsInside region) (sym own.0) head_in

    anchored-later : {old new : S} {key : ℕ} {head last : Stop} →
        (last.object ≢ region.first → (0 < last.node.key) ⊎ (Sees M old head → Sees M new head)) →
        Anchored M old region key head last → Anchored M new region key head last
    anchored-later keeps (inl at_begin) = inl at_begin
    anchored-later keeps (inr inner) =
        inr (record {
          number = inner.number;
          object = inner.object;
          within = inner.within;
          less = inner.less;
          shown = elim inner.shown [
            | inl some ↦ inl some
            | inr (seen, is_next) ↦ elim (keeps (λ e. omega (arith, e, inner.object))) [
              | inl some ↦ inl some
              | inr later ↦ inr (later seen, is_next)
            ]
          ];
        })

    older_apart : {old new : S} (behind : Option Stop) (last : Stop) {stop : Stop} →
        IfSome behind (Older M region start old last) → ((o : Stop) → Sees M old o → Sees M new o) →
        Sees M new stop → ((o : Stop) → o.node.key < last.node.key → last.object ≢ region.first →
        o.node.key < stop.node.key) → IfSome behind (λ o. stop.object ≢ o.object)
    older_apart None last older later sees less = tt
    older_apart (Some o) last {stop = stop} older later sees less =
        let below = less o older.less older.last_inner in
        sees-apart sees (later o older.seen) (λ e. omega (arith, e, below))

    opened : {Began : S → List Val → Type 0} {old new : S} (key : ℕ) (head : Stop) (behind : Option Stop)
        (last next : Stop) (o : ℕ) → Laws M Began → IsReadyIn M region start →
        FitsList region → 0 < region.nodes → Walking M region key start old head behind last →
        last.node.next ≢ 0 → o ≡ node_object region.first last.node.next → Visits M old new o next →
        Leads M old new (Ok next) → OnlyReads M old new → Opened M region key start new head behind last next
    opened {old = old} {new = new} key head behind last next o laws ready fits declared so_far some o_is visits
        visit_leads visit_looks =
        let begin = region.first in
        let leads = leads-then M so_far.way.leads visit_leads in
        let looks = only_reads-then M so_far.way.leads so_far.way.looks visit_looks in
        let later = λ (stop : Stop) (sees : Sees M old stop). sees-opened sees visits.held visit_looks.sets in
        let last_seen = later last so_far.last_seen in
        let anchored = anchored-later (λ inner. inr (later head)) so_far.anchored in
        let next_at = visits.object ∙ o_is in
        let (map, admitted) = leads.admits in
        let in_start = leads.narrows map admitted in
        let (held, list) = ready.lawful map in_start in
        let at : At M region start new map held = record {
          fits = fits;
          declared = declared;
          size = omega (arith, laws.sizes start map in_start, ready.objects);
          agrees = laws.agrees new map admitted;
          same = looks.sets;
          list = list;
        } in
        let stands = stands-held key head at so_far.head_at last_seen anchored in
        let ahead = next-held last at stands visits.sees next_at some in
        let rises = λ (inner : last.object ≢ begin). next_greater next.node list stands ahead inner in
        let within = next_within list stands in
        let in_list : IsInside region o =
        subst (IsInside region) (sym o_is) (node-of_list region last.node.next declared within) in
        let other = λ (p : ℕ) (outside : ¬ IsInside region p) (e : p ≡ o).
        outside (subst (IsInside region) (sym e) in_list) in
        let not_last : next.object ≢ last.object = elim (cases_eq last.object begin) [
          | inl at_begin ↦ λ e. omega (arith, e, at_begin, next_at)
          | inr inner ↦ sees-apart visits.sees last_seen (λ e. omega (arith, e, rises inner))
        ] in
        let next_apart = older_apart behind last so_far.older later visits.sees
        (λ older below inner. omega (arith, below, rises inner)) in
        record {
          stops = record {
            way = record {
              leads = leads;
              looks = looks;
              holds = λ p outside. visits.held.others p (other p outside) ∙ so_far.way.holds p outside;
              opens = λ p outside. visits.opened.others p (other p outside) ∙ so_far.way.opens p outside;
            };
            head_seen = λ none. later head (so_far.head_seen none);
            last_seen = last_seen;
            anchored = anchored;
            next_at = next_at;
            next_within = within;
            next_owes = record {
              own = λ is. elim (cases_held (M.held start next.object)) [
                | inl none ↦ none
                | inr held ↦
                    let before = so_far.way.leads.holds next.object held in
                    absurd (none_some (sym before ∙ ap (M.held old) visits.object ∙ visits.own is) held)
              ];
              other = λ no. elim (visits.other no) [
                | inl read ↦
                    inl (so_far.few next.object not_last (λ e. omega (arith, e, next_at)) next_apart
                    (subst (IsRead M old) (sym visits.object) read))
                | inr is ↦ inr (subst (λ p. IsTrue (M.is_opened new p)) (sym visits.object) is)
              ];
            };
            next_seen = visits.sees;
            rises = rises;
          };
          last_apart = older_apart behind last so_far.older later last_seen (λ older below inner. below);
          next_apart = next_apart;
          few = λ p not_next not_last not_begin not_older read.
              let not_o = λ (e : p ≡ o). not_next (e ∙ sym visits.object) in
              so_far.few p not_last not_begin not_older
              (read-same M p (visits.held.others p not_o) (visits.opened.others p not_o) read);
        }

    older_later : {old new : S} {o : ℕ} {next : Stop} (behind : Option Stop) (last : Stop) →
        IfSome behind (Older M region start old last) → Visits M old new o next → OnlyReads M old new →
        IfSome behind (Older M region start new last)
    older_later None last older visits looks = tt
    older_later {o = o} (Some stop) last older visits looks = record {
      seen = sees-opened older.seen visits.held looks.sets;
      owes = owes-later older.owes (visits.opened.kept stop.object);
      in_list = older.in_list;
      less = older.less;
      inner = older.inner;
      last_inner = older.last_inner;
    }

    older_inner : (memory : S) (behind : Option Stop) (last : Stop) → IfSome behind (Older M region start memory last) →
        IsSome behind → last.object ≢ region.first
    older_inner memory None last older some = absurd (let no : ⊥ = cc in no)
    older_inner memory (Some o) last older some = older.last_inner

    older_less : (memory : S) (behind : Option Stop) (last : Stop) → IfSome behind (Older M region start memory last) →
        (behind ≡ None) ⊎ (0 < last.node.key)
    older_less memory None last older = inl refl
    older_less memory (Some o) last older = inr (omega (arith, older.less))

    none_same : {old new : S} (head : Stop) (behind : Option Stop) (p : ℕ) → behind ≡ None →
        LetsGo M (IsOwnOfTwo head behind) old new → M.held new p ≡ M.held old p
    none_same head None p none lets = kept-other p lets (λ own. own)
    none_same head (Some o) p none lets = absurd (let no : ⊥ = cc in no)

    few_left : {mid new : S} (head : Stop) (behind : Option Stop) (last : Stop) (p : ℕ) →
        head.object ≡ region.first → p ≢ region.first → IfSome behind (Older M region start mid last) →
        LetsGo M (IsOwnOfTwo head behind) mid new →
        IfSome behind (λ o. IsTrue o.is_own → ¬ IsRead M new o.object) → IsRead M new p →
        (IfSome behind (λ o. p ≢ o.object) → IsRead M mid p → IsSome (M.held start p)) → IsSome (M.held start p)
    few_left head None last p head_at not_begin older lets gone read few =
        few tt (read-same M p (kept-other p lets (λ own. own)) (lets.opened p) read)
    few_left {new = new} head (Some o) last p head_at not_begin older lets gone read few =
        elim (cases_eq p o.object) [
          | inr other ↦
              let kept = kept-other p lets (not_own head (Some o) p (λ some e. not_begin (e ∙ head_at)) other) in
              few other (read-same M p kept (lets.opened p) read)
          | inl same ↦
              let here = subst (IsRead M new) same read in
              elim (cases_Bool o.is_own) [
                | inl own ↦ absurd (gone own here)
                | inr other ↦ elim (older.owes.other other) [
                  | inl some ↦ subst (λ q. IsSome (M.held start q)) (sym same) some
                  | inr is ↦
                      absurd (unread-opened M o.object (subst IsTrue (sym (lets.opened o.object)) is) here)
                ]
              ]
        ]

    advanced : {Began : S → List Val → Type 0} {mid new : S} {key : ℕ} {head : Stop} {behind : Option Stop}
        {last next : Stop} → Laws M Began → IsTrue (M.is_live start) → head.object ≡ region.first →
        0 < region.nodes → Owes M start mid head → Owes M start mid last →
        IfSome behind (Older M region start mid last) → Opened M region key start mid head behind last next →
        LetsGo M (IsOwnOfTwo head behind) mid new → IfSome behind (λ o. IsTrue o.is_own → ¬ IsRead M new o.object) →
        Advanced M region key start new head behind last next
    advanced {mid = mid} {new = new} {head = head} {behind = behind} {last = last} {next = next} laws live head_at
        declared head_owes last_owes older at lets gone =
        let from = at.stops in
        let opened_stays = λ (p : ℕ) (is : IsTrue (M.is_opened mid p)). subst IsTrue (sym (lets.opened p)) is in
        let head_in = subst (IsInside region) (sym head_at) (head-of_list region declared) in
        let last_kept : M.held new last.object ≡ M.held mid last.object =
        kept-other last.object lets (not_own head behind last.object
        (λ some e. older_inner mid behind last older some (e ∙ head_at)) at.last_apart) in
        let next_kept : M.held new next.object ≡ M.held mid next.object =
        kept-other next.object lets (not_own head behind next.object
        (λ some e. omega (arith, e, head_at, from.next_at)) at.next_apart) in
        let head_later = λ (none : behind ≡ None) (sees : Sees M mid head).
        sees-same sees (none_same head behind head.object none lets) lets.written in
        let holds = λ (o : ℕ) (some : IsSome (M.held start o)).
        let same : M.held new o ≡ M.held start o = elim (lets.held o) [
          | inl same ↦ same ∙ from.way.leads.holds o some
          | inr (own, none) ↦
              absurd (none_some (own_none behind last o head_owes older own) some)
        ] in same in
        let place = lets.place ∙ from.way.leads.place in
        record {
          stops = record {
            way = record {
              leads = record {
                place = place;
                objects = lets.objects ∙ from.way.leads.objects;
                narrows = narrows-kept start new laws live lets.live place holds;
                admits = (from.way.leads.admits.0, lets.widens from.way.leads.admits.0 from.way.leads.admits.1);
                live = lets.live;
                holds = holds;
                ended = tt;
              };
              looks = record {
                sets = λ o. lets.written o ∙ from.way.looks.sets o;
                opens = λ off o. lets.opened o ∙ from.way.looks.opens off o;
              };
              holds = λ p outside. elim (lets.held p) [
                | inl same ↦ same ∙ from.way.holds p outside
                | inr (own, none) ↦ absurd (outside (own_in mid head behind last p head_in older own))
              ];
              opens = λ p outside. lets.opened p ∙ from.way.opens p outside;
            };
            head_seen = λ none. head_later none (from.head_seen none);
            last_seen = sees-same from.last_seen last_kept lets.written;
            anchored = anchored-later (λ inner. elim (older_less mid behind last older) [
              | inl none ↦ inr (head_later none)
              | inr less ↦ inl less
            ]) from.anchored;
            next_at = from.next_at;
            next_within = from.next_within;
            next_owes = owes-later from.next_owes (opened_stays next.object);
            next_seen = sees-same from.next_seen next_kept lets.written;
            rises = from.rises;
          };
          head_owes = owes-later head_owes (opened_stays head.object);
          last_owes = owes-later last_owes (opened_stays last.object);
          few = λ p not_next not_last not_begin read.
              few_left head behind last p head_at not_begin older lets gone read (at.few p not_next not_last not_begin);
        }

    -- ---- the whole walk

    -- a step: the next node is opened, and what stands before the last two is let go
    pub stepped : {Began : S → List Val → Type 0} {old mid new : S} {key : ℕ} {head : Stop} {behind : Option Stop}
        {last next : Stop} {o : ℕ} → Laws M Began → IsReadyIn M region start →
        FitsList region → 0 < region.nodes → Walking M region key start old head behind last →
        last.node.next ≢ 0 → o ≡ node_object region.first last.node.next → Visits M old mid o next →
        Leads M old mid (Ok next) → OnlyReads M old mid → LetsGo M (IsOwnOfTwo head behind) mid new →
        IfSome behind (λ o. IsTrue o.is_own → ¬ IsRead M new o.object) →
        Advanced M region key start new head behind last next
    stepped {old = old} {mid = mid} {key} {head} {behind} {last} {next} {o} laws ready fits declared so_far some o_is
        visits visit_leads visit_looks lets gone =
        let later = λ (stop : Stop) (owes : Owes M start old stop). owes-later owes (visits.opened.kept stop.object) in
        advanced laws ready.live so_far.head_at declared (later head so_far.head_owes)
        (later last so_far.last_owes) (older_later behind last so_far.older visits visit_looks)
        (opened key head behind last next o laws ready fits declared so_far some o_is visits visit_leads visit_looks)
        lets gone

    older_none : (memory : S) (behind : Option Stop) (last : Stop) → IfSome behind (Older M region start memory last) →
        last.object ≡ region.first → behind ≡ None
    older_none memory None last older at_begin = refl
    older_none memory (Some o) last older at_begin = absurd (older.last_inner at_begin)

    newer : {new : S} (behind : Option Stop) (head last next : Stop) →
        IfSome behind (λ stop. (stop ≡ last) × (last.object ≢ head.object)) →
        (last.object ≢ head.object → Older M region start new next last) → IfSome behind (Older M region start new next)
    newer None head last next is older = tt
    newer (Some stop) head last next is older = subst (Older M region start _ next) (sym is.0) (older is.1)

    not_last : (behind : Option Stop) (head last : Stop) (p : ℕ) → head.object ≡ region.first →
        (behind ≡ None → last.object ≡ head.object) →
        IfSome behind (λ stop. (stop ≡ last) × (last.object ≢ head.object)) → p ≢ region.first →
        IfSome behind (λ o. p ≢ o.object) → p ≢ last.object
    not_last None head last p head_at none some not_begin not_older e = not_begin (e ∙ none refl ∙ head_at)
    not_last (Some stop) head last p head_at none some not_begin not_older e =
        not_older (e ∙ ap (λ (s : Stop). s.object) (sym some.0))

    -- at the next node, whose key is less than the one that is looked for
    pub walking-on : {old new : S} {key : ℕ} {head : Stop} {before : Option Stop} {last next : Stop}
        (behind : Option Stop) → 0 < region.nodes → Walking M region key start old head before last →
        last.node.next ≢ 0 → Advanced M region key start new head before last next → next.node.key < key →
        (behind ≡ None → last.object ≡ head.object) →
        IfSome behind (λ stop. (stop ≡ last) × (last.object ≢ head.object)) →
        Walking M region key start new head behind next
    walking-on {old = old} {new = new} {head = head} {before = before} {last = last} {next = next} behind declared
        so_far some at less none is_last =
        let begin = region.first in
        let stops = at.stops in
        let not_begin : next.object ≢ begin = λ e. omega (arith, e, stops.next_at) in
        let first = λ (at_begin : last.object ≡ begin). older_none old before last so_far.older at_begin in
        record {
          way = stops.way;
          head_at = so_far.head_at;
          head_owes = at.head_owes;
          head_seen = λ is. stops.head_seen (first (none is ∙ so_far.head_at));
          head_next = λ e. absurd (not_begin e);
          last_in = subst (IsInside region) (sym stops.next_at)
              (node-of_list region last.node.next declared stops.next_within);
          last_owes = stops.next_owes;
          last_seen = stops.next_seen;
          anchored = inr (record {
            number = last.node.next;
            object = stops.next_at;
            within = (omega (arith, some), stops.next_within);
            less = less;
            shown = elim (cases_eq last.object begin) [
              | inl at_begin ↦ inr (stops.head_seen (first at_begin), sym (so_far.head_next at_begin))
              | inr inner ↦ inl (omega (arith, stops.rises inner))
            ];
          });
          older = newer behind head last next is_last (λ not_head. record {
            seen = stops.last_seen;
            owes = at.last_owes;
            in_list = so_far.last_in;
            less = stops.rises (λ e. not_head (e ∙ sym so_far.head_at));
            inner = λ e. not_head (e ∙ sym so_far.head_at);
            last_inner = not_begin;
          });
          few = λ p not_next not_b not_older read.
              at.few p not_next (not_last behind head last p so_far.head_at none is_last not_b not_older) not_b read;
        }

    -- what a map says that is admitted where the walk stands
    abbrev pub at-map : {Began : S → List Val → Type 0} {new : S} {last : Stop} {map : List Val} {held : List ℕ} →
        Laws M Began → IsReadyIn M region start → FitsList region → 0 < region.nodes →
        Way M region start new last → M.Admits new map → HasKeys region (with_set map (M.written start)) held →
        At M region start new map held
    at-map {new = new} {map = map} laws ready fits declared way admitted list = record {
      fits = fits;
      declared = declared;
      size = subst (λ n. region.first + size_of region ≤ n)
          (sym (laws.sizes start map (way.leads.narrows map admitted))) ready.objects;
      agrees = laws.agrees new map admitted;
      same = way.looks.sets;
      list = list;
    }

    -- the reads that are added, where the walk ends before a node
    pub adds-next : {new : S} {key : ℕ} {head : Stop} {behind : Option Stop} {last next : Stop} (place : Place) →
        Advanced M region key start new head behind last next → place.link ≡ last.object →
        place.before ≡ last.node → AddsToPlace M region start new place
    adds-next {next = next} place at link before = record {
      other = next.object;
      node = λ some. at.stops.next_at ∙ ap (λ (n : Node). node_object region.first n.next) (sym before);
      each = λ p not_link not_begin not_next read.
          at.few p not_next (λ e. not_link (e ∙ sym link)) not_begin read;
    }

    -- and at the end of the list
    pub adds-end : {new : S} (key : ℕ) (head : Stop) (behind : Option Stop) (last : Stop) →
        Walking M region key start new head behind last →
        AddsToPlace M region start new (record { link = last.object; before = last.node; node = None })
    adds-end key head None last at = record {
      other = region.first;
      node = λ some. absurd (let no : ⊥ = cc in no);
      each = λ p not_l not_begin _ read.
          at.few p not_l not_begin tt read;
    }
    adds-end key head (Some o) last at = record {
      other = o.object;
      node = λ some. absurd (let no : ⊥ = cc in no);
      each = λ p not_l not_begin not_o read.
          at.few p not_l not_begin not_o read;
    }
