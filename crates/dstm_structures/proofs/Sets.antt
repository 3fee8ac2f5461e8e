-- What the calls on an ordered set do, by what those on its map do.
use Rattle.std.proofs.Common.{◌≡◌, ◌≢◌, ◌∙◌, ◌⊎◌, ℕ, ◌<◌, ◌≤◌, Bool, true, false, List, ap, arith, get_or, inl, inr, length, refl, sym, subst}
use Rattle.std.specs.Prelude.{AllPairs, Contains, Option, None, Some, is_some, map}
use Rattle.std.proofs.lemmas.List.{get_or-map, length-map}
use Rattle.std.proofs.lemmas.List.Elements.{Contains-get_or}
use Rattle.dstm_model.specs.declared.value.Val.{Val}
use Rattle.dstm_structures.specs.Items as items
use Rattle.dstm_structures.specs.Maps.{Seeks, at_place, item_of, place_in, values_in}
use Rattle.dstm_structures.specs.Ordered as ordered
use Rattle.dstm_structures.specs.Sets.{Adds, AreKeys, AreKeysAbove, Counts, Inserts, IsFirst, IsFirstAbove, IsLast, IsLastBelow, ListsAbove, Makes, Pops, PopsLast, Removes, TellsAbove, TellsBelow, TellsFirst, TellsIf, TellsLast, inserted_by, key_in, present_of}
use Rattle.dstm_structures.specs.declared.map.Placed.{Placed}
use Rattle.dstm_structures.specs.declared.map.Placed.TheVariants.{New, Instead, Full}
use Rattle.dstm_structures.specs.declared.set.Inserted.{Inserted}
use Rattle.dstm_structures.specs.declared.set.OrderedSet.{OrderedSet}
use Rattle.dstm_structures.specs.declared.set.Present.{Present}
use Rattle.dstm_structures.proofs.Mapping.{tells-if}
use Rattle.dstm_structures.proofs.Places.{none_not}

module _ (set : OrderedSet) where
  -- an empty set is made
  pub adds : (before after : List Val) → ordered.Adds present_of set.map before after → Adds set before after
  adds before after a = record {
    cells = a.cells;
    empty = λ key. ap is_some (a.empty key);
    order = a.order;
    free = a.free;
    near = a.near;
    forks = a.forks;
  }

  -- ---- what is set

  makes : (key : ℕ) (now had : Option Present) (before after : List Val) →
      ordered.Makes present_of set.map key now had before after →
      Makes set key (is_some now) (is_some had) before after
  makes key now had before after m = record {
    was = ap is_some m.was;
    is = ap is_some m.is;
    others = λ k apart. ap is_some (m.others k apart);
    keeps = record { around = m.around; order = m.order; wastes = m.wastes; forks = m.forks };
  }

  -- a key is there
  pub inserts-there : (key : ℕ) (place : Option ℕ) (before after : List Val) → is_some place ≡ true →
      Seeks set.map.map key place before after → TellsIf set key true before after
  inserts-there key place before after it s =
      subst (λ (b : Bool). TellsIf set key b before after) it (tells-if present_of set.map.map key place before after s)

  -- a key that is not there is put
  pub inserts-absent : (key : ℕ) (value : Present) (place : Option ℕ) (put : Placed Present) (answer : Inserted)
      (before mid after : List Val) → is_some place ≡ false → answer ≡ inserted_by put → Seeks set.map.map key place before mid →
      ordered.Adding present_of set.map key value put mid after → Inserts set key answer before after
  inserts-absent key value place put answer before mid after other is s adding =
      subst (λ (a : Inserted). Inserts set key a before after) (sym is)
      (by put (subst (λ (xs : List Val). ordered.Adding present_of set.map key value put xs after) s.same adding absent))
    where
      nowhere : (o : Option ℕ) → is_some o ≡ false → o ≡ None
      nowhere None e = refl
      nowhere (Some at) e = absurd (cc)

      absent : place_in set.map.map.cells.first set.map.map.cells.capacity before key ≡ None
      absent = s.is ∙ nowhere place other

      by : (p : Placed Present) → ordered.Puts present_of set.map key value p before after →
          Inserts set key (inserted_by p) before after
      by New m = makes key (Some value) None before after m
      by (Instead had) m =
          absurd (none_not had
          (sym (ap (at_place (values_in present_of set.map.map.cells.first before)) absent) ∙ m.was))
      by Full none = record { was = ap is_some none.was; full = none.full; places = none.places; same = none.same }

  -- a key is taken out
  pub removes : (key : ℕ) (removed : Option Present) (answer : Bool) (before after : List Val) → answer ≡ is_some removed →
      ordered.Removes present_of set.map key removed before after → Removes set key answer before after
  removes key removed answer before after is r =
      subst (λ (b : Bool). Removes set key b before after) (sym is) (by removed r)
    where
      by : (o : Option Present) → ordered.Removes present_of set.map key o before after →
          Removes set key (is_some o) before after
      by None t = record { is = ap is_some t.is; same = t.same }
      by (Some had) m = makes key None (Some had) before after m

  -- ---- keys by their order

  first-in : (values : List Val) (entry : Option (ℕ × Present)) → ordered.IsFirst present_of set.map entry values →
      IsFirst set (key_in entry) values
  first-in values None f = λ k. ap is_some (f k)
  first-in values (Some entry) f = (ap is_some f.0, λ k less. ap is_some (f.1 k less))

  last-in : (values : List Val) (entry : Option (ℕ × Present)) → ordered.IsLast present_of set.map entry values →
      IsLast set (key_in entry) values
  last-in values None l = λ k. ap is_some (l k)
  last-in values (Some entry) l = (ap is_some l.0, λ k more. ap is_some (l.1 k more))

  above-in : (low : ℕ) (values : List Val) (entry : Option (ℕ × Present)) →
      ordered.IsFirstAbove present_of set.map low entry values → IsFirstAbove set low (key_in entry) values
  above-in low values None a = λ k more. ap is_some (a k more)
  above-in low values (Some entry) a = (ap is_some a.0, a.1, λ k more less. ap is_some (a.2 k more less))

  below-in : (high : ℕ) (values : List Val) (entry : Option (ℕ × Present)) →
      ordered.IsLastBelow present_of set.map high entry values → IsLastBelow set high (key_in entry) values
  below-in high values None b = λ k less. ap is_some (b k less)
  below-in high values (Some entry) b = (ap is_some b.0, b.1, λ k more less. ap is_some (b.2 k more less))

  pub tells-first : (entry : Option (ℕ × Present)) (answer : Option ℕ) (before after : List Val) → answer ≡ key_in entry →
      ordered.TellsFirst present_of set.map entry before after → TellsFirst set answer before after
  tells-first entry answer before after is t =
      subst (λ (a : Option ℕ). TellsFirst set a before after) (sym is)
      (record { is = λ order. first-in before entry (t.is order); same = t.same })

  pub tells-last : (entry : Option (ℕ × Present)) (answer : Option ℕ) (before after : List Val) → answer ≡ key_in entry →
      ordered.TellsLast present_of set.map entry before after → TellsLast set answer before after
  tells-last entry answer before after is t =
      subst (λ (a : Option ℕ). TellsLast set a before after) (sym is)
      (record { is = λ order. last-in before entry (t.is order); same = t.same })

  pub tells-above : (low : ℕ) (entry : Option (ℕ × Present)) (answer : Option ℕ) (before after : List Val) →
      answer ≡ key_in entry → ordered.TellsAbove present_of set.map low entry before after →
      TellsAbove set low answer before after
  tells-above low entry answer before after is t =
      subst (λ (a : Option ℕ). TellsAbove set low a before after) (sym is)
      (record { is = λ order. above-in low before entry (t.is order); same = t.same })

  pub tells-below : (high : ℕ) (entry : Option (ℕ × Present)) (answer : Option ℕ) (before after : List Val) →
      answer ≡ key_in entry → ordered.TellsBelow present_of set.map high entry before after →
      TellsBelow set high answer before after
  tells-below high entry answer before after is t =
      subst (λ (a : Option ℕ). TellsBelow set high a before after) (sym is)
      (record { is = λ order. below-in high before entry (t.is order); same = t.same })

  -- the first key is taken out
  pub pops : (entry : Option (ℕ × Present)) (answer : Option ℕ) (before after : List Val) → answer ≡ key_in entry →
      ordered.Pops present_of set.map entry before after → Pops set answer before after
  pops entry answer before after is p =
      subst (λ (a : Option ℕ). Pops set a before after) (sym is) (by entry p)
    where
      by : (o : Option (ℕ × Present)) → ordered.Pops present_of set.map o before after → Pops set (key_in o) before after
      by None t = record { is = λ order. first-in before None (t.is order); same = t.same }
      by (Some taken) t = record {
        first = λ order. first-in before (Some taken) (t.end order);
        is = ap is_some t.is;
        others = λ k apart. ap is_some (t.others k apart);
        keeps = record { around = t.around; order = t.order; wastes = t.wastes; forks = t.forks };
      }

  -- the last one
  pub pops-last : (entry : Option (ℕ × Present)) (answer : Option ℕ) (before after : List Val) → answer ≡ key_in entry →
      ordered.PopsLast present_of set.map entry before after → PopsLast set answer before after
  pops-last entry answer before after is p =
      subst (λ (a : Option ℕ). PopsLast set a before after) (sym is) (by entry p)
    where
      by : (o : Option (ℕ × Present)) → ordered.PopsLast present_of set.map o before after →
          PopsLast set (key_in o) before after
      by None t = record { is = λ order. last-in before None (t.is order); same = t.same }
      by (Some taken) t = record {
        last = λ order. last-in before (Some taken) (t.end order);
        is = ap is_some t.is;
        others = λ k apart. ap is_some (t.others k apart);
        keeps = record { around = t.around; order = t.order; wastes = t.wastes; forks = t.forks };
      }

  -- ---- all keys

  abbrev key : ℕ × Present → ℕ
  key entry = entry.0

  module _ (entries : List (ℕ × Present)) (values : List Val) where
    inside : (k : ℕ) → k < length (map key entries) → k < length entries
    inside k within = subst (λ (n : ℕ). k < n) (length-map entries key) within

    all_keys : ((k : ℕ) (value : Present) → item_of present_of set.map.map values k ≡ Some value → Contains entries (k, value)) →
        (k : ℕ) → is_some (item_of present_of set.map.map values k) ≡ true → Contains (map key entries) k
    all_keys all k it = from (item_of present_of set.map.map values k) refl
      where
        from : (o : Option Present) → item_of present_of set.map.map values k ≡ o → Contains (map key entries) k
        from None is = absurd (never (sym (ap is_some is) ∙ it))
          where
            never : false ≡ true → ⊥
            never e = cc
        from (Some value) is =
            let has = all k value is in (
              has.0,
              subst (λ (n : ℕ). has.0 < n) (sym (length-map entries key)) has.1,
              get_or-map key entries has.0 (k, value) k has.1 ∙ ap key has.2,
            )

    only_keys : ((k : ℕ) (value : Present) → Contains entries (k, value) → item_of present_of set.map.map values k ≡ Some value) →
        (k : ℕ) → Contains (map key entries) k → is_some (item_of present_of set.map.map values k) ≡ true
    only_keys only k has =
        let entry : ℕ × Present = get_or entries has.0 (k, record {}) in
        let same : entry.0 ≡ k = sym (get_or-map key entries has.0 (k, record {}) k (inside has.0 has.1)) ∙ has.2 in
        ap (λ (x : ℕ). is_some (item_of present_of set.map.map values x)) (sym same)
        ∙ ap is_some (only entry.0 entry.1 (Contains-get_or entries has.0 (k, record {}) (inside has.0 has.1)))

    pairs : (R : ℕ → ℕ → Type 0) → AllPairs (λ one other. R one.0 other.0) entries → AllPairs R (map key entries)
    pairs R each i j d less within =
        let far : j < length entries = inside j within in
        subst (λ (x : ℕ). R x (get_or (map key entries) j d))
        (sym (get_or-map key entries i (d, record {}) d (omega (arith, less, far))))
        (subst (λ (y : ℕ). R (get_or entries i (d, record {})).0 y) (sym (get_or-map key entries j (d, record {}) d far))
        (each i j (d, record {}) less far))

  -- how many there are
  pub counts : (count : ℕ) (before after : List Val) → items.Counts present_of set.map.map count before after →
      Counts set count before after
  counts count before after c = record {
    keys = map key c.items;
    all = all_keys c.items before c.lists.all;
    only = only_keys c.items before c.lists.only;
    once = pairs c.items before (λ one other. one ≢ other) c.lists.once;
    is = c.is ∙ sym (length-map c.items key);
    same = c.lists.same;
  }

  -- they are listed
  pub lists : (entries : List (ℕ × Present)) (keys : List ℕ) (values : List Val) → keys ≡ map key entries →
      items.AreItems present_of set.map entries values → AreKeys set keys values
  lists entries keys values is are =
      subst (λ (xs : List ℕ). AreKeys set xs values) (sym is)
      (record {
        all = all_keys entries values are.all;
        only = only_keys entries values are.only;
        rising = pairs entries values (λ one other. one < other) are.rising;
      })

  -- ---- the keys above another one

  module _ (entries : List (ℕ × Present)) (values : List Val) where
    -- a key that is listed has an entry, and the other way round
    entry-of : (k : ℕ) → Contains (map key entries) k → (value : Present) × Contains entries (k, value)
    entry-of k has =
        let entry : ℕ × Present = get_or entries has.0 (k, record {}) in
        let same : entry.0 ≡ k =
        sym (get_or-map key entries has.0 (k, record {}) k (inside entries values has.0 has.1)) ∙ has.2 in (
          entry.1,
          subst (λ (x : ℕ). Contains entries (x, entry.1)) same
              (Contains-get_or entries has.0 (k, record {}) (inside entries values has.0 has.1)),
        )

    listed : (k : ℕ) (value : Present) → Contains entries (k, value) → Contains (map key entries) k
    listed k value has = (
      has.0,
      subst (λ (n : ℕ). has.0 < n) (sym (length-map entries key)) has.1,
      get_or-map key entries has.0 (k, value) k has.1 ∙ ap key has.2,
    )

    above-keys : (low most : ℕ) → items.AreItemsAbove present_of set.map low most entries values →
        AreKeysAbove set low most (map key entries) values
    above-keys low most are = record {
      few = subst (λ (n : ℕ). n ≤ most) (sym (length-map entries key)) are.few;
      all = λ k more it. from k more it (item_of present_of set.map.map values k) refl;
      only = λ k has.
          let entry = entry-of k has in
          let told = are.only k entry.0 entry.1 in
          (told.0, ap is_some told.1);
      rising = pairs entries values (λ one other. one < other) are.rising;
    }
      where
        from : (k : ℕ) → low < k → is_some (item_of present_of set.map.map values k) ≡ true → (o : Option Present) →
            item_of present_of set.map.map values k ≡ o →
            Contains (map key entries) k
            ⊎ ((length (map key entries) ≡ most) × ((j : ℕ) → Contains (map key entries) j → j < k))
        from k more it None is = absurd (never (sym (ap is_some is) ∙ it))
          where
            never : false ≡ true → ⊥
            never e = cc
        from k more it (Some value) is = by (are.all k value more is)
          where
            by : Contains entries (k, value)
                ⊎ ((length entries ≡ most) × ((j : ℕ) (other : Present) → Contains entries (j, other) → j < k)) →
                Contains (map key entries) k
                ⊎ ((length (map key entries) ≡ most) × ((j : ℕ) → Contains (map key entries) j → j < k))
            by (inl has) = inl (listed k value has)
            by (inr rest) =
                inr (length-map entries key ∙ rest.0, λ j has. let entry = entry-of j has in rest.1 j entry.0 entry.1)

  pub lists-above : (low most : ℕ) (entries : List (ℕ × Present)) (keys : List ℕ) (before after : List Val) →
      keys ≡ map key entries → items.ListsAbove present_of set.map low most entries before after →
      ListsAbove set low most keys before after
  lists-above low most entries keys before after is t =
      subst (λ (xs : List ℕ). ListsAbove set low most xs before after) (sym is)
      (record { is = λ order. above-keys entries before low most (t.is order); same = t.same })
