use Rattle.std.proofs.Common.{◌+◌, ◌<◌, ◌∙◌, ◌≡◌, ◌≢◌, ap, arith, filter, length, refl, subst, sym, ℕ}
use Rattle.std.specs.Prelude.{List}
use Rattle.std.specs.Vec.{with_items}
use Rattle.std.proofs.lemmas.List.{with_items_is}
use Rattle.dstm_mem.proofs.Slots.{apart_counting, below_counting, placed_alike, together}
use Rattle.dstm_steps.specs.declared.slots.ReadSlot.{ReadSlot}
use Rattle.dstm_engine.proofs.Slots.{filter_again}
use Rattle.dstm_engine.specs.Opened.{AreApart, AreReadPlaces, read_at}
use Rattle.dstm_steps.specs.Sorts.{is_kept}
use Rattle.dstm_mem.specs.Slots.{place_at}
use Rattle.dstm_mem.specs.declared.places.Place.{Place}
use Rattle.dstm_engine.proofs.opened.make_room.Goals.{After-place_reads}
use Rattle.dstm_engine.proofs.opened.make_room.Goals as goal

pub place_reads-requires-clause-below : goal.place_reads-requires-clause-below
place_reads-requires-clause-below c =
    rw (c.deref.ensures.value ∙ c.keep_reads.ensures.items, c.deref_mut.ensures.value) (below_counting c.requires.placed)

pub place_reads-requires-clause-apart : goal.place_reads-requires-clause-apart
place_reads-requires-clause-apart c =
    subst AreApart (sym (c.deref.ensures.value ∙ c.keep_reads.ensures.items)) (apart_counting c.requires.placed)

-- the places are those that were made
made : (c : After-place_reads) → (with_items c.args.places.now c.place_reads.new.places).items ≡ c.place_reads.new.places
made c =
    with_items_is c.args.places.now c.place_reads.new.places
    (c.place_reads.ensures.size ∙ ap length c.deref_mut.ensures.value ∙ sym c.args.places.now.ok.0)

pub returns-clause-placed : goal.returns-clause-placed
returns-clause-placed c =
    let old = c.args.reads.now.items in
    let new = c.place_reads.new.places in
    let e = c.place_reads.ensures in
    let is = c.deref.ensures.value ∙ c.keep_reads.ensures.items in
    let value = c.deref_mut.ensures.value in
    subst (λ xs. AreReadPlaces xs (with_items c.args.places.now new).items) (sym c.keep_reads.ensures.items)
    (subst (AreReadPlaces (filter is_kept old)) (sym (made (goal.at.returns-clause-placed c).After-place_reads))
    (placed_alike (together c.requires.placed (λ o. (place_at new o).read)
    (subst (λ (xs : List ReadSlot). (i : ℕ) → i < length xs → (place_at new (read_at xs i).object).read ≡ i + 1) is e.done)
    (λ o none. subst (λ (xs : List ReadSlot). (o : ℕ) → ((i : ℕ) → i < length xs → (read_at xs i).object ≢ o) →
    (place_at new o).read ≡ (place_at c.deref_mut.result.now o).read) is e.others o none
    ∙ ap (λ (ps : List Place). (place_at ps o).read) value)) _ _ (e.size ∙ ap length value) (λ o. refl)))

pub returns-clause-kept : goal.returns-clause-kept
returns-clause-kept c = ap (filter is_kept) c.keep_reads.ensures.items ∙ filter_again c.args.reads.now.items

pub returns-clause-counted : goal.returns-clause-counted
returns-clause-counted c =
    let e = ap (λ (xs : List ReadSlot). length (filter is_kept xs)) c.keep_reads.ensures.items in
    let again = ap (λ (xs : List ReadSlot). length xs) (filter_again c.args.reads.now.items) in
    let all = ap (λ (xs : List ReadSlot). length xs) c.keep_reads.ensures.items in
    omega arith
