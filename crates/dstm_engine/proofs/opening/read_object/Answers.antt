use Rattle.std.proofs.Common.{◌++◌, ◌∙◌, ◌∷◌, [], ap, map, refl, sym}
use Rattle.std.proofs.lemmas.List.{map-append}
use Rattle.dstm_engine.proofs.Base.{Home, now, value_at, words_of}
use Rattle.dstm_steps.proofs.FoundValues.{has_value}
use Rattle.dstm_steps.specs.FoundValues.{found_value}
use Rattle.dstm_engine.proofs.OpenStates.{adds_read, found_still, last_read, object_still, owed_read, record_read}
use Rattle.dstm_engine.proofs.Slots.{words_push}
use Rattle.dstm_engine.specs.Mirror.{slot_word}
use Rattle.dstm_engine.specs.Opened.{OpenedAs}
use Rattle.dstm_engine.proofs.opening.read_object.Goals as goal

pub conclude-requires-clause-slots : goal.conclude-requires-clause-slots
conclude-requires-clause-slots g c =
    let home = c.args.words.now in
    let old = now home c.args.steps.now in
    let before = now home c.resolve.new.self in
    let found = c.in_ok-found.found in
    let e = c.in_ok-found.ensures in
    c.reads.ensures ∙ ap (λ (o : OpenedAs). map slot_word o.reads) c.push_read.ensures
    ∙ map-append slot_word c.args.opened.now.reads (_ ∷ []) ∙ ap (λ xs. xs ++ (c.args.object, found.word) ∷ []) c.requires.slots
    ∙ sym (ap words_of (record_read old c.args.object e.attempt e.object e.found c.requires.unread)
    ∙ words_push old.reads _)

pub conclude-requires-clause-owed : goal.conclude-requires-clause-owed
conclude-requires-clause-owed g c =
    let home = c.args.words.now in
    let e = c.in_ok-found.ensures in
    owed_read (now home c.args.steps.now) c.args.object e.attempt e.object e.found c.requires.unread

pub returns-clause-opens : goal.returns-clause-opens
returns-clause-opens g c =
    let home = c.args.words.now in
    let old = now home c.args.steps.now in
    let before = now home c.resolve.new.self in
    let new = now home c.conclude.new.self in
    let found = c.in_ok-found.found in
    let e = c.in_ok-found.ensures in
    let s = c.in_ok-conclude.ensures.state in
    let m = home.terms.shape.manager in
    record {
      word = found.word;
      version = found.version;
      adds = adds_read old c.args.object e.attempt e.object e.found c.requires.unread m s.0
          c.requires.running c.requires.put s.1;
      listed = c.push_read.ensures;
      valued =
          has_value c.in_ok-conclude.ensures.ends_well c.in_ok-conclude.ensures.ends_well
          (record { later = []; whole = refl })
          (found_still old c.args.object e.attempt e.object e.found c.requires.unread m s.0
          c.requires.running c.requires.put s.1)
          (object_still old c.args.object e.attempt e.object e.found c.requires.unread m s.0
          c.requires.running c.requires.put s.1)
          ∙ ap (λ (h : Home _). found_value found (value_at h.terms.start.value.items c.args.object)) (sym c.requires.table)
          ∙ sym c.value_found-value.ensures;
    }

pub returns-clause-last : goal.returns-clause-last
returns-clause-last g c =
    let home = c.args.words.now in
    let e = c.in_ok-found.ensures in
    let s = c.in_ok-conclude.ensures.state in
    s.2 ∙ sym (last_read (now home c.args.steps.now) c.args.object
    e.attempt e.object e.found c.requires.unread home.terms.shape.manager s.0 c.requires.running c.requires.put s.1)
