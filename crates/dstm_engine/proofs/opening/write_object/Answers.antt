use Rattle.std.proofs.Common.{◌++◌, ◌∙◌, ◌∷◌, None, [], ap, map, refl, sym}
use Rattle.dstm_steps.specs.FoundValues.{found_value}
use Rattle.std.specs.Prelude.{option_map}
use Rattle.dstm_engine.proofs.Base.{Home, ReadSlot, now, value_at, words_of}
use Rattle.dstm_engine.proofs.OpenStates.{acquired_held, acquired_reads, acquired_runs, adds_write, last_write}
use Rattle.dstm_engine.proofs.HeldStill.{version_goes}
use Rattle.dstm_engine.proofs.Setting.{set_pairs_push}
use Rattle.dstm_engine.proofs.Slots.{slot_read, words_without}
use Rattle.dstm_engine.specs.Mirror.{set_pairs, slot_word}
use Rattle.dstm_engine.specs.Opened.{OpenedAs}
use Rattle.dstm_engine.proofs.opening.write_object.Goals as goal

pub acquire-requires-clause-read : goal.acquire-requires-clause-read
acquire-requires-clause-read g c =
    slot_read c.args.opened.now.reads (now c.args.words.now c.args.steps.now).reads c.args.object c.requires.slots
    ∙ ap (option_map (λ (s : ReadSlot). s.word)) (sym c.read.ensures) ∙ sym c.recorded_word-read.ensures

pub conclude-requires-clause-slots : goal.conclude-requires-clause-slots
conclude-requires-clause-slots g c =
    let home = c.args.words.now in
    let old = now home c.args.steps.now in
    c.reads.ensures ∙ ap (λ (o : OpenedAs). map slot_word o.reads) c.push_write.ensures
    ∙ ap (λ (o : OpenedAs). map slot_word o.reads) c.drop_read.ensures
    ∙ words_without c.args.opened.now.reads old.reads c.args.object c.requires.slots
    ∙ sym (ap words_of (acquired_reads c.in_ok-found.ensures.got))

pub returns-in_err-conclude-clause-rest : goal.returns-in_err-conclude-clause-rest
returns-in_err-conclude-clause-rest g c = (
  ap (λ (o : OpenedAs). o.objects) c.push_write.ensures ∙ ap (λ (o : OpenedAs). o.objects) c.drop_read.ensures,
  ap (λ (o : OpenedAs). set_pairs o.writes) c.push_write.ensures
      ∙ set_pairs_push c.drop_read.new.self.writes _ refl
      ∙ ap (λ (o : OpenedAs). set_pairs o.writes) c.drop_read.ensures,
)

pub returns-clause-opens : goal.returns-clause-opens
returns-clause-opens g c =
    let home = c.args.words.now in
    let s = c.in_ok-conclude.ensures.state in
    let found = c.in_ok-found.found in
    let value = c.value_found-old.result in
    record {
      version = found.version;
      adds = adds_write home.terms.shape.manager s.0 c.requires.running c.requires.put
          c.in_ok-found.ensures.got s.1;
      listed =
          c.push_write.ensures
          ∙ ap (λ (o : OpenedAs). record o {
            writes = o.writes ++ record { object = c.args.object; old = value; new = None } ∷ [];
          }) c.drop_read.ensures;
      valued =
          version_goes c.args.object found.version c.in_ok-found.ensures.under
          c.in_ok-conclude.ensures.ends_well c.in_ok-conclude.ensures.past
          (λ out. let x = acquired_runs c.in_ok-found.ensures.got c.requires.running in cc) (acquired_held
          c.in_ok-found.ensures.got c.requires.unopened)
          ∙ c.in_ok-found.ensures.value
          ∙ ap (λ (h : Home _). found_value found (value_at h.terms.start.value.items c.args.object)) (sym c.requires.table)
          ∙ sym c.value_found-old.ensures;
    }

pub returns-clause-last : goal.returns-clause-last
returns-clause-last g c =
    let home = c.args.words.now in
    let s = c.in_ok-conclude.ensures.state in
    s.2 ∙ sym (last_write home.terms.shape.manager s.0 c.requires.running c.requires.put c.in_ok-found.ensures.got s.1)

pub returns-clause-rest : goal.returns-clause-rest
returns-clause-rest g c = (
  ap (λ (o : OpenedAs). o.objects) c.push_write.ensures ∙ ap (λ (o : OpenedAs). o.objects) c.drop_read.ensures,
  ap (λ (o : OpenedAs). set_pairs o.writes) c.push_write.ensures
      ∙ set_pairs_push c.drop_read.new.self.writes _ refl
      ∙ ap (λ (o : OpenedAs). set_pairs o.writes) c.drop_read.ensures,
)
