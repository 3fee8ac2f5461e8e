use Rattle.std.proofs.Common.{rules, ◌≡◌, Some, refl, subst, sym, true}
use Rattle.dstm_tl2_engine.proofs.Base.{Doing, Finishing, Home, is_valid, now}
use Rattle.dstm_tl2_engine.proofs.Committing.{Finished, Left, finished_commits, finished_stays, finished_tied, finished_told, free_here, law_there, left_here, left_leaves, left_tied, left_told}
use Rattle.dstm_tl2_engine.proofs.Told.{locked_made}
use Rattle.dstm_tl2_engine.proofs.Tying.{at_words, ends_here, kept}
use Rattle.dstm_tl2_engine.specs.Mirror.{called}
use Rattle.dstm_tl2_engine.specs.Transactions.{HasLocked}
use Rattle.dstm_tl2_engine.proofs.caller.TlCaller.finish.Given.{Over}
use Rattle.dstm_tl2_engine.proofs.caller.TlCaller.finish.Goals.{After-words, In-Err, In_default}
use Rattle.dstm_tl2_engine.proofs.caller.TlCaller.finish.Goals as goal

home : (g : Over) (c : After-words g) → (called c.self.inside).home ≡ c.words.result.now
home g c = at_words c.self.inside c.self.view_is c.requires.table c.words.ensures

locked : (g : Over) (c : After-words g) → HasLocked (called c.self.inside)
locked g c = subst HasLocked (sym c.self.view_is) c.requires.locked

pub finish-committed-requires-clause-lawful : goal.finish-committed-requires-clause-lawful
finish-committed-requires-clause-lawful g c =
    let before = (goal.at.finish-committed-requires-clause-lawful g c).After-words in
    law_there c.self.invariant (home g before) (c.self.invariant.lawful (locked g before))

left : (g : Over) (c : In-Err g) → (called c.self.inside).home ≡ c.words.result.now → HasLocked (called c.self.inside) →
    Left c.self.invariant (Finishing c.self.inside.opened.writes) c.finish-committed.new.self c.in-Err.again
left g c same locked =
    left_here c.self.invariant same (Finishing c.self.inside.opened.writes) refl refl c.in-Err.ensures.ends
    c.in-Err.ensures.free.1 c.writes.ensures.below c.writes.ensures.apart (locked_made locked) tt

pub invariant_of-self : goal.invariant_of-self
invariant_of-self g c =
    let at = goal.at.invariant_of-self g c in
    let by = left g at.In-Err (home g at.After-words) (locked g at.After-words) in
    rw c.in-Err.ensures.free.0 (left_tied c.self.invariant by)

pub returns-in-Err : goal.returns-in-Err
returns-in-Err g c =
    let at = goal.at.returns-in-Err g c in
    let by = left g at.In-Err (home g at.After-words) (locked g at.After-words) in
    record {
      stays = search rules;
      leaves = rw (← c.self.view_is) (left_leaves c.self.invariant by);
      number = search rules;
      kept = search rules;
      told = λ _. left_told c.self.invariant by;
      seen = (kept c.self.invariant _ by.under).seen;
    }

finished : (g : Over) (c : In_default g) → (called c.self.inside).home ≡ c.words.result.now →
    HasLocked (called c.self.inside) → Finished c.self.invariant c.finish-committed.new.self c.in_default.field-0
finished g c same locked =
    let x = c.self.inside in
    let new = c.finish-committed.new.self in
    let valid = c.in_default.ensures.valid in record {
      ends = ends_here c.self.invariant same (Doing (Finishing x.opened.writes)) c.in_default.ensures.ends_well;
      locked = locked;
      valid = subst (λ (h : Home _). is_valid (now h new) ≡ true) (sym same) valid.0;
      drawn = subst (λ (h : Home _). (now h new).drawn ≡ Some c.in_default.field-0) (sym same) valid.1;
      told = subst (λ (h : Home _). (now h new).writes ≡ Some x.opened.writes) (sym same) valid.2;
      free = free_here c.self.invariant same new c.in_default.ensures.free.1;
    }

pub invariant_of-self-in_default : goal.invariant_of-self-in_default
invariant_of-self-in_default g c =
    let at = goal.at.invariant_of-self-in_default g c in
    rw c.in_default.ensures.free.0 (finished_tied c.self.invariant
    (finished g at.In_default (home g at.After-words) (locked g at.After-words)))

pub returns-in_default : goal.returns-in_default
returns-in_default g c =
    let at = goal.at.returns-in_default g c in
    let by = finished g at.In_default (home g at.After-words) (locked g at.After-words) in
    let r = c.in_default.is in
    rw r (record {
      stays = rw (← c.self.view_is) (finished_stays c.self.invariant by);
      leaves = search rules;
      number = rw (← c.self.view_is) (finished_commits c.self.invariant by);
      kept = search rules;
      told = λ _. finished_told c.self.invariant by;
      seen = (kept c.self.invariant _ by.ends).seen;
    })
