use Rattle.std.proofs.Common.{rules, ◌∙◌, ap, length, refl, subst, sym}
use Rattle.dstm_tl2_engine.proofs.Base.{AtRest, Doing, Locking}
use Rattle.dstm_tl2_engine.proofs.Committing.{Left, Locked, has_locked, left_here, left_leaves, left_tied, left_told, locked_done, locked_here, locked_kept, locked_stays, locked_tied, locked_told, locks_here}
use Rattle.dstm_tl2_engine.proofs.Told.{rest_can, rest_made}
use Rattle.dstm_tl2_engine.proofs.Tying.{at_words, ends_here, kept}
use Rattle.dstm_tl2_engine.specs.Attempts.{done}
use Rattle.dstm_tl2_engine.specs.Callers.{TlCalled, is_live, state}
use Rattle.dstm_tl2_engine.specs.Mirror.{called}
use Rattle.dstm_tl2_engine.specs.Transactions.{IsLawful}
use Rattle.dstm_tl2_engine.proofs.caller.TlCaller.lock.Given.{Over}
use Rattle.dstm_tl2_engine.proofs.caller.TlCaller.lock.Goals.{In-Err, In_default}
use Rattle.dstm_tl2_engine.proofs.caller.TlCaller.lock.Goals as goal

left : (g : Over) (c : In-Err g) →
    Left c.self.invariant (Locking c.self.inside.opened.writes) c.lock_all-locked.new.self c.in-Err.again
left g c =
    let rest : AtRest (state (called c.self.inside)) =
    subst (λ (k : TlCalled _). AtRest (state k)) (sym c.self.view_is) c.requires.rest in
    left_here c.self.invariant (at_words c.self.inside c.self.view_is c.requires.table c.words.ensures)
    (Locking c.self.inside.opened.writes) refl refl c.in-Err.ensures.ends
    c.in-Err.ensures.free.1 c.writes.ensures.below c.writes.ensures.apart (rest_made (called c.self.inside) rest)
    (rest_can rest (length c.self.inside.opened.writes))

pub invariant_of-self : goal.invariant_of-self
invariant_of-self g c =
    rw c.in-Err.ensures.free.0 (left_tied c.self.invariant (left g (goal.at.invariant_of-self g c).In-Err))

pub returns-in-Err : goal.returns-in-Err
returns-in-Err g c =
    let by = left g (goal.at.returns-in-Err g c).In-Err in
    record {
      stays = search rules;
      leaves = rw (← c.self.view_is) (left_leaves c.self.invariant by);
      kept = search rules;
      locked = search rules;
      done = search rules;
      told = λ _. left_told c.self.invariant by;
      seen = (kept c.self.invariant _ by.under).seen;
    }

locked : (g : Over) (c : In_default g) →
    Locked c.self.invariant c.lock_all-locked.new.self
locked g c =
    let x = c.self.inside in
    let new = c.lock_all-locked.new.self in
    let same = at_words x c.self.view_is c.requires.table c.words.ensures in record {
      ends =
          ends_here c.self.invariant same (Doing (Locking x.opened.writes))
          (c.in_default.ensures.goes_on (Locking x.opened.writes) refl);
      rest = subst (λ (k : TlCalled _). AtRest (state k)) (sym c.self.view_is) c.requires.rest;
      live = ap is_live c.self.view_is ∙ c.requires.live;
      state_is = locked_here c.self.invariant same new c.in_default.ensures.state;
      locks = locks_here c.self.invariant same
          c.lock_all-locked.ensures.lists c.in_default.ensures.all;
    }

pub invariant_of-self-in_default : goal.invariant_of-self-in_default
invariant_of-self-in_default g c =
    rw c.in_default.ensures.all (locked_tied c.self.invariant
    (locked g (goal.at.invariant_of-self-in_default g c).In_default)
    (subst (IsLawful g.L.Law.holds) (sym c.self.view_is) c.requires.lawful))

pub returns-in_default : goal.returns-in_default
returns-in_default g c =
    let by = locked g (goal.at.returns-in_default g c).In_default in
    let r = c.in_default.is in
    rw r (record {
      stays = rw (← c.self.view_is) (locked_stays c.self.invariant by);
      leaves = search rules;
      kept = rw (← c.self.view_is) (locked_kept c.self.invariant by);
      locked = has_locked c.self.invariant by;
      done = locked_done c.self.invariant by ∙ ap done c.self.view_is;
      told = λ _. locked_told c.self.invariant by;
      seen = (kept c.self.invariant _ by.ends).seen;
    })
