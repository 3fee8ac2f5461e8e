use Rattle.std.proofs.Common.{◌≡◌, ◌∷◌, ◌++◌, [], sym, refl, subst, length, ℕ, Some, None, arith}
use Rattle.dstm_core.specs.Indexed.{reads_at}
use Rattle.dstm_core.specs.State.{read_of}
use Rattle.dstm_core.specs.Reads.{Checklist}
use Rattle.dstm_core.proofs.Indexing.{Gives, free, indexed_more, indexed_push, put_last, put_back, same_list, err_any}
use Rattle.dstm_core.proofs.Reading.{reads_old, reads_more, count-push}
use Rattle.dstm_core.proofs.reads.Reads.push.Goals as goal
use Rattle.dstm_core.proofs.reads.Reads.push.Goals.{After-remove, In_default}

pub invariant_of-self-in_err-insert : goal.invariant_of-self-in_err-insert
invariant_of-self-in_err-insert c =
    let more = indexed_more c.args.read c.self.invariant in
    rw (c.in_ok-push.ensures.items, c.in_err-insert.ensures.err) more

pub returns-in_err-insert-clause-err : goal.returns-in_err-insert-clause-err
returns-in_err-insert-clause-err c =
    err_any c.from_residual-in_err-insert.result _
    (rw (c.in_ok-push.ensures.items, c.in_err-insert.ensures.err, ← c.self.view_is)
    (same_list _ _ (reads_old c.self.inside.recorded.items c.args.read c.self.inside.live.keys
    c.self.invariant.within) refl))

-- once the place is taken out again the places are those of before
back : (c : After-remove) → c.remove.new.self.keys ≡ c.self.inside.live.keys
back c =
    put_back c.len-place.result c.self.invariant
    (omega (arith, c.self.inside.recorded.ok, c.len-place.ensures)) c.in_ok-insert.ensures.keys c.remove.ensures.keys

pub invariant_of-self-in-Err : goal.invariant_of-self-in-Err
invariant_of-self-in-Err c =
    let more = indexed_more c.args.read c.self.invariant in
    let same = back (goal.at.invariant_of-self-in-Err c).After-remove in
    rw (c.in_ok-push.ensures.items, same, c.in-Err.ensures.err) more

pub returns-in-Err-clause-err : goal.returns-in-Err-clause-err
returns-in-Err-clause-err c =
    let same = back (goal.at.returns-in-Err-clause-err c).After-remove in
    rw (c.in_ok-push.ensures.items, same, ← c.self.view_is)
    (same_list _ _ (reads_old c.self.inside.recorded.items c.args.read c.self.inside.live.keys
    c.self.invariant.within) refl)

-- where the object has its place too, the places are those of before and the last one
put : (c : In_default) → c.insert.new.self.keys ≡ c.self.inside.live.keys ++ length c.self.inside.recorded.items ∷ []
put c =
    put_last c.len-place.result c.self.invariant
    (omega (arith, c.self.inside.recorded.ok, c.len-place.ensures)) c.in_ok-insert.ensures.keys

pub invariant_of-self-in_default : goal.invariant_of-self-in_default
invariant_of-self-in_default c =
    let rs = c.self.inside.recorded.items in
    let ks = c.self.inside.live.keys in
    let es = c.self.inside.places.entries in
    let absent : read_of c.args.read.object (reads_at rs ks) ≡ None =
    subst (λ (l : Checklist). read_of c.args.read.object l.reads ≡ None) (sym c.self.view_is) c.requires in
    let n : c.len-place.result ≡ length rs = omega (arith, c.self.inside.recorded.ok, c.len-place.ensures) in
    let gives : Gives c.args.read.object (Some (length rs)) es c.insert-2.new.self.entries =
    subst (λ (m : ℕ). Gives c.args.read.object
    (Some m) es c.insert-2.new.self.entries) n c.in_default.ensures.updates.0 in
    let more = put (goal.at.invariant_of-self-in_default c).In_default in
    rw (c.in_ok-push.ensures.items, more) (indexed_push c.insert-2.new.self.entries c.args.read c.self.invariant
    (free c.args.read.object c.self.invariant absent) gives)

pub returns-clause-ok : goal.returns-clause-ok
returns-clause-ok c =
    let rs = c.self.inside.recorded.items in
    let ks = c.self.inside.live.keys in
    let more = put (goal.at.returns-clause-ok c).In_default in
    rw (c.in_ok-push.ensures.items, more, ← c.self.view_is) (same_list _ _
    (reads_more rs c.args.read ks c.self.invariant.within)
    (count-push c.self.inside.cursor (length rs) ks c.self.invariant.begins))
