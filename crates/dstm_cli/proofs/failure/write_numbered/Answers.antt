use Rattle.std.proofs.Common.{◌≡◌, List, ℕ, [], ◌++◌, codes, decimal, refl, subst, append_assoc, append-nil, sym, rules}
use Rattle.std.proofs.KnownBytes.{Appends-trans}
use Rattle.std.specs.Io.KnownBytes.{Appends}
use Rattle.dstm_io.specs.Sink.{AppendsPart}
use Rattle.dstm_cli.specs.Failure.{numbered}
use Rattle.dstm_cli.proofs.Ends.{on_err, on_err-then, part_behind}
use Rattle.dstm_cli.proofs.failure.write_numbered.Goals as goal

pub returns-in_err-write_all-2-clause-part : goal.returns-in_err-write_all-2-clause-part
returns-in_err-write_all-2-clause-part g c =
    let t0 = g.E.Sink.taken c.args.err.now in
    let t1 = g.E.Sink.taken c.write_all.new.sink in
    let t2 = g.E.Sink.taken c.write_all-2.new.sink in
    let text : List ℕ = c.args.text.now in
    let number : List ℕ = decimal c.args.number in
    let rest : List ℕ = codes ": " ++ c.args.reason.now ++ codes "\n" in
    let is : c.as_bytes.result.now ≡ number = search rules in
    let whole : numbered text c.args.number c.args.reason.now ≡ text ++ number ++ rest =
    simp append_assoc in
    on_err c.from_residual-in_err-write_all-2.result _ (part_behind t0 t1 t2 text number rest _ whole
    c.in_ok-write_all.ensures.all (subst (AppendsPart t1 t2) is c.in_err-write_all-2.ensures.part))

pub returns-in_err-write_all-3-clause-part : goal.returns-in_err-write_all-3-clause-part
returns-in_err-write_all-3-clause-part g c =
    let t0 = g.E.Sink.taken c.args.err.now in
    let t1 = g.E.Sink.taken c.write_all.new.sink in
    let t2 = g.E.Sink.taken c.write_all-2.new.sink in
    let t3 = g.E.Sink.taken c.write_all-3.new.sink in
    let text : List ℕ = c.args.text.now in
    let number : List ℕ = decimal c.args.number in
    let rest : List ℕ = c.args.reason.now ++ codes "\n" in
    let is : c.as_bytes.result.now ≡ number = search rules in
    let whole : numbered text c.args.number c.args.reason.now ≡ text ++ number ++ codes ": " ++ rest =
    simp append_assoc in
    on_err c.from_residual-in_err-write_all-3.result _ (part_behind t0 t2 t3 (text ++ number) (codes ": ") rest _ whole
    (Appends-trans t0 t1 t2 text number c.in_ok-write_all.ensures.all
    (subst (Appends t1 t2) is c.in_ok-write_all-2.ensures.all)) c.in_err-write_all-3.ensures.part)

pub returns-in_err-write_all-4-clause-part : goal.returns-in_err-write_all-4-clause-part
returns-in_err-write_all-4-clause-part g c =
    let t0 = g.E.Sink.taken c.args.err.now in
    let t1 = g.E.Sink.taken c.write_all.new.sink in
    let t2 = g.E.Sink.taken c.write_all-2.new.sink in
    let t3 = g.E.Sink.taken c.write_all-3.new.sink in
    let t4 = g.E.Sink.taken c.write_all-4.new.sink in
    let text : List ℕ = c.args.text.now in
    let number : List ℕ = decimal c.args.number in
    let reason : List ℕ = c.args.reason.now in
    let is : c.as_bytes.result.now ≡ number = search rules in
    on_err c.from_residual-in_err-write_all-4.result _ (part_behind t0 t3 t4 (text ++ number ++ codes ": ") reason
    (codes "\n") _ refl
    (Appends-trans t0 t2 t3 (text ++ number) (codes ": ") (Appends-trans t0 t1 t2 text number
    c.in_ok-write_all.ensures.all (subst (Appends t1 t2) is c.in_ok-write_all-2.ensures.all))
    c.in_ok-write_all-3.ensures.all) c.in_err-write_all-4.ensures.part)

pub returns-clause-part : goal.returns-clause-part
returns-clause-part g c =
    let t0 = g.E.Sink.taken c.args.err.now in
    let t1 = g.E.Sink.taken c.write_all.new.sink in
    let t2 = g.E.Sink.taken c.write_all-2.new.sink in
    let t3 = g.E.Sink.taken c.write_all-3.new.sink in
    let t4 = g.E.Sink.taken c.write_all-4.new.sink in
    let t5 = g.E.Sink.taken c.write_all-5.new.sink in
    let text : List ℕ = c.args.text.now in
    let number : List ℕ = decimal c.args.number in
    let reason : List ℕ = c.args.reason.now in
    let is : c.as_bytes.result.now ≡ number = search rules in
    let before : Appends t0 t4 (text ++ number ++ codes ": " ++ reason) =
    Appends-trans t0 t3 t4 (text ++ number ++ codes ": ") reason
    (Appends-trans t0 t2 t3 (text ++ number) (codes ": ") (Appends-trans t0 t1 t2 text number
    c.in_ok-write_all.ensures.all (subst (Appends t1 t2) is c.in_ok-write_all-2.ensures.all))
    c.in_ok-write_all-3.ensures.all) c.in_ok-write_all-4.ensures.all in
    on_err-then c.write_all-5.result _ _ (λ part. part_behind t0 t4 t5 (text ++ number ++ codes ": " ++ reason)
    (codes "\n") [] _ (sym (append-nil _)) before part) c.write_all-5.ensures.part
