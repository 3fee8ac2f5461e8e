use Rattle.std.proofs.Common.{◌<◌, arith, refl, sym, ◌∙◌, ap, length, slice_set}
use Rattle.dstm_model.specs.Map.{value_at}
use Rattle.dstm_mem.proofs.WithSet.{length-with_set, value_at-opened, with_set-nothing, with_set-set}
use Rattle.dstm_store_tests.proofs.tests.mem.ReplaceBodyNotEmpty.run.Goals as goal

pub returns-clause-lawful : goal.returns-clause-lawful
returns-clause-lawful g c map admitted =
    let in_opened = (c.set.ensures.admits map).0 admitted in
    let lawful : 0 < length map = c.requires.lawful map (c.in_ok-self.ensures.narrows map in_opened) in
    omega (arith, lawful, length-with_set map (g.M.Mem.written c.set.new.self))

pub returns-clause-right : goal.returns-clause-right
returns-clause-right g c map admitted =
    let mem = c.open_write.new.self in
    let value = c.args.self.now.value in
    let opened = c.in_ok-self.ensures in
    let set = c.set.ensures in
    let in_opened = (set.admits map).0 admitted in
    let written = g.M.Mem.written mem in
    let before = with_set-nothing map written (λ p. opened.written p ∙ c.requires.fresh.unwritten p) in
    let within = c.requires.lawful map (opened.narrows map in_opened) in
    let agrees = g.met.M.Mem.admitted_agrees mem map in_opened in
    let found = value_at-opened map written written (g.M.Mem.held mem) 0 c.in_ok-self.field-0 within agrees
    (λ p. refl) opened.value in
    let after = with_set-set map written (g.M.Mem.written c.set.new.self) 0 value set.written in
    (sym found ∙ ap (λ x. value_at x 0) before, after ∙ ap (λ x. slice_set x 0 value) before)
