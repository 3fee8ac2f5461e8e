use Rattle.dstm_tree.proofs.Base.{rules, arith, ap, ◌∙◌, unwrap_or, value_at, value_at-with_set, value_at-same_set}
use Rattle.dstm_mem.proofs.Operating.{untouched-opened, untouched-set, untouched-then}
use Rattle.dstm_tree.proofs.Stepping.{other-outside}
use Rattle.dstm_tree.proofs.cells.write.Goals as goal

pub returns : goal.returns
returns g c =
    let opened = c.in_ok-open_write.ensures in
    let set = c.set.ensures in
    record {
      leads = search rules;
      outside = λ o out.
          let other = other-outside c.args.region c.requires.inside out in
          untouched-then g.M.Mem (untouched-opened g.M.Mem opened.written opened.held opened.opened o other)
          (untouched-set g.M.Mem set.written set.held set.opened o other);
      marks = λ all. search rules;
      quiet = λ never. absurd never;
      does = λ map admitted. record {
        is =
            let size = g.met.M.Mem.admitted_length c.open_write.new.self map ((set.admits map).0 admitted) in
            value_at-with_set map (g.M.Mem.written c.set.new.self) c.args.object
            (omega (arith, c.requires.objects, c.requires.inside.1))
            ∙ ap (λ w. unwrap_or w (value_at map c.args.object)) set.written.value;
        others = λ o other. value_at-same_set map (g.M.Mem.written c.args.mem.now) (g.M.Mem.written c.set.new.self) o
            (set.written.others o other ∙ opened.written o);
      };
    }
