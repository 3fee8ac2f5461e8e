use Rattle.dstm_text.proofs.FrontLaws.{behind_is_space, front_spelled}
use Rattle.dstm_text.proofs.number.number_before_space.Goals as goal

pub returns : goal.returns
returns c =
    let line = c.args.line.now in
    let front = c.digits_at_front-number.ensures in
    let plain = c.if-not-is_plain.ensures in
    let behind = c.in_ok-behind.ensures in (
      c.digits_at_front-number.result.1,
      (
        record {
          front = front;
          some = plain.0;
          behind = behind_is_space line _ _ behind;
          spelled = front_spelled line _ _ front plain.0 plain.1;
        },
        behind,
      ),
    )
