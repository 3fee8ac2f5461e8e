use Rattle.dstm_c.proofs.ordered.pop_last.Goals as goal

pub returns : goal.returns
returns c = record {
  goes = c.pop_last.ensures.goes;
  stops = c.pop_last.ensures.stops;
  does = c.pop_last.ensures.pops;
  together = c.pop_last.ensures.together;
  may = c.pop_last.ensures.may;
}
