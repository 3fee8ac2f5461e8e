use Rattle.dstm_c.proofs.ordered.pop_first.Goals as goal

pub returns : goal.returns
returns c = record {
  goes = c.pop_first.ensures.goes;
  stops = c.pop_first.ensures.stops;
  does = c.pop_first.ensures.pops;
  together = c.pop_first.ensures.together;
  may = c.pop_first.ensures.may;
}
