use Rattle.dstm_c.proofs.ordered.put.Goals as goal

pub returns : goal.returns
returns c = record {
  goes = c.put.ensures.goes;
  stops = c.put.ensures.stops;
  does = c.put.ensures.puts;
  together = c.put.ensures.together;
  may = c.put.ensures.may;
}
