use Rattle.dstm_c.proofs.maps.remove.Goals as goal

pub returns : goal.returns
returns c = record {
  goes = c.remove.ensures.goes;
  stops = c.remove.ensures.stops;
  does = c.remove.ensures.removes;
  together = c.remove.ensures.together;
  may = c.remove.ensures.may;
}
