use Rattle.dstm_c.proofs.queues.front.Goals as goal

pub returns-clause-does : goal.returns-clause-does
returns-clause-does c = record {
  goes = c.front.ensures.goes;
  stops = c.front.ensures.stops;
  does = c.front.ensures.fronts;
  together = c.front.ensures.together;
  may = c.front.ensures.may;
}

pub returns-clause-opens : goal.returns-clause-opens
returns-clause-opens c = c.front.ensures.opens
