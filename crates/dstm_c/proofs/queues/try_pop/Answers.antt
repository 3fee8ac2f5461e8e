use Rattle.dstm_c.proofs.queues.try_pop.Goals as goal

pub returns-clause-does : goal.returns-clause-does
returns-clause-does c = record {
  goes = c.try_pop.ensures.goes;
  stops = c.try_pop.ensures.stops;
  does = c.try_pop.ensures.pops;
  together = c.try_pop.ensures.together;
  may = c.try_pop.ensures.may;
}

pub returns-clause-opens : goal.returns-clause-opens
returns-clause-opens c = c.try_pop.ensures.opens
