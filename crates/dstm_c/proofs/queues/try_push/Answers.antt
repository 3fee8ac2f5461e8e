use Rattle.dstm_c.proofs.queues.try_push.Goals as goal

pub returns-clause-does : goal.returns-clause-does
returns-clause-does c = record {
  goes = c.try_push.ensures.goes;
  stops = c.try_push.ensures.stops;
  does = c.try_push.ensures.pushes;
  together = c.try_push.ensures.together;
  may = c.try_push.ensures.may;
}

pub returns-clause-opens : goal.returns-clause-opens
returns-clause-opens c = c.try_push.ensures.opens
