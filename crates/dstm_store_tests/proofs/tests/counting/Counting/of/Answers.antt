use Rattle.dstm_store_tests.proofs.tests.counting.Counting.of.Goals as goal

pub returns-clause-admits : goal.returns-clause-admits
returns-clause-admits c map admitted = (c.in_ok-mem.ensures.admits map).0 admitted
