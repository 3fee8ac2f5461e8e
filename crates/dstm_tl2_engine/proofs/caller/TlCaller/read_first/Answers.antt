use Rattle.dstm_tl2_engine.proofs.Opens.{Unread, first_reads, first_tied, left_stops, left_tied, read_unread, slot_unread}
use Rattle.dstm_tl2_engine.proofs.Tying.{at_words}
use Rattle.dstm_tl2_engine.proofs.caller.TlCaller.read_first.Given.{Over}
use Rattle.dstm_tl2_engine.proofs.caller.TlCaller.read_first.Goals.{After-words}
use Rattle.dstm_tl2_engine.proofs.caller.TlCaller.read_first.Goals as goal

unread : (g : Over) (c : After-words g) →
    Unread g.L.Law.holds c.self.inside c.args.self.now c.words.result.now c.args.o
unread g c = record {
  tied = c.self.invariant;
  view = c.self.view_is;
  same = at_words c.self.inside c.self.view_is c.requires.table c.words.ensures;
  rest = c.requires.rest;
  unread = c.requires.unread;
}

pub read-requires-clause-unread : goal.read-requires-clause-unread
read-requires-clause-unread g c = read_unread (unread g (goal.at.read-requires-clause-unread g c).After-words)

pub push_read-requires-clause-unread : goal.push_read-requires-clause-unread
push_read-requires-clause-unread g c =
    slot_unread (unread g (goal.at.push_read-requires-clause-unread g c).After-words)
    c.in-Ok.slot.object c.in-Ok.ensures.object

pub invariant_of-self : goal.invariant_of-self
invariant_of-self g c =
    first_tied (unread g (goal.at.invariant_of-self g c).After-words)
    c.requires.live c.in-Ok.slot c.in-Ok.ensures.object c.in-Ok.ensures.ends_well c.in-Ok.ensures.reads
    c.push_read.ensures

pub invariant_of-self-in-Err : goal.invariant_of-self-in-Err
invariant_of-self-in-Err g c =
    left_tied (unread g (goal.at.invariant_of-self-in-Err g c).After-words) c.in-Err.ensures.ends c.in-Err.ensures.same

pub returns-in-Ok : goal.returns-in-Ok
returns-in-Ok g c =
    let read = first_reads (unread g (goal.at.returns-in-Ok g c).After-words)
    c.requires.live c.in-Ok.slot c.in-Ok.ensures.object c.in-Ok.ensures.ends_well c.in-Ok.ensures.reads
    c.push_read.ensures in assumption read

pub returns-in-Err : goal.returns-in-Err
returns-in-Err g c =
    let left = left_stops (unread g (goal.at.returns-in-Err g c).After-words) c.in-Err.ensures.ends
    c.in-Err.ensures.same in assumption left
