use Rattle.receiver.proofs.writing.put_event.Goals as goal

pub returns-clause-puts : goal.returns-clause-puts
returns-clause-puts g c = rw (c.deref.ensures.0, c.event_line.ensures) at c.put.ensures.puts
