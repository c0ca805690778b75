use Rattle.receiver.proofs.writing.put_answer.Goals as goal

pub returns-clause-puts : goal.returns-clause-puts
returns-clause-puts g c before taken = record {
  line = c.deref.result.now;
  gives = rw c.deref.ensures.0 (c.answer.ensures.gives before taken);
  puts = c.put.ensures.puts;
}
