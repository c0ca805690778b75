use Rattle.channels.proofs.locked_message.LockedMessage.begin.Goals as goal

pub returns-clause-stands : goal.returns-clause-stands
returns-clause-stands c dumps locked none = (locked, rw none c.new.ensures.stands)
