use Rattle.channel_slots.proofs.bank.Bank.time.Goals as goal

pub returns-clause-taken : goal.returns-clause-taken
returns-clause-taken c = c.end.ensures
