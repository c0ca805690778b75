use Rattle.client_commands.proofs.words.Words.dumps.Goals as goal

pub returns-clause-value : goal.returns-clause-value
returns-clause-value c = c.number_between.ensures.value
