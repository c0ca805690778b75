use Rattle.std.proofs.Common.{refl}
use Rattle.client_commands.proofs.verb.Verb.word_count.Goals as goal

pub returns-in-Acquire-clause-same : goal.returns-in-Acquire-clause-same
returns-in-Acquire-clause-same c = rw c.in-Acquire.is refl
