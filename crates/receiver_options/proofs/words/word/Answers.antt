use Rattle.std.proofs.Common.{rules}
use Rattle.receiver_options.proofs.words.word.Goals as goal

pub returns-clause-same : goal.returns-clause-same
returns-clause-same c = search rules
