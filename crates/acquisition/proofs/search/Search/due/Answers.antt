use Rattle.std.proofs.Common.{rules}
use Rattle.acquisition.proofs.search.Search.due.Goals as goal

pub returns-clause-value : goal.returns-clause-value
returns-clause-value c = search rules
