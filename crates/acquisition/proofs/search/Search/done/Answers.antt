use Rattle.std.proofs.Common.{refl}
use Rattle.acquisition.proofs.search.Search.done.Goals as goal

pub returns-clause-value : goal.returns-clause-value
returns-clause-value c = refl
