use Rattle.std.proofs.Common.{refl}
use Rattle.acquisition.proofs.search.Search.plan.Goals as goal

pub returns : goal.returns
returns c = refl
