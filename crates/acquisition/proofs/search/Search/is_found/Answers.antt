use Rattle.std.proofs.Common.{rules}
use Rattle.acquisition.proofs.search.Search.is_found.Goals as goal

pub returns : goal.returns
returns c = search rules
