use Rattle.std.proofs.Common.{rules}
use Rattle.acquisition.proofs.search.Search.new.Goals as goal

pub invariant_of-result-2 : goal.invariant_of-result-2
invariant_of-result-2 c = search rules
