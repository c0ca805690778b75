use Rattle.std.proofs.Common.{rules}
use Rattle.data_sets.specs.Standing.{last_values}
use Rattle.data_sets.proofs.last_pages.LastPages.new.Goals as goal

pub returns : goal.returns
unfolding last_values
returns c = search rules
