use Rattle.std.proofs.Common.{rules}
use Rattle.acquisition.proofs.search_room.SearchRoom.begin.Goals as goal

pub returns-clause-added : goal.returns-clause-added
returns-clause-added c =
    λ d. rw (c.push_reserved.ensures.items, c.clear.ensures.items) c.new.ensures.added

pub returns-clause-begun : goal.returns-clause-begun
returns-clause-begun c = search rules
