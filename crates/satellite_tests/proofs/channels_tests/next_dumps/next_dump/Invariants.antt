use Rattle.std.proofs.Common.{◌≤◌}
use Rattle.channels.specs.FollowedChannels.{at_of}
use Rattle.channels.specs.Windows.{first_of, end_of}
use Rattle.satellite_tests.proofs.channels_tests.next_dumps.next_dump.Given as goal

abbrev pub invariant-loop : goal.invariant-loop
invariant-loop g l =
    (at_of l.held ≤ end_of l.window) × (first_of l.window ≤ at_of l.held)
