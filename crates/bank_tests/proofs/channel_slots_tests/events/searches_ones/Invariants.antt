use Rattle.channels.specs.Windows.{end_of}
use Rattle.channel_slots.specs.Slots.{IsReady}
use Rattle.bank_tests.proofs.channel_slots_tests.events.searches_ones.Given as goal

abbrev pub invariant-loop-row : goal.invariant-loop-row
invariant-loop-row g l =
    IsReady 0 (end_of l.window) (end_of l.window) l.slot
