use Rattle.std.proofs.Common.{◌≤◌, ℕ}
use Rattle.channels.specs.Windows.{first_of}
use Rattle.channel_slots.specs.Slots.{IsReady}
use Rattle.bank_tests.proofs.channel_slots_tests.events.nothing_comes_before_a_dump.Given as goal

abbrev pub invariant-loop-to : goal.invariant-loop-to
invariant-loop-to g l =
    (time : ℕ) × (time ≤ l.to) × (time ≤ 4) × (IsReady 0 (first_of l.window) time l.slot)
