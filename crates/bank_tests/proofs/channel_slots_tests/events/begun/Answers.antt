use Rattle.std.proofs.Common.{arith}
use Rattle.channel_slots.proofs.ReadyLemmas.{idle-is-ready}
use Rattle.bank_tests.proofs.channel_slots_tests.events.begun.Goals as goal

pub returns : goal.returns
returns g c =
    c.command.ensures.ready 0 0 (omega arith) (omega arith)
    (idle-is-ready 0 0 0 _ c.new_slot-slot.ensures)
