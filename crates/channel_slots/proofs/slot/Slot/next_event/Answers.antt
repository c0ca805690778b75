use Rattle.std.proofs.Common.{refl, rules}
use Rattle.channel_slots.proofs.QuietSlotLemmas.{quiet-before-next}
use Rattle.channel_slots.proofs.slot.Slot.next_event.Goals as goal

pub returns-in-Idle-clause-quiet : goal.returns-in-Idle-clause-quiet
returns-in-Idle-clause-quiet c settings xs ys commands s more early =
    quiet-before-next settings xs ys commands c.args.self.now s more (rw c.in-Idle.is early)

pub returns-in-Searching-clause-quiet : goal.returns-in-Searching-clause-quiet
returns-in-Searching-clause-quiet c settings xs ys commands s more early =
    quiet-before-next settings xs ys commands c.args.self.now s more
    (rw c.in-Searching.is (rw c.next_cell.ensures.value at early))

pub returns-in-Following-clause-quiet : goal.returns-in-Following-clause-quiet
returns-in-Following-clause-quiet c settings xs ys commands s more early =
    quiet-before-next settings xs ys commands c.args.self.now s more
    (rw c.in-Following.is (rw c.next_dump.ensures.value at early))

pub returns-in-Idle-clause-value : goal.returns-in-Idle-clause-value
returns-in-Idle-clause-value c = rw c.in-Idle.is refl

pub returns-in-Searching-clause-value : goal.returns-in-Searching-clause-value
returns-in-Searching-clause-value c = search rules
