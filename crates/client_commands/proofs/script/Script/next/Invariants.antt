use Rattle.std.proofs.Common.{◌≡◌, ◌≤◌, length}
use Rattle.definitions.specs.Scripts.{entries_after, verbs}
use Rattle.definitions.specs.Lines.{lines_of}
use Rattle.slot_protocol.specs.declared.command.TheConstants.{MOST_SLOTS}
use Rattle.client_commands.proofs.script.Script.next.Given as goal

abbrev pub invariant-loop-line : goal.invariant-loop-line
invariant-loop-line l = record {
  some : 1 ≤ l.self-inside.share;
  most : l.self-inside.share ≤ MOST_SLOTS;
  entries : entries_after verbs l.initial.self-inside.share l.initial.self-inside.before
      (lines_of l.initial.self-inside.text.now)
      ≡ entries_after verbs l.self-inside.share l.self-inside.before
      (lines_of l.self-inside.text.now);
}

abbrev pub decreases-loop-line : goal.decreases-loop-line
decreases-loop-line l = length (lines_of l.self-inside.text.now)
