-- Commands as the definitions have them.
use Rattle.std.specs.Prelude.{ℕ}
use Rattle.definitions.specs.Commands.{Request, Command as DefinedCommand, begin, hold, track}
use Rattle.definitions.specs.Commands.{acquire, counts, state, stop}
use Rattle.slot_protocol.specs.declared.command.Command.{Command}
use Rattle.slot_protocol.specs.declared.command.Command.TheVariants.{Hold, Track, Acquire, Counts}
use Rattle.slot_protocol.specs.declared.command.Command.TheVariants.{State, Stop}

abbrev pub slot_of : Command → ℕ
slot_of (Hold slot signal) = slot
slot_of (Track slot signal) = slot
slot_of (Acquire slot plan) = slot
slot_of (Counts slot n) = slot
slot_of (State slot) = slot
slot_of (Stop slot) = slot

abbrev pub request_in : Command → Request
request_in (Hold slot signal) = begin (hold signal.prn signal.doppler signal.half)
request_in (Track slot signal) = begin (track signal.prn signal.doppler signal.half)
request_in (Acquire slot plan) = begin (acquire plan)
request_in (Counts slot n) = counts n
request_in (State slot) = state
request_in (Stop slot) = stop

abbrev pub command_in : Command → DefinedCommand
command_in command = record { slot = slot_of command; request = request_in command }
