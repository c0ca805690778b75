-- Entries of a script as the definitions have them.
use Rattle.std.specs.Prelude.{ℕ, List, [], ◌∷◌, Option, Some, None, Result, Ok, Err}
use Rattle.definitions.specs.Commands.{Command as DefinedCommand}
use Rattle.definitions.specs.Scripts.{Entry}
use Rattle.slot_protocol.specs.declared.command.Command.{Command}
use Rattle.slot_protocol.specs.Commands.{command_in}
use Rattle.client_commands.specs.declared.refusal.LineRefusal.{LineRefusal}
use Rattle.client_commands.specs.declared.refusal.LineRefusal.TheVariants.{LineTooLong}
use Rattle.client_commands.specs.declared.refusal.LineRefusal.TheVariants.{NotPrintable, NoTime}
use Rattle.client_commands.specs.declared.refusal.LineRefusal.TheVariants.{TimeGoesBack, NoVerb}
use Rattle.client_commands.specs.declared.refusal.LineRefusal.TheVariants.{WrongWordCount}
use Rattle.client_commands.specs.declared.refusal.LineRefusal.TheVariants.{NotANumber, OutOfRange}
use Rattle.client_commands.specs.declared.script.Timed.{Timed}

-- the number that is printed
abbrev pub number_of : LineRefusal → ℕ
number_of LineTooLong = 1
number_of NotPrintable = 2
number_of NoTime = 3
number_of TimeGoesBack = 4
number_of NoVerb = 5
number_of WrongWordCount = 6
number_of NotANumber = 7
number_of OutOfRange = 8

abbrev pub result_in : Result Command LineRefusal → Result DefinedCommand ℕ
result_in (Ok command) = Ok (command_in command)
result_in (Err refusal) = Err (number_of refusal)

abbrev pub entry_in : Timed → Entry
entry_in timed = record { time = timed.time; what = result_in timed.what }

abbrev pub entries_in : Option Timed → List Entry
entries_in None = []
entries_in (Some timed) = entry_in timed ∷ []
