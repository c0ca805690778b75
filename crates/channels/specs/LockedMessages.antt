-- What a message from lock to lock stands for: the dumps of the loops.
use Rattle.std.specs.Prelude.{◌≡◌, ℕ, true, false, List, Option, Some, None}
use Rattle.definitions.specs.Correlation.{Counts}
use Rattle.definitions.specs.Events.{pushes_of}
use Rattle.definitions.specs.Lock.{is_locked}
use Rattle.nav_message.specs.Standing as messages
use Rattle.nav_message.specs.declared.message.Message.{Message}
use Rattle.channels.specs.declared.locked_message.LockedMessage.{LockedMessage}

-- there is one exactly where the loops are locked, and it was pushed what the lock lets through
abbrev pub IsReading : List Counts → Option Message → Type 0
IsReading dumps None = is_locked dumps ≡ false
IsReading dumps (Some message) =
    (is_locked dumps ≡ true) × messages.StandsFor (pushes_of dumps) message

abbrev pub StandsFor : List Counts → LockedMessage → Type 0
StandsFor dumps m = IsReading dumps m.message

-- how many bits it has had since the last lock
abbrev pub bits_in : Option Message → ℕ
bits_in None = 0
bits_in (Some message) = messages.bit_count message

abbrev pub bit_count : LockedMessage → ℕ
bit_count m = bits_in m.message
