-- What is reported of the answers of a device of std.
use Rattle.std.specs.Prelude.{◌||◌, Bool, true, false, Result, Ok, Err}
use Rattle.devices.specs.declared.fault.DeviceFault.{DeviceFault}
use Rattle.devices.specs.declared.flags.Flags.{Flags}

-- before the first call nothing has failed, and nothing was asked again after that
abbrev pub without_calls : Flags
without_calls = record { has_failed = false; was_asked_again = false }

-- an answer is reported as it is, and an error of std as the fault
abbrev pub reported : {N E : Type 0} → Result N E → Result N DeviceFault
reported (Ok value) = Ok value
reported (Err error) = Err (record {})

-- whether a device has failed: it had, or its last call answered an error
abbrev pub has_failed_after : {N E : Type 0} → Result N E → Bool → Bool
has_failed_after (Ok value) before = before
has_failed_after (Err error) before = true

-- what the calls have shown after one more with this answer
abbrev pub after : {N E : Type 0} → Result N E → Flags → Flags
after answer flags = record {
  has_failed = has_failed_after answer flags.has_failed;
  was_asked_again = flags.was_asked_again || flags.has_failed;
}
