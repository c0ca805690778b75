-- The failures of the program, and its statuses.
use Rattle.std.specs.Prelude.{ℕ, Result, Ok, Err}
use Rattle.recordings.specs.declared.fault.PackFault.{PackFault}
use Rattle.recordings.specs.declared.fault.PackFault.TheVariants as faults
use Rattle.packer.specs.declared.failure.Failure.{Failure}
use Rattle.packer.specs.declared.failure.Failure.TheVariants.{NoMemory, Input, NotANumber}
use Rattle.packer.specs.declared.failure.Failure.TheVariants.{Infinite, Output, Nothing}

-- 1 where a device, its bytes or memory are at fault, and 2 where the options are
abbrev pub status_of : Result (Unit {0}) Failure → ℕ
status_of (Ok nothing) = 0
status_of (Err NoMemory) = 1
status_of (Err Input) = 1
status_of (Err NotANumber) = 1
status_of (Err Infinite) = 1
status_of (Err Output) = 1
status_of (Err Nothing) = 1
status_of (Err _) = 2

-- the failure of bytes that can't be packed
abbrev pub failure_of : PackFault → Failure
failure_of faults.NoMemory = NoMemory
failure_of faults.NotANumber = NotANumber
