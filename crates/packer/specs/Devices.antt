-- What a program wrote, and which device failed.
use Rattle.std.specs.Prelude.{◌≡◌, true, List, ℕ, ◌++◌, Option, Result, Ok, Err}
use Rattle.std.specs.Io.KnownBytes.{Appends}
use Rattle.devices.specs.Moments.{Devices}
use Rattle.packer.specs.declared.failure.Failure.{Failure}
use Rattle.packer.specs.declared.failure.Failure.TheVariants.{NoMemory, Input, Output}
use Rattle.packer.specs.declared.failure.Failure.TheVariants.{NotANumber}

-- known bytes grew by a front of a text
pub record AppendsFront (old new : Option (List ℕ)) (text : List ℕ) : Type 0 where
  pub written : List ℕ
  pub rest : List ℕ
  pub appended : Appends old new written
  pub whole : text ≡ written ++ rest

-- neither device has failed since
abbrev pub NoneFailed : Devices → Devices → Type 0
NoneFailed old new =
    (new.read_failed ≡ old.read_failed) × (new.write_failed ≡ old.write_failed)

-- An answer says which device failed: the reader after `Input`, the writer after `Output`, and none
-- after any other. No other failure than these four comes.
abbrev pub SaysWhich : {A : Type 0} → Devices → Devices → Result A Failure → Type 0
SaysWhich old new (Ok done) = NoneFailed old new
SaysWhich old new (Err Input) =
    (new.read_failed ≡ true) × (new.write_failed ≡ old.write_failed)
SaysWhich old new (Err Output) =
    (new.read_failed ≡ old.read_failed) × (new.write_failed ≡ true)
SaysWhich old new (Err NoMemory) = NoneFailed old new
SaysWhich old new (Err NotANumber) = NoneFailed old new
SaysWhich old new (Err _) = ⊥
