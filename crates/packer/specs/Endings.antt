-- How the program ends, whatever the words of its command line are.
use Rattle.std.specs.Prelude.{◌≡◌, ◌⊎◌, ℕ, List, take, drop, Some, Result, Err, true, false}
use Rattle.std.specs.Prelude.{Bool, if◌then◌else◌, IfErr}
use Rattle.clap.specs.declared.parser.matches.Found.{Found}
use Rattle.clap.specs.declared.error.kind.ErrorKind.{ErrorKind}
use Rattle.clap.specs.declared.error.kind.ErrorKind.TheVariants.{OutOfMemory, DisplayHelp}
use Rattle.clap.specs.declared.error.kind.ErrorKind.TheVariants.{DisplayVersion}
use Rattle.recordings.specs.declared.recipe.Recipe.{Recipe}
use Rattle.devices.specs.Moments.{Devices}
use Rattle.packer.specs.Devices.{SaysWhich}
use Rattle.packer.specs.Options.{IsAsked, IsStretch, CannotBeHad, HasNoStretch, is_measured_in}
use Rattle.packer.specs.Runs.{Packs}
use Rattle.packer.specs.Statuses.{status_of}
use Rattle.packer.specs.declared.failure.Failure.{Failure}
use Rattle.packer.specs.declared.failure.Failure.TheVariants.{NoMemory, Words, Input}
use Rattle.packer.specs.declared.failure.Failure.TheVariants.{NotANumber, Infinite, Nothing}
use Rattle.packer.specs.declared.failure.Failure.TheVariants.{Output}

-- the status where the option parser gives no options: it shows the help, which can be printed or
-- can't, or it has no memory, or it refuses
abbrev pub parser_status : Bool → ErrorKind → ℕ
parser_status is_printed DisplayHelp = if is_printed then 0 else 1
parser_status is_printed DisplayVersion = if is_printed then 0 else 1
parser_status is_printed OutOfMemory = 1
parser_status is_printed _ = 2

-- ---- what is done with options

-- They are refused, with the status 2, and nothing is read or written.
pub record IsRefused (found : Found) (old new : Devices) (answer : Result (Unit {0}) Failure)
    : Type 0 where
  pub failure : Failure
  pub is_answer : answer ≡ Err failure
  pub status : status_of answer ≡ 2
  pub why : CannotBeHad found ⊎ ((recipe : Recipe) × IsAsked found recipe
      × HasNoStretch found recipe)
  pub untouched : new ≡ old

-- what ends measuring early: memory, a device or the recording is at fault, and no option is
abbrev pub EndsMeasuring : Failure → Type 0
EndsMeasuring NoMemory = Unit {0}
EndsMeasuring Input = Unit {0}
EndsMeasuring NotANumber = Unit {0}
EndsMeasuring Infinite = Unit {0}
EndsMeasuring Nothing = Unit {0}
EndsMeasuring Output = Unit {0}
EndsMeasuring _ = ⊥

-- the recording is measured, to its end or to a failure, and nothing is written to the device
pub record IsMeasured (found : Found) (old new : Devices) (answer : Result (Unit {0}) Failure)
    : Type 0 where
  pub asks : is_measured_in found ≡ true
  pub fault : IfErr answer EndsMeasuring
  pub untouched : new.contents ≡ old.contents
  pub none_failed : new.write_failed ≡ old.write_failed

-- there was no memory for the packer
abbrev pub HasNoMemory : Devices → Devices → Result (Unit {0}) Failure → Type 0
HasNoMemory old new answer = (answer ≡ Err NoMemory) × (new ≡ old)

-- the stretch that is asked for is packed by the recipe that is asked for, to its end or to a
-- failure
pub record IsPackedAsAsked (found : Found) (old new : Devices)
    (answer : Result (Unit {0}) Failure) : Type 0 where
  pub asks : is_measured_in found ≡ false
  pub recipe : Recipe
  pub is_asked : IsAsked found recipe
  pub skip : ℕ
  pub most : ℕ
  pub stretch : IsStretch found recipe skip most
  pub which : SaysWhich old new answer
  pub packs : (all : List ℕ) → old.remaining ≡ Some all
      → Packs recipe (take most (drop skip all)) old.contents new.contents answer

abbrev pub CarriesOut : Found → Devices → Devices → Result (Unit {0}) Failure → Type 0
CarriesOut found old new answer =
    IsRefused found old new answer ⊎ (IsMeasured found old new answer
    ⊎ (HasNoMemory old new answer ⊎ IsPackedAsAsked found old new answer))

-- ---- endings

-- there are no words for want of memory or of UTF-8, or the option parser gives no options for its
-- reason and what it says is printed or not, or what it found was carried out
pub data Ending : Type 0 where
  without_words : Failure → Ending
  without_options : Bool → ErrorKind → Ending
  with_options : Found → Result (Unit {0}) Failure → Ending

abbrev pub ending_status : Ending → ℕ
ending_status (without_words failure) = status_of (Err failure)
ending_status (without_options is_printed kind) = parser_status is_printed kind
ending_status (with_options found answer) = status_of answer

-- what an ending says of the devices: nothing is read or written before the options are known
abbrev pub LeavesDevices : Devices → Devices → Ending → Type 0
LeavesDevices old new (without_words failure) =
    ((failure ≡ NoMemory) ⊎ (failure ≡ Words)) × (new ≡ old)
LeavesDevices old new (without_options is_printed kind) = new ≡ old
LeavesDevices old new (with_options found answer) = CarriesOut found old new answer

-- the program ends with a status in one of these ways
pub record HasEnded (old new : Devices) (status : ℕ) : Type 0 where
  pub ending : Ending
  pub devices : LeavesDevices old new ending
  pub by_ending : status ≡ ending_status ending
