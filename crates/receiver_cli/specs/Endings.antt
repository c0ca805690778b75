-- How the program ends, by the words of its command line.
use Rattle.std.specs.Prelude.{◌≡◌, ◌⊎◌, ℕ, List, [], map, Option, Result, IfSome}
use Rattle.std.specs.Prelude.{Some, None}
use Rattle.clap.specs.Walk.{Row, Text}
use Rattle.clap.specs.Simple.{matches_of}
use Rattle.clap.specs.Faults.{fault_of}
use Rattle.clap.specs.Kinds.{Kinds, IsAmong}
use Rattle.clap.specs.declared.builder.value_parser.ValueParser.{ValueParser}
use Rattle.clap.specs.declared.error.kind.ErrorKind.{ErrorKind}
use Rattle.clap.specs.declared.error.kind.ErrorKind.TheVariants.{OutOfMemory, DisplayHelp}
use Rattle.clap.specs.declared.error.kind.ErrorKind.TheVariants.{DisplayVersion}
use Rattle.devices.specs.declared.source.Source.{Ghosts as Source}
use Rattle.devices.specs.declared.sink.Sink.{Ghosts as Sink}
use Rattle.receiver_options.specs.CommandLines.{receiver, NamesFormats}
use Rattle.receiver_options.specs.Requests.{asked_in, paths_in}
use Rattle.receiver_cli.specs.Programs.{Receives, status_of}
use Rattle.clap.specs.Values.{kind_of}
use Rattle.receiver_cli.specs.declared.failure.Failure.{Failure}
use Rattle.receiver_cli.specs.declared.outcome.Outcome.{Outcome}
use Rattle.receiver_cli.specs.declared.outcome.Outcome.TheVariants.{Status, Help}

-- the status where the option parser gives no options: it has no memory, or it refuses; none where
-- its help or version is to be shown
abbrev pub parser_status : ErrorKind → Option ℕ
parser_status DisplayHelp = None
parser_status DisplayVersion = None
parser_status OutOfMemory = Some 1
parser_status _ = Some 2

-- there is no memory for the words, or the option parser gives no options for its reason, or the
-- options were received
pub data Ending : Type 0 where
  without_words : Ending
  without_options : ErrorKind → Ending
  received : Result ℕ Failure → Ending

abbrev pub ending_status : Ending → Option ℕ
ending_status without_words = Some 1
ending_status (without_options kind) = parser_status kind
ending_status (received answer) = Some (status_of answer)

-- the status of an outcome, where it has one
abbrev pub status_in : Outcome → Option ℕ
status_in (Status status) = Some status
status_in (Help help) = None

-- where help is to be shown, the option parser gave it for this reason
abbrev pub ShowsFor : ErrorKind → Outcome → Type 0
ShowsFor kind (Status status) = Unit {0}
ShowsFor kind (Help help) = kind_of help ≡ kind

-- help is to be shown only where the option parser gave no options, and it is what it gave then
abbrev pub Shows : Ending → Outcome → Type 0
Shows (without_options kind) outcome = ShowsFor kind outcome
Shows _ (Status status) = Unit {0}
Shows _ (Help help) = ⊥

-- an ending comes of the faults that the option parser has for the words, in the order of its
-- steps, and of the options that it finds in them. Nothing is read or written before these are
-- known
abbrev pub ComesOf : {R W : Type 0} → Source R → Sink W → Kinds → List Row
    → (List ℕ → Option (List ℕ)) → R × W → R × W → Ending → Type 0
ComesOf source sink faults options bytes_of old new without_words = new ≡ old
ComesOf source sink faults options bytes_of old new (without_options kind) =
    ((kind ≡ OutOfMemory) ⊎ IsAmong kind faults) × (new ≡ old)
ComesOf source sink faults options bytes_of old new (received answer) =
    (faults ≡ [])
    × Receives source sink (asked_in options) (map bytes_of (paths_in options)) old new answer

-- the program comes to an outcome as the words of its command line ask for, with these script
-- files, and takes a reader and a writer from `old` to `new`
pub record HasEnded {R W : Type 0} (source : Source R) (sink : Sink W)
    (given : Option (List Text)) (bytes_of : List ℕ → Option (List ℕ)) (old new : R × W)
    (outcome : Outcome) : Type 0 where
  pub words : List Text
  pub are_given : IfSome given (λ all. words ≡ all)
  pub names : ValueParser
  pub formats : NamesFormats names
  pub ending : Ending
  pub comes : ComesOf source sink (fault_of (receiver names) words)
      (matches_of (receiver names) words) bytes_of old new ending
  pub by_ending : status_in outcome ≡ ending_status ending
  pub shows : Shows ending outcome
