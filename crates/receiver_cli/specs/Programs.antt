-- How the program runs what its command line asks for, and how it ends.
use Rattle.std.specs.Prelude.{◌≡◌, ◌<◌, ◌*◌, ℕ, List, [], ◌∷◌, length, Option}
use Rattle.std.specs.Prelude.{Result, Ok, Err, Some, None, max, IsSome}
use Rattle.definitions.specs.Oscillators.{Settings as DefinedSettings}
use Rattle.oscillators.specs.Limits.{IsRate}
use Rattle.oscillators.specs.declared.settings.SettingsFault.TheVariants.{Rate, Offset}
use Rattle.sample_planes.specs.declared.planes.TheConstants.{MOST_TIME}
use Rattle.receiver.specs.declared.faults.RunFault.{RunFault}
use Rattle.devices.specs.declared.source.Source.{Ghosts as Source}
use Rattle.devices.specs.declared.sink.Sink.{Ghosts as Sink}
use Rattle.receiver.specs.Runs.{task_of}
use Rattle.receiver.specs.WholeRuns.{RunsTask}
use Rattle.receiver_options.specs.Requests.{Asked, IsAllowed, recording_of, shares_by}
use Rattle.receiver_options.specs.ScriptTexts.{AreTextsOf, SomeMayBeRefused}
use Rattle.receiver_options.specs.declared.fault.OptionFault.TheVariants as options
use Rattle.receiver_cli.specs.declared.failure.Failure.{Failure}
use Rattle.receiver_cli.specs.declared.failure.Failure.TheVariants.{Options, Settings, Run}

-- the scripts of a run: one a file, or an empty one
abbrev pub one_or_more : List (List ℕ) → List (List ℕ)
one_or_more [] = [] ∷ []
one_or_more (text ∷ texts) = text ∷ texts

-- a run of these scripts, one for each client, with these shares, or no run for want of memory,
-- with the reader and the writer as they were
abbrev pub RunsTexts : {R W : Type 0} → Source R → Sink W → DefinedSettings → List ℕ
    → List (List ℕ) → R × W → R × W → Result ℕ Failure → Type 0
RunsTexts source sink settings shares texts old new (Ok n) =
    RunsTask source sink (task_of settings shares (one_or_more texts) MOST_TIME) old new (Ok n)
RunsTexts source sink settings shares texts old new (Err (Run fault)) =
    RunsTask source sink (task_of settings shares (one_or_more texts) MOST_TIME) old new (Err fault)
RunsTexts source sink settings shares texts old new (Err (Options options.NoMemory)) = new ≡ old
RunsTexts source sink settings shares texts old new (Err (Options options.Script)) = ⊥
RunsTexts source sink settings shares texts old new (Err (Options options.Shares)) = ⊥
RunsTexts source sink settings shares texts old new (Err (Settings fault)) = ⊥

-- how many clients these files make
abbrev pub clients_of : {A : Type 0} → List A → ℕ
clients_of files = max (length files) 1

-- a run of the scripts in these files, in their order, over the recording that was asked for
pub record RunsFiles {R W : Type 0} (source : Source R) (sink : Sink W) (asked : Asked)
    (files : List (Option (List ℕ))) (old new : R × W) (answer : Result ℕ RunFault) : Type 0 where
  pub allowed : IsAllowed asked
  pub shares : List ℕ
  pub shared : shares_by (clients_of files) asked.shares ≡ Some shares
  pub scripts : List (List ℕ)
  pub texts : AreTextsOf files scripts
  pub runs : RunsTask source sink
      (task_of (recording_of asked) shares (one_or_more scripts) MOST_TIME) old new answer

-- by its answer: such a run, to its end or to a fault; or the first failure before it, with the
-- reader and the writer as they were
abbrev pub Receives : {R W : Type 0} → Source R → Sink W → Asked → List (Option (List ℕ)) → R × W
    → R × W → Result ℕ Failure → Type 0
Receives source sink asked files old new (Ok n) = RunsFiles source sink asked files old new (Ok n)
Receives source sink asked files old new (Err (Run fault)) =
    RunsFiles source sink asked files old new (Err fault)
Receives source sink asked files old new (Err (Options options.NoMemory)) =
    IsAllowed asked × (new ≡ old)
Receives source sink asked files old new (Err (Options options.Shares)) =
    IsAllowed asked × (shares_by (clients_of files) asked.shares ≡ None) × (new ≡ old)
Receives source sink asked files old new (Err (Options options.Script)) =
    IsAllowed asked × IsSome (shares_by (clients_of files) asked.shares) × SomeMayBeRefused files
    × (new ≡ old)
Receives source sink asked files old new (Err (Settings Rate)) = ¬ IsRate asked.rate × (new ≡ old)
Receives source sink asked files old new (Err (Settings Offset)) =
    IsRate asked.rate × (asked.rate < 2 * asked.offset) × (new ≡ old)

-- the exit status: 2 where what was asked for is at fault, and 1 where the run or memory is
abbrev pub status_of : Result ℕ Failure → ℕ
status_of (Ok n) = 0
status_of (Err (Options options.NoMemory)) = 1
status_of (Err (Options options.Shares)) = 2
status_of (Err (Options options.Script)) = 2
status_of (Err (Settings fault)) = 2
status_of (Err (Run fault)) = 1
