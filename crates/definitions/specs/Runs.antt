-- What a run answers, and what it has written by then. (This project's own.)
use Rattle.std.specs.Prelude.{ℕ, ◌≡◌, ◌==◌, ◌&&◌, nat_le, nat_lt, if◌then◌else◌, Bool, true, false}
use Rattle.std.specs.Prelude.{List, [], ◌++◌, map, zip, length, take}
use Rattle.std.specs.List.{list_all}
use Rattle.definitions.specs.Samples.{Sample, samples, sample_count}
use Rattle.definitions.specs.Oscillators.{Settings}
use Rattle.definitions.specs.Receiver.{Client, body, full}

-- one to eight scripts, and for each of them a share of one to eight slots
abbrev pub is_share : ℕ → Bool
is_share slots = nat_le 1 slots && nat_le slots 8

abbrev pub are_clients : List (List ℕ) → Bool
are_clients scripts = nat_le 1 (length scripts) && nat_le (length scripts) 8

abbrev pub are_shares : List ℕ → List (List ℕ) → Bool
are_shares shares scripts = (length shares == length scripts) && list_all is_share shares

-- what a run is asked for: at most limit samples are to be taken
pub record Task : Type 0 where
  pub settings : Settings
  pub shares : List ℕ
  pub scripts : List (List ℕ)
  pub limit : ℕ

-- the clients that the shares and the scripts make
abbrev pub clients_of : Task → List Client
clients_of task =
    map (λ (slots, script). record { slots = slots; script = script })
    (zip task.shares task.scripts)

-- how reading came to an end: a read into a buffer that isn't empty gave no bytes, or a read
-- failed, or neither had come when the run ended
pub data InputEnd : Type 0 where
  exhausted : InputEnd
  failed : InputEnd
  unfinished : InputEnd

-- the bytes that the reads gave, and how reading them came to an end
pub record Input : Type 0 where
  pub bytes : List ℕ
  pub end : InputEnd

-- more samples came than the limit
abbrev pub is_too_long : Task → Input → Bool
is_too_long task input = nat_lt task.limit (sample_count task.settings.packing input.bytes)

-- the samples that are taken
unfoldable pub taken_samples : Task → Input → List Sample
taken_samples task input = take task.limit (samples task.settings.packing input.bytes)

-- the text of those samples, without the ends, and with them
abbrev pub body_text : Task → Input → List ℕ
body_text task input = body task.settings (taken_samples task input) (clients_of task)

abbrev pub full_text : Task → Input → List ℕ
full_text task input = full task.settings (taken_samples task input) (clients_of task)

-- the text that is due for what came: with the ends where reading came to its end within the limit,
-- and without them after a failed read, past the limit, and while reading goes on
abbrev pub due_text : Task → Input → List ℕ
due_text task input = if is_too_long task input then body_text task input
    else elim input.end [
      | exhausted ↦ full_text task input
      | failed ↦ body_text task input
      | unfinished ↦ body_text task input
    ]

-- a text begins with another one
abbrev pub BeginsWith : List ℕ → List ℕ → Type 0
BeginsWith whole first = (rest : List ℕ) × (whole ≡ first ++ rest)

pub data RunAnswer : Type 0 where
  finished : ℕ → RunAnswer
  wrong_clients : RunAnswer
  wrong_shares : RunAnswer
  no_memory : RunAnswer
  read_failed : RunAnswer
  too_long : RunAnswer
  write_failed : RunAnswer

-- nothing was read and nothing written
abbrev pub IsUntouched : Input → List ℕ → Type 0
IsUntouched input written = (input.end ≡ unfinished) × (input.bytes ≡ []) × (written ≡ [])

-- there are one to eight scripts, and shares for them
abbrev pub AreRight : Task → Type 0
AreRight task = (are_clients task.scripts ≡ true) × (are_shares task.shares task.scripts ≡ true)

-- which answer goes with what came and what was written. The scripts are checked first, then the
-- shares; then memory is taken, all before anything is read
unfoldable pub IsAnswer : Task → Input → List ℕ → RunAnswer → Type 0
IsAnswer task input written wrong_clients =
    (are_clients task.scripts ≡ false) × IsUntouched input written
IsAnswer task input written wrong_shares =
    (are_clients task.scripts ≡ true) × (are_shares task.shares task.scripts ≡ false)
    × IsUntouched input written
IsAnswer task input written no_memory = AreRight task × IsUntouched input written
IsAnswer task input written (finished n) =
    AreRight task × (is_too_long task input ≡ false) × (input.end ≡ exhausted)
    × (n ≡ length (taken_samples task input)) × (written ≡ full_text task input)
IsAnswer task input written read_failed =
    AreRight task × (is_too_long task input ≡ false) × (input.end ≡ failed)
    × (written ≡ body_text task input)
IsAnswer task input written too_long =
    AreRight task × (is_too_long task input ≡ true) × (written ≡ body_text task input)
IsAnswer task input written write_failed = AreRight task × BeginsWith (due_text task input) written
