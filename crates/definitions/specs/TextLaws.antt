-- What holds of the text of a receiver. Each of these is promised by a function of the same name in
-- this crate. (This project's own.)
use Rattle.std.specs.Prelude.{ℕ, ◌≡◌, ◌+◌, ◌^◌, ◌<◌, List, [], ◌∷◌}
use Rattle.std.specs.Prelude.{◌++◌, length, map, slice_get, Some}
use Rattle.std.specs.List.{AllByRecursion}
use Rattle.definitions.specs.Samples.{Sample}
use Rattle.definitions.specs.Oscillators.{Settings}
use Rattle.definitions.specs.Lines.{lines_of, as_bytes}
use Rattle.definitions.specs.Texts.{for_client, at_time}
use Rattle.definitions.specs.Receiver.{Client, alone, alone_to_end, lines_alone_at}
use Rattle.definitions.specs.Receiver.{lines_at, body_lines, body, full, lines_of_client}
use Rattle.definitions.specs.Runs.{Task, Input, RunAnswer, IsAnswer, due_text, BeginsWith}

-- Among the lines of the whole text, those that begin with a client's number and a space, without
-- these, are what that client gets alone, and then its end. (Numbers that fill more than 64 bits
-- are left out: `decimal` is of 64 digits at most.)
abbrev pub ClientsAreAlone : Type 0
ClientsAreAlone = (settings : Settings) (xs : List Sample)
    (clients : List Client) (k : ℕ) (client : Client)
    → slice_get clients k ≡ Some client → length clients < 2 ^ 64
    → lines_of_client (1 + k) (lines_of (full settings xs clients))
    ≡ alone_to_end settings xs client

-- The same of the text without the ends.
abbrev pub ClientsAreAloneInBody : Type 0
ClientsAreAloneInBody =
    (settings : Settings) (xs : List Sample) (clients : List Client) (k : ℕ)
    (client : Client)
    → slice_get clients k ≡ Some client → length clients < 2 ^ 64
    → lines_of_client (1 + k) (lines_of (body settings xs clients))
    ≡ alone settings xs client

-- A run with one client writes what that client gets alone, and then its end, each line after the
-- client's number, which is 1.
abbrev pub OneClientRuns : Type 0
OneClientRuns = (settings : Settings) (xs : List Sample) (client : Client)
    → full settings xs (client ∷ [])
    ≡ as_bytes (map (for_client 1) (alone_to_end settings xs client))

-- Where two receivers have the same samples and settings, a client that has the same script and
-- slots in both gets the same lines from both, whatever the others ask, however many they are, and
-- whatever the client's place among them.
abbrev pub TwoWorldsAgree : Type 0
TwoWorldsAgree = (settings : Settings) (xs : List Sample)
    (clients others : List Client) (k j : ℕ) (client : Client)
    → slice_get clients k ≡ Some client → length clients < 2 ^ 64
    → slice_get others j ≡ Some client → length others < 2 ^ 64
    → lines_of_client (1 + k) (lines_of (full settings xs clients))
    ≡ lines_of_client (1 + j) (lines_of (full settings xs others))

-- The text of more samples begins with the text of fewer.
abbrev pub BodyGrows : Type 0
BodyGrows = (settings : Settings) (clients : List Client) (xs ys : List Sample)
    → BeginsWith (body settings (xs ++ ys) clients) (body settings xs clients)

-- A client's line at a time after t.
abbrev pub IsLaterThan : ℕ → List ℕ → Type 0
IsLaterThan t line = (client : ℕ) × (time : ℕ) × (text : List ℕ) × (t < time)
    × (line ≡ for_client client (at_time time text))

-- More samples add lines of later times alone: a line rests on the samples before its time.
abbrev pub MoreSamplesEmitLater : Type 0
MoreSamplesEmitLater =
    (settings : Settings) (clients : List Client) (xs ys : List Sample)
    → (rest : List (List ℕ))
    × (body_lines settings (xs ++ ys) clients
    ≡ body_lines settings xs clients ++ rest)
    × AllByRecursion (IsLaterThan (length xs)) rest

-- The whole text begins with the text without the ends.
abbrev pub FullBeginsWithBody : Type 0
FullBeginsWithBody = (settings : Settings) (clients : List Client)
    (xs : List Sample)
    → BeginsWith (full settings xs clients) (body settings xs clients)

-- Whatever a run answers, what it has written is what the text that is due for its input begins
-- with.
abbrev pub WrittenIsDue : Type 0
WrittenIsDue = (task : Task) (input : Input) (written : List ℕ) (answer : RunAnswer)
    → IsAnswer task input written answer
    → BeginsWith (due_text task input) written

-- With one more sample come the lines of the new time.
abbrev pub BodyGrowsByOne : Type 0
BodyGrowsByOne = (settings : Settings) (xs : List Sample) (x : Sample)
    (clients : List Client)
    → body_lines settings (xs ++ x ∷ []) clients
    ≡ body_lines settings xs clients ++ lines_at settings clients (xs ++ x ∷ [])

-- The same for one client alone.
abbrev pub AloneGrowsByOne : Type 0
AloneGrowsByOne = (settings : Settings) (xs : List Sample) (x : Sample)
    (client : Client)
    → alone settings (xs ++ x ∷ []) client
    ≡ alone settings xs client ++ lines_alone_at settings client (xs ++ x ∷ [])
