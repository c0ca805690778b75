-- What a run reads and writes, by its answer.
use Rattle.std.specs.Prelude.{◌≡◌, ◌≤◌, ◌<◌, ◌-◌, ℕ, true, List, [], length, take}
use Rattle.std.specs.Prelude.{◌++◌, Option, Result, Ok, Err, IfOk, MatchResult, OnOk}
use Rattle.std.specs.Io.KnownBytes.{Appends, Consumes, IsAtEnd}
use Rattle.definitions.specs.Oscillators.{Settings}
use Rattle.definitions.specs.Samples.{Sample, samples}
use Rattle.definitions.specs.Receiver.{Client}
use Rattle.definitions.specs.Runs.{Task, Input, InputEnd, RunAnswer, due_text, IsAnswer}
use Rattle.definitions.specs.Runs.{clients_of}
use Rattle.definitions.specs.Runs as runs
use Rattle.definitions.specs.Receiver.{body, full, body_lines}
use Rattle.definitions.specs.Lines.{as_bytes}
use Rattle.channel_slots.specs.declared.open_fault.OpenFault.{OpenFault}
use Rattle.channel_slots.specs.declared.open_fault.OpenFault.TheVariants as Faults
use Rattle.devices.specs.Moments.{Devices}
use Rattle.receiver.specs.Clients.{four_each}
use Rattle.receiver.specs.Printed.{LinesAreRight}
use Rattle.receiver.specs.Texts.{AppendsPart, WroteUpTo}
use Rattle.definitions.specs.Receiver.{answer_lines}
use Rattle.receiver.specs.Sessions.{StandsFor, Gives, packing_in, time_of}
use Rattle.receiver.specs.Outputs.{Adds, Puts, promised}
use Rattle.receiver.specs.declared.output.Output.{Output}
use Rattle.devices.specs.declared.source.Source.{Ghosts as Source}
use Rattle.devices.specs.declared.sink.Sink.{Ghosts as Sink}
use Rattle.receiver.specs.declared.session.Session.{Session}
use Rattle.receiver.specs.declared.faults.RunFault.{RunFault}
use Rattle.receiver.specs.declared.faults.RunFault.TheVariants.{NoMemory, Clients, Share}
use Rattle.receiver.specs.declared.faults.RunFault.TheVariants.{Read, Write, TooLong}
use Rattle.receiver.specs.declared.faults.Stop.{Stop}
use Rattle.receiver.specs.declared.faults.Stop.TheVariants.{AtEnd, ReadFailed, PastLimit}

-- what a reader and an output show, as though the writer had taken all that is held back for it
abbrev pub devices_once_sent : {R W : Type 0} → Source R → Sink W → R → Output W → Devices
devices_once_sent source sink reader out = record {
  remaining = source.remaining reader;
  read_failed = source.has_failed reader;
  gave_none = source.gave_none reader;
  contents = promised sink out;
  write_failed = sink.has_failed out.writer.now;
}

-- whatever a session stood for, it gave the first of the lines that wait, and that was put out
pub record PutsNext {A E : Type 0} (old new : Session) (before after : Option (List ℕ))
    (result : Result A E) : Type 0 where
  pub line : List ℕ
  pub gives : Gives old line new
  pub puts : Puts before after line result

-- the samples of what was read, up to a limit
abbrev pub samples_read : Settings → ℕ → List ℕ → List Sample
samples_read settings limit read = take limit (samples settings.packing read)

-- reading came so to an end, as the reader reports it: a read gave no byte, where none was left; a
-- read failed; or neither
abbrev pub EndedAs : InputEnd → Devices → Devices → Type 0
EndedAs runs.exhausted old new =
    IsAtEnd new.remaining × (new.gave_none ≡ true) × (new.read_failed ≡ old.read_failed)
EndedAs runs.failed old new = (new.gave_none ≡ old.gave_none) × (new.read_failed ≡ true)
EndedAs runs.unfinished old new =
    (new.gave_none ≡ old.gave_none) × (new.read_failed ≡ old.read_failed)

-- reading stops at the end of what there is, where a read failed, or where more samples than the
-- limit came
abbrev pub StopsFor : ℕ → ℕ → Devices → Devices → Stop → Type 0
StopsFor limit count old new AtEnd = EndedAs runs.exhausted old new × (count ≤ limit)
StopsFor limit count old new ReadFailed = EndedAs runs.failed old new × (count ≤ limit)
StopsFor limit count old new PastLimit = EndedAs runs.unfinished old new × (limit < count)

-- the lines of all clients, with `end` only where all was read
abbrev pub text_for : Stop → Settings → List Sample → List Client → List ℕ
text_for AtEnd settings xs clients = full settings xs clients
text_for ReadFailed settings xs clients = body settings xs clients
text_for PastLimit settings xs clients = body settings xs clients

-- what a run is asked for
abbrev pub task_of : Settings → List ℕ → List (List ℕ) → ℕ → Task
task_of settings shares scripts limit = record {
  settings = settings;
  shares = shares;
  scripts = scripts;
  limit = limit;
}

-- what a run is asked for whose clients have four slots each
abbrev pub task_in_fours : Settings → List (List ℕ) → ℕ → Task
task_in_fours settings scripts limit = task_of settings (four_each scripts) scripts limit

-- a run's result, as the definitions' table names it
abbrev pub answer_of : Result ℕ RunFault → RunAnswer
answer_of (Ok n) = runs.finished n
answer_of (Err NoMemory) = runs.no_memory
answer_of (Err Clients) = runs.wrong_clients
answer_of (Err Share) = runs.wrong_shares
answer_of (Err Read) = runs.read_failed
answer_of (Err Write) = runs.write_failed
answer_of (Err TooLong) = runs.too_long

-- what a run answers where no session was opened
abbrev pub fault_of : OpenFault → RunFault
fault_of Faults.NoMemory = NoMemory
fault_of Faults.Clients = Clients
fault_of Faults.Share = Share

-- what a run answers after so many samples, by how reading them ended: a fault is the writer's
abbrev pub answer_after : {E : Type 0} → ℕ → Result Stop E → Result ℕ RunFault
answer_after samples (Ok AtEnd) = Ok samples
answer_after samples (Ok ReadFailed) = Err Read
answer_after samples (Ok PastLimit) = Err TooLong
answer_after samples (Err fault) = Err Write

-- the writer failed where the result says so, and nowhere else
abbrev pub WriterReports : Result ℕ RunFault → Devices → Devices → Type 0
WriterReports (Ok n) old new = new.write_failed ≡ old.write_failed
WriterReports (Err NoMemory) old new = new.write_failed ≡ old.write_failed
WriterReports (Err Clients) old new = new.write_failed ≡ old.write_failed
WriterReports (Err Share) old new = new.write_failed ≡ old.write_failed
WriterReports (Err Read) old new = new.write_failed ≡ old.write_failed
WriterReports (Err Write) old new = new.write_failed ≡ true
WriterReports (Err TooLong) old new = new.write_failed ≡ old.write_failed

-- a run: the bytes that its reads gave and how they ended, and the text that it wrote. Its result
-- is the answer that the definitions' table has for them. Where it came to its end, the lines of
-- the text are each client's alone, and what each of them names is right
pub record IsRun (task : Task) (old new : Devices) (result : Result ℕ RunFault) : Type 0 where
  pub input : Input
  pub text : List ℕ
  pub consumed : Consumes old.remaining new.remaining input.bytes
  pub ended : EndedAs input.end old new
  pub written : Appends old.contents new.contents text
  pub writer : WriterReports result old new
  pub answer : IsAnswer task input text (answer_of result)
  pub lines : IfOk result (λ _. LinesAreRight task.settings (clients_of task)
      (samples task.settings.packing input.bytes) text)

-- ---- within a run

-- a session before the first sample, with the answers at time 0 to come
pub record IsOpen (settings : Settings) (clients : List Client) (session : Session) : Type 0 where
  pub stands : StandsFor settings clients session [] (answer_lines settings clients [])
  pub first : body_lines settings [] clients ≡ answer_lines settings clients []

-- a session at the end of samples, with all that was to be written by then, since the writer held
-- `start`
pub record IsWrittenTo (settings : Settings) (clients : List Client) (start : Option (List ℕ))
    (session : Session) (contents : Option (List ℕ)) (xs : List Sample) : Type 0 where
  pub stands : StandsFor settings clients session xs []
  pub written : Appends start contents (body settings xs clients)

-- a run of samples was taken: all that is to be written by its end is written after what was, or
-- a front of it where a write failed
abbrev pub TakesOn : {A E : Type 0} → List Sample → Session → Session → Option (List ℕ)
    → Option (List ℕ) → Result A E → Type 0
TakesOn run before after old new result =
    (settings : Settings) (clients : List Client) (start : Option (List ℕ)) (xs : List Sample)
    → IsWrittenTo settings clients start before old xs
    → MatchResult result (λ _. IsWrittenTo settings clients start after new (xs ++ run))
    (λ _. AppendsPart start new (body settings (xs ++ run) clients))

-- of the samples of the bytes that come next, those before a limit
abbrev pub samples_before : ℕ → Session → List ℕ → List Sample
samples_before limit session bytes =
    take (limit - time_of session) (samples (packing_in session) bytes)

-- the answers that waited are added, and none waits then
abbrev pub AddsAnswers : {A E : Type 0} → Session → Session → Option (List ℕ) → Option (List ℕ)
    → Result A E → Type 0
AddsAnswers before after old new result =
    (settings : Settings) (clients : List Client) (xs : List Sample) (waiting : List (List ℕ))
    → StandsFor settings clients before xs waiting
    → Adds old new (as_bytes waiting) result
    × OnOk result (StandsFor settings clients after xs [])

-- of these answers some have been written since the writer held `start`, and the session has the
-- others
pub record HasAnswered (settings : Settings) (clients : List Client) (xs : List Sample)
    (waiting : List (List ℕ)) (start : Option (List ℕ)) (session : Session)
    (contents : Option (List ℕ)) : Type 0 where
  pub left : List (List ℕ)
  pub stands : StandsFor settings clients session xs left
  pub wrote : WroteUpTo start contents (as_bytes waiting) (as_bytes left)

-- reading stopped, and all that was to be written by then is written
pub record HasRead (settings : Settings) (clients : List Client) (limit : ℕ)
    (start : Option (List ℕ)) (session : Session) (old new : Devices) (stop : Stop) : Type 0 where
  pub read : List ℕ
  pub consumed : Consumes old.remaining new.remaining read
  pub why : StopsFor limit (length (samples settings.packing read)) old new stop
  pub at : IsWrittenTo settings clients start session new.contents
      (samples_read settings limit read)

-- a write failed while reading
pub record BrokeOffReading (settings : Settings) (clients : List Client) (limit : ℕ)
    (start : Option (List ℕ)) (old new : Devices) : Type 0 where
  pub read : List ℕ
  pub consumed : Consumes old.remaining new.remaining read
  pub ended : EndedAs runs.unfinished old new
  pub written : AppendsPart start new.contents
      (body settings (samples_read settings limit read) clients)

-- reading went on from where nothing was read: to its stop, or to a write that failed
abbrev pub ReadsOn : {E : Type 0} → ℕ → Session → Session → Devices → Devices → Result Stop E
    → Type 0
ReadsOn limit before after old new result =
    (settings : Settings) (clients : List Client) (start : Option (List ℕ))
    → IsWrittenTo settings clients start before old.contents []
    → MatchResult result (HasRead settings clients limit start after old new)
    (λ _. BrokeOffReading settings clients limit start old new)

-- all of the text was written
pub record Completes (settings : Settings) (clients : List Client) (limit : ℕ) (read : List ℕ)
    (old new : Devices) (stop : Stop) : Type 0 where
  pub why : StopsFor limit (length (samples settings.packing read)) old new stop
  pub written : Appends old.contents new.contents
      (text_for stop settings (samples_read settings limit read) clients)
  pub write_failed : new.write_failed ≡ old.write_failed

-- a run over a session came to its stop
pub record Ran (settings : Settings) (clients : List Client) (limit : ℕ) (session : Session)
    (old new : Devices) (stop : Stop) : Type 0 where
  pub read : List ℕ
  pub consumed : Consumes old.remaining new.remaining read
  pub stands : StandsFor settings clients session (samples_read settings limit read) []
  pub completes : Completes settings clients limit read old new stop

-- a write failed: a front was written of the text that is due for what came
pub record BrokeOff (task : Task) (old new : Devices) : Type 0 where
  pub input : Input
  pub consumed : Consumes old.remaining new.remaining input.bytes
  pub ended : EndedAs input.end old new
  pub write_failed : new.write_failed ≡ true
  pub written : AppendsPart old.contents new.contents (due_text task input)
