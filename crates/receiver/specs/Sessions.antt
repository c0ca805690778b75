-- A session: the clients' scripts beside the slots.
use Rattle.std.specs.Prelude.{◌≡◌, ◌≤◌, ◌+◌, ℕ, List, [], ◌∷◌, ◌++◌, length, map, nat_eq}
use Rattle.std.specs.Prelude.{if◌then◌else◌}
use Rattle.std.specs.List.{AllByRecursion}
use Rattle.definitions.specs.Samples.{Sample, Packing}
use Rattle.definitions.specs.Oscillators.{Settings}
use Rattle.definitions.specs.Scripts.{Entry}
use Rattle.definitions.specs.Receiver.{Client, entries_of, commands_to, reply_text, timed_texts}
use Rattle.definitions.specs.Texts.{for_client, at_time}
use Rattle.definitions.specs.Lines.{ended_line}
use Rattle.definitions.proofs.EntryLemmas.{NoneBefore, answers_left}
use Rattle.channel_slots.specs.BankStates.{StandsFor as BankStandsFor, settings_of, shares_of}
use Rattle.channel_slots.specs.BankStates.{time_of as time_of_bank}
use Rattle.channel_slots.specs.declared.bank.Bank.{Bank}
use Rattle.client_commands.specs.Entries.{result_in}
use Rattle.definitions.specs.Commands.{TimedRequest}
use Rattle.receiver.specs.declared.due.Due.{Due}
use Rattle.receiver.specs.declared.queue.Queue.{Queue}
use Rattle.receiver.specs.declared.session.Session.{Session}
use Rattle.receiver.specs.Queues.{left_of, least_gap_of, all_left, TakesDue}

-- how the samples are packed
abbrev pub packing_in : Session → Packing
packing_in session = (settings_of session.bank).packing

-- how many samples there were
abbrev pub time_of : Session → ℕ
time_of session = time_of_bank session.bank

-- the samples until the first entry that is left
unfoldable pub until_next : Session → ℕ
until_next session = least_gap_of (time_of session) session.queues.items

-- how many entries are left
unfoldable pub lines_left : Session → ℕ
lines_left session = all_left session.queues.items

-- a client's entries are those that were answered and those that are left, which stand at the time
-- of the last sample or after it
pub record IsQueue (xs : List Sample) (client : Client) (done left : List Entry) : Type 0 where
  pub all : entries_of client ≡ done ++ left
  pub past : AllByRecursion (λ (e : Entry). e.time ≤ length xs) done
  pub to_come : NoneBefore (length xs) left

-- so for each of the clients that are numbered from b on
abbrev pub AreQueues : List Sample → (ℕ → List Entry) → ℕ → List Client → List Queue → Type 0
AreQueues xs done b [] [] = Unit {0}
AreQueues xs done b [] (q ∷ qs) = ⊥
AreQueues xs done b (c ∷ cs) [] = ⊥
AreQueues xs done b (c ∷ cs) (q ∷ qs) =
    IsQueue xs c (done b) (left_of q) × AreQueues xs done (b + 1) cs qs

-- the lines of the answers that they have still to get at this time
abbrev pub answers_waiting : Settings → List Sample → (ℕ → List Entry) → ℕ → List Queue
    → List (List ℕ)
answers_waiting settings xs done b [] = []
answers_waiting settings xs done b (q ∷ qs) =
    map (for_client b) (timed_texts xs (answers_left settings xs (done b) (left_of q)))
    ++ answers_waiting settings xs done (b + 1) qs

-- the commands to each slot among such entries of each client
abbrev pub asked_of : (ℕ → List Entry) → ℕ → ℕ → List TimedRequest
asked_of done client slot = commands_to slot (done client)

-- one entry of a client more
abbrev pub with_entry : (ℕ → List Entry) → ℕ → Entry → ℕ → List Entry
with_entry done client entry c = if nat_eq c client then done c ++ entry ∷ [] else done c

-- the entry that is answered now
abbrev pub entry_now : List Sample → Due → Entry
entry_now xs due = record { time = length xs; what = result_in due.what }

-- a bank answers an entry by a line with its end, and then it has been answered
pub record Answers (old new : Bank) (due : Due) (printed : List ℕ) : Type 0 where
  pub settings : settings_of new ≡ settings_of old
  pub shares : shares_of new ≡ shares_of old
  pub time : time_of_bank new ≡ time_of_bank old
  pub line : (settings : Settings) (xs : List Sample) (done : ℕ → List Entry)
      → BankStandsFor settings xs (asked_of done) old
      → printed ≡ ended_line (for_client due.client (at_time (length xs)
      (reply_text settings xs (done due.client) (result_in due.what))))
  pub stands : (settings : Settings) (xs : List Sample) (done : ℕ → List Entry)
      → BankStandsFor settings xs (asked_of done) old
      → BankStandsFor settings xs (asked_of (with_entry done due.client (entry_now xs due))) new

-- the session has come to the end of these samples, and has still to give these lines at this time
pub record StandsFor (settings : Settings) (clients : List Client) (session : Session)
    (xs : List Sample) (waiting : List (List ℕ)) : Type 0 where
  pub done : ℕ → List Entry
  pub bank : BankStandsFor settings xs (asked_of done) session.bank
  pub shares : map (λ (client : Client). client.slots) clients ≡ shares_of session.bank
  pub queues : AreQueues xs done 1 clients session.queues.items
  pub waits : waiting ≡ answers_waiting settings xs done 1 session.queues.items

-- the first entry that is due was taken from its queue, and the bank has not answered it yet
pub record TakesNext (old : Session) (due : Due) (new : Session) : Type 0 where
  pub bank : new.bank ≡ old.bank
  pub queues : TakesDue (time_of old) 1 old.queues.items new.queues.items due

-- a line of those that wait was given, with its end, and the others wait
pub record GaveLine (settings : Settings) (clients : List Client) (xs : List Sample)
    (waiting : List (List ℕ)) (line : List ℕ) (new : Session) : Type 0 where
  pub text : List ℕ
  pub rest : List (List ℕ)
  pub first : waiting ≡ text ∷ rest
  pub ended : line ≡ ended_line text
  pub stands : StandsFor settings clients new xs rest

-- whatever a session stood for, it gave the first of the lines that wait
abbrev pub Gives : Session → List ℕ → Session → Type 0
Gives old line new =
    (settings : Settings) (clients : List Client) (xs : List Sample) (waiting : List (List ℕ))
    → StandsFor settings clients old xs waiting → GaveLine settings clients xs waiting line new
