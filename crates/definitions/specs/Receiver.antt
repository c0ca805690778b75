-- What a receiver writes: for one client alone, and for several beside one another. (This project's
-- own.)
--
-- Time is the number of samples so far: at time T samples 0 to T - 1 are known, and `xs` is always
-- those. A command at time T acts before sample T; what the last sample causes comes before the
-- commands of that time.
use Rattle.std.specs.Prelude.{ℕ, Bool, ◌+◌, ◌==◌, nat_lt, if◌then◌else◌, List, [], ◌∷◌, ◌++◌}
use Rattle.std.specs.Prelude.{map, flat_map, length, take, drop, filter, nat_eq, filter_map, Option}
use Rattle.std.specs.Prelude.{Some, None, Result, Ok, Err, codes}
use Rattle.std.specs.List.{range_with_len, enumerate_from, starts_with}
use Rattle.definitions.specs.Samples.{Sample}
use Rattle.definitions.specs.Oscillators.{Settings}
use Rattle.definitions.specs.Commands.{Command, TimedRequest}
use Rattle.definitions.specs.Lines.{as_bytes}
use Rattle.definitions.specs.Scripts.{Entry, verbs, script}
use Rattle.definitions.specs.Events.{events_at_end}
use Rattle.definitions.specs.Answers.{answer_at_end}
use Rattle.definitions.specs.Texts.{event_text, answer_text, refusal_text, at_time, for_client}

-- a client: the number of its slots, which are numbered from 0, and the text of its script
pub record Client : Type 0 where
  pub slots : ℕ
  pub script : List ℕ

-- what the lines of its script ask
unfoldable pub entries_of : Client → List Entry
entries_of client = script verbs client.slots client.script

-- the commands to one slot among the entries of a script
abbrev pub command_to : ℕ → ℕ → Result Command ℕ → Option TimedRequest
command_to slot time (Ok c) =
    if c.slot == slot then Some (record { time = time; request = c.request }) else None
command_to slot time (Err refusal) = None

unfoldable pub commands_to : ℕ → List Entry → List TimedRequest
commands_to slot entries = filter_map (λ (e : Entry). command_to slot e.time e.what) entries

-- those of them before a time
abbrev pub entries_before : ℕ → List Entry → List Entry
entries_before time entries = filter (λ (e : Entry). nat_lt e.time time) entries

-- what the last sample makes one slot emit
abbrev pub slot_event_texts : Settings → List Sample → List Entry → ℕ → List (List ℕ)
slot_event_texts settings xs entries slot =
    map (event_text slot)
    (events_at_end settings xs (commands_to slot (entries_before (length xs) entries)))

-- the texts of what the last sample makes a client's slots emit, slot by slot
unfoldable pub event_texts : Settings → Client → List Sample → List (List ℕ)
event_texts settings client xs =
    flat_map (slot_event_texts settings xs (entries_of client))
    (range_with_len 0 client.slots)

-- the answer to an entry, after those before it
abbrev pub reply_text : Settings → List Sample → List Entry → Result Command ℕ → List ℕ
reply_text settings xs before (Ok c) =
    answer_text c.slot (answer_at_end settings xs (commands_to c.slot before) c.request)
reply_text settings xs before (Err refusal) = refusal_text refusal

-- the answer to an entry, which is number i of these, where it is of the time of the last sample
abbrev pub entry_answer_texts : Settings → List Sample → List Entry → ℕ × Entry → List (List ℕ)
entry_answer_texts settings xs entries (i, entry) =
    if entry.time == length xs then reply_text settings xs (take i entries) entry.what ∷ []
    else []

-- the texts of the answers to a client's entries at the time of the last sample, in their order
unfoldable pub answer_texts : Settings → Client → List Sample → List (List ℕ)
answer_texts settings client xs =
    flat_map (entry_answer_texts settings xs (entries_of client))
    (enumerate_from 0 (entries_of client))

-- the lines of each time from 0 to the number of samples, each of them from the samples before that
-- time alone
unfoldable pub at_each_time : (List Sample → List (List ℕ)) → List Sample → List (List ℕ)
at_each_time lines xs = flat_map (λ t. lines (take t xs)) (range_with_len 0 (length xs + 1))

-- texts after the last time
abbrev pub timed_texts : List Sample → List (List ℕ) → List (List ℕ)
timed_texts xs texts = map (at_time (length xs)) texts

-- ---- one client alone

-- the lines at the last time: what the samples make the slots emit, and then the answers
unfoldable pub lines_alone_at : Settings → Client → List Sample → List (List ℕ)
lines_alone_at settings client xs =
    timed_texts xs (event_texts settings client xs)
    ++ timed_texts xs (answer_texts settings client xs)

-- the lines of a client alone, time by time
unfoldable pub alone : Settings → List Sample → Client → List (List ℕ)
alone settings xs client = at_each_time (lines_alone_at settings client) xs

abbrev pub end_line : List Sample → List ℕ
end_line xs = at_time (length xs) (codes "end")

-- these, and then its end
unfoldable pub alone_to_end : Settings → List Sample → Client → List (List ℕ)
alone_to_end settings xs client = alone settings xs client ++ end_line xs ∷ []

-- ---- several clients

-- the lines of each client in turn, after its number; clients are numbered from 1
unfoldable pub for_each_client : (Client → List (List ℕ)) → List Client → List (List ℕ)
for_each_client lines clients =
    flat_map (λ (number, client). map (for_client number) (lines client)) (enumerate_from 1 clients)

-- at the last time: what the samples bring each client
unfoldable pub event_lines : Settings → List Client → List Sample → List (List ℕ)
event_lines settings clients xs =
    for_each_client (λ client. timed_texts xs (event_texts settings client xs)) clients

-- the answers to each
unfoldable pub answer_lines : Settings → List Client → List Sample → List (List ℕ)
answer_lines settings clients xs =
    for_each_client (λ client. timed_texts xs (answer_texts settings client xs)) clients

-- what the samples bring, and then the answers
unfoldable pub lines_at : Settings → List Client → List Sample → List (List ℕ)
lines_at settings clients xs =
    event_lines settings clients xs ++ answer_lines settings clients xs

-- what each of the samples ys after xs adds, time after time, where tells gives what the last
-- sample adds
unfoldable pub at_each_sample : {A : Type 0} → (List Sample → List A) → List Sample → List Sample
    → List A
at_each_sample tells xs [] = []
at_each_sample tells xs (y ∷ ys) = tells (xs ++ y ∷ []) ++ at_each_sample tells (xs ++ y ∷ []) ys

-- the lines without the ends, and all lines
unfoldable pub body_lines : Settings → List Sample → List Client → List (List ℕ)
body_lines settings xs clients = at_each_time (lines_at settings clients) xs

unfoldable pub end_lines : List Sample → List Client → List (List ℕ)
end_lines xs clients = for_each_client (λ client. end_line xs ∷ []) clients

unfoldable pub full_lines : Settings → List Sample → List Client → List (List ℕ)
full_lines settings xs clients =
    body_lines settings xs clients ++ end_lines xs clients

-- the text of these lines
unfoldable pub body : Settings → List Sample → List Client → List ℕ
body settings xs clients = as_bytes (body_lines settings xs clients)

unfoldable pub full : Settings → List Sample → List Client → List ℕ
full settings xs clients = as_bytes (full_lines settings xs clients)

-- ---- one client's lines among those of all

-- the line begins with the client's number and a space
unfoldable pub is_of_client : ℕ → List ℕ → Bool
is_of_client client line = starts_with nat_eq line (for_client client [])

-- the client's lines, without its number
unfoldable pub lines_of_client : ℕ → List (List ℕ) → List (List ℕ)
lines_of_client client lines =
    map (drop (length (for_client client []))) (filter (is_of_client client) lines)
