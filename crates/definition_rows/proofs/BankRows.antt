-- Worked examples of slots, clients and their lines side by side, and of what is taken of a run.
use Rattle.std.proofs.Common.{◌≡◌, refl}
use Rattle.definitions.specs.Receiver.{Client, at_each_sample, at_each_time, commands_to, end_line}
use Rattle.definitions.specs.Receiver.{end_lines, entries_before, entry_answer_texts}
use Rattle.definitions.specs.Receiver.{for_each_client, is_of_client, lines_of_client, timed_texts}
use Rattle.definitions.specs.Scripts.{Entry}
use Rattle.std.specs.Prelude.{Err, List, Ok, codes, false, length, map, negsuc, pos, replicate}
use Rattle.std.specs.Prelude.{true, ◌++◌, ◌∷◌}
use Rattle.definitions.specs.Runs.{Input, InputEnd, Task, are_clients, are_shares, body_text}
use Rattle.definitions.specs.Runs.{clients_of, due_text, exhausted, failed, full_text, is_share}
use Rattle.definitions.specs.Runs.{is_too_long, taken_samples, unfinished}
use Rattle.definitions.specs.Commands.{TimedRequest, begin, hold, state, stop}
use Rattle.definitions.specs.Samples.{Sample, real, real1, sample, samples_from}
use Rattle.definitions.specs.Oscillators.{Settings}
use Rattle.definitions.specs.Answers.{answer_at_end}
use Rattle.definitions.specs.Texts.{answer_text, event_text}
use Rattle.std.specs.Fmt.{digits}
use Rattle.definitions.specs.Lives.{dumps_of_life, is_over, life_now, life_of}
use Rattle.definitions.specs.Events.{edge, locked}
use Rattle.definitions.specs.Banks.{layout, line_of, slot_events, with_command}
use Rattle.std.proofs.Common.{[], ℕ}
use Rattle.definitions.specs.Segments.{after_segments, closed_at, closed_if_ended, end_by}
use Rattle.definitions.specs.Segments.{is_through, next_end, progress}
use Rattle.definitions.specs.Receiver.{alone, alone_to_end, answer_texts, entries_of, event_texts}
use Rattle.definitions.specs.Receiver.{lines_alone_at}
use Rattle.definitions.specs.Lines.{as_bytes, pieces_ended_by}
use Rattle.definitions.specs.Oscillators.{carrier_step, code_step}
use Rattle.definitions.specs.Codes.{chip, chip_after, register_after}
use Rattle.definitions.specs.Correlation.{counts_over, in_phase_sum, quadrature_sum, six_sums}
use Rattle.definitions.specs.Scripts.{entries_after, entry_of, script, values_in}
use Rattle.definitions.specs.Events.{events_at_end, front_of, last_of, life_events, unprinted_count}
use Rattle.definitions.specs.Sums.{least_below, total}
use Rattle.definitions.specs.Answers.{view_of}
use Rattle.definitions.specs.Runs.{IsAnswer, finished, no_memory, read_failed, too_long}
use Rattle.definitions.specs.Runs.{write_failed, wrong_clients, wrong_shares}
use Rattle.definitions.specs.Banks.{bank_events_at_end}
use Rattle.definitions.specs.Events.{count}
use Rattle.definitions.specs.Commands.{counts}
use Rattle.std.specs.Prelude.{neg_ℤ, ◌+◌, ◌*◌}
use Rattle.definitions.specs.Receiver.{answer_lines, body_lines, event_lines, full_lines, lines_at}
use Rattle.definitions.specs.Texts.{for_client}

-- by client, and then by slot
abbrev keys : List (ℕ × ℕ)
keys = (1, 0) ∷ (1, 1) ∷ (2, 0) ∷ []

slots_in_order : layout (2 ∷ 1 ∷ []) ≡ keys
slots_in_order = refl

-- a command goes to its slot alone, after those before it
abbrev asked : ℕ → ℕ → List TimedRequest
asked client slot = record { time = 10 * client + slot; request = state } ∷ []

abbrev stop_at_five : TimedRequest
stop_at_five = record { time = 5; request = stop }

command_to_slot : with_command asked 2 1 5 stop 2 1 ∷ with_command asked 2 1 5 stop 2 0
    ∷ with_command asked 2 1 5 stop 1 1 ∷ with_command asked 2 1 5 stop 2 2
    ∷ with_command asked 2 1 5 stop 3 1 ∷ []
    ≡ (asked 2 1 ++ stop_at_five ∷ []) ∷ asked 2 0 ∷ asked 1 1 ∷ asked 2 2 ∷ asked 3 1 ∷ []
command_to_slot = refl

-- at one sample a millisecond each sample is a dump: of satellite 1, whose chip 0 is 1 and whose
-- chip 1022 is 0, at cosine 2 and sine 1
abbrev holding_each : ℕ → ℕ → List TimedRequest
holding_each client slot = record { time = 0; request = begin (hold client (pos 0) slot) }
    ∷ record { time = 0; request = counts 1 } ∷ []

events_of_bank : bank_events_at_end (record { rate = 1000; offset = pos 0; packing = real1 })
    ((1, 0) ∷ []) holding_each (real (pos 1) ∷ []) ≡ record {
      client = 1;
      slot = 0;
      time = 1;
      event = count (record {
        ie = neg_ℤ (pos 2);
        qe = pos 1;
        ip = neg_ℤ (pos 2);
        qp = pos 1;
        il = pos 2;
        ql = neg_ℤ (pos 1);
      });
    } ∷ []
unfolding bank_events_at_end events_at_end life_now life_of life_events is_over dumps_of_life
    last_of
    front_of unprinted_count progress after_segments closed_if_ended next_end end_by is_through
    closed_at counts_over six_sums in_phase_sum quadrature_sum total least_below code_step
    carrier_step chip chip_after register_after
events_of_bank = refl

lines_of_slot : map line_of (slot_events 2 1 5 (locked ∷ edge ∷ []))
    ≡ codes "2 5 lock 1" ∷ codes "2 5 bits 1" ∷ []
unfolding event_text digits
lines_of_slot = refl

-- of a script the commands to a slot, and what stands before a time
abbrev entry : ℕ → ℕ → Entry
entry time slot = record { time = time; what = Ok (record { slot = slot; request = stop }) }

abbrev refusal : ℕ → ℕ → Entry
refusal time n = record { time = time; what = Err n }

commands_to_one : commands_to 1 (entry 4 1 ∷ entry 5 2 ∷ refusal 5 3 ∷ entry 6 1 ∷ [])
    ≡ record { time = 4; request = stop } ∷ record { time = 6; request = stop } ∷ []
unfolding commands_to
commands_to_one = refl

before_five : entries_before 5 (entry 4 1 ∷ entry 5 2 ∷ entry 6 1 ∷ []) ≡ entry 4 1 ∷ []
before_five = refl

-- an entry is answered at its time, after those before it
abbrev usual : Settings
usual = record { rate = 2046000; offset = pos 0; packing = real1 }

abbrev two : List Sample
two = replicate 2 (real (pos 1))

answers_by_time : map (λ time. entry_answer_texts usual two [] (0, refusal time 3)) (1 ∷ 2 ∷ 3 ∷ [])
    ≡ [] ∷ (codes "err 3" ∷ []) ∷ [] ∷ []
unfolding digits
answers_by_time = refl

abbrev start_at_two : Entry
start_at_two =
    record { time = 2; what = Ok (record { slot = 1; request = begin (hold 1 (pos 0) 0) }) }

answer_after_others : map (λ i. entry_answer_texts usual two (start_at_two ∷ start_at_two ∷ [])
    (i, start_at_two)) (0 ∷ 1 ∷ []) ≡ (codes "ok" ∷ []) ∷ (codes "err 9" ∷ []) ∷ []
unfolding digits answer_text answer_at_end life_now life_of is_over commands_to dumps_of_life
answer_after_others = refl

-- each time from 0 on, and each sample after some
times : at_each_time (λ xs. (length xs ∷ []) ∷ []) two ≡ (0 ∷ []) ∷ (1 ∷ []) ∷ (2 ∷ []) ∷ []
unfolding at_each_time
times = refl

samples_after : at_each_sample (λ xs. xs) (real (pos 1) ∷ []) (real (pos 2) ∷ real (pos 3) ∷ [])
    ≡ map (λ n. real (pos n)) (1 ∷ 2 ∷ 1 ∷ 2 ∷ 3 ∷ [])
unfolding at_each_sample
samples_after = refl

texts_with_time : timed_texts two (codes "a" ∷ codes "b" ∷ []) ++ end_line two ∷ []
    ≡ codes "2 a" ∷ codes "2 b" ∷ codes "2 end" ∷ []
unfolding digits
texts_with_time = refl

-- clients are numbered from 1, and a line is that of the client whose number and space begin it
abbrev clients : List Client
clients = record { slots = 4; script = codes "a" } ∷ record { slots = 1; script = codes "b" } ∷ []

lines_by_client : for_each_client (λ client. client.script ∷ []) clients
    ≡ codes "1 a" ∷ codes "2 b" ∷ []
unfolding for_each_client digits
lines_by_client = refl

lines_of_first : lines_of_client 1 (codes "1 a" ∷ codes "2 b" ∷ codes "11 c" ∷ codes "1"
    ∷ codes "1 1 d" ∷ [])
    ≡ codes "a" ∷ codes "1 d" ∷ []
unfolding lines_of_client is_of_client digits
lines_of_first = refl

ends_of_clients : end_lines two clients ≡ codes "1 2 end" ∷ codes "2 2 end" ∷ []
unfolding end_lines for_each_client digits
ends_of_clients = refl

-- one sample a millisecond, so that each sample is a dump. Chip 0 of satellite 1 is 1 and chip 1022
-- is 0; the carrier is at cosine 2 and sine 1. What the sample brings comes before the answers
abbrev coarse : Settings
coarse = record { rate = 1000; offset = pos 0; packing = real1 }

abbrev asking : Client
asking = record {
  slots = 2;
  script = as_bytes (codes "0 hold 0 1 0 0" ∷ codes "0 counts 0 1" ∷ codes "1 state 0"
      ∷ codes "1 stop 1" ∷ codes "2 state 0" ∷ []);
}

abbrev its_lines : List (List ℕ)
its_lines = codes "0 ok" ∷ codes "0 ok" ∷ codes "1 count 0 -2 1 -2 1 2 -1"
    ∷ codes "1 state 0 hold 1 1" ∷ codes "1 err 10" ∷ codes "1 end" ∷ []

client_alone : alone_to_end coarse (real (pos 1) ∷ []) asking ≡ its_lines
unfolding alone_to_end alone at_each_time lines_alone_at event_texts answer_texts entries_of
    commands_to script entry_of entries_after pieces_ended_by values_in as_bytes digits
    events_at_end life_now life_of life_events is_over answer_at_end view_of event_text answer_text
    dumps_of_life last_of front_of unprinted_count progress after_segments closed_if_ended next_end
    end_by is_through closed_at counts_over six_sums in_phase_sum quadrature_sum total least_below
    code_step carrier_step chip chip_after register_after
client_alone = refl

client_of_all : full_lines coarse (real (pos 1) ∷ []) (asking ∷ []) ≡ map (for_client 1) its_lines
unfolding full_lines body_lines end_lines at_each_time lines_at event_lines answer_lines
    for_each_client event_texts answer_texts entries_of
    commands_to script entry_of entries_after pieces_ended_by values_in as_bytes digits
    events_at_end life_now life_of life_events is_over answer_at_end view_of event_text answer_text
    dumps_of_life last_of front_of unprinted_count progress after_segments closed_if_ended next_end
    end_by is_through closed_at counts_over six_sums in_phase_sum quadrature_sum total least_below
    code_step carrier_step chip chip_after register_after
client_of_all = refl

-- one to eight slots for each of one to eight clients
shares_of_slots : map is_share (0 ∷ 1 ∷ 8 ∷ 9 ∷ []) ≡ false ∷ true ∷ true ∷ false ∷ []
shares_of_slots = refl

numbers_of_clients : map (λ n. are_clients (replicate n [])) (0 ∷ 1 ∷ 8 ∷ 9 ∷ [])
    ≡ false ∷ true ∷ true ∷ false ∷ []
numbers_of_clients = refl

shares_for_scripts : map (λ shares. are_shares shares ([] ∷ [] ∷ [])) ((1 ∷ []) ∷ (1 ∷ 8 ∷ [])
    ∷ (1 ∷ 9 ∷ []) ∷ (1 ∷ 1 ∷ 1 ∷ []) ∷ []) ≡ false ∷ true ∷ false ∷ false ∷ []
shares_for_scripts = refl

abbrev task : ℕ → Task
task limit = record {
  settings = usual;
  shares = 4 ∷ 1 ∷ [];
  scripts = codes "a" ∷ codes "b" ∷ [];
  limit = limit;
}

clients_of_task : clients_of (task 8) ≡ clients
clients_of_task = refl

-- a byte has eight samples
abbrev input : List ℕ → InputEnd → Input
input bytes end = record { bytes = bytes; end = end }

too_long_by_limit : map (λ limit. is_too_long (task limit) (input (0 ∷ []) exhausted)) (7 ∷ 8 ∷ 16
    ∷ [])
    ≡ true ∷ false ∷ false ∷ []
too_long_by_limit = refl

samples_to_limit : map (λ limit. taken_samples (task limit) (input (1 ∷ []) exhausted)) (1 ∷ 8
    ∷ 16 ∷ [])
    ≡ (real (pos 1) ∷ []) ∷ (replicate 7 (real (pos 1)) ++ real (negsuc 0) ∷ [])
    ∷ (replicate 7 (real (pos 1)) ++ real (negsuc 0) ∷ []) ∷ []
unfolding taken_samples samples_from sample
samples_to_limit = refl

-- the ends are due where reading came to its end within the limit
due_to_end : due_text (task 8) (input (0 ∷ []) exhausted)
    ≡ full_text (task 8) (input (0 ∷ []) exhausted)
due_to_end = refl

due_without_end : map (λ end. due_text (task 8) (input (0 ∷ []) end)) (failed ∷ unfinished ∷ [])
    ≡ map (λ end. body_text (task 8) (input (0 ∷ []) end)) (failed ∷ unfinished ∷ [])
due_without_end = refl

due_past_limit : due_text (task 7) (input (0 ∷ []) exhausted)
    ≡ body_text (task 7) (input (0 ∷ []) exhausted)
due_past_limit = refl

-- each answer with what came and what was written: of the clients and of memory before anything is
-- read
abbrev nobody : Task
nobody = record { settings = usual; shares = []; scripts = []; limit = 8 }

abbrev too_few_shares : Task
too_few_shares = record { settings = usual; shares = 4 ∷ []; scripts = [] ∷ [] ∷ []; limit = 8 }

answer_of_clients : IsAnswer nobody (input [] unfinished) [] wrong_clients
unfolding IsAnswer
answer_of_clients = (refl, (refl, refl, refl))

answer_of_shares : IsAnswer too_few_shares (input [] unfinished) [] wrong_shares
unfolding IsAnswer
answer_of_shares = (refl, refl, (refl, refl, refl))

answer_of_memory : IsAnswer (task 8) (input [] unfinished) [] no_memory
unfolding IsAnswer
answer_of_memory = ((refl, refl), (refl, refl, refl))

-- the ends are written where the run has finished, and not after a failed read or past the limit
answer_of_finished : IsAnswer (task 8) (input (0 ∷ []) exhausted)
    (full_text (task 8) (input (0 ∷ []) exhausted)) (finished 8)
unfolding IsAnswer taken_samples samples_from sample
answer_of_finished = ((refl, refl), refl, refl, refl, refl)

answer_of_failed_read : IsAnswer (task 8) (input (0 ∷ []) failed)
    (body_text (task 8) (input (0 ∷ []) failed)) read_failed
unfolding IsAnswer
answer_of_failed_read = ((refl, refl), refl, refl, refl)

answer_past_limit : IsAnswer (task 7) (input (0 ∷ []) unfinished)
    (body_text (task 7) (input (0 ∷ []) unfinished)) too_long
unfolding IsAnswer
answer_past_limit = ((refl, refl), refl, refl)

-- a writer may fail before it has taken anything
answer_of_failed_write : IsAnswer (task 8) (input (0 ∷ []) exhausted) [] write_failed
unfolding IsAnswer
answer_of_failed_write = ((refl, refl), (due_text (task 8) (input (0 ∷ []) exhausted), refl))
