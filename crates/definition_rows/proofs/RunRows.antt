-- Worked examples of whole runs, from the bytes of samples and scripts to the bytes written.
use Rattle.std.proofs.Common.{◌≡◌, ℕ, List, [], ◌∷◌, ◌++◌, drop, refl, ap, sym, ◌∙◌}
use Rattle.std.specs.Prelude.{codes, pos, replicate, false}
use Rattle.std.specs.Fmt.{digits}
use Rattle.definitions.specs.Sums.{total, least_below}
use Rattle.definitions.specs.Samples.{Packing, real1, real2, iq1, iq2, sample, samples}
use Rattle.definitions.specs.Samples.{samples_from}
use Rattle.definitions.specs.Oscillators.{Settings, carrier_step, code_step}
use Rattle.definitions.specs.Codes.{register_after, chip, chip_after}
use Rattle.definitions.specs.Correlation.{counts_over, six_sums, in_phase_sum, quadrature_sum}
use Rattle.definitions.specs.Segments.{progress, after_segments, closed_if_ended, next_end, end_by}
use Rattle.definitions.specs.Segments.{is_through, closed_at}
use Rattle.definitions.specs.Loops.{loops_after}
use Rattle.definitions.specs.Lock.{news_of, is_locked}
use Rattle.definitions.specs.BitEdge.{edge_of, bits_of}
use Rattle.definitions.specs.Lines.{as_bytes, pieces_ended_by}
use Rattle.definitions.specs.Scripts.{script, entry_of, entries_after, values_in}
use Rattle.definitions.specs.Events.{steered_events, push_events, last_of, front_of}
use Rattle.definitions.specs.Events.{unprinted_count, pushes_of, pushes_by, events_at_end}
use Rattle.definitions.specs.Events.{life_events}
use Rattle.definitions.specs.Lives.{is_over, life_of, dumps_of_life, life_now}
use Rattle.definitions.specs.Answers.{answer_at_end, view_of}
use Rattle.definitions.specs.Texts.{event_text, answer_text}
use Rattle.definitions.specs.Banks.{layout}
use Rattle.definitions.specs.Runs.{Task, Input, InputEnd, exhausted, failed, unfinished}
use Rattle.definitions.specs.Runs.{taken_samples, due_text, are_shares, are_clients, IsAnswer}
use Rattle.definitions.specs.Runs.{write_failed, too_long, no_memory}
use Rattle.definitions.specs.Receiver.{body, Client, entries_of, commands_to, body_lines, end_lines}
use Rattle.definitions.specs.Receiver.{full_lines, at_each_time, lines_at, event_lines}
use Rattle.definitions.specs.Receiver.{answer_lines, for_each_client, event_texts, answer_texts}
use Rattle.definitions.specs.Receiver.{full}
use Rattle.std.specs.Prelude.{true}

-- lines of text, each ended
abbrev text : List (List ℕ) → List ℕ
text lines = as_bytes lines

-- a client with some slots and the lines of its script
abbrev client : ℕ → List (List ℕ) → Client
client slots lines = record { slots = slots; script = text lines }

-- what is written for bytes of samples
abbrev run : Settings → List ℕ → List Client → List ℕ
run settings bytes clients = full settings (samples settings.packing bytes) clients

abbrev usual : Settings
usual = record { rate = 2046000; offset = pos 0; packing = real1 }

abbrev quick : Packing → Settings
quick packing = record { rate = 4092000; offset = pos 1023000; packing = packing }

-- no samples and no commands
empty_run : run usual [] (client 4 ([]) ∷ [])
    ≡ text (codes "1 0 end" ∷ [])
unfolding full full_lines body_lines end_lines at_each_time lines_at event_lines answer_lines
    for_each_client event_texts answer_texts entries_of commands_to script entry_of entries_after
    pieces_ended_by values_in as_bytes digits events_at_end life_now life_of life_events is_over
    answer_at_end view_of event_text answer_text sample samples_from
empty_run = refl

-- each refusal once; the last line is after the end
every_refusal : run usual (0 ∷ []) (client 4 (codes "5 hold 0 1 0 0" ∷ codes "4 stop 0" ∷ codes "x"
    ∷ codes "6 fly 0" ∷ codes "6 stop" ∷ codes "6 stop z" ∷ codes "6 hold 4 z 0 0"
    ∷ codes "6 hold 0 z 0 0" ∷ codes "6 hold 0 1 0 0" ∷ codes "6 stop 1" ∷ codes "9 stop 0" ∷ [])
    ∷ [])
    ≡ text (codes "1 5 ok" ∷ codes "1 5 err 4" ∷ codes "1 5 err 3" ∷ codes "1 6 err 5"
    ∷ codes "1 6 err 6" ∷ codes "1 6 err 7" ∷ codes "1 6 err 8" ∷ codes "1 6 err 7"
    ∷ codes "1 6 err 9" ∷ codes "1 6 err 10" ∷ codes "1 8 end" ∷ [])
unfolding full full_lines body_lines end_lines at_each_time lines_at event_lines answer_lines
    for_each_client event_texts answer_texts entries_of commands_to script entry_of entries_after
    pieces_ended_by values_in as_bytes digits events_at_end life_now life_of life_events is_over
    answer_at_end view_of event_text answer_text sample samples_from dumps_of_life last_of front_of
    unprinted_count progress after_segments closed_if_ended next_end end_by is_through closed_at
    counts_over six_sums in_phase_sum quadrature_sum least_below code_step carrier_step
every_refusal = refl

-- real samples of two bits
two_bit_byte : run (quick real2) (0x72 ∷ []) (client 4 (codes "0 hold 0 1 0 2044"
    ∷ codes "0 counts 0 1" ∷ []) ∷ [])
    ≡ text (codes "1 0 ok" ∷ codes "1 0 ok" ∷ codes "1 4 count 0 12 4 6 2 6 2" ∷ codes "1 4 end"
    ∷ [])
unfolding full full_lines body_lines end_lines at_each_time lines_at event_lines answer_lines
    for_each_client event_texts answer_texts entries_of commands_to script entry_of entries_after
    pieces_ended_by values_in as_bytes digits events_at_end life_now life_of life_events is_over
    answer_at_end view_of event_text answer_text sample samples_from dumps_of_life last_of front_of
    unprinted_count progress after_segments closed_if_ended next_end end_by is_through closed_at
    counts_over six_sums in_phase_sum quadrature_sum least_below code_step carrier_step total chip
    chip_after register_after
two_bit_byte = refl

-- complex samples of one bit for each part
complex_byte : run (quick iq1) (0x1b ∷ []) (client 4 (codes "0 hold 0 1 0 2044"
    ∷ codes "0 counts 0 1" ∷ []) ∷ [])
    ≡ text (codes "1 0 ok" ∷ codes "1 0 ok" ∷ codes "1 4 count 0 -2 6 2 -6 2 -6" ∷ codes "1 4 end"
    ∷ [])
unfolding full full_lines body_lines end_lines at_each_time lines_at event_lines answer_lines
    for_each_client event_texts answer_texts entries_of commands_to script entry_of entries_after
    pieces_ended_by values_in as_bytes digits events_at_end life_now life_of life_events is_over
    answer_at_end view_of event_text answer_text sample samples_from dumps_of_life last_of front_of
    unprinted_count progress after_segments closed_if_ended next_end end_by is_through closed_at
    counts_over six_sums in_phase_sum quadrature_sum least_below code_step carrier_step total chip
    chip_after register_after
complex_byte = refl

-- complex samples of two bits for each part
complex_bytes : run (quick iq2) (0x4b ∷ 0x2d ∷ []) (client 4 (codes "0 hold 0 1 0 2044"
    ∷ codes "0 counts 0 1" ∷ []) ∷ [])
    ≡ text (codes "1 0 ok" ∷ codes "1 0 ok" ∷ codes "1 4 count 0 12 4 -8 4 -8 4" ∷ codes "1 4 end"
    ∷ [])
unfolding full full_lines body_lines end_lines at_each_time lines_at event_lines answer_lines
    for_each_client event_texts answer_texts entries_of commands_to script entry_of entries_after
    pieces_ended_by values_in as_bytes digits events_at_end life_now life_of life_events is_over
    answer_at_end view_of event_text answer_text sample samples_from dumps_of_life last_of front_of
    unprinted_count progress after_segments closed_if_ended next_end end_by is_through closed_at
    counts_over six_sums in_phase_sum quadrature_sum least_below code_step carrier_step total chip
    chip_after register_after
complex_bytes = refl

-- one sample at the end of the code: the early chip is the first of the next period. Of the
-- samples only that one matters, so the others are zeros here
early_wraps : run usual (replicate 255 0 ++ 0x03 ∷ []) (client 4 (codes "2045 hold 0 1 0 2045"
    ∷ codes "2045 counts 0 1" ∷ []) ∷ [])
    ≡ text (codes "1 2045 ok" ∷ codes "1 2045 ok" ∷ codes "1 2046 count 0 -2 1 2 -1 2 -1"
    ∷ codes "1 2048 end" ∷ [])
unfolding full full_lines body_lines end_lines at_each_time lines_at event_lines answer_lines
    for_each_client event_texts answer_texts entries_of commands_to script entry_of entries_after
    pieces_ended_by values_in as_bytes digits events_at_end life_now life_of life_events is_over
    answer_at_end view_of event_text answer_text sample samples_from dumps_of_life last_of front_of
    unprinted_count progress after_segments closed_if_ended next_end end_by is_through closed_at
    counts_over six_sums in_phase_sum quadrature_sum least_below code_step carrier_step total chip
    chip_after register_after
early_wraps = refl

-- odd lines; the last two stand at a time that is never reached
hostile_script : run usual [] (client 4 (codes
    "                                                                                 "
    ∷ codes "                                                                                "
    ∷ codes "" ∷ codes "00000000000000 state 0" ∷ codes "-0 state 0" ∷ codes "0 state -0"
    ∷ codes "0 state 00" ∷ codes "0 state 00000000000000" ∷ codes "0 state --0" ∷ codes "0 State 0"
    ∷ codes "0" ∷ codes "0 state 0 0" ∷ codes "0 hold 0 1 -16001 x" ∷ codes "0 counts 0 1000001"
    ∷ codes "0 counts 0 1" ∷ codes "1099511627777 state 0" ∷ codes " 0   state  3 "
    ∷ codes "1099511627776 state 0" ∷ codes "0 stop 0" ∷ []) ∷ [])
    ≡ text (codes "1 0 err 1" ∷ codes "1 0 err 3" ∷ codes "1 0 err 3" ∷ codes "1 0 state 0 idle"
    ∷ codes "1 0 state 0 idle" ∷ codes "1 0 err 7" ∷ codes "1 0 err 7" ∷ codes "1 0 err 5"
    ∷ codes "1 0 err 5" ∷ codes "1 0 err 6" ∷ codes "1 0 err 8" ∷ codes "1 0 err 8"
    ∷ codes "1 0 err 10" ∷ codes "1 0 err 3" ∷ codes "1 0 state 3 idle" ∷ codes "1 0 end" ∷ [])
unfolding full full_lines body_lines end_lines at_each_time lines_at event_lines answer_lines
    for_each_client event_texts answer_texts entries_of commands_to script entry_of entries_after
    pieces_ended_by values_in as_bytes digits events_at_end life_now life_of life_events is_over
    answer_at_end view_of event_text answer_text sample samples_from
hostile_script = refl

-- shares of eight slots and of one
unequal_states : run usual [] (client 8 (codes "0 state 7" ∷ []) ∷ client 1 (codes "0 state 1" ∷ [])
    ∷ [])
    ≡ text (codes "1 0 state 7 idle" ∷ codes "2 0 err 8" ∷ codes "1 0 end" ∷ codes "2 0 end" ∷ [])
unfolding full full_lines body_lines end_lines at_each_time lines_at event_lines answer_lines
    for_each_client event_texts answer_texts entries_of commands_to script entry_of entries_after
    pieces_ended_by values_in as_bytes digits events_at_end life_now life_of life_events is_over
    answer_at_end view_of event_text answer_text sample samples_from
unequal_states = refl

-- the slots of shares of three and of one
unequal_layout : layout (3 ∷ 1 ∷ []) ≡ (1, 0) ∷ (1, 1) ∷ (1, 2) ∷ (2, 0) ∷ []
unequal_layout = refl

-- two clients: samples come before commands, and at one time the first client before the second
two_clients : run usual (0 ∷ []) (client 4 (codes "0 hold 0 1 0 2045" ∷ codes "0 counts 0 2"
    ∷ codes "1 state 0" ∷ []) ∷ client 4 (codes "1 state 3" ∷ codes "0 state 0"
    ∷ codes "3 hold 2 7 -1000 2045" ∷ codes "3 counts 2 1" ∷ codes "4 state 2" ∷ codes "5 stop 2"
    ∷ codes "5 stop 2" ∷ []) ∷ [])
    ≡ text (codes "1 0 ok" ∷ codes "1 0 ok" ∷ codes "1 1 count 0 -2 1 2 -1 2 -1"
    ∷ codes "1 1 state 0 hold 1 1" ∷ codes "2 1 state 3 idle" ∷ codes "2 1 err 4" ∷ codes "2 3 ok"
    ∷ codes "2 3 ok" ∷ codes "2 4 state 2 hold 7 0" ∷ codes "2 5 count 2 -4 0 4 0 4 0"
    ∷ codes "2 5 ok" ∷ codes "2 5 err 10" ∷ codes "1 8 end" ∷ codes "2 8 end" ∷ [])
unfolding full full_lines body_lines end_lines at_each_time lines_at event_lines answer_lines
    for_each_client event_texts answer_texts entries_of commands_to script entry_of entries_after
    pieces_ended_by values_in as_bytes digits events_at_end life_now life_of life_events is_over
    answer_at_end view_of event_text answer_text sample samples_from dumps_of_life last_of front_of
    unprinted_count progress after_segments closed_if_ended next_end end_by is_through closed_at
    counts_over six_sums in_phase_sum quadrature_sum least_below code_step carrier_step total chip
    chip_after register_after
two_clients = refl

-- a start of tracking, a state, and two stops
refused_restart : run usual [] (client 4 (codes "0 track 0 1 0 0" ∷ codes "0 state 0"
    ∷ codes "0 stop 0" ∷ codes "0 stop 0" ∷ codes "0 hold 4 1 0 0" ∷ codes "0 hold 0 33 0 0"
    ∷ codes "0 hold 0 0 0 0" ∷ []) ∷ [])
    ≡ text (codes "1 0 ok" ∷ codes "1 0 state 0 track 1 0 0 0 open" ∷ codes "1 0 ok"
    ∷ codes "1 0 err 10" ∷ codes "1 0 err 8" ∷ codes "1 0 err 8" ∷ codes "1 0 err 8"
    ∷ codes "1 0 end" ∷ [])
unfolding full full_lines body_lines end_lines at_each_time lines_at event_lines answer_lines
    for_each_client event_texts answer_texts entries_of commands_to script entry_of entries_after
    pieces_ended_by values_in as_bytes digits events_at_end life_now life_of life_events is_over
    answer_at_end view_of event_text answer_text sample samples_from dumps_of_life last_of front_of
    unprinted_count progress after_segments closed_if_ended next_end end_by is_through closed_at
    counts_over six_sums in_phase_sum quadrature_sum least_below code_step carrier_step loops_after
    is_locked pushes_of pushes_by news_of edge_of
refused_restart = refl

-- a number of dumps asked for at the very time of a dump, and one that is taken back; lives of
-- no samples
counts_and_lives : run usual (0 ∷ []) (client 4 (codes "0 hold 0 1 0 2045" ∷ codes "1 counts 0 1"
    ∷ codes "1 state 0" ∷ codes "0 hold 1 1 0 2045" ∷ []) ∷ client 4 (codes "0 hold 1 3 0 2045"
    ∷ codes "0 counts 1 2" ∷ codes "0 counts 1 0" ∷ codes "0 hold 0 1 0 2045" ∷ codes "0 stop 0"
    ∷ codes "0 track 0 1 0 2045" ∷ codes "0 counts 0 1" ∷ codes "1 stop 0"
    ∷ codes "1 hold 0 2 0 2044" ∷ codes "1 counts 0 1" ∷ codes "3 state 0" ∷ codes "4 stop 0" ∷ [])
    ∷ [])
    ≡ text (codes "1 0 ok" ∷ codes "2 0 ok" ∷ codes "2 0 ok" ∷ codes "2 0 ok" ∷ codes "2 0 ok"
    ∷ codes "2 0 ok" ∷ codes "2 0 ok" ∷ codes "2 0 ok" ∷ codes "2 1 count 0 -2 1 2 -1 2 -1"
    ∷ codes "1 1 ok" ∷ codes "1 1 state 0 hold 1 1" ∷ codes "1 1 err 4" ∷ codes "2 1 ok"
    ∷ codes "2 1 ok" ∷ codes "2 1 ok" ∷ codes "2 3 count 0 0 0 4 -2 4 -2"
    ∷ codes "2 3 state 0 hold 2 1" ∷ codes "2 4 ok" ∷ codes "1 8 end" ∷ codes "2 8 end" ∷ [])
unfolding full full_lines body_lines end_lines at_each_time lines_at event_lines answer_lines
    for_each_client event_texts answer_texts entries_of commands_to script entry_of entries_after
    pieces_ended_by values_in as_bytes digits events_at_end life_now life_of life_events is_over
    answer_at_end view_of event_text answer_text sample samples_from dumps_of_life last_of front_of
    unprinted_count progress after_segments closed_if_ended next_end end_by is_through closed_at
    counts_over six_sums in_phase_sum quadrature_sum least_below code_step carrier_step total chip
    chip_after register_after loops_after is_locked pushes_of pushes_by news_of edge_of
    steered_events push_events bits_of
counts_and_lives = refl

-- ---- the end of a run

abbrev task : ℕ → List (List ℕ) → Task
task limit lines = record {
  settings = usual;
  shares = 4 ∷ [];
  scripts = text lines ∷ [];
  limit =
      limit;
}

abbrev input : List ℕ → InputEnd → Input
input bytes end = record { bytes = bytes; end = end }

-- sixteen samples for a limit of eight: the text without the end
past_limit : due_text (task 8 (codes "8 state 0" ∷ codes "9 state 0" ∷ [])) (input (0 ∷ 0 ∷ [])
    unfinished) ≡ text (codes "1 8 state 0 idle" ∷ [])
unfolding body taken_samples full full_lines body_lines end_lines at_each_time lines_at event_lines
    answer_lines for_each_client event_texts answer_texts entries_of commands_to script entry_of
    entries_after pieces_ended_by values_in as_bytes digits events_at_end life_now life_of
    life_events is_over answer_at_end view_of event_text answer_text sample samples_from
past_limit = refl

-- eight samples for a limit of eight
at_limit : due_text (task 8 (codes "8 state 0" ∷ codes "9 state 0" ∷ [])) (input (0 ∷ []) exhausted)
    ≡ text (codes "1 8 state 0 idle" ∷ codes "1 8 end" ∷ [])
unfolding body taken_samples full full_lines body_lines end_lines at_each_time lines_at event_lines
    answer_lines for_each_client event_texts answer_texts entries_of commands_to script entry_of
    entries_after pieces_ended_by values_in as_bytes digits events_at_end life_now life_of
    life_events is_over answer_at_end view_of event_text answer_text sample samples_from
at_limit = refl

-- a failed read after eight samples
failed_read : due_text (task 64 (codes "8 state 0" ∷ codes "9 state 0" ∷ [])) (input (0 ∷ [])
    failed) ≡ text (codes "1 8 state 0 idle" ∷ [])
unfolding body taken_samples full full_lines body_lines end_lines at_each_time lines_at event_lines
    answer_lines for_each_client event_texts answer_texts entries_of commands_to script entry_of
    entries_after pieces_ended_by values_in as_bytes digits events_at_end life_now life_of
    life_events is_over answer_at_end view_of event_text answer_text sample samples_from
failed_read = refl

-- a limit of no samples
limit_zero : due_text (task 0 (codes "0 state 0" ∷ codes "1 state 0" ∷ [])) (input (0 ∷ [])
    unfinished) ≡ text (codes "1 0 state 0 idle" ∷ [])
unfolding body taken_samples full full_lines body_lines end_lines at_each_time lines_at event_lines
    answer_lines for_each_client event_texts answer_texts entries_of commands_to script entry_of
    entries_after pieces_ended_by values_in as_bytes digits events_at_end life_now life_of
    life_events is_over answer_at_end view_of event_text answer_text sample samples_from
limit_zero = refl

-- a writer that fails while reading goes on: no end is due
broken_off : due_text (task 64 (codes "8 state 0" ∷ codes "9 state 0" ∷ [])) (input (0 ∷ [])
    unfinished) ≡ text (codes "1 8 state 0 idle" ∷ [])
unfolding body taken_samples full full_lines body_lines end_lines at_each_time lines_at event_lines
    answer_lines for_each_client event_texts answer_texts entries_of commands_to script entry_of
    entries_after pieces_ended_by values_in as_bytes digits events_at_end life_now life_of
    life_events is_over answer_at_end view_of event_text answer_text sample samples_from
broken_off = refl

-- it may have taken a part of a line, of an end too where reading had come to its end
part_of_line : IsAnswer (task 64 (codes "8 state 0" ∷ [])) (input (0 ∷ []) unfinished) (codes
    "1 8 sta") write_failed
unfolding body taken_samples full full_lines body_lines end_lines at_each_time lines_at event_lines
    answer_lines for_each_client event_texts answer_texts entries_of commands_to script entry_of
    entries_after pieces_ended_by values_in as_bytes digits events_at_end life_now life_of
    life_events is_over answer_at_end view_of event_text answer_text sample samples_from IsAnswer
part_of_line = ((refl, refl), (codes "te 0 idle" ++ 10 ∷ [], refl))

part_of_end : IsAnswer (task 64 (codes "8 state 0" ∷ [])) (input (0 ∷ []) exhausted) (text (codes
    "1 8 state 0 idle" ∷ []) ++ codes "1 8 e") write_failed
unfolding body taken_samples full full_lines body_lines end_lines at_each_time lines_at event_lines
    answer_lines for_each_client event_texts answer_texts entries_of commands_to script entry_of
    entries_after pieces_ended_by values_in as_bytes digits events_at_end life_now life_of
    life_events is_over answer_at_end view_of event_text answer_text sample samples_from IsAnswer
part_of_end = ((refl, refl), (codes "nd" ++ 10 ∷ [], refl))

-- and of an end it has taken nothing before
no_end_yet : IsAnswer (task 64 (codes "8 state 0" ∷ [])) (input (0 ∷ []) unfinished) (text (codes
    "1 8 state 0 idle" ∷ []) ++ codes "1 8 e") write_failed → ⊥
unfolding body taken_samples full full_lines body_lines end_lines at_each_time lines_at event_lines
    answer_lines for_each_client event_texts answer_texts entries_of commands_to script entry_of
    entries_after pieces_ended_by values_in as_bytes digits events_at_end life_now life_of
    life_events is_over answer_at_end view_of event_text answer_text sample samples_from IsAnswer
no_end_yet (right, (rest, due)) = ended (ap (drop 17) due)
  where
    ended : {b : ℕ} {bytes : List ℕ} → [] ≡ b ∷ bytes → ⊥
    ended e = cc

-- past the limit the samples up to it are told, and no end
too_long_by_one : IsAnswer (task 7 (codes "7 state 0" ∷ [])) (input (0 ∷ []) unfinished)
    (text (codes "1 7 state 0 idle" ∷ [])) too_long
unfolding body taken_samples full full_lines body_lines end_lines at_each_time lines_at event_lines
    answer_lines for_each_client event_texts answer_texts entries_of commands_to script entry_of
    entries_after pieces_ended_by values_in as_bytes digits events_at_end life_now life_of
    life_events is_over answer_at_end view_of event_text answer_text sample samples_from IsAnswer
too_long_by_one = ((refl, refl), refl, refl)

-- memory is taken after the shares were checked
no_memory_for_wrong_shares : (task : Task) → are_shares task.shares task.scripts ≡ false
    → IsAnswer task (input [] unfinished) [] no_memory → ⊥
unfolding IsAnswer
no_memory_for_wrong_shares task wrong (right, untouched) = differ (sym wrong ∙ right.1)
  where
    differ : false ≡ true → ⊥
    differ e = cc

fewer_shares : are_shares (4 ∷ []) ([] ∷ [] ∷ []) ≡ false
fewer_shares = refl

share_of_nine : are_shares (4 ∷ 9 ∷ []) ([] ∷ [] ∷ []) ≡ false
share_of_nine = refl

no_scripts : are_clients [] ≡ false
no_scripts = refl

nine_scripts : are_clients (replicate 9 []) ≡ false
nine_scripts = refl

-- two slots with an event at one time: by slot, whatever the order of the commands
two_slots : run (quick real2) (0x72 ∷ []) (client 2 (codes "0 hold 1 1 0 2044"
    ∷ codes "0 hold 0 1 0 2044" ∷ codes "0 counts 1 1" ∷ codes "0 counts 0 1" ∷ []) ∷ [])
    ≡ text (codes "1 0 ok" ∷ codes "1 0 ok" ∷ codes "1 0 ok" ∷ codes "1 0 ok"
    ∷ codes "1 4 count 0 12 4 6 2 6 2" ∷ codes "1 4 count 1 12 4 6 2 6 2" ∷ codes "1 4 end" ∷ [])
unfolding full full_lines body_lines end_lines at_each_time lines_at event_lines answer_lines
    for_each_client event_texts answer_texts entries_of commands_to script entry_of entries_after
    pieces_ended_by values_in as_bytes digits events_at_end life_now life_of life_events is_over
    answer_at_end view_of event_text answer_text sample samples_from dumps_of_life last_of front_of
    unprinted_count progress after_segments closed_if_ended next_end end_by is_through closed_at
    counts_over six_sums in_phase_sum quadrature_sum least_below code_step carrier_step total chip
    chip_after register_after
two_slots = refl

eight_scripts : are_clients (replicate 8 []) ≡ true
eight_scripts = refl

share_of_eight : are_shares (8 ∷ 1 ∷ []) ([] ∷ [] ∷ []) ≡ true
share_of_eight = refl

-- six sums that all differ, by a program apart: twelve samples, of which ten are before the end of
-- the code
distinct_sums : run (quick real2) (0x72 ∷ 0x1e ∷ 0xb4 ∷ []) (client 4 (codes "0 hold 0 3 0 2041"
    ∷ codes "0 counts 0 1" ∷ []) ∷ [])
    ≡ text (codes "1 0 ok" ∷ codes "1 0 ok" ∷ codes "1 10 count 0 9 -17 -7 -9 -1 -7"
    ∷ codes "1 12 end" ∷ [])
unfolding full full_lines body_lines end_lines at_each_time lines_at event_lines answer_lines
    for_each_client event_texts answer_texts entries_of commands_to script entry_of entries_after
    pieces_ended_by values_in as_bytes digits events_at_end life_now life_of life_events is_over
    answer_at_end view_of event_text answer_text sample samples_from dumps_of_life last_of front_of
    unprinted_count progress after_segments closed_if_ended next_end end_by is_through closed_at
    counts_over six_sums in_phase_sum quadrature_sum least_below code_step carrier_step total chip
    chip_after register_after
distinct_sums = refl
