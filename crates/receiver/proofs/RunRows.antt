-- One whole run over memory, worked out by hand: what its record says of the bytes that were read
-- and written, and of its lines. The six sums are those of the row `two_bit_byte` of
-- `definition_rows`.
use Rattle.std.proofs.Common.{◌≡◌, ℕ, List, [], ◌∷◌, ◌++◌, refl, sym, ap, ◌∙◌, subst, arith}
use Rattle.std.specs.Prelude.{codes, pos, true, false, Bool, Some, Ok, Err, ⊤}
use Rattle.std.proofs.lemmas.List.{append-nil}
use Rattle.std.specs.Fmt.{digits}
use Rattle.definitions.specs.Sums.{total, least_below}
use Rattle.definitions.specs.Samples.{real2, sample, samples, samples_from}
use Rattle.definitions.specs.Oscillators.{carrier_step, code_step}
use Rattle.definitions.specs.Codes.{register_after, chip, chip_after}
use Rattle.definitions.specs.Correlation.{Counts, counts_over, six_sums, in_phase_sum}
use Rattle.definitions.specs.Correlation.{quadrature_sum}
use Rattle.definitions.specs.Segments.{progress, after_segments, closed_if_ended, next_end, end_by}
use Rattle.definitions.specs.Segments.{is_through, closed_at}
use Rattle.definitions.specs.Lines.{as_bytes, pieces_ended_by}
use Rattle.definitions.specs.Scripts.{script, entry_of, entries_after, values_in}
use Rattle.definitions.specs.Events.{Event, count, last_of, front_of, unprinted_count}
use Rattle.definitions.specs.Events.{events_at_end, life_events}
use Rattle.definitions.specs.Lives.{is_over, life_of, dumps_of_life, life_now}
use Rattle.definitions.specs.Answers.{answer_at_end, view_of}
use Rattle.definitions.specs.Texts.{event_text, answer_text}
use Rattle.definitions.specs.Runs.{Task, exhausted, failed, taken_samples, full_text, clients_of}
use Rattle.definitions.specs.Runs.{IsAnswer}
use Rattle.definitions.specs.Receiver.{entries_of, commands_to, body_lines, end_lines}
use Rattle.definitions.specs.Receiver.{full, full_lines, at_each_time, lines_at, event_lines}
use Rattle.definitions.specs.Receiver.{answer_lines, for_each_client, event_texts, answer_texts}
use Rattle.definitions.specs.PrintedLaws.{IsLineOf}
use Rattle.receiver.specs.declared.faults.RunFault.TheVariants.{Read, Write}
use Rattle.devices.specs.Moments.{Devices}
use Rattle.receiver.specs.Runs.{IsRun, EndedAs}
use Rattle.receiver.specs.Printed.{LinesAreRight}
use Rattle.receiver.proofs.PrintedLemmas.{lines-are-right}

-- One byte of real samples of two bits: +3, -3, +1, -1. One client with four slots holds satellite
-- 1, two samples before the end of its code, and asks for one dump.
abbrev bytes : List ℕ
bytes = 0x72 ∷ []

abbrev task : Task
task = record {
  settings = record { rate = 4092000; offset = pos 1023000; packing = real2 };
  shares = 4 ∷ [];
  scripts = as_bytes (codes "0 hold 0 1 0 2044" ∷ codes "0 counts 0 1" ∷ []) ∷ [];
  limit = 8;
}

abbrev text : List ℕ
text = as_bytes (codes "1 0 ok" ∷ codes "1 0 ok" ∷ codes "1 4 count 0 12 4 6 2 6 2"
    ∷ codes "1 4 end" ∷ [])

-- The reader has these bytes, and the writer one byte of before.
abbrev before : Devices
before = record {
  remaining = Some bytes;
  read_failed = false;
  gave_none = false;
  contents = Some (0x21 ∷ []);
  write_failed = false;
}

abbrev after : List ℕ → List ℕ → Bool → Bool → Devices
after left held read_failed write_failed = record {
  remaining = Some left;
  read_failed = read_failed;
  gave_none = true;
  contents = Some held;
  write_failed = write_failed;
}

written : full_text task (record { bytes = bytes; end = exhausted }) ≡ text
unfolding taken_samples full full_lines body_lines end_lines at_each_time lines_at event_lines
    answer_lines for_each_client event_texts answer_texts entries_of commands_to script entry_of
    entries_after pieces_ended_by values_in as_bytes digits events_at_end life_now life_of
    life_events is_over answer_at_end view_of event_text answer_text sample samples_from
    dumps_of_life last_of front_of unprinted_count progress after_segments closed_if_ended next_end
    end_by is_through closed_at counts_over six_sums in_phase_sum quadrature_sum least_below
    code_step carrier_step total chip chip_after register_after
written = refl

lines_are_right : LinesAreRight task.settings (clients_of task) (samples real2 bytes) text
unfolding taken_samples sample samples_from
lines_are_right = subst (LinesAreRight task.settings (clients_of task) (samples real2 bytes))
    written (lines-are-right task.settings (clients_of task) (samples real2 bytes) (omega arith))

-- The run that reads all of this and writes all of that.
run : IsRun task before (after [] (0x21 ∷ text) false false) (Ok 4)
unfolding IsAnswer taken_samples sample samples_from
run = record {
  input = record { bytes = bytes; end = exhausted };
  text = text;
  consumed = refl;
  ended = (refl, refl, refl);
  written = refl;
  writer = refl;
  answer = ((refl, refl), refl, refl, refl, sym written);
  lines = lines_are_right;
}

abbrev IsFalse : Bool → Type 0
IsFalse false = ⊤
IsFalse true = ⊥

false-true : false ≡ true → ⊥
false-true e = subst IsFalse e tt

-- No run that reads all of this, and whose devices didn't fail, writes anything else.
only_this_text : (left held : List ℕ) → IsRun task before (after left held false false) (Ok 4)
    → held ≡ 0x21 ∷ text
unfolding IsAnswer taken_samples
only_this_text left held e =
    let end_is : e.input.end ≡ exhausted = e.answer.2 in
    let none_left : left ≡ [] =
    (subst (λ it. EndedAs it before (after left held false false)) end_is e.ended).0 in
    let read : bytes ≡ e.input.bytes =
    e.consumed ∙ ap (λ l. e.input.bytes ++ l) none_left ∙ append-nil e.input.bytes in
    let text_is : e.text ≡ text =
    e.answer.4 ∙ ap (λ b. full_text task (record { bytes = b; end = exhausted })) (sym read)
    ∙ written in
    e.written ∙ ap (λ t. 0x21 ∷ t) text_is

-- Neither device is blamed where it hasn't failed.
reader_is_not_blamed : (left held : List ℕ)
    → IsRun task before (after left held false false) (Err Read) → ⊥
unfolding IsAnswer
reader_is_not_blamed left held e =
    let end_is : e.input.end ≡ failed = e.answer.2 in
    false-true (subst (λ it. EndedAs it before (after left held false false)) end_is e.ended).1

writer_is_not_blamed : (left held : List ℕ)
    → IsRun task before (after left held false false) (Err Write) → ⊥
writer_is_not_blamed left held e = false-true e.writer

-- A writer that has failed isn't passed over.
failure_is_reported : (left held : List ℕ)
    → IsRun task before (after left held false true) (Ok 4) → ⊥
failure_is_reported left held e = false-true (sym e.writer)

-- The third line is that of a dump.
third_line_is_a_dump : LinesAreRight task.settings (clients_of task) (samples real2 bytes) text
    → (event : Event) × ((c : Counts) × (event ≡ count c))
    × IsLineOf task.settings (clients_of task) (samples real2 bytes)
    (codes "1 4 count 0 12 4 6 2 6 2") event
unfolding as_bytes pieces_ended_by
third_line_is_a_dump right =
    right.counts 2 (codes "1 4 count 0 12 4 6 2 6 2") (codes "count") refl refl refl
