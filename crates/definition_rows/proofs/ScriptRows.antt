-- Worked examples of scripts: lines that are refused, and the ends of ranges.
use Rattle.std.proofs.Common.{◌≡◌, [], ◌∷◌, ◌++◌, refl}
use Rattle.std.specs.Prelude.{Err, map, replicate, codes}
use Rattle.definitions.specs.Lines.{pieces_ended_by, as_bytes}
use Rattle.definitions.specs.Scripts.{Entry, verbs, script, entry_of, entries_after, values_in}
use Rattle.std.specs.Prelude.{ℕ, Bool, true, false, pos, neg_ℤ, Result, Ok}
use Rattle.definitions.specs.Scripts.{is_printable}
use Rattle.definitions.specs.Commands.{Command, begin, hold, track, acquire}
use Rattle.std.specs.Prelude.{None, Some}
use Rattle.definitions.specs.Commands.{Request, counts, state, stop}
use Rattle.definitions.specs.Scripts.{number_in, signed_number_in, time_in}

-- a line of 81 letters, and one with byte 0x0D
long_and_odd : map (λ (e : Entry). e.what)
    (script verbs 4 (replicate 81 120 ++ 10 ∷ codes "0 state 0" ++ 13 ∷ [])) ≡ Err 1 ∷ Err 2 ∷ []
unfolding script entry_of entries_after pieces_ended_by values_in
long_and_odd = refl

-- the ends of a plan's ranges
ends_of_ranges : map (λ (e : Entry). e.what)
    (script verbs 4 (as_bytes (codes "0 acquire 0 1 6001 0 1 10"
    ∷ codes "0 acquire 0 1 -6001 0 1 10" ∷ codes "0 acquire 0 1 0 41 1 10"
    ∷ codes "0 acquire 0 1 0 0 0 10" ∷ codes "0 acquire 0 1 0 0 11 10"
    ∷ codes "0 acquire 0 1 0 0 1 0" ∷ codes "0 acquire 0 1 0 0 1 1001" ∷ codes "0 hold 0 1 16001 0"
    ∷ codes "0 track 0 1 0 2046" ∷ [])))
    ≡ replicate 9 (Err 8)
unfolding script entry_of entries_after pieces_ended_by values_in as_bytes
ends_of_ranges = refl

-- what the words of commands mean, in their order
meanings : map (λ (e : Entry). e.what) (script verbs 4 (as_bytes (codes "0 acquire 1 2 -3 4 5 6"
    ∷ codes "0 hold 2 7 -8 9" ∷ codes "0 track 3 7 -8 9" ∷ [])))
    ≡ Ok (record {
      slot = 1;
      request = begin (acquire (record {
        prn = 2;
        centre = neg_ℤ (pos 3);
        bins = 4;
        dwell = 5;
        threshold = 6;
      }));
    }) ∷ Ok (record { slot = 2; request = begin (hold 7 (neg_ℤ (pos 8)) 9) })
    ∷ Ok (record { slot = 3; request = begin (track 7 (neg_ℤ (pos 8)) 9) }) ∷ []
unfolding script entry_of entries_after pieces_ended_by values_in as_bytes
meanings = refl

abbrev is_command : Result Command ℕ → Bool
is_command (Ok c) = true
is_command (Err n) = false

-- both ends of each range are taken
ends_are_taken : map (λ (e : Entry). is_command e.what) (script verbs 8 (as_bytes (
    codes "0 acquire 7 32 6000 40 10 1000" ∷ codes "0 acquire 0 1 -6000 0 1 1"
    ∷ codes "0 hold 0 32 16000 2045" ∷ codes "0 track 0 1 -16000 0" ∷ codes "0 counts 0 1000000"
    ∷ codes "1099511627776 counts 0 0" ∷ []))) ≡ replicate 6 true
unfolding script entry_of entries_after pieces_ended_by values_in as_bytes
ends_are_taken = refl

-- a blank and a tilde are the ends of what may stand in a line
printable : map is_printable (0x1f ∷ 0x20 ∷ 0x7e ∷ 0x7f ∷ 9 ∷ [])
    ≡ false ∷ true ∷ true ∷ false ∷ false ∷ []
printable = refl

-- 1 to 13 digits, with or without zeros in front
numbers_in_words : map number_in (codes "1099511627776" ∷ codes "0000000000007"
    ∷ codes "00000000000007" ∷ [] ∷ codes "1x" ∷ codes "10" ∷ [])
    ≡ Some 1099511627776 ∷ Some 7 ∷ None ∷ None ∷ None ∷ Some 10 ∷ []
numbers_in_words = refl

-- one minus at most, and no other sign
signed_numbers : map signed_number_in (codes "-5" ∷ codes "5" ∷ codes "-0" ∷ codes "-" ∷ codes "--5"
    ∷ codes "+5" ∷ codes ",5" ∷ codes ".5" ∷ [])
    ≡ Some (neg_ℤ (pos 5)) ∷ Some (pos 5) ∷ Some (pos 0) ∷ replicate 5 None
signed_numbers = refl

-- up to 2 ^ 40
times_in_words : map time_in (codes "1099511627776" ∷ codes "1099511627777" ∷ codes "x" ∷ [])
    ≡ Some 1099511627776 ∷ None ∷ None ∷ []
times_in_words = refl

-- the first refusal that applies, word by word from the left
refusals : map (λ (e : Entry). e.what) (script verbs 4 (as_bytes (codes "0" ∷ codes "0 State 0"
    ∷ codes "0 stop 0 0" ∷ codes "0 stop" ∷ codes "0 hold 4 z 0 0" ∷ codes "0 hold 0 z 99999 0"
    ∷ codes "0 hold 0 33 z 0" ∷ codes "0 hold 0 1 0 z" ∷ codes "0 state 4" ∷ codes "0 state -1"
    ∷ codes "0 counts 0 1000001" ∷ codes "0 hold 0 1 -16001 0" ∷ codes "0 acquire 0 0 0 0 1 10"
    ∷ codes "0 acquire 0 33 0 0 1 10" ∷ replicate 80 120 ∷ replicate 81 120 ∷ (9 ∷ []) ∷ [])))
    ≡ map Err (5 ∷ 5 ∷ 6 ∷ 6 ∷ 8 ∷ 7 ∷ 8 ∷ 7 ∷ 8 ∷ 8 ∷ 8 ∷ 8 ∷ 8 ∷ 8 ∷ 3 ∷ 1 ∷ 2 ∷ [])
unfolding script entry_of entries_after pieces_ended_by values_in as_bytes
refusals = refl

-- too few words after a verb, or too many
other_numbers_of_words : map (λ (e : Entry). e.what) (script verbs 4 (as_bytes (codes "0 hold 0 1 5"
    ∷ codes "0 hold 0 1 5 7 9" ∷ codes "0 acquire 0 1 0 0 1" ∷ codes "0 counts 0"
    ∷ codes "0 counts 0 1 2" ∷ codes "0 state" ∷ [])))
    ≡ replicate 6 (Err 6)
unfolding script entry_of entries_after pieces_ended_by values_in as_bytes
other_numbers_of_words = refl

-- a line refused for its time has that of the line before, and a line without words has none
abbrev asked : ℕ → ℕ → Request → Entry
asked time slot request = record {
  time = time;
  what = Ok
      (record { slot = slot; request = request });
}

abbrev refused_at : ℕ → ℕ → Entry
refused_at time refusal = record { time = time; what = Err refusal }

times_of_lines : script verbs 4 (as_bytes (codes "5 state 0" ∷ [] ∷ codes "   " ∷ codes "4 state 0"
    ∷ codes "x" ∷ codes "5  state 3 " ∷ (9 ∷ []) ∷ codes "6 stop 2" ∷ codes "7 fly"
    ∷ codes "8 counts 1 7"
    ∷ []))
    ≡ asked 5 0 state ∷ refused_at 5 4 ∷ refused_at 5 3 ∷ asked 5 3 state ∷ refused_at 5 2
    ∷ asked 6 2 stop ∷ refused_at 7 5 ∷ asked 8 1 (counts 7) ∷ []
unfolding script entry_of entries_after pieces_ended_by values_in as_bytes
times_of_lines = refl

-- a script begins at time 0
first_refusal : script verbs 4 (codes "x") ≡ refused_at 0 3 ∷ []
unfolding script entry_of entries_after pieces_ended_by values_in
first_refusal = refl

-- a line of 81 bytes with a tab is refused for its length, with the time of the line before it
long_line_with_tab : entry_of verbs 4 7 (9 ∷ replicate 80 120) ≡ refused_at 7 1 ∷ []
unfolding entry_of
long_line_with_tab = refl
