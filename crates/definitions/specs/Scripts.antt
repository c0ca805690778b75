-- Scripts: lines of commands, each with its time, and the eight refusals of a line, of which the
-- first that applies is answered. (This project's own.)
use Rattle.std.specs.Prelude.{ℕ, ◌+◌, ◌-◌, ◌^◌, ◌==◌, ◌&&◌, not, Bool, nat_lt, nat_le, int_le}
use Rattle.std.specs.Prelude.{if◌then◌else◌, ℤ, pos, neg_ℤ, List, [], ◌∷◌, ◌++◌, length, find}
use Rattle.std.specs.Prelude.{get_or, drop, slice_index, Option, Some, None, Result, Ok, Err, codes}
use Rattle.std.specs.Prelude.{bytes_eq, option_map}
use Rattle.std.specs.List.{list_all}
use Rattle.std.specs.Char.{is_ascii_digit}
use Rattle.std.specs.Str.Parse.{digits_value}
use Rattle.definitions.specs.Sums.{natural}
use Rattle.definitions.specs.Lines.{lines_of, words_of}
use Rattle.definitions.specs.Acquisition.{Plan}
use Rattle.definitions.specs.Commands.{Request, Command, hold, track, acquire, begin, counts, state}
use Rattle.definitions.specs.Commands.{stop}

-- a word of 1 to 13 digits
abbrev pub is_number : List ℕ → Bool
is_number word = nat_le 1 (length word) && nat_le (length word) 13 && list_all is_ascii_digit word

abbrev pub number_in : List ℕ → Option ℕ
number_in word = if is_number word then Some (digits_value 10 word) else None

-- the number, with or without a leading `-`
abbrev pub signed_number_in : List ℕ → Option ℤ
signed_number_in word =
    if slice_index word 0 == 45 then option_map (λ (n : ℕ). neg_ℤ (pos n)) (number_in (drop 1 word))
    else option_map pos (number_in word)

pub record Range : Type 0 where
  pub low : ℤ
  pub high : ℤ

abbrev pub up_to : ℕ → ℕ → Range
up_to low high = record { low = pos low; high = pos high }

abbrev pub around_zero : ℕ → Range
around_zero size = record { low = neg_ℤ (pos size); high = pos size }

-- the satellite, the Doppler shift in Hz and the half chip with which a slot begins to follow
abbrev pub satellites : Range
satellites = up_to 1 32

abbrev pub doppler_shifts : Range
doppler_shifts = around_zero 16000

abbrev pub half_chips : Range
half_chips = up_to 0 2045

abbrev pub start_ranges : List Range
start_ranges = satellites ∷ doppler_shifts ∷ half_chips ∷ []

-- a plan: the satellite, the centre in Hz, the bins to each side, the periods of the dwell and the
-- threshold in tenths
abbrev pub centres : Range
centres = around_zero 6000

abbrev pub side_bins : Range
side_bins = up_to 0 40

abbrev pub dwells : Range
dwells = up_to 1 10

abbrev pub thresholds : Range
thresholds = up_to 1 1000

abbrev pub plan_ranges : List Range
plan_ranges = satellites ∷ centres ∷ side_bins ∷ dwells ∷ thresholds ∷ []

-- how many dumps are to be shown
abbrev pub dump_counts : Range
dump_counts = up_to 0 1000000

-- a verb: its name, the ranges of its words, and what they mean
pub record Verb : Type 0 where
  pub name : List ℕ
  pub ranges : List Range
  pub meaning : List ℤ → Request

abbrev pub number : List ℤ → ℕ → ℕ
number values i = natural (get_or values i (pos 0))

abbrev pub integer : List ℤ → ℕ → ℤ
integer values i = get_or values i (pos 0)

-- the values of the words after the slot
abbrev pub plan_of : List ℤ → Plan
plan_of values = record {
  prn = number values 0;
  centre = integer values 1;
  bins =
      number values 2;
  dwell = number values 3;
  threshold = number values 4;
}

abbrev pub hold_verb : Verb
hold_verb = record {
  name = codes "hold";
  ranges = start_ranges;
  meaning = λ v. begin (hold (number v 0) (integer v 1) (number v 2));
}

abbrev pub track_verb : Verb
track_verb = record {
  name = codes "track";
  ranges = start_ranges;
  meaning = λ v. begin (track (number v 0) (integer v 1) (number v 2));
}

abbrev pub acquire_verb : Verb
acquire_verb = record {
  name = codes "acquire";
  ranges = plan_ranges;
  meaning = λ v. begin (acquire (plan_of v));
}

abbrev pub counts_verb : Verb
counts_verb = record {
  name = codes "counts";
  ranges = dump_counts ∷ [];
  meaning =
      λ v. counts (number v 0);
}

abbrev pub state_verb : Verb
state_verb = record { name = codes "state"; ranges = []; meaning = λ v. state }

abbrev pub stop_verb : Verb
stop_verb = record { name = codes "stop"; ranges = []; meaning = λ v. stop }

-- all six verbs
abbrev pub verbs : List Verb
verbs = hold_verb ∷ track_verb ∷ acquire_verb ∷ counts_verb ∷ state_verb ∷ stop_verb ∷ []

-- a value after the others, or the refusal that came first
abbrev pub with_value : ℤ → Result (List ℤ) ℕ → Result (List ℤ) ℕ
with_value value (Ok values) = Ok (value ∷ values)
with_value value (Err refusal) = Err refusal

-- refusal 7 for a word that is no number, 8 for one out of range, decided word by word from the
-- left
abbrev pub value_in : Range → Option ℤ → Result (List ℤ) ℕ → Result (List ℤ) ℕ
value_in range None others = Err 7
value_in range (Some value) others =
    if int_le range.low value && int_le value range.high then with_value value others else Err 8

unfoldable pub values_in : List Range → List (List ℕ) → Result (List ℤ) ℕ
values_in [] words = Ok []
values_in (range ∷ ranges) [] = Ok []
values_in (range ∷ ranges) (word ∷ words) =
    value_in range (signed_number_in word) (values_in ranges words)

abbrev pub meant : Verb → Result (List ℤ) ℕ → Result Command ℕ
meant verb (Ok []) = Err 6
meant verb (Ok (slot ∷ values)) = Ok (record { slot = natural slot; request = verb.meaning values })
meant verb (Err refusal) = Err refusal

-- refusal 5 for no known verb, 6 for another number of words; the first word after a verb is the
-- slot
abbrev pub command_with : ℕ → Option Verb → List (List ℕ) → Result Command ℕ
command_with slots None words = Err 5
command_with slots (Some verb) words =
    if length words == length verb.ranges + 1
    then meant verb (values_in (up_to 0 (slots - 1) ∷ verb.ranges) words) else Err 6

abbrev pub command_in : List Verb → ℕ → List (List ℕ) → Result Command ℕ
command_in known slots [] = Err 5
command_in known slots (name ∷ words) =
    command_with slots (find (λ (v : Verb). bytes_eq v.name name) known) words

-- what a line asks, and when: a command, or a refusal 1 to 8
pub record Entry : Type 0 where
  pub time : ℕ
  pub what : Result Command ℕ

abbrev pub entry_at : List Verb → ℕ → ℕ → Option ℕ → List (List ℕ) → Entry
entry_at known slots before None words = record { time = before; what = Err 3 }
entry_at known slots before (Some time) words =
    if nat_lt time before then record { time = before; what = Err 4 }
    else record { time = time; what = command_in known slots words }

abbrev pub time_in : List ℕ → Option ℕ
time_in word = elim (number_in word) [
  | Some t ↦ (if nat_le t (2 ^ 40) then Some t
      else None)
  | None ↦ None
]

abbrev pub entry_of_words : List Verb → ℕ → ℕ → List (List ℕ) → List Entry
entry_of_words known slots before [] = []
entry_of_words known slots before (word ∷ words) =
    entry_at known slots before (time_in word) words ∷ []

abbrev pub is_printable : ℕ → Bool
is_printable b = nat_le 0x20 b && nat_le b 0x7e

-- the entry of a line that follows one of time before; a line without words has none. A line that
-- is refused by 1 to 4 has the time of the line before it
unfoldable pub entry_of : List Verb → ℕ → ℕ → List ℕ → List Entry
entry_of known slots before line =
    if nat_lt 80 (length line) then record { time = before; what = Err 1 } ∷ []
    else if not (list_all is_printable line) then record { time = before; what = Err 2 } ∷ []
    else entry_of_words known slots before (words_of line)

abbrev pub last_time : ℕ → List Entry → ℕ
last_time before [] = before
last_time before (e ∷ es) = e.time

-- the entries of lines, the first of which follows one of time before
unfoldable pub entries_after : List Verb → ℕ → ℕ → List (List ℕ) → List Entry
entries_after known slots before [] = []
entries_after known slots before (line ∷ lines) =
    let here = entry_of known slots before line in here
    ++ entries_after known slots (last_time before here) lines

-- the entries of a script, where these verbs are known and the client has slots 0 to slots - 1
unfoldable pub script : List Verb → ℕ → List ℕ → List Entry
script known slots text = entries_after known slots 0 (lines_of text)
