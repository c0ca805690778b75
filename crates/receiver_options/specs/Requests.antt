-- What the options of a command line ask for.
use Rattle.std.specs.Prelude.{◌≤◌, ◌*◌, ◌^◌, ℕ, pos, neg_ℤ, Bool, true, false}
use Rattle.std.specs.Prelude.{if◌then◌else◌, List, [], ◌∷◌, length, map, Option, Some, None}
use Rattle.std.specs.Prelude.{unwrap_or, option_and_then, codes, nat_lt, nat_le, ◌&&◌, ◌==◌, ◌-◌}
use Rattle.std.specs.Prelude.{replicate}
use Rattle.std.specs.List.{list_all}
use Rattle.std.specs.Str.{bytes_eq}
use Rattle.std.specs.Str.Parse.{digits_value, without_leading_plus}
use Rattle.std.specs.Char.{digit_value}
use Rattle.clap.specs.Walk.{Row, all_of, first_of, one_of}
use Rattle.definitions.specs.Oscillators.{Settings as DefinedSettings}
use Rattle.definitions.specs.Samples.{Packing}
use Rattle.sample_planes.specs.Names.{named_format}
use Rattle.sample_planes.specs.Packings.{packing_of}
use Rattle.sample_planes.specs.declared.format.Format.TheVariants.{Real1}
use Rattle.oscillators.specs.Limits.{IsRate}

-- digits alone, in decimal
abbrev pub all_digits : List ℕ → Bool
all_digits [] = true
all_digits (c ∷ cs) = nat_lt (digit_value c) 10 && all_digits cs

-- a whole number below 2^32, in digits; a plus may stand first
abbrev pub is_number : List ℕ → Bool
is_number text =
    let digits = without_leading_plus text in
    nat_lt 0 (length digits) && all_digits digits && nat_lt (digits_value 10 digits) (2 ^ 32)

-- the number of an option's text, or a default where it has none
abbrev pub number_in : Option (List ℕ) → ℕ → ℕ
number_in None default = default
number_in (Some text) default =
    if is_number text then digits_value 10 (without_leading_plus text) else default

-- a flag is set
abbrev pub flag_in : Option (List ℕ) → Bool
flag_in None = false
flag_in (Some text) = bytes_eq text (codes "true")

-- the packing of an option's text, or `real1` where it names none
abbrev pub format_in : Option (List ℕ) → Packing
format_in text = packing_of (unwrap_or (option_and_then named_format text) Real1)

-- what the options of a command line say of the recording and of the slots
pub record Asked : Type 0 where
  pub rate : ℕ
  pub offset : ℕ
  pub is_minus : Bool
  pub packing : Packing
  pub shares : Option (List ℕ)

abbrev pub asked_in : List Row → Asked
asked_in options = record {
  rate = number_in (one_of (codes "rate") options) 2046000;
  offset = number_in (one_of (codes "offset") options) 0;
  is_minus = flag_in (one_of (codes "minus") options);
  packing = format_in (first_of (codes "format") options);
  shares = first_of (codes "shares") options;
}

-- the recording that they describe
abbrev pub recording_of : Asked → DefinedSettings
recording_of asked = record {
  rate = asked.rate;
  offset = if asked.is_minus then neg_ℤ (pos asked.offset) else pos asked.offset;
  packing = asked.packing;
}

-- a digit from 1 to 8
abbrev pub is_share_digit : ℕ → Bool
is_share_digit c = nat_le 0x31 c && nat_le c 0x38

-- the shares of some clients that a text asks for, a digit for each: none where there are more or
-- fewer digits, or another character; without a text each client has four slots
abbrev pub shares_by : ℕ → Option (List ℕ) → Option (List ℕ)
shares_by clients None = Some (replicate clients 4)
shares_by clients (Some text) =
    if length text == clients && list_all is_share_digit text
    then Some (map (λ c. c - 0x30) text) else None

abbrev pub IsAllowed : Asked → Type 0
IsAllowed asked = IsRate asked.rate × (2 * asked.offset ≤ asked.rate)

-- the script files that a command line names, in its order
abbrev pub paths_in : List Row → List (List ℕ)
paths_in options = unwrap_or (all_of (codes "script") options) []
