-- What the options of a command line ask for.
use Rattle.std.specs.Prelude.{◌≡◌, ◌⊎◌, ℕ, ◌+◌, ◌-◌, ◌*◌, ◌/◌, ◌%◌, ◌^◌, ◌==◌, ◌&&◌, ◌||◌, not}
use Rattle.std.specs.Prelude.{nat_lt, nat_le}
use Rattle.std.specs.Prelude.{ℤ, pos, neg_ℤ, int_lt, unsigned_abs, Bool, true, false, List, [], ◌∷◌}
use Rattle.std.specs.Prelude.{if◌then◌else◌, length, take, drop, Option, Some, None, option_map}
use Rattle.std.specs.Prelude.{option_and_then, unwrap_or, is_some, codes, is_nan, to_bits}
use Rattle.std.specs.List.{list_all}
use Rattle.std.specs.Str.{bytes_eq}
use Rattle.std.specs.Str.Parse.{digits_value, without_leading_plus}
use Rattle.std.specs.Char.{digit_value}
use Rattle.std.specs.Float.Parse.{parse_float}
use Rattle.std.specs.Float.{Float, binary32}
use Rattle.clap.specs.declared.parser.matches.Found.{Found}
use Rattle.clap.specs.Matches.{first_value, one_text}
use Rattle.sample_planes.specs.Names.{named_format}
use Rattle.sample_planes.specs.Packings.{packing_of, has_sizes}
use Rattle.sample_planes.specs.declared.format.Format.{Format}
use Rattle.sample_planes.specs.declared.format.Format.TheVariants.{Real1, Iq1}
use Rattle.recordings.specs.Recordings.{sample_bits}
use Rattle.recordings.specs.Choices.{Makes, LacksPairs, LacksSizes, AsksPart}
use Rattle.recordings.specs.declared.choice.Choice.{Choice}
use Rattle.recordings.specs.declared.value_kind.ValueKind.{ValueKind}
use Rattle.recordings.specs.declared.value_kind.ValueKind.TheVariants.{U8, I8, I16, I16Be, F32}
use Rattle.recordings.specs.declared.value_kind.ValueKind.TheVariants.{Bits2Low, SignSizeLow}
use Rattle.recordings.specs.declared.value_kind.ValueKind.TheVariants.{Bits1Low, Bits1High}
use Rattle.recordings.specs.declared.recipe.Recipe.{Recipe}
use Rattle.packer.specs.declared.halves.TheConstants.{MOST_WHOLE}

-- ---- numbers

-- digits alone, in decimal
abbrev pub all_digits : List ℕ → Bool
all_digits [] = true
all_digits (c ∷ cs) = nat_lt (digit_value c) 10 && all_digits cs

-- a whole number below a limit, in digits; a plus may stand first
abbrev pub is_number : ℕ → List ℕ → Bool
is_number limit text =
    let digits = without_leading_plus text in
    nat_lt 0 (length digits) && all_digits digits && nat_lt (digits_value 10 digits) limit

-- the number of a text, where it is one
abbrev pub number_below : ℕ → List ℕ → Option ℕ
number_below limit text =
    if is_number limit text then Some (digits_value 10 (without_leading_plus text)) else None

-- a text ends with `.5`, or begins with `-`
abbrev pub has_half : List ℕ → Bool
has_half text = bytes_eq (drop (length text - 2) text) (codes ".5")

abbrev pub has_minus : List ℕ → Bool
has_minus text = bytes_eq (take 1 text) (codes "-")

-- twice a number without a sign, at most `MOST_WHOLE` and a half
unfoldable pub twice_in : List ℕ → Option ℕ
twice_in text =
    if has_half text then
    option_map (λ n. 2 * n + 1) (number_below (MOST_WHOLE + 1) (take (length text - 2) text))
    else option_map (λ n. 2 * n) (number_below (MOST_WHOLE + 1) text)

-- twice a number that may be below zero
unfoldable pub halves_in : List ℕ → Option ℤ
halves_in text =
    if has_minus text then option_map (λ n. neg_ℤ (pos n)) (twice_in (drop 1 text))
    else option_map (λ n. pos n) (twice_in text)

-- the bits of a float that is at least 0 and finite; -0 is 0
abbrev pub finite_bits : Float → Option ℕ
finite_bits x =
    if is_nan x then None
    else if to_bits binary32 x == 2 ^ 31 then Some 0
    else if nat_lt (to_bits binary32 x) 0x7f800000 then Some (to_bits binary32 x) else None

unfoldable pub decimal_in : List ℕ → Option ℕ
decimal_in text = option_and_then finite_bits (parse_float binary32 text)

-- any byte but the digits 1 to 9
abbrev pub has_no_size : ℕ → Bool
has_no_size c = not (nat_le 49 c && nat_le c 57)

-- A minus stands before another digit than 0. The float nearest to such a number may be -0.
abbrev pub is_below_zero : List ℕ → Bool
is_below_zero text = has_minus text && not (list_all has_no_size text)

-- the bits of the float of a threshold, which isn't below 0
abbrev pub float_in : List ℕ → Option ℕ
float_in text = if is_below_zero text then None else decimal_in text

-- ---- the choice

-- a flag is set
abbrev pub flag_in : Option (List ℕ) → Bool
flag_in None = false
flag_in (Some text) = bytes_eq text (codes "true")

-- a kind by its name; any other is that of unsigned bytes
abbrev pub named_kind : List ℕ → ValueKind
named_kind name =
    if bytes_eq name (codes "i8") then I8
    else if bytes_eq name (codes "i16") then I16
    else if bytes_eq name (codes "i16be") then I16Be
    else if bytes_eq name (codes "f32") then F32
    else if bytes_eq name (codes "bits2-low") then Bits2Low
    else if bytes_eq name (codes "bits2-sm-low") then SignSizeLow
    else if bytes_eq name (codes "bits1-low") then Bits1Low
    else if bytes_eq name (codes "bits1-high") then Bits1High else U8

-- the values are pairs where their name begins with `iq-`
abbrev pub is_pairs_name : List ℕ → Bool
is_pairs_name name = bytes_eq (take 3 name) (codes "iq-")

unfoldable pub kind_in : List ℕ → ValueKind
kind_in name = if is_pairs_name name then named_kind (drop 3 name) else named_kind name

abbrev pub from_in : Found → List ℕ
from_in found = unwrap_or (first_value found (codes "from")) (codes "u8")

abbrev pub is_measured_in : Found → Bool
is_measured_in found = flag_in (one_text found (codes "measure"))

-- an option is there that says how to pack
abbrev pub says_how_to_pack : Found → Bool
says_how_to_pack found =
    is_some (first_value found (codes "to"))
    || (is_some (first_value found (codes "threshold"))
    || (is_some (first_value found (codes "centre"))
    || (is_some (first_value found (codes "centre-q"))
    || flag_in (one_text found (codes "conjugate")))))

-- the packing to write, or signs alone of what is measured, which is not written
abbrev pub format_in : Found → Bool → Option Format
format_in found is_paired =
    if is_measured_in found then
    (if says_how_to_pack found then None else Some (if is_paired then Iq1 else Real1))
    else option_and_then named_format (first_value found (codes "to"))

-- the middle of unsigned bytes is 127.5
abbrev pub usual_centre : ValueKind → ℤ
usual_centre U8 = pos 255
usual_centre _ = pos 0

-- twice the number of an option, or a default
abbrev pub halves_or : ℤ → Option (List ℕ) → Option ℤ
halves_or default None = Some default
halves_or default (Some text) = halves_in text

abbrev pub at_least_zero : ℤ → Option ℕ
at_least_zero z = if int_lt z (pos 0) then None else Some (unsigned_abs z)

-- twice the threshold, or of floats its bits; a packing of one bit needs none
abbrev pub threshold_in : ValueKind → Format → Option (List ℕ) → Option ℕ
threshold_in kind format None = if has_sizes (packing_of format) then None else Some 0
threshold_in F32 format (Some text) = float_in text
threshold_in _ format (Some text) = option_and_then at_least_zero (halves_in text)

abbrev pub is_second : Option (List ℕ) → Bool
is_second None = false
is_second (Some part) = bytes_eq part (codes "q")

-- twice the centres of both parts; floats have the centre 0
pub record HasCentres (found : Found) (kind : ValueKind) (i q : ℤ) : Type 0 where
  pub in_phase : halves_or (usual_centre kind) (first_value found (codes "centre")) ≡ Some i
  pub quadrature : halves_or i (first_value found (codes "centre-q")) ≡ Some q
  pub about_zero : kind ≡ F32 → (i ≡ pos 0) × (q ≡ pos 0)

-- the options ask for a choice
pub record Asks (found : Found) (choice : Choice) : Type 0 where
  pub kind : choice.kind ≡ kind_in (from_in found)
  pub is_paired : choice.is_paired ≡ is_pairs_name (from_in found)
  pub format : format_in found choice.is_paired ≡ Some choice.format
  pub centres : HasCentres found choice.kind choice.centre choice.centre_q
  pub threshold : threshold_in choice.kind choice.format (first_value found (codes "threshold"))
      ≡ Some choice.threshold
  pub is_swapped : choice.is_swapped ≡ flag_in (one_text found (codes "swap"))
  pub is_conjugate : choice.is_conjugate ≡ flag_in (one_text found (codes "conjugate"))
  pub takes_quadrature : choice.takes_quadrature ≡ is_second (first_value found (codes "part"))

-- a recipe makes what they ask for
pub record IsAsked (found : Found) (recipe : Recipe) : Type 0 where
  pub choice : Choice
  pub asks : Asks found choice
  pub makes : Makes choice recipe

-- what they ask for can't be had
abbrev pub CannotBeHad : Found → Type 0
CannotBeHad found = ((choice : Choice) → Asks found choice → ⊥)
    ⊎ ((choice : Choice) × Asks found choice
    × (LacksPairs choice ⊎ (LacksSizes choice ⊎ AsksPart choice)))

-- ---- the stretch

-- the bytes of a number of samples, which is at most 2^40 and one of whole bytes
unfoldable pub bytes_in : Recipe → Option (List ℕ) → Option ℕ
bytes_in recipe text =
    let n = unwrap_or (option_and_then (number_below (2 ^ 64)) text) 0 in
    if nat_le n (2 ^ 40) && (n * sample_bits recipe % 8 == 0) then
    Some (n * sample_bits recipe / 8)
    else None

-- the bytes to leave out, and how many to take at most
pub record IsStretch (found : Found) (recipe : Recipe) (skip most : ℕ) : Type 0 where
  pub skip_is : bytes_in recipe (one_text found (codes "skip")) ≡ Some skip
  pub most_is : bytes_in recipe (one_text found (codes "count")) ≡ Some most

abbrev pub HasNoStretch : Found → Recipe → Type 0
HasNoStretch found recipe = (bytes_in recipe (one_text found (codes "skip")) ≡ None)
    ⊎ (bytes_in recipe (one_text found (codes "count")) ≡ None)
