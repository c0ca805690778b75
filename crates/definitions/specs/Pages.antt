-- The kinds of pages, by subframe ID and SV ID, and the page that a complete subframe holds
-- (IS-GPS-200, sections 20.3.3.3 to 20.3.3.5).
use Rattle.std.specs.Prelude.{ℕ, ◌==◌, ◌&&◌, ◌||◌, Bool, nat_le, if◌then◌else◌, ℤ, List, map}
use Rattle.std.specs.Prelude.{Option, Some}
use Rattle.std.specs.Prelude.{None, option_map}
use Rattle.std.specs.Int.Digits.{number_from_digits}
use Rattle.std.specs.List.{range_with_len}
use Rattle.definitions.specs.Frames.{Subframe, id_of, is_complete}
use Rattle.definitions.specs.Fields.{Field, clock_fields, eph2_fields, eph3_fields, almanac_fields}
use Rattle.definitions.specs.Fields.{utc_fields, health_fields, message_fields, bit_at_place}
use Rattle.definitions.specs.Fields.{value_of}

pub data Kind : Type 0 where
  clock : Kind
  eph2 : Kind
  eph3 : Kind
  almanac : Kind
  utc : Kind
  health : Kind
  message : Kind

abbrev pub fields_of : Kind → List Field
fields_of clock = clock_fields
fields_of eph2 = eph2_fields
fields_of eph3 = eph3_fields
fields_of almanac = almanac_fields
fields_of utc = utc_fields
fields_of health = health_fields
fields_of message = message_fields

-- an almanac stands in subframe 4 or 5, under the SV ID of its satellite
abbrev pub is_almanac_page : ℕ → ℕ → Bool
is_almanac_page id sv = ((id == 4) || (id == 5)) && nat_le 1 sv && nat_le sv 32

-- the kind of a page of subframe 4 or 5, by the SV ID: section 20.3.3.5.1.1, table 20-V
abbrev pub kind_of_page : ℕ → ℕ → Option Kind
kind_of_page id sv = if is_almanac_page id sv then Some almanac
    else if (id == 4) && (sv == 55) then Some message
    else if (id == 4) && (sv == 56) then Some utc
    else if (id == 5) && (sv == 51) then Some health
    else None

abbrev pub sv_id : Subframe → ℕ
sv_id s = number_from_digits 2 (map (bit_at_place s) (range_with_len 63 6))

abbrev pub kind_of : Subframe → Option Kind
kind_of s = let id = id_of s in
    if id == 1 then Some clock
    else if id == 2 then Some eph2
    else if id == 3 then Some eph3
    else kind_of_page id (sv_id s)

pub record Page : Type 0 where
  pub kind : Kind
  pub values : List ℤ

-- the page of a subframe none of whose words is missing, if it is of a known kind
unfoldable pub page_of : Subframe → Option Page
page_of s = if is_complete s
    then option_map (λ k. record { kind = k; values = map (value_of s) (fields_of k) }) (kind_of s)
    else None
