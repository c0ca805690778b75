-- Which ten words are a subframe (IS-GPS-200, section 20.3.2).
use Rattle.std.specs.Prelude.{◌≡◌, ℕ, ◌^◌, ◌<◌, Bool, false, ◌&&◌, nat_le, IsTrue, List, length}
use Rattle.std.specs.Prelude.{get_or, Option, Some, None, IfSome, All}
use Rattle.definitions.specs.Frames.{has_preamble, id_in}

-- the data of a word, if they are there, are 24 bits
abbrev pub IsWord : Option ℕ → Type 0
IsWord word = IfSome word (λ found. found < 2 ^ 24)

-- a telemetry word with the preamble, and a handover word with an ID of 1 to 5
abbrev pub has_header : Option ℕ → Option ℕ → Bool
has_header (Some telemetry) (Some handover) =
    has_preamble telemetry && nat_le 1 (id_in handover) && nat_le (id_in handover) 5
has_header (Some telemetry) None = false
has_header None handover = false

pub record IsSubframe (words : List (Option ℕ)) : Type 0 where
  pub are_ten : length words ≡ 10
  pub are_words : All IsWord words
  pub are_headed : IsTrue (has_header (get_or words 0 None) (get_or words 1 None))
