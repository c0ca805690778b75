-- What holds of all words (IS-GPS-200, section 20.3.5).
use Rattle.std.specs.Prelude.{◌≡◌, ℕ, ◌^◌, ◌<◌, ◌≤◌, true, false, Some, bit_xor, count_ones}
use Rattle.definitions.specs.Parity.{passes, data_of, checked_data}
use Rattle.nav_parity.specs.Words.{IsEncoded}

-- in how many bits two words differ
abbrev pub distance : ℕ → ℕ → ℕ
distance word other = count_ones (bit_xor word other)

-- a word that passes does not pass any more with one, two or three of its bits changed
abbrev pub DetectsThreeErrors : Type 0
DetectsThreeErrors =
    (word other prior : ℕ) → word < 2 ^ 30 → other < 2 ^ 30 → prior < 4 →
    passes word prior ≡ true → 0 < distance word other → distance word other ≤ 3
    → passes other prior ≡ false

-- the word, or the prior, with all its bits inverted
abbrev pub inverted_word : ℕ → ℕ
inverted_word word = bit_xor word 0x3fff_ffff

abbrev pub inverted_prior : ℕ → ℕ
inverted_prior prior = bit_xor prior 3

-- a word and its prior, both inverted, pass where they do upright, with the same data
pub record IsSameInverted (word prior : ℕ) : Type 0 where
  pub passes_alike : passes (inverted_word word) (inverted_prior prior) ≡ passes word prior
  pub has_same_data : data_of (inverted_word word) (inverted_prior prior) ≡ data_of word prior

abbrev pub IsHarmlessInverted : Type 0
IsHarmlessInverted = (word prior : ℕ) → word < 2 ^ 30 → prior < 4 → IsSameInverted word prior

-- with each prior, all data have the one word that checks to them
abbrev pub EachDataHaveAWord : Type 0
EachDataHaveAWord =
    (source prior : ℕ) → source < 2 ^ 24 → prior < 4 → (coded : ℕ) × IsEncoded coded source prior

-- a word that checks to some data is the one word for them
abbrev pub EachWordIsEncoded : Type 0
EachWordIsEncoded =
    (word prior found : ℕ) → word < 2 ^ 30 → prior < 4 → checked_data word prior ≡ Some found
    → (found < 2 ^ 24) × IsEncoded word found prior
