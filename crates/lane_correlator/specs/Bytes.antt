-- Sums in lanes of bytes. A byte stands for a number from -128 to 127, modulo 256.
use Rattle.std.specs.Prelude.{◌≡◌, ◌⊎◌, ℕ, ◌+◌, ◌-◌, ◌*◌, ◌/◌, ◌%◌, ◌<◌, ◌≤◌, List, length}
use Rattle.std.specs.Prelude.{slice_index}
use Rattle.std.specs.Prelude.{ℤ, pos, ◌-ℤ◌, ◌*ℤ◌, unsigned_abs, get_or}
use Rattle.definitions.specs.Samples.{sign_of}
use Rattle.definitions.specs.Sums.{total}
use Rattle.definitions.specs.Oscillators.{cosines, sines}
use Rattle.bit_planes.specs.ByteLanes.{place_in}

-- the number that a byte stands for
abbrev pub signed_byte : ℕ → ℤ
signed_byte b = pos ((b + 128) % 256) -ℤ pos 128

-- the sign that a mask stands for: 255 for -1, and 0 for +1
abbrev pub mask_sign : ℕ → ℤ
mask_sign mask = sign_of (mask / 255)

-- the carrier in an eighth of a cycle, by its number modulo 8
abbrev pub cosine_in : ℕ → ℤ
cosine_in eighth = get_or cosines (eighth % 8) (pos 0)

abbrev pub sine_in : ℕ → ℤ
sine_in eighth = get_or sines (eighth % 8) (pos 0)

-- the carrier times the size of a sample, 1 or 3, by an eighth's number and 8 more for a size of 3
abbrev pub cosine_times : ℕ → ℤ
cosine_times at = pos (1 + 2 * (at / 8)) *ℤ cosine_in at

abbrev pub sine_times : ℕ → ℤ
sine_times at = pos (1 + 2 * (at / 8)) *ℤ sine_in at

abbrev pub minus_sine_times : ℕ → ℤ
minus_sine_times at = pos 0 -ℤ sine_times at

-- 64 lanes below 16
pub record AreNibbles (lanes : List ℕ) : Type 0 where
  pub long : length lanes ≡ 64
  pub few : (k : ℕ) → k < 64 → slice_index lanes k < 16

-- a table has sixteen values of a function, each 6 at most in size, once for each sixteen lanes
pub record IsTableOf (f : ℕ → ℤ) (table : List ℕ) : Type 0 where
  pub entries : (p : ℕ) → p < 64 → signed_byte (slice_index table p) ≡ f (p % 16)
  pub small : (n : ℕ) → n < 16 → unsigned_abs (f n) ≤ 6

-- the values that the numbers of lanes name
pub record AreFound (f : ℕ → ℤ) (at lanes : List ℕ) : Type 0 where
  pub values : (k : ℕ) → k < 64 → signed_byte (slice_index lanes k) ≡ f (slice_index at k)
  pub small : (k : ℕ) → k < 64 → unsigned_abs (signed_byte (slice_index lanes k)) ≤ 6

-- the numbers at the places from first to end - 1 of lanes, and 0 at the others
pub record IsWithin (first end : ℕ) (all lanes : List ℕ) : Type 0 where
  pub inside : (j : ℕ) → first ≤ j → j < end
      → signed_byte (place_in lanes j) ≡ signed_byte (place_in all j)
  pub before : (j : ℕ) → j < first → j < 64 → signed_byte (place_in lanes j) ≡ pos 0
  pub behind : (j : ℕ) → end ≤ j → j < 64 → signed_byte (place_in lanes j) ≡ pos 0

-- each lane is n at most in size
abbrev pub AreAtMost : ℕ → List ℕ → Type 0
AreAtMost n lanes = (j : ℕ) → j < 64 → unsigned_abs (signed_byte (place_in lanes j)) ≤ n

-- each lane is a mask
abbrev pub AreMasks : List ℕ → Type 0
AreMasks lanes = (j : ℕ) → j < 64 → (place_in lanes j ≡ 0) ⊎ (place_in lanes j ≡ 255)

-- the sum of products with the signs of masks, over the places of a word
unfoldable pub signed_total : List ℕ → List ℕ → ℤ
signed_total lanes masks =
    total (λ j. signed_byte (place_in lanes j) *ℤ mask_sign (place_in masks j)) 64

-- a lane of a sum with signs: what all products make of it, less twice those whose sign is -1
abbrev pub lane_of : List ℕ → List ℕ → ℕ → ℤ
lane_of all turned k =
    signed_byte (slice_index all k + 2 * (256 - slice_index turned k))

unfoldable pub sum_of_lanes : List ℕ → List ℕ → ℤ
sum_of_lanes all turned = total (lane_of all turned) 32
