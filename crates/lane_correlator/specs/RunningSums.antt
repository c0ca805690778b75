-- Sums of the bytes at places of a word that follow one another.
use Rattle.std.specs.Prelude.{◌≡◌, ℕ, zero, suc, ◌+◌, ◌-◌, ◌*◌, ◌/◌, ◌%◌, ◌<◌, ◌≤◌, ℤ}
use Rattle.std.specs.Prelude.{unsigned_abs, List, slice_index, cond, leb, min}
use Rattle.bit_planes.specs.ByteLanes.{place_in}
use Rattle.lane_correlator.specs.Bytes.{signed_byte}

-- the bytes at n places from one on, added up
unfoldable pub byte_sum : List ℕ → ℕ → ℕ → ℕ
byte_sum bytes from zero = 0
byte_sum bytes from (suc n) = byte_sum bytes from n + place_in bytes (from + n)

-- each lane's number is that of the lane n further on in its sixteen, round and round
abbrev pub AreNumbersOn : ℕ → List ℕ → Type 0
AreNumbersOn n numbers = (k : ℕ) → k < 64 → slice_index numbers k ≡ (k % 16 + n) % 16

-- 255 in the lanes whose sixteen have a lane n further on, and 0 in the others
abbrev pub AreMasksOn : ℕ → List ℕ → Type 0
AreMasksOn n masks = (k : ℕ) → k < 64 → slice_index masks k ≡ cond (leb (k % 16 + n) 15) 255 0

-- of the last n places up to place j those in the same sixteen as j
abbrev pub last : ℕ → ℕ → ℕ
last n j = min n (j % 16 + 1)

-- each place has the sum over these last n places, modulo 256
abbrev pub AreLastSums : ℕ → List ℕ → List ℕ → Type 0
AreLastSums n bytes sums = (j : ℕ) → j < 64
    → place_in sums j ≡ byte_sum bytes (j + 1 - last n j) (last n j) % 256

-- each place has the sum over its sixteen
abbrev pub AreWholeSums : List ℕ → List ℕ → Type 0
AreWholeSums bytes sums = (j : ℕ) → j < 64
    → place_in sums j ≡ byte_sum bytes (16 * (j / 16)) 16 % 256

-- each place has the sum over n sixteens before its own, as far as there are so many
abbrev pub AreSumsBefore : ℕ → List ℕ → List ℕ → Type 0
AreSumsBefore n bytes sums = (j : ℕ) → j < 64
    → place_in sums j ≡ byte_sum bytes (16 * (j / 16 - n)) (16 * min n (j / 16)) % 256

-- place j has the sum over places 0 to j
abbrev pub AreRunningSums : List ℕ → List ℕ → Type 0
AreRunningSums bytes sums = (j : ℕ) → j < 64
    → place_in sums j ≡ byte_sum bytes 0 (j + 1) % 256

-- the sum modulo 256 over the first n products of a word, and a product's part: what the sum over
-- the products up to it is more than that over those before it
abbrev pub sum_to : List ℕ → ℕ → ℕ
sum_to sums n = slice_index sums (64 - n)

abbrev pub part_in : List ℕ → ℕ → ℤ
part_in sums j = signed_byte (sum_to sums (j + 1) + (256 - sum_to sums j))

-- no product's part is more than n in size
abbrev pub ArePartsAtMost : ℕ → List ℕ → Type 0
ArePartsAtMost n sums = (j : ℕ) → j < 64 → unsigned_abs (part_in sums j) ≤ n
