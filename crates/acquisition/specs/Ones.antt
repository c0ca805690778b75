-- The chips of a code that are 1.
use Rattle.std.specs.Prelude.{◌≡◌, ◌<◌, ◌≤◌, ◌+◌, ◌-◌, ◌*◌, ◌%◌, ℕ, ℤ, pos, ◌+ℤ◌, ◌==◌, cond}
use Rattle.std.specs.Prelude.{List, length, slice_index}
use Rattle.definitions.specs.Sums.{total}
use Rattle.definitions.specs.Codes.{chip}
use Rattle.acquisition.specs.declared.half_chip_table.TheConstants.{HALF_CHIPS, LAST}

-- the place of a chip in a ring, for a code that begins at half chip 0, and that of the next chip,
-- which lies two places before it
abbrev pub first_place : ℕ → ℕ
first_place chip = LAST - 2 * chip

abbrev pub next_place : ℕ → ℕ
next_place place = (place + (HALF_CHIPS - 2)) % HALF_CHIPS

-- how many chips two lists of places have, where the second one has each with the next chip
abbrev pub count_of : List ℕ → List ℕ → ℕ
count_of alone twos = length alone + 2 * length twos

-- such lists are the ones among a code's first n chips: what belongs to their places adds up to the
-- same by the lists and by the code
pub record AreOnes (prn n : ℕ) (alone twos : List ℕ) : Type 0 where
  pub few : count_of alone twos ≤ n
  pub alone_below : (k : ℕ) → k < length alone → slice_index alone k < HALF_CHIPS
  pub twos_below : (k : ℕ) → k < length twos → slice_index twos k < HALF_CHIPS
  pub sums : (y : ℕ → ℤ) → total (λ k. y (slice_index alone k)) (length alone)
      +ℤ total (λ k. y (slice_index twos k) +ℤ y (next_place (slice_index twos k))) (length twos)
      ≡ total (λ c. cond (chip prn c == 1) (y (first_place c)) (pos 0)) n
