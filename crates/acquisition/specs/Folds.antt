-- Sums grouped by keys, and the half chips of the code at which samples lie.
use Rattle.std.specs.Prelude.{◌≡◌, ◌<◌, ℕ, zero, suc, ◌+◌, ◌*◌, ◌/◌, ◌%◌, ◌^◌, ◌==◌, ℤ, pos}
use Rattle.std.specs.Prelude.{◌*ℤ◌, cond, List, get_or, unsigned_abs}
use Rattle.definitions.specs.Sums.{total}
use Rattle.definitions.specs.Samples.{Sample}
use Rattle.definitions.specs.Codes.{chip_sign}
use Rattle.definitions.specs.Oscillators.{carrier_phase_after, cosine, sine}
use Rattle.definitions.specs.Correlation.{wiped_in_phase, wiped_quadrature}
use Rattle.acquisition.specs.declared.half_chip_table.TheConstants.{HALF_CHIPS}

-- those of the first n values whose key is k, added up
unfoldable pub sum_at_key : (ℕ → ℤ) → (ℕ → ℕ) → ℕ → ℕ → ℤ
sum_at_key y key n k = total (λ i. cond (key i == k) (y i) (pos 0)) n

-- the half chip at which sample j lies, for a code that begins at phase 0
abbrev pub half_chip_at : ℕ → ℕ → ℕ
half_chip_at step j = j * step / 2 ^ 31 % HALF_CHIPS

-- sample j times the conjugate of the carrier, which begins at phase 0
abbrev pub in_phase_at : (ℕ → Sample) → ℕ → ℕ → ℤ
in_phase_at x carrier_step j = wiped_in_phase (x j)
    (cosine (carrier_phase_after 0 carrier_step j)) (sine (carrier_phase_after 0 carrier_step j))

abbrev pub quadrature_at : (ℕ → Sample) → ℕ → ℕ → ℤ
quadrature_at x carrier_step j = wiped_quadrature (x j)
    (cosine (carrier_phase_after 0 carrier_step j)) (sine (carrier_phase_after 0 carrier_step j))

-- a table is the fold of these values by half chip, n of them from offset `from` on
abbrev pub IsTable : (ℕ → ℤ) → ℕ → ℕ → ℕ → List ℤ → Type 0
IsTable y step from n table = (k : ℕ) → k < HALF_CHIPS → get_or table k (pos 0)
    ≡ sum_at_key (λ i. y (from + i)) (λ i. half_chip_at step (from + i)) n k

-- the sum of a table's first n entries, and that of their sizes
unfoldable pub total_to : List ℤ → ℕ → ℤ
total_to table n = total (λ k. get_or table k (pos 0)) n

unfoldable pub sizes_to : List ℤ → ℕ → ℕ
sizes_to table zero = 0
sizes_to table (suc n) = sizes_to table n + unsigned_abs (get_or table n (pos 0))

-- the sum of a table's first entries, each times the sign of the chip there, for a code that begins
-- at a half chip
unfoldable pub correlation_to : ℕ → ℕ → List ℤ → ℕ → ℤ
correlation_to prn half table n = total
    (λ k. get_or table k (pos 0) *ℤ chip_sign prn ((half + k) / 2)) n

abbrev pub correlation : ℕ → ℕ → List ℤ → ℤ
correlation prn half table = correlation_to prn half table HALF_CHIPS
