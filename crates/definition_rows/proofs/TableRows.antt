-- Worked examples of the tables: the carrier, the codes of all satellites, and the end of a
-- segment.
use Rattle.std.proofs.Common.{◌≡◌, [], ◌∷◌, refl}
use Rattle.std.specs.Prelude.{ℕ, ◌%◌, ◌/◌, pos, negsuc, map, Some, ◌*◌, ◌^◌}
use Rattle.std.specs.List.{range_with_len}
use Rattle.definitions.specs.Sums.{total, least_below}
use Rattle.definitions.specs.Samples.{real}
use Rattle.definitions.specs.Codes.{register_after, chip, chip_after}
use Rattle.definitions.specs.Oscillators.{cosine, sine}
use Rattle.definitions.specs.Correlation.{in_phase_sum}
use Rattle.std.specs.Int.Digits.{number_from_digits}
use Rattle.definitions.specs.Segments.{end_by, is_through}

-- cosines at the eight parts of a cycle
cosine_table : map (λ i. cosine (i * 2 ^ 29)) (range_with_len 0 8)
    ≡ pos 2 ∷ pos 1 ∷ negsuc 0 ∷ negsuc 1 ∷ negsuc 1 ∷ negsuc 0 ∷ pos 1 ∷ pos 2 ∷ []
cosine_table = refl

-- the first ten chips of each satellite, in octal as in table 3-Ia of IS-GPS-200
abbrev octal : ℕ → ℕ
octal n = number_from_digits 8 (n / 1000 ∷ n / 100 % 10 ∷ n / 10 % 10 ∷ n % 10 ∷ [])

first_chips : map (λ prn. number_from_digits 2 (map (chip prn) (range_with_len 0 10)))
    (range_with_len 1 32)
    ≡ map octal (1440 ∷ 1620 ∷ 1710 ∷ 1744 ∷ 1133 ∷ 1455 ∷ 1131 ∷ 1454 ∷ 1626 ∷ 1504 ∷ 1642 ∷ 1750
    ∷ 1764 ∷ 1772 ∷ 1775 ∷ 1776 ∷ 1156 ∷ 1467 ∷ 1633 ∷ 1715 ∷ 1746 ∷ 1763 ∷ 1063 ∷ 1706 ∷ 1743
    ∷ 1761 ∷ 1770 ∷ 1774 ∷ 1127 ∷ 1453 ∷ 1625 ∷ 1712 ∷ [])
unfolding chip chip_after register_after
first_chips = refl

-- chips 500 to 507 of satellites 1, 17 and 32, as a program has them that delays G2 by 5, 469 and
-- 862 chips, as in the column of delays of table 3-Ia, where the definition has two stages
middle_chips : map (λ prn. number_from_digits 2 (map (chip prn) (range_with_len 500 8)))
    (1 ∷ 17 ∷ 32 ∷ []) ≡ 0xc6 ∷ 0xe4 ∷ 0x93 ∷ []
unfolding chip chip_after register_after
middle_chips = refl

-- chips 1021 to 1032 of satellite 1, across the end of the code
window_of_one : map (chip 1) (range_with_len 1021 12)
    ≡ 0 ∷ 0 ∷ 1 ∷ 1 ∷ 0 ∷ 0 ∷ 1 ∷ 0 ∷ 0 ∷ 0 ∷ 0 ∷ 0 ∷ []
unfolding chip chip_after register_after
window_of_one = refl

-- four samples of a carrier that turns by a quarter with each: their sum is zero
quarter_turns : in_phase_sum (λ j. real (pos 1)) (λ j. cosine (j * 0x40000000 % 2 ^ 32))
    (λ j. sine (j * 0x40000000 % 2 ^ 32)) (λ j. pos 1) 0 4 ≡ pos 0
unfolding in_phase_sum total
quarter_turns = refl

-- where the first segment of a code period ends, at two samples a chip
period_of_two : end_by (record { start = 0; code = 0; carrier = 0 }) (2 ^ 31) 2100 ≡ Some 2046
unfolding end_by is_through least_below
period_of_two = refl
