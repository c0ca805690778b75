-- Where the bits of a history's samples stand.
use Rattle.std.proofs.Common.{◌≡◌, ℕ, ◌+◌, ◌-◌, ◌*◌, ◌/◌, ◌%◌, ◌<◌, ◌≤◌, arith}
use Rattle.std.specs.Prelude.{min}
use Rattle.definitions.specs.Samples.{Packing, real1, real2, iq1, iq2, samples_per_byte}
use Rattle.sample_planes.specs.Packings.{width_of}

-- the number of the first sample of r whole bytes, the last of those that `taken` samples fill
abbrev pub first_in : Packing → ℕ → ℕ → ℕ
first_in packing taken r =
    samples_per_byte packing * (taken / samples_per_byte packing - r)

-- the bits of the byte that isn't full
abbrev pub used_bits : Packing → ℕ → ℕ
used_bits packing taken = width_of packing * (taken % samples_per_byte packing)

-- bit k of sample n, where d of r bytes and the whole ones of a run of len samples are let go: one
-- that was there before the run
pub record IsOld (packing : Packing) (taken len r d whole n k : ℕ) : Type 0 where
  pub held : first_in packing taken r ≤ n
  pub place : 8 * d + (width_of packing * (n - first_in packing (taken + len) (r + whole - d)) + k)
      ≡ width_of packing * (n - first_in packing taken r) + k
  pub short : width_of packing * (n - first_in packing taken r) + k
      < 8 * r + used_bits packing taken

pub old_place : (packing : Packing) (taken len r d whole n k : ℕ)
    → whole ≡ (taken % samples_per_byte packing + len) / samples_per_byte packing
    → r ≤ taken / samples_per_byte packing → d ≤ r + whole
    → first_in packing (taken + len) (r + whole - d) ≤ n → n < taken → k < width_of packing
    → IsOld packing taken len r d whole n k
old_place real1 taken len r d whole n k is_whole some fits from to bit =
    record { held = omega arith; place = omega arith; short = omega arith }
old_place real2 taken len r d whole n k is_whole some fits from to bit =
    record { held = omega arith; place = omega arith; short = omega arith }
old_place iq1 taken len r d whole n k is_whole some fits from to bit =
    record { held = omega arith; place = omega arith; short = omega arith }
old_place iq2 taken len r d whole n k is_whole some fits from to bit =
    record { held = omega arith; place = omega arith; short = omega arith }

-- and one of the run
pub record IsNew (packing : Packing) (taken len r d whole first n k : ℕ) : Type 0 where
  pub place : 8 * d + (width_of packing * (n - first_in packing (taken + len) (r + whole - d)) + k)
      ≡ 8 * r + (used_bits packing taken + (width_of packing * (n - taken) + k))
  pub short : used_bits packing taken + (width_of packing * (n - taken) + k) < 8 * (1 + whole)
  pub there : width_of packing * first + (width_of packing * (n - taken) + k)
      ≡ width_of packing * (first + (n - taken)) + k

pub new_place : (packing : Packing) (taken len r d whole first n k : ℕ)
    → whole ≡ (taken % samples_per_byte packing + len) / samples_per_byte packing
    → r ≤ taken / samples_per_byte packing → d ≤ r + whole
    → first_in packing (taken + len) (r + whole - d) ≤ n → taken ≤ n → n < taken + len
    → k < width_of packing
    → IsNew packing taken len r d whole first n k
new_place real1 taken len r d whole first n k is_whole some fits from behind to bit =
    record { place = omega arith; short = omega arith; there = omega arith }
new_place real2 taken len r d whole first n k is_whole some fits from behind to bit =
    record { place = omega arith; short = omega arith; there = omega arith }
new_place iq1 taken len r d whole first n k is_whole some fits from behind to bit =
    record { place = omega arith; short = omega arith; there = omega arith }
new_place iq2 taken len r d whole first n k is_whole some fits from behind to bit =
    record { place = omega arith; short = omega arith; there = omega arith }

pub few_used : (packing : Packing) (taken : ℕ) → used_bits packing taken < 8
few_used real1 taken = omega arith
few_used real2 taken = omega arith
few_used iq1 taken = omega arith
few_used iq2 taken = omega arith

pub some_bits : (packing : Packing) → 0 < width_of packing
some_bits real1 = omega arith
some_bits real2 = omega arith
some_bits iq1 = omega arith
some_bits iq2 = omega arith

-- the code's numbers
pub width_from : (packing : Packing) (per : ℕ) → per ≡ samples_per_byte packing
    → 8 / per ≡ width_of packing
width_from real1 per e = rw e (omega arith)
width_from real2 per e = rw e (omega arith)
width_from iq1 per e = rw e (omega arith)
width_from iq2 per e = rw e (omega arith)

-- the room is kept after a run, where old bytes become new
pub room_kept : (packing : Packing) (taken len whole room old new : ℕ)
    → whole ≡ (taken % samples_per_byte packing + len) / samples_per_byte packing
    → old ≡ min room (taken / samples_per_byte packing) → new ≡ min room (old + whole)
    → first_in packing (taken + len) new ≤ taken + len - samples_per_byte packing * room
room_kept real1 taken len whole room old new is_whole is_old is_new = omega arith
room_kept real2 taken len whole room old new is_whole is_old is_new = omega arith
room_kept iq1 taken len whole room old new is_whole is_old is_new = omega arith
room_kept iq2 taken len whole room old new is_whole is_old is_new = omega arith

-- a run's bits, and those that fill its whole bytes up, are all there
pub run_within : (packing : Packing) (per taken first len n : ℕ) → per ≡ samples_per_byte packing
    → first + len ≤ samples_per_byte packing * n
    → 8 / per * first + 8 * ((taken % per + len) / per) ≤ 8 * n + 8 / per * (taken % per)
run_within real1 per taken first len n is h = rw is (omega (arith, h))
run_within real2 per taken first len n is h = rw is (omega (arith, h))
run_within iq1 per taken first len n is h = rw is (omega (arith, h))
run_within iq2 per taken first len n is h = rw is (omega (arith, h))

-- and so many bytes are held after it
pub count_kept : (packing : Packing) (taken len whole room old new : ℕ)
    → whole ≡ (taken % samples_per_byte packing + len) / samples_per_byte packing
    → old ≡ min room (taken / samples_per_byte packing) → new ≡ min room (old + whole)
    → new ≡ min room ((taken + len) / samples_per_byte packing)
count_kept real1 taken len whole room old new is_whole is_old is_new = omega arith
count_kept real2 taken len whole room old new is_whole is_old is_new = omega arith
count_kept iq1 taken len whole room old new is_whole is_old is_new = omega arith
count_kept iq2 taken len whole room old new is_whole is_old is_new = omega arith
