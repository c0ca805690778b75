-- Lanes of which a mask leaves some.
use Rattle.std.proofs.Common.{◌≡◌, ℕ, ◌+◌, ◌-◌, ◌%◌, ◌<◌, ◌≤◌, refl, sym, ◌∙◌, arith, List}
use Rattle.std.proofs.Common.{length}
use Rattle.std.specs.Prelude.{bit_and}
use Rattle.std.specs.Int.Bits.{and_zero_r}
use Rattle.std.specs.Simd.Lanes.{zip2}
use Rattle.std.proofs.lemmas.Nat.{and_mask}
use Rattle.std.proofs.lemmas.Simd.{get_or-zip2, length-zip2}
use Rattle.bit_planes.specs.ByteLanes.{place_in}
use Rattle.lane_correlator.specs.Bytes.{signed_byte, IsWithin}

pub masked_long : (lanes mask : List ℕ) → length lanes ≡ 64 → length mask ≡ 64
    → length (zip2 bit_and lanes mask) ≡ 64
masked_long lanes mask hl hm = length-zip2 bit_and lanes mask (hl ∙ sym hm) ∙ hl

pub masked : (first end : ℕ) (lanes mask : List ℕ) → end ≤ 64 → length lanes ≡ 64
    → length mask ≡ 64 → ((j : ℕ) → first ≤ j → j < end → place_in mask j ≡ 255)
    → ((j : ℕ) → j < first → j < 64 → place_in mask j ≡ 0)
    → ((j : ℕ) → end ≤ j → j < 64 → place_in mask j ≡ 0)
    → IsWithin first end lanes (zip2 bit_and lanes mask)
masked first end lanes mask room hl hm inside before behind = record {
  inside = λ j from below.
      rw (at_place j (omega arith), inside j from below, and_mask (place_in lanes j) 8)
      (whole (place_in lanes j));
  before = λ j below word. rw (at_place j word, before j below word, and_zero_r (place_in lanes j))
      refl;
  behind = λ j from word. rw (at_place j word, behind j from word, and_zero_r (place_in lanes j))
      refl;
}
  where
    at_place : (j : ℕ) → j < 64 → place_in (zip2 bit_and lanes mask) j ≡ bit_and (place_in lanes j)
        (place_in mask j)
    at_place j h = get_or-zip2 bit_and lanes mask (63 - j) 0 0 0 (omega (arith, hl))
        (omega (arith, hm))

    whole : (n : ℕ) → signed_byte (n % 256) ≡ signed_byte n
    whole n = let same : (n % 256 + 128) % 256 ≡ (n + 128) % 256 = omega arith in rw same refl
