-- The places of samples in bytes, 64 samples at a time.
use Rattle.std.proofs.Common.{◌≡◌, ℕ, ◌+◌, ◌-◌, ◌*◌, ◌/◌, ◌%◌, ◌^◌, ◌<◌}
use Rattle.std.proofs.Common.{◌∙◌, List, length, get_or}
use Rattle.std.proofs.Common.{refl, ap, arith, inl, inr}
use Rattle.std.specs.Prelude.{replicate}
use Rattle.std.specs.Int.{bit_at}
use Rattle.std.specs.Simd.Lanes.{zip2}
use Rattle.std.proofs.lemmas.Nat.{pow-add, shl-shr}
use Rattle.std.proofs.lemmas.Simd.{get_or-zip2, length-zip2, length-replicate}
use Rattle.std.proofs.lemmas.List.{get_or-replicate}
use Rattle.definitions.specs.Samples.{bit_in}
use Rattle.sample_planes.specs.Packings.{IsWidth}

-- where bit `at` of the sample after j of word w lies: its byte is that of the sample's first bit,
-- and its place in it is the same for each word, and for each sixteen samples
pub record IsPlace (width at start w j : ℕ) : Type 0 where
  pub byte : (width * (start + 64 * w + j) + at) / 8 ≡ width * (start + 64 * w + j) / 8
  pub bit : (width * (start + 64 * w + j) + at) % 8 ≡ (width * (start + j) + at) % 8
  pub top : 7 - width * (start + 15 - (63 - j) % 16) % 8 ≡ at + (7 - (width * (start + j) + at) % 8)

pub place_of : (width at start w j : ℕ) → IsWidth width → at < width → j < 64
    → IsPlace width at start w j
place_of width at start w j is_width inside h = elim is_width [
  | inl one ↦ let short : at < 1 = rw one at inside in
      rw one (record {
        byte = omega (arith, short);
        bit = omega (arith, short);
        top = omega (arith, short);
      })
  | inr more ↦ elim more [
    | inl two ↦ let short : at < 2 = rw two at inside in
        rw two (record {
          byte = omega (arith, short);
          bit = omega (arith, short);
          top = omega (arith, short);
        })
    | inr four ↦ let short : at < 4 = rw four at inside in
        rw four (record {
          byte = omega (arith, short);
          bit = omega (arith, short);
          top = omega (arith, short);
        })
  ]
]

-- the mask of bit `at`, by that of a sample's first bit
pub mask_of : (width at start j top : ℕ) → IsWidth width → at < width → j < 64
    → top ≡ 2 ^ (7 - width * (start + 15 - (63 - j) % 16) % 8)
    → top / 2 ^ at ≡ 2 ^ (7 - (width * (start + j) + at) % 8)
mask_of width at start j top is_width inside h is_top =
    let place = place_of width at start 0 j is_width inside h in
    let n : ℕ = 7 - (width * (start + j) + at) % 8 in
    ap (λ (x : ℕ). x / 2 ^ at) (is_top ∙ ap (λ (e : ℕ). 2 ^ e) (place.top ∙ add_comm at n)
    ∙ pow-add 2 n at) ∙ shl-shr (2 ^ n) at
  where
    add_comm : (a b : ℕ) → a + b ≡ b + a
    add_comm a b = omega arith

-- a lane of bytes that are shifted by a splat
pub shifted_lane : (xs : List ℕ) (n k : ℕ) → length xs ≡ 64 → k < 64
    → get_or (zip2 (λ (a b : ℕ). a / 2 ^ b) xs (replicate 64 n)) k 0 ≡ get_or xs k 0 / 2 ^ n
shifted_lane xs n k long h =
    get_or-zip2 (λ (a b : ℕ). a / 2 ^ b) xs (replicate 64 n) k 0 0 0 (omega (arith, long))
    (omega (arith, length-replicate {A = ℕ} 64 n))
    ∙ ap (λ (b : ℕ). get_or xs k 0 / 2 ^ b) (get_or-replicate {A = ℕ} 64 k n 0 h)

pub shifted_long : (xs : List ℕ) (n : ℕ) → length xs ≡ 64
    → length (zip2 (λ (a b : ℕ). a / 2 ^ b) xs (replicate 64 n)) ≡ 64
shifted_long xs n long = length-zip2 (λ (a b : ℕ). a / 2 ^ b) xs (replicate 64 n) long ∙ long

-- the bit of a lane's byte that its mask names
pub bit_there : (near : List ℕ) (width at start w j byte ones : ℕ) → IsWidth width → at < width
    → j < 64 → byte ≡ get_or near (width * (start + 64 * w + j) / 8) 0
    → bit_at byte (7 - (width * (start + j) + at) % 8) * ones
    ≡ bit_in near (width * (start + 64 * w + j) + at) * ones
bit_there near width at start w j byte ones is_width inside h is_byte =
    let place = place_of width at start w j is_width inside h in
    ap (λ (x : ℕ). bit_at x (7 - (width * (start + j) + at) % 8) * ones) is_byte
    ∙ rw (place.byte, place.bit) refl
