-- What the lanes of a word find in a code's table. The word's first sample lies at phase `here`,
-- and a lane's sample w after it. The first sample of the lane's sixteen lies v after it.
use Rattle.std.proofs.Common.{◌≡◌, ℕ, zero, suc, ◌+◌, ◌-◌, ◌*◌, ◌/◌, ◌%◌, ◌^◌, ◌<◌, ◌≤◌}
use Rattle.std.proofs.Common.{get_or, ap, ◌∙◌, arith, mul-le-mul, List, length, refl, sym, inl}
use Rattle.std.proofs.Common.{inr, ℤ}
use Rattle.std.specs.Prelude.{◌⊎◌}
use Rattle.std.specs.Simd.Lanes.{zip2}
use Rattle.std.proofs.lemmas.Simd.{get_or-zip2, length-zip2}
use Rattle.oscillators.specs.Ways.{way_to, half_at}
use Rattle.definitions.specs.Samples.{sign_of}
use Rattle.oscillators.specs.Lanes.{IsMask, AreChipLanes}
use Rattle.oscillators.specs.ChipWords.{AreChipMasks}
use Rattle.oscillators.specs.declared.code_words.ChipLanes.{ChipLanes}
use Rattle.ca_codes.proofs.BookLemmas.{chip_below_two}
use Rattle.std.specs.Int.{bit_at}
use Rattle.std.proofs.Math.Nat.{mod-add-mod}
use Rattle.definitions.specs.Codes.{chip}
use Rattle.oscillators.proofs.PlaneLemmas.{same_chip, early_is, late_is}

-- lanes that two others give
pub pair_long : (f : ℕ → ℕ → ℕ) (xs ys : List ℕ) → length xs ≡ 64 → length ys ≡ 64
    → length (zip2 f xs ys) ≡ 64
pair_long f xs ys lx ly = length-zip2 f xs ys (lx ∙ sym ly) ∙ lx

pub pair_lane : (f : ℕ → ℕ → ℕ) (xs ys : List ℕ) (k : ℕ) → length xs ≡ 64 → length ys ≡ 64 → k < 64
    → get_or (zip2 f xs ys) k 0 ≡ f (get_or xs k 0) (get_or ys k 0)
pair_lane f xs ys k lx ly h = get_or-zip2 f xs ys k 0 0 0 (omega (arith, lx)) (omega (arith, ly))

-- how far the first sample of a lane's sixteen lies from the first of all
abbrev pub way_to_first : ℕ → ℕ → ℕ
way_to_first step k = (48 - 16 * (k / 16)) * step

pub way_is_short : (step k : ℕ) → step < 2 ^ 32 → way_to step k ≤ 63 * 4294967295
way_is_short step k l = mul-le-mul {n₁ = 63 - k} {m₁ = step} {n₂ = 63} {m₂ = 4294967295}
    (omega arith) (omega arith)

pub way_from_first : (step most k : ℕ) → k < 64 → step ≤ most
    → way_to step k ≤ way_to_first step k + 15 * most
way_from_first step most k h l =
    let parts : way_to step k ≡ way_to_first step k + (15 - k % 16) * step =
    split (48 - 16 * (k / 16)) (15 - k % 16) (63 - k) (omega arith) in
    let few : (15 - k % 16) * step ≤ 15 * most =
    mul-le-mul {n₁ = 15 - k % 16} {m₁ = step} {n₂ = 15} {m₂ = most} (omega arith) l in
    omega (arith, parts, few)
  where
    split : (a b n : ℕ) → n ≡ a + b → n * step ≡ a * step + b * step
    split a b n e = rw e (omega arith)

pub first_not_after : (step k : ℕ) → k < 64 → way_to_first step k ≤ way_to step k
first_not_after step k h = mul-le-mul {n₁ = 48 - 16 * (k / 16)} {m₁ = step} {n₂ = 63 - k}
    {m₂ = step} (omega arith) (omega arith)

-- the half chips from the window of a lane on are few
half_small : (part step k : ℕ) → part < 4294967296 → step ≤ 3865470566 → k < 64
    → half_at part step k ≤ 30
half_small part step k small short h =
    let from : way_to_first step k ≤ way_to step k = first_not_after step k h in
    let near : way_to step k ≤ way_to_first step k + 15 * 3865470566 =
    way_from_first step 3865470566 k h short in
    omega (arith, from, near)

pub early_below : (part step k n : ℕ) → part < 4294967296 → step ≤ 3865470566 → k < 64
    → n ≡ half_at part step k / 2 → n < 16
early_below part step k n small short h is =
    let few : half_at part step k ≤ 30 = half_small part step k small short h in
    omega (arith, few, is)

pub prompt_below : (part step k n : ℕ) → part < 4294967296 → step ≤ 3865470566 → k < 64
    → n ≡ (half_at part step k + 1) / 2 → n < 16
prompt_below part step k n small short h is =
    let few : half_at part step k ≤ 30 = half_small part step k small short h in
    omega (arith, few, is)

-- the phase at a lane's sample
phase_there : (phase w : ℕ) → (phase % (1023 * 2 ^ 32) + w) % (1023 * 2 ^ 32)
    ≡ (phase + w) % (1023 * 2 ^ 32)
phase_there phase w = mod-add-mod phase (1023 * 2 ^ 32) w

early_there : (here v w : ℕ) → here < 4393751543808 → v ≤ w → w ≤ 63 * 4294967295
    → (here / 4294967296 + 1 + v / 4294967296
    + ((here % 4294967296 + w) / 2147483648 - 2 * (v / 4294967296)) / 2 + 1022) % 1023
    ≡ (here + w) % 4393751543808 / 4294967296 % 1023
early_there here v w below from few = omega arith

late_there : (here v w : ℕ) → here < 4393751543808 → v ≤ w → w ≤ 63 * 4294967295
    → (here / 4294967296 + v / 4294967296
    + ((here % 4294967296 + w) / 2147483648 - 2 * (v / 4294967296)) / 2 + 1022) % 1023
    ≡ ((here + w) % 4393751543808 / 4294967296 + 1022) % 1023
late_there here v w below from few = omega arith

-- the prompt phase lies half a chip behind the early one
prompt_there : (p here v w : ℕ) → p < 4393751543808 → here ≡ (p + 2147483648) % 4393751543808
    → v ≤ w → w ≤ 63 * 4294967295
    → (here / 4294967296 + v / 4294967296
    + ((here % 4294967296 + w) / 2147483648 - 2 * (v / 4294967296) + 1) / 2 + 1022) % 1023
    ≡ (p + w) % 4393751543808 / 4294967296 % 1023
prompt_there p here v w below is from few = omega arith

-- the chips that a lane finds, one before those of its numbers
module _ (prn phase here step k : ℕ) (h : k < 64) (short : step < 2 ^ 32)
    (is : here ≡ (phase + 2 ^ 31) % (1023 * 2 ^ 32)) where
  abbrev pub half : ℕ
  half = half_at (here % 4294967296) step k

  abbrev pub window : ℕ
  window = way_to_first step k / 4294967296

  pub early_found : chip prn (here / 4294967296 + 1 + window + half / 2 + 1022)
      ≡ chip prn ((phase + 2 ^ 31 + way_to step k) % (1023 * 2 ^ 32) / 2 ^ 32)
  early_found =
      same_chip prn _ _ (early_there here (way_to_first step k) (way_to step k) (omega (arith, is))
      (first_not_after step k h) (way_is_short step k short)
      ∙ rw is (ap (λ (p : ℕ). p / 2 ^ 32 % 1023) (phase_there (phase + 2 ^ 31) (way_to step k))))

  pub late_found : chip prn (here / 4294967296 + window + half / 2 + 1022)
      ≡ chip prn ((phase + 2 ^ 31 + way_to step k) % (1023 * 2 ^ 32) / 2 ^ 32 + 1022)
  late_found =
      same_chip prn _ _ (late_there here (way_to_first step k) (way_to step k) (omega (arith, is))
      (first_not_after step k h) (way_is_short step k short)
      ∙ rw is (ap (λ (p : ℕ). (p / 2 ^ 32 + 1022) % 1023)
      (phase_there (phase + 2 ^ 31) (way_to step k))))

  pub prompt_found : phase < 1023 * 2 ^ 32
      → chip prn (here / 4294967296 + window + (half + 1) / 2 + 1022)
      ≡ chip prn ((phase + way_to step k) % (1023 * 2 ^ 32) / 2 ^ 32)
  prompt_found below =
      same_chip prn _ _ (prompt_there phase here (way_to_first step k) (way_to step k)
      (omega (arith, below)) is (first_not_after step k h) (way_is_short step k short))

-- what a mask says of its chip
pub top_of_mask : (c : ℕ) → c < 2 → bit_at (255 * c) 7 ≡ c
top_of_mask c h = omega arith

pub mask_of_sign : (s : ℤ) (c mask : ℕ) → c < 2 → mask ≡ 255 * c → sign_of c ≡ s
    → IsMask s mask
mask_of_sign s c mask h is e = record {
  either = none_or_all c h is;
  value = sym (ap sign_of back ∙ e);
}
  where
    none_or_all : (c : ℕ) → c < 2 → mask ≡ 255 * c → (mask ≡ 0) ⊎ (mask ≡ 255)
    none_or_all zero h is = inl is
    none_or_all (suc zero) h is = inr is
    none_or_all (suc (suc c)) h is = absurd (omega (arith, h))

    back : mask / 255 ≡ c
    back = omega (arith, is)

-- masks of chips are those of their signs
pub signs_of_masks : (prn phase step : ℕ) (lanes : ChipLanes) → AreChipMasks prn phase step lanes
    → AreChipLanes prn phase step lanes
signs_of_masks prn phase step lanes masks = record {
  early = λ j h. mask_of_sign _ _ _ (chip_below_two prn _) (masks.early j h)
      (early_is prn phase step j);
  prompt = λ j h. mask_of_sign _ _ _ (chip_below_two prn _) (masks.prompt j h) refl;
  late = λ j h. mask_of_sign _ _ _ (chip_below_two prn _) (masks.late j h)
      (late_is prn phase step j);
}
