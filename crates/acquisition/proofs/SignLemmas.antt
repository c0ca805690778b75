-- The signs of chips, set one after another.
use Rattle.std.proofs.Common.{inl, inr, ◌≡◌, ℕ, zero, suc, ◌*◌, ◌<◌, refl}
use Rattle.std.proofs.Common.{arith}
use Rattle.std.specs.Prelude.{pos, negsuc, ◌-ℤ◌, ◌==◌, true, false, ◌⊎◌}
use Rattle.std.proofs.lemmas.Bool.{eqb-true}
use Rattle.definitions.specs.Codes.{chip, chip_after, chip_sign}

chip_bit : (prn n : ℕ) → chip prn n < 2
unfolding chip chip_after
chip_bit prn n = omega arith

-- a sign is 1 or -1
pub sign_cases : (prn n : ℕ) → (chip_sign prn n ≡ pos 1) ⊎ (chip_sign prn n ≡ negsuc 0)
sign_cases prn n = signs (chip prn n) (chip_bit prn n)
  where
    signs : (bit : ℕ) → bit < 2
        → (pos 1 -ℤ pos (2 * bit) ≡ pos 1) ⊎ (pos 1 -ℤ pos (2 * bit) ≡ negsuc 0)
    signs zero h = inl refl
    signs (suc zero) h = inr refl
    signs (suc (suc n)) h = absurd (omega arith)

pub sign_of_one : (prn n : ℕ) → (chip prn n == 1) ≡ true → chip_sign prn n ≡ negsuc 0
sign_of_one prn n e = let is : chip prn n ≡ 1 = eqb-true (chip prn n) 1 e in rw is refl

pub sign_of_zero : (prn n : ℕ) → (chip prn n == 1) ≡ false → chip_sign prn n ≡ pos 1
sign_of_zero prn n e = signs (chip prn n) (chip_bit prn n) e
  where
    signs : (bit : ℕ) → bit < 2 → (bit == 1) ≡ false → pos 1 -ℤ pos (2 * bit) ≡ pos 1
    signs zero h e = refl
    signs (suc zero) h e = cc
    signs (suc (suc n)) h e = absurd (omega arith)
