-- Sums and differences of numbers that are far from the limits of 64 bits.
use Rattle.std.proofs.Common.{◌≡◌, ℕ, ◌^◌, ◌+◌, ◌≤◌, w32, w64, to_z, of_z, FitsSigned, arith}
use Rattle.std.specs.Prelude.{ℤ, ◌+ℤ◌, ◌-ℤ◌, ◌*ℤ◌, unsigned_abs}
use Rattle.std.proofs.lemmas.Int.{ints, to_z-of_z, fits_signed_from_abs, unsigned_abs-mul}
use Rattle.std.proofs.Math.Nat.{mul-le-mul}

module _ (x y : ℤ) (x_in : unsigned_abs x ≤ 2 ^ 38) (y_in : unsigned_abs y ≤ 2 ^ 38) where
  x_fits : FitsSigned w64 x
  x_fits = fits_signed_from_abs w64 x (omega arith)

  y_fits : FitsSigned w64 y
  y_fits = fits_signed_from_abs w64 y (omega arith)

  sum_plain_fits : FitsSigned w64 (x +ℤ y)
  sum_plain_fits = fits_signed_from_abs w64 (x +ℤ y) (omega (arith, ints))

  difference_plain_fits : FitsSigned w64 (x -ℤ y)
  difference_plain_fits = fits_signed_from_abs w64 (x -ℤ y) (omega (arith, ints))

  sum_fits : FitsSigned w64 (to_z w64 (of_z w64 x) +ℤ to_z w64 (of_z w64 y))
  sum_fits = rw (to_z-of_z w64 x x_fits, to_z-of_z w64 y y_fits) sum_plain_fits

  sum_is : to_z w64 (of_z w64 (to_z w64 (of_z w64 x) +ℤ to_z w64 (of_z w64 y))) ≡ x +ℤ y
  sum_is = rw (to_z-of_z w64 x x_fits, to_z-of_z w64 y y_fits)
      (to_z-of_z w64 (x +ℤ y) sum_plain_fits)

  pub difference_fits : FitsSigned w64 (to_z w64 (of_z w64 x) -ℤ to_z w64 (of_z w64 y))
  difference_fits = rw (to_z-of_z w64 x x_fits, to_z-of_z w64 y y_fits) difference_plain_fits

  pub difference_is : to_z w64 (of_z w64 (to_z w64 (of_z w64 x) -ℤ to_z w64 (of_z w64 y))) ≡ x -ℤ y
  difference_is = rw (to_z-of_z w64 x x_fits, to_z-of_z w64 y y_fits)
      (to_z-of_z w64 (x -ℤ y) difference_plain_fits)

  pub difference_small : (n : ℕ) → unsigned_abs x + unsigned_abs y ≤ n
      → unsigned_abs (to_z w64 (of_z w64 (to_z w64 (of_z w64 x) -ℤ to_z w64 (of_z w64 y)))) ≤ n
  difference_small n h = rw difference_is (omega (arith, ints))

  sum_small : (n : ℕ) → unsigned_abs x + unsigned_abs y ≤ n
      → unsigned_abs (to_z w64 (of_z w64 (to_z w64 (of_z w64 x) +ℤ to_z w64 (of_z w64 y)))) ≤ n
  sum_small n h = rw sum_is (omega (arith, ints))

-- the product of two sums, each of which is a number of 32 bits first
module _ (a b x y : ℤ) (a_in : unsigned_abs a ≤ 2 ^ 18) (b_in : unsigned_abs b ≤ 2 ^ 18)
    (x_is : x ≡ to_z w32 (of_z w32 a)) (y_is : y ≡ to_z w32 (of_z w32 b))
  where
    product_size : unsigned_abs (a *ℤ b) ≤ 2 ^ 36
    product_size = rw unsigned_abs-mul (mul-le-mul a_in b_in)

    kept : (z : ℤ) → unsigned_abs z ≤ 2 ^ 18
        → to_z w64 (of_z w64 (to_z w32 (of_z w32 z))) ≡ z
    kept z small = rw (to_z-of_z w32 z (fits_signed_from_abs w32 z (omega arith)))
        (to_z-of_z w64 z (fits_signed_from_abs w64 z (omega arith)))

    pub product_is : to_z w64 (of_z w64 (to_z w64 (of_z w64 x) *ℤ to_z w64 (of_z w64 y))) ≡ a *ℤ b
    product_is = rw (x_is, y_is, kept a a_in, kept b b_in) (to_z-of_z w64 (a *ℤ b)
        (fits_signed_from_abs w64 (a *ℤ b) (omega (arith, product_size))))

    pub product_small : unsigned_abs
        (to_z w64 (of_z w64 (to_z w64 (of_z w64 x) *ℤ to_z w64 (of_z w64 y)))) ≤ 2 ^ 36
    product_small = rw product_is product_size

-- the sum of two products
module _ (x y : ℤ) (x_in : unsigned_abs x ≤ 2 ^ 36) (y_in : unsigned_abs y ≤ 2 ^ 36) where
  pub products_fit : FitsSigned w64 (to_z w64 (of_z w64 x) +ℤ to_z w64 (of_z w64 y))
  products_fit = sum_fits x y (omega arith) (omega arith)

  pub products_are : to_z w64 (of_z w64 (to_z w64 (of_z w64 x) +ℤ to_z w64 (of_z w64 y)))
      ≡ x +ℤ y
  products_are = sum_is x y (omega arith) (omega arith)

  pub products_small : unsigned_abs
      (to_z w64 (of_z w64 (to_z w64 (of_z w64 x) +ℤ to_z w64 (of_z w64 y)))) ≤ 2 ^ 37
  products_small = sum_small x y (omega arith) (omega arith) (2 ^ 37) (omega arith)
