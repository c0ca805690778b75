-- The errors, put together from their parts.
use Rattle.std.proofs.Common.{◌≡◌, ℕ, ◌+◌, ap, ◌∙◌}
use Rattle.std.specs.Prelude.{ℤ, ◌-ℤ◌, ◌*ℤ◌, unsigned_abs}
use Rattle.std.proofs.Math.Path.{ap₂}
use Rattle.definitions.specs.Loops.{ratio, sgn}

pub turned_part : (result turned x y cross dot : ℤ) (a b : ℕ) → result ≡ ratio turned (a + b)
    → turned ≡ x *ℤ sgn y → a ≡ unsigned_abs x → b ≡ unsigned_abs y → x ≡ cross → y ≡ dot
    → result ≡ ratio (cross *ℤ sgn dot) (unsigned_abs cross + unsigned_abs dot)
turned_part result turned x y cross dot a b r t a_is b_is x_is y_is =
    r ∙ ap₂ ratio (t ∙ ap₂ (λ (z w : ℤ). z *ℤ sgn w) x_is y_is)
    (ap₂ (λ (m n : ℕ). m + n) (a_is ∙ ap unsigned_abs x_is) (b_is ∙ ap unsigned_abs y_is))

pub difference_part : (result difference x y early late : ℤ) (a b : ℕ) → result
    ≡ ratio difference (a + b) → difference ≡ x -ℤ y → a ≡ unsigned_abs x → b ≡ unsigned_abs y → x
    ≡ early → y ≡ late
    → result ≡ ratio (early -ℤ late) (unsigned_abs early + unsigned_abs late)
difference_part result difference x y early late a b r d a_is b_is x_is y_is =
    r ∙ ap₂ ratio (d ∙ ap₂ (λ (z w : ℤ). z -ℤ w) x_is y_is)
    (ap₂ (λ (m n : ℕ). m + n) (a_is ∙ ap unsigned_abs x_is) (b_is ∙ ap unsigned_abs y_is))

pub phase_part : (result turned x y quadrature in_phase : ℤ) (a b : ℕ)
    → result ≡ ratio turned (a + b) → turned ≡ x *ℤ sgn y → a ≡ unsigned_abs y
    → b ≡ unsigned_abs x → x ≡ quadrature → y ≡ in_phase
    → result ≡ ratio (quadrature *ℤ sgn in_phase) (unsigned_abs in_phase + unsigned_abs quadrature)
phase_part result turned x y quadrature in_phase a b r t a_is b_is x_is y_is =
    r ∙ ap₂ ratio (t ∙ ap₂ (λ (z w : ℤ). z *ℤ sgn w) x_is y_is)
    (ap₂ (λ (m n : ℕ). m + n) (a_is ∙ ap unsigned_abs y_is) (b_is ∙ ap unsigned_abs x_is))
