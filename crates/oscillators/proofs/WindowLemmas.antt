-- The windows of a code's lanes, from the chip of the first sample on.
use Rattle.std.proofs.Common.{◌≡◌, ℕ, zero, suc, ◌+◌, ◌-◌, ◌*◌, ◌/◌, ◌^◌, ◌<◌, ◌≤◌, List}
use Rattle.std.proofs.Common.{get_or, arith, ap, [], ◌∷◌}

pub near_windows : (chip : ℕ) (windows : List ℕ) (b : ℕ) → b < 4
    → ((n : ℕ) → n < 4 → get_or windows n 0 ≤ 47)
    → get_or ((chip + get_or windows 0 0) ∷ (chip + get_or windows 1 0)
    ∷ (chip + get_or windows 2 0) ∷ (chip + get_or windows 3 0) ∷ []) b 0 ≤ chip + 47
near_windows chip windows zero h near = omega (arith, near 0 (omega arith))
near_windows chip windows (suc zero) h near = omega (arith, near 1 (omega arith))
near_windows chip windows (suc (suc zero)) h near = omega (arith, near 2 (omega arith))
near_windows chip windows (suc (suc (suc zero))) h near = omega (arith, near 3 (omega arith))
near_windows chip windows (suc (suc (suc (suc n)))) h near = absurd (omega (arith, h))

pub moved_windows : (chip step : ℕ) (windows : List ℕ) (b : ℕ) → b < 4
    → ((n : ℕ) → n < 4 → get_or windows n 0 ≡ (48 - 16 * n) * step / 2 ^ 32)
    → get_or ((chip + get_or windows 0 0) ∷ (chip + get_or windows 1 0)
    ∷ (chip + get_or windows 2 0) ∷ (chip + get_or windows 3 0) ∷ []) b 0
    ≡ chip + (48 - 16 * b) * step / 2 ^ 32
moved_windows chip step windows zero h are = ap (λ (n : ℕ). chip + n) (are 0 h)
moved_windows chip step windows (suc zero) h are = ap (λ (n : ℕ). chip + n) (are 1 h)
moved_windows chip step windows (suc (suc zero)) h are = ap (λ (n : ℕ). chip + n) (are 2 h)
moved_windows chip step windows (suc (suc (suc zero))) h are = ap (λ (n : ℕ). chip + n) (are 3 h)
moved_windows chip step windows (suc (suc (suc (suc n)))) h are = absurd (omega (arith, h))
