-- The ways of a code in 64 lanes, computed by the halves of its step.
use Rattle.std.proofs.Common.{◌≡◌, ℕ, ◌+◌, ◌-◌, ◌*◌, ◌/◌, ◌%◌, ◌^◌, ◌<◌, ◌≤◌, ap, sym, ◌∙◌, refl}
use Rattle.std.proofs.Common.{arith, List, length, get_or, inl, inr, zero, suc, [], ◌∷◌}
use Rattle.std.specs.Prelude.{slice_set}
use Rattle.std.proofs.lemmas.Bool.{cases_lt}
use Rattle.std.proofs.lemmas.List.{get_or-set_other}
use Rattle.std.proofs.lemmas.Grind.{get_or-set_at}
use Rattle.std.proofs.Math.Nat.{mul-le-mul_right}
use Rattle.oscillators.specs.Ways.{way_to, window_of, half_to, room_of}

by_halves : (samples step : ℕ)
    → samples * step ≡ 65536 * (samples * (step / 65536)) + samples * (step % 65536)
by_halves samples step =
    let whole : step ≡ 65536 * (step / 65536) + step % 65536 = omega arith in
    ap (λ (n : ℕ). samples * n) whole ∙ parts (step / 65536) (step % 65536)
  where
    parts : (h l : ℕ) → samples * (65536 * h + l) ≡ 65536 * (samples * h) + samples * l
    parts h l = omega arith

pub way_by_halves : (samples step : ℕ)
    → samples * (step / 65536) + samples * (step % 65536) / 65536 ≡ samples * step / 65536
way_by_halves samples step = omega (arith, by_halves samples step)

-- the way to the sample of a lane, by the way of its samples in 2^-16 chip
pub half_is : (k step way window : ℕ) → k < 64 → way ≡ (63 - k) * step / 65536
    → window ≡ (63 - k) / 16 * 16 * step / 4294967296
    → way / 32768 - 2 * window ≡ half_to step k
half_is k step way window h is there =
    let first : (63 - k) / 16 * 16 ≡ 48 - 16 * (k / 16) = omega arith in
    let same : window ≡ window_of step k =
    there ∙ ap (λ (n : ℕ). n * step / 4294967296) first in
    let halves : way / 32768 ≡ way_to step k / 2 ^ 31 = rw is (omega arith) in
    rw (halves, same) refl

pub window_within : (k step way window : ℕ) → way ≡ (63 - k) * step / 65536
    → window ≡ (63 - k) / 16 * 16 * step / 4294967296 → 2 * window ≤ way / 32768
window_within k step way window is there =
    let fewer : (63 - k) / 16 * 16 ≤ 63 - k = omega arith in
    omega (arith, is, there, mul-le-mul_right step fewer)

pub high_room_is : (k step way : ℕ) → way ≡ (63 - k) * step / 65536
    → 32767 - way % 32768 ≡ room_of step k / 65536
high_room_is k step way is = rw is (omega arith)

pub low_room_is : (k step : ℕ)
    → 65535 - (63 - k) * (step % 65536) % 65536 ≡ room_of step k % 65536
low_room_is k step = omega (arith, by_halves (63 - k) step)

-- a list that has been filled up to a place, and then at that place
pub one_more : {A : Type 0} (f : ℕ → A) (xs : List A) (x d : A) (k : ℕ) → k < length xs
    → ((i : ℕ) → i < k → get_or xs i d ≡ f i) → x ≡ f k
    → (i : ℕ) → i < k + 1 → get_or (slice_set xs k x) i d ≡ f i
one_more f xs x d k room before is i h = elim (cases_lt i k) [
  | inl less ↦ get_or-set_other xs k i x d (λ e. absurd (omega (arith, e, less))) ∙ before i less
  | inr not ↦
      let here : i ≡ k = omega (arith, h, not) in
      get_or-set_at xs k i x d here room ∙ is ∙ ap f (sym here)
]

-- the windows of four times sixteen lanes
pub windows_are : (step a b c n : ℕ) → n < 4 → a ≡ 48 * step / 2 ^ 32 → b ≡ 32 * step / 2 ^ 32
    → c ≡ 16 * step / 2 ^ 32
    → get_or (a ∷ b ∷ c ∷ 0 ∷ []) n 0 ≡ (48 - 16 * n) * step / 2 ^ 32
windows_are step a b c zero h ea eb ec = ea
windows_are step a b c (suc zero) h ea eb ec = eb
windows_are step a b c (suc (suc zero)) h ea eb ec = ec
windows_are step a b c (suc (suc (suc zero))) h ea eb ec = omega arith
windows_are step a b c (suc (suc (suc (suc n)))) h ea eb ec = absurd (omega (arith, h))
