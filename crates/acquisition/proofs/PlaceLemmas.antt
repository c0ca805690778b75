-- The half chips of samples, and phases that go on.
use Rattle.std.proofs.Common.{◌≡◌, ℕ, ◌+◌, ◌*◌, ◌/◌, ◌%◌, ◌^◌, ◌<◌, refl, ap, ◌∙◌, arith}
use Rattle.std.proofs.Math.Nat.{mod-add-mod}
use Rattle.definitions.specs.Codes.{chip, chip_sign}
use Rattle.definitions.specs.Oscillators.{prompt_sign, code_phase_after, carrier_phase_after}
use Rattle.definitions.specs.Oscillators.{code_cycle}
use Rattle.acquisition.specs.Folds.{half_chip_at}
use Rattle.acquisition.specs.declared.half_chip_table.TheConstants.{HALF_CHIPS}
use Rattle.ca_codes.specs.declared.book.TheConstants.{CODE_CHIPS}

-- the chip of a sample, for a code that begins at a half chip
chip_place : (half way : ℕ) → (half * 2 ^ 31 + way) % code_cycle / 2 ^ 32 % CODE_CHIPS
    ≡ (half + way / 2 ^ 31 % HALF_CHIPS) / 2 % CODE_CHIPS
chip_place half way = omega arith

pub chip_of_place : (prn half step j : ℕ)
    → prompt_sign prn (code_phase_after (half * 2 ^ 31) step j)
    ≡ chip_sign prn ((half + half_chip_at step j) / 2)
unfolding chip
chip_of_place prn half step j = rw (chip_place half (j * step)) refl

pub place_below : (step j : ℕ) → half_chip_at step j < HALF_CHIPS
place_below step j = omega arith

-- the half chip of a phase
place_of_phase : (m : ℕ) → m % code_cycle / 2 ^ 31 ≡ m / 2 ^ 31 % HALF_CHIPS
place_of_phase m = omega arith

-- the code i samples on from one that is k samples on from phase 0
way_on : (code phase step k i : ℕ) → code ≡ code_phase_after 0 step k
    → phase ≡ code_phase_after code step i → phase ≡ (k + i) * step % code_cycle
way_on code phase step k i first is =
    let e : 0 + k * step + i * step ≡ (k + i) * step = omega arith in
    is ∙ rw first (mod-add-mod (0 + k * step) code_cycle (i * step))
    ∙ ap (λ (m : ℕ). m % code_cycle) e

pub place_is : (code phase step k i : ℕ) → code ≡ code_phase_after 0 step k
    → phase ≡ code_phase_after code step i → phase / 2 ^ 31 ≡ half_chip_at step (k + i)
place_is code phase step k i first is =
    rw (way_on code phase step k i first is) (place_of_phase ((k + i) * step))

pub phase-next : (code phase next step i : ℕ) → phase ≡ code_phase_after code step i
    → next ≡ (phase + step) % code_cycle → next ≡ code_phase_after code step (i + 1)
phase-next code phase next step i is more =
    let e : code + i * step + step ≡ code + (i + 1) * step = omega arith in
    more ∙ rw is (mod-add-mod (code + i * step) code_cycle step)
    ∙ ap (λ (m : ℕ). m % code_cycle) e

-- the code and the carrier n samples on
pub code-goes_on : (first phase step own k n : ℕ) → own ≡ step
    → phase ≡ code_phase_after first step k
    → code_phase_after phase own n ≡ code_phase_after first step (k + n)
code-goes_on first phase step own k n same is =
    let e : first + k * step + n * step ≡ first + (k + n) * step = omega arith in
    rw (same, is) (mod-add-mod (first + k * step) code_cycle (n * step)
    ∙ ap (λ (m : ℕ). m % code_cycle) e)

pub carrier-goes_on : (first phase step own k n : ℕ) → own ≡ step
    → phase ≡ carrier_phase_after first step k
    → carrier_phase_after phase own n ≡ carrier_phase_after first step (k + n)
carrier-goes_on first phase step own k n same is =
    let e : first + k * step + n * step ≡ first + (k + n) * step = omega arith in
    rw (same, is) (mod-add-mod (first + k * step) (2 ^ 32) (n * step)
    ∙ ap (λ (m : ℕ). m % 2 ^ 32) e)
