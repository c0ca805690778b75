-- Planes that are filled 64 samples at a time.
use Rattle.std.proofs.Common.{◌≡◌, ℕ, zero, suc, ◌+◌, ◌-◌, ◌*◌, ◌/◌, ◌%◌, ◌^◌, ◌<◌, ◌≤◌}
use Rattle.std.proofs.Common.{List, ◌∷◌, length, map, get_or, refl, sym, ap, ◌∙◌, arith, ℤ}
use Rattle.std.proofs.Common.{pos}
use Rattle.std.proofs.Math.Path.{ap₂}
use Rattle.std.proofs.Math.Nat.{add-mod-mod, mod-add-mod}
use Rattle.std.proofs.lemmas.Nat.{mul-mod_first}
use Rattle.std.proofs.lemmas.List.FromFn.{get_or-map-range_with_len, length-map-range_with_len}
use Rattle.std.specs.List.{range_with_len}
use Rattle.definitions.specs.Samples.{sign_of}
use Rattle.definitions.specs.Codes.{chip, chip_after}
use Rattle.definitions.specs.Oscillators.{carrier_phase_after, code_phase_after, cosine}
use Rattle.definitions.specs.Oscillators.{sine, early_sign, late_sign}
use Rattle.oscillators.specs.Eighths.{cos_sign_in, sin_sign_in, sin_size_in}
use Rattle.oscillators.specs.Signs.{signed}

-- ---- runs of numbers

pub run_length : (f : ℕ → ℤ) (n : ℕ) → length (map f (range_with_len 0 n)) ≡ n
run_length f n = length-map-range_with_len f 0 n

pub run_at : (f : ℕ → ℤ) (n i : ℕ) → i < n → get_or (map f (range_with_len 0 n)) i (pos 0) ≡ f i
run_at f n i h = get_or-map-range_with_len f 0 n i i (pos 0) h (omega arith)

pub in_run : (f : ℕ → ℤ) (n i : ℕ) (xs : List ℤ) → map f (range_with_len 0 n) ≡ xs → i < length xs
    → i < n
in_run f n i xs is h = rw (← is, run_length f n) at h

pub read_run : (f : ℕ → ℤ) (n i : ℕ) (xs : List ℤ) → map f (range_with_len 0 n) ≡ xs → i < length xs
    → get_or xs i (pos 0) ≡ f i
read_run f n i xs is h = rw (← is) (run_at f n i (in_run f n i xs is h))

-- runs that are the same place by place
pub runs_agree : (f g : ℕ → ℤ) (a n : ℕ) → ((i : ℕ) → i < n → f (a + i) ≡ g (a + i))
    → map f (range_with_len a n) ≡ map g (range_with_len a n)
runs_agree f g a zero h = refl
runs_agree f g a (suc n) h =
    let first : a + 0 ≡ a = omega arith in
    let here : f a ≡ g a = rw first at (h 0 (omega arith)) in
    ap₂ (λ (x : ℤ) (xs : List ℤ). x ∷ xs) here (runs_agree f g (a + 1) n (λ i l. behind i l))
  where
    behind : (i : ℕ) → i < n → f (a + 1 + i) ≡ g (a + 1 + i)
    behind i l = let one : a + 1 + i ≡ a + suc i = omega arith in rw one (h (suc i) (omega arith))

-- ---- the carrier

-- the carrier after n samples, where the whole cycles of n are left out
pub carrier_advanced : (phase n step : ℕ) → (phase + n % 2 ^ 32 * step % 2 ^ 32) % 2 ^ 32
    ≡ carrier_phase_after phase step n
carrier_advanced phase n step = rw (mul-mod_first n step (2 ^ 32))
    (add-mod-mod phase (n * step) (2 ^ 32))

-- the phase r samples after another
pub carrier_behind : (phase step j r here : ℕ) → here ≡ carrier_phase_after phase step j
    → (here + r * step) % 2 ^ 32 ≡ carrier_phase_after phase step (j + r)
carrier_behind phase step j r here e =
    let more : phase + j * step + r * step ≡ phase + (j + r) * step = omega arith in
    rw e (mod-add-mod (phase + j * step) (2 ^ 32) (r * step) ∙ ap (λ n. n % 2 ^ 32) more)

-- 64 samples on, as they are computed
pub carrier_turned : (phase step : ℕ) → (phase + step * 64 % 2 ^ 32) % 2 ^ 32
    ≡ carrier_phase_after phase step 64
carrier_turned phase step =
    let way : step * 64 ≡ 64 * step = omega arith in
    add-mod-mod phase (step * 64) (2 ^ 32) ∙ ap (λ (n : ℕ). (phase + n) % 2 ^ 32) way

-- cosine and sine by the bits of an eighth
pub cosine_by_bits : (p : ℕ) → p < 2 ^ 32 → signed (cos_sign_in (p / 2 ^ 29))
    (1 - sin_size_in (p / 2 ^ 29)) ≡ cosine p
cosine_by_bits p h = sym (get_or-map-range_with_len
    (λ (e : ℕ). signed (cos_sign_in e) (1 - sin_size_in e)) 0 8 (p / 2 ^ 29) (p / 2 ^ 29) (pos 0)
    (omega arith) (omega arith))

pub sine_by_bits : (p : ℕ) → p < 2 ^ 32 → signed (sin_sign_in (p / 2 ^ 29))
    (sin_size_in (p / 2 ^ 29)) ≡ sine p
sine_by_bits p h = sym (get_or-map-range_with_len
    (λ (e : ℕ). signed (sin_sign_in e) (sin_size_in e)) 0 8 (p / 2 ^ 29) (p / 2 ^ 29) (pos 0)
    (omega arith) (omega arith))

-- ---- the code

-- the phase r samples after another
pub code_behind : (phase step j r here : ℕ) → here ≡ code_phase_after phase step j
    → (here + r * step) % (1023 * 2 ^ 32) ≡ code_phase_after phase step (j + r)
code_behind phase step j r here e =
    let more : phase + j * step + r * step ≡ phase + (j + r) * step = omega arith in
    rw e (mod-add-mod (phase + j * step) (1023 * 2 ^ 32) (r * step)
    ∙ ap (λ n. n % (1023 * 2 ^ 32)) more)

-- the same half a chip ahead
pub code_behind_ahead : (phase step j r here : ℕ) → here ≡ code_phase_after phase step j
    → code_phase_after (here + 2 ^ 31) step r ≡ code_phase_after (phase + 2 ^ 31) step (j + r)
code_behind_ahead phase step j r here e =
    let way : here + 2 ^ 31 + r * step ≡ here + (2 ^ 31 + r * step) = omega arith in
    let more : phase + j * step + (2 ^ 31 + r * step)
    ≡ phase + 2 ^ 31 + (j + r) * step = omega arith in
    ap (λ (n : ℕ). n % (1023 * 2 ^ 32)) way
    ∙ rw e (mod-add-mod (phase + j * step) (1023 * 2 ^ 32) (2 ^ 31 + r * step)
    ∙ ap (λ (n : ℕ). n % (1023 * 2 ^ 32)) more)

-- n samples after where it was n samples ago
pub code_back : (phase way : ℕ) → phase < 4393751543808 → way ≤ 4393751543808
    → ((phase + (4393751543808 - way)) % 4393751543808 + way) % 4393751543808 ≡ phase
code_back phase way below short = omega arith

-- chips differ by their numbers within a period
pub same_chip : (prn m n : ℕ) → m % 1023 ≡ n % 1023 → chip prn m ≡ chip prn n
unfolding chip
same_chip prn m n e = ap (chip_after prn) e

-- half a chip ahead
ahead_is : (phase step j : ℕ) → code_phase_after (phase + 2 ^ 31) step j
    ≡ (code_phase_after phase step j + 2 ^ 31) % (1023 * 2 ^ 32)
ahead_is phase step j =
    let moved : phase + 2 ^ 31 + j * step ≡ phase + j * step + 2 ^ 31 = omega arith in
    ap (λ n. n % (1023 * 2 ^ 32)) moved ∙ sym (mod-add-mod (phase + j * step) (1023 * 2 ^ 32)
    (2 ^ 31))

pub early_is : (prn phase step j : ℕ) → sign_of (chip prn
    (code_phase_after (phase + 2 ^ 31) step j / 2 ^ 32))
    ≡ early_sign prn (code_phase_after phase step j)
early_is prn phase step j = ap (λ (p : ℕ). sign_of (chip prn (p / 2 ^ 32))) (ahead_is phase step j)

behind_number : (p : ℕ) → p < 4393751543808 → ((p + 2147483648) % 4393751543808 / 4294967296 + 1022)
    % 1023 ≡ (p + 4393751543808 - 2147483648) % 4393751543808 / 4294967296 % 1023
behind_number p h = omega arith

pub late_is : (prn phase step j : ℕ) → sign_of (chip prn
    (code_phase_after (phase + 2 ^ 31) step j / 2 ^ 32 + 1022))
    ≡ late_sign prn (code_phase_after phase step j)
late_is prn phase step j =
    let p : ℕ = code_phase_after phase step j in
    ap sign_of (ap (λ (q : ℕ). chip prn (q / 2 ^ 32 + 1022)) (ahead_is phase step j)
    ∙ same_chip prn _ _ (behind_number p (omega arith)))
