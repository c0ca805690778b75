-- Worked examples of phases some samples on, of chips at phases, and of the ends of tables.
use Rattle.std.proofs.Common.{◌≡◌, refl}
use Rattle.definitions.specs.Oscillators.{Settings, carrier_phase_after, carrier_step}
use Rattle.definitions.specs.Oscillators.{code_phase_after, cosine, early_sign, late_sign}
use Rattle.definitions.specs.Oscillators.{prompt_sign, sine}
use Rattle.definitions.specs.Codes.{chip, chip_after, register_after}
use Rattle.std.specs.Prelude.{map, neg_ℤ, negsuc, pos, ◌-◌, ◌*◌, ◌^◌, ◌++◌, ◌∷◌, ℤ}
use Rattle.definitions.specs.Samples.{real, real1, sample_at}
use Rattle.std.proofs.Common.{[]}

-- both go round: 2 * 10 - 1, and 2 * 3 - 1
phases_go_round : code_phase_after (1023 * 2 ^ 32 - 1) 10 2 ∷ carrier_phase_after (2 ^ 32 - 1) 3 2
    ∷ []
    ≡ 19 ∷ 5 ∷ []
phases_go_round = refl

-- the first five chips of satellite 1 are 1, 1, 0, 0, 1
prompt_chips : map (prompt_sign 1) ((2 * 2 ^ 32 - 1) ∷ 2 * 2 ^ 32 ∷ (4 * 2 ^ 32 - 1) ∷ 4 * 2 ^ 32
    ∷ [])
    ≡ negsuc 0 ∷ pos 1 ∷ pos 1 ∷ negsuc 0 ∷ []
unfolding chip chip_after register_after
prompt_chips = refl

-- its last chip is 0, its first one is 1: the early chip goes round half a chip before the end, the
-- late one half a chip after the start
early_goes_round : map (early_sign 1) ((2045 * 2 ^ 31 - 1) ∷ 2045 * 2 ^ 31 ∷ [])
    ≡ pos 1 ∷ negsuc 0 ∷ []
unfolding chip chip_after register_after
early_goes_round = refl

late_goes_round : map (late_sign 1) ((2 ^ 31 - 1) ∷ 2 ^ 31 ∷ []) ≡ pos 1 ∷ negsuc 0 ∷ []
unfolding chip chip_after register_after
late_goes_round = refl

-- (1023000 * 65536 + 65536) * 65536 / 4092000, and the same of an offset below zero less a cycle
abbrev with_offset : ℤ → Settings
with_offset offset = record { rate = 4092000; offset = offset; packing = real1 }

carrier_steps : map (λ offset. carrier_step (with_offset offset) (pos 65536))
    (pos 1023000 ∷ neg_ℤ (pos 1023000) ∷ []) ≡ 1073742873 ∷ 3221226521 ∷ []
unfolding carrier_step
carrier_steps = refl

-- an eighth of a cycle lasts to its end
eighths : map cosine ((2 ^ 29 - 1) ∷ 2 ^ 29 ∷ (2 ^ 32 - 1) ∷ []) ++ map sine ((2 ^ 29 - 1) ∷ 2 ^ 29
    ∷ (2 ^ 32 - 1) ∷ []) ≡ pos 2 ∷ pos 1 ∷ pos 2 ∷ pos 1 ∷ pos 2 ∷ negsuc 0 ∷ []
eighths = refl

-- there is nothing past the ends
past_the_ends : cosine (2 ^ 32) ∷ sine (2 ^ 32) ∷ [] ≡ pos 0 ∷ pos 0 ∷ []
past_the_ends = refl

past_the_samples : map (sample_at (real (pos 5) ∷ [])) (0 ∷ 1 ∷ [])
    ≡ real (pos 5) ∷ real (pos 0) ∷ []
past_the_samples = refl
