use Rattle.std.proofs.Common.{◌≡◌, ◌+◌, ◌*◌, ◌/◌, ◌%◌, ◌<◌, ◌∙◌, ℕ, get_or, refl, arith, w8}
use Rattle.std.proofs.lemmas.Simd.{SwzOk-from_below, Each1-from_get_or, length-swz_l}
use Rattle.std.proofs.lemmas.Simd.{get_or-swz_l_below}
use Rattle.bit_planes.proofs.word_lanes.pick_from_four.Goals as goal

pub swizzle : goal.swizzle
swizzle c = SwzOk-from_below w8 16 4 64 0 c.args.numbers refl (omega (arith, c.requires.numbers))
    (Each1-from_get_or (λ (j : ℕ). j < 16) c.args.numbers 0
    (λ i h. c.requires.below i (omega (arith, c.requires.numbers, h))))

pub returns-clause-long : goal.returns-clause-long
returns-clause-long c = length-swz_l w8 16 c.four_windows.result 0 c.args.numbers
    ∙ c.requires.numbers

pub returns-clause-picked : goal.returns-clause-picked
returns-clause-picked c k h =
    let n : ℕ = get_or c.args.numbers k 0 in
    let below : n < 16 = c.requires.below k h in
    let place : 16 * ((0 + k) / 16) + n < 64 = omega arith in
    let block : (16 * ((0 + k) / 16) + n) / 16 ≡ k / 16 = omega arith in
    let lane : (16 * ((0 + k) / 16) + n) % 16 ≡ n = omega arith in
    get_or-swz_l_below w8 16 c.four_windows.result 0 c.args.numbers k
    (omega (arith, c.requires.numbers)) below
    ∙ rw (block, lane) at (c.four_windows.ensures.windows (16 * ((0 + k) / 16) + n) place)
