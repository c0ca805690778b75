use Rattle.std.proofs.Common.{◌≡◌, ℕ, ◌+◌, ◌-◌, ◌<◌, ◌∙◌, List, length, get_or, sym, arith}
use Rattle.std.specs.Prelude.{bit_xor}
use Rattle.std.specs.Simd.Lanes.{zip2}
use Rattle.std.proofs.Math.Path.{ap₂}
use Rattle.std.proofs.lemmas.Simd.{get_or-zip2, length-zip2}
use Rattle.lane_correlator.proofs.PlaceTableLemmas.{masked_from, none_before}
use Rattle.lane_correlator.proofs.wiped.mask_of_places.Goals as goal

pub returns-clause-long : goal.returns-clause-long
returns-clause-long c = length-zip2 bit_xor c.from_place.result c.from_place-2.result
    (c.from_place.ensures.long ∙ sym c.from_place-2.ensures.long) ∙ c.from_place.ensures.long

both : (xs ys : List ℕ) (k a b : ℕ) → length xs ≡ 64 → length ys ≡ 64 → k < 64 → get_or xs k 0 ≡ a
    → get_or ys k 0 ≡ b → get_or (zip2 bit_xor xs ys) k 0 ≡ bit_xor a b
both xs ys k a b hx hy h is_a is_b =
    get_or-zip2 bit_xor xs ys k 0 0 0 (omega (arith, hx)) (omega (arith, hy))
    ∙ ap₂ bit_xor is_a is_b

pub returns-clause-inside : goal.returns-clause-inside
returns-clause-inside c j from below =
    let k : ℕ = 63 - j in
    let in_word : k < 64 = omega arith in
    both c.from_place.result c.from_place-2.result k 255 0 c.from_place.ensures.long
    c.from_place-2.ensures.long in_word
    (c.from_place.ensures.masks k in_word
    ∙ masked_from (c.args.first + k) (omega (arith, from, below, c.requires.end)))
    (c.from_place-2.ensures.masks k in_word
    ∙ none_before (c.args.end + k) (omega (arith, below, c.requires.end))
    (omega (arith, below, c.requires.end)))

pub returns-clause-before : goal.returns-clause-before
returns-clause-before c j below room =
    let k : ℕ = 63 - j in
    let in_word : k < 64 = omega arith in
    both c.from_place.result c.from_place-2.result k 0 0 c.from_place.ensures.long
    c.from_place-2.ensures.long in_word
    (c.from_place.ensures.masks k in_word
    ∙ none_before (c.args.first + k) (omega (arith, below))
    (omega (arith, room, below, c.requires.end, c.requires.ordered)))
    (c.from_place-2.ensures.masks k in_word
    ∙ none_before (c.args.end + k) (omega (arith, below, c.requires.ordered))
    (omega (arith, room, c.requires.end)))

pub returns-clause-behind : goal.returns-clause-behind
returns-clause-behind c j from room =
    let k : ℕ = 63 - j in
    let in_word : k < 64 = omega arith in
    both c.from_place.result c.from_place-2.result k 255 255 c.from_place.ensures.long
    c.from_place-2.ensures.long in_word
    (c.from_place.ensures.masks k in_word
    ∙ masked_from (c.args.first + k) (omega (arith, from, room, c.requires.ordered)))
    (c.from_place-2.ensures.masks k in_word
    ∙ masked_from (c.args.end + k) (omega (arith, from, room)))
