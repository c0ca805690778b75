use Rattle.std.proofs.Common.{◌≡◌, ℕ, ◌+◌, ◌*◌, ◌/◌, ◌%◌, ◌<◌, ◌∙◌, get_or, refl, ap, arith, w8}
use Rattle.std.proofs.lemmas.Simd.{SwzOk-from_below, Each1-from_get_or, length-swz_l}
use Rattle.std.proofs.lemmas.Simd.{get_or-swz_l_below, swz_l}
use Rattle.lane_correlator.specs.Bytes.{signed_byte}
use Rattle.lane_correlator.proofs.wiped.products.Goals as goal

pub swizzle : goal.swizzle
swizzle c = SwzOk-from_below w8 16 4 64 0 c.args.at refl (omega (arith, c.requires.at.long))
    (Each1-from_get_or (λ (j : ℕ). j < 16) c.args.at 0
    (λ i h. c.requires.at.few i (omega (arith, c.requires.at.long, h))))

pub returns-clause-long : goal.returns-clause-long
returns-clause-long c = length-swz_l w8 16 c.args.table 0 c.args.at ∙ c.requires.at.long

pub returns-clause-found : goal.returns-clause-found
returns-clause-found c f of = record {
  values = λ k h. value k h;
  small = λ k h. rw (value k h) (of.small (get_or c.args.at k 0) (c.requires.at.few k h));
}
  where
    value : (k : ℕ) → k < 64 → signed_byte (get_or (swz_l w8 16 c.args.table 0 c.args.at) k 0)
        ≡ f (get_or c.args.at k 0)
    value k h =
        let n : ℕ = get_or c.args.at k 0 in
        let few : n < 16 = c.requires.at.few k h in
        let place : 16 * ((0 + k) / 16) + n < 64 = omega arith in
        let again : (16 * ((0 + k) / 16) + n) % 16 ≡ n = omega arith in
        ap signed_byte (get_or-swz_l_below w8 16 c.args.table 0 c.args.at k
        (omega (arith, c.requires.at.long)) few)
        ∙ rw again at (of.entries (16 * ((0 + k) / 16) + n) place)
