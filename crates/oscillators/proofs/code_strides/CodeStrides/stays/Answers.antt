use Rattle.std.proofs.Common.{rules, ◌≤◌, ◌<◌, ◌/◌, ℤ, pos, get_or, ap, arith, refl, w16}
use Rattle.std.specs.Prelude.{◌-ℤ◌}
use Rattle.std.proofs.lemmas.Int.{to_z_pos}
use Rattle.std.proofs.lemmas.Simd.{Each1-from_get_or}
use Rattle.oscillators.proofs.CarryLemmas.{all_or_none}
use Rattle.oscillators.proofs.StayLemmas.{stays_lane, rooms_of}
use Rattle.oscillators.proofs.code_strides.CodeStrides.stays.Goals as goal

pub overflow_cast-left : goal.overflow_cast-left
overflow_cast-left c =
    Each1-from_get_or _ c.carries.result 0 (λ k h.
    let few : get_or c.carries.result k 0 ≤ 1 =
    c.carries.ensures.few k (omega (arith, h, c.carries.ensures.long)) in
    search (rules, few))

pub overflow_cast-result-2 : goal.overflow_cast-result-2
overflow_cast-result-2 c = all_or_none _ 255 (search rules) (search rules) _ 64

pub returns-clause-stays : goal.returns-clause-stays
returns-clause-stays c step is k h =
    let s = c.args.self.now in
    let upper : c.args.part / 65536 < 32768 = omega (arith, c.requires) in
    stays_lane _ s.room_high c.carries.result s.lanes.0 c.carries.ensures.long s step c.args.part
    refl is c.requires (ap (λ (z : ℤ). z -ℤ pos 1) (to_z_pos w16 (c.args.part / 65536) upper))
    (λ j below. c.carries.ensures.carried _ (rooms_of s step s.lanes.1 is) j below) k h
